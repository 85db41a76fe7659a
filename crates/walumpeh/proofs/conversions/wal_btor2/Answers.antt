-- The conversion's answer, told by two numbers.
use Rattle.std.proofs.Common.{sym, arith}
use borrow.Author.Tests.{eqb-true, eqb-false}
use Rattle.walumpeh.specs.Conversions.{ConversionCode.no_room, ConversionCode.told}
use Rattle.walumpeh.proofs.conversions.wal_btor2.Goals as goal

pub returns-then-is_empty : goal.returns-then-is_empty
returns-then-is_empty c = no_room (let e = eqb-true _ _ (sym c.if-is_empty.ensures) in omega arith)

pub returns : goal.returns
returns c =
    rw (c.converted_code.ensures, c.length_number.ensures)
    (told (omega (arith, eqb-false _ _ (sym c.if-is_empty.ensures))) c.convert-answer.ensures)
