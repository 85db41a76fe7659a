-- `walumpeh::picks::wal_pick` meets its contract.
use Rattle.std.proofs.Common.{sym, arith}
use borrow.Author.Tests.{eqb-true, eqb-false}
use Rattle.walumpeh.proofs.Answers.{nothing_code, found_code}
use Rattle.words.specs.laws.Decides.{decides_yes, decides_no}
use Rattle.walumpeh.specs.Calls.{PickCode.no_place, PickCode.refused}
use Rattle.walumpeh.proofs.picks.wal_pick.Goals as goal

pub returns-then-is_empty : goal.returns-then-is_empty
returns-then-is_empty c = no_place (eqb-true _ _ (sym c.if-is_empty.ensures))

pub returns-then-not-is_offered : goal.returns-then-not-is_offered
returns-then-not-is_offered c =
    refused (omega (arith, eqb-false _ _ (sym c.if-is_empty.ensures)))
    (rw c.spot-spot.ensures at (decides_no _ _ c.is_offered.ensures c.if-not-is_offered.true))

pub returns-in_default : goal.returns-in_default
returns-in_default c =
    nothing_code _ _ c.spot-spot.ensures _ _ (decides_yes _ _ c.is_offered.ensures c.if-not-is_offered.false) _ c.args.which _
    (eqb-false _ _ (sym c.if-is_empty.ensures)) _ c.picked.ensures c.in_default.is

pub returns : goal.returns
returns c =
    found_code _ _ c.spot-spot.ensures _ _ (decides_yes _ _ c.is_offered.ensures c.if-not-is_offered.false) _ c.args.which _
    (eqb-false _ _ (sym c.if-is_empty.ensures)) _ c.picked.ensures _ c.in-Some.is
