-- The three exits are the three laws of proofs/First: p itself, nothing, the raised word.
use Rattle.std.proofs.Common.{rules}
use Rattle.words.proofs.First.{here, nothing, risen, risen_place}
use Rattle.words.specs.laws.Agree.{agrees_lt}
use Rattle.words.proofs.ternary.first_agreeing.Goals as goal

pub returns-then-clash-eq0 : goal.returns-then-clash-eq0
returns-then-clash-eq0 c = here _ _ _ _ _ c.and_not.ensures c.and_not-2.ensures c.if-clash-eq0.true

pub returns-then-room-eq0 : goal.returns-then-room-eq0
returns-then-room-eq0 c = nothing _ _ _ _ _ _ _ c.args.word.within c.and_not.ensures c.and_not-2.ensures c.top_bit-j.ensures c.and_not-room.ensures c.if-room-eq0.true

pub raise-requires : goal.raise-requires
raise-requires c =
    let place = risen_place _ _ _ _ _ _ _ c.args.word.within c.and_not.ensures c.and_not-2.ensures c.top_bit-j.ensures c.and_not-room.ensures _ c.low_bit.ensures (search rules) in
    let least = risen _ _ _ _ _ _ _ c.args.word.within c.and_not.ensures c.and_not-2.ensures c.top_bit-j.ensures c.and_not-room.ensures _ c.low_bit.ensures in
    (place, agrees_lt 64 (search rules) least.member)

pub returns : goal.returns
returns c =
    rw c.raise.ensures (risen _ _ _ _ _ _ _ c.args.word.within c.and_not.ensures c.and_not-2.ensures c.top_bit-j.ensures c.and_not-room.ensures _ c.low_bit.ensures)
