-- Arm by arm the operator's set, brought to the spot.
use Rattle.std.proofs.Common.{refl, arith, rules}
use lib.Bits.{and_comm, xor_comm}
use Rattle.picking.proofs.ComparisonLaws.{equal_comm}
use Rattle.picking.specs.laws.Fair.{slot_at, place}
use Rattle.picking.proofs.SpotLaws.{both_lt, flag_target, joined_at, short_at, wide_arm, equal_lt, equal_arm, side_lt, alike_by}
use Rattle.picking.proofs.sets.inverse_set.Goals as goal

pub inverse_mul-requires : goal.inverse_mul-requires
inverse_mul-requires c =
    (search rules, both_lt c.requires c.in-6.is refl c.other-y.ensures)

pub inverse_shl-requires : goal.inverse_shl-requires
inverse_shl-requires c =
    (place c.requires c.in-7.is, search rules, both_lt c.requires c.in-7.is refl c.other-y.ensures)

pub inverse_concat-requires : goal.inverse_concat-requires
inverse_concat-requires c =
    (joined_at c.requires c.in-12.is, side_lt c.requires c.in-12.is refl c.other-y.ensures)

pub inverse_slt-requires : goal.inverse_slt-requires
inverse_slt-requires c =
    let k = c.in-14.is in
    let slot = slot_at c.requires.fair k 0 (omega arith) in
    (place c.requires k, record { some = slot.some; wide = slot.wide; fits = equal_lt c.requires k refl c.other-y.ensures }, flag_target c.requires k refl)

pub inverse_ashr-requires : goal.inverse_ashr-requires
inverse_ashr-requires c =
    let k = c.in-15.is in
    (place c.requires k, record { some = c.requires.fair.some; wide = c.requires.fair.wide; fits = both_lt c.requires k refl c.other-y.ensures }, c.requires.target)

pub inverse_udiv-requires : goal.inverse_udiv-requires
inverse_udiv-requires c =
    let k = c.in-17.is in
    (place c.requires k, short_at c.requires k, both_lt c.requires k refl c.other-y.ensures)

pub returns-in-3 : goal.returns-in-3
returns-in-3 c =
    wide_arm c.requires c.in-3.is refl c.other-y.ensures (alike_by and_comm c.args.i c.inverse_and.ensures)

pub returns-in-4 : goal.returns-in-4
returns-in-4 c =
    wide_arm c.requires c.in-4.is refl c.other-y.ensures (alike_by xor_comm c.args.i c.inverse_xor.ensures)

pub returns-in-8 : goal.returns-in-8
returns-in-8 c =
    wide_arm c.requires c.in-8.is refl c.other-y.ensures c.inverse_lshr.ensures

pub returns-in-9 : goal.returns-in-9
returns-in-9 c =
    wide_arm c.requires c.in-9.is refl c.other-y.ensures (alike_by equal_comm c.args.i c.inverse_eq.ensures)

pub returns-in-10 : goal.returns-in-10
returns-in-10 c =
    wide_arm c.requires c.in-10.is refl c.other-y.ensures c.inverse_below.ensures

pub returns-in-14 : goal.returns-in-14
returns-in-14 c =
    equal_arm c.requires c.in-14.is refl c.other-y.ensures c.inverse_slt.ensures
