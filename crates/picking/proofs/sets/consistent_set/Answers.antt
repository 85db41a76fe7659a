-- Arm by arm the operator's set, brought to the spot.
use Rattle.std.proofs.Common.{refl, le_of_eq, le_refl, arith}
use lib.Bits.{and_comm, xor_comm}
use Rattle.picking.proofs.ArithmeticLaws.{product_comm}
use Rattle.picking.proofs.ComparisonLaws.{equal_comm}
use Rattle.picking.proofs.IfLaws.{if_reach}
use Rattle.picking.specs.laws.Fair.{rule_at, slot_at, count_at}
use Rattle.picking.proofs.SpotLaws.{arm_one, reach_one, reach_add, both_reach, wide_reach, equal_reach, side_reach, alike_some}
use Rattle.picking.proofs.sets.consistent_set.Goals as goal

pub returns-in-2 : goal.returns-in-2
returns-in-2 c =
    let k = c.in-2.is in
    reach_one c.requires (count_at c.requires.fair k) (arm_one c.requires k refl (le_of_eq (rule_at c.requires.fair k)) c.inverse_not.ensures)

pub returns-in-3 : goal.returns-in-3
returns-in-3 c = wide_reach c.requires c.in-3.is refl refl c.other_pair.ensures.lo c.other_pair.ensures.hi (alike_some and_comm c.args.i c.consistent_and.ensures)

pub returns-in-4 : goal.returns-in-4
returns-in-4 c = wide_reach c.requires c.in-4.is refl refl c.other_pair-in-4.ensures.lo c.other_pair-in-4.ensures.hi (alike_some xor_comm c.args.i c.consistent_xor.ensures)

pub returns-in-5 : goal.returns-in-5
returns-in-5 c =
    reach_add c.requires c.in-5.is c.all.ensures

pub returns-in-6 : goal.returns-in-6
returns-in-6 c =
    both_reach c.requires c.in-6.is refl refl (alike_some (product_comm c.args.s.width) c.args.i c.consistent_mul.ensures)

pub returns-in-7 : goal.returns-in-7
returns-in-7 c =
    both_reach c.requires c.in-7.is refl refl c.consistent_shl.ensures

pub returns-in-8 : goal.returns-in-8
returns-in-8 c =
    both_reach c.requires c.in-8.is refl refl c.consistent_lshr.ensures

pub returns-in-9 : goal.returns-in-9
returns-in-9 c = wide_reach c.requires c.in-9.is refl refl c.other_pair-in-9.ensures.lo c.other_pair-in-9.ensures.hi (alike_some equal_comm c.args.i c.consistent_eq.ensures)

pub returns-in-10 : goal.returns-in-10
returns-in-10 c = wide_reach c.requires c.in-10.is refl refl c.other_pair-in-10.ensures.lo c.other_pair-in-10.ensures.hi c.consistent_below.ensures

pub returns-in-11 : goal.returns-in-11
returns-in-11 c =
    if_reach c.requires c.in-11.is c.consistent_if.ensures

pub returns-in-12 : goal.returns-in-12
returns-in-12 c =
    side_reach c.requires c.in-12.is refl refl c.other_pair-in-12.ensures.lo c.other_pair-in-12.ensures.hi c.consistent_concat.ensures

pub returns-in-13 : goal.returns-in-13
returns-in-13 c =
    let k = c.in-13.is in
    reach_one c.requires (count_at c.requires.fair k) (arm_one c.requires k refl (slot_at c.requires.fair k 0 (omega arith)).wide c.inverse_extract.ensures)

pub returns-in-14 : goal.returns-in-14
returns-in-14 c =
    equal_reach c.requires c.in-14.is refl refl c.other_pair-in-14.ensures.lo c.other_pair-in-14.ensures.hi c.consistent_slt.ensures

pub returns-in-15 : goal.returns-in-15
returns-in-15 c =
    both_reach c.requires c.in-15.is refl refl c.consistent_ashr.ensures

pub returns-in-16 : goal.returns-in-16
returns-in-16 c =
    let k = c.in-16.is in
    reach_one c.requires (count_at c.requires.fair k) (arm_one c.requires k refl (le_refl _) c.inverse_sext.ensures)

pub returns-in-17 : goal.returns-in-17
returns-in-17 c =
    both_reach c.requires c.in-17.is refl refl c.consistent_udiv.ensures
