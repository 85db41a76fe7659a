-- An accepted problem is good: what the problem check found, said of the problem as the run sees it.
use Rattle.std.specs.Prelude.{◌≡◌, List}
use Prim.Native.Nat.{ℕ, zero, suc, ◌<◌}
use Rattle.std.proofs.Common.{arith}
use Rattle.operators.specs.declared.table.Rule.{Rule}
use Rattle.operators.specs.declared.table.Rule.TheVariants.{Free, One, Both, Equal, Choice, Sum, Part, Longer, Narrow}
use Rattle.operators.specs.Table.{kind_of, shape_of, RuleMet}
use Rattle.operators.specs.laws.Meaning.{takes, takes_is}
use Rattle.picking.specs.declared.spot.Three.{Three}
use Rattle.problem.specs.Layout.{node_count, node_at, width_at}
use Rattle.problem.specs.Refusals.{Accepted, checked}
use Rattle.problem.specs.inner.Facts.{NodeFacts, Facts}
use Rattle.problem.specs.laws.Facts.{accepted_facts}
use Rattle.nodes.specs.Problem.{problem, three, count, arg}
use Rattle.nodes.specs.inner.Good.{Good, GoodNode, widths_of}

-- a width rule speaks of the widths of as many operands as its kinds have; the others do not bear
rule_first :
    (r : Rule) (w b : ℕ) (f : ℕ → ℕ)
    → RuleMet r w (f 0) (f 1) (f 2) b
    → RuleMet r w (three (takes r) f).a (three (takes r) f).b (three (takes r) f).c b
unfolding three
rule_first Free w b f h = h
rule_first One w b f h = h
rule_first Both w b f h = h
rule_first Equal w b f h = h
rule_first Choice w b f h = h
rule_first Sum w b f h = h
rule_first Part w b f h = h
rule_first Longer w b f h = h
rule_first Narrow w b f h = h

module _ (s : List ℕ) (F : Facts s) (n : ℕ) (l : n < node_count s) where
  here : NodeFacts (node_at s n) n (width_at s (node_at s n).a) (width_at s (node_at s n).b) (width_at s (node_at s n).c)
  here = F.node n l

  below : (i : ℕ) → i < count (problem s) n → arg (problem s) n i < n
  unfolding problem
  below zero h = here.a_below h
  below (suc zero) h = here.b_below h
  below (suc (suc i)) h = here.c_below (omega arith)

  abbrev widths : Three
  widths = widths_of (problem s) n

  rule_here : RuleMet (shape_of (node_at s n).kind).rule (node_at s n).width widths.a widths.b widths.c (node_at s n).b
  unfolding problem width_at
  rule_here =
      rw (takes_is (kind_of (node_at s n).kind)) at
      (rule_first (shape_of (node_at s n).kind).rule (node_at s n).width (node_at s n).b
      (λ i. (node_at s (arg (problem s) n i)).width) here.rule)

  good_node : GoodNode (problem s) n
  unfolding problem
  good_node =
      record {
        known = here.kind_known;
        some = here.width_some;
        wide = here.width_most;
        below = below;
        rule = rule_here;
        ordered = λ k. here.lo_inside (omega arith);
        under = λ k. here.hi_fits (omega arith);
        same = here.constant_fixed;
      }

pub good_of : (s : List ℕ) → checked s ≡ Accepted → Good (problem s)
unfolding problem width_at
good_of s e =
    let F : Facts s = accepted_facts s e in
    record {
      few = F.header.nodes;
      few_roots = F.header.roots;
      node = λ n l. good_node s F n l;
      root_below = F.root_below;
      root_bit = F.root_bit;
    }
