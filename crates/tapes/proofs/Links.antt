-- Heights: what the code reads and fills in, and that they are the longest chains.
use Rattle.std.proofs.Common.{◌≡◌, refl, ◌∙◌, List, ℕ, suc, ◌+◌, ◌*◌, ◌≤◌, ◌<◌, max, length, get_or, set, arith, add-one, mul-le-mul}
use Rattle.std.proofs.Math.Decide.{ℕ_discrete}
use Rattle.std.proofs.Math.Seq.{get_or-set_same, get_or-set_other}
use Rattle.operators.specs.Table.{shape_of}
use Rattle.problem.specs.declared.layout.Node.{Node}
use Rattle.problem.specs.Layout.{node_at, root_at}
use Rattle.problem.specs.Refusals.{Accepted, checked}
use Rattle.picking.specs.Spot.{at}
use Rattle.nodes.specs.Problem.{Prob, problem, count, arg}
use Rattle.evaluation.specs.Height.{Longest}
use Rattle.nodes.specs.inner.Good.{Good}
use Rattle.nodes.specs.laws.Good.{good_of}
use Rattle.evaluation.specs.laws.Height.{greatest, Height, height_over, height_short, longest_over, longest_short}
use Rattle.nodes.specs.inner.Nodes.{ids}
use Rattle.tapes.specs.inner.Heights.{Heights}

-- the greatest of one link more than the heights of node i's first j operands
unfoldable pub above : List ℕ → List ℕ → ℕ → ℕ → ℕ
above s hs i j = greatest (λ k. suc (get_or hs (arg (problem s) i k) 0)) j

pub above_none : (s hs : List ℕ) (i : ℕ) → 0 ≡ above s hs i 0
unfolding above greatest
above_none s hs i = refl

pub above_more :
    (s hs : List ℕ) (i j m r : ℕ) (n : Node)
    → m ≡ above s hs i j
    → n ≡ node_at s i
    → r ≡ max m (get_or hs (at (ids n) j) 0 + 1)
    → r ≡ above s hs i (j + 1)
unfolding above greatest problem
above_more s hs i j m r n em en er = rw add-one (er ∙ rw (em, en, add-one))

module _ (s hs : List ℕ) (i : ℕ) (a : checked s ≡ Accepted) (t : Heights s hs i) (l : i < (problem s).nodes) where
  abbrev P : Prob
  P = problem s

  good : Good P
  good = good_of s a

  below : (j : ℕ) → j < count P i → Height P (arg P i j) (get_or hs (arg P i j) 0)
  below j b = t (arg P i j) ((good.node i l).below j b)

  -- an operand's height stands in the list, and one link more fits
  pub operand_there :
      (n : Node) (c j m : ℕ) → n ≡ node_at s i → c ≡ (shape_of n.kind).operands → j < c → m ≡ at (ids n) j → (m < 1024) × (get_or hs m 0 < 1024)
  unfolding problem
  operand_there n c j m en ec h e =
      let b : j < count P i = rw en at (rw ec at h) in
      let d : arg P i j < i = (good.node i l).below j b in
      rw (e, en) (omega (arith, d, l, good.few), height_short P good (omega (arith, d, l)) (below j b))

  -- the greatest of all is the node's height
  pub height_made : (n : Node) (c m : ℕ) → n ≡ node_at s i → c ≡ (shape_of n.kind).operands → m ≡ above s hs i c → Height P i m
  unfolding above problem
  height_made n c m en ec e = rw (e, ec, en) (height_over P i (λ j. get_or hs (arg P i j) 0) below)

-- one more is filled in
pub node_few : (s : List ℕ) (i : ℕ) → checked s ≡ Accepted → i < (problem s).nodes → i < 1024
node_few s i a l = omega (arith, l, (good_of s a).few)

pub heights_more :
    (s hs : List ℕ) (i h : ℕ) → i < length hs → Heights s hs i → Height (problem s) i h → Heights s (set hs i h) (i + 1)
heights_more s hs i h long t k n b =
    elim (ℕ_discrete n i) [
      | yes e ↦ rw (e, get_or-set_same hs i h 0 long) k
      | no x ↦ rw (get_or-set_other hs i n h 0 x) (t n (omega arith))
    ]

-- ---- the greatest, root by root

-- the greatest height of the first j roots
unfoldable pub tallest : List ℕ → List ℕ → ℕ → ℕ
tallest s hs j = greatest (λ k. get_or hs ((problem s).root k) 0) j

pub tallest_none : (s hs : List ℕ) → 0 ≡ tallest s hs 0
unfolding greatest tallest
tallest_none s hs = refl

pub tallest_more :
    (s hs : List ℕ) (j m x r : ℕ) → m ≡ tallest s hs j → x ≡ root_at s j → r ≡ max m (get_or hs x 0) → r ≡ tallest s hs (j + 1)
unfolding greatest tallest problem
tallest_more s hs j m x r em ex er = rw add-one (er ∙ rw (em, ex))

pub heights_longest :
    (s hs : List ℕ) → checked s ≡ Accepted → Heights s hs (problem s).nodes → (m : ℕ) → m ≡ tallest s hs (problem s).entries → Longest (problem s) m
unfolding tallest
heights_longest s hs a t m h =
    let g : Good (problem s) = good_of s a in
    rw h (longest_over (problem s) (λ k. get_or hs ((problem s).root k) 0) (λ k b. t ((problem s).root k) (g.root_below k b)))

-- H is below 1,024, and the words for a budget fit
pub chain_short : (s : List ℕ) (h : ℕ) → checked s ≡ Accepted → Longest (problem s) h → h < 1024
chain_short s h a l = longest_short _ (good_of s a) l

pub words_fit : (b h : ℕ) → b < 65536 → h < 1024 → b * (1 + 2 * h) < 18446744073709551616
words_fit b h p q =
    let x : b ≤ 65535 = omega arith in
    let y : 1 + 2 * h ≤ 2047 = omega arith in
    omega (arith, mul-le-mul x y)
