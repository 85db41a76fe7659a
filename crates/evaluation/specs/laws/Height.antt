-- H, the longest chain of operand links under any root: of an accepted problem there is exactly one such number, and it can be
-- computed.
use Rattle.std.specs.Prelude.{◌≡◌, ltb}
use Rattle.std.proofs.Common.{sym, subst, arith, not-suc-le-zero, lt-suc_self, le_antisymm}
use Prim.Native.Nat.{ℕ, zero, suc, ◌≤◌, ◌<◌, max}
use Rattle.std.proofs.Math.Decide.{ℕ_discrete, dec_le}
use Rattle.nodes.specs.Problem.{one_of, Prob, count, arg}
use Rattle.evaluation.specs.Height.{Chain, Chain.ends, Chain.link, Longest}
use Rattle.nodes.specs.inner.Good.{Good}
use Rattle.evaluation.specs.laws.Decide.{Some}

-- the greatest of f below n, 0 if there is none
unfoldable pub greatest : (ℕ → ℕ) → ℕ → ℕ
greatest f zero = 0
greatest f (suc n) = max (greatest f n) (f n)

le_greatest : (f : ℕ → ℕ) (n i : ℕ) → i < n → f i ≤ greatest f n
unfolding greatest
le_greatest f zero i h = absurd (not-suc-le-zero h)
le_greatest f (suc n) i h = elim (ℕ_discrete i n) [ yes e ↦ rw e (omega arith) | no x ↦ omega (arith, le_greatest f n i (omega arith)) ]

is_greatest : (f : ℕ → ℕ) (n : ℕ) → 0 < greatest f n → Some (λ i. f i ≡ greatest f n) n
unfolding greatest
is_greatest f zero h = absurd (not-suc-le-zero h)
is_greatest f (suc n) h =
    elim (dec_le (greatest f n) (f n)) [
      | yes l ↦ record { at = n; at_lt = lt-suc_self n; holds = omega arith }
      | no x ↦ let s = is_greatest f n (omega arith) in record { at = s.at; at_lt = omega (arith, s.at_lt); holds = omega (arith, s.holds) }
    ]

-- what stands at up to three positions, 0 past them: the greatest of them
pub greatest_of_three :
    (c : ℕ) (f : ℕ → ℕ)
    → c ≤ 3
    → max (one_of (ltb 0 c) (f 0) 0) (max (one_of (ltb 1 c) (f 1) 0) (one_of (ltb 2 c) (f 2) 0)) ≡ greatest f c
unfolding greatest
greatest_of_three zero f l = omega arith
greatest_of_three (suc zero) f l = omega arith
greatest_of_three (suc (suc zero)) f l = omega arith
greatest_of_three (suc (suc (suc zero))) f l = omega arith
greatest_of_three (suc (suc (suc (suc c)))) f l = absurd (omega arith)

-- h is the longest chain of operand links from node n down
pub record Height (P : Prob) (n h : ℕ) : Type 0 where
  pub reached : Chain P n h
  pub none_longer : (k : ℕ) → Chain P n k → k ≤ h

module _ (P : Prob) where
  -- from a node it is one link more than the longest from an operand
  module _ (n : ℕ) (f : ℕ → ℕ) (h : (i : ℕ) → i < count P n → Height P (arg P n i) (f i)) where
    abbrev over : ℕ
    over = greatest (λ i. suc (f i)) (count P n)

    over_reached : Chain P n over
    over_reached =
        elim (ℕ_discrete over 0) [
          | yes z ↦ subst (Chain P n) (sym z) ends
          | no x ↦
              let s = is_greatest (λ i. suc (f i)) (count P n) (omega arith) in
              subst (Chain P n) s.holds (link s.at_lt (h s.at s.at_lt).reached)
        ]

  over_most :
      {n k : ℕ} (f : ℕ → ℕ)
      → ((i : ℕ) → i < count P n → Height P (arg P n i) (f i))
      → Chain P n k
      → k ≤ greatest (λ i. suc (f i)) (count P n)
  over_most f h ends = omega arith
  over_most {n} f h (link {i = i} {k = k} b c) =
      omega (arith, (h i b).none_longer k c, le_greatest (λ i. suc (f i)) (count P n) i b)

  pub height_over :
      (n : ℕ) (f : ℕ → ℕ)
      → ((i : ℕ) → i < count P n → Height P (arg P n i) (f i))
      → Height P n (greatest (λ i. suc (f i)) (count P n))
  height_over n f h = record { reached = over_reached n f h; none_longer = λ k c. over_most f h c }

  -- and H is the greatest of the roots'
  pub longest_over :
      (f : ℕ → ℕ) → ((j : ℕ) → j < P.entries → Height P (P.root j) (f j)) → Longest P (greatest f P.entries)
  longest_over f h =
      record {
        reached =
            λ p.
            let s = is_greatest f P.entries p in
            record { entry = s.at; entry_lt = s.at_lt; chain = subst (Chain P _) s.holds (h s.at s.at_lt).reached };
        none_longer =
            λ k u. omega (arith, (h u.entry u.entry_lt).none_longer k u.chain, le_greatest f P.entries u.entry u.entry_lt);
      }

  -- the longest from node n, of at most f links; the longest under any root
  unfoldable pub height : ℕ → ℕ → ℕ
  height zero n = 0
  height (suc f) n = greatest (λ i. suc (height f (arg P n i))) (count P n)

  unfoldable pub longest : ℕ
  longest = greatest (λ j. height P.nodes (P.root j)) P.entries

  module _ (g : Good P) where
    height_is : (f n : ℕ) → n < f → n < P.nodes → Height P n (height f n)
    unfolding height
    height_is zero n h l = absurd (not-suc-le-zero h)
    height_is (suc f) n h l =
        height_over n (λ i. height f (arg P n i))
        (λ i b. let d : arg P n i < n = (g.node n l).below i b in height_is f (arg P n i) (omega arith) (omega arith))

    -- there is such a number
    pub longest_is : Longest P longest
    unfolding longest
    longest_is =
        longest_over (λ j. height P.nodes (P.root j))
        (λ j b. let l : P.root j < P.nodes = g.root_below j b in height_is P.nodes (P.root j) l l)

    -- a chain has fewer links than there are nodes
    chain_short : {n k : ℕ} → n < P.nodes → Chain P n k → k ≤ n
    chain_short l ends = omega arith
    chain_short {n} l (link {i = i} b c) =
        let d : arg P n i < n = (g.node n l).below i b in omega (arith, chain_short (omega arith) c)

    pub height_short : {n h : ℕ} → n < P.nodes → Height P n h → h < 1024
    height_short l t = omega (arith, chain_short l t.reached, g.few)

    pub longest_short : {H : ℕ} → Longest P H → H < 1024
    longest_short {H} t =
        elim (ℕ_discrete H 0) [
          | yes z ↦ omega arith
          | no x ↦
              let u = t.reached (omega arith) in
              let l : P.root u.entry < P.nodes = g.root_below u.entry u.entry_lt in
              omega (arith, chain_short l u.chain, g.few)
        ]

-- one at most
at_most : {P : Prob} {h h' : ℕ} → Longest P h → Longest P h' → h ≤ h'
at_most {h = h} l l' = elim (ℕ_discrete h 0) [ yes e ↦ omega arith | no x ↦ l'.none_longer h (l.reached (omega arith)) ]

pub longest_unique : {P : Prob} {h h' : ℕ} → Longest P h → Longest P h' → h ≡ h'
longest_unique l l' = le_antisymm (at_most l l') (at_most l' l)
