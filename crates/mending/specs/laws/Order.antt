-- Laws of the order: each old id that is placed gets one new id, keeps it, and has its operands placed before.
use Rattle.std.specs.Prelude.{◌≡◌, Bool, cond, ◌&&◌, ◌||◌, List, [], ◌∷◌, leb, eqb, length, get_or, set, replicate}
use Rattle.std.proofs.Math.Path.{refl, ap}
use Rattle.std.proofs.Common.{sym, ◌∙◌, not-suc-le-zero, le_refl, get_or-set_same, get_or-set_other}
use Rattle.std.proofs.Math.Bool.{true, false, not, true≢false}
use Rattle.std.proofs.lemmas.Bool.{false≢true}
use Prim.Native.Nat.{ℕ, zero, suc, ◌+◌, ◌≤◌, ◌<◌}
use Rattle.std.proofs.Math.Decide.{ℕ_discrete, dec_lt}
use native.Mathlib.Omega.{arith}
use Rattle.std.proofs.Math.ListN.{length-set, length-replicate, get_or-eq_default}
use Rattle.std.proofs.lemmas.List.{get_or-replicate}
use Rattle.std.proofs.Math.Seq.{set_out}
use borrow.Author.Tests.{le-leb, lt-leb, eqb-true, eq-eqb, ne_eqb, not-false}
use Rattle.problem.specs.declared.layout.Node.{Node}
use Rattle.problem.specs.Layout.{node_count, node_at}
use Rattle.mending.specs.Order.{operands_of, field, none, placed, met, ready, lowest_ready, numbers, old, new, never_placed}
use Rattle.mending.specs.inner.Order.{Met, AllPlaced}
use Rattle.mending.specs.laws.Least.{Least, least_is}

-- ---- the tests

both : (a b : Bool) → (a && b) ≡ true → (a ≡ true) × (b ≡ true)
both true b h = (refl, h)
both false b h = absurd (false≢true h)

of_both : {a b : Bool} → a ≡ true → b ≡ true → (a && b) ≡ true
of_both h k = rw (h, k)

not_true : {a : Bool} → not a ≡ true → a ≡ false
not_true {a = true} h = sym h
not_true {a = false} h = refl

module _ (l : List ℕ) (i : ℕ) where
  pub placed_some : placed l i ≡ true → get_or l i 0 ≡ none → ⊥
  unfolding placed
  placed_some h e = true≢false (sym h ∙ ap not (eq-eqb _ _ e))

  pub placed_none : placed l i ≡ false → get_or l i 0 ≡ none
  unfolding placed
  placed_none h = eqb-true _ _ (not-false _ h)

  pub is_placed : (get_or l i 0 ≡ none → ⊥) → placed l i ≡ true
  unfolding placed
  is_placed h = ap not (ne_eqb _ _ h)

  pub not_placed : get_or l i 0 ≡ none → placed l i ≡ false
  unfolding placed
  not_placed h = ap not (eq-eqb _ _ h)

guarded : (k p : ℕ) {t : Bool} → (leb k p || t) ≡ true → p < k → t ≡ true
guarded k p h l = rw (lt-leb k p l) at h

guard : (k p : ℕ) (t : Bool) → (p < k → t ≡ true) → (leb k p || t) ≡ true
guard k p t h = elim (dec_lt p k) [ yes l ↦ rw (lt-leb k p l) (h l) | no x ↦ let m : k ≤ p = omega arith in rw (le-leb k p m) ]

all_three : (a b c : Bool) → (a && b && c) ≡ true → (a ≡ true) × (b ≡ true) × (c ≡ true)
all_three true true c h = (refl, refl, h)
all_three true false c h = absurd (false≢true h)
all_three false b c h = absurd (false≢true h)

module _ (l : List ℕ) (n : Node) where
  abbrev at : ℕ → Bool
  at p = leb (operands_of n) p || placed l (field n p)

  pub met_facts : met l n ≡ true → Met l n
  unfolding met Met
  met_facts h zero b = guarded (operands_of n) 0 (all_three (at 0) (at 1) (at 2) h).0 b
  met_facts h (suc zero) b = guarded (operands_of n) 1 (all_three (at 0) (at 1) (at 2) h).1 b
  met_facts h (suc (suc p)) b = guarded (operands_of n) 2 (all_three (at 0) (at 1) (at 2) h).2 (omega arith)

  pub facts_met : Met l n → met l n ≡ true
  unfolding met Met
  facts_met h = of_both (of_both (guard _ 0 _ (h 0)) (guard _ 1 _ (h 1))) (guard _ 2 _ (h 2))

module _ (s l : List ℕ) (i : ℕ) where
  pub ready_facts : ready s l i ≡ true → (get_or l i 0 ≡ none) × Met l (node_at s i)
  unfolding ready
  ready_facts h =
      let q = both (not (placed l i)) (met l (node_at s i)) h in (placed_none l i (not_true q.0), met_facts l (node_at s i) q.1)

  pub facts_ready : get_or l i 0 ≡ none → Met l (node_at s i) → ready s l i ≡ true
  unfolding ready
  facts_ready e m = of_both (ap not (not_placed l i e)) (facts_met l (node_at s i) m)

-- ---- how many are not placed

unfoldable free : List ℕ → ℕ
free [] = 0
free (x ∷ l) = cond (eqb x none) 1 0 + free l

free_replicate : (n : ℕ) → free (replicate n none) ≡ n
unfolding free
free_replicate zero = refl
free_replicate (suc n) = omega (arith, free_replicate n)

flag_most : (t : Bool) → cond t 1 0 ≤ 1
flag_most true = omega arith
flag_most false = omega arith

-- a placing takes at most one away
free_set : (l : List ℕ) (i v : ℕ) → free l ≤ free (set l i v) + 1
unfolding free
free_set [] i v = omega arith
free_set (x ∷ l) zero v = omega (arith, flag_most (eqb x none))
free_set (x ∷ l) (suc i) v = omega (arith, free_set l i v)

-- one that was free takes one away
free_step : (l : List ℕ) (x v : ℕ) → x < length l → get_or l x 0 ≡ none → (v ≡ none → ⊥) → free (set l x v) + 1 ≤ free l
unfolding free
free_step [] x v h e n = absurd (not-suc-le-zero h)
free_step (y ∷ l) zero v h e n = rw (ne_eqb v none n, eq-eqb y none e) (omega arith)
free_step (y ∷ l) (suc x) v h e n = omega (arith, free_step l x v (omega arith) e n)

free_some : (l : List ℕ) (x : ℕ) → x < length l → get_or l x 0 ≡ none → 1 ≤ free l
unfolding free
free_some [] x h e = absurd (not-suc-le-zero h)
free_some (y ∷ l) zero h e = rw (eq-eqb y none e) (omega arith)
free_some (y ∷ l) (suc x) h e = omega (arith, free_some l x (omega arith) e)

free_none : (l : List ℕ) → ((i : ℕ) → i < length l → placed l i ≡ true) → free l ≡ 0
unfolding free placed
free_none [] h = refl
free_none (x ∷ l) h =
    let e : eqb x none ≡ false = not_true (h 0 (omega arith)) in
    rw (e, free_none l (λ i b. h (suc i) (omega arith)))

pub get_d_any : (l : List ℕ) (i d e : ℕ) → i < length l → get_or l i d ≡ get_or l i e
get_d_any [] i d e h = absurd (not-suc-le-zero h)
get_d_any (x ∷ l) zero d e h = refl
get_d_any (x ∷ l) (suc i) d e h = get_d_any l i d e (omega arith)

-- ---- placing, of a file with at most 1,024 nodes
module _ (s : List ℕ) where
  pub numbers_none : numbers s 0 ≡ replicate (node_count s) none
  unfolding numbers
  numbers_none = refl

  pub numbers_next : (k : ℕ) → numbers s (suc k) ≡ set (numbers s k) (old s k) k
  unfolding numbers old
  numbers_next k = refl

  pub length_numbers : (k : ℕ) → length (numbers s k) ≡ node_count s
  unfolding numbers
  length_numbers zero = length-replicate (node_count s) none
  length_numbers (suc k) = length-set (numbers s k) (lowest_ready s (numbers s k)) k ∙ length_numbers k

  -- an id that no node has stays
  pub new_beyond : (i : ℕ) → node_count s ≤ i → new s i ≡ i
  unfolding new
  new_beyond i h = get_or-eq_default (numbers s (node_count s)) i (let n = length_numbers (node_count s) in omega arith)

  old_least : (k : ℕ) → Least (ready s (numbers s k)) (node_count s) (old s k)
  unfolding old lowest_ready
  old_least k = least_is (ready s (numbers s k)) (node_count s)

  pub old_most : (k : ℕ) → old s k ≤ node_count s
  old_most k = (old_least k).most

  pub old_ready : (k : ℕ) → old s k < node_count s → ready s (numbers s k) (old s k) ≡ true
  old_ready k h = (old_least k).passes h

  -- "always the lowest": what is ready is not below what is placed
  pub old_lowest : (k i : ℕ) → ready s (numbers s k) i ≡ true → old s k ≤ i
  old_lowest k i r = elim (dec_lt i (old s k)) [ yes l ↦ absurd (true≢false (sym r ∙ (old_least k).before i l)) | no x ↦ omega arith ]

  -- a new id was given when it was due, to the node that has it
  pub given : (k i : ℕ) → i < node_count s → placed (numbers s k) i ≡ true → (get_or (numbers s k) i 0 < k) × (old s (get_or (numbers s k) i 0) ≡ i)
  given zero i h p =
      absurd (placed_some (numbers s 0) i p (ap (λ (l : List ℕ). get_or l i 0) numbers_none ∙ get_or-replicate (node_count s) i none 0 h))
  given (suc k) i h p =
      elim (ℕ_discrete i (old s k)) [
        | yes e ↦
            let v : get_or (numbers s (suc k)) i 0 ≡ k =
            ap (λ (l : List ℕ). get_or l i 0) (numbers_next k)
            ∙ rw e (get_or-set_same (numbers s k) (old s k) k 0 (let m = length_numbers k in omega arith)) in
            (omega arith, ap (old s) v ∙ sym e)
        | no x ↦
            let v : get_or (numbers s (suc k)) i 0 ≡ get_or (numbers s k) i 0 =
            ap (λ (l : List ℕ). get_or l i 0) (numbers_next k) ∙ get_or-set_other (numbers s k) (old s k) i k 0 x in
            let q : placed (numbers s k) i ≡ true = is_placed (numbers s k) i (λ e. placed_some (numbers s (suc k)) i p (v ∙ e)) in
            let g = given k i h q in
            (omega arith, ap (old s) v ∙ g.1)
      ]

  module _ (few : node_count s ≤ 1024) where
    -- and it is kept
    pub kept : (k j : ℕ) → k ≤ node_count s → j < k → old s j < node_count s → get_or (numbers s k) (old s j) 0 ≡ j
    kept zero j b h o = absurd (not-suc-le-zero h)
    kept (suc k) j b h o =
        let eq = ap (λ (l : List ℕ). get_or l (old s j) 0) (numbers_next k) in
        elim (ℕ_discrete j k) [
          | yes e ↦ eq ∙ rw e (get_or-set_same (numbers s k) (old s k) k 0 (let m = length_numbers k in let q : old s k < node_count s = rw e at o in omega arith))
          | no x ↦
              let ih = kept k j (omega arith) (omega arith) o in
              eq
              ∙ get_or-set_other (numbers s k) (old s k) (old s j) k 0
              (λ e. let o' : old s k < node_count s = rw e at o in
              let z : get_or (numbers s k) (old s j) 0 ≡ none = rw e (ready_facts s (numbers s k) (old s k) (old_ready k o')).0 in
              absurd (omega arith))
              ∙ ih
        ]

  -- ---- nothing is ready: then nothing is placed any more, and some node never is

  least_free : (k : ℕ) → node_count s ≤ free (numbers s k) + k
  least_free zero = omega (arith, ap free numbers_none ∙ free_replicate (node_count s))
  least_free (suc k) = omega (arith, least_free k, free_set (numbers s k) (old s k) k, ap free (numbers_next k))

  stuck_free : (k m : ℕ) → node_count s ≤ old s k → k < m → node_count s < free (numbers s m) + m
  stuck_free k zero h l = absurd (not-suc-le-zero l)
  stuck_free k (suc m) h l =
      elim (ℕ_discrete k m) [
        | yes e ↦
            let q : numbers s (suc m) ≡ numbers s m =
            numbers_next m ∙ set_out (numbers s m) (old s m) m (let n = length_numbers m in let g : node_count s ≤ old s m = rw e at h in omega arith) in
            omega (arith, least_free m, ap free q)
        | no x ↦ omega (arith, stuck_free k m h (omega arith), free_set (numbers s m) (old s m) m, ap free (numbers_next m))
      ]

  -- ---- after as many placings as there are nodes nothing is ready

  -- once nothing is ready, all stays as it is
  stays : (k m : ℕ) → node_count s ≤ old s k → k ≤ m → numbers s m ≡ numbers s k
  unfolding old
  stays k zero h l = let e : zero ≡ k = omega arith in ap (numbers s) e
  stays k (suc m) h l =
      elim (ℕ_discrete k (suc m)) [
        | yes e ↦ ap (numbers s) (sym e)
        | no x ↦
            let q : numbers s m ≡ numbers s k = stays k m h (omega arith) in
            let o : node_count s ≤ old s m = rw (ap (lowest_ready s) q) h in
            numbers_next m ∙ set_out (numbers s m) (old s m) m (let n = length_numbers m in omega arith) ∙ q
      ]

  most_free : node_count s ≤ 1024 → (k : ℕ) → k ≤ node_count s → ((j : ℕ) → j < k → old s j < node_count s) → free (numbers s k) + k ≤ node_count s
  most_free few zero h busy = omega (arith, ap free numbers_none ∙ free_replicate (node_count s))
  most_free few (suc k) h busy =
      let o = busy k (omega arith) in
      let n = length_numbers k in
      omega (
        arith,
        most_free few k (omega arith) (λ j l. busy j (omega arith)),
        ap free (numbers_next k),
        free_step (numbers s k) (old s k) k (omega arith) (ready_facts s (numbers s k) (old s k) (old_ready k o)).0 (λ e. absurd (omega arith)),
      )

  pub end_unready : node_count s ≤ 1024 → (i : ℕ) → i < node_count s → ready s (numbers s (node_count s)) i ≡ true → ⊥
  end_unready few i h r =
      let busy : (j : ℕ) → j < node_count s → old s j < node_count s =
      λ j l.
      elim (dec_lt (old s j) (node_count s)) [
        | yes y ↦ y
        | no x ↦
            let q : ready s (numbers s j) i ≡ true = rw (stays j (node_count s) (omega arith) (omega arith)) at r in
            absurd (omega (arith, old_lowest j i q))
      ] in
      let n = length_numbers (node_count s) in
      omega (
        arith,
        most_free few (node_count s) (le_refl (node_count s)) busy,
        free_some (numbers s (node_count s)) i (omega arith) (ready_facts s (numbers s (node_count s)) i r).0,
      )

  -- every old id is placed in the end: that is what it says that no id can never be placed
  pub all_placed : never_placed s ≡ node_count s → AllPlaced s
  unfolding AllPlaced never_placed
  all_placed e i h = not_not _ ((least_is (λ j. not (placed (numbers s (node_count s)) j)) (node_count s)).before i (rw e h))
    where
      not_not : (t : Bool) → not t ≡ false → t ≡ true
      not_not t h = not-false t h

  pub never_most : never_placed s ≤ node_count s
  unfolding never_placed
  never_most = (least_is (λ j. not (placed (numbers s (node_count s)) j)) (node_count s)).most

  -- where all are placed, there is none
  pub never_least : AllPlaced s → node_count s ≤ never_placed s
  unfolding AllPlaced never_placed
  never_least a =
      let l = least_is (λ j. not (placed (numbers s (node_count s)) j)) (node_count s) in
      elim (dec_lt (never_placed s) (node_count s)) [
        | yes h ↦ absurd (false≢true (sym (ap not (a (never_placed s) h)) ∙ l.passes h))
        | no x ↦ omega arith
      ]

  -- then something was ready each time
  pub never_stuck : AllPlaced s → (k : ℕ) → k < node_count s → old s k < node_count s
  unfolding AllPlaced
  never_stuck a k h =
      elim (dec_lt (old s k) (node_count s)) [
        | yes l ↦ l
        | no x ↦
            let n = length_numbers (node_count s) in
            let z = free_none (numbers s (node_count s)) (λ i b. a i (omega arith)) in
            absurd (omega (arith, stuck_free k (node_count s) (omega arith) h))
      ]

  -- ---- so new and old ids are each other's inverse: the order is a permutation
  module _ (few : node_count s ≤ 1024) (all : AllPlaced s) where
    new_at : (i : ℕ) → i < node_count s → new s i ≡ get_or (numbers s (node_count s)) i 0
    unfolding new
    new_at i h = get_d_any (numbers s (node_count s)) i i 0 (let n = length_numbers (node_count s) in omega arith)

    pub new_lt : (i : ℕ) → i < node_count s → new s i < node_count s
    unfolding AllPlaced
    new_lt i h = rw (new_at i h) (given (node_count s) i h (all i h)).0

    pub old_lt : (k : ℕ) → k < node_count s → old s k < node_count s
    old_lt k h = never_stuck all k h

    pub old_new : (i : ℕ) → i < node_count s → old s (new s i) ≡ i
    unfolding AllPlaced
    old_new i h = rw (new_at i h) (given (node_count s) i h (all i h)).1

    pub new_old : (k : ℕ) → k < node_count s → new s (old s k) ≡ k
    new_old k h = new_at (old s k) (old_lt k h) ∙ kept few (node_count s) k (le_refl (node_count s)) h (old_lt k h)

    -- what is placed before number k has a number below k, and the other way round
    pub placed_before : (k i : ℕ) → k ≤ node_count s → i < node_count s → placed (numbers s k) i ≡ true → new s i < k
    placed_before k i b h p =
        let g = given k i h p in
        let j = get_or (numbers s k) i 0 in
        let e : new s i ≡ j = sym (ap (new s) g.1) ∙ new_old j (omega arith) in
        omega arith

    pub before_placed : (k i : ℕ) → k ≤ node_count s → i < node_count s → new s i < k → placed (numbers s k) i ≡ true
    before_placed k i b h l =
        let e : get_or (numbers s k) i 0 ≡ new s i =
        sym (ap (λ (x : ℕ). get_or (numbers s k) x 0) (old_new i h)) ∙ kept few k (new s i) b l (rw (old_new i h) h) in
        is_placed (numbers s k) i (λ z. absurd (omega arith))

    -- an operand of what is placed as number k is placed before k
    pub operand_before :
        (k p : ℕ)
        → k < node_count s
        → p < operands_of (node_at s (old s k))
        → field (node_at s (old s k)) p < node_count s
        → new s (field (node_at s (old s k)) p) < k
    unfolding Met
    operand_before k p h b o =
        placed_before k _ (omega arith) o ((ready_facts s (numbers s k) (old s k) (old_ready k (old_lt k h))).1 p b)
