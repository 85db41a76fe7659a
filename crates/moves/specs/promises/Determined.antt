-- What the definitions of steps and moves allow is one result: each is determined, and what the functions answer.
use Rattle.std.specs.Prelude.{◌≡◌, refl, ◌⊎◌, Bool, List, [], ℕ, ◌/◌, ◌%◌, ◌<◌, length, get_or, drop, Option, Some, None}
use Rattle.std.proofs.Common.{sym, ap, ◌∙◌, subst, inl, inr, arith}
use Rattle.words.specs.Pick.{Pick, Empty}
use Rattle.words.specs.laws.Pick.{pick_unique, pick_member}
use Rattle.words.specs.laws.Decides.{decides_unique}
use Rattle.picking.specs.declared.spot.Spot.{Spot}
use Rattle.nodes.specs.Problem.{Prob}
use Rattle.moves.specs.Step.{Out, goes, blocked, Follows, Follows.inverse, Follows.consistent, Follows.nothing, Step, Step.none_left, Step.followed}
use Rattle.moves.specs.Moves.{End, sets, stuck, short, Walk, Walk.arrives, Walk.unserved, Walk.stops, Walk.onward, Move, Move.no_word, Move.from_root, Unsatisfied, ClosedRoot}
use Rattle.words.specs.inner.Decides.{Decides}
use Rattle.evaluation.specs.Readers.{Above}
use Rattle.evaluation.specs.inner.Lists.{Count}
use Rattle.evaluation.specs.laws.Lists.{lists_unique, count_unique}
use Rattle.moves.specs.declared.turn.Turn.{Turn}
use Rattle.moves.specs.inner.Moves.{Finishes, Finishes.sets_one, Finishes.sets_none, Turned}

-- ---- a step

-- the inverse set is taken and passed over
both_ways : {A : ℕ → Type 0} {p v : ℕ} (e : ℕ) → e % 2 ≡ 0 → Pick A p v → (e % 2 ≡ 1) ⊎ Empty A → ⊥
both_ways e z k (inl o) = omega arith
both_ways {v = v} e z k (inr n) = n v (pick_member k)

pub follows_unique : {S : Spot} {t e p i : ℕ} {o o' : Out} → Follows S t e p i o → Follows S t e p i o' → o ≡ o'
follows_unique {i = i} (inverse z k) (inverse z' k') = ap (goes i) (pick_unique k k')
follows_unique {e = e} (inverse z k) (consistent w' k') = absurd (both_ways e z k w')
follows_unique {e = e} (inverse z k) (nothing w' n') = absurd (both_ways e z k w')
follows_unique {e = e} (consistent w k) (inverse z' k') = absurd (both_ways e z' k' w)
follows_unique {i = i} (consistent w k) (consistent w' k') = ap (goes i) (pick_unique k k')
follows_unique (consistent {v} w k) (nothing w' n') = absurd (n' v (pick_member k))
follows_unique {e = e} (nothing w n) (inverse z' k') = absurd (both_ways e z' k' w)
follows_unique (nothing w n) (consistent {v} w' k') = absurd (n v (pick_member k'))
follows_unique (nothing w n) (nothing w' n') = refl

some_left : {l : List ℕ} → [] ≡ l → 0 < length l → ⊥
some_left {l} e h = let z : 0 ≡ length l = ap length e in omega arith

pub step_unique : {S : Spot} {t e p : ℕ} {o o' : Out} → Step S t e p o → Step S t e p o' → o ≡ o'
step_unique (none_left l b) (none_left l' b') = cc
step_unique (none_left l b) (followed l₂ m' h' k') = absurd (some_left (lists_unique l m') h')
step_unique (followed l₁ m h k) (none_left l' b') = absurd (some_left (lists_unique l' m) h)
step_unique {S} {t} {e} {p} {o} {o'} (followed l₁ m h k) (followed l₂ m' h' k') =
    follows_unique k (subst (λ (l : List ℕ). Follows S t e p (get_or l (e / 2 % length l) 0) o') (lists_unique m' m) k')

-- ---- a move

never_both : {i v : ℕ} → goes i v ≡ blocked → ⊥
never_both e = let z : ◌≡◌ {A = ℕ} 0 1 = cc in omega arith

module _ (P : Prob) (vs : List ℕ) where
  pub walk_unique : {n t s : ℕ} {ws : List ℕ} {r r' : End} → Walk P vs n t ws s r → Walk P vs n t ws s r' → r ≡ r'
  walk_unique (arrives v) (arrives v') = refl
  walk_unique (arrives v) (unserved x' h') = absurd (x' v)
  walk_unique (arrives v) (stops x' h' k') = absurd (x' v)
  walk_unique (arrives v) (onward x' h' k' w') = absurd (x' v)
  walk_unique (unserved x h) (arrives v') = absurd (x v')
  walk_unique (unserved x h) (unserved x' h') = refl
  walk_unique (unserved x h) (stops x' h' k') = absurd (omega arith)
  walk_unique (unserved x h) (onward x' h' k' w') = absurd (omega arith)
  walk_unique (stops x h k) (arrives v') = absurd (x v')
  walk_unique (stops x h k) (unserved x' h') = absurd (omega arith)
  walk_unique (stops x h k) (stops x' h' k') = refl
  walk_unique (stops x h k) (onward x' h' k' w') = absurd (never_both (step_unique k' k))
  walk_unique (onward x h k w) (arrives v') = absurd (x v')
  walk_unique (onward x h k w) (unserved x' h') = absurd (omega arith)
  walk_unique (onward x h k w) (stops x' h' k') = absurd (never_both (step_unique k k'))
  walk_unique (onward {i = i} {v} x h k w) (onward {i = i'} {v = v'} x' h' k' w') =
      let e : goes i v ≡ goes i' v' = step_unique k k' in
      let e₁ : i ≡ i' = cc in
      let e₂ : v ≡ v' = cc in
      walk_unique w (rw (e₁, e₂) w')

  pub move_unique : {ws : List ℕ} {s : ℕ} {r r' : End} → Move P vs ws s r → Move P vs ws s r' → r ≡ r'
  move_unique (no_word h) (no_word h') = refl
  move_unique (no_word h) (from_root us h' l' w') = absurd (omega arith)
  move_unique (from_root us h l w) (no_word h') = absurd (omega arith)
  move_unique (from_root us h l w) (from_root us' h' l' w') = walk_unique w (rw (lists_unique l l') w')

-- the ends of a move by number, so that two that differ are told apart
abbrev pub number : End → ℕ
number (sets n v s ws) = 0
number (stuck s ws) = 1
number short = 2

module _ (P : Prob) (vs : List ℕ) where
  pub two_ends : {ws : List ℕ} {s : ℕ} {r r' : End} → Move P vs ws s r → Move P vs ws s r' → (number r ≡ number r' → ⊥) → ⊥
  two_ends k k' d = d (ap number (move_unique P vs k k'))

-- ---- the functions

pub finishes_unique :
    {P : Prob} {vs tape : List ℕ} {k made : ℕ} {us us' : List ℕ} {r r' t t' l l' : ℕ}
    → Finishes P vs tape k made us r t l
    → Finishes P vs tape k made us' r' t' l'
    → (us ≡ us') × (r ≡ r') × (t ≡ t')
finishes_unique {P} {vs} {tape} {t = t} {t' = t'} {l = l} {l' = l'} (sets_one {n} {v} m e c) (sets_one {n = n'} {v = v'} m' e' c') =
    let q : sets n v t (drop l tape) ≡ sets n' v' t' (drop l' tape) = move_unique P vs m m' in
    let q₁ : n ≡ n' = cc in
    let q₂ : v ≡ v' = cc in
    (cc, count_unique (Above P n) refl c (rw q₁ c'), cc)
finishes_unique {P} {vs} (sets_one m e c) (sets_none m' e' z') = absurd (two_ends P vs m m' (omega arith))
finishes_unique {P} {vs} (sets_none m e z) (sets_one m' e' c') = absurd (two_ends P vs m m' (omega arith))
finishes_unique {P} {vs} {tape} {t = t} {t' = t'} {l = l} {l' = l'} (sets_none m e z) (sets_none m' e' z') =
    let q : stuck t (drop l tape) ≡ stuck t' (drop l' tape) = move_unique P vs m m' in
    (cc, cc, cc)

finishes_served :
    {P : Prob} {vs tape : List ℕ} {k made : ℕ} {us : List ℕ} {r t l : ℕ}
    → Finishes P vs tape k made us r t l
    → Move P vs (drop k tape) made short
    → ⊥
finishes_served {P} {vs} (sets_one m e c) s = two_ends P vs m s (omega arith)
finishes_served {P} {vs} (sets_none m e z) s = two_ends P vs m s (omega arith)

same_turn : {r r' : Turn} → r.above ≡ r'.above → r.steps ≡ r'.steps → r.next ≡ r'.next → r ≡ r'
same_turn {r} {r'} p q n = λ i. record { above = p i; steps = q i; next = n i }

-- of `finish_move`: the values and the turn. The next place on the tape follows from the steps made.
pub finish_move_determined :
    (P : Prob) (vs tape : List ℕ) (k made : ℕ) (us us' : List ℕ) (r r' : Option Turn)
    → Turned P vs tape k made us r
    → Turned P vs tape k made us' r'
    → (us ≡ us') × (r ≡ r')
finish_move_determined P vs tape k made us us' (Some r) (Some r') w w' =
    let u = finishes_unique w.0 w'.0 in
    (u.0, ap Some (same_turn u.1 u.2 (omega (arith, w.2, w'.2, u.2))))
finish_move_determined P vs tape k made us us' (Some r) None w w' = absurd (finishes_served w.0 w'.0)
finish_move_determined P vs tape k made us us' None (Some r) w w' = absurd (finishes_served w'.0 w.0)
finish_move_determined P vs tape k made us us' None None w w' = (w.1 ∙ sym w'.1, refl)

-- of `count_unsatisfied`
pub count_unsatisfied_determined :
    (P : Prob) (vs : List ℕ) (r r' : ℕ) → Count (Unsatisfied P vs) P.entries r → Count (Unsatisfied P vs) P.entries r' → r ≡ r'
count_unsatisfied_determined P vs r r' = count_unique (Unsatisfied P vs) refl

-- of `closed_root`
pub closed_root_determined : (P : Prob) (r r' : Bool) → Decides (ClosedRoot P) r → Decides (ClosedRoot P) r' → r ≡ r'
closed_root_determined P = decides_unique (ClosedRoot P)
