-- Laws of searches and picks in any set: at most one answer, picks made of searches, and sets with the same members.
use Rattle.std.specs.Prelude.{unwrap_or, ◌≡◌, ℕ, ◌<◌, ◌≤◌, max, refl, Option, Some, None}
use Rattle.std.proofs.Common.{ap, zero-le, arith, le_antisymm, le_refl, le_trans, not-le_of_lt}
use Rattle.words.specs.Pick.{Least, NoneFrom, FirstFrom, Pick, above, around, Picked, Between}

-- ---- at most one answer

pub least_unique : {A : ℕ → Type 0} {p v u : ℕ} → Least A p v → Least A p u → v ≡ u
least_unique {A} {p} {v} {u} a b = le_antisymm (a.least u b.member b.from) (b.least v a.member a.from)

pub first_unique : (A : ℕ → Type 0) (p : ℕ) (r s : Option ℕ) → FirstFrom A p r → FirstFrom A p s → r ≡ s
first_unique A p (Some v) (Some u) a b = ap Some (least_unique a b)
first_unique A p (Some v) None a b = absurd (b v a.member a.from)
first_unique A p None (Some u) a b = absurd (a u b.member b.from)
first_unique A p None None a b = refl

pub pick_unique : {A : ℕ → Type 0} {p v u : ℕ} → Pick A p v → Pick A p u → v ≡ u
pick_unique (above a) (above b) = least_unique a b
pick_unique (above a) (around n b) = absurd (n _ a.member a.from)
pick_unique (around n a) (above b) = absurd (n _ b.member b.from)
pick_unique (around n a) (around m b) = least_unique a b

pub pick_member : {A : ℕ → Type 0} {p v : ℕ} → Pick A p v → A v
pick_member (above a) = a.member
pick_member (around n a) = a.member

pub picked_unique : (A : ℕ → Type 0) (p : ℕ) (r s : Option ℕ) → Picked A p r → Picked A p s → r ≡ s
picked_unique A p (Some v) (Some u) a b = ap Some (pick_unique a b)
picked_unique A p (Some v) None a b = absurd (b v (pick_member a))
picked_unique A p None (Some u) a b = absurd (a u (pick_member b))
picked_unique A p None None a b = refl

-- ---- picks from what is at hand

-- a proposal that is a member is the pick itself
pub pick_self : {A : ℕ → Type 0} {p : ℕ} → A p → Pick A p p
pick_self {A} {p} m = above (record { member = m; from = le_refl p; least = λ u _ h. h })

-- where a search from p on finds nothing, the least of all is the pick
pub pick_or : {A : ℕ → Type 0} {p : ℕ} (r : Option ℕ) (v : ℕ) → FirstFrom A p r → Least A 0 v → Pick A p (unwrap_or r v)
pick_or (Some u) v a l = above a
pick_or None v n l = around n l

-- two searches make a pick: where the first, from p on, found nothing, the second, from 0 on, answers
pub picked_around : (A : ℕ → Type 0) (p : ℕ) (r : Option ℕ) → NoneFrom A p → FirstFrom A 0 r → Picked A p r
picked_around A p (Some v) n a = around n a
picked_around A p None n a = λ u m. a u m zero-le

-- ---- sets with the same members have the same picks

module _ (A B : ℕ → Type 0) (to : (u : ℕ) → A u → B u) (back : (u : ℕ) → B u → A u) where
  pub least_same : (p v : ℕ) → Least A p v → Least B p v
  least_same p v a = record { member = to v a.member; from = a.from; least = λ u m h. a.least u (back u m) h }

  pub first_same : (p : ℕ) (r : Option ℕ) → FirstFrom A p r → FirstFrom B p r
  first_same p (Some v) a = least_same p v a
  first_same p None a = λ u m h. a u (back u m) h

  pub pick_same : (p v : ℕ) → Pick A p v → Pick B p v
  pick_same p v (above a) = above (least_same p v a)
  pick_same p v (around n a) = around (λ u m h. n u (back u m) h) (least_same 0 v a)

  pub picked_same : (p : ℕ) (r : Option ℕ) → Picked A p r → Picked B p r
  picked_same p (Some v) a = pick_same p v a
  picked_same p None a = λ u m. a u (back u m)

-- ---- the members of an interval: from the greater of its start and the proposal on, and up to its end

module _ (A : ℕ → Type 0) (start end p s : ℕ) (later : s ≡ max start p) where
  no_more : {u : ℕ} → start ≤ u → p ≤ u → s ≤ u
  no_more h l = omega arith

  pub between_at : (v : ℕ) → Least A s v → v ≤ end → Least (Between A start end) p v
  between_at v a h = record {
    member = record { inside = a.member; after = le_trans (omega arith) a.from; upto = h };
    from = le_trans (omega arith) a.from;
    least = λ u m l. a.least u m.inside (no_more m.after l);
  }

  pub between_past : (v : ℕ) → Least A s v → end < v → NoneFrom (Between A start end) p
  between_past v a h u m l = not-le_of_lt h (le_trans (a.least u m.inside (no_more m.after l)) m.upto)

  pub between_none : NoneFrom A s → NoneFrom (Between A start end) p
  between_none n u m l = n u m.inside (no_more m.after l)
