-- Two ternary words at once are one ternary word, and the lesser of two answers is the answer in two sets together. All at any width.
use Rattle.std.proofs.Common.{sym, subst, inl, inr, le_trans, le_of_eq, le_of_lt, leb→le}
use Rattle.std.specs.Prelude.{ℕ, ◌<◌, ◌≤◌, min, Bool, true, false, not, T, ◌⊎◌, nat_le, Option, None, Some}
use Rattle.std.proofs.Math.Nat.{max-le, le-min, min-le_left, min-le_right, le-max_left, le-max_right, min-eq_left, min-eq_right}
use Rattle.std.proofs.Math.Dec.{nleb→lt}
use Rattle.std.specs.Int.Bits.{bit_and, bit_or}
use Rattle.words.specs.Bits.{bit}
use Rattle.words.specs.laws.Bits.{bit_of_and, bit_of_or}
use Rattle.words.specs.Agree.{Agrees}
use Rattle.words.specs.Pick.{FirstFrom}
use Rattle.words.specs.inner.Words.{lesser}

-- the values that agree with both
pub record Both (lo hi l h x : ℕ) : Type 0 where
  pub one : Agrees lo hi x
  pub other : Agrees l h x

pub both_to : (lo hi l h x : ℕ) → Both lo hi l h x → Agrees (bit_or lo l) (bit_and hi h) x
both_to lo hi l h x m = record {
  over = λ i. le_trans (le_of_eq (bit_of_or i lo l)) (max-le (m.one.over i) (m.other.over i));
  under = λ i. le_trans (le-min (m.one.under i) (m.other.under i)) (le_of_eq (sym (bit_of_and i hi h)));
}

pub both_back : (lo hi l h x : ℕ) → Agrees (bit_or lo l) (bit_and hi h) x → Both lo hi l h x
both_back lo hi l h x g = record {
  one = record {
    over = λ i. le_trans (le-max_left (bit i lo) (bit i l)) (le_trans (le_of_eq (sym (bit_of_or i lo l))) (g.over i));
    under = λ i. le_trans (g.under i) (le_trans (le_of_eq (bit_of_and i hi h)) (min-le_left (bit i hi) (bit i h)));
  };
  other = record {
    over = λ i. le_trans (le-max_right (bit i lo) (bit i l)) (le_trans (le_of_eq (sym (bit_of_or i lo l))) (g.over i));
    under = λ i. le_trans (g.under i) (le_trans (le_of_eq (bit_of_and i hi h)) (min-le_right (bit i hi) (bit i h)));
  };
}

-- ---- the lesser of two answers

-- answers to two searches, and to the search in the two sets together
pub lesser_first : (P Q : ℕ → Type 0) (p : ℕ) (a b : Option ℕ) → FirstFrom P p a → FirstFrom Q p b → FirstFrom (λ x. P x ⊎ Q x) p (lesser a b)
lesser_first P Q p None None m n = none
  where
    none : (u : ℕ) → P u ⊎ Q u → p ≤ u → ⊥
    none u (inl k) h = m u k h
    none u (inr k) h = n u k h
lesser_first P Q p None (Some v) m n = record { member = inr n.member; from = n.from; least = least }
  where
    least : (u : ℕ) → P u ⊎ Q u → p ≤ u → v ≤ u
    least u (inl k) h = absurd (m u k h)
    least u (inr k) h = n.least u k h
lesser_first P Q p (Some v) None m n = record { member = inl m.member; from = m.from; least = least }
  where
    least : (u : ℕ) → P u ⊎ Q u → p ≤ u → v ≤ u
    least u (inl k) h = m.least u k h
    least u (inr k) h = absurd (n u k h)
lesser_first P Q p (Some v) (Some w) m n = record { member = member (nat_le v w) (leb→le v w) (nleb→lt v w); from = le-min m.from n.from; least = least }
  where
    member : (t : Bool) → (T t → v ≤ w) → (T (not t) → w < v) → P (min v w) ⊎ Q (min v w)
    member true h k = inl (subst P (sym (min-eq_left (h tt))) m.member)
    member false h k = inr (subst Q (sym (min-eq_right (le_of_lt (k tt)))) n.member)

    least : (u : ℕ) → P u ⊎ Q u → p ≤ u → min v w ≤ u
    least u (inl k) h = le_trans (min-le_left v w) (m.least u k h)
    least u (inr k) h = le_trans (min-le_right v w) (n.least u k h)
