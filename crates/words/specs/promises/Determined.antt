-- The contract of each public function determines its result: any two results that it allows are equal.
use Rattle.std.specs.Prelude.{◌≡◌, refl, ℕ, ◌*◌, ◌%◌, ◌^◌, max, Bool, List, Option, Some, None, IsSome, IfSome, is_some, ◌↔◌}
use Rattle.std.proofs.Common.{sym, ◌∙◌}
use Rattle.std.proofs.lemmas.Bool.{false≢true}
use Rattle.words.specs.declared.ternary.Ternary.{Ternary}
use Rattle.words.specs.Agree.{Within, Agrees}
use Rattle.words.specs.inner.Decides.{Decides}
use Rattle.words.specs.laws.Decides.{decides_unique}
use Rattle.words.specs.inner.Marks.{Marked, with_mark, without_mark, Lowest}
use Rattle.words.specs.laws.Marks.{lowest_unique}
use Rattle.words.specs.inner.Words.{less, lesser, WordInverse, over, Top, Tail}
use Rattle.words.specs.laws.Modular.{inverse_unique}
use Rattle.words.specs.Pick.{FirstFrom, Pick, Picked, Between}
use Rattle.words.specs.laws.Pick.{first_unique, pick_unique, picked_unique}
use Rattle.words.specs.laws.Zeros.{top_unique, tail_unique}

-- where the contract is an equation
equal : {A : Type 0} {v r s : A} → r ≡ v → s ≡ v → r ≡ s
equal p q = p ∙ sym q

-- ---- bits
pub cut_determined : (x n r s : ℕ) → r ≡ x % 2 ^ n → s ≡ x % 2 ^ n → r ≡ s
cut_determined x n r s = equal

pub to_width_determined : (x n r s : ℕ) → r ≡ x % 2 ^ n → s ≡ x % 2 ^ n → r ≡ s
to_width_determined x n r s = equal

pub and_not_determined : (a b r s : ℕ) → r ≡ less a b → s ≡ less a b → r ≡ s
and_not_determined a b r s = equal

pub set_low_determined : (x n c r s : ℕ) → r ≡ over n x c → s ≡ over n x c → r ≡ s
set_low_determined x n c r s = equal

pub top_bit_determined : (x r s : ℕ) → Top 64 x r → Top 64 x s → r ≡ s
top_bit_determined x r s = top_unique

pub low_bit_determined : (x r s : ℕ) → Tail 64 x r → Tail 64 x s → r ≡ s
low_bit_determined x r s = tail_unique

-- ---- found
pub lesser_of_determined : (a b r s : Option ℕ) → r ≡ lesser a b → s ≡ lesser a b → r ≡ s
lesser_of_determined a b r s = equal

-- ---- ternary

-- of `Ternary::new`: two answers are words alike, or both are none
pub ternary_determined :
    (lo hi : ℕ) (r s : Option Ternary)
    → IsSome r ↔ Within lo hi
    → IsSome s ↔ Within lo hi
    → IfSome r (λ word. (word.lo ≡ lo) × (word.hi ≡ hi))
    → IfSome s (λ word. (word.lo ≡ lo) × (word.hi ≡ hi))
    → (is_some r ≡ is_some s) × IfSome r (λ a. IfSome s (λ b. (a.lo ≡ b.lo) × (a.hi ≡ b.hi)))
ternary_determined lo hi None None p q e f = (refl, tt)
ternary_determined lo hi (Some a) (Some b) p q e f = (refl, (e.0 ∙ sym f.0, e.1 ∙ sym f.1))
ternary_determined lo hi None (Some b) p q e f = absurd (false≢true (p.1 (q.0 refl)))
ternary_determined lo hi (Some a) None p q e f = absurd (false≢true (q.1 (p.0 refl)))

pub agrees_determined : (v lo hi : ℕ) (r s : Bool) → Decides (Agrees lo hi v) r → Decides (Agrees lo hi v) s → r ≡ s
agrees_determined v lo hi = decides_unique (Agrees lo hi v)

pub first_agreeing_determined : (lo hi p : ℕ) (r s : Option ℕ) → FirstFrom (Agrees lo hi) p r → FirstFrom (Agrees lo hi) p s → r ≡ s
first_agreeing_determined lo hi = first_unique (Agrees lo hi)

pub pick_agreeing_determined : (lo hi p r s : ℕ) → Pick (Agrees lo hi) p r → Pick (Agrees lo hi) p s → r ≡ s
pick_agreeing_determined lo hi p r s = pick_unique

-- ---- interval
pub later_determined : (a b r s : ℕ) → r ≡ max a b → s ≡ max a b → r ≡ s
later_determined a b r s = equal

pub first_between_determined : (lo hi least most p : ℕ) (r s : Option ℕ) → FirstFrom (Between (Agrees lo hi) least most) p r → FirstFrom (Between (Agrees lo hi) least most) p s → r ≡ s
first_between_determined lo hi least most = first_unique (Between (Agrees lo hi) least most)

pub pick_between_determined : (lo hi least most p : ℕ) (r s : Option ℕ) → Picked (Between (Agrees lo hi) least most) p r → Picked (Between (Agrees lo hi) least most) p s → r ≡ s
pick_between_determined lo hi least most = picked_unique (Between (Agrees lo hi) least most)

-- ---- marks
pub mark_determined : (l : List ℕ) (n : ℕ) (r s : List ℕ) → r ≡ with_mark l n → s ≡ with_mark l n → r ≡ s
mark_determined l n r s = equal

pub unmark_determined : (l : List ℕ) (n : ℕ) (r s : List ℕ) → r ≡ without_mark l n → s ≡ without_mark l n → r ≡ s
unmark_determined l n r s = equal

pub marked_determined : (l : List ℕ) (n : ℕ) (r s : Bool) → Decides (Marked l n) r → Decides (Marked l n) s → r ≡ s
marked_determined l n = decides_unique (Marked l n)

pub lowest_determined : (l : List ℕ) (from r s : ℕ) → Lowest l from r → Lowest l from s → r ≡ s
lowest_determined l from r s = lowest_unique l

-- ---- modular
pub wrapping_mul_determined : (a b r s : ℕ) → r ≡ a * b % 2 ^ 64 → s ≡ a * b % 2 ^ 64 → r ≡ s
wrapping_mul_determined a b r s = equal

pub odd_inverse_determined : (a r s : ℕ) → WordInverse 64 a r → WordInverse 64 a s → r ≡ s
odd_inverse_determined a r s = inverse_unique
