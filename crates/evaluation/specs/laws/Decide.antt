-- The candidates can be decided, by searches that are never run, and a decided set has its list: so the steps that the
-- definitions speak of exist.
use Rattle.std.specs.Prelude.{◌≡◌, ◌⊎◌, List, [], ◌∷◌, ◌++◌, ℕ, zero, suc, ◌≤◌, ◌<◌, length, get_or}
use Rattle.std.proofs.Common.{◌∙◌, subst, inl, inr, zero-le, arith, not-suc-le-zero, lt-suc_self, length-append}
use Rattle.std.proofs.Math.Decide.{ℕ_discrete}
use Rattle.std.proofs.Math.ListN.{get_or-append}
use Rattle.std.proofs.Math.Seq.{get_or-append_seam}
use Rattle.std.specs.Int.Bits.{bit_and}
use Rattle.words.specs.Agree.{Agrees, Within}
use Rattle.words.specs.laws.Agree.{agrees_of_within, lo_within, within_hi}
use Rattle.evaluation.specs.Lists.{Lists, Lists.done, Lists.keep, Lists.skip}

-- ---- deciding

pub dec_not : {A : Type 0} → Dec A → Dec (A → ⊥)
dec_not (yes a) = no (λ x. x a)
dec_not (no x) = yes x

pub dec_both : {A B : Type 0} → Dec A → Dec B → Dec (A × B)
dec_both (yes a) (yes b) = yes (a, b)
dec_both (yes a) (no y) = no (λ p. y p.1)
dec_both (no x) d = no (λ p. x p.0)

pub dec_either : {A B : Type 0} → Dec A → Dec B → Dec (A ⊎ B)
dec_either (yes a) d = yes (inl a)
dec_either (no x) (yes b) = yes (inr b)
dec_either (no x) (no y) = no (λ w. elim w [ inl a ↦ x a | inr b ↦ y b ])

pub dec_map : {A B : Type 0} → (A → B) → (B → A) → Dec A → Dec B
dec_map f g (yes a) = yes (f a)
dec_map f g (no x) = no (λ b. x (g b))

dec_within : (a b : ℕ) → Dec (Within a b)
dec_within a b = dec_map (λ e. record { is = e }) (λ w. w.is) (ℕ_discrete (bit_and a b) a)

pub dec_agrees : (lo hi v : ℕ) → Dec (Agrees lo hi v)
dec_agrees lo hi v =
    dec_map (λ p. agrees_of_within p.0 p.1) (λ a. (lo_within a, within_hi a)) (dec_both (dec_within lo v) (dec_within v hi))

-- ---- a member below a bound

pub record Some (A : ℕ → Type 0) (b : ℕ) : Type 0 where
  pub at : ℕ
  pub at_lt : at < b
  pub holds : A at

some_more : {A : ℕ → Type 0} {b : ℕ} → Some A b → Some A (suc b)
some_more s = record { at = s.at; at_lt = omega (arith, s.at_lt); holds = s.holds }

some_less : {A : ℕ → Type 0} {b : ℕ} → (A b → ⊥) → (Some A b → ⊥) → Some A (suc b) → ⊥
some_less {A} {b} x y s =
    elim (ℕ_discrete s.at b) [
      | yes e ↦ x (subst A e s.holds)
      | no n ↦ y (record { at = s.at; at_lt = omega (arith, s.at_lt); holds = s.holds })
    ]

some_step : {A : ℕ → Type 0} {b : ℕ} → Dec (A b) → Dec (Some A b) → Dec (Some A (suc b))
some_step {A} {b} (yes a) d = yes (record { at = b; at_lt = lt-suc_self b; holds = a })
some_step (no x) (yes s) = yes (some_more s)
some_step (no x) (no y) = no (some_less x y)

-- a set that is decided below b
abbrev pub DecBelow : (ℕ → Type 0) → ℕ → Type 0
DecBelow A b = (n : ℕ) → n < b → Dec (A n)

pub dec_some : (A : ℕ → Type 0) (b : ℕ) → DecBelow A b → Dec (Some A b)
dec_some A zero d = no (λ s. not-suc-le-zero s.at_lt)
dec_some A (suc b) d = some_step (d b (lt-suc_self b)) (dec_some A b (λ n l. d n (omega arith)))

-- all below b are members, or some are not
pub all_or_some : (A : ℕ → Type 0) (b : ℕ) → DecBelow A b → ((n : ℕ) → n < b → A n) ⊎ Some (λ n. A n → ⊥) b
all_or_some A b d =
    elim (dec_some (λ n. A n → ⊥) b (λ n l. dec_not (d n l))) [
      | yes s ↦ inr s
      | no x ↦ inl (λ n l. elim (d n l) [ yes a ↦ a | no y ↦ absurd (x (record { at = n; at_lt = l; holds = y })) ])
    ]

pub dec_all : (A : ℕ → Type 0) (b : ℕ) → DecBelow A b → Dec ((n : ℕ) → n < b → A n)
dec_all A b d = elim (all_or_some A b d) [ inl h ↦ yes h | inr s ↦ no (λ h. s.holds (h s.at s.at_lt)) ]

-- ---- lists of members

-- a decided set below n has its list
pub record Listed (A : ℕ → Type 0) (n : ℕ) : Type 0 where
  pub list : List ℕ
  pub lists : Lists A n list

listed_step : {A : ℕ → Type 0} {n : ℕ} → Dec (A n) → Listed A n → Listed A (suc n)
listed_step {n = n} (yes a) l = record { list = l.list ++ (n ∷ []); lists = keep l.lists a }
listed_step (no x) l = record { list = l.list; lists = skip l.lists x }

pub listed : (A : ℕ → Type 0) (n : ℕ) → DecBelow A n → Listed A n
listed A zero d = record { list = []; lists = done }
listed A (suc n) d = listed_step (d n (lt-suc_self n)) (listed A n (λ k l. d k (omega arith)))

pub lists_length : {A : ℕ → Type 0} {n : ℕ} {l : List ℕ} → Lists A n l → length l ≤ n
lists_length done = zero-le
lists_length (keep {n} {l} r a) = simp length-append (omega (arith, lists_length r))
lists_length (skip r x) = omega (arith, lists_length r)

-- where a member stands in the list
pub record Stands (i : ℕ) (l : List ℕ) : Type 0 where
  pub place : ℕ
  pub place_lt : place < length l
  pub is : get_or l place 0 ≡ i

stands_before : {i : ℕ} {l : List ℕ} (x : ℕ) → Stands i l → Stands i (l ++ (x ∷ []))
stands_before {i} {l} x s =
    record {
      place = s.place;
      place_lt = simp length-append (omega (arith, s.place_lt));
      is = get_or-append l (x ∷ []) 0 s.place s.place_lt ∙ s.is;
    }

stands_last : {i : ℕ} (l : List ℕ) (x : ℕ) → x ≡ i → Stands i (l ++ (x ∷ []))
stands_last l x e = record { place = length l; place_lt = simp length-append (omega arith); is = get_or-append_seam l x [] 0 ∙ e }

pub lists_find : {A : ℕ → Type 0} {n : ℕ} {l : List ℕ} (i : ℕ) → Lists A n l → i < n → A i → Stands i l
lists_find i done h a = absurd (not-suc-le-zero h)
lists_find {A} i (keep {n} {l} r x) h a =
    elim (ℕ_discrete n i) [ yes e ↦ stands_last l n e | no y ↦ stands_before n (lists_find i r (omega arith) a) ]
lists_find {A} i (skip {n} {l} r x) h a =
    elim (ℕ_discrete i n) [ yes e ↦ absurd (x (subst A e a)) | no y ↦ lists_find i r (omega arith) a ]

-- what stands in the list is a member below n
pub record Member (A : ℕ → Type 0) (n i : ℕ) : Type 0 where
  pub below : i < n
  pub holds : A i

member_more : {A : ℕ → Type 0} {n i : ℕ} → Member A n i → Member A (suc n) i
member_more m = record { below = omega (arith, m.below); holds = m.holds }

pub lists_member : {A : ℕ → Type 0} {n : ℕ} {l : List ℕ} → Lists A n l → (k : ℕ) → k < length l → Member A n (get_or l k 0)
lists_member done k h = absurd (not-suc-le-zero h)
lists_member {A} (keep {n} {l} r x) k h =
    elim (ℕ_discrete k (length l)) [
      | yes e ↦ rw (e, get_or-append_seam l n [] 0) (record { below = lt-suc_self n; holds = x })
      | no y ↦
          let b : k < length l = omega (arith, simp length-append at h) in
          rw (get_or-append l (n ∷ []) 0 k b) (member_more (lists_member r k b))
    ]
lists_member (skip r x) k h = member_more (lists_member r k h)
