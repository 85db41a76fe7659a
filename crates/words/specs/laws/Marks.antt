-- Laws of sets of ids as marks: one mark more, one less, and the lowest mark from an id on.
use Rattle.std.specs.Prelude.{◌≡◌, ℕ, zero, suc, ◌+◌, ◌-◌, ◌*◌, ◌/◌, ◌%◌, ◌^◌, ◌<◌, ◌≤◌, max, ◌⊎◌, List, length, replicate, ◌≢◌, slice_index, slice_index_or, slice_set}
use Rattle.std.proofs.Math.Path.{refl, sym, ap}
use Rattle.std.proofs.Common.{◌∙◌, pow-suc, le_antisymm, get_or-set_same, get_or-set_other, pow_pos}
use Rattle.std.proofs.Math.Logic.{inl, inr}
use native.Mathlib.Omega.{arith}
use Rattle.std.proofs.Math.Decide.{ℕ_discrete, dec_lt}
use Rattle.std.proofs.Math.ListN.{length-set}
use Rattle.words.specs.Bits.{bit}
use Rattle.words.specs.laws.Bits.{bit_lt, bit_of_or, bit_of_xor, bit_high, bit_shl, bit_shl_low, bit_shr, bit_cut, bit_of_zero, bit_set_lt}
use Rattle.words.specs.inner.Words.{Tail}
use Rattle.words.specs.inner.Marks.{mark, Marked, with_mark, without_mark, Added, Removed, Clear, Lowest}

-- ---- a mark more, and one less

power_same : (i : ℕ) → bit i (2 ^ i) ≡ 1
unfolding bit
power_same i = let e : i ≡ i + 0 = omega arith in let d : 2 ^ i ≡ 1 * 2 ^ i = omega arith in ap (λ (k : ℕ). bit k (2 ^ i)) e ∙ ap (bit (i + 0)) d ∙ bit_shl 0 1 i

power_other : (i j : ℕ) → (j ≢ i) → bit j (2 ^ i) ≡ 0
power_other i j x =
    elim (dec_lt j i) [
      | yes h ↦ let d : 2 ^ i ≡ 1 * 2 ^ i = omega arith in ap (bit j) d ∙ bit_shl_low j 1 i h
      | no y ↦ bit_high j (2 ^ i) (suc i) (omega (arith, pow-suc 2 i, pow_pos i)) (omega arith)
    ]

module _ (l : List ℕ) (n : ℕ) (h : n / 64 < length l) where
  -- another word where n's stands: ids of the same word, and of others
  new_word : (v j : ℕ) → j / 64 ≡ n / 64 → mark (slice_set l (n / 64) v) j ≡ bit (j % 64) v
  unfolding mark
  new_word v j q =
      ap (λ (k : ℕ). bit (j % 64) (slice_index (slice_set l (n / 64) v) k)) q ∙ ap (bit (j % 64)) (get_or-set_same l (n / 64) v 0 h)

  old_word : (j : ℕ) → j / 64 ≡ n / 64 → bit (j % 64) (slice_index l (n / 64)) ≡ mark l j
  unfolding mark
  old_word j q = ap (λ (k : ℕ). bit (j % 64) (slice_index l k)) (sym q)

  other_word : (v j : ℕ) → (j / 64 ≢ n / 64) → mark (slice_set l (n / 64) v) j ≡ mark l j
  unfolding mark
  other_word v j x = ap (bit (j % 64)) (get_or-set_other l (n / 64) (j / 64) v 0 x)

  abbrev own : ℕ → ℕ
  own j = bit (j % 64) (2 ^ (n % 64))

  same_word : (j : ℕ) → j / 64 ≡ n / 64 → mark (with_mark l n) j ≡ max (mark l j) (own j)
  unfolding with_mark
  same_word j q =
      new_word _ j q ∙ bit_of_or (j % 64) (slice_index l (n / 64)) (2 ^ (n % 64)) ∙ ap (λ (k : ℕ). max k (own j)) (old_word j q)

  turned_word : (j : ℕ) → j / 64 ≡ n / 64 → mark (without_mark l n) j ≡ (mark l j + own j) % 2
  unfolding without_mark
  turned_word j q =
      new_word _ j q ∙ bit_of_xor (j % 64) (slice_index l (n / 64)) (2 ^ (n % 64)) ∙ ap (λ (k : ℕ). (k + own j) % 2) (old_word j q)

  mark_lt : (j : ℕ) → mark l j < 2
  unfolding mark
  mark_lt j = bit_lt (j % 64) (slice_index l (j / 64))

  with_other : (j : ℕ) → (j / 64 ≢ n / 64) → Marked (with_mark l n) j → Marked l j
  unfolding with_mark
  with_other j y m = sym (other_word _ j y) ∙ m

  pub mark_more : Added (λ j. j ≡ n) l (with_mark l n)
  unfolding with_mark
  mark_more =
      record {
        long = length-set l (n / 64) _;
        kept = λ j m.
            elim (ℕ_discrete (j / 64) (n / 64)) [
              | yes q ↦ omega (arith, same_word j q, bit_lt (j % 64) (2 ^ (n % 64)))
              | no x ↦ other_word _ j x ∙ m
            ];
        put = λ j q. rw q (omega (arith, same_word n refl, power_same (n % 64), mark_lt n));
        only = λ j m. only j m;
      }
    where
      only : (j : ℕ) → Marked (with_mark l n) j → Marked l j ⊎ (j ≡ n)
      only j m =
          elim (ℕ_discrete j n) [
            | yes q ↦ inr q
            | no x ↦
                elim (ℕ_discrete (j / 64) (n / 64)) [
                  | yes q ↦ inl (omega (arith, same_word j q, power_other (n % 64) (j % 64) (omega arith)))
                  | no y ↦ inl (with_other j y m)
                ]
          ]

  -- n is marked: then its mark alone goes
  module _ (given : Marked l n) where
    less_kept : (j : ℕ) → (j ≢ n) → Marked l j → Marked (without_mark l n) j
    unfolding without_mark
    less_kept j x m =
        elim (ℕ_discrete (j / 64) (n / 64)) [
          | yes q ↦ omega (arith, turned_word j q, power_other (n % 64) (j % 64) (omega arith), m)
          | no y ↦ other_word _ j y ∙ m
        ]

    less_only : (j : ℕ) → Marked (without_mark l n) j → Marked l j
    unfolding without_mark
    less_only j m =
        elim (ℕ_discrete j n) [
          | yes e ↦ rw e given
          | no x ↦
              elim (ℕ_discrete (j / 64) (n / 64)) [
                | yes q ↦ omega (arith, turned_word j q, power_other (n % 64) (j % 64) (omega arith), mark_lt j, m)
                | no y ↦ sym (other_word _ j y) ∙ m
              ]
        ]

    pub mark_less : Removed n l (without_mark l n)
    unfolding without_mark
    mark_less =
        record {
          long = length-set l (n / 64) _;
          kept = less_kept;
          only = less_only;
          gone = λ m. omega (arith, turned_word n refl, power_same (n % 64), given, m);
        }

-- nothing is marked in zeros
zeros_at : (n k : ℕ) → ◌≡◌ {A = ℕ} (slice_index (replicate n 0) k) 0
zeros_at zero k = refl
zeros_at (suc n) zero = refl
zeros_at (suc n) (suc k) = zeros_at n k

pub unmarked : (n j : ℕ) → Marked (replicate n 0) j → ⊥
unfolding mark
unmarked n j m = omega (arith, m, ap (bit (j % 64)) (zeros_at n (j / 64)) ∙ bit_of_zero (j % 64))

pub added_none : (A : ℕ → Type 0) (l : List ℕ) → ((j : ℕ) → A j → ⊥) → Added A l l
added_none A l x = record { long = refl; kept = λ j m. m; put = λ j a. absurd (x j a); only = λ j m. inl m }

-- ---- the lowest mark

module _ (l : List ℕ) (f : ℕ) where
  -- the marks from f on, within its word, are the bits of that word from f's on
  shifted : (j : ℕ) → f % 64 + j < 64 → mark l (f + j) ≡ bit j (slice_index l (f / 64) / 2 ^ (f % 64))
  unfolding mark
  shifted j h =
      let q : (f + j) / 64 ≡ f / 64 = omega arith in
      let r : (f + j) % 64 ≡ f % 64 + j = omega arith in
      ap (λ (k : ℕ). bit ((f + j) % 64) (slice_index l k)) q
      ∙ ap (λ (k : ℕ). bit k (slice_index l (f / 64))) r
      ∙ sym (bit_shr j (slice_index l (f / 64)) (f % 64))

  pub clear_word : slice_index_or l (f / 64) 0 / 2 ^ (f % 64) ≡ 0 → Clear l f ((f / 64 + 1) * 64)
  clear_word e k h b m =
      let j : f + (k - f) ≡ k = omega arith in
      let z : mark l (f + (k - f)) ≡ 0 = shifted (k - f) (omega arith) ∙ ap (bit (k - f)) e ∙ bit_of_zero (k - f) in
      omega (arith, rw j at z)

  module _ (t : ℕ) (g : Tail 64 (slice_index l (f / 64) / 2 ^ (f % 64)) t) (w : slice_index_or l (f / 64) 0 < 2 ^ 64) where
    pub in_word : f % 64 + t < 64
    unfolding bit
    in_word = bit_set_lt (f % 64 + t) (slice_index l (f / 64)) 64 w (sym (bit_shr t (slice_index l (f / 64)) (f % 64)) ∙ g.set)

    pub mark_found : Marked l (f + t)
    unfolding bit
    mark_found = shifted t in_word ∙ g.set

    pub clear_below : Clear l f (f + t)
    clear_below k h b m =
        let j : f + (k - f) ≡ k = omega arith in
        let v : ℕ = slice_index l (f / 64) / 2 ^ (f % 64) in
        let i = in_word in
        let z : mark l (f + (k - f)) ≡ 0 =
        shifted (k - f) (omega arith) ∙ sym (bit_cut (k - f) (slice_index l (f / 64) / 2 ^ (f % 64)) t (omega arith)) ∙ ap (bit (k - f)) g.clear ∙ bit_of_zero (k - f) in
        omega (arith, rw j at z)

-- no other id is the lowest
not_past : (l : List ℕ) {f r s : ℕ} → Lowest l f r → Lowest l f s → r ≤ s
not_past l {r = r} {s = s} a b =
    elim (dec_lt s r) [
      | yes h ↦ absurd (a.clear s b.after h (b.is (omega (arith, a.most))))
      | no x ↦ omega arith
    ]

pub lowest_unique : (l : List ℕ) {f r s : ℕ} → Lowest l f r → Lowest l f s → r ≡ s
lowest_unique l a b = le_antisymm (not_past l a b) (not_past l b a)

pub clear_on : (l : List ℕ) {f g r : ℕ} → Clear l f g → Clear l g r → Clear l f r
clear_on l {g = g} a b k h q = elim (dec_lt k g) [ yes c ↦ a k h c | no x ↦ b k (omega arith) q ]

pub added_same : {A B : ℕ → Type 0} {l r : List ℕ} → ((j : ℕ) → A j → B j) → ((j : ℕ) → B j → A j) → Added A l r → Added B l r
added_same to back a =
    record {
      long = a.long;
      kept = a.kept;
      put = λ j b. a.put j (back j b);
      only = λ j m. elim (a.only j m) [ inl h ↦ inl h | inr q ↦ inr (to j q) ];
    }

-- those of A, then one more
pub added_one :
    {A B : ℕ → Type 0} {l r u : List ℕ} {n : ℕ}
    → Added A l r
    → Added (λ j. j ≡ n) r u
    → ((j : ℕ) → A j → B j)
    → B n
    → ((j : ℕ) → B j → A j ⊎ (j ≡ n))
    → Added B l u
added_one {A} {B} {n = n} a o to here back =
    record {
      long = o.long ∙ a.long;
      kept = λ j m. o.kept j (a.kept j m);
      put = λ j b. elim (back j b) [ inl q ↦ o.kept j (a.put j q) | inr e ↦ o.put j e ];
      only = λ j m.
          elim (o.only j m) [
            | inl h ↦ elim (a.only j h) [ inl k ↦ inl k | inr q ↦ inr (to j q) ]
            | inr e ↦ inr (rw e here)
          ];
    }
