-- Laws of sets: how one is shown to hold an equation's solutions, and what lies in the boxes that it is made of.
use Rattle.std.specs.Prelude.{◌≡◌, refl, Bool, true, false, ℕ, ◌+◌, ◌-◌, ◌*◌, ◌%◌, ◌^◌, ◌≤◌, ◌<◌, eqb}
use Rattle.std.proofs.Common.{sym, ap, ◌∙◌, subst, ⊎_elim, zero-le, le_refl, le_of_eq, le_antisymm, lt_of_lt_of_le, mod-lt, mod-eq_of_lt, arith, pow_pos, pow_mono, eqb-true, eq-eqb}
use Rattle.std.proofs.Math.Nat.{zero-div}
use Rattle.std.proofs.Math.Arith.{sub-sub_self}
use Rattle.std.proofs.Math.Pow.{le_ones, ones_sub-lt}
use Rattle.words.specs.laws.Bits.{bit_cut, bit_cut_high, lt_or_ge}
use Rattle.words.specs.Agree.{Agrees, Within}
use Rattle.words.specs.laws.Agree.{within_of_bits, agrees_of_within, lo_within, within_hi, within_le, within_mod, within_not, within_trans, within_refl, within_zero, within_ones, agrees_only}
use Rattle.words.specs.inner.Decides.{Decides}
use Rattle.words.specs.laws.Decides.{decides_yes}
use Rattle.words.specs.inner.Words.{over}
use Rattle.words.specs.laws.Narrow.{over_mod, narrow_to}
use Rattle.boxes.specs.declared.Box.{Box}
use Rattle.boxes.specs.declared.Set.{Set}
use Rattle.boxes.specs.declared.Set.TheVariants.{Empty, Only, One}
use Rattle.boxes.specs.inner.Boxes.{In, span, word, low_are, mirrored, Bounded, shifted_to, Solves, Every, SomeAgreeing}

-- ---- how a set is shown to hold an equation's solutions

-- a set of solutions is one of those of an equivalent equation, and of fewer bits
pub solves_by : {w u : ℕ} {P Q : ℕ → Type 0} {S : Set} → w ≤ u → Solves u P S → ((v : ℕ) → v < 2 ^ w → P v → Q v) → ((v : ℕ) → v < 2 ^ w → Q v → P v) → Solves w Q S
solves_by h s f g = record {
  fine = s.fine;
  to = λ v l m. f v l (s.to v (lt_of_lt_of_le l (pow_mono h)) m);
  back = λ v l m. s.back v (lt_of_lt_of_le l (pow_mono h)) (g v l m);
}

pub solves_all : {w : ℕ} {Q : ℕ → Type 0} {S : Set} → w ≤ 64 → Solves 64 Every S → ((v : ℕ) → v < 2 ^ w → Q v) → Solves w Q S
solves_all h s f = solves_by h s (λ v l _. f v l) (λ v l _. tt)

pub solves_none : {w : ℕ} {Q : ℕ → Type 0} → ((v : ℕ) → v < 2 ^ w → Q v → ⊥) → Solves w Q Empty
solves_none f = record { fine = tt; to = λ v h m. absurd m; back = λ v h m. absurd (f v h m) }

-- ---- of an equation f v ≡ t

-- f is x whatever v is
pub same_by : {w x t : ℕ} {r : Set} (f : ℕ → ℕ) → w ≤ 64 → ((v : ℕ) → v < 2 ^ w → f v ≡ x) → Solves 64 (λ v. x ≡ t) r → Solves w (λ v. f v ≡ t) r
same_by f h e s = solves_by h s (λ v l m. e v l ∙ m) (λ v l m. sym (e v l) ∙ m)

pub only_one : (c : ℕ) → Solves 64 (λ v. v ≡ c) (Only c true)
only_one c = record { fine = tt; to = λ v h m. m.0; back = λ v h m. (m, refl) }

-- only k can give t
pub only_by : {w k x t : ℕ} {r : Set} (f : ℕ → ℕ) → w ≤ 64 → ((v : ℕ) → f v ≡ t → v ≡ k) → x ≡ f k → Solves 64 (λ v. (v ≡ k) × (x ≡ t)) r → Solves w (λ v. f v ≡ t) r
only_by f h u e s = solves_by h s (λ v l m. ap f m.0 ∙ sym e ∙ m.1) (λ v l m. (u v m, e ∙ ap f (sym (u v m)) ∙ m))

-- f is t from a on
pub from_by : {w a t : ℕ} {r : Set} (f : ℕ → ℕ) → w ≤ 64 → ((v : ℕ) → a ≤ v → f v ≡ t) → ((v : ℕ) → f v ≡ t → a ≤ v)
    → Solves 64 (λ v. (a ≤ v) × (v ≤ 2 ^ 64 - 1)) r → Solves w (λ v. f v ≡ t) r
from_by f h to back s = solves_by h s (λ v l m. to v m.0) (λ v l m. (back v m, le_ones 64 (lt_of_lt_of_le l (pow_mono h))))

-- the one value c, where x is t
pub only_solves : (c x t : ℕ) → Solves 64 (λ v. (v ≡ c) × (x ≡ t)) (Only c (eqb x t))
only_solves c x t = record { fine = tt; to = λ v h m. (m.0, eqb-true x t m.1); back = λ v h m. (m.0, eq-eqb x t m.1) }

-- the one value c, where A holds
pub where_by : {c : ℕ} {A : Type 0} {b : Bool} {r : Set} → Decides A b → Solves 64 (λ v. (v ≡ c) × (b ≡ true)) r → Solves 64 (λ v. (v ≡ c) × A) r
where_by {c} {A} {b} d s =
    solves_by (le_refl 64) s (λ v l m. (m.0, decides_yes A b d m.1)) (λ v l m. (m.0, told b d m.1))
  where
    told : (b : Bool) → Decides A b → A → b ≡ true
    told true d a = refl
    told false d a = absurd (d a)

-- a value is a pair that leaves no other
pub single_by : {u s : ℕ} {Q : ℕ → ℕ → Type 0} {r : Set} → Solves u (λ v. SomeAgreeing s s (Q v)) r → Solves u (λ v. Q v s) r
single_by {u} {s} {Q} z =
    solves_by (le_refl u) z (λ v l m. subst (Q v) (agrees_only m.fits refl) m.gives)
    (λ v l m. record { by = s; fits = agrees_of_within (within_refl s) (within_refl s); gives = m })

solves_one : {w : ℕ} {Q : ℕ → Type 0} (b : Box) → ((v : ℕ) → v < 2 ^ w → In b v → Q v) → ((v : ℕ) → v < 2 ^ w → Q v → In b v) → Solves w Q (One b)
solves_one b f g = record { fine = tt; to = f; back = g }

-- any word agrees with the free pair
free : (v : ℕ) → v < 2 ^ 64 → Agrees 0 (2 ^ 64 - 1) v
free v h = agrees_of_within (within_zero v) (within_ones 64 h)

pub in_span : (a b v : ℕ) → v < 2 ^ 64 → a ≤ v → v ≤ b → In (span a b) v
in_span a b v h l u = record { inside = free v h; after = l; upto = u }

pub in_word : {l u v : ℕ} → v < 2 ^ 64 → Agrees l u v → In (word l u) v
in_word h g = record { inside = g; after = zero-le; upto = le_ones 64 h }

pub span_solves : (a b : ℕ) → Solves 64 (λ v. (a ≤ v) × (v ≤ b)) (One (span a b))
span_solves a b = solves_one (span a b) (λ v h m. (m.after, m.upto)) (λ v h m. in_span a b v h m.0 m.1)

pub word_solves : (l u : ℕ) → Solves 64 (Agrees l u) (One (word l u))
word_solves l u = solves_one (word l u) (λ v h m. m.inside) (λ v h m. in_word h m)

-- the values whose n low bits are c
over_none : (n c : ℕ) → over n 0 c ≡ c
unfolding over
over_none n c = ap (λ (q : ℕ). q * 2 ^ n + c) (zero-div (2 ^ n)) ∙ omega arith

pub low_in : (n c v : ℕ) → c < 2 ^ n → v < 2 ^ 64 → v % 2 ^ n ≡ c → Agrees c (over n (2 ^ 64 - 1) c) v
low_in n c v hc hv e = rw (over_none n c) at (narrow_to n 0 (2 ^ 64 - 1) c hc v (free v hv) e)

pub in_low : (n c v : ℕ) → c < 2 ^ n → Agrees c (over n (2 ^ 64 - 1) c) v → v % 2 ^ n ≡ c
in_low n c v hc g =
    le_antisymm (within_le (rw (over_mod n (2 ^ 64 - 1) c hc) at (within_mod n (within_hi g))))
    (within_le (rw (mod-eq_of_lt hc) at (within_mod n (lo_within g))))

pub low_solves : (n c : ℕ) → c < 2 ^ n → Solves 64 (λ v. v % 2 ^ n ≡ c) (One (low_are n c))
low_solves n c hc = solves_one (low_are n c) (λ v h m. in_low n c v hc m.inside) (λ v h m. in_word h (low_in n c v hc h m))

-- what a shift takes to u, in words of w bits
pub shifted_bounded : (w u j : ℕ) → u * 2 ^ j + 2 ^ j ≤ 2 ^ w → Bounded w (shifted_to u j)
shifted_bounded w u j h = record { low = pow_pos w; from = omega (arith, pow_pos j); upto = omega (arith, pow_pos j) }

-- ---- the complement of a box is a box

-- twice the complement
pub not_not : (w : ℕ) {v : ℕ} → v < 2 ^ w → (2 ^ w - 1) - ((2 ^ w - 1) - v) ≡ v
not_not w h = sub-sub_self (le_ones w h)

within_cut : (w h : ℕ) → Within (h % 2 ^ w) h
within_cut w h =
    within_of_bits (h % 2 ^ w) h
    (λ i. ⊎_elim (λ (l : i < w). le_of_eq (bit_cut i h w l)) (λ (l : w ≤ i). rw (bit_cut_high i h w l) zero-le) (lt_or_ge i w))

module _ {w : ℕ} {b : Box} (bound : Bounded w b) {v : ℕ} (hv : v < 2 ^ w) where
  cut_lt : b.hi % 2 ^ w < 2 ^ w
  cut_lt = mod-lt b.hi (pow_pos w)

  pub in_mirror : In b v → In (mirrored w b) ((2 ^ w - 1) - v)
  in_mirror m = record {
    inside = agrees_of_within
        (within_not w hv cut_lt (rw (mod-eq_of_lt hv) at (within_mod w (within_hi m.inside))))
        (within_not w bound.low hv (lo_within m.inside));
    after = omega (arith, m.upto);
    upto = omega (arith, m.after);
  }

  pub mirror_in : In (mirrored w b) v → In b ((2 ^ w - 1) - v)
  mirror_in m = record {
    inside = agrees_of_within
        (rw (not_not w bound.low) at (within_not w hv (ones_sub-lt w b.lo) (within_hi m.inside)))
        (within_trans (rw (not_not w cut_lt) at (within_not w (ones_sub-lt w (b.hi % 2 ^ w)) hv (lo_within m.inside))) (within_cut w b.hi));
    after = omega (arith, m.upto, bound.from);
    upto = omega (arith, m.after, bound.upto);
  }

-- the box of P, mirrored, is that of P for the complement
pub mirror_solves : {w : ℕ} {P : ℕ → Type 0} {b : Box} → Bounded w b → Solves w P (One b) → Solves w (λ v. P ((2 ^ w - 1) - v)) (One (mirrored w b))
mirror_solves {w} {P} {b} bound s =
    solves_one (mirrored w b) (λ v h m. s.to ((2 ^ w - 1) - v) (ones_sub-lt w v) (mirror_in bound h m))
    (λ v h p. subst (In (mirrored w b)) (not_not w h) (in_mirror bound (ones_sub-lt w v) (s.back ((2 ^ w - 1) - v) (ones_sub-lt w v) p)))
