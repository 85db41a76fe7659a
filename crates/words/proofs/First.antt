-- The least value from p on that agrees with a ternary word: where it is, by the highest bit at which p clashes. All at any width.
use Rattle.std.proofs.Common.{◌≡◌, ℕ, suc, ◌+◌, ◌*◌, ◌/◌, ◌%◌, ◌^◌, ◌<◌, ◌≤◌, sym, ap, ◌∙◌, subst, ap₂, zero-le, le_trans, le_of_eq, le_refl, lt_of_lt_of_le, lt_of_le_of_lt, mul-le-mul_right, mod-lt, le_antisymm, one-mul, pow-suc, lt_of_not-le, le-div_iff_mul-le, arith, pow_pos, pow_mono, shr-shr}
use native.Mathlib.Nat.{div-eq_of_lt, div-div-eq-div-mul}
use lib.Pow.{split, high, low, shr_mono}
use lib.Bits.{bit_or, or_shr}
use Rattle.words.specs.Bits.{bit}
use Rattle.words.specs.laws.Bits.{bit_set_lt}
use Rattle.words.specs.Agree.{Within, Agrees}
use Rattle.words.specs.laws.Agree.{within_le, within_refl, within_trans, within_div, within_mod, within_join, bit_within_one, agrees_of_within, lo_within, within_hi}
use Rattle.words.specs.inner.Words.{less, raised, Top, Tail}
use Rattle.words.specs.laws.Less.{within_of_less, less_of_within, less_div, less_mod, or_zero, less_odd}
use Rattle.words.specs.Pick.{Least, NoneFrom}

-- the bits at which p does not agree with lo, hi
unfoldable clash : ℕ → ℕ → ℕ → ℕ
clash lo hi p = bit_or (less lo p) (less p hi)

clash_div : (lo hi p k : ℕ) → clash lo hi p / 2 ^ k ≡ clash (lo / 2 ^ k) (hi / 2 ^ k) (p / 2 ^ k)
unfolding clash
clash_div lo hi p k = or_shr (less lo p) (less p hi) k ∙ ap₂ bit_or (less_div lo p k) (less_div p hi k)

no_clash : (lo hi p : ℕ) → clash lo hi p ≡ 0 → Within lo p × Within p hi
unfolding clash
no_clash lo hi p e = (within_of_less lo p (or_zero (less lo p) (less p hi) e).0, within_of_less p hi (or_zero (less lo p) (less p hi) e).1)

clash_none : {lo hi p : ℕ} → Within lo p → Within p hi → clash lo hi p ≡ 0
unfolding clash
clash_none a b = ap₂ bit_or (less_of_within a) (less_of_within b)

-- where no clash stands at k or above, the parts from k on agree
agree_above : (lo hi p k : ℕ) → clash lo hi p < 2 ^ k → Within (lo / 2 ^ k) (p / 2 ^ k) × Within (p / 2 ^ k) (hi / 2 ^ k)
agree_above lo hi p k h = no_clash (lo / 2 ^ k) (hi / 2 ^ k) (p / 2 ^ k) (sym (clash_div lo hi p k) ∙ div-eq_of_lt h)

-- where one does, no value that agrees has p's part from k on
differs : (lo hi p k u : ℕ) → 2 ^ k ≤ clash lo hi p → Within lo u → Within u hi → u / 2 ^ k ≡ p / 2 ^ k → ⊥
differs lo hi p k u h a b e =
    let z : clash lo hi p / 2 ^ k ≡ 0 =
    clash_div lo hi p k ∙ clash_none (subst (λ (n : ℕ). Within (lo / 2 ^ k) n) e (within_div k a)) (subst (λ (n : ℕ). Within n (hi / 2 ^ k)) e (within_div k b)) in
    let o : 1 ≤ clash lo hi p / 2 ^ k = (le-div_iff_mul-le (pow_pos k)).1 (le_trans (le_of_eq (one-mul (2 ^ k))) h) in
    omega arith

-- two numbers, the first no less, equal above m, and the first no greater below m
same_part : (x y m : ℕ) → y ≤ x → x / m ≡ y / m → x % m ≤ y % m → x / m * m + x % m ≡ x → y / m * m + y % m ≡ y → x ≡ y
same_part x y m h e l f g = omega (arith, ap (λ (n : ℕ). n * m) e)

raised_div : (lo p i : ℕ) → raised lo p i / 2 ^ i ≡ p / 2 ^ i + 1
unfolding raised
raised_div lo p i = high (p / 2 ^ i + 1) i (mod-lt lo (pow_pos i))

raised_mod : (lo p i : ℕ) → raised lo p i % 2 ^ i ≡ lo % 2 ^ i
unfolding raised
raised_mod lo p i = low (p / 2 ^ i + 1) i (mod-lt lo (pow_pos i))

above_p : (lo p i : ℕ) → p ≤ raised lo p i
unfolding raised
above_p lo p i = omega (arith, split p i, mod-lt p (pow_pos i))

below_u : (lo p i u : ℕ) → p / 2 ^ i < u / 2 ^ i → lo % 2 ^ i ≤ u % 2 ^ i → raised lo p i ≤ u
unfolding raised
below_u lo p i u h l = omega (arith, split u i, mul-le-mul_right (2 ^ i) h)

module _ (lo hi p j : ℕ) (ordered : Within lo hi) (at_j : 2 ^ j ≤ clash lo hi p) where
  -- no room from j on: no value that agrees is p or above
  none_from : less (hi / 2 ^ j) (p / 2 ^ j) ≡ 0 → NoneFrom (Agrees lo hi) p
  none_from z u g h =
      let q : Within (u / 2 ^ j) (p / 2 ^ j) = within_trans (within_div j (within_hi g)) (within_of_less (hi / 2 ^ j) (p / 2 ^ j) z) in
      differs lo hi p j u at_j (lo_within g) (within_hi g) (le_antisymm (within_le q) (shr_mono j h))

  module _ (t : ℕ) (no_higher : clash lo hi p < 2 ^ suc j) (clear : less (hi / 2 ^ j) (p / 2 ^ j) % 2 ^ t ≡ 0) (set : less (hi / 2 ^ j) (p / 2 ^ j) / 2 ^ t % 2 ≡ 1) where
    -- a value that agrees, from p on, is above p already at j + t
    parts : (u : ℕ) → Agrees lo hi u → p ≤ u → u / 2 ^ (j + t) ≡ p / 2 ^ (j + t) → ⊥
    parts u g h e =
        let X = u / 2 ^ j in
        let Y = p / 2 ^ j in
        let w : Within (hi / 2 ^ j % 2 ^ t) (Y % 2 ^ t) = within_of_less (hi / 2 ^ j % 2 ^ t) (Y % 2 ^ t) (sym (less_mod (hi / 2 ^ j) Y t) ∙ clear) in
        let l : X % 2 ^ t ≤ Y % 2 ^ t = within_le (within_trans (within_mod t (within_div j (within_hi g))) w) in
        differs lo hi p j u at_j (lo_within g) (within_hi g)
        (same_part X Y (2 ^ t) (shr_mono j h) (shr-shr u j t ∙ e ∙ sym (shr-shr p j t)) l (split X t) (split Y t))

    room_bit : less (hi / 2 ^ (j + t)) (p / 2 ^ (j + t)) % 2 ≡ 1
    room_bit =
        ap (λ (n : ℕ). n % 2) (ap₂ less (sym (shr-shr hi j t)) (sym (shr-shr p j t)) ∙ sym (less_div (hi / 2 ^ j) (p / 2 ^ j) t)) ∙ set

    -- the bit from which the answer differs: j + t
    hi_odd : hi / 2 ^ (j + t) % 2 ≡ 1
    hi_odd = (less_odd (hi / 2 ^ (j + t)) (p / 2 ^ (j + t)) room_bit).0

    p_even : p / 2 ^ (j + t) % 2 ≡ 0
    p_even = (less_odd (hi / 2 ^ (j + t)) (p / 2 ^ (j + t)) room_bit).1

    higher : (n : ℕ) → n / 2 ^ suc (j + t) ≡ n / 2 ^ (j + t) / 2
    higher n = ap (λ (m : ℕ). n / m) (pow-suc 2 (j + t)) ∙ sym (div-div-eq-div-mul n (2 ^ (j + t)) 2)

    no_clash_above : clash lo hi p < 2 ^ suc (j + t)
    no_clash_above = lt_of_lt_of_le no_higher (pow_mono (omega arith))

    up_half : (p / 2 ^ (j + t) + 1) / 2 ≡ p / 2 ^ (j + t) / 2
    up_half = omega (arith, p_even)

    up_odd : (p / 2 ^ (j + t) + 1) % 2 ≡ 1
    up_odd = omega (arith, p_even)

    high_over : Within (lo / 2 ^ (j + t)) (p / 2 ^ (j + t) + 1)
    high_over =
        within_join 1 (lo / 2 ^ (j + t)) (p / 2 ^ (j + t) + 1)
        (rw up_half (rw (higher lo, higher p) at (agree_above lo hi p (suc (j + t)) no_clash_above).0))
        (rw up_odd (bit_within_one (lo / 2 ^ (j + t) % 2) (mod-lt (lo / 2 ^ (j + t)) (pow_pos 1))))

    high_under : Within (p / 2 ^ (j + t) + 1) (hi / 2 ^ (j + t))
    high_under =
        within_join 1 (p / 2 ^ (j + t) + 1) (hi / 2 ^ (j + t))
        (rw up_half (rw (higher hi, higher p) at (agree_above lo hi p (suc (j + t)) no_clash_above).1))
        (rw (up_odd, hi_odd) (within_refl 1))

    raised_agrees : Agrees lo hi (raised lo p (j + t))
    raised_agrees =
        agrees_of_within
        (within_join (j + t) lo (raised lo p (j + t)) (rw raised_div high_over) (rw raised_mod (within_refl (lo % 2 ^ (j + t)))))
        (within_join (j + t) (raised lo p (j + t)) hi (rw raised_div high_under) (rw raised_mod (within_mod (j + t) ordered)))

    raised_least : Least (Agrees lo hi) p (raised lo p (j + t))
    raised_least = record { member = raised_agrees; from = above_p lo p (j + t); least = least }
      where
        least : (u : ℕ) → Agrees lo hi u → p ≤ u → raised lo p (j + t) ≤ u
        least u g h = below_u lo p (j + t) u (lt_of_not-le (λ (k : u / 2 ^ (j + t) ≤ p / 2 ^ (j + t)). parts u g h (le_antisymm k (shr_mono (j + t) h)))) (within_le (within_mod (j + t) (lo_within g)))

    -- that place is within any width that holds hi
    place_lt : (w : ℕ) → hi < 2 ^ w → j + t < w
    unfolding bit
    place_lt w h = bit_set_lt (j + t) hi w h hi_odd

-- ---- the same, of the numbers that the code names

pub here : (lo hi p a b : ℕ) → a ≡ less lo p → b ≡ less p hi → bit_or a b ≡ 0 → Least (Agrees lo hi) p p
unfolding clash
here lo hi p a b ea eb e =
    let g = no_clash lo hi p (ap₂ bit_or (sym ea) (sym eb) ∙ e) in
    record { member = agrees_of_within g.0 g.1; from = le_refl p; least = λ u _ h. h }

module _ (lo hi p a b j r : ℕ) (ordered : Within lo hi) (ea : a ≡ less lo p) (eb : b ≡ less p hi) (top : Top 64 (bit_or a b) j) (er : r ≡ less (hi / 2 ^ j) (p / 2 ^ j)) where
  from_j : 2 ^ j ≤ clash lo hi p
  unfolding clash
  from_j = le_trans top.from (le_of_eq (ap₂ bit_or ea eb))

  below_j : clash lo hi p < 2 ^ suc j
  unfolding clash
  below_j = lt_of_le_of_lt (le_of_eq (ap₂ bit_or (sym ea) (sym eb))) top.below

  pub nothing : r ≡ 0 → NoneFrom (Agrees lo hi) p
  nothing e = none_from lo hi p j ordered from_j (sym er ∙ e)

  module _ (t : ℕ) (tail : Tail 64 r t) where
    pub risen : Least (Agrees lo hi) p (raised lo p (j + t))
    risen = raised_least lo hi p j ordered from_j t below_j (rw (← er) tail.clear) (rw (← er) tail.set)

    pub risen_place : hi < 2 ^ 64 → j + t < 64
    risen_place h = place_lt lo hi p j ordered from_j t below_j (rw (← er) tail.clear) (rw (← er) tail.set) 64 h

-- lo itself is the least value of all that agrees
pub lo_least : (lo hi : ℕ) → Within lo hi → Least (Agrees lo hi) 0 lo
lo_least lo hi h = record { member = agrees_of_within (within_refl lo) h; from = zero-le; least = λ u g _. within_le (lo_within g) }
