-- Laws of digits and of the numbers that they say.
use Rattle.std.specs.Prelude.{◌≡◌, refl, Bool, true, false, cond, not, ◌&&◌, List, [], ◌∷◌, ℕ, suc, ◌+◌, ◌-◌, ◌*◌, ◌/◌, ◌^◌, ◌≤◌, ◌<◌, ltb, leb, eqb, length, get_or, drop, zero, Option, Some, None}
use Rattle.std.proofs.Common.{ap, sym, ◌∙◌, arith, add-one, mul_comm, mul-le-mul_right, le-div_iff_mul-le, div-lt_iff_lt-mul, drop_of_length-le, drop-cons, leb-true, lt-ltb, le-ltb, ltb-false, ltb-true}
use Rattle.std.specs.List.{list_all}
use Rattle.texts.specs.Numbers.{digit_of, all_in, digits_in, value_from, value_in, numbered}
use Rattle.texts.specs.laws.Runs.{both_true}

-- ---- one digit

pub between : (a b x : ℕ) → (leb a x && leb x b) ≡ true → (a ≤ x) × (x ≤ b)
between a b x h = (leb-true a x (both_true (leb a x) (leb x b) h).0, leb-true x b (both_true (leb a x) (leb x b) h).1)

pub digit_decimal : (b : ℕ) → (leb 48 b && leb b 57) ≡ true → b - 48 ≡ digit_of b
unfolding digit_of
digit_decimal b h = rw h

pub digit_small : (b : ℕ) → (leb 48 b && leb b 57) ≡ false → (leb 97 b && leb b 102) ≡ true → b - 87 ≡ digit_of b
unfolding digit_of
digit_small b g h = rw (g, h)

pub digit_large :
    (b : ℕ) → (leb 48 b && leb b 57) ≡ false → (leb 97 b && leb b 102) ≡ false → (leb 65 b && leb b 70) ≡ true → b - 55 ≡ digit_of b
unfolding digit_of
digit_large b f g h = rw (f, g, h)

pub digit_none :
    (b : ℕ) → (leb 48 b && leb b 57) ≡ false → (leb 97 b && leb b 102) ≡ false → (leb 65 b && leb b 70) ≡ false → 16 ≡ digit_of b
unfolding digit_of
digit_none b f g h = rw (f, g, h)

-- ---- digits and nothing else

all_at : (base : ℕ) (s : List ℕ) (i : ℕ) → i < length s
    → all_in base (drop i s) ≡ (ltb (digit_of (get_or s i 0)) base && all_in base (drop (suc i) s))
unfolding all_in
all_at base s i h = rw (drop-cons s i 0 h)

pub all_turn : (base : ℕ) (s : List ℕ) (i d : ℕ) → all_in base s ≡ all_in base (drop i s) → i < length s → d ≡ digit_of (get_or s i 0)
    → d < base → all_in base s ≡ all_in base (drop (i + 1) s)
all_turn base s i d k h e l = rw add-one (k ∙ all_at base s i h ∙ rw (← e, lt-ltb d base l))

pub all_stops : (base : ℕ) (s : List ℕ) (i d : ℕ) → all_in base s ≡ all_in base (drop i s) → i < length s → d ≡ digit_of (get_or s i 0)
    → base ≤ d → false ≡ digits_in base s
unfolding digits_in
all_stops base s i d k h e l = let f : all_in base s ≡ false = k ∙ all_at base s i h ∙ rw (← e, le-ltb d base l) in rw f

pub all_end : (base : ℕ) (s : List ℕ) (i : ℕ) → all_in base s ≡ all_in base (drop i s) → i ≡ length s → not (eqb i 0) ≡ digits_in base s
unfolding digits_in all_in
all_end base s i k e =
    let g : length s ≤ i = omega arith in
    let f : all_in base s ≡ true = k ∙ rw (drop_of_length-le s g) in
    rw (f, ← e)

pub all_in_by_list_all : (base : ℕ) (xs : List ℕ) → list_all (λ b. ltb (digit_of b) base) xs ≡ all_in base xs
unfolding all_in
all_in_by_list_all base [] = refl
all_in_by_list_all base (x ∷ xs) = ap (λ t. ltb (digit_of x) base && t) (all_in_by_list_all base xs)

-- ---- the number

value_at : (base a : ℕ) (s : List ℕ) (i : ℕ) → i < length s
    → value_from base a (drop i s) ≡ value_from base (base * a + digit_of (get_or s i 0)) (drop (suc i) s)
unfolding value_from
value_at base a s i h = rw (drop-cons s i 0 h)

pub value_starts : (base : ℕ) (s : List ℕ) → value_in base s ≡ value_from base 0 (drop 0 s)
unfolding value_in
value_starts base s = refl

-- more digits make no number smaller
grows : (a n : ℕ) → 0 < a → n ≤ a * n
grows zero n h = elim h [ ]
grows (suc a) n h = omega arith

pub value_grows : (base a : ℕ) (s : List ℕ) → 0 < base → a ≤ value_from base a s
unfolding value_from
value_grows base a [] h = omega arith
value_grows base a (b ∷ s) h = omega (arith, grows base a h, value_grows base (base * a + digit_of b) s h)

pub numbered_small : (n : ℕ) → n < 2 ^ 64 → numbered n ≡ Some n
unfolding numbered
numbered_small n h = rw (lt-ltb n (2 ^ 64) h)

pub numbered_huge : (n : ℕ) → 2 ^ 64 ≤ n → numbered n ≡ None
unfolding numbered
numbered_huge n h = rw (le-ltb n (2 ^ 64) h)

is_small : (n m : ℕ) (t : Bool) → t ≡ ltb n (2 ^ 64) → cond t (Some n) None ≡ Some m → (n ≡ m)
is_small n m true e h = cc
is_small n m false e h = absurd (let z : ◌≡◌ {A = ℕ} 0 1 = cc in omega arith)

pub small_is : (n m : ℕ) → numbered n ≡ Some m → n ≡ m
unfolding numbered
small_is n m h = is_small n m _ refl h

below_small : (n m : ℕ) (t : Bool) → t ≡ ltb n (2 ^ 64) → cond t (Some n) None ≡ Some m → m < 2 ^ 64
below_small n m true e h = let f : n ≡ m = cc in omega (arith, ltb-true n (2 ^ 64) (sym e))
below_small n m false e h = absurd (let z : ◌≡◌ {A = ℕ} 0 1 = cc in omega arith)

pub small_below : (n m : ℕ) → numbered n ≡ Some m → m < 2 ^ 64
unfolding numbered
small_below n m h = below_small n m _ refl h

is_huge : (n : ℕ) (t : Bool) → t ≡ ltb n (2 ^ 64) → cond t (Some n) None ≡ None → 2 ^ 64 ≤ n
is_huge n true e h = absurd (let z : ◌≡◌ {A = ℕ} 0 1 = cc in omega arith)
is_huge n false e h = ltb-false n (2 ^ 64) (sym e)

pub huge_is : (n : ℕ) → numbered n ≡ None → 2 ^ 64 ≤ n
unfolding numbered
huge_is n h = is_huge n _ refl h

pub answer_below : (n m : ℕ) (r : Option ℕ) → r ≡ numbered n → r ≡ Some m → m < 2 ^ 64
answer_below n m r q y = small_below n m (sym q ∙ y)

-- a turn of the loop that reads digits: the answer r of one digit more is small, or huge
pub value_turn : (base n : ℕ) (s : List ℕ) (i d m : ℕ) (r : Option ℕ)
    → value_in base s ≡ value_from base n (drop i s)
    → i < length s
    → d ≡ digit_of (get_or s i 0)
    → r ≡ numbered (base * n + d)
    → r ≡ Some m
    → value_in base s ≡ value_from base m (drop (i + 1) s)
value_turn base n s i d m r k h e q y =
    let f : base * n + d ≡ m = small_is _ _ (sym q ∙ y) in
    rw add-one (k ∙ value_at base n s i h ∙ rw (← e, f))

pub value_huge : (base n : ℕ) (s : List ℕ) (i d : ℕ) (r : Option ℕ)
    → value_in base s ≡ value_from base n (drop i s)
    → 0 < base
    → i < length s
    → d ≡ digit_of (get_or s i 0)
    → r ≡ numbered (base * n + d)
    → r ≡ None
    → None ≡ numbered (value_in base s)
value_huge base n s i d r k p h e q y =
    let f : 2 ^ 64 ≤ base * n + d = huge_is _ (sym q ∙ y) in
    let g : value_in base s ≡ value_from base (base * n + d) (drop (suc i) s) = k ∙ value_at base n s i h ∙ rw e in
    sym (numbered_huge _ (omega (arith, g, value_grows base (base * n + d) (drop (suc i) s) p)))

pub value_end : (base n : ℕ) (s : List ℕ) (i : ℕ) → value_in base s ≡ value_from base n (drop i s) → length s ≤ i → n < 2 ^ 64
    → Some n ≡ numbered (value_in base s)
unfolding value_from
value_end base n s i k h l =
    let f : value_in base s ≡ n = k ∙ rw (drop_of_length-le s h) in
    rw f (sym (numbered_small n l))

-- the same as the loop over the digits has them
pub value_step :
    (base a i : ℕ) (xs : List ℕ) → i < length xs
    → value_from base a (drop i xs) ≡ value_from base (base * a + digit_of (get_or xs i 0)) (drop (i + 1) xs)
value_step base a i xs h = rw add-one (value_at base a xs i h)

pub too_large :
    (base a i : ℕ) (xs : List ℕ) (n : ℕ) → 0 < base → i < length xs → value_from base a (drop i xs) ≡ n
    → None ≡ numbered (base * a + digit_of (get_or xs i 0)) → None ≡ numbered n
too_large base a i xs n p h e q =
    let f : 2 ^ 64 ≤ base * a + digit_of (get_or xs i 0) = huge_is _ (sym q) in
    let g = value_step base a i xs h in
    sym (numbered_huge n (omega (arith, f, e, g, value_grows base (base * a + digit_of (get_or xs i 0)) (drop (i + 1) xs) p)))

pub value_done :
    (base a i : ℕ) (xs : List ℕ) (n : ℕ) → length xs ≤ i → value_from base a (drop i xs) ≡ n → a < 2 ^ 64 → Some a ≡ numbered n
unfolding value_from
value_done base a i xs n h e l =
    let k : a ≡ n = sym (rw (drop_of_length-le xs h)) ∙ e in
    rw (← k) (sym (numbered_small a l))

-- one digit more, as code finds out whether it still fits
pub fits_small : (base n d : ℕ) → 0 < base → d ≤ 16 → n ≤ (2 ^ 64 - 1 - d) / base → base * n + d < 2 ^ 64
fits_small base n d p q h = omega (arith, (le-div_iff_mul-le p).0 h, mul_comm base n)

pub fits_huge : (base n d : ℕ) → 0 < base → d ≤ 16 → (2 ^ 64 - 1 - d) / base < n → 2 ^ 64 ≤ base * n + d
fits_huge base n d p q h = omega (arith, (div-lt_iff_lt-mul p).0 h, mul_comm base n)

-- a number that leaves eight bits takes a digit of any base of a byte
pub fits_low : (base n d : ℕ) → base ≤ 255 → d ≤ 16 → n < 2 ^ 56 → base * n + d < 2 ^ 64
fits_low base n d p q h = omega (arith, mul-le-mul_right n p)
