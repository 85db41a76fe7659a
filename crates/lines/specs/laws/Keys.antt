-- Laws of keywords told by numbers.
use Rattle.std.specs.Prelude.{◌≡◌, refl, Bool, true, false, cond, ◌&&◌, ◌||◌, List, [], ◌∷◌, ℕ, zero, suc, ◌+◌, ◌-◌, ◌*◌, ◌≤◌, ◌<◌, eqb, ltb, leb, length, get_or, drop}
use Rattle.std.proofs.Common.{sym, ap, ◌∙◌, add-one, zero-add, drop_of_length-le, drop-cons, eq-eqb, ne_eqb, eqb-true, ltb-true, leb-true}
use Rattle.std.proofs.lemmas.Bool.{false≢true, eqb-false}
use native.Mathlib.Omega.{arith}
use Rattle.texts.specs.Runs.{ascii, equal}
use Rattle.texts.specs.laws.Runs.{both_true, equal_length, equal_same, equal_self}
use Rattle.lines.specs.Lines.{Token}
use Rattle.lines.specs.Words.{names, index_of, number_of}
use Rattle.lines.specs.inner.Keys.{packed, position, keys}

-- ---- packing, from the end on

pub packed_end : (t : Token) (i : ℕ) → i ≡ length t → 1 ≡ packed (drop i t)
unfolding packed
packed_end t i e = let z : length t ≤ i = omega arith in rw (drop_of_length-le t z)

packed_at : (t : Token) (j : ℕ) → j < length t → packed (drop j t) ≡ get_or t j 0 + 256 * packed (drop (suc j) t)
unfolding packed
packed_at t j h = rw (drop-cons t j 0 h)

pub packed_turn : (t : Token) (i n : ℕ) → n ≡ packed (drop i t) → 0 < i → i ≤ length t → 256 * n + get_or t (i - 1) 0 ≡ packed (drop (i - 1) t)
packed_turn t i n e h l =
    let z : suc (i - 1) ≡ i = omega arith in
    let f : packed (drop (suc (i - 1)) t) ≡ packed (drop i t) = ap (λ (k : ℕ). packed (drop k t)) z in
    let g = packed_at t (i - 1) (omega arith) in
    omega arith

-- every byte is one
unfoldable pub Bytes : Token → Type 0
Bytes [] = Unit {0}
Bytes (b ∷ s) = (b < 256) × Bytes s

pub bytes_of : (t : Token) → ((i : ℕ) → get_or t i 0 < 256) → Bytes t
unfolding Bytes
bytes_of [] f = tt
bytes_of (b ∷ s) f = (f 0, bytes_of s (λ i. f (suc i)))

-- few bytes make a number that 64 bits hold
unfoldable pub bound : ℕ → ℕ
bound zero = 2
bound (suc n) = 256 * bound n

pub bound_starts : (l : ℕ) → 1 < bound (l - l)
unfolding bound
bound_starts l = let z : l - l ≡ 0 = omega arith in rw z (omega arith)

bound_most : (n : ℕ) → n ≤ 6 → bound n ≤ 562949953421312
unfolding bound
bound_most zero h = omega arith
bound_most (suc zero) h = omega arith
bound_most (suc (suc zero)) h = omega arith
bound_most (suc (suc (suc zero))) h = omega arith
bound_most (suc (suc (suc (suc zero)))) h = omega arith
bound_most (suc (suc (suc (suc (suc zero))))) h = omega arith
bound_most (suc (suc (suc (suc (suc (suc zero)))))) h = omega arith
bound_most (suc (suc (suc (suc (suc (suc (suc n))))))) h = absurd (omega arith)

pub bound_few : (l i n : ℕ) → n < bound (l - i) → 0 < i → l ≤ 7 → n < 562949953421312
bound_few l i n h p m = omega (arith, bound_most (l - i) (omega arith))

pub bound_turn : (l i n b : ℕ) → n < bound (l - i) → b < 256 → 0 < i → i ≤ l → 256 * n + b < bound (l - (i - 1))
unfolding bound
bound_turn l i n b h k p m = let z : l - (i - 1) ≡ suc (l - i) = omega arith in rw z (omega arith)

packed_some : (t : Token) → 1 ≤ packed t
unfolding packed
packed_some [] = omega arith
packed_some (b ∷ s) = omega (arith, packed_some s)

-- ---- a number tells its word

same_packed : (s t : Token) → Bytes s → Bytes t → packed s ≡ packed t → s ≡ t
unfolding packed Bytes
same_packed [] [] p q e = refl
same_packed [] (c ∷ t) p q e = absurd (omega (arith, packed_some t))
same_packed (b ∷ s) [] p q e = absurd (omega (arith, packed_some s))
same_packed (b ∷ s) (c ∷ t) p q e =
    let x = p.0 in
    let y = q.0 in
    let z : b ≡ c = omega arith in
    let u : packed s ≡ packed t = omega arith in
    let v : s ≡ t = same_packed s t p.1 q.1 u in
    rw (z, v)

tells : (t n : Token) → Bytes t → Bytes n → eqb (packed n) (packed t) ≡ equal t n
tells t n p q = by (eqb (packed n) (packed t)) refl
  where
    by : (b : Bool) → eqb (packed n) (packed t) ≡ b → b ≡ equal t n
    by true e = let z : t ≡ n = same_packed t n p q (sym (eqb-true (packed n) (packed t) e)) in rw z (sym (equal_self n))
    by false e = by2 (equal t n) refl
      where
        by2 : (c : Bool) → equal t n ≡ c → false ≡ c
        by2 true f = absurd (eqb-false (packed n) (packed t) e (ap packed (sym (equal_same t n f))))
        by2 false f = refl

-- ---- the list of keywords

-- every byte of a token is one, as a test; and keys that are those of their words, or 0 for a long word
bytes_test : Token → Bool
bytes_test [] = true
bytes_test (b ∷ s) = ltb b 256 && bytes_test s

keys_test : List Token → List ℕ → Bool
keys_test [] [] = true
keys_test [] (k ∷ ks) = false
keys_test (n ∷ ns) [] = false
keys_test (n ∷ ns) (k ∷ ks) = ((eqb k (packed n) && bytes_test n) || (eqb k 0 && ltb 7 (length n))) && keys_test ns ks

bytes_tested : (t : Token) → bytes_test t ≡ true → Bytes t
unfolding bytes_test Bytes
bytes_tested [] e = tt
bytes_tested (b ∷ s) e = let p = both_true (ltb b 256) (bytes_test s) e in (ltb-true b 256 p.0, bytes_tested s p.1)

key_tells : (t n : Token) (k : ℕ) → Bytes t → length t ≤ 7 → ((eqb k (packed n) && bytes_test n) || (eqb k 0 && ltb 7 (length n))) ≡ true → eqb k (packed t) ≡ equal t n
key_tells t n k p h e = by (eqb k (packed n) && bytes_test n) refl
  where
    by : (b : Bool) → (eqb k (packed n) && bytes_test n) ≡ b → eqb k (packed t) ≡ equal t n
    by true f =
        let a = both_true (eqb k (packed n)) (bytes_test n) f in
        rw (eqb-true k (packed n) a.0) (tells t n p (bytes_tested n a.1))
    by false f =
        let a = both_true (eqb k 0) (ltb 7 (length n)) (rw f at e) in
        let z : k ≡ 0 = eqb-true k 0 a.0 in
        let l : 7 < length n = ltb-true 7 (length n) a.1 in
        rw (z, ne_eqb 0 (packed t) (λ y. no y)) (sym (equal_length t n (λ y. long y l)))
      where
        no : 0 ≡ packed t → ⊥
        no y = omega (arith, packed_some t)

        long : length t ≡ length n → 7 < length n → ⊥
        long y l = omega arith

position_is : (t : Token) (ns : List Token) (ks : List ℕ) → Bytes t → length t ≤ 7 → keys_test ns ks ≡ true → position (packed t) ks ≡ index_of t ns
unfolding keys_test position index_of
position_is t [] [] p h e = refl
position_is t [] (k ∷ ks) p h e = absurd (false≢true e)
position_is t (n ∷ ns) [] p h e = absurd (false≢true e)
position_is t (n ∷ ns) (k ∷ ks) p h e =
    let a = both_true ((eqb k (packed n) && bytes_test n) || (eqb k 0 && ltb 7 (length n))) (keys_test ns ks) e in
    rw (key_tells t n k p h a.0, position_is t ns ks p h a.1)

keys_right : keys_test names keys ≡ true
unfolding keys_test bytes_test packed names ascii
keys_right = refl

pub short_number : (t : Token) → Bytes t → length t ≤ 7 → position (packed t) keys ≡ number_of t
unfolding number_of
short_number t p h = position_is t names keys p h keys_right

-- ---- long words

short_names : List Token → Bool
short_names [] = true
short_names (n ∷ ns) = (leb (length n) 7 || equal n (ascii "constraint")) && short_names ns

long_none : (t : Token) (ns : List Token) → 7 < length t → equal t (ascii "constraint") ≡ false → short_names ns ≡ true → index_of t ns ≡ length ns
unfolding short_names index_of
long_none t [] h e s = refl
long_none t (n ∷ ns) h e s =
    let a = both_true (leb (length n) 7 || equal n (ascii "constraint")) (short_names ns) s in
    rw (differs (leb (length n) 7) refl a.0, long_none t ns h e a.1)
  where
    differs : (b : Bool) → leb (length n) 7 ≡ b → (leb (length n) 7 || equal n (ascii "constraint")) ≡ true → equal t n ≡ false
    differs true f g = equal_length t n (λ y. let l : length n ≤ 7 = leb-true (length n) 7 f in apart y l)
      where
        apart : length t ≡ length n → length n ≤ 7 → ⊥
        apart y l = omega arith
    differs false f g =
        let z : n ≡ ascii "constraint" = equal_same n (ascii "constraint") (rw f at g) in
        rw z e

names_short : short_names names ≡ true
unfolding short_names names ascii equal
names_short = refl

all_names : length names ≡ 28
unfolding names
all_names = refl

pub long_number : (t : Token) (b : Bool) → 7 < length t → b ≡ equal t (ascii "constraint") → b ≡ false → 28 ≡ number_of t
unfolding number_of
long_number t b h e f = sym (long_none t names h (sym e ∙ f) names_short ∙ all_names)

constraint_number : number_of (ascii "constraint") ≡ 27
unfolding number_of index_of names equal ascii
constraint_number = refl

pub word_number : (t : Token) (b : Bool) → b ≡ equal t (ascii "constraint") → b ≡ true → 27 ≡ number_of t
word_number t b e f = let z : t ≡ ascii "constraint" = equal_same t (ascii "constraint") (sym e ∙ f) in rw z (sym constraint_number)

-- ---- the scan

position_at : (k : ℕ) (ks : List ℕ) (i : ℕ) → i < length ks → position k (drop i ks) ≡ cond (eqb (get_or ks i 0) k) 0 (suc (position k (drop (suc i) ks)))
unfolding position
position_at k ks i h = rw (drop-cons ks i 0 h)

pub position_starts : (k : ℕ) (ks : List ℕ) → position k ks ≡ 0 + position k (drop 0 ks)
position_starts k ks = sym (zero-add _)

module _ (k : ℕ) (ks : List ℕ) (i : ℕ) (q : position k ks ≡ i + position k (drop i ks)) where
  pub position_turn : i < length ks → (get_or ks i 0 ≡ k → ⊥) → position k ks ≡ (i + 1) + position k (drop (i + 1) ks)
  position_turn h e =
      let f : position k (drop i ks) ≡ suc (position k (drop (suc i) ks)) = position_at k ks i h ∙ rw (ne_eqb (get_or ks i 0) k e) in
      rw add-one (omega arith)

  pub position_found : i < length ks → get_or ks i 0 ≡ k → i ≡ position k ks
  position_found h e =
      let f : position k (drop i ks) ≡ 0 = position_at k ks i h ∙ rw (eq-eqb (get_or ks i 0) k e) in
      omega arith

  pub position_over : length ks ≤ i → i ≡ position k ks
  unfolding position
  position_over h =
      let f : position k (drop i ks) ≡ 0 = rw (drop_of_length-le ks h) in
      omega arith
