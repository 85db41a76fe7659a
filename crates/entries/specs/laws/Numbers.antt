-- Laws of the numbers in an entry: numerals, widths, literals, decimals.
use Rattle.std.specs.Prelude.{◌≡◌, ℕ, zero, suc, ◌-◌, ◌*◌, ◌^◌, ◌<◌, ◌≤◌, Bool, true, false, cond, not, ◌&&◌, ◌||◌, List, [], ◌∷◌, length, take, drop, ◌==◌, ◌≢◌, nat_le, slice_index, slice_index_or, refl, Option, Some, None, Result, Ok, Err, is_err}
use Rattle.std.specs.Result.{result_ok}
use Rattle.std.proofs.Common.{sym, ap, ◌∙◌, le_trans, pow_mono, length-drop, take_all, leb-true, leb-false, le-leb, le-ltb, eq-eqb, ne_eqb, eqb-true, true≢false}
use native.Mathlib.Omega.{arith}
use Rattle.std.proofs.Math.Decide.{dec_lt}
use Rattle.std.proofs.lemmas.Bool.{lt-leb}
use Rattle.texts.specs.Runs.{ascii, equal}
use Rattle.texts.specs.Numbers.{digit_of, all_in, digits_in, value_in, numbered}
use Rattle.texts.specs.laws.Numbers.{small_is, huge_is, numbered_small, numbered_huge}
use Rattle.entries.specs.Tokens.{tokens}
use Rattle.entries.specs.Entries.{is_numeral, up_to64, width_said, base_of, literal_width, is_decimal, Entry, is_literal, value_width, value_said, misfits}
use Rattle.entries.specs.inner.Places.{overflows, small, sort_said, entry_said, word_of, told_to, word_in, word_for, item_said}

and_true : (a : Bool) → (a && true) ≡ a
and_true true = refl
and_true false = refl

and_false : (a : Bool) → (a && false) ≡ false
and_false true = refl
and_false false = refl

-- ---- numerals

pub numeral_is : (t : List ℕ) (a : Bool) (b : ℕ) → a ≡ digits_in 10 t → b ≡ slice_index t 0 → (a && (length t == 1 || not (b == 48))) ≡ is_numeral t
unfolding is_numeral
numeral_is t a b p q = rw (p, q)

pub up_low : (w : ℕ) → w ≤ 64 → w ≡ up_to64 w
unfolding up_to64
up_low w h = rw (le-leb w 64 h)

pub up_high : (w : ℕ) → 64 < w → 0 ≡ up_to64 w
unfolding up_to64
up_high w h = rw (lt-leb w 64 h)

module _ (t : List ℕ) (r : Bool) (q : r ≡ is_numeral t) where
  pub said_none : r ≡ false → 0 ≡ width_said t
  unfolding width_said
  said_none y = rw (← q, y)

  pub said_huge : (n : Option ℕ) → r ≡ true → n ≡ numbered (value_in 10 t) → n ≡ None → 0 ≡ width_said t
  unfolding width_said
  said_huge n y e h = rw (← q, y) (up_high (value_in 10 t) (far (value_in 10 t) (huge_is (value_in 10 t) (sym e ∙ h))))
    where
      far : (v : ℕ) → 2 ^ 64 ≤ v → 64 < v
      far v k = omega arith

  pub said_small : (n : Option ℕ) (w u : ℕ) → r ≡ true → n ≡ numbered (value_in 10 t) → n ≡ Some w → u ≡ up_to64 w → u ≡ width_said t
  unfolding width_said
  said_small n w u y e h k = k ∙ rw (← q, y, small_is (value_in 10 t) w (sym e ∙ h))

-- ---- the first two bytes, and the rest

pub begins_short : (t : List ℕ) (a b : ℕ) → length t < 2 → false ≡ equal (take 2 t) (a ∷ b ∷ [])
unfolding equal
begins_short [] a b h = refl
begins_short (x ∷ []) a b h = sym (and_false (x == a))
begins_short (x ∷ y ∷ t) a b h = absurd (omega arith)

pub begins_long : (t : List ℕ) (a b : ℕ) → 2 ≤ length t → (slice_index t 0 == a && slice_index t 1 == b) ≡ equal (take 2 t) (a ∷ b ∷ [])
unfolding equal
begins_long [] a b h = absurd (omega arith)
begins_long (x ∷ []) a b h = absurd (omega arith)
begins_long (x ∷ y ∷ t) a b h = rw (and_true (y == b))

pub beyond_short : (t : List ℕ) → length t < 2 → take (length t - length t) (drop (length t) t) ≡ drop 2 t
beyond_short [] h = refl
beyond_short (x ∷ []) h = refl
beyond_short (x ∷ y ∷ t) h = absurd (omega arith)

pub beyond_long : (t : List ℕ) → take (length t - 2) (drop 2 t) ≡ drop 2 t
beyond_long t = take_all (length t - 2) (drop 2 t) (omega (arith, length-drop 2 t))

-- ---- literals

module _ (t : List ℕ) (a b : Bool) (p : a ≡ equal (take 2 t) (35 ∷ 98 ∷ [])) (q : b ≡ equal (take 2 t) (35 ∷ 120 ∷ [])) where
  pub base_sixteen : a ≡ false → b ≡ true → 16 ≡ base_of t
  unfolding base_of ascii
  base_sixteen x y = rw (← p, ← q, x, y)

  pub base_none : a ≡ false → b ≡ false → 0 ≡ base_of t
  unfolding base_of ascii
  base_none x y = rw (← p, ← q, x, y)

pub base_two : (t : List ℕ) (a : Bool) → a ≡ equal (take 2 t) (35 ∷ 98 ∷ []) → a ≡ true → 2 ≡ base_of t
unfolding base_of ascii
base_two t a p y = rw (← p, y)

pub bits_two : (base count r : ℕ) → base ≡ 2 → r ≡ up_to64 count → r ≡ up_to64 (cond (base == 2) count (4 * count))
bits_two base count r e h = h ∙ rw (eq-eqb base 2 e)

pub bits_few : (base count : ℕ) → (base ≢ 2) → count ≤ 16 → 4 * count ≡ up_to64 (cond (base == 2) count (4 * count))
bits_few base count x h = rw (ne_eqb base 2 x) (up_low (4 * count) (omega arith))

pub bits_many : (base count : ℕ) → (base ≢ 2) → 16 < count → 0 ≡ up_to64 (cond (base == 2) count (4 * count))
bits_many base count x h = rw (ne_eqb base 2 x) (up_high (4 * count) (omega arith))

module _ (t d : List ℕ) (base : ℕ) (r : Bool) (p : base ≡ base_of t) (e : d ≡ drop 2 t) (q : r ≡ digits_in base d) where
  pub literal_none : r ≡ false → 0 ≡ literal_width t
  unfolding literal_width
  literal_none y = rw (← p, ← e, ← q, y)

  pub literal_some : (w : ℕ) → r ≡ true → w ≡ up_to64 (cond (base == 2) (length d) (4 * length d)) → w ≡ literal_width t
  unfolding literal_width
  literal_some w y h = h ∙ rw (← p, ← e, ← q, y)

digits_none : (s : List ℕ) → digits_in 0 s ≡ false
unfolding digits_in all_in
digits_none [] = refl
digits_none (x ∷ xs) = ap (λ (b : Bool). b && all_in 0 xs && not (length (x ∷ xs) == 0)) (le-ltb (digit_of x) 0 (omega arith))

-- a literal has a base
pub literal_base : (t : List ℕ) (w base : ℕ) → w ≡ literal_width t → 0 < w → base ≡ base_of t → 0 < base
unfolding literal_width
literal_base t w zero e h b = absurd (omega (arith, zero_wide (sym b) e))
  where
    zero_wide : base_of t ≡ 0 → w ≡ cond (digits_in (base_of t) (drop 2 t)) (up_to64 (cond (base_of t == 2) (length (drop 2 t)) (4 * length (drop 2 t)))) 0 → w ≡ 0
    zero_wide z k = k ∙ rw (z, digits_none (drop 2 t))
literal_base t w (suc n) e h b = omega arith

pub decimal_is : (t d : List ℕ) (a b : Bool) → a ≡ equal (take 2 t) (98 ∷ 118 ∷ []) → d ≡ drop 2 t → b ≡ is_numeral d → (a && b) ≡ is_decimal t
unfolding is_decimal ascii
decimal_is t d a b p e q = rw (p, q, e)

-- ---- too large for a width

pub over_huge : (n : Option ℕ) (w : ℕ) → n ≡ None → true ≡ overflows n w
over_huge n w e = rw e

pub over_small : (n : Option ℕ) (v w : ℕ) (r : Bool) → n ≡ Some v → r ≡ nat_le (2 ^ w) v → r ≡ overflows n w
over_small n v w r e h = rw e h

pub small_some : (v : ℕ) (x : Option ℕ) → x ≡ Some v → v ≡ small x
small_some v x e = rw e

pub small_none : (x : Option ℕ) → x ≡ None → 0 ≡ small x
small_none x e = rw e

-- what 64 bits hold is the number itself
pub small_is_it : (n : ℕ) → n < 2 ^ 64 → small (numbered n) ≡ n
small_is_it n h = rw (numbered_small n h)

-- ---- 34

over_is : (n w : ℕ) → w ≤ 64 → overflows (numbered n) w ≡ nat_le (2 ^ w) n
over_is n w l =
    elim (dec_lt n (2 ^ 64)) [
      | yes h ↦ rw (numbered_small n h)
      | no h ↦
          let k : 2 ^ 64 ≤ n = omega arith in
          rw (numbered_huge n k) (sym (le-leb (2 ^ w) n (le_trans (pow_mono l) k)))
    ]

pub misfits_is :
    (e : Entry) (w sort width : ℕ) (n : Option ℕ) (o : Bool)
    → sort ≡ e.sort
    → width ≡ e.width
    → n ≡ numbered e.value
    → o ≡ overflows n width
    → e.width ≤ 64
    → (not (sort == w) || not (width == w) || o) ≡ misfits w e
unfolding misfits
misfits_is e w sort width n o p q r s l = rw (s, r, q, p, over_is e.value e.width l)

-- as code finds it, where 64 bits hold the value, and where they do not
module _ (text : List ℕ) (sort value w : ℕ) (n : Option ℕ) (q : n ≡ numbered (value_said (tokens (drop value text)))) where
  abbrev said : List (List ℕ)
  said = tokens (drop value text)

  module _ (v s d : ℕ) (o : Bool) (e : n ≡ Some v) (a : s ≡ sort_said text sort) (b : d ≡ value_width said) (h : o ≡ nat_le (2 ^ w) v) where
    abbrev code : Bool
    code = (s == w) && (d == w) && not o

    fits_is : not code ≡ misfits w (entry_said text sort value)
    unfolding misfits
    fits_is =
        let f : value_said said ≡ v = small_is _ v (sym q ∙ e) in
        rw (← a, ← b, f, h) (by (s == w) refl (d == w) refl)
      where
        by : (t : Bool) → s == w ≡ t → (u : Bool) → d == w ≡ u
            → not (t && u && not (nat_le (2 ^ w) v)) ≡ (not t || not u || nat_le (2 ^ d) v)
        by false _ u _ = refl
        by true _ false _ = refl
        by true _ true i = let g : d ≡ w = eqb-true d w i in rw g (twice (nat_le (2 ^ w) v))
          where
            twice : (x : Bool) → not (not x) ≡ x
            twice true = refl
            twice false = refl

    pub word_fits : code ≡ true → Ok v ≡ item_said text sort value w
    unfolding item_said
    word_fits t = rw (← fits_is, t, ← q, e)

    pub word_unfit : code ≡ false → Err v ≡ item_said text sort value w
    unfolding item_said
    word_unfit t = rw (← fits_is, t, ← q, e)

  pub word_huge : n ≡ None → value_width said ≤ 64 → Err 0 ≡ item_said text sort value w
  unfolding item_said misfits
  word_huge e l =
      let h : 2 ^ 64 ≤ value_said said = huge_is _ (sym q ∙ e) in
      let g : 2 ^ value_width said ≤ value_said said = le_trans (pow_mono l) h in
      rw (le-leb (2 ^ value_width said) (value_said said) g, ← q, e)
      (sym (err (not (sort_said text sort == w) || not (value_width said == w))))
    where
      err : (t : Bool) → cond {A = Result ℕ ℕ} (t || true) (Err 0) (Ok 0) ≡ Err 0
      err true = refl
      err false = refl

-- every width that an entry says is at most 64
up_most : (w : ℕ) → up_to64 w ≤ 64
unfolding up_to64
up_most w = by (nat_le w 64) refl
  where
    by : (t : Bool) → nat_le w 64 ≡ t → cond t w 0 ≤ 64
    by true h = leb-true w 64 h
    by false h = omega arith

cond_most : (t : Bool) (a b : ℕ) → a ≤ 64 → b ≤ 64 → cond t a b ≤ 64
cond_most true a b h k = h
cond_most false a b h k = k

said_most : (t : List ℕ) → width_said t ≤ 64
unfolding width_said
said_most t = cond_most (is_numeral t) (up_to64 (value_in 10 t)) 0 (up_most (value_in 10 t)) (omega arith)

literal_most : (t : List ℕ) → literal_width t ≤ 64
unfolding literal_width
literal_most t = cond_most (digits_in (base_of t) (drop 2 t)) (up_to64 _) 0 (up_most _) (omega arith)

pub width_most : (us : List (List ℕ)) → value_width us ≤ 64
unfolding value_width
width_most us = cond_most (is_literal us) (literal_width (slice_index_or us 0 [])) (width_said (slice_index_or us 3 [])) (literal_most (slice_index_or us 0 [])) (said_most (slice_index_or us 3 []))

-- ---- what an entry says to a variable, whose own width is at most 64

-- what fits is below 2 ^ 64, so its word is its value
fits_small : (e : Entry) (w : ℕ) → e.width ≤ 64 → misfits w e ≡ false → small (numbered e.value) ≡ e.value
unfolding misfits
fits_small e w l h = small_is_it e.value (low (not (e.sort == w)) (not (e.width == w)) (nat_le (2 ^ e.width) e.value) refl h)
  where
    low : (t u o : Bool) → nat_le (2 ^ e.width) e.value ≡ o → (t || u || o) ≡ false → e.value < 2 ^ 64
    low true u o p x = absurd (true≢false x)
    low false true o p x = absurd (true≢false x)
    low false false true p x = absurd (true≢false x)
    low false false false p x =
        let g : 2 ^ e.width ≤ 2 ^ 64 = pow_mono l in
        let k : e.value < 2 ^ e.width = leb-false (2 ^ e.width) e.value p in
        omega arith

-- whether it fits, and its word, also where it does not
pub told_unfit : (e : Entry) (w : ℕ) → is_err (told_to w e) ≡ misfits w e
told_unfit e w = by (misfits w e) (word_of e)
  where
    by : (t : Bool) (v : ℕ) → is_err (cond {A = Result ℕ ℕ} t (Err v) (Ok v)) ≡ t
    by true v = refl
    by false v = refl

pub told_word : (e : Entry) (w : ℕ) → word_in (told_to w e) ≡ word_of e
told_word e w = by (misfits w e) (word_of e)
  where
    by : (t : Bool) (v : ℕ) → word_in (cond t (Err v) (Ok v)) ≡ v
    by true v = refl
    by false v = refl

-- a word that fits is the value itself
pub told_exact : (e : Entry) (w v : ℕ) → e.width ≤ 64 → told_to w e ≡ Ok v → v ≡ e.value
told_exact e w v l h = by (misfits w e) refl h
  where
    by : (t : Bool) → misfits w e ≡ t → cond t (Err (small (numbered e.value))) (Ok (small (numbered e.value))) ≡ Ok v → v ≡ e.value
    by true p x = absurd (true≢false (ap is_err x))
    by false p x = sym (ap word_in x) ∙ fits_small e w l p

-- and so the value of what fits, and nothing of what does not
pub told_for : (e : Entry) (w : ℕ) → e.width ≤ 64 → result_ok (told_to w e) ≡ word_for w e
told_for e w l = by (misfits w e) refl
  where
    by : (t : Bool) → misfits w e ≡ t → result_ok (cond t (Err (small (numbered e.value))) (Ok (small (numbered e.value)))) ≡ cond t None (Some e.value)
    by true p = refl
    by false p = ap Some (fits_small e w l p)

-- the same of what the sort and the value at two places say
module _ (text : List ℕ) (sort value w : ℕ) (i : Result ℕ ℕ) (h : i ≡ item_said text sort value w) where
  pub item_unfit : is_err i ≡ misfits w (entry_said text sort value)
  unfolding item_said
  item_unfit = ap is_err h ∙ told_unfit (entry_said text sort value) w

  pub item_word : word_in i ≡ small (numbered (value_said (tokens (drop value text))))
  unfolding item_said
  item_word = ap word_in h ∙ told_word (entry_said text sort value) w

  pub item_exact : (v : ℕ) → i ≡ Ok v → v ≡ value_said (tokens (drop value text))
  unfolding item_said
  item_exact v e = told_exact (entry_said text sort value) w v (width_most (tokens (drop value text))) (sym h ∙ e)

  pub item_for : result_ok i ≡ word_for w (entry_said text sort value)
  unfolding item_said
  item_for = ap result_ok h ∙ told_for (entry_said text sort value) w (width_most (tokens (drop value text)))
