-- Laws of the format's tests.
use Rattle.std.specs.Prelude.{◌≡◌, refl, Bool, true, false, not, ◌&&◌, ◌||◌, List, [], ◌∷◌, ℕ, ◌+◌, ◌-◌, ◌^◌, ◌≤◌, ◌<◌, eqb, leb, length, take, drop, Option, Some, None}
use Rattle.std.proofs.Common.{sym, ◌∙◌, arith, zero-add, length-drop, take_all, eq-eqb, ne_eqb, le-leb}
use Rattle.std.proofs.lemmas.Bool.{lt-leb}
use Rattle.texts.specs.declared.runs.Class.TheVariants.{Lower}
use Rattle.texts.specs.Runs.{is_lower, is_in, length_of_run}
use Rattle.texts.specs.Numbers.{value_in, numbered}
use Rattle.texts.specs.laws.Numbers.{huge_is, small_is, small_below}
use Rattle.lines.specs.laws.Word.{few_refs, few_numbers}
use Rattle.lines.specs.Lines.{Token, token}
use Rattle.lines.specs.Words.{number_of, word_of, shape}
use Rattle.lines.specs.Format.{is_word, is_id, signed, unsigned, id_wrong, ◌or_else◌, given, sort_fault, arguments_wrong, format_fault, ref_start, refs_bad, numbers_bad, constant_bad, symbol_bad}
use Rattle.lines.specs.declared.table.Row.{Row}
use Rattle.lines.specs.declared.table.Makes.{Makes}
use Rattle.lines.specs.declared.table.Makes.TheVariants.{Sort, Input, Value, Root}

pub lower_run : (t : Token) (r : ℕ) → r ≡ 0 + length_of_run (is_in Lower) (drop 0 t) → r ≡ length_of_run is_lower t
unfolding is_in
lower_run t r e = e ∙ zero-add _

pub word_tested : (t : Token) (r : ℕ) → r ≡ 0 + length_of_run (is_in Lower) (drop 0 t) → (eqb r (length t) && not (eqb (length t) 0)) ≡ is_word t
unfolding is_word
word_tested t r e = rw (lower_run t r e)

pub unsigned_part : (t : Token) (b : Bool) → b ≡ signed t → b ≡ true → take (length t - 1) (drop 1 t) ≡ unsigned t
unfolding unsigned
unsigned_part t b e h = rw (← e, h) (take_all (length t - 1) (drop 1 t) (omega (arith, length-drop 1 t)))

pub unsigned_whole : (t : Token) (b : Bool) → b ≡ signed t → b ≡ false → t ≡ unsigned t
unfolding unsigned
unsigned_whole t b e h = rw (← e, h)

pub unsigned_empty : (t : Token) → length t ≡ 0 → t ≡ unsigned t
unfolding unsigned signed
unsigned_empty [] h = refl
unsigned_empty (b ∷ t) h = absurd (omega arith)

pub id_huge : (t : Token) (r : Option ℕ) → r ≡ numbered (value_in 10 t) → r ≡ None → true ≡ id_wrong t
unfolding id_wrong
id_huge t r e h = rw (le-leb (2 ^ 64) (value_in 10 t) (huge_is _ (sym e ∙ h))) (sym (by (not (is_id t))))
  where
    by : (b : Bool) → (b || true) ≡ true
    by true = refl
    by false = refl

pub id_small : (t : Token) (r : Option ℕ) (m : ℕ) (b : Bool) → r ≡ numbered (value_in 10 t) → r ≡ Some m → b ≡ is_id t → not b ≡ id_wrong t
unfolding id_wrong
id_small t r m b e h q =
    let f : value_in 10 t ≡ m = small_is _ _ (sym e ∙ h) in
    let g : m < 2 ^ 64 = small_below _ _ (sym e ∙ h) in
    let l : value_in 10 t < 2 ^ 64 = omega arith in
    rw (lt-leb (2 ^ 64) (value_in 10 t) l, ← q) (sym (by (not b)))
  where
    by : (c : Bool) → (c || false) ≡ c
    by true = refl
    by false = refl

pub or_first : (m n : ℕ) → m ≡ 0 → n ≡ (m or_else n)
unfolding ◌or_else◌
or_first m n e = rw (eq-eqb m 0 e)

pub or_second : (m n : ℕ) → (m ≡ 0 → ⊥) → m ≡ (m or_else n)
unfolding ◌or_else◌
or_second m n e = rw (ne_eqb m 0 e)

pub refs_few : (k r : ℕ) → r ≡ (shape (word_of k)).refs → r ≤ 3
refs_few k r e = omega (arith, few_refs k)

pub numbers_few : (k r : ℕ) → r ≡ (shape (word_of k)).numbers → r ≤ 2
numbers_few k r e = omega (arith, few_numbers k)

-- the answers that make up a line's, in the order in which code finds them
pub format_said :
    (ts : List Token) (t₀ t₁ : Token) (id w : Bool) (k : ℕ)
    → t₀ ≡ token ts 0
    → id ≡ id_wrong t₀
    → t₁ ≡ token ts 1
    → k ≡ number_of t₁
    → w ≡ is_word t₁
    → given 1 (id || not w)
    or_else given 2 (leb 28 k)
    or_else sort_fault (shape (word_of k)).makes (token ts 2)
    or_else given 1 (arguments_wrong (shape (word_of k)) ts)
    ≡ format_fault ts
unfolding format_fault
format_said ts t₀ t₁ id w k e₀ ei e₁ ek ew = rw (ew, ek, e₁, ei, e₀)

-- ---- the same with numbers in place of faults

-- the answers that make up a line's, in the order in which code finds them
pub arguments_tested :
    (r : Row) (ts : List Token) (m : Makes) (first refs numbers base : ℕ) (a b c d : Bool)
    → m ≡ r.makes
    → first ≡ ref_start m
    → refs ≡ r.refs
    → numbers ≡ r.numbers
    → base ≡ r.base
    → a ≡ refs_bad refs first ts
    → b ≡ numbers_bad numbers (first + refs) ts
    → c ≡ constant_bad base ((first + refs) + numbers) ts
    → d ≡ symbol_bad base ((first + refs) + numbers) ts
    → (((a || b) || c) || d) ≡ arguments_wrong r ts
unfolding arguments_wrong
arguments_tested r ts m first refs numbers base a b c d em ef er en eb ea eb' ec ed =
    rw (ea, eb', ec, ed, ef, em, er, en, eb)

pub format_tested :
    (ts : List Token) (t₀ t₁ t₂ : Token) (id w wrong : Bool) (k s odd outside rest x y z : ℕ) (m : Makes)
    → t₀ ≡ token ts 0
    → id ≡ id_wrong t₀
    → t₁ ≡ token ts 1
    → k ≡ number_of t₁
    → w ≡ is_word t₁
    → odd ≡ given 1 (id || not w)
    → outside ≡ given 2 (leb 28 k)
    → m ≡ (shape (word_of k)).makes
    → t₂ ≡ token ts 2
    → s ≡ sort_fault m t₂
    → wrong ≡ arguments_wrong (shape (word_of k)) ts
    → rest ≡ given 1 wrong
    → x ≡ (s or_else rest)
    → y ≡ (outside or_else x)
    → z ≡ (odd or_else y)
    → z ≡ format_fault ts
unfolding format_fault
format_tested ts t₀ t₁ t₂ id w wrong k s odd outside rest x y z m e₀ ei e₁ ek ew eo eu em e₂ es ea er ex ey ez =
    ez ∙ rw (ey, ex, er, ea, es, e₂, em, eu, eo, ew, ek, e₁, ei, e₀)

-- where the first reference stands
few_places : (m : Makes) → ref_start m ≤ 3
few_places Sort = omega arith
few_places Input = omega arith
few_places Value = omega arith
few_places Root = omega arith

pub first_few : (m : Makes) (f : ℕ) → f ≡ ref_start m → f ≤ 3
first_few m f e = omega (arith, few_places m)
