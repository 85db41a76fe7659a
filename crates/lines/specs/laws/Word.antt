-- Laws of the table of keywords.
use Rattle.std.specs.Prelude.{◌≡◌, refl, Bool, true, false, ◌||◌, ℕ, ◌≤◌, ◌<◌, T, ltb, leb, List, [], ◌∷◌, eqb, get_or}
use Rattle.std.proofs.Common.{sym, arith, eq-or-lt_of_le, ltb→lt, leb→le, ⊎_elim, ltb-true, ltb-false, eqb→eq}
use Rattle.std.proofs.Math.ListN.{get_or-eq_default}
use Rattle.words.specs.laws.Cases.{every, every_at}
use Rattle.lines.specs.declared.table.Makes.{Makes}
use Rattle.lines.specs.declared.table.Makes.TheVariants.{Sort, Input, Value, Root}
use Rattle.lines.specs.Words.{Word, other, words, word_of, shape}

-- one of two, and not the first
pub or_right : (a b : Bool) → T (a || b) → (T a → ⊥) → T b
or_right true b h f = absurd (f tt)
or_right false b h f = h

-- ---- rows

-- a number past them names no word
pub past_words : (k : ℕ) → 28 ≤ k → word_of k ≡ other
past_words k h = get_or-eq_default words other h

-- words 2 to 26 make values, word 27 and the numbers past the words roots
is_value : Makes → Bool
is_value Sort = false
is_value Input = false
is_value Value = true
is_value Root = false

value_of : (m : Makes) → T (is_value m) → Value ≡ m
unfolding is_value
value_of Sort t = elim t [ ]
value_of Input t = elim t [ ]
value_of Root t = elim t [ ]
value_of Value t = refl

pub makes_value : (k : ℕ) → (k ≡ 0 → ⊥) → (k ≡ 1 → ⊥) → k < 27 → Value ≡ (shape (word_of k)).makes
unfolding is_value shape
makes_value k a b h =
    value_of (shape (word_of k)).makes
    (or_right (ltb k 2) (is_value (shape (word_of k)).makes) (every_at 27 (λ x. ltb x 2 || is_value (shape (word_of x)).makes) tt k h)
    (λ l. let m : k < 2 = ltb→lt k 2 l in low m))
  where
    low : k < 2 → ⊥
    low m = omega arith

pub makes_root : (k : ℕ) → 27 ≤ k → Root ≡ (shape (word_of k)).makes
unfolding shape
makes_root k h =
    ⊎_elim (λ (e : 27 ≡ k). rw (sym e)) (λ (l : 27 < k). rw (past_words k l)) (eq-or-lt_of_le h)

-- no row is long
few : (f : Word → ℕ) (n : ℕ) → T (every 28 (λ x. leb (f (word_of x)) n)) → f other ≤ n → (k : ℕ) → f (word_of k) ≤ n
few f n t z k = by (ltb k 28) refl
  where
    by : (b : Bool) → ltb k 28 ≡ b → f (word_of k) ≤ n
    by true e = leb→le (f (word_of k)) n (every_at 28 (λ x. leb (f (word_of x)) n) t k (ltb-true k 28 e))
    by false e = rw (past_words k (ltb-false k 28 e)) z

pub few_refs : (k : ℕ) → (shape (word_of k)).refs ≤ 3
unfolding shape
few_refs k = few (λ (w : Word). (shape w).refs) 3 tt (omega arith) k

pub few_numbers : (k : ℕ) → (shape (word_of k)).numbers ≤ 2
unfolding shape
few_numbers k = few (λ (w : Word). (shape w).numbers) 2 tt (omega arith) k

-- ---- the same as columns

-- a column that is right at each of the 28 words
pub column : (col : List ℕ) (f : Word → ℕ) → T (every 28 (λ x. eqb (get_or col x 0) (f (word_of x)))) → (k : ℕ) → k < 28 → get_or col k 0 ≡ f (word_of k)
column col f t k h = eqb→eq (get_or col k 0) (f (word_of k)) (every_at 28 (λ x. eqb (get_or col x 0) (f (word_of x))) t k h)

abbrev pub refs_column : List ℕ
refs_column = 0 ∷ 0 ∷ 0 ∷ 0 ∷ 0 ∷ 0 ∷ 0 ∷ 0 ∷ 1 ∷ 2 ∷ 2 ∷ 2 ∷ 2 ∷ 2 ∷ 2 ∷ 2 ∷ 2 ∷ 2 ∷ 2 ∷ 2 ∷ 2 ∷ 2 ∷ 3 ∷ 2 ∷ 1 ∷ 1 ∷ 1 ∷ 1 ∷ []

abbrev pub numbers_column : List ℕ
numbers_column = 1 ∷ 0 ∷ 0 ∷ 0 ∷ 0 ∷ 0 ∷ 0 ∷ 0 ∷ 0 ∷ 0 ∷ 0 ∷ 0 ∷ 0 ∷ 0 ∷ 0 ∷ 0 ∷ 0 ∷ 0 ∷ 0 ∷ 0 ∷ 0 ∷ 0 ∷ 0 ∷ 0 ∷ 2 ∷ 1 ∷ 1 ∷ 0 ∷ []

abbrev pub bases_column : List ℕ
bases_column = 0 ∷ 0 ∷ 0 ∷ 0 ∷ 0 ∷ 2 ∷ 10 ∷ 16 ∷ 0 ∷ 0 ∷ 0 ∷ 0 ∷ 0 ∷ 0 ∷ 0 ∷ 0 ∷ 0 ∷ 0 ∷ 0 ∷ 0 ∷ 0 ∷ 0 ∷ 0 ∷ 0 ∷ 0 ∷ 0 ∷ 0 ∷ 0 ∷ []

pub refs_column_lem : (k : ℕ) → k < 28 → get_or refs_column k 0 ≡ (shape (word_of k)).refs
unfolding shape
refs_column_lem = column refs_column (λ (w : Word). (shape w).refs) tt

pub numbers_column_lem : (k : ℕ) → k < 28 → get_or numbers_column k 0 ≡ (shape (word_of k)).numbers
unfolding shape
numbers_column_lem = column numbers_column (λ (w : Word). (shape w).numbers) tt

pub bases_column_lem : (k : ℕ) → k < 28 → get_or bases_column k 0 ≡ (shape (word_of k)).base
unfolding shape
bases_column_lem = column bases_column (λ (w : Word). (shape w).base) tt
