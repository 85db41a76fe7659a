-- What is read of a file is enough: 25,098 places take all bytes of `problem.tbv` that count, and 8,192 those of the 1,024 words of
-- `start.bin` and `tape.bin` that count.
use Rattle.std.specs.Prelude.{◌≡◌, refl, List, [], ◌∷◌, ◌++◌, ℕ, zero, suc, ◌+◌, ◌-◌, ◌*◌, ◌/◌, ◌≤◌, length, take}
use Rattle.std.proofs.Common.{sym, ap, ap₂, ◌∙◌, arith, add-zero, add-suc, length-take, length-append, get_or-take, take_all, length-take-le}
use Rattle.std.proofs.Math.Decide.{dec_le}
use Rattle.std.proofs.lemmas.List.{take-append-le}
use Rattle.problem.specs.Layout.{le16, le32, le64}
use Rattle.files.specs.Words.{file_problem, words_below, words_of, file_words}
use Rattle.files.specs.Told.{Read}

-- ---- words of the first m bytes

le64_front : (s : List ℕ) (m p : ℕ) → p + 8 ≤ m → le64 (take m s) p ≡ le64 s p
unfolding le64 le32 le16
le64_front s m p h =
    rw (
      get_or-take m s p 0 (omega arith),
      get_or-take m s (p + 1) 0 (omega arith),
      get_or-take m s (p + 2) 0 (omega arith),
      get_or-take m s (p + 2 + 1) 0 (omega arith),
      get_or-take m s (p + 4) 0 (omega arith),
      get_or-take m s (p + 4 + 1) 0 (omega arith),
      get_or-take m s (p + 4 + 2) 0 (omega arith),
      get_or-take m s (p + 4 + 2 + 1) 0 (omega arith),
    )

words_front : (s : List ℕ) (m n : ℕ) → 8 * n ≤ m → words_below (take m s) n ≡ words_below s n
unfolding words_below
words_front s m zero h = refl
words_front s m (suc n) h =
    ap₂ (λ (ws : List ℕ) (w : ℕ). ws ++ w ∷ []) (words_front s m n (omega arith)) (le64_front s m (8 * n) (omega arith))

pub length_words : (s : List ℕ) (n : ℕ) → length (words_below s n) ≡ n
unfolding words_below
length_words s zero = refl
length_words s (suc n) =
    omega (arith, length-append (words_below s n) (le64 s (8 * n) ∷ []), length_words s n)

-- of k + d words the first k
words_taken : (s : List ℕ) (k d : ℕ) → take k (words_below s (k + d)) ≡ words_below s k
unfolding words_below
words_taken s k zero = rw (add-zero k) (take_all k (words_below s k) (omega (arith, length_words s k)))
words_taken s k (suc d) =
    rw (add-suc k d)
    (take-append-le k (words_below s (k + d)) (le64 s (8 * (k + d)) ∷ []) (omega (arith, length_words s (k + d))) ∙ words_taken s k d)

-- ---- the words that count stand in the first 8,192 bytes

front_words : (s : List ℕ) → 8192 ≤ length s → file_words (take 8192 s) ≡ file_words s
unfolding file_words words_of
front_words s h =
    let n : length (take 8192 s) / 8 ≡ 1024 + 0 = omega (arith, length-take-le 8192 s h) in
    let m : length s / 8 ≡ 1024 + (length s / 8 - 1024) = omega arith in
    ap (λ (k : ℕ). take 1024 (words_below (take 8192 s) k)) n
    ∙ words_taken (take 8192 s) 1024 0
    ∙ words_front s 8192 1024 (omega arith)
    ∙ sym (ap (λ (k : ℕ). take 1024 (words_below s k)) m ∙ words_taken s 1024 (length s / 8 - 1024))

enough_words : (s : List ℕ) → file_words (take 8192 s) ≡ file_words s
enough_words s =
    elim (dec_le 8192 (length s)) [ yes h ↦ front_words s h | no h ↦ ap file_words (take_all 8192 s (omega arith)) ]

-- ---- what was read

pub read_words : {file places : List ℕ} {n : ℕ} → length places ≡ 8192 → Read file places n → file_words (take n places) ≡ file_words file
read_words {file} {places} e r = ap file_words (r.is ∙ ap (λ (k : ℕ). take k file) e) ∙ enough_words file

pub read_problem : {file places : List ℕ} {n : ℕ} → length places ≡ 25098 → Read file places n → take n places ≡ file_problem file
unfolding file_problem
read_problem {file} e r = r.is ∙ ap (λ (k : ℕ). take k file) e

-- the places themselves are such a file
pub read_itself : (places : List ℕ) (n : ℕ) → Read (take n places) places n
read_itself places n = record { is = sym (take_all (length places) (take n places) (omega (arith, length-take n places))) }
