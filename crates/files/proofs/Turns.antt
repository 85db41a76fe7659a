-- Loops that lay a list one element, or one line, at a time: what a turn adds, and what is laid at the end.
use mathlib.Core.Path.{◌≡◌, refl, sym, ap, ◌∙◌}
use mathlib.Core.List.{List, [], ◌∷◌, ◌++◌}
use mathlib.Core.Logic.{⊎_elim}
use Prim.Native.Nat.{ℕ, zero, suc, ◌+◌, ◌-◌, ◌*◌, ◌/◌, ◌≤◌, ◌<◌, min}
use native.Mathlib.Omega.{arith}
use native.Mathlib.Numerals.{add-one}
use native.Mathlib.Nat.{eq-zero-or-pos, add-zero, add-suc}
use lib.ListN.{length, get_or, take, set}
use lib.Seq.{take-suc}
use Rattle.problem.specs.Layout.{le64}
use Rattle.files.specs.declared.text.Text.{Text}
use Rattle.files.specs.Laid.{over, Laid}
use Rattle.files.specs.inner.Told.{Puts}
use Rattle.files.specs.Words.{words_below, words_of, file_words}
use Rattle.files.specs.Text.{node_line, lines_below}
use Rattle.files.specs.laws.Enough.{length_words}
use Rattle.files.specs.laws.Laid.{over_length, over_past, over_append, laid_none, laid_one, laid_more, laid_taken}

-- ---- pieces of text

pub puts_none : (t : Text) → Puts [] t t
puts_none t = record { text = laid_none _ _ t.inside; same = refl }

pub puts_more : {xs ys : List ℕ} {a b c : Text} → Puts xs a b → Puts ys b c → Puts (xs ++ ys) a c
puts_more p q = record { text = laid_more p.text q.text; same = q.same ∙ p.same }

-- the bytes of a text
pub bytes_turn :
    (xs : List ℕ) (i : ℕ) {a b c : Text} → Puts (take i xs) a b → Puts (get_or xs i 0 ∷ []) b c → i < length xs → Puts (take (i + 1) xs) a c
bytes_turn xs i p q h = rw (add-one, take-suc xs i 0) (puts_more p q)

-- the variables' lines
pub lines_turn :
    (s vs : List ℕ) (i : ℕ) {a b c : Text} → Puts (lines_below s vs i) a b → Puts (node_line s vs i) b c → Puts (lines_below s vs (i + 1)) a c
unfolding lines_below
lines_turn s vs i p q = rw add-one (puts_more p q)

-- ---- the words of a file

words_next : (s : List ℕ) (i : ℕ) → words_below s (i + 1) ≡ words_below s i ++ le64 s (8 * i) ∷ []
unfolding words_below
words_next s i = rw add-one

pub words_turn :
    (s : List ℕ) {b c : List ℕ} {i w : ℕ}
    → i < length c
    → w ≡ le64 s (8 * i)
    → Laid (words_below s i) 0 b c i
    → Laid (words_below s (i + 1)) 0 b (set c i w) (i + 1)
words_turn s {b} {c} {i} {w} h e l = rw (words_next s i, ← e) (laid_more l (laid_one w c i h))

-- words past the last place change nothing
words_past : (s b : List ℕ) (n k : ℕ) → length b ≤ n → over b 0 (words_below s (n + k)) ≡ over b 0 (words_below s n)
unfolding words_below
words_past s b n zero h = rw (add-zero n)
words_past s b n (suc k) h =
    let ws = words_below s (n + k) in
    let next = le64 s (8 * (n + k)) ∷ [] in
    let l : length (over b 0 ws) ≤ 0 + length ws = omega (arith, over_length b 0 ws, length_words s (n + k)) in
    rw (add-suc n k)
    (sym (over_append ws next b 0) ∙ over_past next (over b 0 ws) (0 + length ws) l ∙ words_past s b n k h)

pub words_end :
    (s : List ℕ) {b c : List ℕ} {n : ℕ}
    → n ≡ min (length s / 8) (length b)
    → Laid (words_below s n) 0 b c n
    → Laid (words_of s) 0 b c n
unfolding words_of
words_end s {b} {c} {n} e l =
    let m = length s / 8 in
    record {
      places =
          l.places
          ∙ ⊎_elim (λ (h : m - n ≡ 0). let f : n ≡ m = omega arith in rw f)
          (λ (h : 0 < m - n).
          let f : n + (m - n) ≡ m = omega arith in
          sym (words_past s b n (m - n) (omega arith)) ∙ ap (λ (k : ℕ). over b 0 (words_below s k)) f)
          (eq-zero-or-pos (m - n));
      upto = omega (arith, length_words s m);
    }

-- the words that are read back of 1,024 places are those of the file that count
pub file_words_lem : (s : List ℕ) {b a : List ℕ} {n : ℕ} → length b ≡ 1024 → Laid (words_of s) 0 b a n → file_words s ≡ take n a
unfolding file_words
file_words_lem s e l = rw (laid_taken l, e)
