-- Laws of what is laid into lent places: one element more, one list after another, and what the places hold in the end.
use Rattle.std.specs.Prelude.{◌≡◌, refl, List, [], ◌∷◌, ◌++◌, ℕ, suc, ◌+◌, ◌≤◌, length, take, drop, set, ◌/◌, ◌%◌, ◌<◌, get_or}
use Rattle.std.proofs.Common.{sym, ap, ◌∙◌, append_assoc, drop-drop, append-nil, add-zero, add-suc, suc-add, zero-add, add-one, arith, take-suc, take_all, length-take-le}
use Rattle.std.proofs.Math.Seq.{length-sets, drop-length}
use Rattle.std.proofs.lemmas.List.Edits.{sets-eq}
use borrow.Rule.Slice.PartMut.{put_mid}
use Rattle.mending.specs.Mended.{joined, bytes16}
use Rattle.mending.specs.inner.Laid.{laid}
use Rattle.mending.specs.laws.Joined.{joined_none, joined_more}

pub length_laid : (b : List ℕ) (i : ℕ) (xs : List ℕ) → length (laid b i xs) ≡ length b
unfolding laid
length_laid b i xs = length-sets b i xs

pub laid_none : (b : List ℕ) (i : ℕ) → laid b i [] ≡ b
unfolding laid
laid_none b i = refl

pub laid_append : (xs ys b : List ℕ) (i : ℕ) → laid (laid b i xs) (i + length xs) ys ≡ laid b i (xs ++ ys)
unfolding laid
laid_append [] ys b i = rw (add-zero i)
laid_append (x ∷ xs) ys b i = rw (add-suc i (length xs), ← suc-add i (length xs)) (laid_append xs ys (set b i x) (suc i))

-- the same, where it is known how long the first list is
pub laid_after : (xs ys b : List ℕ) (i n : ℕ) → i + length xs ≡ n → laid (laid b i xs) n ys ≡ laid b i (xs ++ ys)
laid_after xs ys b i n e = rw (← e) (laid_append xs ys b i)

pub laid_then : (b c d xs ys : List ℕ) (i n : ℕ) → c ≡ laid b i xs → i + length xs ≡ n → d ≡ laid c n ys → d ≡ laid b i (xs ++ ys)
laid_then b c d xs ys i n e l f = f ∙ ap (λ (x : List ℕ). laid x n ys) e ∙ laid_after xs ys b i n l

-- ---- a list laid element by element

-- a list copied into a part of the places
pub laid_copied : (b xs : List ℕ) (i k : ℕ) → i + length xs ≤ length b → k ≡ length xs → put_mid i k b xs ≡ laid b i xs
unfolding laid
laid_copied b xs i k h e =
    rw e (rw (drop-drop (length xs) i b) (sym (append_assoc (take i b) xs (drop (i + length xs) b)) ∙ sym (sets-eq xs b i h)))

-- ---- pieces laid one by one: what a turn of the loop adds
pub laid_piece :
    (b c : List ℕ) (f : ℕ → List ℕ) (i k n : ℕ)
    → c ≡ laid b i (joined f k)
    → i + length (joined f k) ≡ n
    → laid c n (f k) ≡ laid b i (joined f (k + 1))
laid_piece b c f i k n e l = rw (e, add-one k, joined_more f k) (laid_after (joined f k) (f k) b i n l)

pub laid_no_piece : (b : List ℕ) (f : ℕ → List ℕ) (i : ℕ) → b ≡ laid b i (joined f 0)
laid_no_piece b f i = sym (ap (laid b i) (joined_none f) ∙ laid_none b i)

-- ---- from the first place on: the list, and then what was there
pub laid_front : (b xs : List ℕ) (n : ℕ) → length xs ≡ n → n ≤ length b → laid b 0 xs ≡ xs ++ drop n b
unfolding laid
laid_front b xs n e h = rw (← e) (sets-eq xs b 0 (omega arith) ∙ rw (zero-add (length xs)))

pub laid_whole : (b xs : List ℕ) → length xs ≡ length b → laid b 0 xs ≡ xs
laid_whole b xs e = laid_front b xs (length b) e (omega arith) ∙ ap (λ (l : List ℕ). xs ++ l) (drop-length b) ∙ append-nil xs

-- ---- a list laid element by element
laid_one : (b : List ℕ) (i x : ℕ) → set b i x ≡ laid b i (x ∷ [])
unfolding laid
laid_one b i x = refl

pub laid_two : (b : List ℕ) (i v : ℕ) → set (set b i (v % 256)) (i + 1) (v / 256) ≡ laid b i (bytes16 v)
unfolding laid
laid_two b i v = rw (add-one i)

pub laid_next : (b c xs : List ℕ) (i k : ℕ) → c ≡ laid b i (take k xs) → k < length xs → set c (i + k) (get_or xs k 0) ≡ laid b i (take (k + 1) xs)
laid_next b c xs i k e h =
    rw (e, add-one k, take-suc xs k 0 h, laid_one (laid b i (take k xs)) (i + k) (get_or xs k 0))
    (laid_after (take k xs) (get_or xs k 0 ∷ []) b i (i + k) (let l = length-take-le k xs (omega arith) in omega arith))

pub laid_end : (b c xs : List ℕ) (i k : ℕ) → c ≡ laid b i (take k xs) → length xs ≤ k → c ≡ laid b i xs
laid_end b c xs i k e h = e ∙ ap (laid b i) (take_all k xs h)
