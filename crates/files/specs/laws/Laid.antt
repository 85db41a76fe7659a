-- Laws of what is laid: nothing, one thing, one list after another, and what is read back.
use Rattle.std.specs.Prelude.{◌≡◌, refl, List, [], ◌∷◌, ◌++◌, ℕ, suc, ◌+◌, ◌-◌, ◌≤◌, ◌<◌, min, length, take, drop, set}
use Rattle.std.proofs.Common.{sym, ap, ◌∙◌, ⊎_elim, arith, eq-zero-or-pos, add-zero, add-suc, suc-add, length-take, length-append, take_at, drop_at, length-take-le}
use Rattle.std.proofs.Math.Seq.{length-sets, set_out, take-nil}
use Rattle.files.specs.Laid.{over, Laid}

-- ---- over

pub over_length : (b : List ℕ) (i : ℕ) (xs : List ℕ) → length (over b i xs) ≡ length b
unfolding over
over_length b i xs = length-sets b i xs

-- past the end nothing is stored
pub over_past : (xs b : List ℕ) (i : ℕ) → length b ≤ i → over b i xs ≡ b
unfolding over
over_past [] b i h = refl
over_past (x ∷ xs) b i h = rw (set_out b i x h) (over_past xs b (suc i) (omega arith))

pub over_append : (xs ys b : List ℕ) (i : ℕ) → over (over b i xs) (i + length xs) ys ≡ over b i (xs ++ ys)
unfolding over
over_append [] ys b i = rw (add-zero i)
over_append (x ∷ xs) ys b i = rw (add-suc i (length xs), ← suc-add i (length xs)) (over_append xs ys (set b i x) (suc i))

-- from the first place on: as much of the list as there are places, and then what was there
over_cons : (xs b : List ℕ) (y i : ℕ) → over (y ∷ b) (suc i) xs ≡ y ∷ over b i xs
unfolding over
over_cons [] b y i = refl
over_cons (x ∷ xs) b y i = over_cons xs (set b i x) y (suc i)

pub over_front : (xs b : List ℕ) → over b 0 xs ≡ take (length b) xs ++ drop (length xs) b
unfolding over
over_front [] b = rw (take-nil (length b))
over_front (x ∷ xs) [] = over_past (x ∷ xs) [] 0 (omega arith)
over_front (x ∷ xs) (y ∷ b) = over_cons xs b x 0 ∙ ap {B = List ℕ} (λ r. x ∷ r) (over_front xs b)

-- ---- laid

-- the next place is inside, and no place is lost
pub laid_kept : {xs b a : List ℕ} {i n : ℕ} → Laid xs i b a n → length a ≡ length b
laid_kept {xs} {b} {a} {i} l = ap length l.places ∙ over_length b i xs

pub laid_inside : {xs b a : List ℕ} {i n : ℕ} → Laid xs i b a n → n ≤ length a
laid_inside l = let k = laid_kept l in let u = l.upto in omega arith

pub laid_counts : {xs b a : List ℕ} {i n : ℕ} → Laid xs i b a n → n ≡ length (take n a)
laid_counts {a = a} {n = n} l = sym (length-take-le n a (laid_inside l))

pub laid_none : (b : List ℕ) (i : ℕ) → i ≤ length b → Laid [] i b b i
unfolding over
laid_none b i h = record { places = refl; upto = omega arith }

-- one element, where there is room and where there is none
pub laid_one : (x : ℕ) (b : List ℕ) (i : ℕ) → i < length b → Laid (x ∷ []) i b (set b i x) (i + 1)
unfolding over
laid_one x b i h = record { places = refl; upto = omega arith }

pub laid_full : (x : ℕ) (b : List ℕ) (i : ℕ) → i ≤ length b → length b ≤ i → Laid (x ∷ []) i b b i
laid_full x b i h k = record { places = sym (over_past (x ∷ []) b i k); upto = omega arith }

-- xs, and then ys from where xs ended
pub laid_more : {xs ys b c d : List ℕ} {i m n : ℕ} → Laid xs i b c m → Laid ys m c d n → Laid (xs ++ ys) i b d n
laid_more {xs} {ys} {b} {c} {d} {i} {m} {n} l k =
    ⊎_elim
    (λ (h : i + length xs - length b ≡ 0).
    let e : m ≡ i + length xs = omega (arith, l.upto) in
    record { places = k.places ∙ rw (e, l.places) (over_append xs ys b i); upto = upto })
    (λ (h : 0 < i + length xs - length b).
    let e : length c ≤ m = omega (arith, l.upto, laid_kept l) in
    let f : length (over b i xs) ≤ i + length xs = omega (arith, over_length b i xs) in
    record {
      places =
          k.places ∙ over_past ys c m e ∙ l.places
          ∙ sym (over_past ys (over b i xs) (i + length xs) f)
          ∙ over_append xs ys b i;
      upto = upto;
    })
    (eq-zero-or-pos (i + length xs - length b))
  where
    upto : n ≡ min (i + length (xs ++ ys)) (length b)
    upto = omega (arith, l.upto, k.upto, laid_kept l, length-append xs ys)

-- what is read back of a list laid from the first place on: all of it, or as much as there are places
pub laid_taken : {xs b a : List ℕ} {n : ℕ} → Laid xs 0 b a n → take n a ≡ take (length b) xs
laid_taken {xs} {b} {a} {n} l =
    let e : length (take (length b) xs) ≡ n = omega (arith, l.upto, length-take (length b) xs) in
    rw (l.places, over_front xs b) (take_at (take (length b) xs) (drop (length xs) b) n e)

-- where all of it has room, what lies behind is as it was
pub laid_rest : {xs b a : List ℕ} {n : ℕ} → Laid xs 0 b a n → length xs ≤ length b → drop n a ≡ drop n b
laid_rest {xs} {b} {a} {n} l h =
    let e : length (take (length b) xs) ≡ n = omega (arith, l.upto, length-take (length b) xs) in
    let f : length xs ≡ n = omega (arith, l.upto) in
    rw (l.places, over_front xs b) (drop_at (take (length b) xs) (drop (length xs) b) n e ∙ ap (λ (k : ℕ). drop k b) f)

-- what is laid determines the places and the next place
pub laid_unique : {xs b a a' : List ℕ} {i n n' : ℕ} → Laid xs i b a n → Laid xs i b a' n' → (a ≡ a') × (n ≡ n')
laid_unique l k = (l.places ∙ sym k.places, l.upto ∙ sym k.upto)
