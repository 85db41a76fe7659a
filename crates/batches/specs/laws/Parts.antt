-- Laws of the k-th w places of a list: what a store of one part leaves of the others; and of sums of a list's first numbers.
use Rattle.std.specs.Prelude.{◌≡◌, List, [], ◌∷◌, ◌++◌, ℕ, zero, suc, ◌+◌, ◌*◌, ◌≤◌, ◌<◌, length, get_or, take, drop}
use Rattle.std.proofs.Common.{sym, ap, ap₂, ◌∙◌, suc-add, zero-add, zero-mul, suc-mul, mul-le-mul_right, lt-suc_self, add-one, arith, length-append, length-take, length-drop, take-append-drop, length-take-le, take_at, drop_at, take-take, drop-drop, take-add}
use Rattle.std.proofs.Math.Seq.{take-nil}
use Rattle.std.proofs.lemmas.List.{take-append-le}
use Rattle.batches.specs.Batch.{part, sum}

-- the list xs with its k-th w places replaced by ys, as a call that was lent that part leaves it
abbrev pub laid : ℕ → ℕ → List ℕ → List ℕ → List ℕ
laid w k xs ys = take (k * w) xs ++ (ys ++ drop w (drop (k * w) xs))

take_drop : (a w : ℕ) (xs : List ℕ) → take w (drop a xs) ≡ drop a (take (a + w) xs)
take_drop zero w xs = rw (zero-add w)
take_drop (suc a) w [] = take-nil w ∙ sym (ap (drop (suc a)) (take-nil (suc a + w)))
take_drop (suc a) w (x ∷ xs) = rw (suc-add a w) (take_drop a w xs)

pub part_length : (w k : ℕ) (xs : List ℕ) → k * w + w ≤ length xs → length (part w k xs) ≡ w
part_length w k xs h = simp (length-take, length-drop) (omega arith)

-- within the places of n parts
pub part_inside : {n k : ℕ} (w : ℕ) (xs : List ℕ) → k < n → n * w ≤ length xs → k * w + w ≤ length xs
part_inside {n} {k} w xs l h = omega (arith, suc-mul k w, mul-le-mul_right {m = suc k} {n = n} w l)

module _ (w k : ℕ) (xs ys : List ℕ) (h : k * w + w ≤ length xs) (e : length ys ≡ w) where
  front : length (take (k * w) xs) ≡ k * w
  front = length-take-le (k * w) xs (omega arith)

  pub laid_length : length (laid w k xs ys) ≡ length xs
  laid_length = simp (length-append, length-take, length-drop) (omega arith)

  rest : drop (k * w) (laid w k xs ys) ≡ ys ++ drop w (drop (k * w) xs)
  rest = drop_at (take (k * w) xs) (ys ++ drop w (drop (k * w) xs)) (k * w) front

  pub laid_here : part w k (laid w k xs ys) ≡ ys
  laid_here = ap (take w) rest ∙ take_at ys (drop w (drop (k * w) xs)) w e

  pub laid_below : (j : ℕ) → j < k → part w j (laid w k xs ys) ≡ part w j xs
  laid_below j l =
      let below : j * w + w ≤ k * w = omega (arith, suc-mul j w, mul-le-mul_right {m = suc j} {n = k} w l) in
      take_drop (j * w) w (laid w k xs ys)
      ∙ ap (drop (j * w)) (take-append-le (j * w + w) (take (k * w) xs) (ys ++ drop w (drop (k * w) xs)) (omega (arith, front)) ∙ take-take (j * w + w) (k * w) xs below)
      ∙ sym (take_drop (j * w) w xs)

  laid_above : drop ((k + 1) * w) (laid w k xs ys) ≡ drop ((k + 1) * w) xs
  laid_above =
      rw (add-one k, suc-mul k w)
      (sym (drop-drop w (k * w) (laid w k xs ys))
      ∙ ap (drop w) rest
      ∙ drop_at ys (drop w (drop (k * w) xs)) w e
      ∙ drop-drop w (k * w) xs)

-- what lies beyond a part that was written is as it was before the parts up to it were
pub laid_beyond :
    (w k : ℕ) (xs now ys : List ℕ)
    → k * w + w ≤ length now
    → length ys ≡ w
    → drop (k * w) now ≡ drop (k * w) xs
    → drop ((k + 1) * w) (laid w k now ys) ≡ drop ((k + 1) * w) xs
laid_beyond w k xs now ys h e b = laid_above w k now ys h e ∙ after now ∙ ap (drop w) b ∙ sym (after xs)
  where
    after : (l : List ℕ) → drop ((k + 1) * w) l ≡ drop w (drop (k * w) l)
    after l = rw (add-one k, suc-mul k w) (sym (drop-drop w (k * w) l))

-- what stands from the k-th part on is the same: so is that part
pub part_from : (w k : ℕ) (xs ys : List ℕ) → drop (k * w) xs ≡ drop (k * w) ys → part w k xs ≡ part w k ys
part_from w k xs ys e = ap (take w) e

-- two lists with the same parts, and the same beyond them
module _ (w : ℕ) (xs ys : List ℕ) where
  fronts_same : (n : ℕ) → ((k : ℕ) → k < n → part w k xs ≡ part w k ys) → take (n * w) xs ≡ take (n * w) ys
  fronts_same zero h = rw (zero-mul w)
  fronts_same (suc n) h =
      rw (suc-mul n w, take-add (n * w) w xs, take-add (n * w) w ys)
      (ap₂ ◌++◌ (fronts_same n (λ k l. h k (omega arith))) (h n (lt-suc_self n)))

  pub parts_same : (n : ℕ) → ((k : ℕ) → k < n → part w k xs ≡ part w k ys) → drop (n * w) xs ≡ drop (n * w) ys → xs ≡ ys
  parts_same n h e =
      sym (take-append-drop (n * w) xs) ∙ ap₂ ◌++◌ (fronts_same n h) e ∙ take-append-drop (n * w) ys

-- ---- sums

pub sum_more : (k : ℕ) (ls : List ℕ) → k < length ls → sum (take (k + 1) ls) ≡ sum (take k ls) + get_or ls k 0
unfolding sum
sum_more k [] h = absurd (omega arith)
sum_more zero (x ∷ ls) h = omega arith
sum_more (suc k) (x ∷ ls) h = rw (suc-add k 1) (omega (arith, sum_more k ls (omega arith)))

pub sum_most : (k : ℕ) (ls : List ℕ) → sum (take k ls) ≤ sum ls
unfolding sum
sum_most zero ls = omega arith
sum_most (suc k) [] = omega arith
sum_most (suc k) (x ∷ ls) = omega (arith, sum_most k ls)
