-- Laws of sorts that are kept: they stay right as lines pass, and a sort's line that has passed may be added.
use Rattle.std.specs.Prelude.{◌≡◌, refl, Bool, true, false, List, [], ◌∷◌, ◌++◌, ℕ, ◌+◌, ◌^◌, ◌<◌, eqb, length, get_or, set, ◌||◌, leb}
use Rattle.std.proofs.Common.{sym, ◌∙◌, arith, get_or-set_same, get_or-set_other, eqb-true, lt-ltb, leb-false}
use Rattle.std.proofs.lemmas.Bool.{eqb-false}
use Rattle.lines.specs.declared.table.Makes.{Makes}
use Rattle.lines.specs.declared.table.Makes.TheVariants.{Sort, Input, Value, Root}
use Rattle.lines.specs.Lines.{Token, token, tokens}
use Rattle.texts.specs.Numbers.{value_in}
use Rattle.lines.specs.Format.{Item, item, item_of}
use Rattle.btor2.specs.Conversion.{Table, State, known, at, naming, added, after, line_fault, after_line}
use Rattle.lines.specs.inner.Told.{id_of, find_line, small, width_told}
use Rattle.btor2.specs.inner.Kept.{Sorted, SortsKept, WidthKept, there, nowhere, SortNoted, same, noted}
use Rattle.btor2.specs.laws.Reached.{Reached}
use Rattle.btor2.specs.laws.Entry.{known_snoc_old, at_snoc_old, at_unknown, find_new}
use Rattle.btor2.specs.laws.Passed.{passes, or_both}
use Rattle.btor2.specs.laws.Sound.{reached_sound, no_width}

-- ---- sorts stay

pub added_sorts : (σ : State) (i : Item) (m : Makes) (id : ℕ) → known id σ.sorts ≡ true → (known id (added σ i m).sorts ≡ true) × (at id (added σ i m).sorts ≡ at id σ.sorts)
unfolding added naming
added_sorts σ i Sort id h = (known_snoc_old id σ.sorts i.id i.first h, at_snoc_old id σ.sorts i.id i.first h)
added_sorts σ i Input id h = (h, refl)
added_sorts σ i Value id h = (h, refl)
added_sorts σ i Root id h = (h, refl)

known_some : (id : ℕ) (t : Table) → 0 < at id t → known id t ≡ true
known_some id t h = by (known id t) refl
  where
    by : (b : Bool) → known id t ≡ b → b ≡ true
    by true e = refl
    by false e = absurd (let z = at_unknown id t e in omega arith)

line_sorts : (σ : State) (ts : List Token) (id : ℕ) → 0 < at id σ.sorts → at id (after_line σ ts).sorts ≡ at id σ.sorts
unfolding after_line after
line_sorts σ [] id h = refl
line_sorts σ (t ∷ ts) id h = (added_sorts σ (item (t ∷ ts)) (item (t ∷ ts)).makes id (known_some id σ.sorts h)).1

-- ---- what is kept

pub sorts_none : (σ : State) (ids widths : List ℕ) → SortsKept σ 0 ids widths
sorts_none σ ids widths = record { right = λ k h. absurd (omega arith); some = λ k h. absurd (omega arith) }

-- a width that is found is the sort's
pub kept_right : {σ : State} {sorts : ℕ} {ids widths : List ℕ} {id w : ℕ} → SortsKept σ sorts ids widths → WidthKept ids widths sorts id w → 0 < w → w ≡ at id σ.sorts
kept_right K (there k h e) l = rw (← e) (sym (K.right k h))
kept_right K nowhere l = absurd (omega arith)

pub sorts_stay : {σ : State} {sorts : ℕ} {ids widths : List ℕ} (ts : List Token) → SortsKept σ sorts ids widths → SortsKept (after_line σ ts) sorts ids widths
sorts_stay {σ} ts K =
    record {
      right = λ k h. line_sorts σ ts _ (rw (K.right k h) (K.some k h)) ∙ K.right k h;
      some = K.some;
    }

small_one : (n : ℕ) → n < 2 ^ 64 → small n ≡ n
unfolding small
small_one n h = rw (lt-ltb n (2 ^ 64) h)

-- the sort of a line that has passed
new_sort : {room : ℕ} {ls : List (List ℕ)} {σ : State} (l : List ℕ) (ts : List Token) → tokens l ≡ ts → Reached room ls σ → line_fault room σ ts ≡ 0
    → Sorted (after_line σ ts) (ls ++ l ∷ []) → 0 < width_told ts → at (small (id_of ts)) (after_line σ ts).sorts ≡ width_told ts
unfolding id_of item item_of
new_sort l [] q R f T h = absurd (omega (arith, no_width))
new_sort {room} {ls} {σ} l (t ∷ ts) q R f T h =
    let P = passes room σ t ts f in
    let S = reached_sound R in
    let a : σ.last < id_of (t ∷ ts) = P.increasing in
    let s : small (id_of (t ∷ ts)) ≡ id_of (t ∷ ts) = small_one (id_of (t ∷ ts)) P.form.small_id in
    let g : find_line (id_of (t ∷ ts)) (ls ++ l ∷ []) ≡ l = find_new σ.last (id_of (t ∷ ts)) ls l S.lines_are_below a (rw q) in
    rw s (T.told (id_of (t ∷ ts)) (omega arith) ∙ rw (g, q))

pub sorts_noted : {room : ℕ} {ls : List (List ℕ)} {σ : State} {sorts r : ℕ} {ids widths : List ℕ} (l : List ℕ) {ids' widths' : List ℕ} → Reached room ls σ → line_fault room σ (tokens l) ≡ 0
    → Sorted (after_line σ (tokens l)) (ls ++ l ∷ []) → SortsKept σ sorts ids widths → SortNoted (tokens l) sorts ids widths ids' widths' r
    → SortsKept (after_line σ (tokens l)) r ids' widths'
sorts_noted l R f T K same = sorts_stay (tokens l) K
sorts_noted {σ = σ} {sorts = sorts} {ids = ids} {widths = widths} l R f T K (noted w i j) =
    let N = new_sort l (tokens l) refl R f T w in
    let O = sorts_stay (tokens l) K in
    record { right = λ k h. right N O k h (eqb k sorts) refl; some = λ k h. some k h (eqb k sorts) refl }
  where
    right : at (small (id_of (tokens l))) (after_line σ (tokens l)).sorts ≡ width_told (tokens l) → SortsKept (after_line σ (tokens l)) sorts ids widths → (k : ℕ) → k < sorts + 1 → (b : Bool) → eqb k sorts ≡ b
        → at (get_or (set ids sorts (small (id_of (tokens l)))) k 0) (after_line σ (tokens l)).sorts ≡ get_or (set widths sorts (width_told (tokens l))) k 0
    right N O k h true e =
        let z : k ≡ sorts = eqb-true k sorts e in
        rw (z, get_or-set_same ids sorts (small (id_of (tokens l))) 0 i, get_or-set_same widths sorts (width_told (tokens l)) 0 j) N
    right N O k h false e =
        let z = eqb-false k sorts e in
        rw (get_or-set_other ids sorts k (small (id_of (tokens l))) 0 z, get_or-set_other widths sorts k (width_told (tokens l)) 0 z) (O.right k (omega arith))

    some : (k : ℕ) → k < sorts + 1 → (b : Bool) → eqb k sorts ≡ b → 0 < get_or (set widths sorts (width_told (tokens l))) k 0
    some k h true e = let z : k ≡ sorts = eqb-true k sorts e in rw (z, get_or-set_same widths sorts (width_told (tokens l)) 0 j) w
    some k h false e = let z = eqb-false k sorts e in rw (get_or-set_other widths sorts k (width_told (tokens l)) 0 z) (K.some k (omega arith))

-- a sort's line as code notes it
pub noted_as : (ts : List Token) (sorts : ℕ) (ids widths : List ℕ) (t : Token) (w i : ℕ) → w ≡ width_told ts → t ≡ token ts 0 → i ≡ small (value_in 10 t)
    → (w ≡ 0 → ⊥) → sorts < length ids → sorts < length widths → SortNoted ts sorts ids widths (set ids sorts i) (set widths sorts w) (sorts + 1)
unfolding id_of
noted_as ts sorts ids widths t w i ew et ei n li lw =
    let s : 0 < w = omega arith in
    rw (ei, et, ew) (noted (rw (← ew) s) li lw)

-- a sort that is noted
pub noting : (w sorts : ℕ) → (eqb w 0 || leb 64 sorts) ≡ false → (w ≡ 0 → ⊥) × (sorts < 64)
noting w sorts e =
    let p = or_both (eqb w 0) (leb 64 sorts) e in
    (eqb-false w 0 p.0, leb-false 64 sorts p.1)
