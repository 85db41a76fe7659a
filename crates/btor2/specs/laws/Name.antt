-- Laws of what ids stand for.
use Rattle.std.specs.Prelude.{◌≡◌, Bool, cond, List, ℕ, ◌+◌, ◌*◌, ◌^◌, ◌≤◌, ◌<◌, ltb, length, take, Option, Some, None, Result, Ok, Err}
use Rattle.std.specs.List.Sorted.{IsBinarySearchResult}
use Rattle.std.specs.Ordering.{nat_cmp}
use Rattle.std.proofs.lemmas.List.Sorted.{searched}
use Rattle.std.proofs.Math.Path.{refl}
use Rattle.std.proofs.Common.{sym, ap, ◌∙◌, ⊎_elim, arith, ltb-false, length-take-le, get_or-take}
use Rattle.std.proofs.Math.Bool.{true, false}
use Rattle.std.proofs.lemmas.Bool.{false≢true}
use Rattle.std.proofs.Math.ListN.{get_or}
use Rattle.words.specs.laws.Bits.{lt_or_ge}
use Rattle.texts.specs.Numbers.{value_in}
use Rattle.spelling.specs.declared.line.Operand.{Operand}
use Rattle.lines.specs.Lines.{Token, token, tokens}
use Rattle.lines.specs.Format.{signed, unsigned, ref_of}
use Rattle.btor2.specs.Conversion.{State, known, at, width_in, operand_of}
use Rattle.lines.specs.inner.Told.{find_line, small, width_told, is_alias, alias_of}
use Rattle.btor2.specs.inner.Kept.{Rising, Beside, there, nowhere, Named, Sorted, Seen, node_named, looked_up, Lower}
use Rattle.btor2.specs.inner.Read.{operand_if, Operated}
use Rattle.lines.specs.laws.Text.{small_id}

-- ---- ids that increase

not_less : (a : ℕ) → a < a → ⊥
not_less a h = omega arith

module _ {ids : List ℕ} {names : ℕ} (R : Rising ids names) where
  -- at most as great before a place
  up_to_there : (i j : ℕ) → i ≤ j → j < names → get_or ids i 0 ≤ get_or ids j 0
  up_to_there i j h l = ⊎_elim (λ (k : i < j). let f = R.rises i j k l in omega arith) (λ (k : j ≤ i). let e : i ≡ j = omega arith in rw e (omega arith)) (lt_or_ge i j)

  pub halve_up : (id middle : ℕ) → middle < names → get_or ids middle 0 < id → (k : ℕ) → k < middle + 1 → get_or ids k 0 < id
  halve_up id middle l h k g = let f = up_to_there k middle (omega arith) l in omega arith

  pub halve_down : (id middle : ℕ) → middle < names → id ≤ get_or ids middle 0 → (k : ℕ) → middle ≤ k → k < names → id ≤ get_or ids k 0
  halve_down id middle l h k g m = let f = up_to_there middle k g m in omega arith

  kept_long : length (take names ids) ≡ names
  kept_long = length-take-le names ids R.inside

  kept_rise : (i j : ℕ) → i ≤ j → j < length (take names ids) → get_or (take names ids) i 0 ≤ get_or (take names ids) j 0
  kept_rise i j h l =
      let k : j < names = omega (arith, kept_long) in
      rw (get_or-take names ids i 0 (omega arith), get_or-take names ids j 0 k) (up_to_there i j h k)

  module _ {id k : ℕ} (places : List ℕ) (L : Lower ids names id k) where
    pub beside_past : names ≤ k → Beside ids places names id None
    beside_past h = nowhere (λ j l e. let f = L.under j (omega arith) in omega arith)

    pub beside_other : k < names → (get_or ids k 0 ≡ id → ⊥) → Beside ids places names id None
    beside_other h n = nowhere (λ j l e. ⊎_elim (λ (g : j < k). let f = L.under j g in omega arith) (λ (g : k ≤ j). above j l e g) (lt_or_ge j k))
      where
        above : (j : ℕ) → j < names → get_or ids j 0 ≡ id → k ≤ j → ⊥
        above j l e g =
            let f : id ≤ get_or ids k 0 = L.over k (omega arith) h in
            let u : get_or ids k 0 ≤ get_or ids j 0 = up_to_there k j g l in
            n (omega arith)

  module _ (places : List ℕ) (id : ℕ) (r : Result ℕ ℕ) (B : IsBinarySearchResult (λ y. nat_cmp y id) (take names ids) r) where
    pub beside_found : (k : ℕ) → r ≡ Ok k → Beside ids places names id (Some (get_or places k 0))
    beside_found k e =
        let s = rw e at (searched (take names ids) id r B kept_rise) in
        let l : k < names = omega (arith, s.0, kept_long) in
        there k l (sym (get_or-take names ids k 0 l) ∙ s.1)

    pub beside_none : (i : ℕ) → r ≡ Err i → Beside ids places names id None
    beside_none i e =
        let s = rw e at (searched (take names ids) id r B kept_rise) in
        nowhere (λ j l q. ⊎_elim (λ (g : j < i). below (s.1 j g) l q) (λ (g : i ≤ j). above (s.2 j g (rw kept_long l)) l q) (lt_or_ge j i))
      where
        below : {j : ℕ} → get_or (take names ids) j 0 < id → j < names → get_or ids j 0 ≡ id → ⊥
        below {j} g l q = omega (arith, rw (get_or-take names ids j 0 l) at g)

        above : {j : ℕ} → id < get_or (take names ids) j 0 → j < names → get_or ids j 0 ≡ id → ⊥
        above {j} g l q = omega (arith, rw (get_or-take names ids j 0 l) at g)

-- ---- following other names

known_no : (σ : State) (id : ℕ) → (known id σ.named ≡ true → ⊥) → node_named σ id ≡ None
unfolding node_named
known_no σ id n = by (known id σ.named) refl
  where
    by : (b : Bool) → known id σ.named ≡ b → cond b (Some (at id σ.named)) None ≡ None
    by true e = absurd (n e)
    by false e = refl

known_yes : (σ : State) (id : ℕ) → known id σ.named ≡ true → node_named σ id ≡ Some (at id σ.named)
unfolding node_named
known_yes σ id e = rw e

module _ {σ : State} {ls : List (List ℕ)} {names : ℕ} {ids places : List ℕ} (N : Named σ ls names ids places) where
  pub named_zero : node_named σ 0 ≡ None
  named_zero = known_no σ 0 (λ e. let f = N.some 0 e in omega arith)

  -- where the id is kept
  pub named_here : {id k : ℕ} {r : Option ℕ} → Beside ids places names id r → r ≡ Some k → node_named σ id ≡ Some k
  named_here (there j l e) h = rw (← e) (known_yes σ (get_or ids j 0) (N.direct j l) ∙ ap Some (N.standing j l)) ∙ h
  named_here (nowhere n) h = absurd (let y : ◌≡◌ {A = ℕ} 0 1 = cc in omega arith)

  away : {id : ℕ} {r : Option ℕ} → Beside ids places names id r → r ≡ None → (k : ℕ) → k < names → get_or ids k 0 ≡ id → ⊥
  away (there k l e) h = absurd (let y : ◌≡◌ {A = ℕ} 0 1 = cc in omega arith)
  away (nowhere n) h = n

  -- where it is not: the line of which it is another name, if it is one
  module _ {id : ℕ} {r : Option ℕ} (a : ℕ) (l : List ℕ) (B : Beside ids places names id r) (h : r ≡ None) (p : 0 < id)
      (f : l ≡ find_line id ls) (e : a ≡ alias_of (tokens l)) where
    not_known : is_alias (tokens (find_line id ls)) ≡ false → known id σ.named ≡ true → ⊥
    not_known n k = false≢true (sym n ∙ N.others id k (away B h))

    other_is : is_alias (tokens (find_line id ls)) ≡ true → a ≡ value_in 10 (token (tokens (find_line id ls)) 3)
    unfolding alias_of
    other_is y =
        e ∙ rw (f, y) (small_id _ (N.most _ (N.aliases id p y).known_too))

    other_none : is_alias (tokens (find_line id ls)) ≡ false → a ≡ 0
    unfolding alias_of
    other_none n = e ∙ rw (f, n)

    pub named_turn : node_named σ id ≡ node_named σ a
    named_turn = by (is_alias (tokens (find_line id ls))) refl
      where
        by : (b : Bool) → is_alias (tokens (find_line id ls)) ≡ b → node_named σ id ≡ node_named σ a
        by true y =
            let A = N.aliases id p y in
            rw (other_is y) (known_yes σ id A.told ∙ ap Some A.same ∙ sym (known_yes σ _ A.known_too))
        by false n = rw (other_none n) (known_no σ id (not_known n) ∙ sym named_zero)

    pub named_stop : id ≤ a → node_named σ id ≡ None
    named_stop g = by (is_alias (tokens (find_line id ls))) refl
      where
        by : (b : Bool) → is_alias (tokens (find_line id ls)) ≡ b → node_named σ id ≡ None
        by true y = let A = (N.aliases id p y).below in let i = other_is y in absurd (omega arith)
        by false n = known_no σ id (not_known n)

-- ---- an operand

-- an id that 64 bits do not hold names nothing, as 0 does
pub named_small : {σ : State} {ls : List (List ℕ)} {names : ℕ} {ids places : List ℕ} → Named σ ls names ids places → (id : ℕ)
    → node_named σ (small id) ≡ node_named σ id
unfolding small
named_small {σ} N id = by (ltb id (2 ^ 64)) refl
  where
    by : (b : Bool) → ltb id (2 ^ 64) ≡ b → node_named σ (cond b id 0) ≡ node_named σ id
    by true e = refl
    by false e =
        let g : 2 ^ 64 ≤ id = ltb-false id (2 ^ 64) e in
        named_zero N ∙ sym (known_no σ id (λ k. let f : id < 2 ^ 64 = N.most id k in over g f))
      where
        over : 2 ^ 64 ≤ id → id < 2 ^ 64 → ⊥
        over g f = omega arith

-- the reference's sign s, its text u without it, its number m and the node that code found for it
module _ {σ : State} {ls : List (List ℕ)} {names : ℕ} {bytes ids places : List ℕ} (S : Seen σ ls names bytes ids places)
    (t u : Token) (s : Bool) (m : ℕ) (node : Option ℕ) (es : s ≡ signed t) (eu : u ≡ unsigned t) (em : m ≡ small (value_in 10 u)) (en : node ≡ node_named σ m) where
  node_is : node ≡ node_named σ (value_in 10 (unsigned t))
  node_is = en ∙ rw (em, eu) (named_small S.named (value_in 10 (unsigned t)))

  case : (b : Bool) → known (value_in 10 (unsigned t)) σ.named ≡ b → node ≡ cond b (Some (at (value_in 10 (unsigned t)) σ.named)) None
  unfolding node_named
  case b e = node_is ∙ rw e

  pub looked_none : node ≡ None → record { negative = s; node = 1024; width = 0 } ≡ looked_up σ (ref_of t)
  unfolding looked_up ref_of
  looked_none h = by (known (value_in 10 (unsigned t)) σ.named) refl
    where
      by : (b : Bool) → known (value_in 10 (unsigned t)) σ.named ≡ b → record { negative = s; node = 1024; width = 0 } ≡ looked_up σ (ref_of t)
      by true e =
          let c : node ≡ Some (at (value_in 10 (unsigned t)) σ.named) = case true e in
          absurd (let y : ◌≡◌ {A = ℕ} 0 1 = cc in omega arith)
      by false e = rw (e, es)

  pub looked_some : (k : ℕ) → node ≡ Some k → (w : ℕ) → w ≡ get_or bytes (24 * k + 1) 0 → record { negative = s; node = k; width = w } ≡ looked_up σ (ref_of t)
  unfolding looked_up ref_of operand_of
  looked_some k h w ew = by (known (value_in 10 (unsigned t)) σ.named) refl
    where
      by : (b : Bool) → known (value_in 10 (unsigned t)) σ.named ≡ b → record { negative = s; node = k; width = w } ≡ looked_up σ (ref_of t)
      by true e =
          let c : node ≡ Some (at (value_in 10 (unsigned t)) σ.named) = case true e in
          let z : k ≡ at (value_in 10 (unsigned t)) σ.named = cc in
          let i = S.named.inside _ e in
          let g : get_or bytes (24 * k + 1) 0 ≡ width_in σ.nodes k = S.widths k (rw z i) in
          rw (e, ew, g, es, z)
      by false e =
          let c : node ≡ None = case false e in
          absurd (let y : ◌≡◌ {A = ℕ} 0 1 = cc in omega arith)

-- ---- a sort

pub sort_none : {σ : State} {ls : List (List ℕ)} → Sorted σ ls → (id : ℕ) → id ≡ 0 → 0 ≡ at id σ.sorts
sort_none {σ} S id e = rw e (sym S.none)

pub sort_some : {σ : State} {ls : List (List ℕ)} → Sorted σ ls → (id w : ℕ) (l : List ℕ) → (id ≡ 0 → ⊥) → l ≡ find_line id ls
    → w ≡ width_told (tokens l) → w ≡ at id σ.sorts
sort_some S id w l n e q = q ∙ rw e (sym (S.told id (omega arith)))

-- ---- three operands

pub operated : (σ : State) (ts : List Token) (place refs : ℕ) (t u v : Token) (a b c : Operand) → t ≡ token ts place → u ≡ token ts (place + 1)
    → v ≡ token ts (place + 2) → a ≡ operand_if (ltb 0 refs) σ (ref_of t) → b ≡ operand_if (ltb 1 refs) σ (ref_of u)
    → c ≡ operand_if (ltb 2 refs) σ (ref_of v) → Operated σ ts place refs (record { a = a; b = b; c = c })
operated σ ts place refs t u v a b c et eu ev ea eb ec = record { a_is = rw (← et) ea; b_is = rw (← eu) eb; c_is = rw (← ev) ec }
