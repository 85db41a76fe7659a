-- "Refusals: the first line that fails is named, in the order 1 .. 5"; and none is given otherwise.
use Rattle.std.specs.Prelude.{◌≡◌, refl, Bool, true, false, cond, List, [], ◌∷◌, ◌++◌, ◌↔◌, ℕ, zero, suc, ◌+◌, ◌≤◌, ◌<◌, eqb, length}
use Rattle.std.proofs.Common.{sym, ap, ◌∙◌, arith, lt-ltb, le-ltb, ne_eqb}
use Rattle.lines.specs.Lines.{Token, lines, tokens}
use Rattle.lines.specs.Format.{◌or_else◌, format_fault, item}
use Rattle.btor2.specs.Conversion.{State, start, id_fault, misfit, too_much, after, item_fault, line_fault, after_line, converted, refused, convert_from, outcome}
use Rattle.btor2.specs.laws.Reached.{fold_more, fold_stops}

-- ---- the first line that fails

-- line k of a text is refused with the number n: the lines before it pass, one after the other, and lead to a state in which it fails
pub record FirstFault (room : ℕ) (text : List ℕ) (n k : ℕ) : Type 0 where
  pub before : List (List ℕ)
  pub line : List ℕ
  pub rest : List (List ℕ)
  pub state : State
  pub whole : lines text ≡ before ++ line ∷ rest
  pub place : k ≡ 1 + length before
  pub passed : convert_from room start 1 before ≡ converted state
  pub fails : line_fault room state (tokens line) ≡ n
  pub some : n ≡ 0 → ⊥

-- from a state on
record Fault (room : ℕ) (σ : State) (at : ℕ) (ls : List (List ℕ)) (n k : ℕ) : Type 0 where
  before : List (List ℕ)
  line : List ℕ
  rest : List (List ℕ)
  state : State
  whole : ls ≡ before ++ line ∷ rest
  place : k ≡ at + length before
  passed : convert_from room σ at before ≡ converted state
  fails : line_fault room state (tokens line) ≡ n
  some : n ≡ 0 → ⊥

fault_found : (room : ℕ) (σ : State) (at : ℕ) (ls : List (List ℕ)) (n k : ℕ) → convert_from room σ at ls ≡ refused n k → Fault room σ at ls n k
unfolding convert_from
fault_found room σ at [] n k e = absurd (let z : ◌≡◌ {A = ℕ} 0 1 = cc in omega arith)
fault_found room σ at (l ∷ ls) n k e = by (line_fault room σ (tokens l)) refl (fault_found room (after_line σ (tokens l)) (suc at) ls n k)
  where
    by : (m : ℕ) → line_fault room σ (tokens l) ≡ m → (convert_from room (after_line σ (tokens l)) (suc at) ls ≡ refused n k → Fault room (after_line σ (tokens l)) (suc at) ls n k)
        → Fault room σ at (l ∷ ls) n k
    by zero q go =
        let f = go (sym (fold_more room σ at l ls q) ∙ e) in
        let w = f.whole in
        let p = f.place in
        record {
          before = l ∷ f.before;
          line = f.line;
          rest = f.rest;
          state = f.state;
          whole = ap (λ (xs : List (List ℕ)). l ∷ xs) w;
          place = omega arith;
          passed = fold_more room σ at l f.before q ∙ f.passed;
          fails = f.fails;
          some = f.some;
        }
    by (suc m) q go =
        let g : convert_from room σ at (l ∷ ls) ≡ refused (suc m) at = fold_stops room σ at (suc m) l ls q (λ z. let y : suc m ≡ 0 = z in omega arith) in
        let x : suc m ≡ n = cc in
        let y : at ≡ k = cc in
        record {
          before = [];
          line = l;
          rest = ls;
          state = σ;
          whole = refl;
          place = omega arith;
          passed = refl;
          fails = q ∙ x;
          some = λ z. let u : suc m ≡ 0 = x ∙ z in omega arith;
        }

fault_told : (room : ℕ) (σ τ : State) (at : ℕ) (before : List (List ℕ)) (l : List ℕ) (rest : List (List ℕ)) (n : ℕ) → convert_from room σ at before ≡ converted τ
    → line_fault room τ (tokens l) ≡ n → (n ≡ 0 → ⊥) → convert_from room σ at (before ++ l ∷ rest) ≡ refused n (at + length before)
unfolding convert_from
fault_told room σ τ at [] l rest n p f s =
    let e : σ ≡ τ = cc in
    let z : at + 0 ≡ at = omega arith in
    rw z (fold_stops room σ at n l rest (rw e f) s)
fault_told room σ τ at (x ∷ before) l rest n p f s = by (line_fault room σ (tokens x)) refl (λ q. fault_told room (after_line σ (tokens x)) τ (suc at) before l rest n q f s)
  where
    by : (m : ℕ) → line_fault room σ (tokens x) ≡ m
        → (convert_from room (after_line σ (tokens x)) (suc at) before ≡ converted τ → convert_from room (after_line σ (tokens x)) (suc at) (before ++ l ∷ rest) ≡ refused n (suc at + length before))
        → convert_from room σ at (x ∷ before ++ l ∷ rest) ≡ refused n (at + suc (length before))
    by zero q go =
        let z : at + suc (length before) ≡ suc at + length before = omega arith in
        fold_more room σ at x (before ++ l ∷ rest) q
        ∙ rw z (go (sym (fold_more room σ at x before q) ∙ p))
    by (suc m) q go =
        let g : convert_from room σ at (x ∷ before) ≡ refused (suc m) at = fold_stops room σ at (suc m) x before q (λ z. let y : suc m ≡ 0 = z in omega arith) in
        absurd (let z : ◌≡◌ {A = ℕ} 0 1 = cc in omega arith)

-- where 9 bytes or more are lent, a refusal is told exactly if it is that of the first line that fails
pub refused_exactly : (room : ℕ) (text : List ℕ) (n k : ℕ) → 9 ≤ room → (outcome room text ≡ refused n k) ↔ FirstFault room text n k
unfolding outcome
refused_exactly room text n k h = (λ e. found (rw (le-ltb room 9 h) at e), λ f. rw (le-ltb room 9 h) (told f))
  where
    found : convert_from room start 1 (lines text) ≡ refused n k → FirstFault room text n k
    found e =
        let f = fault_found room start 1 (lines text) n k e in
        record {
          before = f.before;
          line = f.line;
          rest = f.rest;
          state = f.state;
          whole = f.whole;
          place = f.place;
          passed = f.passed;
          fails = f.fails;
          some = f.some;
        }

    told : FirstFault room text n k → convert_from room start 1 (lines text) ≡ refused n k
    told f =
        let p = f.place in
        rw (f.whole, p) (fault_told room start f.state 1 f.before f.line f.rest n f.passed f.fails f.some)

-- with fewer, every text is refused with 5 at line 0
pub refused_before : (room : ℕ) (text : List ℕ) → room < 9 → outcome room text ≡ refused 5 0
unfolding outcome
refused_before room text h = rw (lt-ltb room 9 h)

-- ---- the order on one line

-- what is told of a line with tokens: 1 and 2 by the line alone; 3 where neither is given; 4 where 3 is not; 5 where 4 is not
pub data Told (room : ℕ) (σ : State) (ts : List Token) : ℕ → Type 0 where
  format : {n : ℕ} → format_fault ts ≡ n → (n ≡ 0 → ⊥) → Told room σ ts n
  ids : format_fault ts ≡ 0 → id_fault σ (item ts) ≡ true → Told room σ ts 3
  widths : format_fault ts ≡ 0 → id_fault σ (item ts) ≡ false → misfit σ (item ts) ≡ true → Told room σ ts 4
  space :
      format_fault ts ≡ 0
      → id_fault σ (item ts) ≡ false
      → misfit σ (item ts) ≡ false
      → too_much room (after σ (item ts)) ≡ true
      → Told room σ ts 5
  passes :
      format_fault ts ≡ 0
      → id_fault σ (item ts) ≡ false
      → misfit σ (item ts) ≡ false
      → too_much room (after σ (item ts)) ≡ false
      → Told room σ ts 0

pub in_order : (room : ℕ) (σ : State) (t : Token) (ts : List Token) → Told room σ (t ∷ ts) (line_fault room σ (t ∷ ts))
unfolding line_fault item_fault ◌or_else◌
in_order room σ t ts = by (format_fault (t ∷ ts)) refl
  where
    by : (n : ℕ) → format_fault (t ∷ ts) ≡ n → Told room σ (t ∷ ts) (cond (eqb n 0) (item_fault room σ (item (t ∷ ts))) n)
    by (suc n) e = let s : suc n ≡ 0 → ⊥ = λ z. omega arith in rw (ne_eqb (suc n) 0 s) (format e s)
    by zero e = three (id_fault σ (item (t ∷ ts))) refl
      where
        five : (b : Bool) → id_fault σ (item (t ∷ ts)) ≡ false → misfit σ (item (t ∷ ts)) ≡ false → too_much room (after σ (item (t ∷ ts))) ≡ b → Told room σ (t ∷ ts) (cond b 5 0)
        five true p q r = space e p q r
        five false p q r = passes e p q r

        four : (b : Bool) → id_fault σ (item (t ∷ ts)) ≡ false → misfit σ (item (t ∷ ts)) ≡ b
            → Told room σ (t ∷ ts) (cond (eqb (cond b 4 0) 0) (cond (too_much room (after σ (item (t ∷ ts)))) 5 0) (cond b 4 0))
        four true p q = widths e p q
        four false p q = five (too_much room (after σ (item (t ∷ ts)))) p q refl

        three : (b : Bool) → id_fault σ (item (t ∷ ts)) ≡ b
            → Told room σ (t ∷ ts)
            (cond (eqb (cond b 3 0) 0)
            (cond (eqb (cond (misfit σ (item (t ∷ ts))) 4 0) 0) (cond (too_much room (after σ (item (t ∷ ts)))) 5 0) (cond (misfit σ (item (t ∷ ts))) 4 0))
            (cond b 3 0))
        three true p = ids e p
        three false p = four (misfit σ (item (t ∷ ts))) p refl
