-- The states that lines lead to without a refusal, and what code relies on: the sorts defined so far are those that the lines tell.
use Rattle.std.specs.Prelude.{◌≡◌, refl, Bool, true, false, List, [], ◌∷◌, ◌++◌, ℕ, zero, suc, ltb}
use Rattle.std.proofs.Common.{sym, ◌∙◌, append-nil, arith, ne_eqb, eq-eqb}
use Rattle.std.proofs.Math.Seq.{append_snoc}
use Rattle.lines.specs.Lines.{lines, tokens}
use Rattle.btor2.specs.Conversion.{State, start, line_fault, after_line, converted, refused, convert_from, outcome}

pub data Reached (room : ℕ) : List (List ℕ) → State → Type 0 where
  begin : Reached room [] start
  more :
      {ls : List (List ℕ)} {σ : State} (l : List ℕ)
      → Reached room ls σ
      → line_fault room σ (tokens l) ≡ 0
      → Reached room (ls ++ l ∷ []) (after_line σ (tokens l))

-- ---- the fold

-- a line that passes, and one that is refused
pub fold_more : (room : ℕ) (σ : State) (k : ℕ) (l : List ℕ) (ls : List (List ℕ)) → line_fault room σ (tokens l) ≡ 0
    → convert_from room σ k (l ∷ ls) ≡ convert_from room (after_line σ (tokens l)) (suc k) ls
unfolding convert_from
fold_more room σ k l ls e = rw (eq-eqb _ 0 e)

pub fold_stops : (room : ℕ) (σ : State) (k n : ℕ) (l : List ℕ) (ls : List (List ℕ)) → line_fault room σ (tokens l) ≡ n → (n ≡ 0 → ⊥)
    → convert_from room σ k (l ∷ ls) ≡ refused n k
unfolding convert_from
fold_stops room σ k n l ls e h = rw (e, ne_eqb n 0 h)

-- what is converted was reached: the way into every theorem about conversions
pub fold_reached : (room : ℕ) (σ τ : State) (k : ℕ) (done ls : List (List ℕ)) → Reached room done σ → convert_from room σ k ls ≡ converted τ
    → Reached room (done ++ ls) τ
unfolding convert_from
fold_reached room σ τ k done [] r e = let f : σ ≡ τ = cc in rw (append-nil done, ← f) r
fold_reached room σ τ k done (l ∷ ls) r e =
    by (line_fault room σ (tokens l)) refl
    (λ q. fold_reached room (after_line σ (tokens l)) τ (suc k) (done ++ l ∷ []) ls (more l r q) (sym (fold_more room σ k l ls q) ∙ e))
  where
    by :
        (n : ℕ)
        → line_fault room σ (tokens l) ≡ n
        → (line_fault room σ (tokens l) ≡ 0 → Reached room ((done ++ l ∷ []) ++ ls) τ)
        → Reached room (done ++ l ∷ ls) τ
    by zero q go = rw (← append_snoc done l ls) (go q)
    by (suc n) q go =
        let f : convert_from room σ k (l ∷ ls) ≡ refused (suc n) k = fold_stops room σ k (suc n) l ls q (λ z. let y : suc n ≡ 0 = z in omega arith) in
        absurd (let z : ◌≡◌ {A = ℕ} 0 1 = cc in omega arith)

pub outcome_reached : (room : ℕ) (text : List ℕ) (σ : State) → outcome room text ≡ converted σ → Reached room (lines text) σ
unfolding outcome
outcome_reached room text σ e = by (ltb room 9) refl
  where
    by : (t : Bool) → ltb room 9 ≡ t → Reached room (lines text) σ
    by true q = absurd (let z : ◌≡◌ {A = ℕ} 0 1 = cc in omega arith)
    by false q = fold_reached room start σ 1 [] (lines text) begin (rw q at e)
