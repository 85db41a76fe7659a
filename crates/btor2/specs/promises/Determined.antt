-- The entry point's contract determines the answer and every lent byte; a refusal leaves them as they were.
use Rattle.std.specs.Prelude.{◌≡◌, refl, Bool, true, false, List, ◌++◌, ℕ, ◌≤◌, ltb, length, drop, Ok, Err}
use Rattle.std.proofs.Common.{sym, ap, ◌∙◌, arith, zero-add, ltb-false}
use Rattle.std.proofs.lemmas.List.Edits.{sets, sets-eq}
use Rattle.lines.specs.declared.fault.Fault.{Fault}
use Rattle.lines.specs.Faults.{fault_number}
use Rattle.lines.specs.laws.Faults.{fault_one}
use Rattle.btor2.specs.declared.Refusal.{Refusal}
use Rattle.btor2.specs.Conversion.{State, size, Outcome, converted, refused, outcome, bytes_of}
use Rattle.btor2.specs.Answer.{Converted, Answers, done, refuses, Converts}
use Rattle.btor2.specs.laws.Reached.{outcome_reached}
use Rattle.btor2.specs.laws.Sound.{reached_sound}
use Rattle.btor2.specs.laws.Bytes.{whole}
use Rattle.btor2.specs.laws.Fold.{reached_room}

refusal_one : (r s : Refusal) → fault_number r.fault ≡ fault_number s.fault → r.line ≡ s.line → r ≡ s
refusal_one r s e h =
    ap (λ (f : Fault). record { fault = f; line = r.line }) (fault_one r.fault s.fault e)
    ∙ ap (λ (k : ℕ). record { fault = s.fault; line = k }) h

answers_same : {before after after' : List ℕ} {o : Outcome} {r r' : Converted} → Answers before after o r → Answers before after' o r' → (r ≡ r') × (after ≡ after')
answers_same (done e) (done f) = (refl, e ∙ sym f)
answers_same (refuses {r = r} a b e) (refuses {r = s} c d f) = (ap Err (refusal_one r s (a ∙ sym c) (b ∙ sym d)), e ∙ sym f)

pub convert_determined : (text before after after' : List ℕ) (r r' : Converted) → Converts text before after r → Converts text before after' r'
    → (r ≡ r') × (after ≡ after')
convert_determined text before after after' r r' a b = answers_same a b

-- "the first line that fails is named .. Refused, the buffer is untouched"
refused_is : {before after : List ℕ} {o : Outcome} {s : Converted} → Answers before after o s → (r : Refusal) → s ≡ Err r
    → (o ≡ refused (fault_number r.fault) r.line) × (after ≡ before)
refused_is (done e) r q = absurd (let y : ◌≡◌ {A = ℕ} 0 1 = cc in omega arith)
refused_is (refuses {r = s} a b e) r q = (let y : s ≡ r = cc in rw (← a, ← b, y), e)

pub refused_untouched : (text before after : List ℕ) (r : Refusal) → Converts text before after (Err r)
    → (outcome (length before) text ≡ refused (fault_number r.fault) r.line) × (after ≡ before)
refused_untouched text before after r a = refused_is a r refl

-- a text that is converted is answered with its bytes
done_is : {before after : List ℕ} {o : Outcome} {r : Converted} → Answers before after o r → (σ : State) → o ≡ converted σ
    → (r ≡ Ok (size σ)) × (after ≡ sets before 0 (bytes_of σ))
done_is (done {σ = τ} e) σ q = (let y : τ ≡ σ = cc in rw y, e ∙ (let y : τ ≡ σ = cc in rw y))
done_is (refuses a b e) σ q = absurd (let y : ◌≡◌ {A = ℕ} 0 1 = cc in omega arith)

pub converted_written : (text before after : List ℕ) (r : Converted) (σ : State) → Converts text before after r → outcome (length before) text ≡ converted σ
    → (r ≡ Ok (size σ)) × (after ≡ sets before 0 (bytes_of σ))
converted_written text before after r σ a q = done_is a σ q

-- the bytes of the problem, and behind them all that was there: what lies beyond is untouched
some_room : (room : ℕ) (text : List ℕ) (σ : State) → outcome room text ≡ converted σ → 9 ≤ room
unfolding outcome
some_room room text σ e = by (ltb room 9) refl
  where
    by : (t : Bool) → ltb room 9 ≡ t → 9 ≤ room
    by true q = absurd (let z : ◌≡◌ {A = ℕ} 0 1 = cc in omega arith)
    by false q = ltb-false room 9 q

pub beyond_untouched : (text before after : List ℕ) (r : Converted) (σ : State) → Converts text before after r → outcome (length before) text ≡ converted σ
    → after ≡ bytes_of σ ++ drop (size σ) before
beyond_untouched text before after r σ a q =
    let R = outcome_reached (length before) text σ q in
    let S = reached_sound R in
    let w : length (bytes_of σ) ≡ size σ = whole σ S.nodes_few S.roots_few in
    let h : size σ ≤ length before = reached_room R (some_room (length before) text σ q) in
    (converted_written text before after r σ a q).1 ∙ sets-eq (bytes_of σ) before 0 (omega arith) ∙ rw (zero-add (length (bytes_of σ)), w)
