-- The contract of `wal_model` determines its number and every lent place; 255 is told exactly where `out` is too short; and of a
-- text of fewer than 2^56 bytes every place is told as it is.
use Rattle.std.specs.Prelude.{◌≡◌, refl, ◌↔◌, List, ℕ, ◌^◌, ◌≤◌, ◌<◌, min, length}
use Rattle.std.proofs.Common.{ap, arith}
use Rattle.std.proofs.Math.Decide.{dec_lt}
use Rattle.problem.specs.Layout.{node_count}
use Rattle.problem.specs.laws.Facts.{accepted_facts}
use Rattle.search.specs.Answers.{refusal_code}
use Rattle.models.specs.Judgement.{judged}
use Rattle.models.specs.Answers.{number_of, place_of}
use Rattle.entries.specs.laws.Short.{entries_few}
use Rattle.models.specs.promises.Numbers.{judged_numbered}
use Rattle.walumpeh.specs.Codes.{last_place, judged_code, too_short}
use Rattle.walumpeh.specs.Judgements.{ModelCode, ModelCode.no_room, ModelCode.told}

pub wal_model_determined :
    (s list text out : List ℕ) {o o' : List ℕ} {r r' : ℕ}
    → ModelCode s list text out o r
    → ModelCode s list text out o' r'
    → (o ≡ o') × (r ≡ r')
wal_model_determined s list text out (no_room h) (no_room h') = (refl, refl)
wal_model_determined s list text out (no_room h) (told h') = absurd (omega arith)
wal_model_determined s list text out (told h) (no_room h') = absurd (omega arith)
wal_model_determined s list text out (told h) (told h') = (refl, refl)

pub model_short_told : {s list text out o : List ℕ} {r : ℕ} → ModelCode s list text out o r → (r ≡ too_short) ↔ (length out < 2)
model_short_told (no_room h) = (λ e. h, λ l. refl)
model_short_told {s} {list} {text} (told h) =
    let n = (judged_numbered s list text).most in (λ e. absurd (omega arith), λ l. absurd (omega arith))

short : (p : ℕ) → p < 2 ^ 56 → min p last_place ≡ p
short p h = omega arith

-- what holds of 0, of entries and of nodes holds of every place from 30 on
by_number :
    (n p : ℕ)
    → 30 ≤ n
    → (30 ≤ n → n ≤ 31 → p ≡ 0)
    → (32 ≤ n → n ≤ 34 → p < 2 ^ 56)
    → (35 ≤ n → p < 2 ^ 56)
    → p < 2 ^ 56
by_number n p g a b c =
    elim (dec_lt 31 n) [
      | no x ↦ let z = a g (omega arith) in omega (arith, z)
      | yes x ↦ elim (dec_lt 34 n) [ yes y ↦ c (omega arith) | no y ↦ b (omega arith) (omega arith) ]
    ]

pub place_told :
    (s list text : List ℕ)
    → 30 ≤ number_of (judged s list text)
    → length text < 2 ^ 56
    → judged_code (judged s list text) ≡ refusal_code (number_of (judged s list text)) (place_of (judged s list text))
place_told s list text g h =
    let n = judged_numbered s list text in
    let f : node_count s ≤ 1024 = (accepted_facts s (n.later g)).header.nodes in
    let p : place_of (judged s list text) < 2 ^ 56 =
    by_number (number_of (judged s list text)) (place_of (judged s list text)) g n.at_text (λ a b. omega (arith, n.at_entry a b, entries_few text))
    (λ a. omega (arith, n.at_node a)) in
    ap (refusal_code (number_of (judged s list text))) (short (place_of (judged s list text)) p)
