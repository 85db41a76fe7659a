-- The contract of `wal_run` determines its number and every lent place, and 255 is told exactly where `out` is too short.
use Rattle.std.specs.Prelude.{◌≡◌, refl, Bool, ◌↔◌, List, ℕ, ◌≤◌, ◌<◌, leb, length}
use Rattle.std.proofs.Common.{ap, ⊎_elim, arith, leb-true}
use Rattle.problem.specs.Layout.{node_count}
use Rattle.problem.specs.Refusals.{◌then◌, first_below, Checked, number_of as checked_number, checked}
use Rattle.problem.specs.laws.First.{then_each, first_of_each, first_below_each}
use Rattle.problem.specs.promises.Numbers.{numbered}
use Rattle.search.specs.declared.Answer.{Answer}
use Rattle.search.specs.Answers.{outcome_code}
use Rattle.search.specs.Call.{places_fault, start_fault, refusals}
use Rattle.search.specs.promises.Demands.{demand_1}
use Rattle.search.specs.promises.Determined.{run_determined}
use Rattle.walumpeh.specs.Codes.{too_short}
use Rattle.walumpeh.specs.Runs.{counted, reported, RunCode, RunCode.no_room, RunCode.called}

pub wal_run_determined :
    (s start ws : List ℕ) (B : ℕ) (out : List ℕ) {vs vs' o o' : List ℕ} {r r' : ℕ}
    → RunCode s start ws B out vs o r
    → RunCode s start ws B out vs' o' r'
    → (vs ≡ vs') × (o ≡ o') × (r ≡ r')
wal_run_determined s start ws B out (no_room h) (no_room h') = (refl, refl, refl)
wal_run_determined s start ws B out (no_room h) (called h' c') = absurd (omega arith)
wal_run_determined s start ws B out (called h c) (no_room h') = absurd (omega arith)
wal_run_determined s start ws B out (called {vs} {a = a} h c) (called {vs = vs'} {a = a'} h' c') =
    let e = run_determined s start ws B vs vs' a a' c c' in
    (e.0, ap (reported out) e.1, ap (λ (x : Answer). outcome_code x.outcome) e.1)

-- ---- 255 is told where out is too short, and nowhere else: the numbers of refusals go up to 20

abbrev Few : Checked → Type 0
Few c = checked_number c ≤ 20

few : ℕ → Bool
few k = leb k 20

few_checked : (s : List ℕ) → Few (checked s)
few_checked s =
    ⊎_elim (λ (l : checked_number (checked s) ≤ 13). omega arith)
    (⊎_elim (λ (e : checked_number (checked s) ≡ 16). omega arith) (λ (e : checked_number (checked s) ≡ 20). omega arith)) (numbered s).known

few_places : (s start : List ℕ) → Few (places_fault s start)
unfolding places_fault few
few_places s start = first_of_each Few 0 few _ refl (λ k t. leb-true k 20 t) (omega arith)

few_start : (s start : List ℕ) (i : ℕ) → Few (start_fault s start i)
unfolding start_fault few
few_start s start i = first_of_each Few i few _ refl (λ k t. leb-true k 20 t) (omega arith)

few_starts : (s start : List ℕ) → Few (first_below (start_fault s start) (node_count s))
few_starts s start = first_below_each (start_fault s start) Few (omega arith) (node_count s) (λ i h. few_start s start i)

few_numbers : (s start : List ℕ) → checked_number (refusals s start) ≤ 20
unfolding refusals
few_numbers s start =
    then_each Few (checked s) (places_fault s start then first_below (start_fault s start) (node_count s)) (few_checked s)
    (then_each Few (places_fault s start) (first_below (start_fault s start) (node_count s)) (few_places s start) (few_starts s start))

pub short_told :
    {s start ws : List ℕ} {B : ℕ} {out vs o : List ℕ} {r : ℕ} → RunCode s start ws B out vs o r → (r ≡ too_short) ↔ (length out < counted)
short_told (no_room h) = (λ e. h, λ l. refl)
short_told {s} {start} (called h c) =
    let n = (demand_1 c).number in
    let f = few_numbers s start in (λ e. absurd (omega arith), λ l. absurd (omega arith))
