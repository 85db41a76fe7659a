-- Laws of refusals 14 and 15: what each tests, and that only the variables' places bear on them.
use Rattle.std.specs.Prelude.{Err as Refused, Ok, ◌≡◌, refl, ◌↔◌, Bool, true, false, not, List, [], ◌∷◌, ℕ, zero, suc, ◌≤◌, ◌<◌, length, get_or}
use Rattle.std.proofs.Common.{ap₂, ◌∙◌, arith, lt-suc_self, ne_eqb}
use Rattle.std.proofs.Math.Decide.{ℕ_discrete}
use Rattle.words.specs.Agree.{Agrees}
use Rattle.words.specs.inner.Decides.{Decides}
use Rattle.words.specs.laws.Agree.{agrees_of_within, lo_within, within_hi}
use Rattle.problem.specs.Layout.{node_count, node_at}
use Rattle.problem.specs.Refusals.{Checked, Accepted, first_of, ◌then◌, first_below, bit_outside}
use Rattle.problem.specs.laws.Tests.{lt_no, eq_yes, or_no, and_no}
use Rattle.problem.specs.laws.First.{none_of, of_none, then_accepted}
use Rattle.problem.specs.laws.Facts.{within_right}
use Rattle.nodes.specs.Problem.{problem, Variable}
use Rattle.search.specs.Call.{places_fault, disagrees, start_fault, refusals}
use Rattle.search.specs.inner.Run.{Lent}

agree_right : (lo hi v : ℕ) → (disagrees lo hi v ≡ false) ↔ Agrees lo hi v
unfolding disagrees bit_outside
agree_right lo hi v =
    let e = or_no (within_right lo v) (within_right v hi) in
    (λ h. agrees_of_within (e.0 h).0 (e.0 h).1, λ a. e.1 (lo_within a, within_hi a))

-- what a test of a word against a pair says
pub disagrees_is : (lo hi v : ℕ) (b : Bool) → Decides (Agrees lo hi v) b → disagrees lo hi v ≡ not b
disagrees_is lo hi v true a = (agree_right lo hi v).1 a
disagrees_is lo hi v false x = unlike (disagrees lo hi v) refl
  where
    unlike : (d : Bool) → disagrees lo hi v ≡ d → disagrees lo hi v ≡ true
    unlike true e = e
    unlike false e = absurd (x ((agree_right lo hi v).0 e))

one_line : (p k : ℕ) (t : Bool) → (first_of p ((k, t) ∷ []) ≡ Accepted) ↔ (t ≡ false)
one_line p k t = (λ h. (none_of p ((k, t) ∷ []) h).0, λ e. of_none p ((k, t) ∷ []) (e, tt))

-- a table of one line says what its test says
pub one_line_is : {A : Type 0} (p k : ℕ) (t : Bool) → (t ≡ false) ↔ A → (first_of p ((k, t) ∷ []) ≡ Accepted) ↔ A
one_line_is p k t e = let l = one_line p k t in (λ h. e.0 (l.0 h), λ a. l.1 (e.1 a))

module _ (s start : List ℕ) where
  pub places_right : (places_fault s start ≡ Accepted) ↔ (node_count s ≤ length start)
  unfolding places_fault
  places_right = one_line_is 0 14 _ (lt_no (length start) (node_count s))

  pub start_right :
      (i : ℕ)
      → (start_fault s start i ≡ Accepted)
      ↔ ((node_at s i).kind ≡ 0 → Agrees (node_at s i).lo (node_at s i).hi (get_or start i 0))
  unfolding start_fault
  start_right i = one_line_is i 15 _ (and_no (eq_yes (node_at s i).kind 0) (agree_right (node_at s i).lo (node_at s i).hi (get_or start i 0)))

-- two starts with the same variables
first_same : (f g : ℕ → Checked) (n : ℕ) → ((i : ℕ) → i < n → f i ≡ g i) → first_below f n ≡ first_below g n
first_same f g zero h = refl
first_same f g (suc n) h = ap₂ ◌then◌ (first_same f g n (λ i l. h i (omega arith))) (h n (lt-suc_self n))

pub refusals_same :
    (s start other : List ℕ)
    → length start ≡ length other
    → ((n : ℕ) → n < node_count s → Variable (problem s) n → get_or start n 0 ≡ get_or other n 0)
    → refusals s start ≡ refusals s other
unfolding refusals places_fault start_fault problem
refusals_same s start other e h =
    rw (
      e,
      first_same (start_fault s start) (start_fault s other) (node_count s)
          (λ i l. elim (ℕ_discrete (node_at s i).kind 0) [ yes v ↦ rw (h i l v) | no x ↦ rw (ne_eqb (node_at s i).kind 0 x) ]),
    )

-- ---- refusals one after another

pub then_assoc : (x y z : Checked) → ((x then y) then z) ≡ (x then y then z)
then_assoc (Ok tt) y z = refl
then_assoc (Refused r) y z = refl

-- where the problem is accepted and the places are there, a call is refused by 15 alone
pub refusals_lent : {s vs : List ℕ} → Lent s vs → refusals s vs ≡ first_below (start_fault s vs) (node_count s)
unfolding refusals
refusals_lent {s} {vs} l = then_accepted _ _ l.accepted ∙ then_accepted _ _ ((places_right s vs).1 l.places)
