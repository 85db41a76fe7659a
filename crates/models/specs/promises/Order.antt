-- "Refusals, in order .., each is tried over the whole text before the next", none given otherwise: what is said is said by the
-- first of nine stages that says anything, and a stage that goes over entries, variables, nodes or roots says it of the first
-- of them.
use Rattle.std.specs.Prelude.{◌≡◌, refl, ◌↔◌, Bool, true, false, not, List, [], ◌∷◌, ℕ, zero, suc, ◌<◌, length, get_or}
use Rattle.std.proofs.Common.{sym, ap, ◌∙◌, true≢false, arith, lt-suc_self}
use Rattle.problem.specs.Layout.{node_count, root_count}
use Rattle.problem.specs.Refusals.{checked}
use Rattle.nodes.specs.Problem.{problem, evaluate}
use Rattle.models.specs.declared.Judged.{Judged}
use Rattle.models.specs.declared.Judged.TheVariants.{Yes, No, Refused}
use Rattle.entries.specs.Names.{names}
use Rattle.entries.specs.Entries.{is_model, entries}
use Rattle.models.specs.Judgement.{refuse, ◌next◌, first_said, of_problem, variables, list_wrong, unknown_at, again_at, misfit_at, absent_at, assigned, contradicted_at, zero_at, judged_entries, judged_text, judged}
use Rattle.models.specs.inner.Judging.{is_yes}
use Rattle.models.specs.laws.First.{yes_is, next_stays, next_yes, next_assoc, said_at, said_each}

-- of f 0, .., f (n - 1) the one at place `at` is the first that says anything, and it says r
pub record First (f : ℕ → Judged) (n : ℕ) (r : Judged) : Type 0 where
  pub at : ℕ
  pub inside : at < n
  pub says : f at ≡ r
  pub before : (i : ℕ) → i < at → f i ≡ Yes

-- the stages: the problem's own refusals; 30; 31; 32; 33; 34; 35; 36; the roots
unfoldable pub stages : List ℕ → List ℕ → List ℕ → List Judged
stages s list text =
    of_problem (checked s)
    ∷ refuse 30 0 (list_wrong (variables s) (names list))
    ∷ refuse 31 0 (not (is_model text))
    ∷ first_said (unknown_at s (names list) (entries text)) (length (entries text))
    ∷ first_said (again_at s (names list) (entries text)) (length (entries text))
    ∷ first_said (misfit_at s (names list) (entries text)) (length (entries text))
    ∷ first_said (absent_at s (names list) (entries text)) (length (names list))
    ∷ first_said (contradicted_at s (assigned s (names list) (entries text))) (node_count s)
    ∷ first_said (zero_at s (evaluate (problem s) (assigned s (names list) (entries text)))) (root_count s)
    ∷ []

abbrev pub stage : List ℕ → List ℕ → List ℕ → ℕ → Judged
stage s list text i = get_or (stages s list text) i Yes

-- ---- the first that says anything

pub all_yes : (f : ℕ → Judged) (n : ℕ) → ((i : ℕ) → i < n → f i ≡ Yes) → first_said f n ≡ Yes
unfolding first_said
all_yes f zero h = refl
all_yes f (suc n) h = next_yes (first_said f n) (f n) (all_yes f n (λ i l. h i (omega arith))) ∙ h n (lt-suc_self n)

found : (f : ℕ → Judged) (n : ℕ) (r : Judged) → is_yes r ≡ false → first_said f n ≡ r → First f n r
unfolding first_said
found f zero r y h = absurd (true≢false (ap is_yes h ∙ y))
found f (suc n) r y h = by (is_yes (first_said f n)) refl h (λ g. found f n r y g)
  where
    by : (t : Bool) → is_yes (first_said f n) ≡ t → (first_said f n next f n) ≡ r → (first_said f n ≡ r → First f n r) → First f (suc n) r
    by true e q again =
        record {
          at = n;
          inside = lt-suc_self n;
          says = sym (next_yes (first_said f n) (f n) (yes_is (first_said f n) e)) ∙ q;
          before = said_each f n (yes_is (first_said f n) e);
        }
    by false e q again =
        let w = again (next_stays (first_said f n) (f n) e ∙ q) in
        record { at = w.at; inside = omega (arith, w.inside); says = w.says; before = w.before }

pub first_exactly : (f : ℕ → Judged) (n : ℕ) (r : Judged) → is_yes r ≡ false → (first_said f n ≡ r) ↔ First f n r
first_exactly f n r y = (
  found f n r y,
  λ w. sym (said_at f w.at n r (all_yes f w.at w.before) (sym w.says) y w.inside),
)

-- ---- the stages

yes_next : (a : Judged) → (Yes next a) ≡ (a next Yes)
unfolding ◌next◌
yes_next Yes = refl
yes_next (No j) = refl
yes_next (Refused g) = refl

shift : (f : ℕ → Judged) (n : ℕ) → first_said f (suc n) ≡ (f 0 next first_said (λ i. f (suc i)) n)
unfolding first_said
shift f zero = yes_next (f 0)
shift f (suc n) = ap (λ (a : Judged). a next f (suc n)) (shift f n) ∙ next_assoc (f 0) (first_said (λ i. f (suc i)) n) (f (suc n))

abbrev chain : List Judged → Judged
chain [] = Yes
chain (a ∷ l) = a next chain l

chain_first : (l : List Judged) → chain l ≡ first_said (λ i. get_or l i Yes) (length l)
unfolding first_said
chain_first [] = refl
chain_first (a ∷ l) = ap (λ (b : Judged). a next b) (chain_first l) ∙ sym (shift (λ i. get_or (a ∷ l) i Yes) (length l))

next_none : (a : Judged) → (a next Yes) ≡ a
unfolding ◌next◌
next_none Yes = refl
next_none (No j) = refl
next_none (Refused g) = refl

last_none :
    (a b c d e f g h i : Judged)
    → (a next b next c next d next e next f next g next h next i) ≡ (a next b next c next d next e next f next g next h next i next Yes)
last_none a b c d e f g h i =
    ap (λ (x : Judged). a next b next c next d next e next f next g next h next x) (sym (next_none i))

judged_stages : (s list text : List ℕ) → judged s list text ≡ first_said (stage s list text) 9
unfolding judged judged_text judged_entries stages
judged_stages s list text = last_none _ _ _ _ _ _ _ _ _ ∙ chain_first (stages s list text)

-- a refusal, or a root that is 0, is said exactly if it is the first
pub in_order : (s list text : List ℕ) (r : Judged) → is_yes r ≡ false → (judged s list text ≡ r) ↔ First (stage s list text) 9 r
in_order s list text r y =
    let e = first_exactly (stage s list text) 9 r y in
    (λ h. e.0 (sym (judged_stages s list text) ∙ h), λ w. judged_stages s list text ∙ e.1 w)

-- yes is said exactly if no stage says anything
pub yes_in_order : (s list text : List ℕ) → (judged s list text ≡ Yes) ↔ ((i : ℕ) → i < 9 → stage s list text i ≡ Yes)
yes_in_order s list text = (
  λ h. said_each (stage s list text) 9 (sym (judged_stages s list text) ∙ h),
  λ h. judged_stages s list text ∙ all_yes (stage s list text) 9 h,
)
