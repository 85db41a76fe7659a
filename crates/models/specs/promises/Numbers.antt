-- "The place is 0 for 30 and 31, the earliest entry, from 0, for 32 to 34, the lowest id for 35 and 36": which numbers and places
-- are told, and what each place is.
use Rattle.std.specs.Prelude.{Err, Ok, ◌≡◌, refl, Bool, true, false, cond, ◌||◌, List, eqb, length, get_or}
use Rattle.std.proofs.Common.{ap, ◌∙◌, true≢false, ⊎_elim, lit<}
use Prim.Native.Nat.{ℕ, zero, suc, ◌≤◌, ◌<◌}
use native.Mathlib.Omega.{arith}
use borrow.Author.Tests.{eqb-true, not-false}
use Rattle.problem.specs.Layout.{node_count, root_count, root_at}
use Rattle.problem.specs.Refusals.{Checked, Accepted, checked, number_of as own_number, place_of as own_place}
use Rattle.problem.specs.promises.Numbers.{numbered}
use Rattle.models.specs.declared.Judged.{Judged}
use Rattle.models.specs.declared.Judged.TheVariants.{Yes, No}
use Rattle.entries.specs.Names.{names}
use Rattle.entries.specs.Entries.{entries}
use Rattle.models.specs.Judgement.{refuse, first_said, of_problem, variables, list_wrong, unknown_at, again_at, misfit_at, absent_at, contradicted_at, zero_at, judged}
use Rattle.models.specs.Answers.{number_of, place_of}
use Rattle.models.specs.inner.Judging.{is_yes}
use Rattle.models.specs.laws.First.{yes_is, not_refused}
use Rattle.models.specs.laws.Variables.{below}
use Rattle.models.specs.promises.Order.{first_exactly, stages, stage, in_order, yes_in_order}
use Rattle.models.specs.promises.Exactly.{problem_accepted}

-- of the problem check's answer c, a problem with so many nodes and a text with so many entries: below 30 the number and place are
-- the problem check's own; 30 to 36 are given of an accepted problem alone
pub record Numbered (c : Checked) (nodes entries : ℕ) (r : Judged) : Type 0 where
  pub own : number_of r < 30 → (number_of r ≡ own_number c) × (place_of r ≡ own_place c)
  pub most : number_of r ≤ 36
  pub later : 30 ≤ number_of r → c ≡ Accepted
  pub at_text : 30 ≤ number_of r → number_of r ≤ 31 → place_of r ≡ 0
  pub at_entry : 32 ≤ number_of r → number_of r ≤ 34 → place_of r < entries
  pub at_node : 35 ≤ number_of r → place_of r < nodes

-- a refusal by line k at place p
by_line :
    (c : Checked) (nodes entries k p : ℕ) (t : Bool) (r : Judged)
    → refuse k p t ≡ r
    → is_yes r ≡ false
    → c ≡ Accepted
    → (30 ≤ k) × (k ≤ 36)
    → (k ≤ 31 → p ≡ 0)
    → (32 ≤ k → k ≤ 34 → p < entries)
    → (35 ≤ k → p < nodes)
    → Numbered c nodes entries r
unfolding refuse
by_line c nodes entries k p false r e y q h a b d = absurd (true≢false (ap is_yes e ∙ y))
by_line c nodes entries k p true r e y q h a b d =
    rw (← e)
    (record { own = λ l. absurd (omega (arith, h.0)); most = h.1; later = λ l. q; at_text = λ l m. a m; at_entry = b; at_node = d })

-- the problem's own refusal
own_line : (c : Checked) (nodes entries : ℕ) (r : Judged) → of_problem c ≡ r → is_yes r ≡ false → own_number c < 30 → Numbered c nodes entries r
unfolding of_problem refuse
own_line (Ok tt) nodes entries r e y l = absurd (true≢false (ap is_yes e ∙ y))
own_line (Err q) nodes entries r e y l =
    rw (← e)
    (record {
      own = λ m. (refl, refl);
      most = omega arith;
      later = λ m. absurd (omega arith);
      at_text = λ m n. absurd (omega arith);
      at_entry = λ m n. absurd (omega arith);
      at_node = λ m. absurd (omega arith);
    })

-- no refusal, of an accepted problem
unrefused : (c : Checked) (nodes entries : ℕ) (r : Judged) → c ≡ Accepted → number_of r ≡ 0 → place_of r ≡ 0 → Numbered c nodes entries r
unrefused c nodes entries r a n p =
    record {
      own = λ l. rw a (n, p);
      most = omega (arith, n);
      later = λ l. a;
      at_text = λ l m. absurd (omega (arith, n));
      at_entry = λ l m. absurd (omega (arith, n));
      at_node = λ l. absurd (omega (arith, n));
    }

-- a root that is 0 is no refusal
root_said : (s vs : List ℕ) (j : ℕ) (r : Judged) → zero_at s vs j ≡ r → (number_of r ≡ 0) × (place_of r ≡ 0)
unfolding zero_at
root_said s vs j r = by (eqb (get_or vs (root_at s j) 0) 0)
  where
    by : (t : Bool) → cond t (No j) Yes ≡ r → (number_of r ≡ 0) × (place_of r ≡ 0)
    by true e = rw (← e) (refl, refl)
    by false e = rw (← e) (refl, refl)

or_left : (a b : Bool) → (a || b) ≡ false → a ≡ false
or_left true b h = absurd (true≢false h)
or_left false b h = refl

module _ (s list text : List ℕ) where
  -- where 30 is not given, there are as many names as variables
  pub as_many : stage s list text 1 ≡ Yes → length (names list) ≡ length (variables s)
  unfolding stages list_wrong
  as_many h =
      eqb-true (length (names list)) (length (variables s))
      (not-false (eqb (length (names list)) (length (variables s))) (or_left _ _ (not_refused 30 0 _ h)))

  abbrev P : Judged → Type 0
  P = Numbered (checked s) (node_count s) (length (entries text))

  -- 32 to 34, of entries
  by_entry :
      (k : ℕ) (test : ℕ → Bool) (r : Judged)
      → is_yes r ≡ false
      → checked s ≡ Accepted
      → (32 ≤ k) × (k ≤ 34)
      → first_said (λ i. refuse k i (test i)) (length (entries text)) ≡ r
      → P r
  by_entry k test r y q h e =
      let v = (first_exactly (λ i. refuse k i (test i)) (length (entries text)) r y).0 e in
      by_line _ _ _ k v.at (test v.at) r v.says y q (omega (arith, h.0), omega (arith, h.1)) (λ l. absurd (omega (arith, h.0)))
      (λ l m. v.inside) (λ l. absurd (omega (arith, h.1)))

  -- the first stage says nothing of an accepted problem alone
  accepted_first : stage s list text 0 ≡ Yes → checked s ≡ Accepted
  unfolding stages
  accepted_first h = problem_accepted (checked s) h

  -- the problem check's own numbers are below 30
  own_below : own_number (checked s) < 30
  own_below = ⊎_elim (λ l. omega (arith, l)) (⊎_elim (λ e. omega (arith, e)) (λ e. omega (arith, e))) (numbered s).known

  by_stage : (i : ℕ) (r : Judged) → i < 9 → is_yes r ≡ false → stage s list text i ≡ r → ((j : ℕ) → j < i → stage s list text j ≡ Yes) → P r
  unfolding stages unknown_at again_at misfit_at absent_at contradicted_at variables
  by_stage zero r h y e b = own_line (checked s) _ _ r e y own_below
  by_stage (suc zero) r h y e b = by_line _ _ _ 30 0 _ r e y (accepted_first (b 0 (lit< tt))) (omega arith, omega arith) (λ l. refl) (λ l m. omega arith) (λ l. omega arith)
  by_stage (suc (suc zero)) r h y e b =
      by_line _ _ _ 31 0 _ r e y (accepted_first (b 0 (lit< tt))) (omega arith, omega arith) (λ l. refl) (λ l m. omega arith) (λ l. omega arith)
  by_stage (suc (suc (suc zero))) r h y e b = by_entry 32 _ r y (accepted_first (b 0 (lit< tt))) (omega arith, omega arith) e
  by_stage (suc (suc (suc (suc zero)))) r h y e b = by_entry 33 _ r y (accepted_first (b 0 (lit< tt))) (omega arith, omega arith) e
  by_stage (suc (suc (suc (suc (suc zero))))) r h y e b = by_entry 34 _ r y (accepted_first (b 0 (lit< tt))) (omega arith, omega arith) e
  by_stage (suc (suc (suc (suc (suc (suc zero)))))) r h y e b =
      let v = (first_exactly _ (length (names list)) r y).0 e in
      let n = as_many (b 1 (lit< tt)) in
      by_line _ _ _ 35 _ _ r v.says y (accepted_first (b 0 (lit< tt))) (omega arith, omega arith) (λ l. omega arith) (λ l m. omega arith)
      (λ l. below s (node_count s) v.at (omega (arith, v.inside, n)))
  by_stage (suc (suc (suc (suc (suc (suc (suc zero))))))) r h y e b =
      let v = (first_exactly _ (node_count s) r y).0 e in
      by_line _ _ _ 36 _ _ r v.says y (accepted_first (b 0 (lit< tt))) (omega arith, omega arith) (λ l. omega arith) (λ l m. omega arith) (λ l. v.inside)
  by_stage (suc (suc (suc (suc (suc (suc (suc (suc zero)))))))) r h y e b =
      let v = (first_exactly _ (root_count s) r y).0 e in
      let z = root_said s _ v.at r v.says in
      unrefused (checked s) _ _ r (accepted_first (b 0 (lit< tt))) z.0 z.1
  by_stage (suc (suc (suc (suc (suc (suc (suc (suc (suc i))))))))) r h y e b = absurd (omega arith)

  pub judged_numbered : Numbered (checked s) (node_count s) (length (entries text)) (judged s list text)
  judged_numbered = by (is_yes (judged s list text)) refl
    where
      by : (t : Bool) → is_yes (judged s list text) ≡ t → P (judged s list text)
      by true e =
          let h = yes_is (judged s list text) e in
          unrefused (checked s) _ _ _ (accepted_first ((yes_in_order s list text).0 h 0 (lit< tt))) (ap number_of h) (ap place_of h)
      by false e =
          let w = (in_order s list text (judged s list text) e).0 refl in
          by_stage w.at (judged s list text) w.inside e w.says w.before
