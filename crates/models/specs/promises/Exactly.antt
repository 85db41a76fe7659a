-- "Where nothing is refused, say yes exactly when all roots are 1; otherwise the first root that is 0, in file order."
use Rattle.std.specs.Prelude.{Err, Ok, ◌≡◌, ◌↔◌, Bool, true, false, cond, List, ℕ, zero, suc, ◌<◌, get_or}
use Rattle.std.proofs.Math.Path.{refl, ap}
use Rattle.std.proofs.Common.{sym, ◌∙◌, true≢false, arith, eq-eqb, ne_eqb, eqb-true}
use Rattle.std.proofs.lemmas.Bool.{false≢true}
use Rattle.std.proofs.Math.Decide.{ℕ_discrete}
use Rattle.std.proofs.Math.Dec.{lit<}
use Rattle.problem.specs.Layout.{node_count, root_count, root_at}
use Rattle.problem.specs.Refusals.{Checked, Accepted, checked}
use Rattle.nodes.specs.Problem.{problem, evaluate}
use Rattle.nodes.specs.inner.Good.{Good}
use Rattle.nodes.specs.laws.Good.{good_of}
use Rattle.evaluation.specs.laws.Values.{eval_up_lt}
use Rattle.models.specs.declared.Judged.{Judged}
use Rattle.models.specs.declared.Judged.TheVariants.{Yes, No, Refused}
use Rattle.entries.specs.Names.{names}
use Rattle.entries.specs.Entries.{entries}
use Rattle.models.specs.Judgement.{refuse, ◌next◌, first_said, of_problem, unknown_at, again_at, misfit_at, absent_at, assigned, contradicted_at, zero_at, judged}
use Rattle.models.specs.Answers.{root_of}
use Rattle.models.specs.inner.Judging.{is_yes}
use Rattle.models.specs.laws.First.{refused_not, said_each}
use Rattle.models.specs.laws.Values.{assigned_of, assigned_room}
use Rattle.models.specs.promises.Order.{first_exactly, all_yes, stages, stage, in_order, yes_in_order}

-- no refusal is given, the problem's own or 30 to 36: the first eight stages say nothing
unfoldable pub Unrefused : List ℕ → List ℕ → List ℕ → Type 0
Unrefused s list text = (i : ℕ) → i < 8 → stage s list text i ≡ Yes

-- the value of root j under the values of the text
unfoldable pub root_value : List ℕ → List ℕ → List ℕ → ℕ → ℕ
root_value s list text j = get_or (evaluate (problem s) (assigned s (names list) (entries text))) (root_at s j) 0

-- the problem's own refusals say nothing of an accepted problem alone
pub problem_accepted : (x : Checked) → of_problem x ≡ Yes → x ≡ Accepted
unfolding of_problem refuse
problem_accepted (Ok tt) h = refl
problem_accepted (Err r) h = absurd (refused_not _ h)

-- ---- a refusal names no root

is_no : Judged → Bool
is_no Yes = false
is_no (No j) = true
is_no (Refused f) = false

next_not_no : (a b : Judged) → is_no a ≡ false → is_no b ≡ false → is_no (a next b) ≡ false
unfolding ◌next◌ is_no
next_not_no Yes b h k = k
next_not_no (No j) b h k = h
next_not_no (Refused f) b h k = refl

refuse_not_no : (n p : ℕ) (t : Bool) → is_no (refuse n p t) ≡ false
unfolding refuse is_no
refuse_not_no n p true = refl
refuse_not_no n p false = refl

said_not_no : (f : ℕ → Judged) (n : ℕ) → ((k : ℕ) → is_no (f k) ≡ false) → is_no (first_said f n) ≡ false
unfolding first_said is_no
said_not_no f zero h = refl
said_not_no f (suc n) h = next_not_no (first_said f n) (f n) (said_not_no f n h) (h n)

problem_not_no : (x : Checked) → is_no (of_problem x) ≡ false
unfolding of_problem is_no
problem_not_no (Ok tt) = refl
problem_not_no (Err r) = refuse_not_no r.number r.place true

stage_not_no : (s list text : List ℕ) (i : ℕ) → i < 8 → is_no (stage s list text i) ≡ false
unfolding stages unknown_at again_at misfit_at absent_at contradicted_at
stage_not_no s list text zero h = problem_not_no (checked s)
stage_not_no s list text (suc zero) h = refuse_not_no 30 0 _
stage_not_no s list text (suc (suc zero)) h = refuse_not_no 31 0 _
stage_not_no s list text (suc (suc (suc zero))) h = said_not_no _ _ (λ k. refuse_not_no 32 k _)
stage_not_no s list text (suc (suc (suc (suc zero)))) h = said_not_no _ _ (λ k. refuse_not_no 33 k _)
stage_not_no s list text (suc (suc (suc (suc (suc zero))))) h = said_not_no _ _ (λ k. refuse_not_no 34 k _)
stage_not_no s list text (suc (suc (suc (suc (suc (suc zero)))))) h = said_not_no _ _ (λ k. refuse_not_no 35 _ _)
stage_not_no s list text (suc (suc (suc (suc (suc (suc (suc zero))))))) h = said_not_no _ _ (λ i. refuse_not_no 36 i _)
stage_not_no s list text (suc (suc (suc (suc (suc (suc (suc (suc i)))))))) h = absurd (omega arith)

no_false : (a : Judged) {j : ℕ} → a ≡ No j → is_no a ≡ false → ⊥
unfolding is_no
no_false a e h = true≢false (sym (ap is_no e) ∙ h)

one_of : (v : ℕ) → (v ≡ 0 → ⊥) → v < 2 → v ≡ 1
one_of v x h = omega arith

not_zero : (v : ℕ) → v ≡ 1 → v ≡ 0 → ⊥
not_zero v e z = omega arith

-- the root that is named is 0
zero_said : (t : Bool) (k j : ℕ) → cond t (No k) Yes ≡ No j → (t ≡ true) × (k ≡ j)
zero_said true k j h = (refl, ap root_of h)
zero_said false k j h = absurd (true≢false (ap is_yes h))

module _ (s list text : List ℕ) where
  pub accepted : Unrefused s list text → checked s ≡ Accepted
  unfolding Unrefused stages
  accepted u = problem_accepted (checked s) (u 0 (lit< tt))

  -- a root is 0 or 1
  root_bit : Unrefused s list text → (j : ℕ) → j < root_count s → root_value s list text j < 2
  unfolding root_value evaluate Unrefused stages problem
  root_bit u j l =
      let a = accepted u in
      let g : Good (problem s) = good_of s a in
      let v = assigned s (names list) (entries text) in
      let d = assigned_of s v a (assigned_room s (names list) (entries text) a) (u 7 (lit< tt)) in
      let b = eval_up_lt (problem s) g v d.places d.agrees (node_count s) (omega arith) (root_at s j) (g.root_below j l) in
      rw (g.root_bit j l) at b

  is_named : (j : ℕ) → root_value s list text j ≡ 0 → zero_at s (evaluate (problem s) (assigned s (names list) (entries text))) j ≡ No j
  unfolding zero_at root_value
  is_named j e = rw (eq-eqb _ 0 e)

  not_named : (j : ℕ) → (root_value s list text j ≡ 0 → ⊥) → zero_at s (evaluate (problem s) (assigned s (names list) (entries text))) j ≡ Yes
  unfolding zero_at root_value
  not_named j x = rw (ne_eqb _ 0 x)

  said_root : (j : ℕ) → (zero_at s (evaluate (problem s) (assigned s (names list) (entries text))) j ≡ Yes) ↔ (root_value s list text j ≡ 0 → ⊥)
  said_root j = (λ h e. false≢true (ap is_yes (sym (is_named j e) ∙ h)), not_named j)

  named : (k j : ℕ) → zero_at s (evaluate (problem s) (assigned s (names list) (entries text))) k ≡ No j → (root_value s list text k ≡ 0) × (k ≡ j)
  unfolding zero_at root_value
  named k j h = let z = zero_said _ k j h in (eqb-true _ 0 z.0, z.1)

  -- the roots are the last stage
  roots : stage s list text 8 ≡ first_said (zero_at s (evaluate (problem s) (assigned s (names list) (entries text)))) (root_count s)
  unfolding stages
  roots = refl

  pub yes_exactly : (judged s list text ≡ Yes) ↔ (Unrefused s list text × ((j : ℕ) → j < root_count s → root_value s list text j ≡ 1))
  unfolding Unrefused
  yes_exactly = (
    λ h.
        let all = (yes_in_order s list text).0 h in
        let u : ((i : ℕ) → i < 8 → stage s list text i ≡ Yes) = λ i l. all i (omega arith) in (
          u,
          λ j l.
              let x = (said_root j).0 (said_each _ (root_count s) (sym roots ∙ all 8 (lit< tt)) j l) in
              let y = root_bit u j l in one_of (root_value s list text j) x y,
        ),
    λ q.
        (yes_in_order s list text).1
        (λ i l. elim (ℕ_discrete i 8) [
          | yes e ↦ rw e (roots ∙ all_yes _ (root_count s) (λ j k. (said_root j).1 (λ z. not_zero (root_value s list text j) (q.1 j k) z)))
          | no x ↦ q.0 i (omega arith)
        ]),
  )

  pub no_exactly :
      (j : ℕ)
      → (judged s list text ≡ No j)
      ↔ (Unrefused s list text × (j < root_count s) × (root_value s list text j ≡ 0) × ((i : ℕ) → i < j → root_value s list text i ≡ 1))
  unfolding Unrefused
  no_exactly j = (
    λ h.
        let w = (in_order s list text (No j) refl).0 h in
        let e : w.at ≡ 8 = last_stage w.at w.inside w.says in
        let u : ((i : ℕ) → i < 8 → stage s list text i ≡ Yes) = λ i l. w.before i (omega (arith, e)) in
        let v = (first_exactly _ (root_count s) (No j) refl).0 (sym roots ∙ ap (stage s list text) (sym e) ∙ w.says) in
        let z = named v.at j v.says in (
          u,
          rw z.1 at v.inside,
          rw z.1 at z.0,
          λ i l. let b : i < v.at = omega (arith, z.1) in one_of (root_value s list text i) ((said_root i).0 (v.before i b)) (root_bit u i (omega (arith, v.inside))),
        ),
    λ q.
        (in_order s list text (No j) refl).1
        (record {
          at = 8;
          inside = lit< tt;
          says =
              roots
              ∙ (first_exactly _ (root_count s) (No j) refl).1
              (record { at = j; inside = q.1; says = is_named j q.2; before = λ i l. (said_root i).1 (λ z. not_zero (root_value s list text i) (q.3 i l) z) });
          before = q.0;
        }),
  )
    where
      last_stage : (i : ℕ) → i < 9 → stage s list text i ≡ No j → i ≡ 8
      last_stage i l e =
          elim (ℕ_discrete i 8) [
            | yes q ↦ q
            | no x ↦ absurd (no_false (stage s list text i) e (stage_not_no s list text i (omega arith)))
          ]
