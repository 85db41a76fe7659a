-- Laws of the bench's refusals: what 23, 24 and 26 test.
use Rattle.std.specs.Prelude.{◌≡◌, refl, false, ◌↔◌, List, ℕ, zero, suc, ◌*◌, ◌≤◌, ◌<◌, length, get_or}
use Rattle.std.proofs.Common.{lt-suc_self, arith}
use Rattle.std.proofs.Math.Decide.{dec_lt}
use Rattle.problem.specs.Layout.{node_count, node_at}
use Rattle.problem.specs.Refusals.{Accepted, first_below}
use Rattle.problem.specs.laws.Tests.{lt_no, le_no, eq_no, eq_yes, not_no, or_no}
use Rattle.problem.specs.laws.First.{first_each, first_all}
use Rattle.search.specs.laws.Starts.{one_line_is}
use Rattle.frames.specs.Names.{most, count_fault, no_variable, named_before, name_fault, keep_fault}

-- none of the first k names is this id
before_right : (names : List ℕ) (k id : ℕ) → (named_before names k id ≡ false) ↔ ((j : ℕ) → j < k → get_or names j 0 ≡ id → ⊥)
unfolding named_before
before_right names zero id = (λ e j l. absurd (omega arith), λ f. refl)
before_right names (suc k) id =
    let e = or_no (before_right names k id) (eq_no (get_or names k 0) id) in (
      λ h j l. elim (dec_lt j k) [ yes b ↦ (e.0 h).0 j b | no x ↦ let q : j ≡ k = omega arith in rw q (e.0 h).1 ],
      λ f. e.1 (λ j l. f j (omega arith), f k (lt-suc_self k)),
    )

-- what a call of the bench has that is not refused
pub record Named (s names : List ℕ) (k : ℕ) : Type 0 where
  pub inside : get_or names k 0 < node_count s
  pub variable : (node_at s (get_or names k 0)).kind ≡ 0
  pub once : (j : ℕ) → j < k → get_or names j 0 ≡ get_or names k 0 → ⊥

name_right : (s names : List ℕ) (k : ℕ) → (name_fault s names k ≡ Accepted) ↔ Named s names k
unfolding name_fault no_variable
name_right s names k =
    let e = one_line_is 0 24 _ (or_no (or_no (le_no (node_count s) (get_or names k 0)) (not_no (eq_yes (node_at s (get_or names k 0)).kind 0))) (before_right names k (get_or names k 0))) in
    (λ h. let f = e.0 h in record { inside = f.0.0; variable = f.0.1; once = f.1 }, λ n. e.1 ((n.inside, n.variable), n.once))

pub count_right : (names : List ℕ) → (count_fault names ≡ Accepted) ↔ ((length names ≡ 0 → ⊥) × (length names ≤ 8))
unfolding count_fault
count_right names = one_line_is 0 23 _ (or_no (eq_no (length names) 0) (lt_no 8 (length names)))

pub names_right : (s names : List ℕ) → (first_below (name_fault s names) (length names) ≡ Accepted) ↔ ((k : ℕ) → k < length names → Named s names k)
names_right s names = (
  λ h k l. (name_right s names k).0 (first_each (name_fault s names) (length names) h k l),
  λ f. first_all (name_fault s names) (length names) (λ k l. (name_right s names k).1 (f k l)),
)

pub keep_right : (s kept : List ℕ) → (keep_fault s kept ≡ Accepted) ↔ (most * node_count s ≤ length kept)
unfolding keep_fault
keep_right s kept = one_line_is 0 26 _ (lt_no (length kept) (most * node_count s))
