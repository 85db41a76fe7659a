-- What the marks stand for while the roots are gone through for repeats: the ids of the roots passed.
use mathlib.Core.Path.{◌≡◌, refl, sym, ap, subst, ◌∙◌}
use mathlib.Core.Bool.{Bool, true, false, cond, ◌||◌}
use mathlib.Core.Logic.{inl, inr}
use mathlib.Core.List.{List, []}
use Prim.Native.Nat.{ℕ, suc, ◌+◌, ◌<◌}
use native.Mathlib.Numerals.{add-one}
use native.Mathlib.Omega.{arith}
use lib.ListN.{length, replicate}
use lib.Dec.{eqb}
use Rattle.words.specs.inner.Decides.{Decides}
use Rattle.words.specs.inner.Marks.{Marked, with_mark, Added}
use Rattle.words.specs.laws.Decides.{decides_unique, decides_same, decides_eq}
use Rattle.words.specs.laws.Marks.{unmarked, mark_more}
use Rattle.problem.specs.Layout.{root_at}
use Rattle.problem.specs.Refusals.{Checked, Accepted, refusal, ◌then◌, root_before, repeat_lines, repeat_fault}
use Rattle.problem.specs.laws.First.{line_at_start, line_more}

-- the ids of the roots before j are marked, and no other
pub record Passed (s : List ℕ) (j : ℕ) (marks : List ℕ) : Type 0 where
  pub words : length marks ≡ 16
  pub is : (id : ℕ) → Decides (Marked marks id) (root_before s j id)

pub passed_none : (s : List ℕ) → Passed s 0 (replicate 16 0)
unfolding root_before
passed_none s = record { words = refl; is = λ id. unmarked 16 id }

-- a test of what was marked, or is the id marked last
marked_next :
    {l r : List ℕ} {n : ℕ} → Added (λ j. j ≡ n) l r → (id : ℕ) (t : Bool) → Decides (Marked l id) t → Decides (Marked r id) (t || eqb n id)
marked_next a id true d = a.kept id d
marked_next {l} {r} {n} a id false d =
    decides_same (n ≡ id) (Marked r id) (λ e. a.put id (sym e)) (λ m. elim (a.only id m) [ inl h ↦ absurd (d h) | inr e ↦ sym e ]) (eqb n id)
    (decides_eq n id)

module _ {s : List ℕ} {j : ℕ} {marks : List ℕ} (p : Passed s j marks) (id : ℕ) (e : id ≡ root_at s j) where
  pub passed_more : id < 1024 → (r : List ℕ) → r ≡ with_mark marks id → Passed s (j + 1) r
  unfolding root_before
  passed_more h r q =
      let a : Added (λ k. k ≡ id) marks r = rw q (mark_more marks id (omega (arith, p.words))) in
      let more : (k : ℕ) → Decides (Marked r k) (root_before s j k || eqb (root_at s j) k) =
      λ k. subst (λ (n : ℕ). Decides (Marked r k) (root_before s j k || eqb n k)) e (marked_next a k (root_before s j k) (p.is k)) in
      let next : Passed s (suc j) r = record { words = a.long ∙ p.words; is = more } in
      subst (λ (n : ℕ). Passed s n r) (sym (add-one j)) next

  -- the line that the code makes of its lookup is the table's
  pub repeat_line : (t : Bool) → Decides (Marked marks id) t → (x : Checked) → x ≡ (Accepted then cond t (refusal 16 j) Accepted) → x ≡ repeat_fault s j
  unfolding repeat_fault repeat_lines
  repeat_line t d x g =
      let same : t ≡ root_before s j (root_at s j) = decides_unique (Marked marks id) t (root_before s j id) d (p.is id) ∙ ap (root_before s j) e in
      line_more j [] 16 _ t Accepted x (line_at_start j) same g
