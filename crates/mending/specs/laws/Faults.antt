-- What is kept of a refusal, and what its place becomes, as the code finds it.
use Rattle.std.specs.Prelude.{Err as Refused, ◌≡◌, true, false, ◌||◌, List, ℕ, ◌≤◌, ◌<◌, leb, eqb, get_or}
use Rattle.std.proofs.Common.{le-leb, sym, ◌∙◌}
use Rattle.std.proofs.lemmas.Bool.{lt-leb}
use Rattle.problem.specs.declared.Refusal.{Refusal}
use Rattle.problem.specs.Refusals.{Checked, Accepted, refusal, ◌then◌}
use Rattle.mending.specs.Refusals.{early, at_old}
use Rattle.problem.specs.laws.First.{then_accepted, then_refused}

module _ (f : Checked) (r : Refusal) (e : f ≡ Refused r) where
  pub early_kept : (leb r.number 8 || eqb r.number 20) ≡ true → Refused r ≡ early f
  early_kept h = rw (e, h)

  pub early_dropped : (leb r.number 8 || eqb r.number 20) ≡ false → Accepted ≡ early f
  early_dropped h = rw (e, h)

  module _ (ids : List ℕ) where
    pub old_node : (p : ℕ) → r.number ≤ 12 → p ≡ get_or ids r.place 0 → refusal r.number p ≡ at_old ids f
    old_node p h q = rw (e, le-leb r.number 12 h, q)

    pub old_root : 12 < r.number → Refused r ≡ at_old ids f
    old_root h = rw (e, lt-leb r.number 12 h)

-- three parts, as the code has them: the first that refuses gives the answer
module _ (x y z p : Checked) (e : p ≡ x) where
  pub at_first : (r : Refusal) → p ≡ Refused r → p ≡ (x then y then z)
  at_first r h = h ∙ sym (then_refused x (y then z) r (sym e ∙ h))

  module _ (a : p ≡ Accepted) (q : Checked) (f : q ≡ y) where
    pub at_second : (r : Refusal) → q ≡ Refused r → q ≡ (x then y then z)
    at_second r h = h ∙ sym (then_accepted x (y then z) (sym e ∙ a) ∙ then_refused y z r (sym f ∙ h))

    pub at_third : q ≡ Accepted → (s : Checked) → s ≡ z → s ≡ (x then y then z)
    at_third h s g = g ∙ sym (then_accepted x (y then z) (sym e ∙ a) ∙ then_accepted y z (sym f ∙ h))
