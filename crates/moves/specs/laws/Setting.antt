-- The variable that a move sets: all variables agree with their fixed bits afterwards.
use Rattle.std.proofs.Common.{subst, arith, get_or-set_other}
use Rattle.std.specs.Prelude.{List, ℕ, set}
use Rattle.std.proofs.Math.Decide.{ℕ_discrete}
use Rattle.std.proofs.Math.Seq.{get_or-set_same}
use Rattle.fixed.specs.declared.Pair.{Pair}
use Rattle.fixed.specs.inner.Pairs.{Agreeing}
use Rattle.nodes.specs.Problem.{Prob}
use Rattle.nodes.specs.Values.{VariablesAgree}
use Rattle.nodes.specs.inner.Good.{Good, Held}
use Rattle.nodes.specs.laws.Pairs.{pairs_own}
use Rattle.moves.specs.laws.Moves.{Lands}

module _ (P : Prob) (g : Good P) (vs : List ℕ) (h : Held P vs) (n v : ℕ) (to : Lands P n v) where
  pub after_agrees : VariablesAgree P (set vs n v)
  unfolding VariablesAgree
  after_agrees m l k =
      elim (ℕ_discrete m n) [
        | yes e ↦
            rw (e, get_or-set_same vs n v 0 (omega (arith, to.node, h.places)))
            (subst (λ (p : Pair). Agreeing p v) (pairs_own P g n to.node (omega (arith, to.is_var))) to.aimed)
        | no x ↦ rw (get_or-set_other vs n m v 0 x) (h.agrees m l k)
      ]
