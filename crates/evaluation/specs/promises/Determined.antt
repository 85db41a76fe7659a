-- The contract of each public function determines its result and every lent place: any two that it allows are equal.
use Rattle.std.specs.Prelude.{◌≡◌, refl, List, ℕ, ◌*◌, ◌<◌, get_or}
use Rattle.std.proofs.Common.{sym, ◌∙◌}
use Rattle.nodes.specs.Problem.{problem, evaluate}
use Rattle.evaluation.specs.Readers.{Chain, Above}
use Rattle.evaluation.specs.inner.Readers.{Indexed}
use Rattle.evaluation.specs.inner.Evaluation.{Renewal}
use Rattle.evaluation.specs.laws.Chains.{chain_unique}
use Rattle.evaluation.specs.laws.Lists.{lists_unique, count_unique}

-- where the contract is an equation
equal : {A : Type 0} {v r s : A} → r ≡ v → s ≡ v → r ≡ s
equal p q = p ∙ sym q

pub evaluate_determined :
    (s before after after' : List ℕ)
    → after ≡ evaluate (problem s) before
    → after' ≡ evaluate (problem s) before
    → after ≡ after'
evaluate_determined s before after after' = equal

-- the nodes of every chain are determined; by which of its positions a reader is linked, and what a slot in no chain holds, is not
-- (docs/CONTRACTS.md)
pub index_readers_determined :
    (s slots slots' : List ℕ)
    → Indexed s slots
    → Indexed s slots'
    → (m : ℕ) (l l' : List ℕ)
    → m < (problem s).nodes
    → Chain slots (get_or slots (4 * m) 0) l
    → Chain slots' (get_or slots' (4 * m) 0) l'
    → l ≡ l'
index_readers_determined s slots slots' i i' m l l' h c c' =
    chain_unique c (i.index.chain m h) ∙ lists_unique (i.index.each m h) (i'.index.each m h) ∙ chain_unique (i'.index.chain m h) c'

pub evaluate_above_determined :
    (s vs : List ℕ) (v : ℕ) (us us' : List ℕ) (r r' : ℕ) → Renewal s vs v us r → Renewal s vs v us' r' → (us ≡ us') × (r ≡ r')
evaluate_above_determined s vs v us us' r r' t t' =
    (equal t.values t'.values, count_unique (Above (problem s) v) refl t.count t'.count)
