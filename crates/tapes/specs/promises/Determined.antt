-- What `need` answers is settled by its contract.
use Rattle.std.specs.Prelude.{◌≡◌, List, ℕ}
use Rattle.evaluation.specs.laws.Height.{longest_unique}
use Rattle.search.specs.promises.Determined.{not_both, same_refusal}
use Rattle.tapes.specs.declared.TapeNeed.{TapeNeed}
use Rattle.tapes.specs.Needed.{Needed, Needed.refuses as turned, Needed.needs}

-- "the contract determines the result": of `need`
pub need_determined : (s : List ℕ) (B : ℕ) (r r' : TapeNeed) → Needed s B r → Needed s B r' → r ≡ r'
need_determined s B r r' (turned t e) (turned t' e') = rw (same_refusal e e')
need_determined s B r r' (turned t e) (needs e' l') = absurd (not_both e' e)
need_determined s B r r' (needs e l) (turned t' e') = absurd (not_both e e')
need_determined s B r r' (needs e l) (needs e' l') = rw (longest_unique l l')
