-- What the search finds is the id's place, or it has none.
use Rattle.btor2.specs.laws.Name.{beside_none}
use Rattle.btor2.proofs.names.beside.Goals as goal

pub returns-in-Err : goal.returns-in-Err
returns-in-Err c = λ R. beside_none R _ _ _ (rw c.from.ensures at c.binary_search.ensures.position) _ c.in-Err.is
