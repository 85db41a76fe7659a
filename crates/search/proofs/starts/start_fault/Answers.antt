-- One test, of a node that is there.
use Rattle.std.proofs.Common.{refl}
use Rattle.problem.specs.Refusals.{first_of}
use Rattle.search.specs.Call.{start_fault}
use Rattle.search.specs.laws.Starts.{disagrees_is}
use Rattle.search.proofs.starts.start_fault.Goals as goal

pub returns : goal.returns
unfolding start_fault first_of
returns c = rw (c.refuse_if.ensures, ← disagrees_is _ _ _ _ c.agrees-fits.ensures, c.node-n.ensures.node, c.from.ensures) refl
