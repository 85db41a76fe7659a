-- What the pick at the other position found, or that it found nothing.
use Rattle.essentials.proofs.EssentialLaws.{two_told}
use Rattle.essentials.proofs.essential_of_two.Goals as goal

pub returns : goal.returns
returns c = two_told c.requires.0 c.requires.1 c.some_inverse.result c.some_inverse.ensures c.is_none.result c.is_none.ensures
