-- From the first place on.
use Rattle.std.proofs.Common.{refl, sym}
use Rattle.mending.specs.laws.Laid.{laid_front}
use Rattle.mending.proofs.writing.put_map.Goals as goal

pub returns : goal.returns
returns c = rw c.copy_from_slice.ensures.after (sym (laid_front _ _ _ refl c.requires))
