-- Arrays of zeros are the room.
use Rattle.search.specs.laws.Room.{unprepared}
use Rattle.nodes.specs.Problem.{problem}
use Rattle.search.proofs.run_in.Goals as goal

pub prepare-closed-requires : goal.prepare-closed-requires
unfolding problem
prepare-closed-requires g c = rw (← c.requires.slots) (unprepared g.row.N c.requires.room)
