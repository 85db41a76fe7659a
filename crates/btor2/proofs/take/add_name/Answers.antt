-- Both arrays, where the id is to be kept.
use Rattle.std.proofs.Common.{rules}
use Rattle.btor2.specs.laws.NameIf.{name_kept, name_added}
use Rattle.btor2.proofs.take.add_name.Goals as goal

pub returns-then-not-wanted : goal.returns-then-not-wanted
returns-then-not-wanted c = search (rules, name_kept)

pub returns : goal.returns
returns c = search (rules, name_added)
