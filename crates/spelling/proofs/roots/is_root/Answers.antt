use Rattle.std.proofs.Common.{◌∙◌}
use Rattle.spelling.specs.laws.Roots.{is_root_by_any}
use Rattle.spelling.proofs.roots.is_root.Goals as goal

pub returns : goal.returns
returns c = c.contains.ensures.value ∙ rw c.from.ensures (is_root_by_any c.args.node _)
