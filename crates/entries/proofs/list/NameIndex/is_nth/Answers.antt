-- Names whose digests differ are not the same.
use Rattle.std.proofs.Common.{ne_eqb, ◌∙◌}
use Rattle.entries.specs.laws.Names.{digests_differ}
use Rattle.entries.proofs.list.NameIndex.is_nth.Goals as goal

pub returns-else-self-k : goal.returns-else-self-k
returns-else-self-k c = ne_eqb _ _ c.if-self-k.false ∙ digests_differ _ _ _ _ _ _ c.args.self.now.digested c.requires.0 c.requires.1 c.if-self-k.false
