-- The header, the nodes, the roots.
use Rattle.mending.proofs.Turns.{file_laid}
use Rattle.mending.proofs.writing.put_file.Goals as goal

pub returns : goal.returns
returns c =
    file_laid _ _ _ _ _ c.args.order.now.header c.requires.all c.put_bytes.ensures c.put_nodes.ensures c.put_roots.ensures
