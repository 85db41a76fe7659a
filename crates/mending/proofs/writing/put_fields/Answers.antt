-- Five pieces, one after the other.
use Rattle.mending.proofs.Turns.{fields_laid}
use Rattle.mending.proofs.writing.put_fields.Goals as goal

pub returns : goal.returns
returns c =
    fields_laid _ _ _ _ _ _ _ _ _ _ _ c.requires.0 c.put_bytes.ensures c.put_u16.ensures c.put_u16-2.ensures c.put_u16-3.ensures
    c.put_bytes-2.ensures
