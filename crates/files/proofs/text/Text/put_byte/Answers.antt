-- Where there is room the byte is stored, and else nothing changes.
use Rattle.std.proofs.Common.{refl}
use Rattle.files.specs.laws.Laid.{laid_one, laid_full}
use Rattle.files.proofs.text.Text.put_byte.Goals as goal

pub returns-then-self : goal.returns-then-self
returns-then-self c = record { text = laid_one _ _ _ c.if-self.true; same = refl }

pub returns-else-self : goal.returns-else-self
returns-else-self c = record { text = laid_full _ _ _ c.args.self.now.inside c.if-self.false; same = refl }
