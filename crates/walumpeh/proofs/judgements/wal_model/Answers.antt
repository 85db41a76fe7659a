-- The judgement's three numbers, of one and the same judgement.
use Rattle.walumpeh.specs.Judgements.{ModelCode.no_room, ModelCode.told}
use Rattle.walumpeh.proofs.judgements.wal_model.Goals as goal

pub returns-then-out-lt2 : goal.returns-then-out-lt2
returns-then-out-lt2 c = no_room c.if-out-lt2.true

pub returns : goal.returns
returns c =
    rw (
      c.judged_code.ensures,
      c.root_number-root.ensures,
      c.yes_number-yes.ensures,
      c.judge-said.ensures,
    )
    (told c.if-out-lt2.false)
