-- `walumpeh::runs::wal_run` meets its contract.
use Rattle.walumpeh.specs.Runs.{RunCode.no_room, RunCode.called}
use Rattle.walumpeh.proofs.runs.wal_run.Goals as goal

pub returns-then-out-lt5 : goal.returns-then-out-lt5
returns-then-out-lt5 c = no_room c.if-out-lt5.true

pub returns : goal.returns
returns c =
    rw (c.outcome_code.ensures, c.report.ensures) (called c.if-out-lt5.false c.run-answer.ensures)
