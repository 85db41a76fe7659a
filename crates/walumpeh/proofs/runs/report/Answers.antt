-- `walumpeh::runs::report` meets its contract.
use Rattle.walumpeh.proofs.runs.report.Goals as goal

pub returns : goal.returns
returns c = rw c.verdict_code-verdict.ensures
