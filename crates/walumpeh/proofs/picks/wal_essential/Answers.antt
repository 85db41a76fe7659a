-- `walumpeh::picks::wal_essential` meets its contract.
use Rattle.walumpeh.proofs.Answers.{essential_code}
use Rattle.words.specs.laws.Decides.{decides_yes, decides_no}
use Rattle.walumpeh.specs.Calls.{EssentialCode.refused}
use Rattle.walumpeh.proofs.picks.wal_essential.Goals as goal

pub returns-then-not-is_offered : goal.returns-then-not-is_offered
returns-then-not-is_offered c = refused (rw c.spot-spot.ensures at (decides_no _ _ c.is_offered.ensures c.if-not-is_offered.true))

pub returns : goal.returns
returns c =
    rw c.from.ensures
    (essential_code _ _ c.spot-spot.ensures _ _ (decides_yes _ _ c.is_offered.ensures c.if-not-is_offered.false) _ c.essential.ensures)
