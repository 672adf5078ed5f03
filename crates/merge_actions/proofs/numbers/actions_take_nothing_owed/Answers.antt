use Rattle.merge_laws.proofs.Runs.LawsOfActions.{old-past, watermarks-held}
use Rattle.merge_laws.proofs.LastLines.LeavingsOwed.{joins-take-nothing, purges-take-nothing}
use Rattle.merge_actions.proofs.numbers.actions_take_nothing_owed.Goals as goal

pub returns : goal.returns
returns c = record { old = old-past; purges = purges-take-nothing; joins = joins-take-nothing; watermarks = watermarks-held }
