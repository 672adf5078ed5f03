use Rattle.merge_laws.proofs.Runs.LawsOfActions.{identities-apart, ranges-apart, taken-were-granted}
use Rattle.merge_actions.proofs.promised.actions_take_identity_values_once.Goals as goal

pub returns : goal.returns
returns c = record { apart = identities-apart; granted = taken-were-granted; ranges = ranges-apart }
