use Rattle.merge_laws.proofs.Accounts.AccountsAlways.{no-change-is-lost}
use Rattle.merge_actions.proofs.promised.actions_lose_no_change.Goals as goal

pub returns : goal.returns
returns c = no-change-is-lost
