use Rattle.merge_owed.proofs.KnownOrPurged.{known-is-within-by-actions, lacked-were-purged-by-actions, purged-were-taken-by-actions}
use Rattle.merge_actions.proofs.owed.actions_purge_what_is_lacking.Goals as goal

pub returns : goal.returns
returns c = record {
  lacked = lacked-were-purged-by-actions;
  within = known-is-within-by-actions;
  taken = purged-were-taken-by-actions;
}
