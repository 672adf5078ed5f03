use Rattle.merge_owed.proofs.IdentityKept.{taken-stands-by-actions, values-taken-by-actions}
use Rattle.merge_owed.proofs.TopsKept.{tops-stand}
use Rattle.merge_owed.proofs.ValuesKept.{values-stand-by-actions}
use Rattle.merge_actions.proofs.owed.actions_keep_values.Goals as goal

pub returns : goal.returns
returns c = record {
  stay = taken-stands-by-actions;
  taken = values-taken-by-actions;
  tops = tops-stand;
  values = values-stand-by-actions;
}
