use Rattle.merge_owed.proofs.KnownOrPurged.{known-is-within, lacked-were-purged, purged-were-taken}
use Rattle.merge_owed.proofs.purged.accepted_changes_are_known_or_purged.Goals as goal

pub returns : goal.returns
returns c = record {
  lacked = lacked-were-purged;
  within = known-is-within;
  taken = purged-were-taken;
}
