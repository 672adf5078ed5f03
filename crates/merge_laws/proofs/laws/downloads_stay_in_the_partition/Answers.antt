use Rattle.merge_model.proofs.Entries.Downloads.{replies-stay}
use Rattle.merge_laws.proofs.laws.downloads_stay_in_the_partition.Goals as goal

pub returns : goal.returns
returns c publication m = replies-stay publication m
