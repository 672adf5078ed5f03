use Rattle.merge_honest.proofs.KnownItems.{no-unknown-tops, no-unseen-lineages}
use Rattle.merge_honest.proofs.items.items_tell_what_is_known.Goals as goal

pub returns : goal.returns
returns c = record {
  tops = no-unknown-tops;
  seen = no-unseen-lineages;
}
