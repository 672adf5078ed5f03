use Rattle.merge_honest.proofs.RepliesTaken.{no-reply-refused, replies-fit}
use Rattle.merge_honest.proofs.replies.replies_are_taken.Goals as goal

pub returns : goal.returns
returns c = record {
  fit = replies-fit;
  taken = no-reply-refused;
}
