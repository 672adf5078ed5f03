use Rattle.merge_synced.proofs.Written.{replies-are-told, requests-are-read}
use Rattle.merge_synced.proofs.what_is_written_is_told.Goals as goal

pub returns : goal.returns
returns c = record { requests = requests-are-read; replies = replies-are-told }
