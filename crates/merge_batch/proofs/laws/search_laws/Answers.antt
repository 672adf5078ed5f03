use Rattle.std.proofs.Common.{None}
use Rattle.merge_batch.specs.Uploads.{item_rules}
use Rattle.merge_batch.specs.Replies.{item_rules as download_rules}
use Rattle.merge_batch.proofs.Firsts.{first_found}
use Rattle.merge_batch.proofs.laws.search_laws.Goals as goal

pub returns : goal.returns
returns c = record {
  upload = λ publication known upload. first_found (item_rules publication known upload) 1 None upload.items;
  download = λ publication own items. first_found (download_rules publication own) 1 None items;
}
