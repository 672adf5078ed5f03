-- All words of this crate that a computation has to open.
use Rattle.std.specs.Prelude.{ℕ, List, []}
use Rattle.merge_types.specs.Fitting.{has_type}
use Rattle.merge_batch.specs.Makers.{maker_of}
use Rattle.merge_batch.specs.Uploads.{broken_by_upload}
use Rattle.merge_batch.specs.Asks.{broken_by_join, broken_by_ranges}
use Rattle.merge_batch.specs.Replies.{broken_by_reply}

unfoldable pub opened : List ℕ
unfolding maker_of has_type broken_by_upload broken_by_join broken_by_ranges broken_by_reply
opened = []
