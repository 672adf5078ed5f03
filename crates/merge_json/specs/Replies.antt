-- Replies as they are read.
use Rattle.std.specs.Prelude.{ℕ, List, length, codes, ◌==◌, Option, Some, None, Result, Ok, if◌then◌else◌}
use Rattle.serde_json.specs.Data.{Data}
use Rattle.serde_json.specs.Find.{get, as_array}
use Rattle.merge_batch.specs.declared.request.Kind.{Kind}
use Rattle.merge_batch.specs.declared.request.Kind.TheVariants as kind
use Rattle.merge_batch.specs.declared.reply.Reply.{Reply}
use Rattle.merge_batch.specs.declared.reply.Reply.TheVariants as reply
use Rattle.merge_batch.specs.declared.reply.Joined.{Joined}
use Rattle.merge_batch.specs.declared.reply.Uploaded.{Uploaded}
use Rattle.merge_batch.specs.declared.reply.Ranged.{Ranged}
use Rattle.merge_batch.specs.declared.reply.RangeGrant.{RangeGrant}
use Rattle.merge_batch.specs.declared.reply.Ended.{Ended}
use Rattle.merge_batch.specs.declared.reply.Downloaded.{Downloaded}
use Rattle.merge_batch.specs.declared.reply.DownloadItem.{DownloadItem}
use Rattle.merge_batch.specs.declared.reply.Act.{Act as Order}
use Rattle.merge_batch.specs.declared.reply.Act.TheVariants as order
use Rattle.merge_json.specs.declared.downloads.Head.{Head}
use Rattle.merge_json.specs.Reading.{◌>>=◌, Reader, field_at, whole_at, below_at, signed_at, list_at, placed, mapped_result, numbered_at}
use Rattle.merge_json.specs.Rows.{lineage_at, row_at, cell_at}

unfoldable pub joined_at : Reader Joined
joined_at d = do
  seq ← field_at (codes "seq") whole_at d
  Some (record { seq = seq })

unfoldable pub uploaded_at : Reader Uploaded
uploaded_at d = do
  seq ← field_at (codes "seq") whole_at d
  received ← field_at (codes "received") whole_at d
  Some (record { seq = seq; received = received })

unfoldable pub grant_at : Reader RangeGrant
grant_at d = do
  article ← field_at (codes "article") (below_at 256) d
  number ← field_at (codes "number") whole_at d
  begin ← field_at (codes "begin") signed_at d
  end ← field_at (codes "end") signed_at d
  Some (record { article = article; number = number; begin = begin; end = end })

unfoldable pub ended_at : Reader Ended
ended_at d = do
  article ← field_at (codes "article") (below_at 256) d
  next ← field_at (codes "next") whole_at d
  greatest ← field_at (codes "greatest") signed_at d
  Some (record { article = article; next = next; greatest = greatest })

unfoldable pub ranged_at : Reader Ranged
ranged_at d = do
  seq ← field_at (codes "seq") whole_at d
  grants ← field_at (codes "grants") (list_at grant_at) d
  ended ← field_at (codes "ended") (list_at ended_at) d
  Some (record { seq = seq; grants = grants; ended = ended })

-- the type of the tombstone that takes the row's place
abbrev pub remove_of : ℕ → Option Order
remove_of type = if type == 1 then Some order.RemoveDeleted else (if type == 5 then Some order.RemoveLeft else None)

-- a row with its lineage and cells, or else the removal alone
abbrev pub act_of : Option Data → Option Data → Option Data → Option Order
act_of (Some lineage) (Some live) None = lineage_at lineage >>= λ dots. list_at cell_at live >>= λ cells. Some (order.Put dots cells)
act_of None None (Some remove) = whole_at remove >>= remove_of
act_of _ _ _ = None

unfoldable pub act_at : Reader Order
act_at d = act_of (get (codes "lineage") d) (get (codes "live") d) (get (codes "remove") d)

unfoldable pub download_item_at : Reader DownloadItem
download_item_at d = do
  article ← field_at (codes "article") (below_at 256) d
  row ← field_at (codes "row") row_at d
  act ← act_at d
  Some (record { article = article; row = row; act = act })

unfoldable pub downloaded_head_at : Reader Head
downloaded_head_at d = do
  seq ← field_at (codes "seq") whole_at d
  from ← field_at (codes "from") whole_at d
  to ← field_at (codes "to") whole_at d
  last ← field_at (codes "last") whole_at d
  received ← field_at (codes "received") whole_at d
  Some (record { seq = seq; from = from; to = to; last = last; received = received })

abbrev pub with_items : Head → List DownloadItem → Downloaded
with_items h items = record { seq = h.seq; from = h.from; to = h.to; last = h.last; received = h.received; items = items }

-- all but the items comes first and has the place 0, then the items by their numbers
unfoldable pub downloaded_at : Data → Result Downloaded ℕ
downloaded_at d = placed 0 (downloaded_head_at d) (λ head. placed 0 (field_at (codes "items") as_array d) (λ ds. mapped_result (with_items head) (numbered_at download_item_at 1 ds)))

-- how many fields a refusal has that is told, by its number
abbrev pub field_count : ℕ → Option ℕ
field_count n =
    if n == 1 then Some 1
    else (if n == 2 then Some 2
    else (if n == 3 then Some 2
    else (if n == 4 then Some 2
    else (if n == 5 then Some 2
    else (if n == 6 then Some 2
    else (if n == 12 then Some 1
    else (if n == 16 then Some 1
    else (if n == 17 then Some 0
    else None))))))))

-- the fields are as many as the refusal has
abbrev pub refused_of : ℕ → List ℕ → Option Reply
refused_of n values = field_count n >>= λ count. if length values == count then Some (reply.Refused n values) else None

unfoldable pub refused_at : Reader Reply
refused_at d = do
  n ← field_at (codes "refused") (below_at 256) d
  values ← field_at (codes "values") (list_at whole_at) d
  refused_of n values

-- a reply of a kind
unfoldable pub reply_at : Kind → Data → Result Reply ℕ
reply_at kind.Join d = placed 0 (joined_at d) (λ joined. Ok (reply.Joined joined))
reply_at kind.Upload d = placed 0 (uploaded_at d) (λ uploaded. Ok (reply.Uploaded uploaded))
reply_at kind.Ranges d = placed 0 (ranged_at d) (λ ranged. Ok (reply.Ranged ranged))
reply_at kind.Download d = mapped_result reply.Downloaded (downloaded_at d)
reply_at kind.Refused d = placed 0 (refused_at d) (λ refused. Ok refused)
