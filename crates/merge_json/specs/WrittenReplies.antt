-- Replies as JSON values, as they are written: keys in the order of their bytes.
use Rattle.std.specs.Prelude.{ℕ, List, codes}
use Rattle.serde_json.specs.Data.{Data, object, member, no_members}
use Rattle.merge_batch.specs.declared.reply.Reply.{Reply}
use Rattle.merge_batch.specs.declared.reply.Reply.TheVariants as reply
use Rattle.merge_batch.specs.declared.reply.Joined.{Joined}
use Rattle.merge_batch.specs.declared.reply.Uploaded.{Uploaded}
use Rattle.merge_batch.specs.declared.reply.Ranged.{Ranged}
use Rattle.merge_batch.specs.declared.reply.RangeGrant.{RangeGrant}
use Rattle.merge_batch.specs.declared.reply.Ended.{Ended}
use Rattle.merge_batch.specs.declared.reply.Downloaded.{Downloaded}
use Rattle.merge_batch.specs.declared.reply.DownloadItem.{DownloadItem}
use Rattle.merge_batch.specs.declared.reply.Act.{Act as Order}
use Rattle.merge_batch.specs.declared.reply.Act.TheVariants as order
use Rattle.merge_json.specs.Written.{whole, signed_data, list_of, dot_data, guid_data, cell_data}

abbrev pub joined_data : Joined → Data
joined_data j = object (member (codes "seq") (whole j.seq) no_members)

abbrev pub uploaded_data : Uploaded → Data
uploaded_data u =
    object (member (codes "received") (whole u.received)
    (member (codes "seq") (whole u.seq) no_members))

abbrev pub grant_data : RangeGrant → Data
grant_data g =
    object (member (codes "article") (whole g.article)
    (member (codes "begin") (signed_data g.begin)
    (member (codes "end") (signed_data g.end)
    (member (codes "number") (whole g.number) no_members))))

abbrev pub ended_data : Ended → Data
ended_data e =
    object (member (codes "article") (whole e.article)
    (member (codes "greatest") (signed_data e.greatest)
    (member (codes "next") (whole e.next) no_members)))

abbrev pub ranged_data : Ranged → Data
ranged_data r =
    object (member (codes "ended") (list_of ended_data r.ended)
    (member (codes "grants") (list_of grant_data r.grants)
    (member (codes "seq") (whole r.seq) no_members)))

-- a row is put with its lineage and cells, or removed by a tombstone of type 1 or 5
abbrev pub removal_data : DownloadItem → ℕ → Data
removal_data i type =
    object (member (codes "article") (whole i.article)
    (member (codes "remove") (whole type)
    (member (codes "row") (guid_data i.row.0) no_members)))

abbrev pub download_item_data_by : DownloadItem → Order → Data
download_item_data_by i (order.Put lineage live) =
    object (member (codes "article") (whole i.article)
    (member (codes "lineage") (list_of dot_data lineage)
    (member (codes "live") (list_of cell_data live)
    (member (codes "row") (guid_data i.row.0) no_members))))
download_item_data_by i order.RemoveDeleted = removal_data i 1
download_item_data_by i order.RemoveLeft = removal_data i 5

abbrev pub download_item_data : DownloadItem → Data
download_item_data i = download_item_data_by i i.act

abbrev pub downloaded_data : Downloaded → Data
downloaded_data w =
    object (member (codes "from") (whole w.from)
    (member (codes "items") (list_of download_item_data w.items)
    (member (codes "last") (whole w.last)
    (member (codes "received") (whole w.received)
    (member (codes "seq") (whole w.seq)
    (member (codes "to") (whole w.to) no_members))))))

abbrev pub refused_data : ℕ → List ℕ → Data
refused_data n values =
    object (member (codes "refused") (whole n)
    (member (codes "values") (list_of whole values) no_members))

abbrev pub reply_data : Reply → Data
reply_data (reply.Joined joined) = joined_data joined
reply_data (reply.Uploaded uploaded) = uploaded_data uploaded
reply_data (reply.Ranged ranged) = ranged_data ranged
reply_data (reply.Downloaded downloaded) = downloaded_data downloaded
reply_data (reply.Refused n values) = refused_data n values
