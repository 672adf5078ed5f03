-- Requests as JSON values, as they are written: keys in the order of their bytes.
use Rattle.std.specs.Prelude.{codes}
use Rattle.serde_json.specs.Data.{Data, boolean, object, member, no_members}
use Rattle.merge_units.specs.declared.version.Body.{Body}
use Rattle.merge_units.specs.declared.version.Body.TheVariants.{Live, Dead}
use Rattle.merge_batch.specs.declared.request.Request.{Request}
use Rattle.merge_batch.specs.declared.request.Request.TheVariants as request
use Rattle.merge_batch.specs.declared.request.Join.{Join}
use Rattle.merge_batch.specs.declared.request.Upload.{Upload}
use Rattle.merge_batch.specs.declared.request.UploadItem.{UploadItem}
use Rattle.merge_batch.specs.declared.request.RangeAsk.{RangeAsk}
use Rattle.merge_batch.specs.declared.request.Want.{Want}
use Rattle.merge_batch.specs.declared.request.Download.{Download}
use Rattle.merge_json.specs.Written.{whole, list_of, dot_data, guid_data, cell_data}

abbrev pub join_data : Join → Data
join_data j =
    object (member (codes "generation") (whole j.generation)
    (member (codes "number") (whole j.number)
    (member (codes "seq") (whole j.seq)
    (member (codes "site") (whole j.site.0) no_members))))

abbrev pub download_data : Download → Data
download_data w =
    object (member (codes "from") (whole w.from)
    (member (codes "seq") (whole w.seq)
    (member (codes "site") (whole w.site.0) no_members)))

abbrev pub want_data : Want → Data
want_data w =
    object (member (codes "article") (whole w.article)
    (member (codes "due") (boolean w.due)
    (member (codes "have") (whole w.have) no_members)))

abbrev pub ask_data : RangeAsk → Data
ask_data a =
    object (member (codes "seq") (whole a.seq)
    (member (codes "site") (whole a.site.0)
    (member (codes "wants") (list_of want_data a.wants) no_members)))

-- a row that lives has `live`, and one that was deleted `dead`
abbrev pub upload_item_data_by : UploadItem → Body → Data
upload_item_data_by i (Live cells) =
    object (member (codes "article") (whole i.article)
    (member (codes "generation") (whole i.generation)
    (member (codes "lineage") (list_of dot_data i.version.lineage)
    (member (codes "live") (list_of cell_data cells)
    (member (codes "row") (guid_data i.row.0) no_members)))))
upload_item_data_by i (Dead top) =
    object (member (codes "article") (whole i.article)
    (member (codes "dead") (dot_data top)
    (member (codes "generation") (whole i.generation)
    (member (codes "lineage") (list_of dot_data i.version.lineage)
    (member (codes "row") (guid_data i.row.0) no_members)))))

abbrev pub upload_item_data : UploadItem → Data
upload_item_data i = upload_item_data_by i i.version.body

abbrev pub upload_data : Upload → Data
upload_data u =
    object (member (codes "from") (whole u.from)
    (member (codes "items") (list_of upload_item_data u.items)
    (member (codes "seq") (whole u.seq)
    (member (codes "site") (whole u.site.0)
    (member (codes "through") (whole u.through)
    (member (codes "to") (whole u.to) no_members))))))

abbrev pub request_data : Request → Data
request_data (request.Join join) = join_data join
request_data (request.Upload upload) = upload_data upload
request_data (request.Ranges ask) = ask_data ask
request_data (request.Download download) = download_data download
