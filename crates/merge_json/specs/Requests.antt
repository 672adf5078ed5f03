-- Requests as they are read.
use Rattle.std.specs.Prelude.{ℕ, List, [], codes, Option, Some, None, Result, Ok, Err, bytes_eq, if◌then◌else◌}
use Rattle.serde_json.specs.Data.{Data}
use Rattle.serde_json.specs.Find.{get, as_array}
use Rattle.merge_units.specs.declared.version.Body.{Body}
use Rattle.merge_units.specs.declared.version.Body.TheVariants.{Live, Dead}
use Rattle.merge_batch.specs.declared.request.Request.{Request}
use Rattle.merge_batch.specs.declared.request.Request.TheVariants as request
use Rattle.merge_batch.specs.declared.request.Kind.{Kind}
use Rattle.merge_batch.specs.declared.request.Kind.TheVariants as kind
use Rattle.merge_batch.specs.declared.request.Join.{Join}
use Rattle.merge_batch.specs.declared.request.Upload.{Upload}
use Rattle.merge_batch.specs.declared.request.UploadItem.{UploadItem}
use Rattle.merge_batch.specs.declared.request.RangeAsk.{RangeAsk}
use Rattle.merge_batch.specs.declared.request.Want.{Want}
use Rattle.merge_batch.specs.declared.request.Download.{Download}
use Rattle.merge_json.specs.declared.uploads.Front.{Front}
use Rattle.merge_json.specs.Reading.{◌>>=◌, Reader, field_at, whole_at, below_at, bit_at, list_at, placed, mapped_result, numbered_at}
use Rattle.merge_json.specs.Rows.{site_at, dot_at, lineage_at, row_at, cell_at}

unfoldable pub join_at : Reader Join
join_at d = do
  site ← field_at (codes "site") site_at d
  seq ← field_at (codes "seq") whole_at d
  generation ← field_at (codes "generation") whole_at d
  number ← field_at (codes "number") whole_at d
  Some (record { site = site; seq = seq; generation = generation; number = number })

unfoldable pub download_at : Reader Download
download_at d = do
  site ← field_at (codes "site") site_at d
  seq ← field_at (codes "seq") whole_at d
  from ← field_at (codes "from") whole_at d
  Some (record { site = site; seq = seq; from = from })

unfoldable pub want_at : Reader Want
want_at d = do
  article ← field_at (codes "article") (below_at 256) d
  have ← field_at (codes "have") whole_at d
  due ← field_at (codes "due") bit_at d
  Some (record { article = article; have = have; due = due })

unfoldable pub ask_at : Reader RangeAsk
ask_at d = do
  site ← field_at (codes "site") site_at d
  seq ← field_at (codes "seq") whole_at d
  wants ← field_at (codes "wants") (list_at want_at) d
  Some (record { site = site; seq = seq; wants = wants })

-- just one of both keys
abbrev pub body_of : Option Data → Option Data → Option Body
body_of (Some live) None = list_at cell_at live >>= λ cells. Some (Live cells)
body_of None (Some dead) = dot_at dead >>= λ top. Some (Dead top)
body_of _ _ = None

unfoldable pub body_at : Reader Body
body_at d = body_of (get (codes "live") d) (get (codes "dead") d)

unfoldable pub upload_item_at : Reader UploadItem
upload_item_at d = do
  article ← field_at (codes "article") (below_at 256) d
  row ← field_at (codes "row") row_at d
  generation ← field_at (codes "generation") whole_at d
  lineage ← field_at (codes "lineage") lineage_at d
  body ← body_at d
  Some (record { article = article; row = row; generation = generation; version = record { lineage = lineage; body = body } })

unfoldable pub upload_front_at : Reader Front
upload_front_at d = do
  site ← field_at (codes "site") site_at d
  seq ← field_at (codes "seq") whole_at d
  from ← field_at (codes "from") whole_at d
  to ← field_at (codes "to") whole_at d
  through ← field_at (codes "through") whole_at d
  Some (record { site = site; seq = seq; from = from; to = to; through = through })

abbrev pub with_items : Front → List UploadItem → Upload
with_items f items = record { site = f.site; seq = f.seq; from = f.from; to = f.to; through = f.through; items = items }

-- all but the items comes first and has the place 0, then the items by their numbers
unfoldable pub upload_at : Data → Result Upload ℕ
upload_at d = placed 0 (upload_front_at d) (λ front. placed 0 (field_at (codes "items") as_array d) (λ ds. mapped_result (with_items front) (numbered_at upload_item_at 1 ds)))

-- a request of a kind. There is no request that is a refusal
unfoldable pub request_at : Kind → Data → Result Request ℕ
request_at kind.Join d = placed 0 (join_at d) (λ join. Ok (request.Join join))
request_at kind.Upload d = mapped_result request.Upload (upload_at d)
request_at kind.Ranges d = placed 0 (ask_at d) (λ ask. Ok (request.Ranges ask))
request_at kind.Download d = placed 0 (download_at d) (λ download. Ok (request.Download download))
request_at kind.Refused d = Err 0

-- where requests of a kind go
abbrev pub path_of : Kind → List ℕ
path_of kind.Join = codes "/merge/join"
path_of kind.Upload = codes "/merge/upload"
path_of kind.Ranges = codes "/merge/ranges"
path_of kind.Download = codes "/merge/download"
path_of kind.Refused = []

-- the kind of the requests that go to a path
unfoldable pub kind_at : List ℕ → Option Kind
kind_at path =
    if bytes_eq path (path_of kind.Join) then Some kind.Join
    else (if bytes_eq path (path_of kind.Upload) then Some kind.Upload
    else (if bytes_eq path (path_of kind.Ranges) then Some kind.Ranges
    else (if bytes_eq path (path_of kind.Download) then Some kind.Download
    else None)))
