-- What is written of requests is read again.
use Rattle.std.proofs.Common.{◌≡◌, ◌∙◌, ◌<◌, ℕ, suc, List, [], ◌∷◌, map, Some, Ok, refl, codes}
use Rattle.std.specs.List.{AllByRecursion}
use Rattle.serde_json.specs.Data.{Data, object, member, no_members}
use Rattle.serde_json.specs.View.{items_of}
use Rattle.serde_json.proofs.OnLiterals.{serde_json_on_literals}
use Rattle.merge_units.specs.declared.version.Cell.{Cell}
use Rattle.merge_units.specs.declared.version.Body.TheVariants.{Live, Dead}
use Rattle.merge_types.specs.declared.identifiers.Dot.{Dot}
use Rattle.merge_batch.specs.Heads.{kind_of}
use Rattle.merge_batch.specs.declared.request.Request.{Request}
use Rattle.merge_batch.specs.declared.request.Request.TheVariants as request
use Rattle.merge_batch.specs.declared.request.Join.{Join}
use Rattle.merge_batch.specs.declared.request.Upload.{Upload}
use Rattle.merge_batch.specs.declared.request.UploadItem.{UploadItem}
use Rattle.merge_batch.specs.declared.request.RangeAsk.{RangeAsk}
use Rattle.merge_batch.specs.declared.request.Want.{Want}
use Rattle.merge_batch.specs.declared.request.Download.{Download}
use Rattle.merge_json.specs.Reading.{Reader, bit_at, numbered_at}
use Rattle.merge_json.specs.Written.{ReadsBack, whole, list_of, dot_data, guid_data, cell_data}
use Rattle.merge_json.specs.Rows.{site_at, dot_at, lineage_at, row_at, cell_at}
use Rattle.merge_json.specs.Requests.{join_at, download_at, want_at, ask_at, body_at, upload_item_at, upload_front_at, upload_at, request_at}
use Rattle.merge_json.specs.WrittenRequests.{join_data, download_data, want_data, ask_data, upload_item_data, upload_data, request_data}
use Rattle.merge_json.proofs.Again.{below_again, whole_again, list_again}

pub join_again : (j : Join) → j.site.0 < 65_536 → join_at (join_data j) ≡ Some j
unfolding join_at site_at serde_json_on_literals
join_again j lt = rw (below_again 65_536 j.site.0 lt, whole_again j.seq, whole_again j.generation, whole_again j.number) refl

pub download_again : (w : Download) → w.site.0 < 65_536 → download_at (download_data w) ≡ Some w
unfolding download_at site_at serde_json_on_literals
download_again w lt = rw (below_again 65_536 w.site.0 lt, whole_again w.seq, whole_again w.from) refl

pub want_again : (w : Want) → w.article < 256 → want_at (want_data w) ≡ Some w
unfolding want_at bit_at serde_json_on_literals
want_again w lt = rw (below_again 256 w.article lt, whole_again w.have) refl

pub ask_again : (a : RangeAsk) → a.site.0 < 65_536 → AllByRecursion (ReadsBack want_at want_data) a.wants → ask_at (ask_data a) ≡ Some a
unfolding ask_at site_at serde_json_on_literals
ask_again a lt wants = rw (below_again 65_536 a.site.0 lt, whole_again a.seq, list_again want_at want_data a.wants wants) refl

-- an item is told by its parts
pub live_told : (i : UploadItem) (cells : List Cell) (lineage live row d : Data) → i.version.body ≡ Live cells → lineage ≡ list_of dot_data i.version.lineage → live ≡ list_of cell_data cells → row ≡ guid_data i.row.0
    → d ≡ object (member (codes "article") (whole i.article) (member (codes "generation") (whole i.generation) (member (codes "lineage") lineage (member (codes "live") live (member (codes "row") row no_members)))))
    → d ≡ upload_item_data i
live_told i cells lineage live row d is l v r e = e ∙ rw (l, v, r, is) refl

pub dead_told : (i : UploadItem) (top : Dot) (lineage dead row d : Data) → i.version.body ≡ Dead top → lineage ≡ list_of dot_data i.version.lineage → dead ≡ dot_data top → row ≡ guid_data i.row.0
    → d ≡ object (member (codes "article") (whole i.article) (member (codes "dead") dead (member (codes "generation") (whole i.generation) (member (codes "lineage") lineage (member (codes "row") row no_members)))))
    → d ≡ upload_item_data i
dead_told i top lineage dead row d is l v r e = e ∙ rw (l, v, r, is) refl

pub live_again : (i : UploadItem) (cells : List Cell) → i.version.body ≡ Live cells → i.article < 256 → row_at (guid_data i.row.0) ≡ Some i.row
    → lineage_at (list_of dot_data i.version.lineage) ≡ Some i.version.lineage → AllByRecursion (ReadsBack cell_at cell_data) cells
    → upload_item_at (upload_item_data i) ≡ Some i
unfolding upload_item_at body_at serde_json_on_literals
live_again i cells is lt row lineage live = rw (is, below_again 256 i.article lt, row, whole_again i.generation, lineage, list_again cell_at cell_data cells live, ← is) refl

pub dead_again : (i : UploadItem) (top : Dot) → i.version.body ≡ Dead top → i.article < 256 → row_at (guid_data i.row.0) ≡ Some i.row
    → lineage_at (list_of dot_data i.version.lineage) ≡ Some i.version.lineage → dot_at (dot_data top) ≡ Some top
    → upload_item_at (upload_item_data i) ≡ Some i
unfolding upload_item_at body_at serde_json_on_literals
dead_again i top is lt row lineage dead = rw (is, below_again 256 i.article lt, row, whole_again i.generation, lineage, dead, ← is) refl

-- numbered items as a list
pub numbered_again : {A : Type 0} (read : Reader A) (write : A → Data) (xs : List A) (place : ℕ) → AllByRecursion (ReadsBack read write) xs → numbered_at read place (items_of (map write xs)) ≡ Ok xs
numbered_again read write [] place h = refl
numbered_again read write (x ∷ xs) place h = rw (h.0, numbered_again read write xs (suc place) h.1) refl

pub upload_again : (u : Upload) → u.site.0 < 65_536 → AllByRecursion (ReadsBack upload_item_at upload_item_data) u.items → upload_at (upload_data u) ≡ Ok u
unfolding upload_at upload_front_at site_at serde_json_on_literals
upload_again u lt items = rw (below_again 65_536 u.site.0 lt, whole_again u.seq, whole_again u.from, whole_again u.to, whole_again u.through, numbered_again upload_item_at upload_item_data u.items 1 items) refl

-- each kind of request by its message
pub join_request : (r : Request) (m : Join) → r ≡ request.Join m → join_at (join_data m) ≡ Some m → request_at (kind_of r) (request_data r) ≡ Ok r
unfolding request_at
join_request r m is e = rw is (rw e refl)

pub upload_request : (r : Request) (m : Upload) → r ≡ request.Upload m → upload_at (upload_data m) ≡ Ok m → request_at (kind_of r) (request_data r) ≡ Ok r
unfolding request_at
upload_request r m is e = rw is (rw e refl)

pub ask_request : (r : Request) (m : RangeAsk) → r ≡ request.Ranges m → ask_at (ask_data m) ≡ Some m → request_at (kind_of r) (request_data r) ≡ Ok r
unfolding request_at
ask_request r m is e = rw is (rw e refl)

pub download_request : (r : Request) (m : Download) → r ≡ request.Download m → download_at (download_data m) ≡ Some m → request_at (kind_of r) (request_data r) ≡ Ok r
unfolding request_at
download_request r m is e = rw is (rw e refl)
