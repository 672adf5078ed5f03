-- Which JSON values are read as requests.
use Rattle.std.specs.Prelude.{◌≡◌, codes, None}
use Rattle.serde_json.specs.Data.{Data}
use Rattle.serde_json.specs.Find.{get}
use Rattle.merge_units.specs.declared.version.Body.{Body}
use Rattle.merge_units.specs.declared.version.Body.TheVariants.{Live, Dead}
use Rattle.merge_batch.specs.declared.request.Request.{Request}
use Rattle.merge_batch.specs.declared.request.Request.TheVariants as request
use Rattle.merge_batch.specs.declared.request.Join.{Join}
use Rattle.merge_batch.specs.declared.request.Upload.{Upload}
use Rattle.merge_batch.specs.declared.request.UploadItem.{UploadItem}
use Rattle.merge_batch.specs.declared.request.RangeAsk.{RangeAsk}
use Rattle.merge_batch.specs.declared.request.Want.{Want}
use Rattle.merge_batch.specs.declared.request.Download.{Download}
use Rattle.merge_json.specs.Forms.{HasMember, IsList, IsWhole, IsBelow, IsBit, IsSite, IsDot, IsLineage, IsRow, IsCell}

pub record IsJoin (j : Join) (d : Data) : Type 0 where
  pub site : HasMember (codes "site") IsSite j.site d
  pub seq : HasMember (codes "seq") IsWhole j.seq d
  pub generation : HasMember (codes "generation") IsWhole j.generation d
  pub number : HasMember (codes "number") IsWhole j.number d

pub record IsDownload (w : Download) (d : Data) : Type 0 where
  pub site : HasMember (codes "site") IsSite w.site d
  pub seq : HasMember (codes "seq") IsWhole w.seq d
  pub from : HasMember (codes "from") IsWhole w.from d

pub record IsWant (w : Want) (d : Data) : Type 0 where
  pub article : HasMember (codes "article") (IsBelow 256) w.article d
  pub have : HasMember (codes "have") IsWhole w.have d
  pub due : HasMember (codes "due") IsBit w.due d

pub record IsAsk (a : RangeAsk) (d : Data) : Type 0 where
  pub site : HasMember (codes "site") IsSite a.site d
  pub seq : HasMember (codes "seq") IsWhole a.seq d
  pub wants : HasMember (codes "wants") (IsList IsWant) a.wants d

-- a row that lives has `live`, and one that was deleted `dead`, and neither has both
abbrev pub IsBody : Body → Data → Type 0
IsBody (Live cells) d = HasMember (codes "live") (IsList IsCell) cells d × (get (codes "dead") d ≡ None)
IsBody (Dead top) d = HasMember (codes "dead") IsDot top d × (get (codes "live") d ≡ None)

pub record IsUploadItem (i : UploadItem) (d : Data) : Type 0 where
  pub article : HasMember (codes "article") (IsBelow 256) i.article d
  pub row : HasMember (codes "row") IsRow i.row d
  pub generation : HasMember (codes "generation") IsWhole i.generation d
  pub lineage : HasMember (codes "lineage") IsLineage i.version.lineage d
  pub body : IsBody i.version.body d

-- all of an upload but its items
pub record IsUploadFront (u : Upload) (d : Data) : Type 0 where
  pub site : HasMember (codes "site") IsSite u.site d
  pub seq : HasMember (codes "seq") IsWhole u.seq d
  pub from : HasMember (codes "from") IsWhole u.from d
  pub to : HasMember (codes "to") IsWhole u.to d
  pub through : HasMember (codes "through") IsWhole u.through d

pub record IsUpload (u : Upload) (d : Data) : Type 0 where
  pub front : IsUploadFront u d
  pub items : HasMember (codes "items") (IsList IsUploadItem) u.items d

abbrev pub IsRequest : Request → Data → Type 0
IsRequest (request.Join join) d = IsJoin join d
IsRequest (request.Upload upload) d = IsUpload upload d
IsRequest (request.Ranges ask) d = IsAsk ask d
IsRequest (request.Download download) d = IsDownload download d
