-- Which JSON values are read as replies.
use Rattle.std.specs.Prelude.{◌≡◌, ℕ, List, length, codes, Some, None}
use Rattle.serde_json.specs.Data.{Data}
use Rattle.serde_json.specs.Find.{get}
use Rattle.merge_batch.specs.declared.reply.Reply.{Reply}
use Rattle.merge_batch.specs.declared.reply.Reply.TheVariants as reply
use Rattle.merge_batch.specs.declared.reply.Joined.{Joined}
use Rattle.merge_batch.specs.declared.reply.Uploaded.{Uploaded}
use Rattle.merge_batch.specs.declared.reply.Ranged.{Ranged}
use Rattle.merge_batch.specs.declared.reply.RangeGrant.{RangeGrant}
use Rattle.merge_batch.specs.declared.reply.Ended.{Ended}
use Rattle.merge_batch.specs.declared.reply.Downloaded.{Downloaded}
use Rattle.merge_batch.specs.declared.reply.DownloadItem.{DownloadItem}
use Rattle.merge_batch.specs.declared.reply.Act.{Act as Order}
use Rattle.merge_batch.specs.declared.reply.Act.TheVariants as order
use Rattle.merge_json.specs.Replies.{field_count}
use Rattle.merge_json.specs.Forms.{HasMember, IsList, IsWhole, IsBelow, IsSigned, IsLineage, IsRow, IsCell}

pub record IsJoined (j : Joined) (d : Data) : Type 0 where
  pub seq : HasMember (codes "seq") IsWhole j.seq d

pub record IsUploaded (u : Uploaded) (d : Data) : Type 0 where
  pub seq : HasMember (codes "seq") IsWhole u.seq d
  pub received : HasMember (codes "received") IsWhole u.received d

pub record IsGrant (g : RangeGrant) (d : Data) : Type 0 where
  pub article : HasMember (codes "article") (IsBelow 256) g.article d
  pub number : HasMember (codes "number") IsWhole g.number d
  pub begin : HasMember (codes "begin") IsSigned g.begin d
  pub end : HasMember (codes "end") IsSigned g.end d

pub record IsEnded (e : Ended) (d : Data) : Type 0 where
  pub article : HasMember (codes "article") (IsBelow 256) e.article d
  pub next : HasMember (codes "next") IsWhole e.next d
  pub greatest : HasMember (codes "greatest") IsSigned e.greatest d

pub record IsRanged (r : Ranged) (d : Data) : Type 0 where
  pub seq : HasMember (codes "seq") IsWhole r.seq d
  pub grants : HasMember (codes "grants") (IsList IsGrant) r.grants d
  pub ended : HasMember (codes "ended") (IsList IsEnded) r.ended d

-- a removal by a tombstone of this type
abbrev pub IsRemoval : ℕ → Data → Type 0
IsRemoval type d = HasMember (codes "remove") IsWhole type d × (get (codes "lineage") d ≡ None) × (get (codes "live") d ≡ None)

-- a row has its lineage and its cells, or else the removal alone: 1 where it was deleted, and 5 where it left
abbrev pub IsAct : Order → Data → Type 0
IsAct (order.Put lineage live) d = HasMember (codes "lineage") IsLineage lineage d × HasMember (codes "live") (IsList IsCell) live d × (get (codes "remove") d ≡ None)
IsAct order.RemoveDeleted d = IsRemoval 1 d
IsAct order.RemoveLeft d = IsRemoval 5 d

pub record IsDownloadItem (i : DownloadItem) (d : Data) : Type 0 where
  pub article : HasMember (codes "article") (IsBelow 256) i.article d
  pub row : HasMember (codes "row") IsRow i.row d
  pub act : IsAct i.act d

-- all of a download but its items
pub record IsDownloadedHead (w : Downloaded) (d : Data) : Type 0 where
  pub seq : HasMember (codes "seq") IsWhole w.seq d
  pub from : HasMember (codes "from") IsWhole w.from d
  pub to : HasMember (codes "to") IsWhole w.to d
  pub last : HasMember (codes "last") IsWhole w.last d
  pub received : HasMember (codes "received") IsWhole w.received d

pub record IsDownloaded (w : Downloaded) (d : Data) : Type 0 where
  pub head : IsDownloadedHead w d
  pub items : HasMember (codes "items") (IsList IsDownloadItem) w.items d

-- a refusal of the numbers that are told, with as many values as it has fields
pub record IsRefused (n : ℕ) (told_values : List ℕ) (d : Data) : Type 0 where
  pub refused : HasMember (codes "refused") (IsBelow 256) n d
  pub values : HasMember (codes "values") (IsList IsWhole) told_values d
  pub told : field_count n ≡ Some (length told_values)

abbrev pub IsReply : Reply → Data → Type 0
IsReply (reply.Joined joined) d = IsJoined joined d
IsReply (reply.Uploaded uploaded) d = IsUploaded uploaded d
IsReply (reply.Ranged ranged) d = IsRanged ranged d
IsReply (reply.Downloaded downloaded) d = IsDownloaded downloaded d
IsReply (reply.Refused n values) d = IsRefused n values d
