-- What is written of replies is read again.
use Rattle.std.proofs.Common.{◌≡◌, ◌∙◌, ◌<◌, ◌==◌, ℕ, List, length, Some, None, Ok, refl, sym, ap, codes, Bool, true, false, cond, FitsSigned}
use Rattle.std.specs.List.{AllByRecursion}
use Rattle.std.specs.Int.{w64}
use Rattle.serde_json.specs.Data.{Data, object, member, no_members}
use Rattle.serde_json.proofs.OnLiterals.{serde_json_on_literals}
use Rattle.merge_units.specs.declared.version.Cell.{Cell}
use Rattle.merge_types.specs.declared.identifiers.Dot.{Dot}
use Rattle.merge_batch.specs.Heads.{answered_kind}
use Rattle.merge_batch.specs.declared.reply.Reply.{Reply}
use Rattle.merge_batch.specs.declared.reply.Reply.TheVariants as reply
use Rattle.merge_batch.specs.declared.reply.Joined.{Joined}
use Rattle.merge_batch.specs.declared.reply.Uploaded.{Uploaded}
use Rattle.merge_batch.specs.declared.reply.Ranged.{Ranged}
use Rattle.merge_batch.specs.declared.reply.RangeGrant.{RangeGrant}
use Rattle.merge_batch.specs.declared.reply.Ended.{Ended}
use Rattle.merge_batch.specs.declared.reply.Downloaded.{Downloaded}
use Rattle.merge_batch.specs.declared.reply.DownloadItem.{DownloadItem}
use Rattle.merge_batch.specs.declared.reply.Act.{Act as Order}
use Rattle.merge_batch.specs.declared.reply.Act.TheVariants as order
use Rattle.merge_json.specs.Reading.{whole_at}
use Rattle.merge_json.specs.Written.{ReadsBack, whole, list_of, dot_data, guid_data, cell_data}
use Rattle.merge_json.specs.Rows.{lineage_at, row_at, cell_at}
use Rattle.merge_json.specs.Replies.{joined_at, uploaded_at, grant_at, ended_at, ranged_at, act_at, remove_of, download_item_at, downloaded_head_at, downloaded_at, field_count, refused_at, reply_at}
use Rattle.merge_json.specs.WrittenReplies.{joined_data, uploaded_data, grant_data, ended_data, ranged_data, download_item_data, download_item_data_by, removal_data, downloaded_data, refused_data, reply_data}
use Rattle.merge_json.proofs.Again.{below_again, whole_again, signed_again, list_again}
use Rattle.merge_json.proofs.RequestsAgain.{numbered_again}
use Rattle.std.proofs.lemmas.Bool.{eq-eqb, eqb-true}

pub joined_again : (j : Joined) → joined_at (joined_data j) ≡ Some j
unfolding joined_at serde_json_on_literals
joined_again j = rw (whole_again j.seq) refl

pub uploaded_again : (u : Uploaded) → uploaded_at (uploaded_data u) ≡ Some u
unfolding uploaded_at serde_json_on_literals
uploaded_again u = rw (whole_again u.seq, whole_again u.received) refl

pub grant_again : (g : RangeGrant) → g.article < 256 → FitsSigned w64 g.begin → FitsSigned w64 g.end → grant_at (grant_data g) ≡ Some g
unfolding grant_at serde_json_on_literals
grant_again g lt begin end = rw (below_again 256 g.article lt, whole_again g.number, signed_again g.begin begin, signed_again g.end end) refl

pub ended_again : (e : Ended) → e.article < 256 → FitsSigned w64 e.greatest → ended_at (ended_data e) ≡ Some e
unfolding ended_at serde_json_on_literals
ended_again e lt greatest = rw (below_again 256 e.article lt, whole_again e.next, signed_again e.greatest greatest) refl

pub ranged_again : (r : Ranged) → AllByRecursion (ReadsBack ended_at ended_data) r.ended → AllByRecursion (ReadsBack grant_at grant_data) r.grants → ranged_at (ranged_data r) ≡ Some r
unfolding ranged_at serde_json_on_literals
ranged_again r ended grants = rw (whole_again r.seq, list_again grant_at grant_data r.grants grants, list_again ended_at ended_data r.ended ended) refl

-- an item is told by its parts
pub put_told : (i : DownloadItem) (dots : List Dot) (cells : List Cell) (lineage live row d : Data) → i.act ≡ order.Put dots cells → lineage ≡ list_of dot_data dots → live ≡ list_of cell_data cells → row ≡ guid_data i.row.0
    → d ≡ object (member (codes "article") (whole i.article) (member (codes "lineage") lineage (member (codes "live") live (member (codes "row") row no_members))))
    → d ≡ download_item_data i
put_told i dots cells lineage live row d is l v r e = e ∙ rw (l, v, r, is) refl

pub put_again : (i : DownloadItem) (dots : List Dot) (cells : List Cell) → i.act ≡ order.Put dots cells → i.article < 256 → row_at (guid_data i.row.0) ≡ Some i.row
    → lineage_at (list_of dot_data dots) ≡ Some dots → AllByRecursion (ReadsBack cell_at cell_data) cells
    → download_item_at (download_item_data i) ≡ Some i
unfolding download_item_at act_at serde_json_on_literals
put_again i dots cells is lt row lineage live = rw (is, below_again 256 i.article lt, row, lineage, list_again cell_at cell_data cells live, ← is) refl

-- a removal, by the type of its tombstone
removal_is : (i : DownloadItem) (n : ℕ) → remove_of n ≡ Some i.act → download_item_data i ≡ removal_data i n
removal_is i n is = by i.act (n == 1) (n == 5) refl refl refl is
  where
    by : (act : Order) (one five : Bool) → i.act ≡ act → (n == 1) ≡ one → (n == 5) ≡ five → cond one (Some order.RemoveDeleted) (cond five (Some order.RemoveLeft) None) ≡ Some act → download_item_data_by i i.act ≡ removal_data i n
    by (order.Put dots cells) true five e f g h = absurd cc
    by (order.Put dots cells) false true e f g h = absurd cc
    by (order.Put dots cells) false false e f g h = absurd cc
    by order.RemoveDeleted true five e f g h = rw (e, eqb-true n 1 f) refl
    by order.RemoveDeleted false true e f g h = absurd cc
    by order.RemoveDeleted false false e f g h = absurd cc
    by order.RemoveLeft true five e f g h = absurd cc
    by order.RemoveLeft false true e f g h = rw (e, eqb-true n 5 g) refl
    by order.RemoveLeft false false e f g h = absurd cc

pub removal_told : (i : DownloadItem) (n : ℕ) (row d : Data) → remove_of n ≡ Some i.act → row ≡ guid_data i.row.0
    → d ≡ object (member (codes "article") (whole i.article) (member (codes "remove") (whole n) (member (codes "row") row no_members)))
    → d ≡ download_item_data i
removal_told i n row d is r e = e ∙ rw r refl ∙ sym (removal_is i n is)

removal_read : (i : DownloadItem) (n : ℕ) → remove_of n ≡ Some i.act → i.article < 256 → row_at (guid_data i.row.0) ≡ Some i.row → download_item_at (removal_data i n) ≡ Some i
unfolding download_item_at act_at serde_json_on_literals
removal_read i n is lt row = rw (below_again 256 i.article lt, row, whole_again n, is) refl

pub removal_again : (i : DownloadItem) (n : ℕ) → remove_of n ≡ Some i.act → i.article < 256 → row_at (guid_data i.row.0) ≡ Some i.row → download_item_at (download_item_data i) ≡ Some i
removal_again i n is lt row = ap download_item_at (removal_is i n is) ∙ removal_read i n is lt row

pub downloaded_again : (w : Downloaded) → AllByRecursion (ReadsBack download_item_at download_item_data) w.items → downloaded_at (downloaded_data w) ≡ Ok w
unfolding downloaded_at downloaded_head_at serde_json_on_literals
downloaded_again w items = rw (whole_again w.seq, whole_again w.from, whole_again w.to, whole_again w.last, whole_again w.received, numbered_again download_item_at download_item_data w.items 1 items) refl

pub refused_again : (n : ℕ) (values : List ℕ) → n < 256 → field_count n ≡ Some (length values) → AllByRecursion (ReadsBack whole_at whole) values → refused_at (refused_data n values) ≡ Some (reply.Refused n values)
unfolding refused_at serde_json_on_literals
refused_again n values lt count all = rw (below_again 256 n lt, list_again whole_at whole values all, count, eq-eqb (length values) (length values) refl) refl

-- each kind of reply by its message
pub joined_reply : (r : Reply) (m : Joined) → r ≡ reply.Joined m → joined_at (joined_data m) ≡ Some m → reply_at (answered_kind r) (reply_data r) ≡ Ok r
unfolding reply_at
joined_reply r m is e = rw is (rw e refl)

pub uploaded_reply : (r : Reply) (m : Uploaded) → r ≡ reply.Uploaded m → uploaded_at (uploaded_data m) ≡ Some m → reply_at (answered_kind r) (reply_data r) ≡ Ok r
unfolding reply_at
uploaded_reply r m is e = rw is (rw e refl)

pub ranged_reply : (r : Reply) (m : Ranged) → r ≡ reply.Ranged m → ranged_at (ranged_data m) ≡ Some m → reply_at (answered_kind r) (reply_data r) ≡ Ok r
unfolding reply_at
ranged_reply r m is e = rw is (rw e refl)

pub downloaded_reply : (r : Reply) (m : Downloaded) → r ≡ reply.Downloaded m → downloaded_at (downloaded_data m) ≡ Ok m → reply_at (answered_kind r) (reply_data r) ≡ Ok r
unfolding reply_at
downloaded_reply r m is e = rw is (rw e refl)

pub refused_reply : (r : Reply) (n : ℕ) (values : List ℕ) → r ≡ reply.Refused n values → refused_at (refused_data n values) ≡ Some (reply.Refused n values) → reply_at (answered_kind r) (reply_data r) ≡ Ok r
unfolding reply_at
refused_reply r n values is e = rw is (rw e refl)
