-- Replies are read just by their forms.
use Rattle.std.proofs.Common.{◌≡◌, ◌∙◌, ◌==◌, ℕ, suc, ℤ, List, [], length, Bool, true, false, ◌⊎◌, inl, inr, codes, Option, Some, None, Ok, Err, refl, sym, ap, subst, cond}
use Rattle.std.proofs.lemmas.Bool.{eq-eqb, eqb-true}
use Rattle.serde_json.specs.Data.{Data}
use Rattle.serde_json.specs.Find.{get}
use Rattle.merge_types.specs.declared.identifiers.RowId.{RowId}
use Rattle.merge_batch.specs.Heads.{answered_kind}
use Rattle.merge_batch.specs.declared.request.Kind.{Kind}
use Rattle.merge_batch.specs.declared.request.Kind.TheVariants as kind
use Rattle.merge_batch.specs.declared.reply.Reply.{Reply}
use Rattle.merge_batch.specs.declared.reply.Reply.TheVariants as reply
use Rattle.merge_batch.specs.declared.reply.Joined.{Joined}
use Rattle.merge_batch.specs.declared.reply.Uploaded.{Uploaded}
use Rattle.merge_batch.specs.declared.reply.Ranged.{Ranged}
use Rattle.merge_batch.specs.declared.reply.RangeGrant.{RangeGrant}
use Rattle.merge_batch.specs.declared.reply.Ended.{Ended}
use Rattle.merge_batch.specs.declared.reply.Downloaded.{Downloaded}
use Rattle.merge_batch.specs.declared.reply.DownloadItem.{DownloadItem}
use Rattle.merge_batch.specs.declared.reply.Act.{Act as Order}
use Rattle.merge_batch.specs.declared.reply.Act.TheVariants as order
use Rattle.merge_json.specs.declared.downloads.Head.{Head}
use Rattle.merge_json.specs.Reading.{◌>>=◌, field_at, whole_at, below_at, signed_at, list_at, placed}
use Rattle.merge_json.specs.Rows.{lineage_at, row_at, cell_at}
use Rattle.merge_json.specs.Replies.{joined_at, uploaded_at, grant_at, ended_at, ranged_at, remove_of, act_of, act_at, download_item_at, downloaded_head_at, with_items, downloaded_at, field_count, refused_of, refused_at, reply_at}
use Rattle.merge_json.specs.Forms.{HasMember, HasBadMember, IsWhole, IsRow, IsCell}
use Rattle.merge_json.specs.ReplyForms.{IsJoined, IsUploaded, IsGrant, IsEnded, IsRanged, IsAct, IsDownloadItem, IsDownloadedHead, IsDownloaded, IsRefused, IsReply}
use Rattle.merge_json.specs.Messages.{HasItems, IsReplyButItems}
use Rattle.merge_json.proofs.Readers.{some_same, ok_same, cond_some, bind_some, placed_ok, mapped_ok, mapped_err, two_found, three_found, four_found, five_found, two_some, three_some, four_some, five_some}
use Rattle.merge_json.proofs.FormLemmas.{IsForm, whole_form, whole_found, whole_only, field_form, whole_member, below_member, signed_member, list_form, list_member}
use Rattle.merge_json.proofs.ValueForms.{lineage_form, row_form, cell_form}
use Rattle.merge_json.proofs.ItemForms.{both_found, both_only, both_bad, both_bad_rest, both_bad_only}

abbrev joined_of : ℕ → Joined
joined_of seq = record { seq = seq }

joined_found : (d : Data) (j : Joined) → joined_at d ≡ Some j → IsJoined j d
unfolding joined_at
joined_found d j e =
    let s = bind_some (field_at (codes "seq") whole_at d) (λ seq. Some (joined_of seq)) j e in
    let is : IsJoined (joined_of s.0) d = record { seq = (whole_member (codes "seq")).found d s.0 s.1 } in
    subst (λ (x : Joined). IsJoined x d) (some_same (joined_of s.0) j s.2) is

joined_only : (d : Data) (j : Joined) → IsJoined j d → joined_at d ≡ Some j
unfolding joined_at
joined_only d j is = ap (λ (o : Option ℕ). o >>= λ seq. Some (joined_of seq)) ((whole_member (codes "seq")).only d j.seq is.seq)

abbrev uploaded_of : ℕ → ℕ → Uploaded
uploaded_of seq received = record { seq = seq; received = received }

uploaded_found : (d : Data) (u : Uploaded) → uploaded_at d ≡ Some u → IsUploaded u d
unfolding uploaded_at
uploaded_found d u e =
    let p = two_found (field_at (codes "seq") whole_at d) (field_at (codes "received") whole_at d) uploaded_of u e in
    let is : IsUploaded (uploaded_of p.0 p.1) d = record {
      seq = (whole_member (codes "seq")).found d p.0 p.2;
      received = (whole_member (codes "received")).found d p.1 p.3;
    } in
    subst (λ (x : Uploaded). IsUploaded x d) p.4 is

uploaded_only : (d : Data) (u : Uploaded) → IsUploaded u d → uploaded_at d ≡ Some u
unfolding uploaded_at
uploaded_only d u is =
    two_some (field_at (codes "seq") whole_at d) (field_at (codes "received") whole_at d) uploaded_of u.seq u.received
    ((whole_member (codes "seq")).only d u.seq is.seq) ((whole_member (codes "received")).only d u.received is.received)

-- ---- ranges

abbrev grant_of : ℕ → ℕ → ℤ → ℤ → RangeGrant
grant_of article number begin end = record { article = article; number = number; begin = begin; end = end }

grant_found : (d : Data) (g : RangeGrant) → grant_at d ≡ Some g → IsGrant g d
unfolding grant_at
grant_found d g e =
    let p = four_found (field_at (codes "article") (below_at 256) d) (field_at (codes "number") whole_at d) (field_at (codes "begin") signed_at d) (field_at (codes "end") signed_at d) grant_of g e in
    let is : IsGrant (grant_of p.0 p.1 p.2 p.3) d = record {
      article = (below_member (codes "article") 256).found d p.0 p.4;
      number = (whole_member (codes "number")).found d p.1 p.5;
      begin = (signed_member (codes "begin")).found d p.2 p.6;
      end = (signed_member (codes "end")).found d p.3 p.7;
    } in
    subst (λ (x : RangeGrant). IsGrant x d) p.8 is

grant_only : (d : Data) (g : RangeGrant) → IsGrant g d → grant_at d ≡ Some g
unfolding grant_at
grant_only d g is =
    four_some (field_at (codes "article") (below_at 256) d) (field_at (codes "number") whole_at d) (field_at (codes "begin") signed_at d) (field_at (codes "end") signed_at d) grant_of g.article g.number g.begin g.end
    ((below_member (codes "article") 256).only d g.article is.article) ((whole_member (codes "number")).only d g.number is.number) ((signed_member (codes "begin")).only d g.begin is.begin) ((signed_member (codes "end")).only d g.end is.end)

grant_form : IsForm grant_at (λ g d. IsGrant g d)
grant_form = record { found = grant_found; only = grant_only }

abbrev ended_of : ℕ → ℕ → ℤ → Ended
ended_of article next greatest = record { article = article; next = next; greatest = greatest }

ended_found : (d : Data) (x : Ended) → ended_at d ≡ Some x → IsEnded x d
unfolding ended_at
ended_found d x e =
    let p = three_found (field_at (codes "article") (below_at 256) d) (field_at (codes "next") whole_at d) (field_at (codes "greatest") signed_at d) ended_of x e in
    let is : IsEnded (ended_of p.0 p.1 p.2) d = record {
      article = (below_member (codes "article") 256).found d p.0 p.3;
      next = (whole_member (codes "next")).found d p.1 p.4;
      greatest = (signed_member (codes "greatest")).found d p.2 p.5;
    } in
    subst (λ (y : Ended). IsEnded y d) p.6 is

ended_only : (d : Data) (x : Ended) → IsEnded x d → ended_at d ≡ Some x
unfolding ended_at
ended_only d x is =
    three_some (field_at (codes "article") (below_at 256) d) (field_at (codes "next") whole_at d) (field_at (codes "greatest") signed_at d) ended_of x.article x.next x.greatest
    ((below_member (codes "article") 256).only d x.article is.article) ((whole_member (codes "next")).only d x.next is.next) ((signed_member (codes "greatest")).only d x.greatest is.greatest)

ended_form : IsForm ended_at (λ x d. IsEnded x d)
ended_form = record { found = ended_found; only = ended_only }

abbrev ranged_of : ℕ → List RangeGrant → List Ended → Ranged
ranged_of seq grants ended = record { seq = seq; grants = grants; ended = ended }

ranged_found : (d : Data) (r : Ranged) → ranged_at d ≡ Some r → IsRanged r d
unfolding ranged_at
ranged_found d r e =
    let p = three_found (field_at (codes "seq") whole_at d) (field_at (codes "grants") (list_at grant_at) d) (field_at (codes "ended") (list_at ended_at) d) ranged_of r e in
    let is : IsRanged (ranged_of p.0 p.1 p.2) d = record {
      seq = (whole_member (codes "seq")).found d p.0 p.3;
      grants = (list_member (codes "grants") grant_at (λ g v. IsGrant g v) grant_form).found d p.1 p.4;
      ended = (list_member (codes "ended") ended_at (λ x v. IsEnded x v) ended_form).found d p.2 p.5;
    } in
    subst (λ (x : Ranged). IsRanged x d) p.6 is

ranged_only : (d : Data) (r : Ranged) → IsRanged r d → ranged_at d ≡ Some r
unfolding ranged_at
ranged_only d r is =
    three_some (field_at (codes "seq") whole_at d) (field_at (codes "grants") (list_at grant_at) d) (field_at (codes "ended") (list_at ended_at) d) ranged_of r.seq r.grants r.ended
    ((whole_member (codes "seq")).only d r.seq is.seq) ((list_member (codes "grants") grant_at (λ g v. IsGrant g v) grant_form).only d r.grants is.grants) ((list_member (codes "ended") ended_at (λ x v. IsEnded x v) ended_form).only d r.ended is.ended)

-- ---- items of downloads

remove_found : (n : ℕ) (a : Order) → remove_of n ≡ Some a → ((n ≡ 1) × (order.RemoveDeleted ≡ a)) ⊎ ((n ≡ 5) × (order.RemoveLeft ≡ a))
remove_found n a e = by (n == 1) refl e
  where
    later : (b : Bool) → (n == 5) ≡ b → cond b (Some order.RemoveLeft) None ≡ Some a → ((n ≡ 1) × (order.RemoveDeleted ≡ a)) ⊎ ((n ≡ 5) × (order.RemoveLeft ≡ a))
    later true is f = inr (eqb-true n 5 is, some_same order.RemoveLeft a f)
    later false is f = absurd cc

    by : (b : Bool) → (n == 1) ≡ b → cond b (Some order.RemoveDeleted) (cond (n == 5) (Some order.RemoveLeft) None) ≡ Some a → ((n ≡ 1) × (order.RemoveDeleted ≡ a)) ⊎ ((n ≡ 5) × (order.RemoveLeft ≡ a))
    by true is f = inl (eqb-true n 1 is, some_same order.RemoveDeleted a f)
    by false is f = later (n == 5) refl f

act_by : (d : Data) (a : Order) (lineage live remove : Option Data) → get (codes "lineage") d ≡ lineage → get (codes "live") d ≡ live → get (codes "remove") d ≡ remove → act_of lineage live remove ≡ Some a → IsAct a d
act_by d a (Some l) (Some v) None p q r e =
    let s = two_found (lineage_at l) (list_at cell_at v) (λ dots cells. order.Put dots cells) a e in
    subst (λ (x : Order). IsAct x d) s.4 ((l, p, lineage_form.found l s.0 s.2), (v, q, (list_form cell_at (λ c w. IsCell c w) cell_form).found v s.1 s.3), r)
act_by d a None None (Some v) p q r e =
    let s = bind_some (whole_at v) remove_of a e in
    let is = whole_found v s.0 s.1 in
    elim (remove_found s.0 a s.2) [
      | inl h ↦ subst (λ (x : Order). IsAct x d) h.1 ((v, r, subst (λ (n : ℕ). IsWhole n v) h.0 is), p, q)
      | inr h ↦ subst (λ (x : Order). IsAct x d) h.1 ((v, r, subst (λ (n : ℕ). IsWhole n v) h.0 is), p, q)
    ]
act_by d a (Some l) (Some v) (Some w) p q r e = absurd cc
act_by d a (Some l) None remove p q r e = absurd cc
act_by d a None (Some v) remove p q r e = absurd cc
act_by d a None None None p q r e = absurd cc

act_found : (d : Data) (a : Order) → act_at d ≡ Some a → IsAct a d
unfolding act_at
act_found d a e = act_by d a (get (codes "lineage") d) (get (codes "live") d) (get (codes "remove") d) refl refl refl e

act_only : (d : Data) (a : Order) → IsAct a d → act_at d ≡ Some a
unfolding act_at
act_only d (order.Put dots cells) is =
    rw (is.0.1, is.1.1, is.2) (two_some (lineage_at is.0.0) (list_at cell_at is.1.0) (λ x y. order.Put x y) dots cells (lineage_form.only is.0.0 dots is.0.2) ((list_form cell_at (λ c w. IsCell c w) cell_form).only is.1.0 cells is.1.2))
act_only d order.RemoveDeleted is = rw (is.1, is.2, is.0.1) (ap (λ (o : Option ℕ). o >>= remove_of) (whole_only is.0.0 1 is.0.2))
act_only d order.RemoveLeft is = rw (is.1, is.2, is.0.1) (ap (λ (o : Option ℕ). o >>= remove_of) (whole_only is.0.0 5 is.0.2))

row_member : IsForm (field_at (codes "row") row_at) (λ r d. HasMember (codes "row") (λ s v. IsRow s v) r d)
row_member = field_form (codes "row") row_at (λ r d. IsRow r d) row_form

abbrev item_of : ℕ → RowId → Order → DownloadItem
item_of article row act = record { article = article; row = row; act = act }

item_found : (d : Data) (i : DownloadItem) → download_item_at d ≡ Some i → IsDownloadItem i d
unfolding download_item_at
item_found d i e =
    let p = three_found (field_at (codes "article") (below_at 256) d) (field_at (codes "row") row_at d) (act_at d) item_of i e in
    let is : IsDownloadItem (item_of p.0 p.1 p.2) d = record {
      article = (below_member (codes "article") 256).found d p.0 p.3;
      row = row_member.found d p.1 p.4;
      act = act_found d p.2 p.5;
    } in
    subst (λ (x : DownloadItem). IsDownloadItem x d) p.6 is

item_only : (d : Data) (i : DownloadItem) → IsDownloadItem i d → download_item_at d ≡ Some i
unfolding download_item_at
item_only d i is =
    three_some (field_at (codes "article") (below_at 256) d) (field_at (codes "row") row_at d) (act_at d) item_of i.article i.row i.act
    ((below_member (codes "article") 256).only d i.article is.article) (row_member.only d i.row is.row) (act_only d i.act is.act)

pub download_item_form : IsForm download_item_at (λ i d. IsDownloadItem i d)
download_item_form = record { found = item_found; only = item_only }

-- ---- downloads

abbrev head_of : ℕ → ℕ → ℕ → ℕ → ℕ → Head
head_of seq from to last received = record { seq = seq; from = from; to = to; last = last; received = received }

head_found : (d : Data) (h : Head) (items : List DownloadItem) → downloaded_head_at d ≡ Some h → IsDownloadedHead (with_items h items) d
unfolding downloaded_head_at
head_found d h items e =
    let p = five_found (field_at (codes "seq") whole_at d) (field_at (codes "from") whole_at d) (field_at (codes "to") whole_at d) (field_at (codes "last") whole_at d) (field_at (codes "received") whole_at d) head_of h e in
    let is : IsDownloadedHead (with_items (head_of p.0 p.1 p.2 p.3 p.4) items) d = record {
      seq = (whole_member (codes "seq")).found d p.0 p.5;
      from = (whole_member (codes "from")).found d p.1 p.6;
      to = (whole_member (codes "to")).found d p.2 p.7;
      last = (whole_member (codes "last")).found d p.3 p.8;
      received = (whole_member (codes "received")).found d p.4 p.9;
    } in
    subst (λ (x : Head). IsDownloadedHead (with_items x items) d) p.10 is

abbrev head : Downloaded → Head
head w = head_of w.seq w.from w.to w.last w.received

head_only : (d : Data) (w : Downloaded) → IsDownloadedHead w d → downloaded_head_at d ≡ Some (head w)
unfolding downloaded_head_at
head_only d w is =
    five_some (field_at (codes "seq") whole_at d) (field_at (codes "from") whole_at d) (field_at (codes "to") whole_at d) (field_at (codes "last") whole_at d) (field_at (codes "received") whole_at d) head_of w.seq w.from w.to w.last w.received
    ((whole_member (codes "seq")).only d w.seq is.seq) ((whole_member (codes "from")).only d w.from is.from) ((whole_member (codes "to")).only d w.to is.to) ((whole_member (codes "last")).only d w.last is.last) ((whole_member (codes "received")).only d w.received is.received)

downloaded_found : (d : Data) (w : Downloaded) → downloaded_at d ≡ Ok w → IsDownloaded w d
unfolding downloaded_at
downloaded_found d w e =
    let s = both_found downloaded_head_at with_items download_item_at (λ i v. IsDownloadItem i v) download_item_form d w e in
    let is : IsDownloaded (with_items s.0 s.1) d = record { head = head_found d s.0 s.1 s.2; items = s.3 } in
    subst (λ (x : Downloaded). IsDownloaded x d) s.4 is

downloaded_only : (d : Data) (w : Downloaded) → IsDownloaded w d → downloaded_at d ≡ Ok w
unfolding downloaded_at
downloaded_only d w is = both_only downloaded_head_at with_items download_item_at (λ i v. IsDownloadItem i v) download_item_form d (head w) w.items (head_only d w is.head) is.items

downloaded_bad : (d : Data) (n : ℕ) → downloaded_at d ≡ Err (suc n) → (w : Downloaded) × IsDownloadedHead w d × HasItems d (HasBadMember (λ i v. IsDownloadItem i v) n)
unfolding downloaded_at
downloaded_bad d n e =
    let s = both_bad downloaded_head_at with_items download_item_at (λ i v. IsDownloadItem i v) download_item_form d n e in
    (with_items s.0 [], head_found d s.0 [] s.1, s.2)

downloaded_rest : (d : Data) (w : Downloaded) → IsDownloadedHead w d → HasItems d (λ ds. Unit {0}) → downloaded_at d ≡ Err 0 → ⊥
unfolding downloaded_at
downloaded_rest d w is items e = both_bad_rest downloaded_head_at with_items download_item_at (λ i v. IsDownloadItem i v) download_item_form d (head w) items.0 (head_only d w is) items.1 e

pub downloaded_bad_only : (d : Data) (w : Downloaded) (n : ℕ) → IsDownloadedHead w d → HasItems d (HasBadMember (λ i v. IsDownloadItem i v) n) → reply_at kind.Download d ≡ Err (suc n)
unfolding reply_at downloaded_at
downloaded_bad_only d w n is items = rw (both_bad_only downloaded_head_at with_items download_item_at (λ i v. IsDownloadItem i v) download_item_form d (head w) n (head_only d w is) items) refl

-- ---- refusals

refused_by : (d : Data) (n : ℕ) (values : List ℕ) (r : Reply) → refused_of n values ≡ Some r → (reply.Refused n values ≡ r) × (field_count n ≡ Some (length values))
refused_by d n values r e =
    let s = bind_some (field_count n) (λ count. cond (length values == count) (Some (reply.Refused n values)) None) r e in
    let t = cond_some (length values == s.0) (reply.Refused n values) r s.2 in
    (t.1, s.1 ∙ ap (λ (k : ℕ). Some k) (sym (eqb-true (length values) s.0 t.0)))

refused_found : (d : Data) (r : Reply) → refused_at d ≡ Some r → (n : ℕ) × (values : List ℕ) × (reply.Refused n values ≡ r) × IsRefused n values d
unfolding refused_at
refused_found d r e =
    let s = bind_some (field_at (codes "refused") (below_at 256) d) (λ n. field_at (codes "values") (list_at whole_at) d >>= λ values. refused_of n values) r e in
    let t = bind_some (field_at (codes "values") (list_at whole_at) d) (λ values. refused_of s.0 values) r s.2 in
    let u = refused_by d s.0 t.0 r t.2 in (
      s.0,
      t.0,
      u.0,
      record {
        refused = (below_member (codes "refused") 256).found d s.0 s.1;
        values = (list_member (codes "values") whole_at (λ k v. IsWhole k v) whole_form).found d t.0 t.1;
        told = u.1;
      },
    )

same_count : (n : ℕ) → (n == n) ≡ true
same_count n = eq-eqb n n refl

refused_told : (n : ℕ) (values : List ℕ) → field_count n ≡ Some (length values) → refused_of n values ≡ Some (reply.Refused n values)
refused_told n values told = rw (told, same_count (length values)) refl

refused_only : (d : Data) (n : ℕ) (values : List ℕ) → IsRefused n values d → refused_at d ≡ Some (reply.Refused n values)
unfolding refused_at
refused_only d n values is =
    rw ((below_member (codes "refused") 256).only d n is.refused, (list_member (codes "values") whole_at (λ k v. IsWhole k v) whole_form).only d values is.values) (refused_told n values is.told)

-- ---- replies

pub reply_found : (k : Kind) (d : Data) (r : Reply) → reply_at k d ≡ Ok r → (k ≡ answered_kind r) × IsReply r d
unfolding reply_at
reply_found kind.Join d r e =
    let s = placed_ok 0 (joined_at d) (λ joined. Ok (reply.Joined joined)) r e in
    let same = ok_same (reply.Joined s.0) r s.2 in
    subst (λ (x : Reply). (kind.Join ≡ answered_kind x) × IsReply x d) same (refl, joined_found d s.0 s.1)
reply_found kind.Upload d r e =
    let s = placed_ok 0 (uploaded_at d) (λ uploaded. Ok (reply.Uploaded uploaded)) r e in
    let same = ok_same (reply.Uploaded s.0) r s.2 in
    subst (λ (x : Reply). (kind.Upload ≡ answered_kind x) × IsReply x d) same (refl, uploaded_found d s.0 s.1)
reply_found kind.Ranges d r e =
    let s = placed_ok 0 (ranged_at d) (λ ranged. Ok (reply.Ranged ranged)) r e in
    let same = ok_same (reply.Ranged s.0) r s.2 in
    subst (λ (x : Reply). (kind.Ranges ≡ answered_kind x) × IsReply x d) same (refl, ranged_found d s.0 s.1)
reply_found kind.Download d r e =
    let s = mapped_ok reply.Downloaded (downloaded_at d) r e in
    subst (λ (x : Reply). (kind.Download ≡ answered_kind x) × IsReply x d) s.2 (refl, downloaded_found d s.0 s.1)
reply_found kind.Refused d r e =
    let s = placed_ok 0 (refused_at d) (λ refused. Ok refused) r e in
    let t = refused_found d s.0 s.1 in
    let same = ok_same s.0 r s.2 in
    subst (λ (x : Reply). (kind.Refused ≡ answered_kind x) × IsReply x d) same (subst (λ (x : Reply). (kind.Refused ≡ answered_kind x) × IsReply x d) t.2 (refl, t.3))

pub reply_only : (d : Data) (r : Reply) → IsReply r d → reply_at (answered_kind r) d ≡ Ok r
unfolding reply_at
reply_only d (reply.Joined joined) is = rw (joined_only d joined is) refl
reply_only d (reply.Uploaded uploaded) is = rw (uploaded_only d uploaded is) refl
reply_only d (reply.Ranged ranged) is = rw (ranged_only d ranged is) refl
reply_only d (reply.Downloaded downloaded) is = rw (downloaded_only d downloaded is) refl
reply_only d (reply.Refused n values) is = rw (refused_only d n values is) refl

not_rest : {A : Type 0} (o : Option A) (x : A) (made : A → Reply) → o ≡ Some x → placed 0 o (λ y. Ok (made y)) ≡ Err 0 → ⊥
not_rest (Some y) x made is e = absurd cc
not_rest None x made is e = absurd cc

-- where all but the items has its form, the place is not 0
pub reply_rest : (d : Data) (r : Reply) → IsReplyButItems r d → reply_at (answered_kind r) d ≡ Err 0 → ⊥
unfolding reply_at
reply_rest d (reply.Joined joined) is e = not_rest (joined_at d) joined reply.Joined (joined_only d joined is) e
reply_rest d (reply.Uploaded uploaded) is e = not_rest (uploaded_at d) uploaded reply.Uploaded (uploaded_only d uploaded is) e
reply_rest d (reply.Ranged ranged) is e = not_rest (ranged_at d) ranged reply.Ranged (ranged_only d ranged is) e
reply_rest d (reply.Downloaded downloaded) is e = downloaded_rest d downloaded is.0 is.1 (mapped_err reply.Downloaded (downloaded_at d) 0 e)
reply_rest d (reply.Refused n values) is e = not_rest (refused_at d) (reply.Refused n values) (λ r. r) (refused_only d n values is) e

not_item : {A : Type 0} (o : Option A) (made : A → Reply) (n : ℕ) → placed 0 o (λ y. Ok (made y)) ≡ Err (suc n) → ⊥
not_item (Some y) made n e = absurd cc
not_item None made n e = absurd cc

-- only items of downloads have another
pub reply_bad : (k : Kind) (d : Data) (n : ℕ) → reply_at k d ≡ Err (suc n) → (k ≡ kind.Download) × (w : Downloaded) × IsDownloadedHead w d × HasItems d (HasBadMember (λ i v. IsDownloadItem i v) n)
unfolding reply_at
reply_bad kind.Join d n e = absurd (not_item (joined_at d) reply.Joined n e)
reply_bad kind.Upload d n e = absurd (not_item (uploaded_at d) reply.Uploaded n e)
reply_bad kind.Ranges d n e = absurd (not_item (ranged_at d) reply.Ranged n e)
reply_bad kind.Download d n e = let b = downloaded_bad d n (mapped_err reply.Downloaded (downloaded_at d) (suc n) e) in (refl, b.0, b.1, b.2)
reply_bad kind.Refused d n e = absurd (not_item (refused_at d) (λ r. r) n e)
