-- Requests are read just by their forms.
use Rattle.std.proofs.Common.{◌≡◌, ℕ, suc, List, [], Bool, codes, Option, Some, None, Ok, Err, refl, ap, subst}
use Rattle.serde_json.specs.Data.{Data}
use Rattle.serde_json.specs.Find.{get}
use Rattle.merge_types.specs.declared.identifiers.SiteId.{SiteId}
use Rattle.merge_types.specs.declared.identifiers.Dot.{Dot}
use Rattle.merge_types.specs.declared.identifiers.RowId.{RowId}
use Rattle.merge_units.specs.declared.version.Cell.{Cell}
use Rattle.merge_units.specs.declared.version.Body.{Body}
use Rattle.merge_units.specs.declared.version.Body.TheVariants.{Live, Dead}
use Rattle.merge_batch.specs.Heads.{kind_of}
use Rattle.merge_batch.specs.declared.request.Kind.{Kind}
use Rattle.merge_batch.specs.declared.request.Kind.TheVariants as kind
use Rattle.merge_batch.specs.declared.request.Request.{Request}
use Rattle.merge_batch.specs.declared.request.Request.TheVariants as request
use Rattle.merge_batch.specs.declared.request.Join.{Join}
use Rattle.merge_batch.specs.declared.request.Upload.{Upload}
use Rattle.merge_batch.specs.declared.request.UploadItem.{UploadItem}
use Rattle.merge_batch.specs.declared.request.RangeAsk.{RangeAsk}
use Rattle.merge_batch.specs.declared.request.Want.{Want}
use Rattle.merge_batch.specs.declared.request.Download.{Download}
use Rattle.merge_json.specs.declared.uploads.Front.{Front}
use Rattle.merge_json.specs.Reading.{◌>>=◌, field_at, whole_at, below_at, bit_at, list_at, placed}
use Rattle.merge_json.specs.Rows.{site_at, dot_at, lineage_at, row_at, cell_at}
use Rattle.merge_json.specs.Requests.{join_at, download_at, want_at, ask_at, body_of, body_at, upload_item_at, upload_front_at, with_items, upload_at, request_at}
use Rattle.merge_json.specs.Forms.{HasMember, HasBadMember, IsBit, IsLineage, IsRow, IsCell}
use Rattle.merge_json.specs.RequestForms.{IsJoin, IsDownload, IsWant, IsAsk, IsBody, IsUploadItem, IsUploadFront, IsUpload, IsRequest}
use Rattle.merge_json.specs.Messages.{HasItems, IsButItems}
use Rattle.merge_json.proofs.Readers.{some_same, ok_same, bind_some, placed_ok, mapped_ok, mapped_err, three_found, four_found, five_found, three_some, four_some, five_some}
use Rattle.merge_json.proofs.FormLemmas.{IsForm, bit_form, field_form, whole_member, below_member, list_form, list_member}
use Rattle.merge_json.proofs.ValueForms.{site_member, dot_form, lineage_form, row_form, cell_form}
use Rattle.merge_json.proofs.ItemForms.{both_found, both_only, both_bad, both_bad_rest, both_bad_only}

abbrev join_of : SiteId → ℕ → ℕ → ℕ → Join
join_of site seq generation number = record { site = site; seq = seq; generation = generation; number = number }

join_found : (d : Data) (j : Join) → join_at d ≡ Some j → IsJoin j d
unfolding join_at
join_found d j e =
    let p = four_found (field_at (codes "site") site_at d) (field_at (codes "seq") whole_at d) (field_at (codes "generation") whole_at d) (field_at (codes "number") whole_at d) join_of j e in
    let is : IsJoin (join_of p.0 p.1 p.2 p.3) d = record {
      site = site_member.found d p.0 p.4;
      seq = (whole_member (codes "seq")).found d p.1 p.5;
      generation = (whole_member (codes "generation")).found d p.2 p.6;
      number = (whole_member (codes "number")).found d p.3 p.7;
    } in
    subst (λ (x : Join). IsJoin x d) p.8 is

join_only : (d : Data) (j : Join) → IsJoin j d → join_at d ≡ Some j
unfolding join_at
join_only d j is =
    four_some (field_at (codes "site") site_at d) (field_at (codes "seq") whole_at d) (field_at (codes "generation") whole_at d) (field_at (codes "number") whole_at d) join_of j.site j.seq j.generation j.number
    (site_member.only d j.site is.site) ((whole_member (codes "seq")).only d j.seq is.seq) ((whole_member (codes "generation")).only d j.generation is.generation) ((whole_member (codes "number")).only d j.number is.number)

abbrev download_of : SiteId → ℕ → ℕ → Download
download_of site seq from = record { site = site; seq = seq; from = from }

download_found : (d : Data) (w : Download) → download_at d ≡ Some w → IsDownload w d
unfolding download_at
download_found d w e =
    let p = three_found (field_at (codes "site") site_at d) (field_at (codes "seq") whole_at d) (field_at (codes "from") whole_at d) download_of w e in
    let is : IsDownload (download_of p.0 p.1 p.2) d = record {
      site = site_member.found d p.0 p.3;
      seq = (whole_member (codes "seq")).found d p.1 p.4;
      from = (whole_member (codes "from")).found d p.2 p.5;
    } in
    subst (λ (x : Download). IsDownload x d) p.6 is

download_only : (d : Data) (w : Download) → IsDownload w d → download_at d ≡ Some w
unfolding download_at
download_only d w is =
    three_some (field_at (codes "site") site_at d) (field_at (codes "seq") whole_at d) (field_at (codes "from") whole_at d) download_of w.site w.seq w.from
    (site_member.only d w.site is.site) ((whole_member (codes "seq")).only d w.seq is.seq) ((whole_member (codes "from")).only d w.from is.from)

bit_member : IsForm (field_at (codes "due") bit_at) (λ b d. HasMember (codes "due") (λ x v. IsBit x v) b d)
bit_member = field_form (codes "due") bit_at (λ b d. IsBit b d) bit_form

abbrev want_of : ℕ → ℕ → Bool → Want
want_of article have due = record { article = article; have = have; due = due }

want_found : (d : Data) (w : Want) → want_at d ≡ Some w → IsWant w d
unfolding want_at
want_found d w e =
    let p = three_found (field_at (codes "article") (below_at 256) d) (field_at (codes "have") whole_at d) (field_at (codes "due") bit_at d) want_of w e in
    let is : IsWant (want_of p.0 p.1 p.2) d = record {
      article = (below_member (codes "article") 256).found d p.0 p.3;
      have = (whole_member (codes "have")).found d p.1 p.4;
      due = bit_member.found d p.2 p.5;
    } in
    subst (λ (x : Want). IsWant x d) p.6 is

want_only : (d : Data) (w : Want) → IsWant w d → want_at d ≡ Some w
unfolding want_at
want_only d w is =
    three_some (field_at (codes "article") (below_at 256) d) (field_at (codes "have") whole_at d) (field_at (codes "due") bit_at d) want_of w.article w.have w.due
    ((below_member (codes "article") 256).only d w.article is.article) ((whole_member (codes "have")).only d w.have is.have) (bit_member.only d w.due is.due)

want_form : IsForm want_at (λ w d. IsWant w d)
want_form = record { found = want_found; only = want_only }

abbrev ask_of : SiteId → ℕ → List Want → RangeAsk
ask_of site seq wants = record { site = site; seq = seq; wants = wants }

ask_found : (d : Data) (a : RangeAsk) → ask_at d ≡ Some a → IsAsk a d
unfolding ask_at
ask_found d a e =
    let p = three_found (field_at (codes "site") site_at d) (field_at (codes "seq") whole_at d) (field_at (codes "wants") (list_at want_at) d) ask_of a e in
    let is : IsAsk (ask_of p.0 p.1 p.2) d = record {
      site = site_member.found d p.0 p.3;
      seq = (whole_member (codes "seq")).found d p.1 p.4;
      wants = (list_member (codes "wants") want_at (λ w v. IsWant w v) want_form).found d p.2 p.5;
    } in
    subst (λ (x : RangeAsk). IsAsk x d) p.6 is

ask_only : (d : Data) (a : RangeAsk) → IsAsk a d → ask_at d ≡ Some a
unfolding ask_at
ask_only d a is =
    three_some (field_at (codes "site") site_at d) (field_at (codes "seq") whole_at d) (field_at (codes "wants") (list_at want_at) d) ask_of a.site a.seq a.wants
    (site_member.only d a.site is.site) ((whole_member (codes "seq")).only d a.seq is.seq) ((list_member (codes "wants") want_at (λ w v. IsWant w v) want_form).only d a.wants is.wants)

-- ---- items of uploads

body_by : (d : Data) (b : Body) (live dead : Option Data) → get (codes "live") d ≡ live → get (codes "dead") d ≡ dead → body_of live dead ≡ Some b → IsBody b d
body_by d b (Some v) None p q e =
    let s = bind_some (list_at cell_at v) (λ cells. Some (Live cells)) b e in
    subst (λ (x : Body). IsBody x d) (some_same (Live s.0) b s.2) ((v, p, (list_form cell_at (λ c w. IsCell c w) cell_form).found v s.0 s.1), q)
body_by d b None (Some v) p q e =
    let s = bind_some (dot_at v) (λ top. Some (Dead top)) b e in
    subst (λ (x : Body). IsBody x d) (some_same (Dead s.0) b s.2) ((v, q, dot_form.found v s.0 s.1), p)
body_by d b (Some v) (Some w) p q e = absurd cc
body_by d b None None p q e = absurd cc

body_found : (d : Data) (b : Body) → body_at d ≡ Some b → IsBody b d
unfolding body_at
body_found d b e = body_by d b (get (codes "live") d) (get (codes "dead") d) refl refl e

body_only : (d : Data) (b : Body) → IsBody b d → body_at d ≡ Some b
unfolding body_at
body_only d (Live cells) is = rw (is.0.1, is.1) (ap (λ (o : Option (List Cell)). o >>= λ xs. Some (Live xs)) ((list_form cell_at (λ c w. IsCell c w) cell_form).only is.0.0 cells is.0.2))
body_only d (Dead top) is = rw (is.0.1, is.1) (ap (λ (o : Option Dot). o >>= λ x. Some (Dead x)) (dot_form.only is.0.0 top is.0.2))

lineage_member : IsForm (field_at (codes "lineage") lineage_at) (λ l d. HasMember (codes "lineage") (λ m v. IsLineage m v) l d)
lineage_member = field_form (codes "lineage") lineage_at (λ l d. IsLineage l d) lineage_form

row_member : IsForm (field_at (codes "row") row_at) (λ r d. HasMember (codes "row") (λ s v. IsRow s v) r d)
row_member = field_form (codes "row") row_at (λ r d. IsRow r d) row_form

abbrev item_of : ℕ → RowId → ℕ → List Dot → Body → UploadItem
item_of article row generation lineage body = record { article = article; row = row; generation = generation; version = record { lineage = lineage; body = body } }

item_found : (d : Data) (i : UploadItem) → upload_item_at d ≡ Some i → IsUploadItem i d
unfolding upload_item_at
item_found d i e =
    let p = five_found (field_at (codes "article") (below_at 256) d) (field_at (codes "row") row_at d) (field_at (codes "generation") whole_at d) (field_at (codes "lineage") lineage_at d) (body_at d) item_of i e in
    let is : IsUploadItem (item_of p.0 p.1 p.2 p.3 p.4) d = record {
      article = (below_member (codes "article") 256).found d p.0 p.5;
      row = row_member.found d p.1 p.6;
      generation = (whole_member (codes "generation")).found d p.2 p.7;
      lineage = lineage_member.found d p.3 p.8;
      body = body_found d p.4 p.9;
    } in
    subst (λ (x : UploadItem). IsUploadItem x d) p.10 is

item_only : (d : Data) (i : UploadItem) → IsUploadItem i d → upload_item_at d ≡ Some i
unfolding upload_item_at
item_only d i is =
    five_some (field_at (codes "article") (below_at 256) d) (field_at (codes "row") row_at d) (field_at (codes "generation") whole_at d) (field_at (codes "lineage") lineage_at d) (body_at d) item_of i.article i.row i.generation i.version.lineage i.version.body
    ((below_member (codes "article") 256).only d i.article is.article) (row_member.only d i.row is.row) ((whole_member (codes "generation")).only d i.generation is.generation) (lineage_member.only d i.version.lineage is.lineage) (body_only d i.version.body is.body)

pub upload_item_form : IsForm upload_item_at (λ i d. IsUploadItem i d)
upload_item_form = record { found = item_found; only = item_only }

-- ---- uploads

abbrev front_of : SiteId → ℕ → ℕ → ℕ → ℕ → Front
front_of site seq from to through = record { site = site; seq = seq; from = from; to = to; through = through }

front_found : (d : Data) (f : Front) (items : List UploadItem) → upload_front_at d ≡ Some f → IsUploadFront (with_items f items) d
unfolding upload_front_at
front_found d f items e =
    let p = five_found (field_at (codes "site") site_at d) (field_at (codes "seq") whole_at d) (field_at (codes "from") whole_at d) (field_at (codes "to") whole_at d) (field_at (codes "through") whole_at d) front_of f e in
    let is : IsUploadFront (with_items (front_of p.0 p.1 p.2 p.3 p.4) items) d = record {
      site = site_member.found d p.0 p.5;
      seq = (whole_member (codes "seq")).found d p.1 p.6;
      from = (whole_member (codes "from")).found d p.2 p.7;
      to = (whole_member (codes "to")).found d p.3 p.8;
      through = (whole_member (codes "through")).found d p.4 p.9;
    } in
    subst (λ (x : Front). IsUploadFront (with_items x items) d) p.10 is

abbrev front : Upload → Front
front u = front_of u.site u.seq u.from u.to u.through

front_only : (d : Data) (u : Upload) → IsUploadFront u d → upload_front_at d ≡ Some (front u)
unfolding upload_front_at
front_only d u is =
    five_some (field_at (codes "site") site_at d) (field_at (codes "seq") whole_at d) (field_at (codes "from") whole_at d) (field_at (codes "to") whole_at d) (field_at (codes "through") whole_at d) front_of u.site u.seq u.from u.to u.through
    (site_member.only d u.site is.site) ((whole_member (codes "seq")).only d u.seq is.seq) ((whole_member (codes "from")).only d u.from is.from) ((whole_member (codes "to")).only d u.to is.to) ((whole_member (codes "through")).only d u.through is.through)

upload_found : (d : Data) (u : Upload) → upload_at d ≡ Ok u → IsUpload u d
unfolding upload_at
upload_found d u e =
    let s = both_found upload_front_at with_items upload_item_at (λ i v. IsUploadItem i v) upload_item_form d u e in
    let is : IsUpload (with_items s.0 s.1) d = record { front = front_found d s.0 s.1 s.2; items = s.3 } in
    subst (λ (x : Upload). IsUpload x d) s.4 is

upload_only : (d : Data) (u : Upload) → IsUpload u d → upload_at d ≡ Ok u
unfolding upload_at
upload_only d u is = both_only upload_front_at with_items upload_item_at (λ i v. IsUploadItem i v) upload_item_form d (front u) u.items (front_only d u is.front) is.items

-- an upload of any items
pub upload_bad : (d : Data) (n : ℕ) → upload_at d ≡ Err (suc n) → (u : Upload) × IsUploadFront u d × HasItems d (HasBadMember (λ i v. IsUploadItem i v) n)
unfolding upload_at
upload_bad d n e =
    let s = both_bad upload_front_at with_items upload_item_at (λ i v. IsUploadItem i v) upload_item_form d n e in
    (with_items s.0 [], front_found d s.0 [] s.1, s.2)

upload_rest : (d : Data) (u : Upload) → IsUploadFront u d → HasItems d (λ ds. Unit {0}) → upload_at d ≡ Err 0 → ⊥
unfolding upload_at
upload_rest d u is items e = both_bad_rest upload_front_at with_items upload_item_at (λ i v. IsUploadItem i v) upload_item_form d (front u) items.0 (front_only d u is) items.1 e

-- ---- requests

pub request_found : (k : Kind) (d : Data) (r : Request) → request_at k d ≡ Ok r → (k ≡ kind_of r) × IsRequest r d
unfolding request_at
request_found kind.Join d r e =
    let s = placed_ok 0 (join_at d) (λ join. Ok (request.Join join)) r e in
    let same = ok_same (request.Join s.0) r s.2 in
    subst (λ (x : Request). (kind.Join ≡ kind_of x) × IsRequest x d) same (refl, join_found d s.0 s.1)
request_found kind.Upload d r e =
    let s = mapped_ok request.Upload (upload_at d) r e in
    subst (λ (x : Request). (kind.Upload ≡ kind_of x) × IsRequest x d) s.2 (refl, upload_found d s.0 s.1)
request_found kind.Ranges d r e =
    let s = placed_ok 0 (ask_at d) (λ ask. Ok (request.Ranges ask)) r e in
    let same = ok_same (request.Ranges s.0) r s.2 in
    subst (λ (x : Request). (kind.Ranges ≡ kind_of x) × IsRequest x d) same (refl, ask_found d s.0 s.1)
request_found kind.Download d r e =
    let s = placed_ok 0 (download_at d) (λ download. Ok (request.Download download)) r e in
    let same = ok_same (request.Download s.0) r s.2 in
    subst (λ (x : Request). (kind.Download ≡ kind_of x) × IsRequest x d) same (refl, download_found d s.0 s.1)
request_found kind.Refused d r e = absurd cc

pub request_only : (d : Data) (r : Request) → IsRequest r d → request_at (kind_of r) d ≡ Ok r
unfolding request_at
request_only d (request.Join join) is = rw (join_only d join is) refl
request_only d (request.Upload upload) is = rw (upload_only d upload is) refl
request_only d (request.Ranges ask) is = rw (ask_only d ask is) refl
request_only d (request.Download download) is = rw (download_only d download is) refl

not_rest : {A : Type 0} (o : Option A) (x : A) (made : A → Request) → o ≡ Some x → placed 0 o (λ y. Ok (made y)) ≡ Err 0 → ⊥
not_rest (Some y) x made is e = absurd cc
not_rest None x made is e = absurd cc

-- where all but the items has its form, the place is not 0
pub request_rest : (d : Data) (r : Request) → IsButItems r d → request_at (kind_of r) d ≡ Err 0 → ⊥
unfolding request_at
request_rest d (request.Join join) is e = not_rest (join_at d) join request.Join (join_only d join is) e
request_rest d (request.Upload upload) is e = upload_rest d upload is.0 is.1 (mapped_err request.Upload (upload_at d) 0 e)
request_rest d (request.Ranges ask) is e = not_rest (ask_at d) ask request.Ranges (ask_only d ask is) e
request_rest d (request.Download download) is e = not_rest (download_at d) download request.Download (download_only d download is) e

not_item : {A : Type 0} (o : Option A) (made : A → Request) (n : ℕ) → placed 0 o (λ y. Ok (made y)) ≡ Err (suc n) → ⊥
not_item (Some y) made n e = absurd cc
not_item None made n e = absurd cc

-- only items of uploads have another
pub request_bad : (k : Kind) (d : Data) (n : ℕ) → request_at k d ≡ Err (suc n) → (k ≡ kind.Upload) × (u : Upload) × IsUploadFront u d × HasItems d (HasBadMember (λ i v. IsUploadItem i v) n)
unfolding request_at
request_bad kind.Join d n e = absurd (not_item (join_at d) request.Join n e)
request_bad kind.Upload d n e = let b = upload_bad d n (mapped_err request.Upload (upload_at d) (suc n) e) in (refl, b.0, b.1, b.2)
request_bad kind.Ranges d n e = absurd (not_item (ask_at d) request.Ranges n e)
request_bad kind.Download d n e = absurd (not_item (download_at d) request.Download n e)
request_bad kind.Refused d n e = absurd cc

pub upload_bad_only : (d : Data) (u : Upload) (n : ℕ) → IsUploadFront u d → HasItems d (HasBadMember (λ i v. IsUploadItem i v) n) → request_at kind.Upload d ≡ Err (suc n)
unfolding request_at upload_at
upload_bad_only d u n is items = rw (both_bad_only upload_front_at with_items upload_item_at (λ i v. IsUploadItem i v) upload_item_form d (front u) n (front_only d u is) items) refl
