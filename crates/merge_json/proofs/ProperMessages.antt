-- What is read can be sent, message by message.
use Rattle.std.proofs.Common.{◌≡◌, ◌∙◌, ◌==◌, ℕ, List, length, codes, Bool, true, false, cond, Option, Some, None, Ok, refl, sym, ap, subst}
use Rattle.std.specs.Prelude.{All}
use Rattle.std.proofs.lemmas.Bool.{eqb-true}
use Rattle.serde_json.specs.Data.{Data}
use Rattle.serde_json.specs.Find.{get, as_array}
use Rattle.merge_types.specs.declared.identifiers.Dot.{Dot}
use Rattle.merge_types.specs.declared.identifiers.RowId.{RowId}
use Rattle.merge_units.specs.declared.version.Body.{Body}
use Rattle.merge_units.specs.declared.version.Body.TheVariants.{Live, Dead}
use Rattle.merge_batch.specs.declared.request.Kind.{Kind}
use Rattle.merge_batch.specs.declared.request.Kind.TheVariants as kind
use Rattle.merge_batch.specs.declared.request.Request.{Request}
use Rattle.merge_batch.specs.declared.request.Request.TheVariants as request
use Rattle.merge_batch.specs.declared.request.Upload.{Upload}
use Rattle.merge_batch.specs.declared.request.UploadItem.{UploadItem}
use Rattle.merge_batch.specs.declared.reply.Reply.{Reply}
use Rattle.merge_batch.specs.declared.reply.Reply.TheVariants as reply
use Rattle.merge_batch.specs.declared.reply.Downloaded.{Downloaded}
use Rattle.merge_batch.specs.declared.reply.DownloadItem.{DownloadItem}
use Rattle.merge_batch.specs.declared.reply.Act.{Act as Order}
use Rattle.merge_batch.specs.declared.reply.Act.TheVariants as order
use Rattle.merge_json.specs.Reading.{◌>>=◌, whole_at, below_at, list_at, placed, mapped_result, numbered_at}
use Rattle.merge_json.specs.Rows.{dot_at, lineage_at, row_at, cell_at}
use Rattle.merge_json.specs.Requests.{join_at, ask_at, download_at, body_of, body_at, upload_item_at, upload_front_at, upload_at, request_at, kind_at}
use Rattle.merge_json.specs.Requests as requests
use Rattle.merge_json.specs.Replies.{joined_at, uploaded_at, ranged_at, remove_of, act_of, act_at, download_item_at, downloaded_head_at, downloaded_at, field_count, refused_of, refused_at, reply_at}
use Rattle.merge_json.specs.Replies as replies
use Rattle.merge_json.specs.Bodies.{data_at, request_of, request_sent, reply_of}
use Rattle.merge_json.specs.Sendable.{HasProperDays, IsProperBody, IsProperItem, IsProperAct, IsProperOrder, IsSendableRequest, IsSendableReply}
use Rattle.merge_json.proofs.Readers.{bind_some, placed_ok, mapped_ok, some_same}
use Rattle.merge_json.proofs.Proper.{list_all_read, numbered_all, cell_proper}

body_proper : (live dead : Option Data) (body : Body) → body_of live dead ≡ Some body → IsProperBody body
body_proper (Some d) None body e =
    let s = bind_some (list_at cell_at d) (λ cells. Some (Live cells)) body e in
    subst IsProperBody (some_same (Live s.0) body s.2) (list_all_read cell_at HasProperDays cell_proper d s.0 s.1)
body_proper None (Some d) body e =
    let s = bind_some (dot_at d) (λ top. Some (Dead top)) body e in
    subst IsProperBody (some_same (Dead s.0) body s.2) tt
body_proper (Some d) (Some f) body e = absurd cc
body_proper None None body e = absurd cc

item_proper : (d : Data) (i : UploadItem) → upload_item_at d ≡ Some i → IsProperItem i
unfolding upload_item_at body_at
item_proper d i e =
    let made : ℕ → RowId → ℕ → List Dot → Body → UploadItem = λ article row generation lineage body. record { article = article; row = row; generation = generation; version = record { lineage = lineage; body = body } } in
    let a = bind_some (get (codes "article") d >>= below_at 256) (λ article. (get (codes "row") d >>= row_at) >>= λ row. (get (codes "generation") d >>= whole_at) >>= λ generation. (get (codes "lineage") d >>= lineage_at) >>= λ lineage. body_at d >>= λ body. Some (made article row generation lineage body)) i e in
    let b = bind_some (get (codes "row") d >>= row_at) (λ row. (get (codes "generation") d >>= whole_at) >>= λ generation. (get (codes "lineage") d >>= lineage_at) >>= λ lineage. body_at d >>= λ body. Some (made a.0 row generation lineage body)) i a.2 in
    let c = bind_some (get (codes "generation") d >>= whole_at) (λ generation. (get (codes "lineage") d >>= lineage_at) >>= λ lineage. body_at d >>= λ body. Some (made a.0 b.0 generation lineage body)) i b.2 in
    let l = bind_some (get (codes "lineage") d >>= lineage_at) (λ lineage. body_at d >>= λ body. Some (made a.0 b.0 c.0 lineage body)) i c.2 in
    let m = bind_some (body_at d) (λ body. Some (made a.0 b.0 c.0 l.0 body)) i l.2 in
    subst IsProperItem (some_same (made a.0 b.0 c.0 l.0 m.0) i m.2) (body_proper (get (codes "live") d) (get (codes "dead") d) m.0 m.1)

upload_proper : (d : Data) (u : Upload) → upload_at d ≡ Ok u → All IsProperItem u.items
unfolding upload_at
upload_proper d u e =
    let a = placed_ok 0 (upload_front_at d) (λ front. placed 0 (get (codes "items") d >>= as_array) (λ ds. mapped_result (requests.with_items front) (numbered_at upload_item_at 1 ds))) u e in
    let b = placed_ok 0 (get (codes "items") d >>= as_array) (λ ds. mapped_result (requests.with_items a.0) (numbered_at upload_item_at 1 ds)) u a.2 in
    let c = mapped_ok (requests.with_items a.0) (numbered_at upload_item_at 1 b.0) u b.2 in
    subst (λ (v : Upload). All IsProperItem v.items) c.2 (numbered_all upload_item_at IsProperItem item_proper 1 b.0 c.0 c.1)

request_proper : (k : Kind) (d : Data) (r : Request) → request_at k d ≡ Ok r → IsSendableRequest r
unfolding request_at
request_proper kind.Join d r e =
    let a = placed_ok 0 (join_at d) (λ m. Ok (request.Join m)) r e in
    let same : request.Join a.0 ≡ r = cc in subst IsSendableRequest same tt
request_proper kind.Upload d r e =
    let a = mapped_ok request.Upload (upload_at d) r e in
    subst IsSendableRequest a.2 (upload_proper d a.0 a.1)
request_proper kind.Ranges d r e =
    let a = placed_ok 0 (ask_at d) (λ m. Ok (request.Ranges m)) r e in
    let same : request.Ranges a.0 ≡ r = cc in subst IsSendableRequest same tt
request_proper kind.Download d r e =
    let a = placed_ok 0 (download_at d) (λ m. Ok (request.Download m)) r e in
    let same : request.Download a.0 ≡ r = cc in subst IsSendableRequest same tt
request_proper kind.Refused d r e = absurd cc

pub sent_proper : (path body : List ℕ) (r : Request) → request_sent path body ≡ Ok r → IsSendableRequest r
unfolding request_sent request_of
sent_proper path body r e =
    let a = placed_ok 0 (kind_at path) (λ k. request_of k body) r e in
    let b = placed_ok 0 (data_at body) (request_at a.0) r a.2 in
    request_proper a.0 b.0 r b.2

act_proper : (lineage live remove : Option Data) (act : Order) → act_of lineage live remove ≡ Some act → IsProperAct act
act_proper (Some l) (Some v) None act e =
    let s = bind_some (lineage_at l) (λ dots. list_at cell_at v >>= λ cells. Some (order.Put dots cells)) act e in
    let t = bind_some (list_at cell_at v) (λ cells. Some (order.Put s.0 cells)) act s.2 in
    subst IsProperAct (some_same (order.Put s.0 t.0) act t.2) (list_all_read cell_at HasProperDays cell_proper v t.0 t.1)
act_proper None None (Some r) act e = let s = bind_some (whole_at r) remove_of act e in removed act (s.0 == 1) (s.0 == 5) s.2
  where
    removed : (act : Order) (one five : Bool) → cond one (Some order.RemoveDeleted) (cond five (Some order.RemoveLeft) None) ≡ Some act → IsProperAct act
    removed order.RemoveDeleted one five e = tt
    removed order.RemoveLeft one five e = tt
    removed (order.Put dots cells) true five e = absurd cc
    removed (order.Put dots cells) false true e = absurd cc
    removed (order.Put dots cells) false false e = absurd cc
act_proper (Some l) (Some v) (Some r) act e = absurd cc
act_proper (Some l) None remove act e = absurd cc
act_proper None (Some v) remove act e = absurd cc
act_proper None None None act e = absurd cc

order_proper : (d : Data) (i : DownloadItem) → download_item_at d ≡ Some i → IsProperOrder i
unfolding download_item_at act_at
order_proper d i e =
    let made : ℕ → RowId → Order → DownloadItem = λ article row act. record { article = article; row = row; act = act } in
    let a = bind_some (get (codes "article") d >>= below_at 256) (λ article. (get (codes "row") d >>= row_at) >>= λ row. act_at d >>= λ act. Some (made article row act)) i e in
    let b = bind_some (get (codes "row") d >>= row_at) (λ row. act_at d >>= λ act. Some (made a.0 row act)) i a.2 in
    let c = bind_some (act_at d) (λ act. Some (made a.0 b.0 act)) i b.2 in
    subst IsProperOrder (some_same (made a.0 b.0 c.0) i c.2) (act_proper (get (codes "lineage") d) (get (codes "live") d) (get (codes "remove") d) c.0 c.1)

downloaded_proper : (d : Data) (w : Downloaded) → downloaded_at d ≡ Ok w → All IsProperOrder w.items
unfolding downloaded_at
downloaded_proper d w e =
    let a = placed_ok 0 (downloaded_head_at d) (λ head. placed 0 (get (codes "items") d >>= as_array) (λ ds. mapped_result (replies.with_items head) (numbered_at download_item_at 1 ds))) w e in
    let b = placed_ok 0 (get (codes "items") d >>= as_array) (λ ds. mapped_result (replies.with_items a.0) (numbered_at download_item_at 1 ds)) w a.2 in
    let c = mapped_ok (replies.with_items a.0) (numbered_at download_item_at 1 b.0) w b.2 in
    subst (λ (v : Downloaded). All IsProperOrder v.items) c.2 (numbered_all download_item_at IsProperOrder order_proper 1 b.0 c.0 c.1)

refusal_proper : (n : ℕ) (values : List ℕ) (r : Reply) → refused_of n values ≡ Some r → IsSendableReply r
refusal_proper n values r e =
    let a = bind_some (field_count n) (λ count. cond (length values == count) (Some (reply.Refused n values)) None) r e in
    by a.0 (length values == a.0) refl a.1 a.2
  where
    by : (count : ℕ) (b : Bool) → (length values == count) ≡ b → field_count n ≡ Some count → cond b (Some (reply.Refused n values)) None ≡ Some r → IsSendableReply r
    by count true f g h = subst IsSendableReply (some_same (reply.Refused n values) r h) (g ∙ ap (λ (k : ℕ). Some k) (sym (eqb-true (length values) count f)))
    by count false f g h = absurd cc

refused_proper : (d : Data) (r : Reply) → refused_at d ≡ Some r → IsSendableReply r
unfolding refused_at
refused_proper d r e =
    let a = bind_some (get (codes "refused") d >>= below_at 256) (λ n. (get (codes "values") d >>= list_at whole_at) >>= λ values. refused_of n values) r e in
    let b = bind_some (get (codes "values") d >>= list_at whole_at) (λ values. refused_of a.0 values) r a.2 in
    refusal_proper a.0 b.0 r b.2

reply_proper : (k : Kind) (d : Data) (r : Reply) → reply_at k d ≡ Ok r → IsSendableReply r
unfolding reply_at
reply_proper kind.Join d r e =
    let a = placed_ok 0 (joined_at d) (λ m. Ok (reply.Joined m)) r e in
    let same : reply.Joined a.0 ≡ r = cc in subst IsSendableReply same tt
reply_proper kind.Upload d r e =
    let a = placed_ok 0 (uploaded_at d) (λ m. Ok (reply.Uploaded m)) r e in
    let same : reply.Uploaded a.0 ≡ r = cc in subst IsSendableReply same tt
reply_proper kind.Ranges d r e =
    let a = placed_ok 0 (ranged_at d) (λ m. Ok (reply.Ranged m)) r e in
    let same : reply.Ranged a.0 ≡ r = cc in subst IsSendableReply same tt
reply_proper kind.Download d r e =
    let a = mapped_ok reply.Downloaded (downloaded_at d) r e in
    subst IsSendableReply a.2 (downloaded_proper d a.0 a.1)
reply_proper kind.Refused d r e =
    let a = placed_ok 0 (refused_at d) (λ m. Ok m) r e in
    let same : a.0 ≡ r = cc in subst IsSendableReply same (refused_proper d a.0 a.1)

pub replied_proper : (k : Kind) (body : List ℕ) (r : Reply) → reply_of k body ≡ Ok r → IsSendableReply r
unfolding reply_of
replied_proper k body r e =
    let a = placed_ok 0 (data_at body) (reply_at k) r e in
    reply_proper k a.0 r a.2
