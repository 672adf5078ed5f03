-- Values of a subscriber's rows and conflicts are typed: its calls keep it, and so are those that it sends.
use Rattle.std.specs.BTreeMap.{is_at}
use Rattle.std.specs.List.{AllByRecursion, fold}
use Rattle.std.specs.Prelude.{Bool, IfOk, IfSome, List, None, Option, Some, [], false, filter_map, if◌then◌else◌, length, map, true, ℕ, ◌+◌, ◌≡◌, ◌∷◌}
use Rattle.merge_types.specs.RowKeys.{key_cmp}
use Rattle.merge_types.specs.declared.changes.Change.{Change}
use Rattle.merge_types.specs.declared.identifiers.Moment.{Moment}
use Rattle.merge_types.specs.declared.row_key.RowKey.{RowKey as Key}
use Rattle.merge_types.specs.declared.values.Value.{Value}
use Rattle.merge_units.specs.declared.site_row.SubscriberRow.{SubscriberRow}
use Rattle.merge_units.specs.declared.version.Body.TheVariants.{Live}
use Rattle.merge_units.specs.declared.version.Version.{Version}
use Rattle.merge_conflict.specs.declared.row.ConflictRow.{ConflictRow}
use Rattle.merge_ident.specs.Holders.{Holder}
use Rattle.merge_schema.specs.declared.publication.Publication.{Publication}
use Rattle.merge_batch.specs.LocalChanges.{change_refusal, key_of, version_after}
use Rattle.merge_batch.specs.declared.reply.Act.TheVariants as order
use Rattle.merge_batch.specs.declared.reply.Act.{Act as Order}
use Rattle.merge_batch.specs.declared.reply.DownloadItem.{DownloadItem}
use Rattle.merge_batch.specs.declared.reply.Reply.{Reply}
use Rattle.merge_batch.specs.declared.reply.Reply.TheVariants as reply
use Rattle.merge_batch.specs.declared.request.Download.{Download}
use Rattle.merge_batch.specs.declared.request.Join.{Join}
use Rattle.merge_batch.specs.declared.request.Outstanding.TheVariants as ask
use Rattle.merge_batch.specs.declared.request.RangeAsk.{RangeAsk}
use Rattle.merge_batch.specs.declared.request.Upload.{Upload}
use Rattle.merge_record.specs.Versions.{IsValue}
use Rattle.merge_model.specs.Judge.{SubscriberJudge}
use Rattle.merge_model.specs.Tables.Keys.{row_at}
use Rattle.merge_model.specs.Tables.Refusals.{counter_end}
use Rattle.merge_model.specs.Subscriber.Reinit.{discarded_rows_from, discarded_versions, reinitialise, result_of_reinit}
use Rattle.merge_model.specs.Subscriber.Sending.{join_made, join_of, make_ask, make_join, make_ranges, make_upload, ranges_made, sending_refusal, unsent_rows, upload_item, upload_made, upload_sent, want_of, with_message}
use Rattle.merge_model.specs.Subscriber.{close_subscriber_generation, is_joining, subscriber_at_moment, subscriber_closed, subscriber_counters, subscriber_drawn, subscriber_last_closed, subscriber_local, subscriber_local_refusal, subscriber_made_locally, subscriber_next_dot, subscriber_version_at, with_version_if}
use Rattle.merge_model.specs.Tables.{SubscriberTables}
use Rattle.merge_model.specs.Subscriber.Taking.{after_reply, key_of_download, row_above, take_reply, with_item, with_order}
use Rattle.merge_model.proofs.Lists.{OfSome, all-append, all-filter_map, all-map, all-unit, some-map}
use Rattle.merge_model.proofs.Runs.Refusals.{first-none}
use Rattle.merge_typed.specs.Messages.{ItemIsTyped, OrderIsTyped}
use Rattle.merge_typed.specs.Outside.{ChangeIsTyped}
use Rattle.merge_typed.specs.Typed.{BodyIsTyped, LostIsTyped, MomentFits}
use Rattle.merge_typed.proofs.Calls.{ok-of, reply-ok, sub-local-ok, unless-ok}
use Rattle.merge_typed.proofs.Entries.{values-dropped, values-found, values-put}
use Rattle.merge_typed.proofs.OwnValues.{max-low}
use Rattle.merge_typed.proofs.Values.{VersionIsTyped, settings-are, version-is}

abbrev pub SubscriberRowIsTyped : SubscriberRow → Type 0
SubscriberRowIsTyped row = BodyIsTyped row.version.body

abbrev pub SubscriberRowsAreTyped : List (Key × SubscriberRow) → Type 0
SubscriberRowsAreTyped rows = AllByRecursion (λ (row : Key × SubscriberRow). SubscriberRowIsTyped row.1) rows

pub record SubscriberValues (s : SubscriberTables) : Type 0 where
  pub rows : SubscriberRowsAreTyped s.rows
  pub conflicts : AllByRecursion LostIsTyped s.conflicts
  pub latest : MomentFits s.latest

moved : (now : Moment) (s : SubscriberTables) → MomentFits now → SubscriberValues s → SubscriberValues (subscriber_at_moment now s)
moved now s low v = record { rows = v.rows; conflicts = v.conflicts; latest = max-low now.0 s.latest.0 low v.latest }

held-version : (s : SubscriberTables) (key : Key) → SubscriberRowsAreTyped s.rows → OfSome VersionIsTyped (subscriber_version_at s key)
held-version s key rows = some-map SubscriberRowIsTyped VersionIsTyped (λ (row : SubscriberRow). row.version) (λ row is. is) (row_at s.rows key) (values-found SubscriberRowIsTyped (is_at (key_cmp key)) s.rows rows)

-- a local change
version-if : (key : Key) (found : Option Version) (s : SubscriberTables) → OfSome VersionIsTyped found → SubscriberValues s → SubscriberValues (with_version_if key found s)
version-if key None s is v = v
version-if key (Some version) s is v = record { rows = values-put SubscriberRowIsTyped key_cmp key _ s.rows is v.rows; conflicts = v.conflicts; latest = v.latest }

sub-change : (publication : Publication) (now : Moment) (change : Change) (s : SubscriberTables) (d : Value × List (ℕ × Holder)) → MomentFits now → ChangeIsTyped change → IsValue d.0 → subscriber_local_refusal publication change s ≡ None → SubscriberValues s
    → SubscriberValues (subscriber_made_locally publication change d (subscriber_at_moment now s)).0
sub-change publication now change s d low typed value fine v =
    let c : SubscriberTables = subscriber_at_moment now s in
    let key : Key = key_of (subscriber_next_dot s) change in
    let w : SubscriberValues c = moved now s low v in
    let first = first-none (is_joining s) _ fine in
    let second = first-none (counter_end (subscriber_counters s)) _ first.1 in
    let here = first-none (change_refusal publication (subscriber_next_dot s) change (subscriber_version_at s key) (length s.rows)) _ second.1 in
    let set = settings-are publication (subscriber_next_dot s) change (subscriber_version_at s key) (length s.rows) here.0 typed in
    version-if key (version_after publication (subscriber_next_dot s) d.0 change (subscriber_version_at s key)) (record c { changes = c.changes + 1; held = d.1 })
    (version-is publication (subscriber_next_dot s) d.0 change (subscriber_version_at s key) value set (held-version s key v.rows)) (record { rows = w.rows; conflicts = w.conflicts; latest = w.latest })

-- what it sends
abbrev Sent : {X : Type 0} → (X → Type 0) → Option (SubscriberTables × X) → Type 0
Sent Of made = IfSome made (λ x. SubscriberValues x.0 × Of x.1)

joined-by : (s : SubscriberTables) (b : Bool) → SubscriberValues s → Sent (λ (m : Join). Unit {0}) (if b then None else Some (with_message ask.Join s, join_of s))
joined-by s true v = tt
joined-by s false v = (record { rows = v.rows; conflicts = v.conflicts; latest = v.latest }, tt)

ranged-by : (s : SubscriberTables) (held : List (ℕ × Holder)) → SubscriberValues s
    → (let made : Option (SubscriberTables × RangeAsk) = elim held [ [] ↦ None | entry ∷ entries ↦ Some (with_message ask.Ranges s, record { site = s.site; seq = s.seq + 1; wants = map want_of s.held }) ] in Sent (λ (m : RangeAsk). Unit {0}) made)
ranged-by s [] v = tt
ranged-by s (entry ∷ entries) v = (record { rows = v.rows; conflicts = v.conflicts; latest = v.latest }, tt)

items-are : (s : SubscriberTables) (entries : List (Key × ℕ)) → SubscriberRowsAreTyped s.rows → AllByRecursion ItemIsTyped (filter_map (upload_item s) entries)
items-are s entries rows = all-filter_map (λ (entry : Key × ℕ). Unit {0}) ItemIsTyped (upload_item s)
    (λ entry none. some-map VersionIsTyped ItemIsTyped (λ (version : Version). record { article = entry.0.article; row = entry.0.row; generation = entry.1; version = version }) (λ version is. is) (subscriber_version_at s entry.0) (held-version s entry.0 rows)) entries (all-unit entries)

abbrev UploadIsTyped : Upload → Type 0
UploadIsTyped m = AllByRecursion ItemIsTyped m.items

uploaded-by : (judge : SubscriberJudge) (now : Moment) (s : SubscriberTables) (unsent : List (Key × ℕ)) → MomentFits now → SubscriberValues s
    → (let made : Option (SubscriberTables × Upload) = elim unsent [ [] ↦ None | row ∷ rows ↦ Some (upload_sent judge (subscriber_closed (subscriber_at_moment now s))) ] in Sent UploadIsTyped made)
uploaded-by judge now s [] low v = tt
uploaded-by judge now s (row ∷ rows) low v = (let w = moved now s low v in (
  record { rows = w.rows; conflicts = w.conflicts; latest = w.latest },
  items-are (subscriber_closed (subscriber_at_moment now s)) _ w.rows,
))

-- replies
ordered : (key : Key) (o : Order) (rows : List (Key × SubscriberRow)) → OrderIsTyped o → SubscriberRowsAreTyped rows → SubscriberRowsAreTyped (with_order key o rows)
ordered key (order.Put lineage live) rows is typed = values-put SubscriberRowIsTyped key_cmp key (record { version = record { lineage = lineage; body = Live live }; generations = [] }) rows is typed
ordered key order.RemoveDeleted rows is typed = values-dropped SubscriberRowIsTyped (is_at (key_cmp key)) rows typed
ordered key order.RemoveLeft rows is typed = values-dropped SubscriberRowIsTyped (is_at (key_cmp key)) rows typed

if-stays : (b : Bool) (one other : List (Key × SubscriberRow)) → SubscriberRowsAreTyped one → SubscriberRowsAreTyped other → SubscriberRowsAreTyped (if b then one else other)
if-stays true one other is more = is
if-stays false one other is more = more

items-taken : (judge : SubscriberJudge) (received : ℕ) (items : List DownloadItem) (rows : List (Key × SubscriberRow)) → AllByRecursion (λ (item : DownloadItem). OrderIsTyped item.act) items → SubscriberRowsAreTyped rows → SubscriberRowsAreTyped (fold (with_item judge received) rows items)
items-taken judge received [] rows all typed = typed
items-taken judge received (item ∷ items) rows all typed = items-taken judge received items (with_item judge received rows item) all.1
    (if-stays (judge.is_unsent received (key_of_download item)) rows (with_order (key_of_download item) item.act rows) typed (ordered (key_of_download item) item.act rows all.0 typed))

above : (received : ℕ) (rows : List (Key × SubscriberRow)) → SubscriberRowsAreTyped rows → SubscriberRowsAreTyped (map (row_above received) rows)
above received rows typed = all-map (λ (row : Key × SubscriberRow). SubscriberRowIsTyped row.1) (λ (row : Key × SubscriberRow). SubscriberRowIsTyped row.1) (row_above received) (λ row is. is) rows typed

abbrev pub ReplyOrders : Reply → Type 0
ReplyOrders (reply.Downloaded m) = AllByRecursion (λ (item : DownloadItem). OrderIsTyped item.act) m.items
ReplyOrders m = Unit {0}

after : (judge : SubscriberJudge) (m : Reply) (s : SubscriberTables) → ReplyOrders m → SubscriberValues s → SubscriberValues (after_reply judge m s)
after judge (reply.Joined m) s is v = record { rows = v.rows; conflicts = v.conflicts; latest = v.latest }
after judge (reply.Uploaded m) s is v = record { rows = above m.received s.rows v.rows; conflicts = v.conflicts; latest = v.latest }
after judge (reply.Ranged m) s is v = record { rows = v.rows; conflicts = v.conflicts; latest = v.latest }
after judge (reply.Downloaded m) s is v = record { rows = items-taken judge m.received m.items (map (row_above m.received) s.rows) is (above m.received s.rows v.rows); conflicts = v.conflicts; latest = v.latest }
after judge (reply.Refused number values) s is v = v

-- made anew
if-lost : (b : Bool) (row : Key × Version) → VersionIsTyped row.1 → OfSome (λ (lost : Key × Version). VersionIsTyped lost.1) (if b then Some row else None)
if-lost true row is = is
if-lost false row is = tt

discards-are : (judge : SubscriberJudge) (s : SubscriberTables) → SubscriberRowsAreTyped s.rows → AllByRecursion (λ (row : Key × Version). VersionIsTyped row.1) (discarded_versions judge s)
discards-are judge s rows = all-filter_map (λ (row : Key × SubscriberRow). SubscriberRowIsTyped row.1) (λ (row : Key × Version). VersionIsTyped row.1) (λ (row : Key × SubscriberRow). if judge.is_unsent s.received row.0 then Some (row.0, row.1.version) else None) (λ row is. if-lost (judge.is_unsent s.received row.0) (row.0, row.1.version) is) s.rows rows

lost-are : (s : SubscriberTables) (number : ℕ) (rows : List (Key × Version)) → MomentFits s.latest → AllByRecursion (λ (row : Key × Version). VersionIsTyped row.1) rows → AllByRecursion LostIsTyped (discarded_rows_from s number rows)
lost-are s number [] low all = tt
lost-are s number (row ∷ rows) low all = ((all.0, low), lost-are s (number + 1) rows low all.1)

anew : (judge : SubscriberJudge) (s : SubscriberTables) → SubscriberValues s → SubscriberValues (result_of_reinit judge s).0
anew judge s v =
    let rows : List ConflictRow = discarded_rows_from s (s.conflict_count + 1) (discarded_versions judge s) in record {
      rows = tt;
      conflicts = all-append LostIsTyped s.conflicts rows v.conflicts (lost-are s (s.conflict_count + 1) (discarded_versions judge s) v.latest (discards-are judge s v.rows));
      latest = v.latest;
    }

module _ (s : SubscriberTables) (v : SubscriberValues s) where
  pub values-sub-local : (publication : Publication) (now : Moment) (change : Change) → MomentFits now → ChangeIsTyped change → IfOk (subscriber_drawn s change) (λ d. IsValue d.0) → IfOk (subscriber_local publication now change s) (λ done. SubscriberValues done.0)
  values-sub-local publication now change low typed draw = sub-local-ok publication now change s SubscriberValues (λ fine d is. sub-change publication now change s d low typed (ok-of (λ (d : Value × List (ℕ × Holder)). IsValue d.0) (subscriber_drawn s change) d draw is) fine v)

  pub values-sub-closed : (now : Moment) → MomentFits now → IfOk (close_subscriber_generation now s) (λ done. SubscriberValues done.0)
  values-sub-closed now low = (let w = moved now s low v in
      unless-ok (λ (done : SubscriberTables × ℕ). SubscriberValues done.0) (counter_end (subscriber_counters s)) (subscriber_closed (subscriber_at_moment now s), subscriber_last_closed (subscriber_closed (subscriber_at_moment now s))) (λ fine. record { rows = w.rows; conflicts = w.conflicts; latest = w.latest }))

  pub values-join : IfOk (make_join s) (λ made. IfSome made (λ x. SubscriberValues x.0 × Unit {0}))
  values-join = unless-ok (Sent (λ (m : Join). Unit {0})) (counter_end (subscriber_counters s)) (join_made s) (λ fine. joined-by s s.is_joined v)

  pub values-upload : (judge : SubscriberJudge) (now : Moment) → MomentFits now → IfOk (make_upload judge now s) (λ made. IfSome made (λ x. SubscriberValues x.0 × UploadIsTyped x.1))
  values-upload judge now low = unless-ok (Sent UploadIsTyped) (sending_refusal s) (upload_made judge now s) (λ fine. uploaded-by judge now s (unsent_rows judge s) low v)

  pub values-ranges : IfOk (make_ranges s) (λ made. IfSome made (λ x. SubscriberValues x.0 × Unit {0}))
  values-ranges = unless-ok (Sent (λ (m : RangeAsk). Unit {0})) (sending_refusal s) (ranges_made s) (λ fine. ranged-by s s.held v)

  pub values-ask : IfOk (make_ask s) (λ done. SubscriberValues done.0 × Unit {0})
  values-ask = unless-ok (λ (done : SubscriberTables × Download). SubscriberValues done.0 × Unit {0}) (sending_refusal s) (with_message (ask.Download s.watermark) s, record { site = s.site; seq = s.seq + 1; from = s.watermark })
      (λ fine. (record { rows = v.rows; conflicts = v.conflicts; latest = v.latest }, tt))

  pub values-reply : (publication : Publication) (judge : SubscriberJudge) (now : Moment) (m : Reply) → MomentFits now → ReplyOrders m → IfOk (take_reply publication judge now m s) (λ done. SubscriberValues done.0)
  values-reply publication judge now m low is = (let w = moved now s low v in
      reply-ok publication judge now s SubscriberValues v m (λ sent fits. after judge m (record (subscriber_at_moment now s) { outstanding = None }) is (record { rows = w.rows; conflicts = w.conflicts; latest = w.latest })))

  pub values-anew : (judge : SubscriberJudge) (now : Moment) → MomentFits now → IfOk (reinitialise judge now s) (λ done. SubscriberValues done.0)
  values-anew judge now low = unless-ok (λ (done : SubscriberTables × ℕ). SubscriberValues done.0) (counter_end (subscriber_counters s)) (result_of_reinit judge (subscriber_at_moment now s)) (λ fine. anew judge (subscriber_at_moment now s) (moved now s low v))
