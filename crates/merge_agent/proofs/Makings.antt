-- Messages that were made: they can be written, and each takes a number.
use Rattle.std.proofs.Common.{◌≡◌, ℕ, ◌+◌, ◌<◌, ◌≤◌, List, [], ◌∷◌, refl, sym, subst, arith}
use Rattle.std.specs.Prelude.{All, Bool, true, false, IfSome, Option, None, Some, Result, Ok, Err, filter_map, map, max, nat_le, option_map, if◌then◌else◌}
use Rattle.std.proofs.lemmas.Bool.{leb-false}
use Rattle.std.proofs.Math.Nat.{le-max_left, le-max_right}
use Rattle.std.proofs.lemmas.List.Elements.{All-cons, All-nil}
use Rattle.std.proofs.lemmas.Map.Entries.{All-lookup}
use Rattle.std.specs.List.{cons_option}
use Rattle.std.specs.BTreeMap.{is_at}
use Rattle.merge_types.specs.Limits.{counter_limit}
use Rattle.merge_types.specs.RowKeys.{key_cmp}
use Rattle.merge_types.specs.declared.identifiers.Moment.{Moment}
use Rattle.merge_types.specs.declared.row_key.RowKey.{RowKey as Key}
use Rattle.merge_units.specs.declared.site_row.SubscriberRow.{SubscriberRow}
use Rattle.merge_units.specs.declared.version.Body.{Body}
use Rattle.merge_units.specs.declared.version.Body.TheVariants.{Live, Dead}
use Rattle.merge_units.specs.declared.version.Version.{Version}
use Rattle.merge_batch.specs.declared.refusal.Refusal.{Refusal}
use Rattle.merge_batch.specs.declared.refusal.Refusal.TheVariants.{CounterEnd}
use Rattle.merge_batch.specs.declared.request.Download.{Download}
use Rattle.merge_batch.specs.declared.request.Join.{Join}
use Rattle.merge_batch.specs.declared.request.Outstanding.TheVariants as outstanding
use Rattle.merge_batch.specs.declared.request.RangeAsk.{RangeAsk}
use Rattle.merge_batch.specs.declared.request.Request.{Request}
use Rattle.merge_batch.specs.declared.request.Request.TheVariants as request
use Rattle.merge_batch.specs.declared.request.Upload.{Upload}
use Rattle.merge_batch.specs.declared.request.UploadItem.{UploadItem}
use Rattle.merge_json.specs.Sendable.{IsProperItem, IsSendableRequest}
use Rattle.merge_json.specs.Sendable.{IsProperBody as IsWritableBody}
use Rattle.merge_model.specs.Judge.ByNumbers.{by_rows}
use Rattle.merge_model.specs.Judge.{SubscriberJudge}
use Rattle.merge_model.specs.Tables.Keys.{row_at}
use Rattle.merge_model.specs.Script.Proper.{IsProperBody}
use Rattle.merge_model.specs.Tables.Refusals.{counter_end, refused_if, unless}
use Rattle.merge_model.specs.Subscriber.Sending.{join_made, join_of, make_ask, make_join, make_ranges, make_upload, ranges_made, sending_refusal, unsent_rows, upload_end, upload_item, upload_made, upload_sent, want_of, with_message}
use Rattle.merge_model.specs.World.Steps.{SendDownload, SendJoin, SendRanges, SendUpload, Sending}
use Rattle.merge_model.specs.Subscriber.{is_joining, subscriber_at_moment, subscriber_closed, subscriber_counters, subscriber_last_closed}
use Rattle.merge_model.specs.Tables.{SubscriberTables}
use Rattle.merge_model.proofs.Runs.Refusals.{first-none}
use Rattle.merge_world.specs.Messages.{as_request, request_of_sending, some_if_made}
use Rattle.merge_world.specs.Printable.{ArePrintable}

-- What holds of the tables and the message that were made.

abbrev pub Of : {T A : Type 0} → (T → A → Type 0) → Result (Option (T × A)) Refusal → Type 0
Of P (Ok (Some made)) = P made.0 made.1
Of P (Ok None) = Unit {0}
Of P (Err why) = Unit {0}

pub of-made : {T A : Type 0} (P : T → A → Type 0) (by : Result (Option (T × A)) Refusal) (t : T) (m : A) → Of P by → by ≡ Ok (Some (t, m)) → P t m
of-made {T} {A} P by t m holds e = subst (λ (r : Result (Option (T × A)) Refusal). Of P r) e holds

as-request : {T A : Type 0} (P : T → Request → Type 0) (message : A → Request) (made : Result (Option (T × A)) Refusal) → Of (λ t m. P t (message m)) made → Of P (as_request message made)
as-request P message (Ok (Some made)) holds = holds
as-request P message (Ok None) holds = tt
as-request P message (Err why) holds = tt

unless-of : {T A : Type 0} (P : T → A → Type 0) (refusal : Option Refusal) (made : Option (T × A)) → (refusal ≡ None → Of P (Ok made)) → Of P (unless refusal made)
unless-of P (Some why) made holds = tt
unless-of P None made holds = holds refl

-- one that is made where there are rows
if-any : {X T A : Type 0} (P : T → A → Type 0) (made : T × A) (rows : List X) → P made.0 made.1 → (let sent : Option (T × A) = elim rows [ [] ↦ None | row ∷ rest ↦ Some made ] in Of P (Ok sent))
if-any P made [] holds = tt
if-any P made (row ∷ rest) holds = holds

-- Items of what can be printed can be written.

writable-body : (body : Body) → IsProperBody body → IsWritableBody body
writable-body (Live cells) proper = proper
writable-body (Dead top) proper = tt

writable-version : (found : Option SubscriberRow) (f : Version → UploadItem) → ((version : Version) → (f version).version ≡ version) → IfSome found (λ row. IsProperBody row.version.body)
    → IfSome (option_map f (option_map (λ (row : SubscriberRow). row.version) found)) IsProperItem
writable-version None f keeps proper = tt
writable-version (Some row) f keeps proper = subst (λ (v : Version). IsWritableBody v.body) (sym (keeps row.version)) (writable-body row.version.body proper)

writable-item : (s : SubscriberTables) (entry : Key × ℕ) → ArePrintable (λ (row : SubscriberRow). row.version) s.rows → IfSome (upload_item s entry) IsProperItem
writable-item s entry printable =
    writable-version (row_at s.rows entry.0) (λ (version : Version). record { article = entry.0.article; row = entry.0.row; generation = entry.1; version = version }) (λ version. refl)
    (All-lookup (λ (row : SubscriberRow). IsProperBody row.version.body) (is_at (key_cmp entry.0)) s.rows printable)

one-more : {X : Type 0} (P : X → Type 0) (found : Option X) (xs : List X) → IfSome found P → All P xs → All P (cons_option found xs)
one-more P None xs one all = all
one-more P (Some x) xs one all = All-cons P x xs one all

writable-items : (s : SubscriberTables) (entries : List (Key × ℕ)) → ArePrintable (λ (row : SubscriberRow). row.version) s.rows → All IsProperItem (filter_map (upload_item s) entries)
writable-items s [] printable = All-nil IsProperItem
writable-items s (entry ∷ entries) printable = one-more IsProperItem (upload_item s entry) (filter_map (upload_item s) entries) (writable-item s entry printable) (writable-items s entries printable)

upload-writable : (judge : SubscriberJudge) (now : Moment) (s : SubscriberTables) → ArePrintable (λ (row : SubscriberRow). row.version) s.rows
    → All IsProperItem (upload_sent judge (subscriber_closed (subscriber_at_moment now s))).1.items
upload-writable judge now s printable =
    let c : SubscriberTables = subscriber_closed (subscriber_at_moment now s) in
    writable-items c (judge.changed_between c.received (upload_end judge c)) printable

anything : {T A : Type 0} (by : Result (Option (T × A)) Refusal) → Of (λ (t : T) (m : A). Unit {0}) by
anything (Ok (Some made)) = tt
anything (Ok None) = tt
anything (Err why) = tt

requested-writable : (sending : Sending) (now : Moment) (s : SubscriberTables) → ArePrintable (λ (row : SubscriberRow). row.version) s.rows → Of (λ (t : SubscriberTables) (m : Request). IsSendableRequest m) (request_of_sending sending now s)
requested-writable SendJoin now s printable = as-request (λ (t : SubscriberTables) (m : Request). IsSendableRequest m) request.Join (make_join s) (anything (make_join s))
requested-writable SendUpload now s printable =
    as-request (λ (t : SubscriberTables) (m : Request). IsSendableRequest m) request.Upload (make_upload (by_rows s) now s)
    (unless-of (λ (t : SubscriberTables) (m : Upload). All IsProperItem m.items) (sending_refusal s) (upload_made (by_rows s) now s) (λ e.
    if-any (λ (t : SubscriberTables) (m : Upload). All IsProperItem m.items) (upload_sent (by_rows s) (subscriber_closed (subscriber_at_moment now s))) (unsent_rows (by_rows s) s) (upload-writable (by_rows s) now s printable)))
requested-writable SendRanges now s printable = as-request (λ (t : SubscriberTables) (m : Request). IsSendableRequest m) request.Ranges (make_ranges s) (anything (make_ranges s))
requested-writable SendDownload now s printable = as-request (λ (t : SubscriberTables) (m : Request). IsSendableRequest m) request.Download (some_if_made (make_ask s)) (anything (some_if_made (make_ask s)))

pub writable : (sending : Sending) (now : Moment) (s t : SubscriberTables) (m : Request) → ArePrintable (λ (row : SubscriberRow). row.version) s.rows → request_of_sending sending now s ≡ Ok (Some (t, m)) → IsSendableRequest m
writable sending now s t m printable e = of-made (λ (t : SubscriberTables) (m : Request). IsSendableRequest m) (request_of_sending sending now s) t m (requested-writable sending now s printable) e

-- Each takes a number, which no site has that stands at the limit.

abbrev Numbered : SubscriberTables → SubscriberTables → Type 0
Numbered s t = (s.seq < counter_limit) × (t.seq ≡ s.seq + 1)

not-ended : (b : Bool) (why : Refusal) → refused_if b why ≡ None → b ≡ false
not-ended false why e = refl
not-ended true why e = absurd (grind (arith, e))

below-limit : (s : SubscriberTables) → counter_end (subscriber_counters s) ≡ None → s.seq < counter_limit
below-limit s e =
    let greatest : ℕ = max (max (max (max 0 s.changes) (subscriber_last_closed s)) s.seq) s.conflict_count in
    let below : greatest < counter_limit = leb-false counter_limit greatest (not-ended (nat_le counter_limit greatest) (CounterEnd greatest) e) in
    let counted : s.seq ≤ max (max (max 0 s.changes) (subscriber_last_closed s)) s.seq = le-max_right (max (max 0 s.changes) (subscriber_last_closed s)) s.seq in
    let all : max (max (max 0 s.changes) (subscriber_last_closed s)) s.seq ≤ greatest = le-max_left (max (max (max 0 s.changes) (subscriber_last_closed s)) s.seq) s.conflict_count in
    omega (arith, below, counted, all)

counted : (s : SubscriberTables) → sending_refusal s ≡ None → s.seq < counter_limit
counted s e = below-limit s (first-none (counter_end (subscriber_counters s)) [] (first-none (is_joining s) (counter_end (subscriber_counters s) ∷ []) e).1).0

join-numbered : (s : SubscriberTables) (b : Bool) → s.seq < counter_limit → (let made : Option (SubscriberTables × Join) = if b then None else Some (with_message outstanding.Join s, join_of s) in Of (λ (t : SubscriberTables) (m : Join). Numbered s t) (Ok made))
join-numbered s true below = tt
join-numbered s false below = (below, refl)

abbrev ranges_sent : SubscriberTables → SubscriberTables × RangeAsk
ranges_sent s = (with_message outstanding.Ranges s, record { site = s.site; seq = s.seq + 1; wants = map want_of s.held })

ask-numbered : (s : SubscriberTables) (refusal : Option Refusal) (t : SubscriberTables) (m : Download) → (refusal ≡ None → Numbered s t) → Of (λ (u : SubscriberTables) (m : Download). Numbered s u) (some_if_made (unless refusal (t, m)))
ask-numbered s (Some why) t m holds = tt
ask-numbered s None t m holds = holds refl

requested-numbered : (sending : Sending) (now : Moment) (s : SubscriberTables) → Of (λ (t : SubscriberTables) (m : Request). Numbered s t) (request_of_sending sending now s)
requested-numbered SendJoin now s =
    as-request (λ (t : SubscriberTables) (m : Request). Numbered s t) request.Join (make_join s)
    (unless-of (λ (t : SubscriberTables) (m : Join). Numbered s t) (counter_end (subscriber_counters s)) (join_made s) (λ e. join-numbered s s.is_joined (below-limit s e)))
requested-numbered SendUpload now s =
    as-request (λ (t : SubscriberTables) (m : Request). Numbered s t) request.Upload (make_upload (by_rows s) now s)
    (unless-of (λ (t : SubscriberTables) (m : Upload). Numbered s t) (sending_refusal s) (upload_made (by_rows s) now s) (λ e.
    if-any (λ (t : SubscriberTables) (m : Upload). Numbered s t) (upload_sent (by_rows s) (subscriber_closed (subscriber_at_moment now s))) (unsent_rows (by_rows s) s) (counted s e, refl)))
requested-numbered SendRanges now s =
    as-request (λ (t : SubscriberTables) (m : Request). Numbered s t) request.Ranges (make_ranges s)
    (unless-of (λ (t : SubscriberTables) (m : RangeAsk). Numbered s t) (sending_refusal s) (ranges_made s) (λ e. if-any (λ (t : SubscriberTables) (m : RangeAsk). Numbered s t) (ranges_sent s) s.held (counted s e, refl)))
requested-numbered SendDownload now s =
    as-request (λ (t : SubscriberTables) (m : Request). Numbered s t) request.Download (some_if_made (make_ask s))
    (ask-numbered s (sending_refusal s) (with_message (outstanding.Download s.watermark) s) (record { site = s.site; seq = s.seq + 1; from = s.watermark }) (λ e. (counted s e, refl)))

pub numbered : (sending : Sending) (now : Moment) (s t : SubscriberTables) (m : Request) → request_of_sending sending now s ≡ Ok (Some (t, m)) → (s.seq < counter_limit) × (t.seq ≡ s.seq + 1)
numbered sending now s t m e = of-made (λ (t : SubscriberTables) (m : Request). Numbered s t) (request_of_sending sending now s) t m (requested-numbered sending now s) e
