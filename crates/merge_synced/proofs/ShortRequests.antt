-- What a site makes whose tables are short is within the limits of the product.
use Rattle.std.specs.List.{AllByRecursion, cons_option, last_or}
use Rattle.std.specs.Prelude.{All, Bool, List, None, Ok, Option, Some, [], cond, false, filter, filter_map, length, map, nat_le, nat_lt, option_map, refl, true, ℕ, ◌&&◌, ◌+◌, ◌≡◌, ◌≤◌, ◌∷◌}
use Rattle.std.proofs.Common.{ap, arith, subst, sym, ◌∙◌}
use Rattle.std.proofs.lemmas.Bool.Decides.{nat_tests}
use Rattle.std.proofs.lemmas.List.Elements.{All-cons, All-nil}
use Rattle.std.proofs.lemmas.List.{length-map}
use Rattle.merge_types.specs.Limits.{item_limit}
use Rattle.merge_types.specs.declared.identifiers.Moment.{Moment}
use Rattle.merge_types.specs.declared.row_key.RowKey.{RowKey as Key}
use Rattle.merge_units.specs.declared.site_row.SubscriberRow.{SubscriberRow}
use Rattle.merge_units.specs.declared.version.Version.{Version}
use Rattle.merge_batch.specs.declared.request.RangeAsk.{RangeAsk}
use Rattle.merge_batch.specs.declared.request.Request.{Request}
use Rattle.merge_batch.specs.declared.request.Request.TheVariants as request
use Rattle.merge_batch.specs.declared.request.Upload.{Upload}
use Rattle.merge_batch.specs.declared.request.UploadItem.{UploadItem}
use Rattle.merge_json.specs.Limits.{IsShortItem, IsShortRequest}
use Rattle.merge_model.specs.Judge.ByNumbers.{by_rows, changed_between_by_rows, changed_row_between}
use Rattle.merge_model.specs.Subscriber.Sending.{join_of, upload_end, upload_item, upload_sent, want_of}
use Rattle.merge_model.specs.Subscriber.{subscriber_at_moment, subscriber_closed, subscriber_last_closed}
use Rattle.merge_model.specs.Tables.Keys.{row_at}
use Rattle.merge_model.specs.Tables.{SubscriberTables}
use Rattle.merge_model.specs.World.Steps.{SendDownload, SendJoin, SendRanges, SendUpload, Sending}
use Rattle.merge_model.proofs.Lists.{OfSome, all-filter_map, all-unit}
use Rattle.merge_world.specs.Messages.{request_of_sending}
use Rattle.merge_honest.proofs.Batches.{batch-holds}
use Rattle.merge_honest.proofs.SentUploads.{items-short}
use Rattle.merge_synced.proofs.Made.{download-made, join-made, ranges-made, upload-made}
use Rattle.merge_synced.proofs.Stands.{AreShort, IsShort}

all-indexed : {X : Type 0} (P : X → Type 0) (xs : List X) → AllByRecursion P xs → All P xs
all-indexed P [] all = All-nil P
all-indexed P (x ∷ xs) all = All-cons P x xs all.0 (all-indexed P xs all.1)

-- Between a generation and itself no row was changed.

kept-none : (b : Bool) (generation : ℕ) (kept : List ℕ) → b ≡ false → kept ≡ [] → (let all : List ℕ = cond b (generation ∷ kept) kept in all) ≡ []
kept-none true generation kept is none = absurd cc
kept-none false generation kept is none = none

none-between : (from : ℕ) (generations : List ℕ) → filter (λ (generation : ℕ). nat_lt from generation && nat_le generation from) generations ≡ []
none-between from [] = refl
none-between from (generation ∷ generations) =
    kept-none (nat_lt from generation && nat_le generation from) generation (filter (λ (other : ℕ). nat_lt from other && nat_le other from) generations) (grind (arith, nat_tests)) (none-between from generations)

abbrev last_entry : Key → List ℕ → Option (Key × ℕ)
last_entry key generations = option_map (λ (generation : ℕ). (key, generation)) (last_or None generations)

none-changed : (from : ℕ) (rows : List (Key × SubscriberRow)) → filter_map (changed_row_between from from) rows ≡ []
none-changed from [] = refl
none-changed from (row ∷ rows) =
    ap (λ (generations : List ℕ). cons_option (last_entry row.0 generations) (filter_map (changed_row_between from from) rows)) (none-between from row.1.generations) ∙ none-changed from rows

-- so an upload has few items
few-changed : (s c : SubscriberTables) → length (changed_between_by_rows s c.received (upload_end (by_rows s) c)) ≤ item_limit
few-changed s c =
    let items : ℕ → ℕ = λ (k : ℕ). length (changed_between_by_rows s c.received k) in
    batch-holds (λ (k : ℕ). items k ≤ item_limit) items c.received (subscriber_last_closed c)
    (subst (λ (entries : List (Key × ℕ)). length entries ≤ item_limit) (sym (none-changed c.received s.rows)) (omega arith)) (λ k low up last is. grind (arith, nat_tests, is))

-- Each has the version of a row.

found-by : (P : SubscriberRow → Type 0) (b : Bool) (row : SubscriberRow) (rest : Option SubscriberRow) → P row → OfSome P rest → OfSome P (let found : Option SubscriberRow = cond b (Some row) rest in found)
found-by P true row rest here more = here
found-by P false row rest here more = more

found-short : (rows : List (Key × SubscriberRow)) (key : Key) → AllByRecursion (λ (row : Key × SubscriberRow). IsShort row.1.version) rows → OfSome (λ (row : SubscriberRow). IsShort row.version) (row_at rows key)
found-short [] key all = tt
found-short (row ∷ rows) key all = found-by (λ (r : SubscriberRow). IsShort r.version) _ row.1 (row_at rows key) all.0 (found-short rows key all.1)

item-short : (entry : Key × ℕ) (found : Option SubscriberRow) → OfSome (λ (row : SubscriberRow). IsShort row.version) found
    → OfSome IsShortItem (option_map (λ (version : Version). (let item : UploadItem = record { article = entry.0.article; row = entry.0.row; generation = entry.1; version = version } in item)) (option_map (λ (row : SubscriberRow). row.version) found))
item-short entry None short = tt
item-short entry (Some row) short = short

items-are-short : (s : SubscriberTables) (entries : List (Key × ℕ)) → AreShort s → AllByRecursion IsShortItem (filter_map (upload_item s) entries)
items-are-short s entries short =
    all-filter_map (λ (entry : Key × ℕ). Unit {0}) IsShortItem (upload_item s) (λ entry unit. item-short entry (row_at s.rows entry.0) (found-short s.rows entry.0 short.rows)) entries (all-unit entries)

upload-short : (s c : SubscriberTables) → AreShort c → IsShortRequest (request.Upload (upload_sent (by_rows s) c).1)
upload-short s c short =
    let entries : List (Key × ℕ) = changed_between_by_rows s c.received (upload_end (by_rows s) c) in
    let few = few-changed s c in
    let items = items-short c entries in
    let most : length (filter_map (upload_item c) entries) ≤ item_limit = omega (arith, few, items) in
    (most, all-indexed IsShortItem (filter_map (upload_item c) entries) (items-are-short c entries short))

-- A generation that closes leaves rows and ranges.
closed-short : (now : Moment) (s : SubscriberTables) → AreShort s → AreShort (subscriber_closed (subscriber_at_moment now s))
closed-short now s short = record { rows = short.rows; ranges = short.ranges }

as-made : (q r : Request) → q ≡ r → IsShortRequest q → IsShortRequest r
as-made q r same short = subst (λ (x : Request). IsShortRequest x) same short

pub made-short : (sending : Sending) (now : Moment) (s sent : SubscriberTables) (q : Request) → AreShort s → request_of_sending sending now s ≡ Ok (Some (sent, q)) → IsShortRequest q
made-short SendJoin now s sent q short e = (let m = join-made now s sent q e in as-made (request.Join (join_of s)) q m.asks tt)
made-short SendUpload now s sent q short e =
    let m = upload-made now s sent q e in
    let c : SubscriberTables = subscriber_closed (subscriber_at_moment now s) in
    as-made (request.Upload (upload_sent (by_rows s) c).1) q (ap (λ (both : SubscriberTables × Upload). request.Upload both.1) m.made ∙ m.asks) (upload-short s c (closed-short now s short))
made-short SendRanges now s sent q short e =
    let m = ranges-made now s sent q e in
    let a : RangeAsk = record { site = s.site; seq = s.seq + 1; wants = map want_of s.held } in
    let same = length-map s.held want_of in
    let held = short.ranges in
    let few : length (map want_of s.held) ≤ 32 = omega (arith, same, held) in
    as-made (request.Ranges a) q m.asks few
made-short SendDownload now s sent q short e = (let m = download-made now s sent q e in as-made (request.Download (record { site = s.site; seq = s.seq + 1; from = s.watermark })) q m.asks tt)
