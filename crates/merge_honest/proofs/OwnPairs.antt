-- Every step keeps that what a site sends of its rows has its own number.
use Rattle.std.specs.BTreeMap.{is_at}
use Rattle.std.specs.List.{AllByRecursion, fold}
use Rattle.std.specs.Map.{remove_entry}
use Rattle.std.specs.Prelude.{Bool, List, None, Option, Some, [], cond, false, filter, filter_map, if◌then◌else◌, is_some, map, nat_lt, option_map, refl, true, ℕ, ◌++◌, ◌+◌, ◌≡◌, ◌∷◌}
use Rattle.std.proofs.Common.{ap, arith, subst, sym, ◌∙◌}
use Rattle.std.proofs.lemmas.Bool.Decides.{nat_tests}
use Rattle.merge_types.specs.RowKeys.{key_cmp}
use Rattle.merge_types.specs.declared.changes.Change.{Change}
use Rattle.merge_types.specs.declared.changes.Change.TheVariants.{Delete, Insert, Update}
use Rattle.merge_types.specs.declared.identifiers.Dot.{Dot}
use Rattle.merge_types.specs.declared.identifiers.Moment.{Moment}
use Rattle.merge_types.specs.declared.identifiers.SiteId.{SiteId}
use Rattle.merge_types.specs.declared.row_key.RowKey.{RowKey as Key}
use Rattle.merge_types.specs.declared.values.Value.{Value}
use Rattle.merge_lineage.specs.Lineage.{with_dot}
use Rattle.merge_units.specs.declared.site_row.SubscriberRow.{SubscriberRow}
use Rattle.merge_units.specs.declared.version.Version.{Version}
use Rattle.merge_schema.specs.Valid.{IsValid}
use Rattle.merge_schema.specs.declared.publication.Publication.{Publication}
use Rattle.merge_units.specs.Changes.{changed, removed}
use Rattle.merge_batch.specs.Lineages.{has_pair_of}
use Rattle.merge_batch.specs.LocalChanges.{tracking_at}
use Rattle.merge_batch.specs.declared.reply.Act.{Act as Order}
use Rattle.merge_batch.specs.declared.reply.Act.TheVariants as order
use Rattle.merge_batch.specs.declared.reply.DownloadItem.{DownloadItem}
use Rattle.merge_batch.specs.declared.reply.Reply.{Reply}
use Rattle.merge_batch.specs.declared.reply.Reply.TheVariants as reply
use Rattle.merge_batch.specs.declared.request.Outstanding.TheVariants as ask
use Rattle.merge_batch.specs.declared.request.Request.TheVariants as request
use Rattle.merge_batch.specs.declared.request.Upload.{Upload}
use Rattle.merge_batch.specs.declared.request.UploadItem.{UploadItem}
use Rattle.merge_model.specs.Judge.ByHistory.{by_made, changed_between_by_made}
use Rattle.merge_model.specs.Judge.ByNumbers.{changed_between_by_rows, last_between}
use Rattle.merge_model.specs.Tables.Changes.{key_of, version_after}
use Rattle.merge_model.specs.Failing.{Slips}
use Rattle.merge_model.specs.History.{History}
use Rattle.merge_model.specs.Judge.{SubscriberJudge}
use Rattle.merge_model.specs.Tables.Keys.{drop_row, put_number, put_row, row_at}
use Rattle.merge_model.specs.Laws.{SubscriberIsSorted}
use Rattle.merge_model.specs.Subscriber.Reinit.{result_of_reinit}
use Rattle.merge_model.specs.Failing.Runs.{model_behind}
use Rattle.merge_model.specs.Subscriber.Sending.{upload_end, upload_item, upload_sent, with_message}
use Rattle.merge_model.specs.Subscriber.{generations_at, subscriber_at_moment, subscriber_closed, subscriber_last_closed, subscriber_made_locally, subscriber_next_dot, subscriber_version_at, with_open, with_version_if}
use Rattle.merge_model.specs.Tables.{SubscriberTables}
use Rattle.merge_model.specs.Subscriber.Taking.{key_of_download, row_above, tables_after_reply, with_item, with_order}
use Rattle.merge_model.specs.World.{Saying, World, empty_world, subscriber_at}
use Rattle.merge_model.specs.declared.event.Event.{Event}
use Rattle.merge_model.specs.declared.letter.Letter.{Letter}
use Rattle.merge_model.specs.declared.letter.Message.{Message}
use Rattle.merge_model.specs.declared.letter.Message.TheVariants.{Asks, Replies}
use Rattle.merge_model.proofs.Entries.EntryLists.{all-put}
use Rattle.merge_model.proofs.Lists.Finding.{all-more, found-named}
use Rattle.merge_model.proofs.Lists.{OfSome, all-filter_map, all-map}
use Rattle.merge_laws.proofs.Unsent.Changed.{gens_of, rows-changed}
use Rattle.merge_laws.proofs.Runs.Ground.{Ground, grounded-always}
use Rattle.merge_laws.proofs.Received.Models.{begins-with}
use Rattle.merge_laws.proofs.Unsent.UnsentKept.{all-found, decides-alike, reply-site, version-site}
use Rattle.merge_laws.proofs.Walking.{StepsKeep, step-keeps}
use Rattle.merge_honest.specs.OwnPairs.{HasOwn, MessageHasOwn, OwnPairs, RowHasOwn}
use Rattle.merge_honest.proofs.PutFound.{put-each}

-- A change leaves its own pair.

dot-pair : (dot : Dot) (lineage : List Dot) → has_pair_of dot.site.0 (with_dot dot lineage) ≡ true
dot-pair dot [] = grind (arith, nat_tests)
dot-pair dot (first ∷ rest) = let later = dot-pair dot rest in grind (arith, nat_tests, later)

abbrev HeldPair : ℕ → Option Version → Type 0
HeldPair n found = OfSome (λ (version : Version). has_pair_of n version.lineage ≡ true) found

held-pair : (dot : Dot) (held : Option Version) (after : Version → Version) → ((version : Version) → has_pair_of dot.site.0 (after version).lineage ≡ true) → HeldPair dot.site.0 (option_map after held)
held-pair dot None after each = tt
held-pair dot (Some version) after each = each version

after-pair : (publication : Publication) (dot : Dot) (identity : Value) (change : Change) (held : Option Version) → HeldPair dot.site.0 (version_after publication dot identity change held)
after-pair publication dot identity (Insert article values) held = dot-pair dot []
after-pair publication dot identity (Update article row values) held = held-pair dot held (λ (version : Version). changed version dot values (tracking_at publication article)) (λ version. dot-pair dot version.lineage)
after-pair publication dot identity (Delete article row) held = held-pair dot held (λ (version : Version). removed version dot) (λ version. dot-pair dot version.lineage)

-- Rows.

own-any : (n : ℕ) (generations : List ℕ) (lineage : List Dot) → has_pair_of n lineage ≡ true → HasOwn n generations lineage
own-any n [] lineage is = tt
own-any n (generation ∷ generations) lineage is = is

own-less : (n : ℕ) (keep : ℕ → Bool) (generations : List ℕ) (lineage : List Dot) → HasOwn n generations lineage → HasOwn n (filter keep generations) lineage
own-less n keep [] lineage has = tt
own-less n keep (generation ∷ generations) lineage has = own-any n (filter keep (generation ∷ generations)) lineage has

abbrev AllOwn : ℕ → List (Key × SubscriberRow) → Type 0
AllOwn n rows = AllByRecursion (RowHasOwn n) rows

put-own : (n : ℕ) (rows : List (Key × SubscriberRow)) (key : Key) (row : SubscriberRow) → HasOwn n row.generations row.version.lineage → AllOwn n rows → AllOwn n (put_row rows key row)
put-own n rows key row new all = all-put (RowHasOwn n) key_cmp key row (λ q tied. new) new rows all

remove-by : (n : ℕ) (b : Bool) (row : Key × SubscriberRow) (rows rest : List (Key × SubscriberRow)) → RowHasOwn n row → AllOwn n rows → AllOwn n rest → AllOwn n (let all : List (Key × SubscriberRow) = cond b rows (row ∷ rest) in all)
remove-by n true row rows rest here all more = all
remove-by n false row rows rest here all more = (here, more)

remove-own : (n : ℕ) (test : Key → Bool) (rows : List (Key × SubscriberRow)) → AllOwn n rows → AllOwn n (remove_entry test rows)
remove-own n test [] all = tt
remove-own n test (row ∷ rows) all = remove-by n (test row.0) row rows (remove_entry test rows) all.0 all.1 (remove-own n test rows all.1)

drop-own : (n : ℕ) (rows : List (Key × SubscriberRow)) (key : Key) → AllOwn n rows → AllOwn n (drop_row rows key)
drop-own n rows key all = remove-own n (is_at (key_cmp key)) rows all

above-own : (n received : ℕ) (rows : List (Key × SubscriberRow)) → AllOwn n rows → AllOwn n (map (row_above received) rows)
above-own n received rows all = all-map (RowHasOwn n) (RowHasOwn n) (row_above received) (λ row has. own-less n (λ (generation : ℕ). nat_lt received generation) row.1.generations row.1.version.lineage has) rows all

order-own : (n : ℕ) (key : Key) (o : Order) (rows : List (Key × SubscriberRow)) → AllOwn n rows → AllOwn n (with_order key o rows)
order-own n key (order.Put lineage live) rows all = put-own n rows key _ tt all
order-own n key order.RemoveDeleted rows all = drop-own n rows key all
order-own n key order.RemoveLeft rows all = drop-own n rows key all

item-by : (n : ℕ) (b : Bool) (rows after : List (Key × SubscriberRow)) → AllOwn n rows → AllOwn n after → AllOwn n (if b then rows else after)
item-by n true rows after all more = all
item-by n false rows after all more = more

items-own : (n : ℕ) (judge : SubscriberJudge) (received : ℕ) (items : List DownloadItem) (rows : List (Key × SubscriberRow)) → AllOwn n rows → AllOwn n (fold (with_item judge received) rows items)
items-own n judge received [] rows all = all
items-own n judge received (item ∷ items) rows all = items-own n judge received items (with_item judge received rows item)
    (item-by n (judge.is_unsent received (key_of_download item)) rows (with_order (key_of_download item) item.act rows) all (order-own n (key_of_download item) item.act rows all))

taken-own : (n : ℕ) (judge : SubscriberJudge) (now : Moment) (m : Reply) (s : SubscriberTables) → AllOwn n s.rows → AllOwn n (tables_after_reply judge now m s).rows
taken-own n judge now (reply.Joined m) s all = all
taken-own n judge now (reply.Uploaded m) s all = above-own n m.received s.rows all
taken-own n judge now (reply.Ranged m) s all = all
taken-own n judge now (reply.Downloaded m) s all = items-own n judge m.received m.items (map (row_above m.received) s.rows) (above-own n m.received s.rows all)
taken-own n judge now (reply.Refused number values) s all = all

version-own : (n : ℕ) (key : Key) (found : Option Version) (u : SubscriberTables) → HeldPair n found → AllOwn n u.rows → AllOwn n (with_version_if key found u).rows
version-own n key None u new all = all
version-own n key (Some version) u new all = put-own n u.rows key (record { version = version; generations = with_open (subscriber_last_closed u + 1) (generations_at u key) }) (own-any n (with_open (subscriber_last_closed u + 1) (generations_at u key)) version.lineage new) all

-- An upload.

-- each entry is found by its key
found-by : (b : Bool) (generation : ℕ) (rest : Option ℕ) → is_some rest ≡ true → is_some (let found : Option ℕ = cond b (Some generation) rest in found) ≡ true
found-by true generation rest is = refl
found-by false generation rest is = is

found-behind : (entry : Key × ℕ) (entries : List (Key × ℕ)) (others : List (Key × ℕ)) → AllByRecursion (λ (e : Key × ℕ). is_some (row_at entries e.0) ≡ true) others → AllByRecursion (λ (e : Key × ℕ). is_some (row_at (entry ∷ entries) e.0) ≡ true) others
found-behind entry entries [] all = tt
found-behind entry entries (other ∷ others) all = (found-by (is_at (key_cmp other.0) entry.0) entry.1 (row_at entries other.0) all.0, found-behind entry entries others all.1)

found-first : (key : Key) (generation : ℕ) (rest : Option ℕ) → is_some (let found : Option ℕ = cond (is_at (key_cmp key) key) (Some generation) rest in found) ≡ true
found-first key generation rest = ap (λ (b : Bool). is_some (let found : Option ℕ = cond b (Some generation) rest in found)) (let itself : is_at (key_cmp key) key ≡ true = grind (arith, nat_tests) in itself)

keys-found : (entries : List (Key × ℕ)) → AllByRecursion (λ (e : Key × ℕ). is_some (row_at entries e.0) ≡ true) entries
keys-found [] = tt
keys-found (entry ∷ entries) = (found-first entry.0 entry.1 (row_at entries entry.0), found-behind entry entries entries (keys-found entries))

-- a row with a generation between was changed by its site
between-own : (n from to : ℕ) (generations : List ℕ) (lineage : List Dot) → is_some (last_between from to generations) ≡ true → HasOwn n generations lineage → has_pair_of n lineage ≡ true
between-own n from to [] lineage is has = absurd cc
between-own n from to (generation ∷ generations) lineage is has = has

row-by : (n : ℕ) (b : Bool) (row : SubscriberRow) (rest : Option SubscriberRow) → HasOwn n row.generations row.version.lineage → OfSome (λ (r : SubscriberRow). HasOwn n r.generations r.version.lineage) rest
    → OfSome (λ (r : SubscriberRow). HasOwn n r.generations r.version.lineage) (let found : Option SubscriberRow = cond b (Some row) rest in found)
row-by n true row rest here more = here
row-by n false row rest here more = more

row-own : (n : ℕ) (rows : List (Key × SubscriberRow)) (key : Key) → AllOwn n rows → OfSome (λ (r : SubscriberRow). HasOwn n r.generations r.version.lineage) (row_at rows key)
row-own n [] key all = tt
row-own n (row ∷ rows) key all = row-by n (is_at (key_cmp key) row.0) row.1 (row_at rows key) all.0 (row-own n rows key all.1)

item-own : (n from to : ℕ) (entry : Key × ℕ) (found : Option SubscriberRow) → OfSome (λ (r : SubscriberRow). HasOwn n r.generations r.version.lineage) found
    → is_some (last_between from to (gens_of found)) ≡ true
    → OfSome (λ (item : UploadItem). has_pair_of n item.version.lineage ≡ true) (option_map (λ (version : Version). (let item : UploadItem = record { article = entry.0.article; row = entry.0.row; generation = entry.1; version = version } in item)) (option_map (λ (row : SubscriberRow). row.version) found))
item-own n from to entry None has is = tt
item-own n from to entry (Some row) has is = between-own n from to row.generations row.version.lineage is has

items-of : (n from to : ℕ) (s : SubscriberTables) → SubscriberIsSorted s → AllOwn n s.rows → AllByRecursion (λ (item : UploadItem). has_pair_of n item.version.lineage ≡ true) (filter_map (upload_item s) (changed_between_by_rows s from to))
items-of n from to s sorted all = all-filter_map (λ (entry : Key × ℕ). is_some (row_at (changed_between_by_rows s from to) entry.0) ≡ true) (λ (item : UploadItem). has_pair_of n item.version.lineage ≡ true) (upload_item s)
    (λ entry there. item-own n from to entry (row_at s.rows entry.0) (row-own n s.rows entry.0 all) (ap (λ (found : Option ℕ). is_some found) (sym (rows-changed from to entry.0 s.rows sorted.rows_ascend)) ∙ there))
    (changed_between_by_rows s from to) (keys-found (changed_between_by_rows s from to))

-- Worlds.

module _ (publication : Publication) (says : Saying) where
  abbrev OwnPairsIn : World → History → Type 0
  OwnPairsIn w h = OwnPairs w.subscribers w.pool

  subscriber-on : (w : World) (h : History) (s t : SubscriberTables) → t.site.0 ≡ s.site.0 → AllOwn s.site.0 t.rows → OwnPairsIn w h → OwnPairs (put_number w.subscribers t.site.0 t) w.pool
  subscriber-on w h s t site new i = record { rows = put-each (λ (n : ℕ) (x : SubscriberTables). AllOwn n x.rows) w.subscribers s t site new i.rows; letters = i.letters }

  letter-on : (subscribers : List (ℕ × SubscriberTables)) (pool : List Letter) (site : SiteId) (message : Message) → MessageHasOwn message → OwnPairs subscribers pool → OwnPairs subscribers (pool ++ record { site = site; message = message } ∷ [])
  letter-on subscribers pool site message new i = record { rows = i.rows; letters = all-more (λ (letter : Letter). MessageHasOwn letter.message) pool (record { site = site; message = message }) i.letters new }

  here-own : (w : World) (h : History) (s : SubscriberTables) → OwnPairsIn w h → subscriber_at w s.site ≡ Some s → AllOwn s.site.0 s.rows
  here-own w h s i at = i.rows s.site.0 s at

  -- what an upload has by what was made is what it has by rows
  upload-own : (w : World) (h : History) (s : SubscriberTables) → Ground publication w h → OwnPairsIn w h → subscriber_at w s.site ≡ Some s → MessageHasOwn (Asks (request.Upload (upload_sent (by_made h s.site) (subscriber_closed (subscriber_at_moment w.moment s))).1))
  upload-own w h s g i at =
      let c : SubscriberTables = subscriber_closed (subscriber_at_moment w.moment s) in
      let to : ℕ = upload_end (by_made h s.site) c in
      let named : s.site.0 ≡ 0 → ⊥ = found-named w.subscribers s.site.0 s g.none at in
      let alike = decides-alike (record { world = w; history = h }) (g.received, (g.numbered, g.rows)) g.unsent s named at in
      let same : changed_between_by_rows c s.received to ≡ changed_between_by_made h s.site s.received to = alike.changed_between s.received to (omega arith) in
      let sorted : SubscriberIsSorted s = all-found SubscriberIsSorted w.subscribers s.site.0 s g.rows at in
      subst (λ (entries : List (Key × ℕ)). AllByRecursion (λ (item : UploadItem). has_pair_of s.site.0 item.version.lineage ≡ true) (filter_map (upload_item c) entries)) same
      (items-of s.site.0 s.received to s sorted (here-own w h s i at))

  message-on : (w : World) (h : History) (s t : SubscriberTables) (message : Message) → OwnPairsIn w h → subscriber_at w s.site ≡ Some s → t.site.0 ≡ s.site.0 → t.rows ≡ s.rows → MessageHasOwn message
      → OwnPairs (put_number w.subscribers t.site.0 t) (w.pool ++ record { site = s.site; message = message } ∷ [])
  message-on w h s t message i at site rows new = letter-on (put_number w.subscribers t.site.0 t) w.pool s.site message new
      (subscriber-on w h s t site (subst (λ (all : List (Key × SubscriberRow)). AllOwn s.site.0 all) (sym rows) (here-own w h s i at)) i)

  own-pairs-keep : StepsKeep publication says (Ground publication) OwnPairsIn
  own-pairs-keep = record {
    moment = λ w h now g i. i;
    own_change = λ w h change d g i fine is. i;
    own_closing = λ w h g i. i;
    forgetting = λ w h g i. i;
    same = λ w h s g i at. subscriber-on w h s s refl (here-own w h s i at) i;
    subscriber_change = λ w h s change d g i at named fine is. (let t : SubscriberTables = (subscriber_made_locally publication change d (subscriber_at_moment w.moment s)).0 in
        let u : SubscriberTables = record (subscriber_at_moment w.moment s) { changes = s.changes + 1; held = d.1 } in
        let key : Key = key_of (subscriber_next_dot s) change in
        subscriber-on w h s t (version-site _ _ _) (version-own s.site.0 key (version_after publication (subscriber_next_dot s) d.0 change (subscriber_version_at s key)) u (after-pair publication (subscriber_next_dot s) d.0 change (subscriber_version_at s key)) (here-own w h s i at)) i);
    subscriber_closing = λ w h s g i at. subscriber-on w h s (subscriber_closed (subscriber_at_moment w.moment s)) refl (here-own w h s i at) i;
    anew = λ w h s g i at. subscriber-on w h s (result_of_reinit (by_made h s.site) (subscriber_at_moment w.moment s)).0 refl tt i;
    sends_join = λ w h s g i at joining. message-on w h s (with_message ask.Join s) (Asks (request.Join _)) i at refl refl tt;
    sends_upload = λ w h s g i at fine. message-on w h s (upload_sent (by_made h s.site) (subscriber_closed (subscriber_at_moment w.moment s))).0 (Asks (request.Upload _)) i at refl refl (upload-own w h s g i at);
    sends_ranges = λ w h s g i at fine. message-on w h s (with_message ask.Ranges s) (Asks (request.Ranges _)) i at refl refl tt;
    sends_ask = λ w h s g i at fine. message-on w h s (with_message (ask.Download s.watermark) s) (Asks (request.Download _)) i at refl refl tt;
    joins = λ w h number m g i at fine acts. letter-on w.subscribers w.pool m.site (Replies (reply.Joined _)) tt i;
    joins_again = λ w h number m g i at acts. letter-on w.subscribers w.pool m.site (Replies (reply.Joined _)) tt i;
    uploads = λ w h number m g i at fine news. letter-on w.subscribers w.pool m.site (Replies (reply.Uploaded _)) tt i;
    uploads_again = λ w h number m g i at none. letter-on w.subscribers w.pool m.site (Replies (reply.Uploaded _)) tt i;
    answers_ranges = λ w h site m g i. letter-on w.subscribers w.pool site (Replies (reply.Ranged _)) tt i;
    answers_ask = λ w h number site m g i at fine. letter-on w.subscribers w.pool site (Replies (reply.Downloaded _)) tt i;
    replies = λ w h s number m sent g i at there out none. subscriber-on w h s (tables_after_reply (by_made h s.site) w.moment m s) (reply-site (by_made h s.site) w.moment m s) (taken-own s.site.0 (by_made h s.site) w.moment m s (here-own w h s i at)) i;
  }

own-pairs-begin : (publication : Publication) (tallies : List ℕ) → (let w : World = empty_world publication tallies in OwnPairs w.subscribers w.pool)
own-pairs-begin publication tallies = record { rows = λ n s at. begins-with publication (λ (k : ℕ) (t : SubscriberTables). AllOwn k t.rows) (λ k site keyed. tt) n s at; letters = tt }

pub own-pairs-always : (publication : Publication) (says : Saying) (tallies : List ℕ) (slips : Slips) (events : List Event) → (resolvers : ℕ) × IsValid resolvers publication
    → (let w : World = (model_behind publication says tallies slips events).world in OwnPairs w.subscribers w.pool)
own-pairs-always publication says tallies slips events valid =
    (grounded-always publication says tallies slips events valid (λ (w : World) (h : History). OwnPairs w.subscribers w.pool)
    (λ m action g i. step-keeps publication says (Ground publication) (λ (w : World) (h : History). OwnPairs w.subscribers w.pool) (λ w h ground. ground.received) (own-pairs-keep publication says) m action g i) (λ w h others i. i) (own-pairs-begin publication tallies)).1
