-- An upload that is made takes what its site knows, and only rows that the site changed in its generations; a reply takes what the publisher knows.
use Rattle.std.specs.Prelude.{◌≡◌, ◌≤◌, ◌==◌, ◌++◌, ◌&&◌, ℕ, List, [], ◌∷◌, Bool, true, false, Option, Some, None, refl, cond, filter, filter_map, map, max, option_map, unwrap_or}
use Rattle.std.specs.List.{AllByRecursion, cons_option, fold, list_any}
use Rattle.std.proofs.Common.{arith, subst, sym, ap, ◌∙◌}
use Rattle.std.proofs.lemmas.Bool.Decides.{nat_tests}
use Rattle.merge_types.specs.declared.identifiers.Dot.{Dot}
use Rattle.merge_types.specs.declared.identifiers.SiteId.{SiteId}
use Rattle.merge_units.specs.declared.version.Version.{Version}
use Rattle.merge_schema.specs.declared.publication.Publication.{Publication}
use Rattle.merge_batch.specs.Makers.{maker_of}
use Rattle.merge_batch.specs.declared.reply.Downloaded.{Downloaded}
use Rattle.merge_batch.specs.declared.reply.Reply.TheVariants as reply
use Rattle.merge_batch.specs.declared.request.Download.{Download}
use Rattle.merge_batch.specs.declared.request.Request.TheVariants as request
use Rattle.merge_batch.specs.declared.request.Upload.{Upload}
use Rattle.merge_batch.specs.declared.request.UploadItem.{UploadItem}
use Rattle.merge_model.specs.Publisher.Acts.{key_of_item}
use Rattle.merge_model.specs.Judge.ByHistory.{by_made, by_past, changed_between_by_made, is_between_made, with_change_of}
use Rattle.merge_model.specs.History.{History, MadeChange, Past, has, made_at, past_in, pasts_at, pasts_with}
use Rattle.merge_model.specs.Judge.{PublisherJudge}
use Rattle.merge_types.specs.RowKeys.{key_cmp}
use Rattle.merge_model.specs.Tables.Keys.{row_at, same_key}
use Rattle.merge_model.specs.History.Model.{past_of_item, with_letter}
use Rattle.merge_model.specs.Publisher.PublisherDownload.{reply_to, tables_after_download}
use Rattle.merge_model.specs.Subscriber.Sending.{upload_item, upload_sent}
use Rattle.merge_model.specs.Subscriber.{subscriber_at_moment, subscriber_closed}
use Rattle.merge_types.specs.declared.row_key.RowKey.{RowKey as Key}
use Rattle.merge_units.specs.declared.site_row.SubscriberRow.{SubscriberRow}
use Rattle.merge_model.specs.Tables.{PublisherTables, SubscriberTables}
use Rattle.merge_model.specs.World.{World, subscriber_at, with_publisher, with_subscriber}
use Rattle.merge_model.specs.declared.letter.Message.TheVariants.{Asks, Replies}
use Rattle.merge_model.specs.declared.letter.Message.{Message}
use Rattle.merge_laws.specs.Invariants.Accepted.{Accepted, IsUpTo}
use Rattle.merge_laws.specs.Invariants.KnownMakers.{IsAfterMaker, KnownMakers}
use Rattle.merge_model.specs.Laws.Promises.{is_given_up}
use Rattle.merge_laws.specs.Facts.LineagesStand.{OthersAccepted}
use Rattle.merge_laws.proofs.Accepted.AcceptedOrder.{StandsBelow, of-site, order-below}
use Rattle.merge_laws.proofs.Accepted.AcceptedParts.{PastFits, all-fit, nothing-fits, past-among, post-accepted, publisher-accepted, put-rows, sent-rows, subscriber-accepted}
use Rattle.merge_model.proofs.Lists.Finding.{all-weaker, found-named}
use Rattle.merge_laws.proofs.Runs.Ground.{Ground}
use Rattle.merge_model.proofs.Lists.KeyLookUps.{key-itself, keys-same, keys-tied}
use Rattle.merge_model.proofs.Entries.EntryLists.{all-put}
use Rattle.merge_model.proofs.Lists.{all-filter, all-of, all-three, any-leads}
use Rattle.merge_laws.proofs.Received.Publishing.{asked-same}
use Rattle.merge_laws.proofs.Walking.{here}

-- Rows that a site changed in some generations.

abbrev pub ChangedIn : (MadeChange → Bool) → List MadeChange → Key → Type 0
ChangedIn test made key = list_any (λ (c : MadeChange). same_key key c.key && test c) made ≡ true

passing-step : (test : MadeChange → Bool) (c : MadeChange) (made : List MadeChange) (b : Bool) → test c ≡ b → AllByRecursion (λ (x : MadeChange). ChangedIn test (c ∷ made) x.key) (filter test made) → AllByRecursion (λ (x : MadeChange). ChangedIn test (c ∷ made) x.key) (cond b (c ∷ filter test made) (filter test made))
passing-step test c made true is rest = ((let same = key-itself c.key in grind (arith, same, is)), rest)
passing-step test c made false is rest = rest

passing : (test : MadeChange → Bool) (made : List MadeChange) → AllByRecursion (λ (c : MadeChange). ChangedIn test made c.key) (filter test made)
passing test [] = tt
passing test (c ∷ made) = passing-step test c made (test c) refl
    (all-weaker (λ (x : MadeChange). ChangedIn test made x.key) (λ (x : MadeChange). ChangedIn test (c ∷ made) x.key) (λ x is. grind (arith, is)) (filter test made) (passing test made))

rows-changed : (P : Key → Type 0) (changes : List MadeChange) (rows : List (Key × ℕ)) → AllByRecursion (λ (c : MadeChange). P c.key) changes → AllByRecursion (λ (row : Key × ℕ). P row.0) rows → AllByRecursion (λ (row : Key × ℕ). P row.0) (fold with_change_of rows changes)
rows-changed P [] rows new old = old
rows-changed P (c ∷ changes) rows new old = rows-changed P changes (with_change_of rows c) new.1
    (all-put (λ (row : Key × ℕ). P row.0) key_cmp c.key (max c.generation (unwrap_or (row_at rows c.key) 0)) (λ key tied. subst P (keys-tied c.key key tied) new.0) new.0 rows old)

item-of : (P : Key → Type 0) (entry : Key × ℕ) (items : List UploadItem) (found : Option SubscriberRow) → P entry.0 → AllByRecursion (λ (item : UploadItem). P (key_of_item item)) items
    → AllByRecursion (λ (item : UploadItem). P (key_of_item item))
    (cons_option (option_map (λ (version : Version). (let item : UploadItem = record { article = entry.0.article; row = entry.0.row; generation = entry.1; version = version } in item)) (option_map (λ (row : SubscriberRow). row.version) found)) items)
item-of P entry items None is rest = rest
item-of P entry items (Some row) is rest = (is, rest)

items-of : (P : Key → Type 0) (s : SubscriberTables) (entries : List (Key × ℕ)) → AllByRecursion (λ (row : Key × ℕ). P row.0) entries → AllByRecursion (λ (item : UploadItem). P (key_of_item item)) (filter_map (upload_item s) entries)
items-of P s [] all = tt
items-of P s (entry ∷ entries) all = item-of P entry (filter_map (upload_item s) entries) (row_at s.rows entry.0) all.0 (items-of P s entries all.1)

-- The insert of such a row stands in one of these generations, or before.

passes-step : (n : ℕ) (c : MadeChange) (made : List MadeChange) (b : Bool) → (c.dot.site.0 == n) ≡ b → AllByRecursion (λ (x : MadeChange). (x.dot.site.0 == n) ≡ true) made → AllByRecursion (λ (x : MadeChange). (x.dot.site.0 == n) ≡ true) (cond b (c ∷ made) made)
passes-step n c made true is rest = (is, rest)
passes-step n c made false is rest = rest

passes-filter : (n : ℕ) (made : List MadeChange) → AllByRecursion (λ (x : MadeChange). (x.dot.site.0 == n) ≡ true) (filter (λ (x : MadeChange). x.dot.site.0 == n) made)
passes-filter n [] = tt
passes-filter n (c ∷ made) = passes-step n c (filter (λ (x : MadeChange). x.dot.site.0 == n) made) (c.dot.site.0 == n) refl (passes-filter n made)

later-up-to : (n from to : ℕ) (key : Key) (c x : MadeChange) → same_key key c.key ≡ true → maker_of c.key.row.0 ≡ Some c.dot → c.dot.site.0 ≡ n → (x.dot.site.0 == n) ≡ true → IsAfterMaker x → (c.dot.number ≤ x.dot.number → c.generation ≤ x.generation)
    → (same_key key x.key && is_between_made from to x) ≡ true → c.generation ≤ to
later-up-to n from to key c x same maker own site after later is =
    let other : same_key key x.key ≡ true = grind (arith, is) in
    let keys : x.key ≡ c.key = sym (keys-same key x.key other) ∙ keys-same key c.key same in
    let made : maker_of x.key.row.0 ≡ Some c.dot = ap (λ (k : Key). maker_of k.row.0) keys ∙ maker in
    let sites : c.dot.site.0 ≡ x.dot.site.0 = grind (arith, nat_tests, own, site) in
    let up : c.generation ≤ x.generation = later (after c.dot made sites) in
    let below : x.generation ≤ to = grind (arith, nat_tests, is) in
    omega (arith, up, below)

up-to-each : (n from to : ℕ) (key : Key) (all : List MadeChange) → AllByRecursion IsAfterMaker all → AllByRecursion (λ (x : MadeChange). (x.dot.site.0 == n) ≡ true) all → ChangedIn (is_between_made from to) all key
    → (made : List MadeChange) → AllByRecursion (λ (c : MadeChange). (c.dot.site.0 == n) ≡ true → StandsBelow all c) made → AllByRecursion (IsUpTo n to key) made
up-to-each n from to key all after sites changed [] stands = tt
up-to-each n from to key all after sites changed (c ∷ made) stands = (
  (λ same maker own. any-leads (λ (x : MadeChange). same_key key x.key && is_between_made from to x) (c.generation ≤ to) all
      (all-three IsAfterMaker (λ (x : MadeChange). (x.dot.site.0 == n) ≡ true) (λ (x : MadeChange). c.dot.number ≤ x.dot.number → c.generation ≤ x.generation) (λ (x : MadeChange). (same_key key x.key && is_between_made from to x) ≡ true → c.generation ≤ to)
      (λ x one two three is. later-up-to n from to key c x same maker own two one three is) all after sites (stands.0 (grind (arith, nat_tests, own)))) changed),
  up-to-each n from to key all after sites changed made stands.1,
)

-- The messages.

pub upload-posted : (publication : Publication) (w : World) (h : History) (s : SubscriberTables) → Ground publication w h → KnownMakers w h → Accepted w h → subscriber_at w s.site ≡ Some s
    → (let made : SubscriberTables × Upload = upload_sent (by_made h s.site) (subscriber_closed (subscriber_at_moment w.moment s)) in let message : Message = Asks (request.Upload made.1) in
    Accepted (record (with_subscriber made.0 w) { pool = w.pool ++ record { site = s.site; message = message } ∷ [] }) (with_letter (record { site = s.site; message = message }) h))
upload-posted publication w h s g makers i at =
    let n : ℕ = s.site.0 in
    let c : SubscriberTables = subscriber_closed (subscriber_at_moment w.moment s) in
    let made : SubscriberTables × Upload = upload_sent (by_made h s.site) c in
    let m : Upload = made.1 in
    let v : World = with_subscriber made.0 w in
    let pasts : List (Key × Past) = map (past_of_item (pasts_at h n)) m.items in
    let named : n ≡ 0 → ⊥ = found-named w.subscribers n s g.none at in
    let low : 1 ≤ n = grind (arith, nat_tests, named) in
    let fits : (key : Key) → PastFits w.publisher h n (past_in pasts key) = past-among (λ (past : Past). PastFits w.publisher h n past) (nothing-fits w.publisher h n) pasts (sent-rows (λ (past : Past). PastFits w.publisher h n past) (pasts_at h n) (all-fit w h i n) m.items) in
    let changed : AllByRecursion (λ (row : Key × ℕ). ChangedIn (is_between_made c.received m.to) (made_at h n) row.0) (changed_between_by_made h s.site c.received m.to) =
    rows-changed (ChangedIn (is_between_made c.received m.to) (made_at h n)) (filter (is_between_made c.received m.to) (made_at h n)) [] (passing (is_between_made c.received m.to) (made_at h n)) tt in
    let below : AllByRecursion (λ (x : MadeChange). (x.dot.site.0 == n) ≡ true → StandsBelow (made_at h n) x) h.made = of-site (StandsBelow (made_at h n)) w h n named g.numbered (λ last generation ordered. order-below last generation (made_at h n) ordered) in
    let after : AllByRecursion IsAfterMaker (made_at h n) = all-filter IsAfterMaker (λ (x : MadeChange). x.dot.site.0 == n) h.made makers.firsts in
    post-accepted v h s.site (Asks (request.Upload m))
    (λ acts. all-of (λ (item : UploadItem). (dot : Dot) → has (past_in pasts (key_of_item item)).known dot ≡ true → is_given_up w.publisher h dot ≡ false) (λ item dot is. (fits (key_of_item item)).1 low dot is) m.items)
    (sent-rows (λ (past : Past). OthersAccepted h n past.known) (pasts_at h n) (λ key. (all-fit w h i n key).0) m.items)
    (all-weaker (λ (item : UploadItem). ChangedIn (is_between_made c.received m.to) (made_at h n) (key_of_item item)) (λ (item : UploadItem). AllByRecursion (IsUpTo n m.to (key_of_item item)) h.made)
    (λ item is. up-to-each n c.received m.to (key_of_item item) (made_at h n) after (passes-filter n h.made) is h.made below) m.items
    (items-of (ChangedIn (is_between_made c.received m.to) (made_at h n)) c (changed_between_by_made h s.site c.received m.to) changed))
    (subscriber-accepted w h s made.0 at refl (λ waits. (waits, λ bare. bare)) i)

pub ask-answered : (publication : Publication) (w : World) (h : History) (number : ℕ) (site : SiteId) (m : Download) → Accepted w h
    → (let judge : PublisherJudge = by_past h (pasts_with h number) in let message : Message = Replies (reply.Downloaded (reply_to publication judge m (tables_after_download m (here w)))) in
    Accepted (record (with_publisher (tables_after_download m (here w)) w) { pool = w.pool ++ record { site = site; message = message } ∷ [] }) (with_letter (record { site = site; message = message }) h))
ask-answered publication w h number site m i =
    let judge : PublisherJudge = by_past h (pasts_with h number) in
    let q : PublisherTables = tables_after_download m (here w) in
    let sent : Downloaded = reply_to publication judge m q in
    let same = asked-same m (here w) in
    post-accepted (with_publisher q w) h site (Replies (reply.Downloaded sent)) tt (put-rows (λ (past : Past). OthersAccepted h 0 past.known) (pasts_at h 0) i.counts.here sent.items) tt
    (publisher-accepted w h q (record { received = λ n. same.received n; number = λ n. same.number n; joined = λ x. same.joined x }) i)
