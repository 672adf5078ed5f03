-- An upload that is made sends all that its site made in its generations; and a reply to an ask puts rows that know what has acted.
use Rattle.std.specs.Prelude.{◌≡◌, ◌≤◌, ◌<◌, ◌&&◌, ℕ, zero, suc, List, [], ◌∷◌, Bool, true, false, Option, Some, None, refl, cond, filter, filter_map, if◌then◌else◌, is_some, map, max, nat_le, nat_lt, option_map, unwrap_or}
use Rattle.std.specs.BTreeMap.{is_at}
use Rattle.std.specs.List.{AllByRecursion, cons_option, fold, list_any}
use Rattle.std.specs.Option.{option_map_or}
use Rattle.std.proofs.Common.{arith, subst, sym, ap, ◌∙◌}
use Rattle.std.proofs.lemmas.Bool.Decides.{nat_tests}
use Rattle.merge_types.specs.declared.identifiers.SiteId.{SiteId}
use Rattle.merge_units.specs.declared.version.Version.{Version}
use Rattle.merge_schema.specs.declared.publication.Publication.{Publication}
use Rattle.merge_batch.specs.declared.reply.Act.{Act as Order}
use Rattle.merge_batch.specs.declared.reply.Act.TheVariants as order
use Rattle.merge_batch.specs.declared.reply.DownloadItem.{DownloadItem}
use Rattle.merge_batch.specs.declared.reply.Downloaded.{Downloaded}
use Rattle.merge_batch.specs.declared.reply.Reply.TheVariants as reply
use Rattle.merge_batch.specs.declared.request.Download.{Download}
use Rattle.merge_batch.specs.declared.request.Request.TheVariants as request
use Rattle.merge_batch.specs.declared.request.Upload.{Upload}
use Rattle.merge_batch.specs.declared.request.UploadItem.{UploadItem}
use Rattle.merge_model.specs.Publisher.Acts.{key_of_item}
use Rattle.merge_model.specs.Judge.ByHistory.{by_made, by_past, changed_between_by_made, is_between_made, with_change_of}
use Rattle.merge_model.specs.Judge.ByNumbers.{received_by_number}
use Rattle.merge_model.specs.History.{History, MadeChange, Past, has, is_done, made_at, past_at, past_in, pasts_at, pasts_with}
use Rattle.merge_model.specs.Judge.{PublisherJudge}
use Rattle.merge_types.specs.RowKeys.{key_cmp}
use Rattle.merge_model.specs.Tables.Keys.{row_at, same_key}
use Rattle.merge_model.specs.History.Model.{past_of_item, put_past}
use Rattle.merge_model.specs.Publisher.PublisherDownload.{item_of, reply_to, tables_after_download}
use Rattle.merge_batch.specs.Orders.{order_by}
use Rattle.merge_model.specs.Subscriber.Sending.{upload_item, upload_sent}
use Rattle.merge_model.specs.Subscriber.{subscriber_at_moment, subscriber_closed, subscriber_version_at}
use Rattle.merge_types.specs.declared.row_key.RowKey.{RowKey as Key}
use Rattle.merge_units.specs.declared.site_row.PublisherRow.{PublisherRow}
use Rattle.merge_units.specs.declared.site_row.SubscriberRow.{SubscriberRow}
use Rattle.merge_model.specs.Tables.{PublisherTables, SubscriberTables}
use Rattle.merge_model.specs.Subscriber.Taking.{key_of_download}
use Rattle.merge_model.specs.World.{World, letter_at, subscriber_at, with_publisher, with_subscriber}
use Rattle.merge_model.specs.declared.letter.Message.TheVariants.{Asks, Replies}
use Rattle.merge_laws.specs.Invariants.Accepting.{accepts}
use Rattle.merge_laws.specs.Facts.LineagesStand.{KnowsAll, OfOrder, ReplyAnswers, counts_in, is_of, is_sent}
use Rattle.merge_laws.specs.Invariants.Unsent.{RowsTell, is_changed_above}
use Rattle.merge_model.proofs.Lists.Finding.{all-at, all-weaker}
use Rattle.merge_laws.proofs.Accepted.GivenUp.{ask-given, counts-before}
use Rattle.merge_model.proofs.Lists.KeyLookUps.{key-itself, key-test, keys-same, keys-turned, row-put}
use Rattle.merge_laws.proofs.Letters.LetterPasts.{download-past, is_put, item-past}
use Rattle.merge_model.proofs.Lists.{all-both, all-every, all-of, all-passing, any-mono, each-found, all-map, all-unit}
use Rattle.merge_laws.proofs.Own.OwnBase.{Base, LetterFacts, letter-facts}
use Rattle.merge_laws.proofs.Own.OwnDone.{done-accepted, received-acted}
use Rattle.merge_laws.proofs.Own.OwnItems.{among-site}
use Rattle.merge_laws.proofs.Own.OwnParts.{NoneNew, Rest, at_model, reply-on, same-grows, up_to}
use Rattle.merge_laws.proofs.Own.OwnQuiet.{AnyLetter, posted, quiet, stays-here}
use Rattle.merge_laws.proofs.Received.Publishing.{asked-same}
use Rattle.merge_laws.proofs.Walking.{Sends, comes, here}
use Rattle.merge_laws.proofs.Received.Worlds.{received-is}

-- The rows of an upload: each with a generation that is no less than that of any change of it.

abbrev pub reaches : Key → ℕ → List (Key × ℕ) → Bool
reaches key generation rows = option_map_or (λ (g : ℕ). nat_le generation g) (row_at rows key) false

reaches-put : (b : Bool) (generation put : ℕ) (rest : Option ℕ) → option_map_or (λ (g : ℕ). nat_le generation g) (if b then Some put else rest) false ≡ (if b then nat_le generation put else option_map_or (λ (g : ℕ). nat_le generation g) rest false)
reaches-put true generation put rest = refl
reaches-put false generation put rest = refl

reaches-most : (generation more : ℕ) (found : Option ℕ) → option_map_or (λ (g : ℕ). nat_le generation g) found false ≡ true → nat_le generation (max more (unwrap_or found 0)) ≡ true
reaches-most generation more None is = absurd (grind (arith, is))
reaches-most generation more (Some g) is = grind (arith, nat_tests, is)

reach-stays : (key : Key) (generation : ℕ) (rows : List (Key × ℕ)) (c : MadeChange) → reaches key generation rows ≡ true → reaches key generation (with_change_of rows c) ≡ true
reach-stays key generation rows c is =
    let most : ℕ = max c.generation (unwrap_or (row_at rows c.key) 0) in
    ap (λ (o : Option ℕ). option_map_or (λ (g : ℕ). nat_le generation g) o false) (row-put rows c.key most key) ∙ reaches-put (same_key key c.key) generation most (row_at rows key)
    ∙ elim (same_key key c.key) as (λ (b : Bool). same_key key c.key ≡ b → (if b then nat_le generation most else reaches key generation rows) ≡ true) [
      | true ↦ (λ e. reaches-most generation c.generation (row_at rows c.key) (ap (λ (k : Key). reaches k generation rows) (sym (keys-same key c.key e)) ∙ is))
      | false ↦ (λ e. is)
    ] refl

reach-own : (rows : List (Key × ℕ)) (c : MadeChange) → reaches c.key c.generation (with_change_of rows c) ≡ true
reach-own rows c =
    let most : ℕ = max c.generation (unwrap_or (row_at rows c.key) 0) in
    ap (λ (o : Option ℕ). option_map_or (λ (g : ℕ). nat_le c.generation g) o false) (row-put rows c.key most c.key) ∙ reaches-put (same_key c.key c.key) c.generation most (row_at rows c.key)
    ∙ ap (λ (b : Bool). if b then nat_le c.generation most else reaches c.key c.generation rows) (key-itself c.key) ∙ grind (arith, nat_tests)

fold-stays : (key : Key) (generation : ℕ) (changes : List MadeChange) (rows : List (Key × ℕ)) → reaches key generation rows ≡ true → reaches key generation (fold with_change_of rows changes) ≡ true
fold-stays key generation [] rows is = is
fold-stays key generation (c ∷ changes) rows is = fold-stays key generation changes (with_change_of rows c) (reach-stays key generation rows c is)

pub fold-reaches : (changes : List MadeChange) (rows : List (Key × ℕ)) → AllByRecursion (λ (c : MadeChange). reaches c.key c.generation (fold with_change_of rows changes) ≡ true) changes
fold-reaches [] rows = tt
fold-reaches (c ∷ changes) rows = (fold-stays c.key c.generation changes (with_change_of rows c) (reach-own rows c), fold-reaches changes (with_change_of rows c))

-- each row that is held is an item
item-any : (test : UploadItem → Bool) (item : UploadItem) (rest : List UploadItem) (found : Option UploadItem) → found ≡ Some item → test item ≡ true → list_any test (cons_option found rest) ≡ true
item-any test item rest None is passes = absurd (grind (arith, is))
item-any test item rest (Some other) is passes = let same : other ≡ item = cc in let now : test other ≡ true = ap test same ∙ passes in grind (arith, now)

rest-any : (test : UploadItem → Bool) (rest : List UploadItem) (found : Option UploadItem) → list_any test rest ≡ true → list_any test (cons_option found rest) ≡ true
rest-any test rest None is = is
rest-any test rest (Some other) is = grind (arith, is)

made-item : (s : SubscriberTables) (entry : Key × ℕ) (found : Option Version) → subscriber_version_at s entry.0 ≡ found → is_some found ≡ true → (test : UploadItem → Bool) → ((item : UploadItem) → key_of_item item ≡ entry.0 → item.generation ≡ entry.1 → test item ≡ true) → (rest : List UploadItem)
    → list_any test (cons_option (upload_item s entry) rest) ≡ true
made-item s entry None at there test passes rest = absurd (grind (arith, there))
made-item s entry (Some version) at there test passes rest =
    let item : UploadItem = record { article = entry.0.article; row = entry.0.row; generation = entry.1; version = version } in
    item-any test item rest (upload_item s entry) (ap (λ (o : Option Version). option_map (λ (x : Version). (let one : UploadItem = record { article = entry.0.article; row = entry.0.row; generation = entry.1; version = x } in one)) o) at) (passes item refl refl)

pub items-reach : (s : SubscriberTables) (key : Key) (generation : ℕ) (rows : List (Key × ℕ)) → is_some (subscriber_version_at s key) ≡ true → reaches key generation rows ≡ true
    → list_any (λ (item : UploadItem). same_key (key_of_item item) key && nat_le generation item.generation) (filter_map (upload_item s) rows) ≡ true
items-reach s key generation [] there is = absurd (grind (arith, is))
items-reach s key generation (entry ∷ rows) there is =
    let test : UploadItem → Bool = λ item. same_key (key_of_item item) key && nat_le generation item.generation in
    elim (is_at (key_cmp key) entry.0) as (λ (b : Bool). is_at (key_cmp key) entry.0 ≡ b → option_map_or (λ (g : ℕ). nat_le generation g) (cond b (Some entry.1) (row_at rows key)) false ≡ true → list_any test (filter_map (upload_item s) (entry ∷ rows)) ≡ true) [
      | true ↦ (λ e up. (let keys : key ≡ entry.0 = keys-same key entry.0 (sym (key-test key entry.0) ∙ e) in
          made-item s entry (subscriber_version_at s entry.0) refl (ap (λ (k : Key). is_some (subscriber_version_at s k)) (sym keys) ∙ there) test
          (λ item same at. (let row : same_key (key_of_item item) key ≡ true = ap (λ (k : Key). same_key k key) (same ∙ sym keys) ∙ key-itself key in grind (arith, nat_tests, row, at, up))) (filter_map (upload_item s) rows)))
      | false ↦ (λ e rest. rest-any test (filter_map (upload_item s) rows) (upload_item s entry) (items-reach s key generation rows there rest))
    ] refl is

pub gens-some : (found : Option SubscriberRow) (test : ℕ → Bool) → list_any test (unwrap_or (option_map (λ (row : SubscriberRow). row.generations) found) []) ≡ true → is_some found ≡ true
gens-some None test is = absurd (grind (arith, is))
gens-some (Some row) test is = refl

pub version-some : (found : Option SubscriberRow) → is_some found ≡ true → is_some (option_map (λ (row : SubscriberRow). row.version) found) ≡ true
version-some None is = absurd (grind (arith, is))
version-some (Some row) is = refl

module _ (publication : Publication) (w : World) (h : History) (s : SubscriberTables) (b : Base publication w h) (p : Rest w h) (at : subscriber_at w s.site ≡ Some s) (named : s.site.0 ≡ 0 → ⊥) where
  abbrev closed_now : SubscriberTables
  closed_now = subscriber_closed (subscriber_at_moment w.moment s)

  abbrev made : SubscriberTables × Upload
  made = upload_sent (by_made h s.site) closed_now

  abbrev upload : Upload
  upload = made.1

  abbrev changed : List (Key × ℕ)
  changed = changed_between_by_made h s.site s.received upload.to

  abbrev sent_pasts : List (Key × Past)
  sent_pasts = map (past_of_item (pasts_at h s.site.0)) upload.items

  -- what the rows that were changed say of one change
  one-sent : (c : MadeChange) → (is_of s.site.0 c ≡ true → is_between_made s.received upload.to c ≡ true → reaches c.key c.generation changed ≡ true)
      → (c.dot.site.0 ≡ s.site.0 → (test : MadeChange → Bool) → test c ≡ true → list_any test (made_at h s.site.0) ≡ true)
      → ((key : Key) → is_some (row_at s.rows key) ≡ true → same_key key c.key ≡ true → is_of s.site.0 c ≡ true → counts_in (at_model w h) c ≡ true → has (past_at h s.site.0 key).known c.dot ≡ true)
      → is_of s.site.0 c ≡ true → s.received < c.generation → c.generation ≤ upload.to → counts_in (at_model w h) c ≡ true → is_sent sent_pasts upload.items c ≡ true
  one-sent c reach among owns own above up counted =
      let between : is_between_made s.received upload.to c ≡ true = grind (arith, nat_tests, above, up) in
      let itself : same_key c.key c.key ≡ true = key-itself c.key in
      let later : is_changed_above s.received c.key (made_at h s.site.0) ≡ true = among (grind (arith, nat_tests, own)) (λ (x : MadeChange). nat_lt s.received x.generation && same_key c.key x.key) (grind (arith, nat_tests, above, itself)) in
      let tells : RowsTell (made_at h s.site.0) s.received s.rows = b.0.0.unsent s.site.0 s named at in
      let held : is_some (row_at s.rows c.key) ≡ true = gens-some (row_at s.rows c.key) (λ (g : ℕ). nat_lt s.received g) (tells.unsent c.key s.received (omega arith) ∙ later) in
      let items : list_any (λ (item : UploadItem). same_key (key_of_item item) c.key && nat_le c.generation item.generation) upload.items ≡ true = items-reach closed_now c.key c.generation changed (version-some (row_at s.rows c.key) held) (reach own between) in
      let past : past_in sent_pasts c.key ≡ past_at h s.site.0 c.key = item-past (pasts_at h s.site.0) c.key upload.items
      (any-mono (λ (item : UploadItem). same_key (key_of_item item) c.key && nat_le c.generation item.generation) (λ (item : UploadItem). same_key c.key (key_of_item item)) upload.items
      (λ item both. keys-turned (key_of_item item) c.key (grind (arith, both))) items) in
      let known : has (past_in sent_pasts c.key).known c.dot ≡ true = ap (λ (x : Past). has x.known c.dot) past ∙ owns c.key held itself own counted in
      any-mono (λ (item : UploadItem). same_key (key_of_item item) c.key && nat_le c.generation item.generation)
      (λ (item : UploadItem). same_key (key_of_item item) c.key && nat_le c.generation item.generation && has (past_in sent_pasts c.key).known c.dot) upload.items (λ item both. grind (arith, both, known)) items

  low : 1 ≤ s.site.0
  low = grind (arith, nat_tests, named)

  -- where the row is held, and where it is not there is nothing to show
  held-all : (key : Key) (held : Bool) → is_some (row_at s.rows key) ≡ held
      → AllByRecursion (λ (c : MadeChange). is_some (row_at s.rows key) ≡ true → same_key key c.key ≡ true → is_of s.site.0 c ≡ true → counts_in (at_model w h) c ≡ true → has (past_at h s.site.0 key).known c.dot ≡ true) h.made
  held-all key true is = all-weaker (λ (c : MadeChange). same_key key c.key ≡ true → is_of s.site.0 c ≡ true → counts_in (at_model w h) c ≡ true → has (past_at h s.site.0 key).known c.dot ≡ true)
      (λ (c : MadeChange). is_some (row_at s.rows key) ≡ true → same_key key c.key ≡ true → is_of s.site.0 c ≡ true → counts_in (at_model w h) c ≡ true → has (past_at h s.site.0 key).known c.dot ≡ true) (λ c knows there. knows) h.made (p.own s.site.0 s key low at is)
  held-all key false is = all-of (λ (c : MadeChange). is_some (row_at s.rows key) ≡ true → same_key key c.key ≡ true → is_of s.site.0 c ≡ true → counts_in (at_model w h) c ≡ true → has (past_at h s.site.0 key).known c.dot ≡ true)
      (λ c there. absurd (grind (arith, is, there))) h.made

  all-sent : AllByRecursion (λ (c : MadeChange). is_of s.site.0 c ≡ true → s.received < c.generation → c.generation ≤ upload.to → counts_in (at_model w h) c ≡ true → is_sent sent_pasts upload.items c ≡ true) h.made
  all-sent =
      let Reach : MadeChange → Type 0 = λ c. is_of s.site.0 c ≡ true → is_between_made s.received upload.to c ≡ true → reaches c.key c.generation changed ≡ true in
      let Among : MadeChange → Type 0 = λ c. c.dot.site.0 ≡ s.site.0 → (test : MadeChange → Bool) → test c ≡ true → list_any test (made_at h s.site.0) ≡ true in
      let Owns : MadeChange → Type 0 = λ c. (key : Key) → is_some (row_at s.rows key) ≡ true → same_key key c.key ≡ true → is_of s.site.0 c ≡ true → counts_in (at_model w h) c ≡ true → has (past_at h s.site.0 key).known c.dot ≡ true in
      all-both Reach (λ (c : MadeChange). Among c × Owns c) (λ (c : MadeChange). is_of s.site.0 c ≡ true → s.received < c.generation → c.generation ≤ upload.to → counts_in (at_model w h) c ≡ true → is_sent sent_pasts upload.items c ≡ true)
      (λ c reach both. one-sent c reach both.0 both.1) h.made
      (all-passing (λ (c : MadeChange). is_between_made s.received upload.to c ≡ true → reaches c.key c.generation changed ≡ true) (is_of s.site.0) h.made
      (all-passing (λ (c : MadeChange). reaches c.key c.generation changed ≡ true) (is_between_made s.received upload.to) (made_at h s.site.0) (fold-reaches (filter (is_between_made s.received upload.to) (made_at h s.site.0)) [])))
      (all-both Among Owns (λ (c : MadeChange). Among c × Owns c) (λ c one other. (one, other)) h.made (among-site s.site.0 h.made)
      (all-every (λ (key : Key) (c : MadeChange). is_some (row_at s.rows key) ≡ true → same_key key c.key ≡ true → is_of s.site.0 c ≡ true → counts_in (at_model w h) c ≡ true → has (past_at h s.site.0 key).known c.dot ≡ true) h.made
      (λ key. held-all key (is_some (row_at s.rows key)) refl)))

  pub upload-sent : Sends Rest s.site (Asks (request.Upload made.1)) (with_subscriber made.0 w) h
  upload-sent = posted (with_subscriber made.0 w) h s.site (Asks (request.Upload made.1)) (λ can. all-sent) tt (stays-here w h s made.0 at refl refl p)

-- A reply to an ask.

held-order : (w : World) (is_in : Bool) (key : Key) (found : Option PublisherRow) → row_at w.publisher.rows key ≡ found → is_put (order_by is_in (option_map (λ (row : PublisherRow). row.version) found)) ≡ true → is_some (row_at w.publisher.rows key) ≡ true
held-order w is_in key (Some row) at is = grind (arith, at)
held-order w true key None at is = absurd (grind (arith, is))
held-order w false key None at is = absurd (grind (arith, is))

abbrev IsHeld : World → DownloadItem → Type 0
IsHeld w item = is_put item.act ≡ true → is_some (row_at w.publisher.rows (key_of_download item)) ≡ true

order-knows : (P : Key → Version → Past → Type 0) (key : Key) (past : Past) (o : Order) → (is_put o ≡ true → (version : Version) → P key version past) → OfOrder P key past o
order-knows P key past (order.Put lineage live) knows = knows refl _
order-knows P key past order.RemoveDeleted knows = tt
order-knows P key past order.RemoveLeft knows = tt

ask-site : (w : World) (number : ℕ) (site : SiteId) (m : Download) → AllByRecursion (LetterFacts w) w.pool → letter_at w number ≡ Some (record { site = site; message = Asks (request.Download m) }) → LetterFacts w (record { site = site; message = Asks (request.Download m) })
ask-site w zero site m facts at = absurd (grind (arith, at))
ask-site w (suc k) site m facts at = all-at (LetterFacts w) w.pool k (record { site = site; message = Asks (request.Download m) }) at facts

module _ (publication : Publication) (w : World) (h : History) (number : ℕ) (site : SiteId) (m : Download) (b : Base publication w h) (p : Rest w h) (at : comes w number site (Asks (request.Download m))) where
  abbrev judge : PublisherJudge
  judge = by_past h (pasts_with h number)

  abbrev publisher_after : PublisherTables
  publisher_after = tables_after_download m (here w)

  abbrev told : Downloaded
  told = reply_to publication judge m publisher_after

  abbrev put_pasts : List (Key × Past)
  put_pasts = filter_map (put_past (pasts_at h 0)) told.items

  -- the publisher's version of a row that it holds knows all of the site's changes that were received
  received-known : (key : Key) → is_some (row_at w.publisher.rows key) ≡ true → KnowsAll (at_model w h) key (up_to site.0 told.received) (past_at h 0 key).known
  received-known key there =
      let facts = ask-site w number site m (letter-facts publication w h b) at in
      let same : m.site.0 ≡ site.0 = ap (λ (x : SiteId). x.0) facts.1.0 in
      let received : told.received ≡ received_by_number w.publisher site.0 = received-is h w.publisher m.site.0 b.0.0.received.done ∙ ap (λ (n : ℕ). received_by_number w.publisher n) same in
      let Done : MadeChange → Type 0 = λ c. is_of site.0 c ≡ true → c.generation ≤ received_by_number w.publisher site.0 → is_done h c.dot.site.0 c.generation ≡ true in
      let Counted : MadeChange → Type 0 = λ c. is_done h c.dot.site.0 c.generation ≡ true → counts_in (at_model w h) c ≡ true → accepts h.accepted c.dot ≡ true in
      let Knows : MadeChange → Type 0 = λ c. same_key key c.key ≡ true → accepts h.accepted c.dot ≡ true → has (past_at h 0 key).known c.dot ≡ true in
      all-both Done (λ (c : MadeChange). Counted c × Knows c) (λ (c : MadeChange). same_key key c.key ≡ true → up_to site.0 told.received c ≡ true → counts_in (at_model w h) c ≡ true → has (past_at h 0 key).known c.dot ≡ true)
      (λ c done both row is counted. (let own : is_of site.0 c ≡ true = grind (arith, is) in let up : c.generation ≤ told.received = grind (arith, nat_tests, is) in
      both.1 row (both.0 (done own (omega (arith, up, received))) counted))) h.made (received-acted publication w h b.0.0 site.0 facts.1.1)
      (all-both Counted Knows (λ (c : MadeChange). Counted c × Knows c) (λ c one other. (one, other)) h.made (done-accepted publication w h b.0.0) (b.1.0.held key there))

  answers : ReplyAnswers (at_model w h) site.0 put_pasts (Replies (reply.Downloaded told))
  answers =
      let P : Key → Version → Past → Type 0 = λ key version past. KnowsAll (at_model w h) key (up_to site.0 told.received) past.known in
      all-both (IsHeld w) (λ (item : DownloadItem). (test : DownloadItem → Bool) → test item ≡ true → list_any test told.items ≡ true) (λ (item : DownloadItem). OfOrder P (key_of_download item) (past_in put_pasts (key_of_download item)) item.act)
      (λ item held found. order-knows P (key_of_download item) (past_in put_pasts (key_of_download item)) item.act
      (λ is version. subst (λ (past : Past). KnowsAll (at_model w h) (key_of_download item) (up_to site.0 told.received) past.known)
      (sym (download-past (pasts_at h 0) (key_of_download item) told.items (found (λ (other : DownloadItem). same_key (key_of_download item) (key_of_download other) && is_put other.act) (let itself = key-itself (key_of_download item) in grind (arith, itself, is)))))
      (received-known (key_of_download item) (held is)))) told.items
      (all-map (λ row. Unit {0}) (IsHeld w) (item_of publisher_after) (λ row unit is. held-order w row.is_in row.key (row_at w.publisher.rows row.key) refl is) _ (all-unit _)) (each-found told.items)

  pub ask-answered : Sends Rest site (Replies (reply.Downloaded told)) (with_publisher publisher_after w) h
  ask-answered =
      let v : World = with_publisher publisher_after w in
      let same = asked-same m (here w) in
      let stays : (c : MadeChange) → counts_in (at_model v h) c ≡ true → counts_in (at_model w h) c ≡ true = λ c. counts-before w v h h (ask-given w h m) c in
      let kept : Rest v h = quiet w h publisher_after w.tallies w.moment h.done h.lines h.bases stays (λ at_site. (let e = same.joined at_site in omega (arith, e))) p in
      posted v h site (Replies (reply.Downloaded told)) tt
      (reply-on (at_model w h) (at_model v h) NoneNew (same-grows h.made) stays AnyLetter (λ at_site. (let e = same.joined at_site in omega (arith, e))) (λ x u c fits new own up. absurd new) (λ x u c fits new own up. absurd new) site (Replies (reply.Downloaded told)) put_pasts tt answers)
      kept
