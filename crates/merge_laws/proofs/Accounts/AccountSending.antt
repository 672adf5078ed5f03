-- A site makes an upload: it has all that the site made and does not take for received.
use Rattle.std.specs.Prelude.{◌≡◌, ◌≤◌, ◌<◌, ◌==◌, ◌&&◌, ℕ, List, [], true, Option, Some, None, refl, filter, is_some, map, nat_le, nat_lt, option_map, unwrap_or}
use Rattle.std.specs.List.{AllByRecursion, list_any}
use Rattle.std.proofs.Common.{arith, subst, sym, ap, ◌∙◌}
use Rattle.std.proofs.lemmas.Bool.Decides.{nat_tests}
use Rattle.merge_units.specs.declared.version.Version.{Version}
use Rattle.merge_schema.specs.declared.publication.Publication.{Publication}
use Rattle.merge_batch.specs.declared.request.Request.TheVariants as request
use Rattle.merge_batch.specs.declared.request.Upload.{Upload}
use Rattle.merge_batch.specs.declared.request.UploadItem.{UploadItem}
use Rattle.merge_model.specs.Publisher.Acts.{key_of_item}
use Rattle.merge_model.specs.Judge.ByHistory.{by_made, changed_between_by_made, is_between_made}
use Rattle.merge_model.specs.History.{History, MadeChange, Past, has, made_at, past_at, past_in, pasts_at}
use Rattle.merge_model.specs.Tables.Keys.{put_number, row_at, same_key}
use Rattle.merge_model.specs.History.Model.{past_of_item}
use Rattle.merge_model.specs.History.Pasts.{cell_count}
use Rattle.merge_model.specs.Publisher.PublisherLocal.{version_at}
use Rattle.merge_model.specs.Subscriber.Sending.{upload_sent}
use Rattle.merge_model.specs.Subscriber.{subscriber_at_moment, subscriber_closed, subscriber_version_at}
use Rattle.merge_types.specs.declared.row_key.RowKey.{RowKey as Key}
use Rattle.merge_model.specs.Tables.{SubscriberTables}
use Rattle.merge_model.specs.World.{World, subscriber_at, with_subscriber}
use Rattle.merge_model.specs.declared.letter.Message.TheVariants.{Asks}
use Rattle.merge_laws.specs.Facts.Accounts.{Accounts, GrownAlone, IsSafe, IsTraced, OfAccounts, is_settled, received_of}
use Rattle.merge_laws.specs.Facts.LineagesStand.{is_of, is_sent}
use Rattle.merge_laws.specs.Invariants.Unsent.{RowsTell, is_changed_above}
use Rattle.merge_laws.proofs.Accounts.AccountBase.{Base}
use Rattle.merge_laws.proofs.Accounts.AccountElements.{IsIn, all-in, any-in, each-in, filter-in}
use Rattle.merge_laws.proofs.Accounts.AccountNotes.{none-traced, post-accounts}
use Rattle.merge_laws.proofs.Accounts.AccountSites.{site-accounts}
use Rattle.merge_model.proofs.Lists.Finding.{all-weaker, found-named}
use Rattle.merge_laws.proofs.Runs.Ground.{Ground}
use Rattle.merge_model.proofs.Lists.KeyLookUps.{key-itself, keys-turned}
use Rattle.merge_laws.proofs.Letters.LetterPasts.{item-past, items-past}
use Rattle.merge_model.proofs.Lists.{any-mono}
use Rattle.merge_laws.proofs.Own.OwnSending.{fold-reaches, gens-some, items-reach, reaches, version-some}
use Rattle.merge_laws.proofs.Told.ToldLetters.{sent-fit}
use Rattle.merge_laws.proofs.Told.ToldRows.{AllFit, HeldFits}
use Rattle.merge_laws.proofs.Walking.{Sends}

-- what holds of what is found
pub fit-found : (P : Key → Version → Past → Type 0) (key : Key) (past : Past) (found : Option Version) → ((version : Version) → found ≡ Some version → P key version past) → HeldFits P key found past
fit-found P key past None each = tt
fit-found P key past (Some version) each = each version refl

module _ (publication : Publication) (w : World) (h : History) (s : SubscriberTables) (b : Base publication w h) (a : OfAccounts publication w h) (at : subscriber_at w s.site ≡ Some s) where
  abbrev g : Ground publication w h
  g = b.0

  pub site-away : s.site.0 ≡ 0 → ⊥
  site-away = found-named w.subscribers s.site.0 s g.none at

  -- what the site takes for received is safe
  pub received-safe : AllByRecursion (λ (c : MadeChange). is_of s.site.0 c ≡ true → nat_le c.generation s.received ≡ true → IsSafe h c) h.made
  received-safe = all-weaker (λ (c : MadeChange). is_settled w.subscribers h c ≡ true → IsSafe h c) (λ (c : MadeChange). is_of s.site.0 c ≡ true → nat_le c.generation s.received ≡ true → IsSafe h c)
      (λ c old own low. (
      let same : c.dot.site.0 ≡ s.site.0 = grind (arith, nat_tests, own) in
      let received : received_of w.subscribers c.dot.site.0 ≡ s.received = ap (λ (n : ℕ). received_of w.subscribers n) same ∙ ap (λ (found : Option SubscriberTables). unwrap_or (option_map (λ (t : SubscriberTables). t.received) found) 0) at in
      old (grind (arith, low, received))
      )) h.made a.settled

  -- the site's tables go on, its rows and what it takes for received stay
  pub stays-accounts : (t : SubscriberTables) → ((key : Key) → subscriber_version_at t key ≡ subscriber_version_at s key) → t.received ≡ s.received → Accounts publication (version_at w.publisher) (put_number w.subscribers s.site.0 t) w.pool h
  stays-accounts t same received = site-accounts publication (version_at w.publisher) w.subscribers w.pool h a s.site.0 site-away s t at same (omega (arith, received))
      (subst (λ (n : ℕ). AllByRecursion (λ (c : MadeChange). is_of s.site.0 c ≡ true → nat_le c.generation n ≡ true → IsSafe h c) h.made) (sym received) received-safe)

  pub own-fits : AllFit (λ (key : Key) (version : Version) (past : Past). GrownAlone (cell_count publication key.article) h.made key version.body past.chains) (subscriber_version_at s) (past_in (pasts_at h s.site.0))
  own-fits key = fit-found (λ (k : Key) (version : Version) (past : Past). GrownAlone (cell_count publication k.article) h.made k version.body past.chains) key (past_at h s.site.0 key) (subscriber_version_at s key) (λ version is. a.subscribers s.site.0 s key version at is)

  abbrev closed_now : SubscriberTables
  closed_now = subscriber_closed (subscriber_at_moment w.moment s)

  abbrev made : SubscriberTables × Upload
  made = upload_sent (by_made h s.site) closed_now

  abbrev upload : Upload
  upload = made.1

  abbrev changed : List (Key × ℕ)
  changed = changed_between_by_made h s.site s.received upload.to

  abbrev sent_pasts : List (Key × Past)
  sent_pasts = map (past_of_item (pasts_at h s.site.0)) upload.items

  one-sent : (c : MadeChange) → IsIn c h.made → is_of s.site.0 c ≡ true → s.received < c.generation → c.generation ≤ upload.to → is_sent sent_pasts upload.items c ≡ true
  one-sent c is own above up =
      let between : is_between_made s.received upload.to c ≡ true = grind (arith, nat_tests, above, up) in
      let itself : same_key c.key c.key ≡ true = key-itself c.key in
      let among : IsIn c (made_at h s.site.0) = filter-in (λ (x : MadeChange). x.dot.site.0 == s.site.0) h.made c is own in
      let reach : reaches c.key c.generation changed ≡ true = all-in (λ (x : MadeChange). reaches x.key x.generation changed ≡ true) (filter (is_between_made s.received upload.to) (made_at h s.site.0)) c
      (fold-reaches (filter (is_between_made s.received upload.to) (made_at h s.site.0)) []) (filter-in (is_between_made s.received upload.to) (made_at h s.site.0) c among between) in
      let later : is_changed_above s.received c.key (made_at h s.site.0) ≡ true = any-in (λ (x : MadeChange). x.dot.site.0 == s.site.0) (λ (x : MadeChange). nat_lt s.received x.generation && same_key c.key x.key) h.made c is own (grind (arith, nat_tests, above, itself)) in
      let tells : RowsTell (made_at h s.site.0) s.received s.rows = g.unsent s.site.0 s site-away at in
      let held : is_some (row_at s.rows c.key) ≡ true = gens-some (row_at s.rows c.key) (λ (n : ℕ). nat_lt s.received n) (tells.unsent c.key s.received (omega arith) ∙ later) in
      let items : list_any (λ (item : UploadItem). same_key (key_of_item item) c.key && nat_le c.generation item.generation) upload.items ≡ true = items-reach closed_now c.key c.generation changed (version-some (row_at s.rows c.key) held) reach in
      let past : past_in sent_pasts c.key ≡ past_at h s.site.0 c.key = item-past (pasts_at h s.site.0) c.key upload.items
      (any-mono (λ (item : UploadItem). same_key (key_of_item item) c.key && nat_le c.generation item.generation) (λ (item : UploadItem). same_key c.key (key_of_item item)) upload.items
      (λ item both. keys-turned (key_of_item item) c.key (grind (arith, both))) items) in
      let mine : has (past_at h s.site.0 c.key).known c.dot ≡ true =
      all-in (λ (x : MadeChange). is_of s.site.0 x ≡ true → s.received < x.generation → has (past_at h s.site.0 x.key).known x.dot ≡ true) h.made c (a.unsent s.site.0 s at) is own above in
      let known : has (past_in sent_pasts c.key).known c.dot ≡ true = ap (λ (x : Past). has x.known c.dot) past ∙ mine in
      any-mono (λ (item : UploadItem). same_key (key_of_item item) c.key && nat_le c.generation item.generation)
      (λ (item : UploadItem). same_key (key_of_item item) c.key && nat_le c.generation item.generation && has (past_in sent_pasts c.key).known c.dot) upload.items (λ item both. grind (arith, both, known)) items

  pub sending-accounts : Sends (OfAccounts publication) s.site (Asks (request.Upload made.1)) (with_subscriber made.0 w) h
  sending-accounts =
      let sites : List (ℕ × SubscriberTables) = put_number w.subscribers s.site.0 made.0 in
      post-accounts publication (version_at w.publisher) sites w.pool h (stays-accounts made.0 (λ key. refl) refl) s.site (Asks (request.Upload made.1))
      (sent-fit (λ (key : Key) (version : Version) (past : Past). GrownAlone (cell_count publication key.article) h.made key version.body past.chains) closed_now (pasts_at h s.site.0) changed own-fits)
      (λ key. items-past (λ (past : Past). IsTraced h key past) (pasts_at h s.site.0) key upload.items (none-traced publication (version_at w.publisher) w.subscribers w.pool h a key) (a.held s.site.0 key))
      (each-in (λ (c : MadeChange). is_of s.site.0 c ≡ true → s.received < c.generation → c.generation ≤ upload.to → is_sent sent_pasts upload.items c ≡ true) h.made (λ c is. one-sent c is))
