-- Every step keeps a fact of every version with its past, where the change or the acts of the step keep it: of these more is known here than of any
-- change and merge.
use Rattle.std.specs.Prelude.{◌≡◌, ◌+◌, ℕ, Bool, true, false, List, [], ◌∷◌, Option, Some, None, refl, flat_map, map, option_map}
use Rattle.std.specs.List.{AllByRecursion, fold, list_any}
use Rattle.std.specs.List.Sorted.{IsStrictlySortedBy}
use Rattle.std.specs.Map.{keys_of}
use Rattle.std.proofs.Common.{subst, sym, ◌∙◌}
use Rattle.merge_table.proofs.Sorted.{sorted_put}
use Rattle.merge_types.specs.declared.changes.Change.{Change}
use Rattle.merge_types.specs.declared.changes.Change.TheVariants.{Delete, Insert, Update}
use Rattle.merge_types.specs.declared.identifiers.Dot.{Dot}
use Rattle.merge_types.specs.declared.identifiers.SiteId.{SiteId}
use Rattle.merge_types.specs.declared.values.Value.{Value}
use Rattle.merge_units.specs.declared.result.Decision.{Decision}
use Rattle.merge_units.specs.declared.version.Version.{Version}
use Rattle.merge_conflict.specs.declared.row.ConflictRow.{ConflictRow}
use Rattle.merge_ident.specs.Holders.{Holder}
use Rattle.merge_schema.specs.declared.publication.Publication.{Publication}
use Rattle.merge_batch.specs.declared.reply.Reply.{Reply}
use Rattle.merge_batch.specs.declared.reply.Reply.TheVariants as reply
use Rattle.merge_batch.specs.declared.request.Download.{Download}
use Rattle.merge_batch.specs.declared.request.Join.{Join}
use Rattle.merge_batch.specs.declared.request.Request.TheVariants as request
use Rattle.merge_batch.specs.declared.request.Upload.{Upload}
use Rattle.merge_batch.specs.declared.request.UploadItem.{UploadItem}
use Rattle.merge_model.specs.Publisher.Acts.{Act, acting_items, key_of_item}
use Rattle.merge_model.specs.Judge.ByHistory.{by_history, by_made, by_past}
use Rattle.merge_model.specs.Tables.Changes.{key_of, version_after}
use Rattle.merge_model.specs.Publisher.Entries.{Changing, Entries, key_of_live, keys_of as all_keys, live_rows, partition_keys}
use Rattle.merge_model.specs.History.{History, Line, MadeChange, Past, past_at, past_in, pasts_at, pasts_with}
use Rattle.merge_model.specs.Judge.{PublisherJudge, SubscriberJudge}
use Rattle.merge_types.specs.RowKeys.{key_cmp}
use Rattle.merge_model.specs.Tables.Keys.{has_key, put_number, row_at, same_key}
use Rattle.merge_model.specs.Laws.{SubscriberIsSorted}
use Rattle.merge_model.specs.History.Noting
use Rattle.merge_model.specs.History.Pasts.{past_after}
use Rattle.merge_model.specs.Tables.Publications.{by_site}
use Rattle.merge_model.specs.Publisher.{last_closed}
use Rattle.merge_model.specs.Publisher.PublisherDownload.{TouchedRow, inside_keys, item_of, reply_to, tables_after_download, touched_row}
use Rattle.merge_batch.specs.Orders.{order_by}
use Rattle.merge_batch.specs.declared.reply.DownloadItem.{DownloadItem}
use Rattle.merge_resolve.specs.Priorities.{subscription_at}
use Rattle.merge_schema.specs.Partition.{LiveRow, partition_of}
use Rattle.merge_schema.specs.declared.publication.Subscription.{Subscription}
use Rattle.merge_units.specs.Version.{cells_of, is_live}
use Rattle.merge_units.specs.declared.version.Body.{Body}
use Rattle.merge_units.specs.declared.version.Body.TheVariants.{Dead, Live}
use Rattle.merge_units.specs.declared.site_row.PublisherRow.{PublisherRow}
use Rattle.merge_model.specs.Publisher.PublisherJoin.{join_taken}
use Rattle.merge_model.specs.Publisher.PublisherLocal.{Drawn, changing_locally, made_locally, next_dot, version_at, with_draw}
use Rattle.merge_model.specs.Publisher.PublisherPurge.{is_old_tombstone, purge}
use Rattle.merge_model.specs.Publisher.PublisherUpload.{changing_by, taken_in, upload_refusal, with_acts}
use Rattle.merge_model.specs.Subscriber.Reinit.{result_of_reinit}
use Rattle.merge_model.specs.Subscriber.Sending.{upload_sent}
use Rattle.merge_model.specs.World.Steps.{Forget, kept_decisions, upload_questions}
use Rattle.merge_model.specs.Subscriber.{subscriber_at_moment, subscriber_closed, subscriber_last_closed, subscriber_made_locally, subscriber_next_dot, subscriber_version_at, with_version_if}
use Rattle.merge_types.specs.declared.row_key.RowKey.{RowKey as Key}
use Rattle.merge_units.specs.declared.site_row.SubscriberRow.{SubscriberRow}
use Rattle.merge_model.specs.Tables.{PublisherTables, SubscriberTables}
use Rattle.merge_model.specs.Subscriber.Taking.{key_of_download, row_above, tables_after_reply}
use Rattle.merge_model.specs.World.{Saying, World, subscriber_at, with_publisher, with_subscriber}
use Rattle.merge_model.specs.declared.letter.Message.TheVariants.{Asks, Replies}
use Rattle.merge_model.proofs.Publishers.Sorted.{key_total, step-sorted}
use Rattle.merge_laws.specs.Facts.LineagesStand.{OfOrder}
use Rattle.merge_model.proofs.Lists.Finding.{found-named}
use Rattle.merge_laws.proofs.Runs.Ground.{Ground}
use Rattle.merge_model.proofs.Lists.{OfSome, all-filter, all-filter_map, all-map, all-unit}
use Rattle.merge_laws.proofs.Walking.Noted.{acts-own}
use Rattle.merge_laws.proofs.Told.ToldHistories.{Goes, goes-dropped, goes-lines, goes-others, goes-put_if, goes-same}
use Rattle.merge_laws.proofs.Told.ToldItems.{acts-apart}
use Rattle.merge_laws.proofs.Told.ToldLetters.{letter-fits, sent-fit}
use Rattle.merge_laws.proofs.Letters.LetterPasts.{orders-sent, removed-order}
use Rattle.merge_laws.proofs.Accounts.AccountAnswers.{among-lives}
use Rattle.merge_model.proofs.Entries.Downloads.{any-map, inside-live}
use Rattle.merge_laws.proofs.Told.ToldReplies.{anew-goes, items-go, versions-above}
use Rattle.merge_laws.proofs.Told.ToldRows.{HeldFits, drop_version, found-put, found_in, keyed, put_if, put_version}
use Rattle.merge_laws.proofs.Told.ToldSites.{Every, letter-goes, own_version, publisher-begins, publisher-goes, publisher-stays, subscriber-begins, subscriber-goes, subscriber-stays}
use Rattle.merge_laws.proofs.Told.ToldTables.{changed-ascends, changed-versions, forgotten-versions, one-put, row_version}
use Rattle.merge_laws.proofs.Told.ToldUploads.{acts-fit}
use Rattle.merge_laws.proofs.Told.ToldWalk.{changed-sorted, none-ascends, none-held}
use Rattle.merge_owed.proofs.VersionActs.{ActMakes, acts-go}
use Rattle.merge_laws.proofs.Unsent.Unsending.{received-sorted}
use Rattle.merge_laws.proofs.Unsent.UnsentKept.{all-found, version-site}
use Rattle.merge_laws.proofs.Walking.{Sends, acts_in, comes, here, join_noted, own_noted}

-- A row in a partition is among the live ones, and a live version is the one that a reply puts.

inside-among : (publication : Publication) (found : Option Subscription) (key : Key) (rows : List (Key × PublisherRow)) → (let keys : List Key = elim found [ None ↦ [] | Some subscription ↦ partition_keys publication subscription rows ] in has_key keys key ≡ true)
    → list_any (λ (row : LiveRow). same_key key (key_of_live row)) (live_rows rows) ≡ true
inside-among publication None key rows is = absurd cc
inside-among publication (Some subscription) key rows is =
    let test : LiveRow → Bool = λ x. same_key key (key_of_live x) in
    inside-live publication subscription.host (live_rows rows) test (sym (any-map (same_key key) key_of_live (partition_of publication subscription.host (live_rows rows))) ∙ is)

live-same : (lineage : List Dot) (body : Body) → is_live body ≡ true → (let put : Version = record { lineage = lineage; body = Live (cells_of body) } in put) ≡ record { lineage = lineage; body = body }
live-same lineage (Live cells) lives = refl
live-same lineage (Dead top) lives = absurd cc

module _ (P : Key → Version → Past → Type 0) where
  changed-goes : (n : ℕ) (before h : History) (key : Key) (found : Option Version) (u : SubscriberTables) → Goes P n before (put_if (subscriber_version_at u) (keyed key found)) u.conflicts h
      → Goes P n before (subscriber_version_at (with_version_if key found u)) (with_version_if key found u).conflicts h
  changed-goes n before h key None u g = g
  changed-goes n before h key (Some version) u g = goes-same P n before u.conflicts (put_version (subscriber_version_at u) (key, version)) (subscriber_version_at (with_version_if key (Some version) u)) h (λ q. found-put own_version u.rows key _ q) g

  purged-goes : (before : History) (conflicts : List ConflictRow) (keys : List Key) (found : Key → Option Version) (h : History) → Goes P 0 before found conflicts h → Goes P 0 before (fold drop_version found keys) conflicts (fold Noting.with_purged h keys)
  purged-goes before conflicts [] found h g = g
  purged-goes before conflicts (key ∷ keys) found h g =
      let purged : History = record h { purged = key ∷ h.purged } in
      purged-goes before conflicts keys (drop_version found key) (Noting.with_purged h key)
      (goes-dropped P 0 before conflicts found purged (goes-others P 0 before conflicts found h g h.made h.lines h.done h.accepted (key ∷ h.purged) h.bases) key)

module _ (publication : Publication) (says : Saying) (P : Key → Version → Past → Type 0) (w : World) (h : History) (b : Ground publication w h) (e : Every P w h) where
  abbrev conflicts : List ConflictRow
  conflicts = w.publisher.conflicts

  abbrev found : Key → Option Version
  found = version_at w.publisher

  abbrev started : Goes P 0 h found conflicts h
  started = publisher-begins P w h e

  on-publisher : (q : PublisherTables) (k : History) → IsStrictlySortedBy key_cmp (keys_of q.rows) → Goes P 0 h (version_at q) q.conflicts k → Every P (with_publisher q w) k
  on-publisher q k sorted g = publisher-goes P w h k q b.none sorted g e

  pub own-change : (change : Change) (d : Drawn)
      → (let key : Key = key_of (next_dot (here w)) change in HeldFits P key (found key) (past_at h 0 key) → HeldFits P key (version_after publication (next_dot (here w)) d.value change (found key)) (past_after publication (next_dot (here w)) change (past_at h 0 key)))
      → (let judge : PublisherJudge = by_past h (pasts_with h 0) in Every P (with_publisher (made_locally publication judge change d (here w)).0 w) (own_noted publication judge change d (here w) h))
  own-change change d makes =
      let judge : PublisherJudge = by_past h (pasts_with h 0) in
      let p : PublisherTables = here w in
      let dot : Dot = next_dot p in
      let key : Key = key_of dot change in
      let version : Option Version = version_after publication dot d.value change (found key) in
      let past : Past = past_after publication dot change (past_at h 0 key) in
      let c : MadeChange = Noting.made_change publication dot (last_closed p + 1) change d.value key past in
      let made : History = record h { made = c ∷ h.made } in
      let changing : Changing = changing_locally publication change d.value p in
      let lines : List Line = Noting.lines_of_entries (last_closed p + 1) (Noting.drawn_entries publication judge change p d) in
      let put : Goes P 0 h (put_if found (keyed key version)) conflicts (Noting.with_past 0 key past made) =
      goes-put_if P 0 h conflicts found made (goes-others P 0 h conflicts found h started (c ∷ h.made) h.lines h.done h.accepted h.purged h.bases) key version past
      (none-held publication dot d.value change (found key)) (makes (started.held key)) in
      on-publisher (made_locally publication judge change d p).0 (own_noted publication judge change d p h) (changed-ascends publication judge changing (with_draw d p) b.sorted.rows_ascend)
      (goes-lines P 0 h conflicts lines (version_at (made_locally publication judge change d p).0) (Noting.with_past 0 key past made)
      (goes-same P 0 h conflicts (put_if found (keyed key version)) (version_at (made_locally publication judge change d p).0) (Noting.with_past 0 key past made)
      (λ q. changed-versions publication judge changing (with_draw d p) q ∙ one-put key version found q) put))

  pub forgets : Every P (with_publisher (purge publication w.moment w.publisher).0 w) (Noting.noted_purge publication (by_past h (pasts_with h 0)) (here w) h)
  forgets =
      let judge : PublisherJudge = by_past h (pasts_with h 0) in
      let p : PublisherTables = here w in
      let q : PublisherTables = (purge publication w.moment w.publisher).0 in
      let keys : List Key = Noting.old_tombstones publication p in
      let k : History = fold Noting.with_purged h keys in
      let lines : List Line = map (Noting.gone_line (last_closed p + 1)) (flat_map (Noting.old_left publication judge p) (map Noting.site_of_subscription (by_site publication))) in
      on-publisher q (Noting.with_lines lines k) (step-sorted publication says (by_history h) w Forget b.sorted).rows_ascend
      (goes-lines P 0 h conflicts lines (version_at q) k
      (goes-same P 0 h conflicts (fold drop_version found keys) (version_at q) k (λ key. forgotten-versions (is_old_tombstone publication p) p.rows b.sorted.rows_ascend key) (purged-goes P h conflicts keys found h started)))

  pub joins : (number : ℕ) (m : Join) → Every P (with_publisher (join_taken m (here w)) w) (join_noted (by_past h (pasts_with h number)) m w.publisher h)
  joins number m =
      let judge : PublisherJudge = by_past h (pasts_with h number) in
      let done : History = Noting.with_done m.site.0 0 m.generation h in
      let k : History = record done { bases = put_number h.bases m.site.0 (last_closed w.publisher) } in
      let lines : List Line = map (Noting.gone_line (last_closed w.publisher + 1)) (map (Noting.gone_for m.site) (Noting.left_rows judge m.site)) in
      on-publisher (join_taken m (here w)) (Noting.with_lines lines k) b.sorted.rows_ascend
      (goes-lines P 0 h conflicts lines found k (goes-others P 0 h conflicts found h started h.made h.lines done.done h.accepted h.purged k.bases))

  pub uploads : (number : ℕ) (m : Upload) → comes w number m.site (Asks (request.Upload m))
      → (let judge : PublisherJudge = by_past h (pasts_with h number) in upload_refusal publication judge w.moment m w.publisher ≡ None → AllByRecursion (ActMakes P (pasts_with h number)) (acts_in publication says judge m w)
      → Every P (with_publisher (taken_in publication judge m (acts_in publication says judge m w) (here w)) w) (Noting.with_acts_noted publication judge m (acts_in publication says judge m w) (pasts_with h number) (here w) h))
  uploads number m at fine makes =
      let incoming : List (Key × Past) = pasts_with h number in
      let judge : PublisherJudge = by_past h incoming in
      let p : PublisherTables = here w in
      let decisions : List Decision = kept_decisions says w.tallies (upload_questions publication judge w.moment m w.publisher) in
      let acts : List Act = acts_in publication says judge m w in
      let q : PublisherTables = taken_in publication judge m acts p in
      let entries : Entries = Noting.acts_entries publication judge m acts p in
      let items : AllByRecursion (λ (item : UploadItem). P (key_of_item item) item.version (past_in incoming (key_of_item item))) m.items = letter-fits P w h number (record { site = m.site; message = Asks (request.Upload m) }) at e.letters in
      let fits = acts-fit P h incoming m.site p started.held (p.changes + 1) decisions (acting_items judge m)
      (all-filter (λ (item : UploadItem). P (key_of_item item) item.version (past_in incoming (key_of_item item))) _ m.items items) in
      let k : History = fold (Noting.with_act incoming entries) h acts in
      let gone = acts-go P publication m.site p.latest h incoming entries (p.conflict_count + 1) acts found conflicts h (acts-own judge m decisions p) (acts-apart publication judge w.moment m decisions w.publisher p fine) fits makes started in
      let lines : List Line = Noting.lines_of_entries (last_closed p + 1) entries in
      let lined : History = Noting.with_lines lines k in
      let told : Goes P 0 h (version_at q) q.conflicts lined = goes-lines P 0 h q.conflicts lines (version_at q) k
      (goes-same P 0 h q.conflicts _ (version_at q) k (λ key. changed-versions publication judge (changing_by m acts) (with_acts publication m acts p) key) gone) in
      on-publisher q (Noting.with_done m.site.0 m.from m.to lined) (changed-ascends publication judge (changing_by m acts) (with_acts publication m acts p) b.sorted.rows_ascend)
      (goes-others P 0 h q.conflicts (version_at q) lined told lined.made lined.lines (Noting.with_done m.site.0 m.from m.to lined).done lined.accepted lined.purged lined.bases)

  -- A subscriber.
  module _ (s : SubscriberTables) (at : subscriber_at w s.site ≡ Some s) where
    abbrev own : Goes P s.site.0 h (subscriber_version_at s) s.conflicts h
    own = subscriber-begins P w h s at e

    abbrev named : s.site.0 ≡ 0 → ⊥
    named = found-named w.subscribers s.site.0 s b.none at

    abbrev ordered : IsStrictlySortedBy key_cmp (keys_of s.rows)
    ordered = (all-found SubscriberIsSorted w.subscribers s.site.0 s b.rows at).rows_ascend

    on-subscriber : (t : SubscriberTables) (k : History) → t.site.0 ≡ s.site.0 → IsStrictlySortedBy key_cmp (keys_of t.rows) → Goes P s.site.0 h (subscriber_version_at t) t.conflicts k → Every P (with_subscriber t w) k
    on-subscriber t k site sorted g = subst (λ (n : ℕ). Every P (record w { subscribers = put_number w.subscribers n t }) k) (sym site) (subscriber-goes P w h k s.site.0 t named sorted g e)

    pub stays : (t : SubscriberTables) → t.site.0 ≡ s.site.0 → t.rows ≡ s.rows → t.conflicts ≡ s.conflicts → Every P (with_subscriber t w) h
    stays t site rows lost = subscriber-stays P w h s t at site rows lost e

    pub sub-change : (change : Change) (d : Value × List (ℕ × Holder))
        → (let key : Key = key_of (subscriber_next_dot s) change in HeldFits P key (subscriber_version_at s key) (past_at h s.site.0 key)
        → HeldFits P key (version_after publication (subscriber_next_dot s) d.0 change (subscriber_version_at s key)) (past_after publication (subscriber_next_dot s) change (past_at h s.site.0 key)))
        → Every P (with_subscriber (subscriber_made_locally publication change d (subscriber_at_moment w.moment s)).0 w) (Noting.with_change publication (subscriber_next_dot s) (subscriber_last_closed s + 1) change d.0 h)
    sub-change change d makes =
        let dot : Dot = subscriber_next_dot s in
        let key : Key = key_of dot change in
        let u : SubscriberTables = record (subscriber_at_moment w.moment s) { changes = s.changes + 1; held = d.1 } in
        let version : Option Version = version_after publication dot d.0 change (subscriber_version_at s key) in
        let past : Past = past_after publication dot change (past_at h s.site.0 key) in
        let c : MadeChange = Noting.made_change publication dot (subscriber_last_closed s + 1) change d.0 key past in
        let made : History = record h { made = c ∷ h.made } in
        let put : Goes P s.site.0 h (put_if (subscriber_version_at s) (keyed key version)) s.conflicts (Noting.with_past s.site.0 key past made) =
        goes-put_if P s.site.0 h s.conflicts (subscriber_version_at s) made (goes-others P s.site.0 h s.conflicts (subscriber_version_at s) h own (c ∷ h.made) h.lines h.done h.accepted h.purged h.bases) key version past
        (none-held publication dot d.0 change (subscriber_version_at s key)) (makes (own.held key)) in
        on-subscriber (with_version_if key version u) (Noting.with_past s.site.0 key past made) (version-site key version u) (changed-sorted key version u ordered) (changed-goes P s.site.0 h (Noting.with_past s.site.0 key past made) key version u put)

    pub anew : (let judge : SubscriberJudge = by_made h s.site in Every P (with_subscriber (result_of_reinit judge (subscriber_at_moment w.moment s)).0 w) (Noting.noted_anew judge s h))
    anew =
        let judge : SubscriberJudge = by_made h s.site in
        let c : SubscriberTables = subscriber_at_moment w.moment s in
        on-subscriber (result_of_reinit judge c).0 (Noting.noted_anew judge s h) refl none-ascends (anew-goes P s h c judge (c.conflict_count + 1) (subscriber_version_at s) (e.subscribers s.site.0 s at) own)

    pub replies : (judge : SubscriberJudge) (number : ℕ) (m : Reply) → comes w number s.site (Replies m) → Every P (with_subscriber (tables_after_reply judge w.moment m s) w) (Noting.noted_reply judge s.site (pasts_with h number) m h)
    replies judge number (reply.Joined m) there = stays (tables_after_reply judge w.moment (reply.Joined m) s) refl refl refl
    replies judge number (reply.Uploaded m) there = on-subscriber (tables_after_reply judge w.moment (reply.Uploaded m) s) h refl (received-sorted m.received s.rows ordered)
        (goes-same P s.site.0 h s.conflicts (subscriber_version_at s) (subscriber_version_at (tables_after_reply judge w.moment (reply.Uploaded m) s)) h (λ q. versions-above m.received s.rows q) own)
    replies judge number (reply.Ranged m) there = stays (tables_after_reply judge w.moment (reply.Ranged m) s) refl refl refl
    replies judge number (reply.Downloaded m) there =
        let incoming : List (Key × Past) = pasts_with h number in
        let rows : List (Key × SubscriberRow) = map (row_above m.received) s.rows in
        let gone = items-go P s.site.0 h s.conflicts incoming judge m.received m.items rows h (letter-fits P w h number (record { site = s.site; message = Replies (reply.Downloaded m) }) there e.letters)
        (received-sorted m.received s.rows ordered, goes-same P s.site.0 h s.conflicts (subscriber_version_at s) (found_in own_version rows) h (λ q. versions-above m.received s.rows q) own) in
        on-subscriber (tables_after_reply judge w.moment (reply.Downloaded m) s) (Noting.noted_reply judge s.site incoming (reply.Downloaded m) h) refl gone.0 gone.1
    replies judge number (reply.Refused code values) there = stays (tables_after_reply judge w.moment (reply.Refused code values) s) refl refl refl

    pub sends-upload : (let made : SubscriberTables × Upload = upload_sent (by_made h s.site) (subscriber_closed (subscriber_at_moment w.moment s)) in Sends (Every P) s.site (Asks (request.Upload made.1)) (with_subscriber made.0 w) h)
    sends-upload =
        let c : SubscriberTables = subscriber_closed (subscriber_at_moment w.moment s) in
        let made : SubscriberTables × Upload = upload_sent (by_made h s.site) c in
        letter-goes P (with_subscriber made.0 w) h s.site (Asks (request.Upload made.1)) (sent-fit P c (pasts_at h s.site.0) _ own.held) (stays made.0 refl refl refl)

  -- What the publisher puts into a reply lives, so that it is its own version.
  module _ (number : ℕ) (site : SiteId) (m : Download) where
    abbrev asker : PublisherJudge
    asker = by_past h (pasts_with h number)

    abbrev told : PublisherTables
    told = tables_after_download m (here w)

    row-order : (key : Key) (is_in : Bool) (row : Option PublisherRow) → row_at told.rows key ≡ row → (is_in ≡ true → has_key (inside_keys publication m.site told) key ≡ true)
        → HeldFits P key (option_map row_version row) (past_at h 0 key) → OfOrder P key (past_at h 0 key) (order_by is_in (option_map row_version row))
    row-order key true None at inside fits = tt
    row-order key false None at inside fits = tt
    row-order key false (Some row) at inside fits = removed-order P key (past_at h 0 key) (is_live row.version.body)
    row-order key true (Some row) at inside fits =
        let lives : is_live row.version.body ≡ true = among-lives key told.rows row b.sorted.rows_ascend (inside-among publication (subscription_at publication m.site.0) key told.rows (inside refl)) at in
        subst (λ (version : Version). P key version (past_at h 0 key)) (sym (live-same row.version.lineage row.version.body lives)) fits

    abbrev IsInside : TouchedRow → Type 0
    IsInside row = row.is_in ≡ true → has_key (inside_keys publication m.site told) row.key ≡ true

    touched-inside : (key : Key) (generation : Option ℕ) → (let row : Option TouchedRow = option_map (λ (g : ℕ). record { key = key; is_in = has_key (inside_keys publication m.site told) key; generation = g }) generation in OfSome IsInside row)
    touched-inside key None = tt
    touched-inside key (Some generation) = λ is. is

    orders : AllByRecursion (λ (item : DownloadItem). OfOrder P (key_of_download item) (past_at h 0 (key_of_download item)) item.act) (reply_to publication asker m told).items
    orders = all-map IsInside (λ (item : DownloadItem). OfOrder P (key_of_download item) (past_at h 0 (key_of_download item)) item.act) (item_of told)
        (λ row inside. row-order row.key row.is_in (row_at told.rows row.key) refl inside (started.held row.key)) _
        (all-filter IsInside _ _ (all-filter_map (λ (key : Key). Unit {0}) IsInside (touched_row asker m.site (inside_keys publication m.site told)) (λ key none. touched-inside key (asker.touch key m.site.0 (has_key (inside_keys publication m.site told) key)))
        (all_keys told.rows (asker.moved_rows m.site.0)) (all-unit (all_keys told.rows (asker.moved_rows m.site.0)))))

    pub answers-ask : Sends (Every P) site (Replies (reply.Downloaded (reply_to publication asker m told))) (with_publisher told w) h
    answers-ask = letter-goes P (with_publisher told w) h site (Replies (reply.Downloaded (reply_to publication asker m told))) (orders-sent P (pasts_at h 0) (reply_to publication asker m told).items orders) (publisher-stays P w h told refl refl e)
