-- Every step keeps a fact of every version with its past, where local changes, merges and replies keep it.
use Rattle.std.specs.Prelude.{◌≡◌, ◌+◌, ℕ, List, [], ◌∷◌, Option, Some, None, refl, flat_map, length, map}
use Rattle.std.specs.List.{AllByRecursion, fold}
use Rattle.std.specs.List.Sorted.{IsStrictlySortedBy}
use Rattle.std.specs.Map.{keys_of}
use Rattle.std.proofs.Common.{subst, sym, ◌∙◌}
use Rattle.merge_table.proofs.Sorted.{sorted_put}
use Rattle.merge_types.specs.declared.changes.Change.{Change}
use Rattle.merge_types.specs.declared.changes.Change.TheVariants.{Delete, Insert, Update}
use Rattle.merge_types.specs.declared.identifiers.Dot.{Dot}
use Rattle.merge_types.specs.declared.identifiers.SiteId.{SiteId}
use Rattle.merge_types.specs.declared.values.Value.{Value}
use Rattle.merge_units.specs.declared.result.Decision.{Decision}
use Rattle.merge_units.specs.declared.version.Version.{Version}
use Rattle.merge_conflict.specs.declared.row.ConflictRow.{ConflictRow}
use Rattle.merge_ident.specs.Holders.{Holder}
use Rattle.merge_schema.specs.declared.publication.Publication.{Publication}
use Rattle.merge_batch.specs.declared.reply.Reply.{Reply}
use Rattle.merge_batch.specs.declared.reply.Reply.TheVariants as reply
use Rattle.merge_batch.specs.declared.request.Download.{Download}
use Rattle.merge_batch.specs.declared.request.Join.{Join}
use Rattle.merge_batch.specs.declared.request.Outstanding.TheVariants as ask
use Rattle.merge_batch.specs.declared.request.Request.TheVariants as request
use Rattle.merge_batch.specs.declared.request.Upload.{Upload}
use Rattle.merge_batch.specs.declared.request.UploadItem.{UploadItem}
use Rattle.merge_model.specs.Publisher.Acts.{Act, acting_items, key_of_item}
use Rattle.merge_model.specs.Judge.ByHistory.{by_history, by_made, by_past}
use Rattle.merge_model.specs.Tables.Changes.{change_refusal, key_of, version_after}
use Rattle.merge_model.specs.Publisher.Entries.{Changing, Entries}
use Rattle.merge_model.specs.History.{History, Line, MadeChange, Past, past_at, past_in, pasts_at, pasts_with, no_history}
use Rattle.merge_model.specs.Judge.{PublisherJudge, SubscriberJudge}
use Rattle.merge_types.specs.RowKeys.{key_cmp}
use Rattle.merge_model.specs.Tables.Keys.{put_number}
use Rattle.merge_model.specs.Laws.{SubscriberIsSorted}
use Rattle.merge_model.specs.History.Model.{empty_model}
use Rattle.merge_model.specs.History.Noting
use Rattle.merge_model.specs.History.Pasts.{past_after}
use Rattle.merge_model.specs.Tables.Publications.{by_site}
use Rattle.merge_model.specs.Publisher.{counters, last_closed, tables_after_close}
use Rattle.merge_model.specs.Publisher.PublisherDownload.{reply_to, tables_after_download}
use Rattle.merge_model.specs.Publisher.PublisherJoin.{join_taken}
use Rattle.merge_model.specs.Publisher.PublisherLocal.{Drawn, changing_locally, local_refusal, made_locally, next_dot, version_at, with_draw}
use Rattle.merge_model.specs.Publisher.PublisherPurge.{is_old_tombstone, purge}
use Rattle.merge_model.specs.Publisher.PublisherRanges.{plans, reply_to_ranges, with_grants}
use Rattle.merge_model.specs.Publisher.PublisherUpload.{changing_by, taken_in, upload_refusal, with_acts}
use Rattle.merge_model.specs.Tables.Refusals.{counter_end}
use Rattle.merge_model.specs.Subscriber.Reinit.{result_of_reinit}
use Rattle.merge_model.specs.Subscriber.Sending.{join_of, upload_sent, want_of, with_message}
use Rattle.merge_model.specs.World.Steps.{Forget, kept_decisions, upload_questions}
use Rattle.merge_model.specs.Subscriber.{is_joining, subscriber_at_moment, subscriber_closed, subscriber_counters, subscriber_last_closed, subscriber_local_refusal, subscriber_made_locally, subscriber_next_dot, subscriber_version_at, with_version_if}
use Rattle.merge_types.specs.declared.row_key.RowKey.{RowKey as Key}
use Rattle.merge_units.specs.declared.site_row.SubscriberRow.{SubscriberRow}
use Rattle.merge_model.specs.Tables.{PublisherTables, SubscriberTables}
use Rattle.merge_model.specs.Subscriber.Taking.{row_above, tables_after_reply}
use Rattle.merge_model.specs.World.{Saying, World, subscriber_at, with_publisher, with_subscriber}
use Rattle.merge_model.specs.declared.letter.Message.TheVariants.{Asks, Replies}
use Rattle.merge_model.proofs.Publishers.Sorted.{key_total, step-sorted}
use Rattle.merge_laws.specs.Facts.LineagesStand.{EveryVersion}
use Rattle.merge_model.proofs.Runs.Refusals.{first-none}
use Rattle.merge_model.proofs.Lists.Finding.{found-named}
use Rattle.merge_laws.proofs.Runs.Ground.{Ground}
use Rattle.merge_model.proofs.Lists.{all-filter}
use Rattle.merge_laws.proofs.Received.Models.{begins-with}
use Rattle.merge_laws.proofs.Walking.Noted.{acts-own}
use Rattle.merge_laws.proofs.Told.ToldHistories.{Goes, goes-dropped, goes-lines, goes-others, goes-put_if, goes-same}
use Rattle.merge_laws.proofs.Told.ToldItems.{acts-apart}
use Rattle.merge_laws.proofs.Told.ToldLetters.{letter-fits, put-fit, sent-fit}
use Rattle.merge_laws.proofs.Told.ToldReplies.{anew-goes, items-go, versions-above}
use Rattle.merge_laws.proofs.Told.ToldRows.{drop_version, found-put, found_in, keyed, put_if, put_version}
use Rattle.merge_laws.proofs.Told.ToldSites.{DiscardsFit, Every, OwnFits, letter-goes, own_version, publisher-begins, publisher-goes, publisher-stays, subscriber-begins, subscriber-goes, subscriber-stays, world-stays}
use Rattle.merge_laws.proofs.Told.ToldTables.{changed-ascends, changed-versions, forgotten-versions, one-put}
use Rattle.merge_laws.proofs.Told.ToldUploads.{GoesOn, acts-fit, acts-go}
use Rattle.merge_laws.proofs.Unsent.Unsending.{received-sorted}
use Rattle.merge_laws.proofs.Unsent.UnsentKept.{all-found, version-site}
use Rattle.merge_laws.proofs.Walking.{Sends, StepsKeep, acts_in, comes, here, join_noted, own_noted, told_by, uploaded_world}

-- a row that a change leaves without a version had none
pub none-held : (publication : Publication) (dot : Dot) (identity : Value) (change : Change) (held : Option Version) → version_after publication dot identity change held ≡ None → held ≡ None
none-held publication dot identity (Insert article values) held none = absurd cc
none-held publication dot identity (Update article row values) None none = refl
none-held publication dot identity (Update article row values) (Some version) none = absurd cc
none-held publication dot identity (Delete article row) None none = refl
none-held publication dot identity (Delete article row) (Some version) none = absurd cc

pub none-ascends : IsStrictlySortedBy key_cmp (keys_of (let none : List (Key × SubscriberRow) = [] in none))
unfolding IsStrictlySortedBy
none-ascends = tt

-- a subscriber's rows after a change
pub changed-sorted : (key : Key) (found : Option Version) (u : SubscriberTables) → IsStrictlySortedBy key_cmp (keys_of u.rows) → IsStrictlySortedBy key_cmp (keys_of (with_version_if key found u).rows)
changed-sorted key None u sorted = sorted
changed-sorted key (Some version) u sorted = sorted_put key_cmp key_total key _ u.rows sorted

module _ (P : Key → Version → Past → Type 0) where
  changed-goes : (n : ℕ) (before h : History) (key : Key) (found : Option Version) (u : SubscriberTables) → Goes P n before (put_if (subscriber_version_at u) (keyed key found)) u.conflicts h
      → Goes P n before (subscriber_version_at (with_version_if key found u)) (with_version_if key found u).conflicts h
  changed-goes n before h key None u g = g
  changed-goes n before h key (Some version) u g = goes-same P n before u.conflicts (put_version (subscriber_version_at u) (key, version)) (subscriber_version_at (with_version_if key (Some version) u)) h (λ q. found-put own_version u.rows key _ q) g

  purged-goes : (before : History) (conflicts : List ConflictRow) (keys : List Key) (found : Key → Option Version) (h : History) → Goes P 0 before found conflicts h → Goes P 0 before (fold drop_version found keys) conflicts (fold Noting.with_purged h keys)
  purged-goes before conflicts [] found h g = g
  purged-goes before conflicts (key ∷ keys) found h g =
      let purged : History = record h { purged = key ∷ h.purged } in
      purged-goes before conflicts keys (drop_version found key) (Noting.with_purged h key)
      (goes-dropped P 0 before conflicts found purged (goes-others P 0 before conflicts found h g h.made h.lines h.done h.accepted (key ∷ h.purged) h.bases) key)

module _ (publication : Publication) (says : Saying) (P : Key → Version → Past → Type 0) (on : GoesOn publication P) (w : World) (h : History) (b : Ground publication w h) (e : Every P w h) where
  abbrev conflicts : List ConflictRow
  conflicts = w.publisher.conflicts

  abbrev found : Key → Option Version
  found = version_at w.publisher

  abbrev started : Goes P 0 h found conflicts h
  started = publisher-begins P w h e

  on-publisher : (q : PublisherTables) (k : History) → IsStrictlySortedBy key_cmp (keys_of q.rows) → Goes P 0 h (version_at q) q.conflicts k → Every P (with_publisher q w) k
  on-publisher q k sorted g = publisher-goes P w h k q b.none sorted g e

  own-change : (change : Change) (d : Drawn) → local_refusal publication change w.publisher ≡ None
      → (let judge : PublisherJudge = by_past h (pasts_with h 0) in Every P (with_publisher (made_locally publication judge change d (here w)).0 w) (own_noted publication judge change d (here w) h))
  own-change change d fine =
      let judge : PublisherJudge = by_past h (pasts_with h 0) in
      let p : PublisherTables = here w in
      let dot : Dot = next_dot p in
      let key : Key = key_of dot change in
      let version : Option Version = version_after publication dot d.value change (found key) in
      let past : Past = past_after publication dot change (past_at h 0 key) in
      let c : MadeChange = Noting.made_change publication dot (last_closed p + 1) change d.value key past in
      let made : History = record h { made = c ∷ h.made } in
      let changing : Changing = changing_locally publication change d.value p in
      let lines : List Line = Noting.lines_of_entries (last_closed p + 1) (Noting.drawn_entries publication judge change p d) in
      let counters = first-none (counter_end (counters w.publisher)) _ fine in
      let refused = first-none (change_refusal publication dot change (found key) (length p.rows)) _ counters.1 in
      let put : Goes P 0 h (put_if found (keyed key version)) conflicts (Noting.with_past 0 key past made) =
      goes-put_if P 0 h conflicts found made (goes-others P 0 h conflicts found h started (c ∷ h.made) h.lines h.done h.accepted h.purged h.bases) key version past
      (none-held publication dot d.value change (found key)) (on.changed dot d.value change (found key) (length p.rows) (past_at h 0 key) refused.0 (started.held key)) in
      on-publisher (made_locally publication judge change d p).0 (own_noted publication judge change d p h) (changed-ascends publication judge changing (with_draw d p) b.sorted.rows_ascend)
      (goes-lines P 0 h conflicts lines (version_at (made_locally publication judge change d p).0) (Noting.with_past 0 key past made)
      (goes-same P 0 h conflicts (put_if found (keyed key version)) (version_at (made_locally publication judge change d p).0) (Noting.with_past 0 key past made)
      (λ q. changed-versions publication judge changing (with_draw d p) q ∙ one-put key version found q) put))

  forgets : Every P (with_publisher (purge publication w.moment w.publisher).0 w) (Noting.noted_purge publication (by_past h (pasts_with h 0)) (here w) h)
  forgets =
      let judge : PublisherJudge = by_past h (pasts_with h 0) in
      let p : PublisherTables = here w in
      let q : PublisherTables = (purge publication w.moment w.publisher).0 in
      let keys : List Key = Noting.old_tombstones publication p in
      let k : History = fold Noting.with_purged h keys in
      let lines : List Line = map (Noting.gone_line (last_closed p + 1)) (flat_map (Noting.old_left publication judge p) (map Noting.site_of_subscription (by_site publication))) in
      on-publisher q (Noting.with_lines lines k) (step-sorted publication says (by_history h) w Forget b.sorted).rows_ascend
      (goes-lines P 0 h conflicts lines (version_at q) k
      (goes-same P 0 h conflicts (fold drop_version found keys) (version_at q) k (λ key. forgotten-versions (is_old_tombstone publication p) p.rows b.sorted.rows_ascend key) (purged-goes P h conflicts keys found h started)))

  joins : (number : ℕ) (m : Join) → Every P (with_publisher (join_taken m (here w)) w) (join_noted (by_past h (pasts_with h number)) m w.publisher h)
  joins number m =
      let judge : PublisherJudge = by_past h (pasts_with h number) in
      let done : History = Noting.with_done m.site.0 0 m.generation h in
      let k : History = record done { bases = put_number h.bases m.site.0 (last_closed w.publisher) } in
      let lines : List Line = map (Noting.gone_line (last_closed w.publisher + 1)) (map (Noting.gone_for m.site) (Noting.left_rows judge m.site)) in
      on-publisher (join_taken m (here w)) (Noting.with_lines lines k) b.sorted.rows_ascend
      (goes-lines P 0 h conflicts lines found k (goes-others P 0 h conflicts found h started h.made h.lines done.done h.accepted h.purged k.bases))

  uploads : (number : ℕ) (m : Upload) → comes w number m.site (Asks (request.Upload m))
      → (let judge : PublisherJudge = by_past h (pasts_with h number) in upload_refusal publication judge w.moment m w.publisher ≡ None
      → Every P (with_publisher (taken_in publication judge m (acts_in publication says judge m w) (here w)) w) (Noting.with_acts_noted publication judge m (acts_in publication says judge m w) (pasts_with h number) (here w) h))
  uploads number m at fine =
      let incoming : List (Key × Past) = pasts_with h number in
      let judge : PublisherJudge = by_past h incoming in
      let p : PublisherTables = here w in
      let decisions : List Decision = kept_decisions says w.tallies (upload_questions publication judge w.moment m w.publisher) in
      let acts : List Act = acts_in publication says judge m w in
      let q : PublisherTables = taken_in publication judge m acts p in
      let entries : Entries = Noting.acts_entries publication judge m acts p in
      let items : AllByRecursion (λ (item : UploadItem). P (key_of_item item) item.version (past_in incoming (key_of_item item))) m.items = letter-fits P w h number (record { site = m.site; message = Asks (request.Upload m) }) at e.letters in
      let fits = acts-fit P h incoming m.site p started.held (p.changes + 1) decisions (acting_items judge m)
      (all-filter (λ (item : UploadItem). P (key_of_item item) item.version (past_in incoming (key_of_item item))) _ m.items items) in
      let k : History = fold (Noting.with_act incoming entries) h acts in
      let gone = acts-go P publication on judge m.site p.latest h incoming entries (p.conflict_count + 1) acts found conflicts h (acts-own judge m decisions p) (acts-apart publication judge w.moment m decisions w.publisher p fine) fits started in
      let lines : List Line = Noting.lines_of_entries (last_closed p + 1) entries in
      let lined : History = Noting.with_lines lines k in
      let told : Goes P 0 h (version_at q) q.conflicts lined = goes-lines P 0 h q.conflicts lines (version_at q) k
      (goes-same P 0 h q.conflicts _ (version_at q) k (λ key. changed-versions publication judge (changing_by m acts) (with_acts publication m acts p) key) gone) in
      on-publisher q (Noting.with_done m.site.0 m.from m.to lined) (changed-ascends publication judge (changing_by m acts) (with_acts publication m acts p) b.sorted.rows_ascend)
      (goes-others P 0 h q.conflicts (version_at q) lined told lined.made lined.lines (Noting.with_done m.site.0 m.from m.to lined).done lined.accepted lined.purged lined.bases)

  -- A subscriber.
  module _ (s : SubscriberTables) (at : subscriber_at w s.site ≡ Some s) where
    abbrev own : Goes P s.site.0 h (subscriber_version_at s) s.conflicts h
    own = subscriber-begins P w h s at e

    abbrev named : s.site.0 ≡ 0 → ⊥
    named = found-named w.subscribers s.site.0 s b.none at

    abbrev ordered : IsStrictlySortedBy key_cmp (keys_of s.rows)
    ordered = (all-found SubscriberIsSorted w.subscribers s.site.0 s b.rows at).rows_ascend

    on-subscriber : (t : SubscriberTables) (k : History) → t.site.0 ≡ s.site.0 → IsStrictlySortedBy key_cmp (keys_of t.rows) → Goes P s.site.0 h (subscriber_version_at t) t.conflicts k → Every P (with_subscriber t w) k
    on-subscriber t k site sorted g = subst (λ (n : ℕ). Every P (record w { subscribers = put_number w.subscribers n t }) k) (sym site) (subscriber-goes P w h k s.site.0 t named sorted g e)

    stays : (t : SubscriberTables) → t.site.0 ≡ s.site.0 → t.rows ≡ s.rows → t.conflicts ≡ s.conflicts → Every P (with_subscriber t w) h
    stays t site rows lost = subscriber-stays P w h s t at site rows lost e

    sub-change : (change : Change) (d : Value × List (ℕ × Holder)) → subscriber_local_refusal publication change s ≡ None
        → Every P (with_subscriber (subscriber_made_locally publication change d (subscriber_at_moment w.moment s)).0 w) (Noting.with_change publication (subscriber_next_dot s) (subscriber_last_closed s + 1) change d.0 h)
    sub-change change d fine =
        let dot : Dot = subscriber_next_dot s in
        let key : Key = key_of dot change in
        let u : SubscriberTables = record (subscriber_at_moment w.moment s) { changes = s.changes + 1; held = d.1 } in
        let version : Option Version = version_after publication dot d.0 change (subscriber_version_at s key) in
        let past : Past = past_after publication dot change (past_at h s.site.0 key) in
        let c : MadeChange = Noting.made_change publication dot (subscriber_last_closed s + 1) change d.0 key past in
        let made : History = record h { made = c ∷ h.made } in
        let joins = first-none (is_joining s) _ fine in
        let counters = first-none (counter_end (subscriber_counters s)) _ joins.1 in
        let refused = first-none (change_refusal publication dot change (subscriber_version_at s key) (length s.rows)) _ counters.1 in
        let put : Goes P s.site.0 h (put_if (subscriber_version_at s) (keyed key version)) s.conflicts (Noting.with_past s.site.0 key past made) =
        goes-put_if P s.site.0 h s.conflicts (subscriber_version_at s) made (goes-others P s.site.0 h s.conflicts (subscriber_version_at s) h own (c ∷ h.made) h.lines h.done h.accepted h.purged h.bases) key version past
        (none-held publication dot d.0 change (subscriber_version_at s key)) (on.changed dot d.0 change (subscriber_version_at s key) (length s.rows) (past_at h s.site.0 key) refused.0 (own.held key)) in
        on-subscriber (with_version_if key version u) (Noting.with_past s.site.0 key past made) (version-site key version u) (changed-sorted key version u ordered) (changed-goes P s.site.0 h (Noting.with_past s.site.0 key past made) key version u put)

    anew : (let judge : SubscriberJudge = by_made h s.site in Every P (with_subscriber (result_of_reinit judge (subscriber_at_moment w.moment s)).0 w) (Noting.noted_anew judge s h))
    anew =
        let judge : SubscriberJudge = by_made h s.site in
        let c : SubscriberTables = subscriber_at_moment w.moment s in
        on-subscriber (result_of_reinit judge c).0 (Noting.noted_anew judge s h) refl none-ascends (anew-goes P s h c judge (c.conflict_count + 1) (subscriber_version_at s) (e.subscribers s.site.0 s at) own)

    replies : (judge : SubscriberJudge) (number : ℕ) (m : Reply) → comes w number s.site (Replies m) → Every P (with_subscriber (tables_after_reply judge w.moment m s) w) (Noting.noted_reply judge s.site (pasts_with h number) m h)
    replies judge number (reply.Joined m) there = stays (tables_after_reply judge w.moment (reply.Joined m) s) refl refl refl
    replies judge number (reply.Uploaded m) there = on-subscriber (tables_after_reply judge w.moment (reply.Uploaded m) s) h refl (received-sorted m.received s.rows ordered)
        (goes-same P s.site.0 h s.conflicts (subscriber_version_at s) (subscriber_version_at (tables_after_reply judge w.moment (reply.Uploaded m) s)) h (λ q. versions-above m.received s.rows q) own)
    replies judge number (reply.Ranged m) there = stays (tables_after_reply judge w.moment (reply.Ranged m) s) refl refl refl
    replies judge number (reply.Downloaded m) there =
        let incoming : List (Key × Past) = pasts_with h number in
        let rows : List (Key × SubscriberRow) = map (row_above m.received) s.rows in
        let gone = items-go P s.site.0 h s.conflicts incoming judge m.received m.items rows h (letter-fits P w h number (record { site = s.site; message = Replies (reply.Downloaded m) }) there e.letters)
        (received-sorted m.received s.rows ordered, goes-same P s.site.0 h s.conflicts (subscriber_version_at s) (found_in own_version rows) h (λ q. versions-above m.received s.rows q) own) in
        on-subscriber (tables_after_reply judge w.moment (reply.Downloaded m) s) (Noting.noted_reply judge s.site incoming (reply.Downloaded m) h) refl gone.0 gone.1
    replies judge number (reply.Refused code values) there = stays (tables_after_reply judge w.moment (reply.Refused code values) s) refl refl refl

    sends-upload : (let made : SubscriberTables × Upload = upload_sent (by_made h s.site) (subscriber_closed (subscriber_at_moment w.moment s)) in Sends (Every P) s.site (Asks (request.Upload made.1)) (with_subscriber made.0 w) h)
    sends-upload =
        let c : SubscriberTables = subscriber_closed (subscriber_at_moment w.moment s) in
        let made : SubscriberTables × Upload = upload_sent (by_made h s.site) c in
        letter-goes P (with_subscriber made.0 w) h s.site (Asks (request.Upload made.1)) (sent-fit P c (pasts_at h s.site.0) _ own.held) (stays made.0 refl refl refl)

  answers-ask : (number : ℕ) (site : SiteId) (m : Download)
      → Sends (Every P) site (Replies (reply.Downloaded (reply_to publication (by_past h (pasts_with h number)) m (tables_after_download m (here w))))) (with_publisher (tables_after_download m (here w)) w) h
  answers-ask number site m =
      let q : PublisherTables = tables_after_download m (here w) in
      letter-goes P (with_publisher q w) h site (Replies (reply.Downloaded (reply_to publication (by_past h (pasts_with h number)) m q))) (put-fit P on.put q (pasts_at h 0) _ started.held) (publisher-stays P w h q refl refl e)

module _ (publication : Publication) (says : Saying) (P : Key → Version → Past → Type 0) (on : GoesOn publication P) where
  pub every-keeps : StepsKeep publication says (Ground publication) (Every P)
  every-keeps = record {
    moment = λ w h now b e. world-stays P w (record w { moment = now }) h refl refl refl e;
    own_change = λ w h change d b e fine is. own-change publication says P on w h b e change d fine;
    own_closing = λ w h b e. publisher-stays P w h (tables_after_close (here w)) refl refl e;
    forgetting = λ w h b e. forgets publication says P on w h b e;
    same = λ w h s b e at. stays publication says P on w h b e s at s refl refl refl;
    subscriber_change = λ w h s change d b e at named fine is. sub-change publication says P on w h b e s at change d fine;
    subscriber_closing = λ w h s b e at. stays publication says P on w h b e s at (subscriber_closed (subscriber_at_moment w.moment s)) refl refl refl;
    anew = λ w h s b e at. anew publication says P on w h b e s at;
    sends_join = λ w h s b e at joining. (let t : SubscriberTables = with_message ask.Join s in letter-goes P (with_subscriber t w) h s.site (Asks (request.Join (join_of s))) tt (stays publication says P on w h b e s at t refl refl refl));
    sends_upload = λ w h s b e at fine. sends-upload publication says P on w h b e s at;
    sends_ranges = λ w h s b e at fine. (let t : SubscriberTables = with_message ask.Ranges s in
        letter-goes P (with_subscriber t w) h s.site (Asks (request.Ranges (record { site = s.site; seq = s.seq + 1; wants = map want_of s.held }))) tt (stays publication says P on w h b e s at t refl refl refl));
    sends_ask = λ w h s b e at fine. (let t : SubscriberTables = with_message (ask.Download s.watermark) s in
        letter-goes P (with_subscriber t w) h s.site (Asks (request.Download (record { site = s.site; seq = s.seq + 1; from = s.watermark }))) tt (stays publication says P on w h b e s at t refl refl refl));
    joins = λ w h number m b e at fine acts. letter-goes P (with_publisher (join_taken m (here w)) w) (join_noted (by_past h (pasts_with h number)) m w.publisher h) m.site (Replies (reply.Joined (record { seq = m.seq }))) tt
        (joins publication says P on w h b e number m);
    joins_again = λ w h number m b e at acts. letter-goes P (with_publisher (here w) w) h m.site (Replies (reply.Joined (record { seq = m.seq }))) tt (publisher-stays P w h (here w) refl refl e);
    uploads = λ w h number m b e at fine news. (let judge : PublisherJudge = by_past h (pasts_with h number) in
        let acts : List Act = acts_in publication says judge m w in
        let q : PublisherTables = taken_in publication judge m acts (here w) in
        let k : History = Noting.with_acts_noted publication judge m acts (pasts_with h number) (here w) h in
        let v : World = uploaded_world publication says judge m q w in
        letter-goes P v k m.site (Replies (reply.Uploaded (told_by judge m))) tt (world-stays P (with_publisher q w) v k refl refl refl (uploads publication says P on w h b e number m at fine)));
    uploads_again = λ w h number m b e at none. (let judge : PublisherJudge = by_past h (pasts_with h number) in
        let v : World = uploaded_world publication says judge m (here w) w in
        letter-goes P v h m.site (Replies (reply.Uploaded (told_by judge m))) tt (world-stays P (with_publisher (here w) w) v h refl refl refl (publisher-stays P w h (here w) refl refl e)));
    answers_ranges = λ w h site m b e. (let q : PublisherTables = with_grants (plans publication m w.publisher) (here w) in
        letter-goes P (with_publisher q w) h site (Replies (reply.Ranged (reply_to_ranges m (plans publication m w.publisher)))) tt (publisher-stays P w h q refl refl e));
    answers_ask = λ w h number site m b e at fine. answers-ask publication says P on w h b e number site m;
    replies = λ w h s number m sent b e at there out none. replies publication says P on w h b e s at (by_made h s.site) number m there;
  }

-- Where nothing has happened there is no version.
pub every-begins : (P : Key → Version → Past → Type 0) (publication : Publication) (tallies : List ℕ) → EveryVersion P (empty_model publication tallies)
every-begins P publication tallies = record {
  publisher = tt;
  subscribers = λ n s at. begins-with publication (λ (k : ℕ) (t : SubscriberTables). OwnFits P k no_history t) (λ k site keyed. tt) n s at;
  letters = tt;
  conflicts = tt;
  discards = λ n s at. begins-with publication (λ (k : ℕ) (t : SubscriberTables). DiscardsFit P k no_history t) (λ k site keyed. tt) n s at;
}
