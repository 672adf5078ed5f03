-- Every step, and every list of events, keeps that lineages are of changes that were made.
use Rattle.std.specs.Prelude.{◌≡◌, ◌≤◌, ◌==◌, ◌++◌, ◌+◌, ℕ, zero, suc, List, [], ◌∷◌, Bool, true, false, Option, Some, None, refl, map}
use Rattle.std.specs.List.{AllByRecursion}
use Rattle.std.specs.Option.{option_to_list}
use Rattle.std.proofs.Common.{arith, subst, sym, ap, ◌∙◌}
use Rattle.std.proofs.lemmas.Bool.Decides.{nat_tests}
use Rattle.merge_types.specs.declared.changes.Change.{Change}
use Rattle.merge_types.specs.declared.identifiers.Dot.{Dot}
use Rattle.merge_types.specs.declared.identifiers.SiteId.{SiteId}
use Rattle.merge_types.specs.declared.values.Value.{Value}
use Rattle.merge_lineage.specs.Lineage.{joined, with_dot}
use Rattle.merge_units.specs.declared.result.Decision.{Decision}
use Rattle.merge_units.specs.declared.version.Version.{Version}
use Rattle.merge_conflict.specs.declared.row.ConflictRow.{ConflictRow}
use Rattle.merge_ident.specs.Holders.{Holder}
use Rattle.merge_conflict.specs.Losers.{publisher_site}
use Rattle.merge_schema.specs.declared.publication.Publication.{Publication}
use Rattle.merge_batch.specs.declared.reply.Act.{Act as Order}
use Rattle.merge_batch.specs.declared.reply.Act.TheVariants as order
use Rattle.merge_batch.specs.declared.reply.DownloadItem.{DownloadItem}
use Rattle.merge_batch.specs.declared.reply.Reply.{Reply}
use Rattle.merge_batch.specs.declared.reply.Reply.TheVariants as reply
use Rattle.merge_batch.specs.declared.request.Download.{Download}
use Rattle.merge_batch.specs.declared.request.Outstanding.TheVariants as ask
use Rattle.merge_batch.specs.declared.request.Request.TheVariants as request
use Rattle.merge_batch.specs.declared.request.Upload.{Upload}
use Rattle.merge_batch.specs.declared.request.UploadItem.{UploadItem}
use Rattle.merge_model.specs.Failing.{Slips, faulty}
use Rattle.merge_model.specs.Failing.Runs.{model_behind, model_behind_actions}
use Rattle.merge_model.specs.Publisher.Acts.{Act, acting_items, changes_by}
use Rattle.merge_model.specs.Judge.ByHistory.{by_made, by_past}
use Rattle.merge_model.specs.Tables.Changes.{key_of, version_after}
use Rattle.merge_model.specs.History.{History, pasts_with}
use Rattle.merge_model.specs.Judge.{PublisherJudge, SubscriberJudge}
use Rattle.merge_model.specs.Tables.Keys.{at_number, put_number}
use Rattle.merge_model.specs.History.Model.{Model, empty_model, model}
use Rattle.merge_model.specs.Publisher.{tables_after_close}
use Rattle.merge_model.specs.Publisher.PublisherDownload.{reply_to, tables_after_download}
use Rattle.merge_model.specs.Publisher.PublisherJoin.{join_taken}
use Rattle.merge_model.specs.Publisher.PublisherLocal.{Drawn, made_locally, next_dot, version_at}
use Rattle.merge_model.specs.Publisher.PublisherPurge.{purge}
use Rattle.merge_model.specs.Publisher.PublisherRanges.{plans, reply_to_ranges, with_grants}
use Rattle.merge_model.specs.Publisher.PublisherUpload.{taken_in}
use Rattle.merge_model.specs.Subscriber.Reinit.{discarded_rows_from, discarded_versions, result_of_reinit}
use Rattle.merge_model.specs.Subscriber.Sending.{join_of, upload_sent, want_of, with_message}
use Rattle.merge_model.specs.World.Steps.{Action, kept_decisions, upload_questions}
use Rattle.merge_model.specs.Subscriber.{subscriber_at_moment, subscriber_closed, subscriber_made_locally, subscriber_next_dot, subscriber_version_at, with_version_if}
use Rattle.merge_types.specs.declared.row_key.RowKey.{RowKey as Key}
use Rattle.merge_units.specs.declared.site_row.PublisherRow.{PublisherRow}
use Rattle.merge_units.specs.declared.site_row.SubscriberRow.{SubscriberRow}
use Rattle.merge_model.specs.Tables.{PublisherTables, SubscriberTables}
use Rattle.merge_model.specs.Subscriber.Taking.{row_above, tables_after_reply}
use Rattle.merge_model.specs.World.{Saying, World, empty_world, letter_at, subscriber_at, with_publisher, with_subscriber}
use Rattle.merge_model.specs.declared.letter.Message.TheVariants.{Asks, Replies}
use Rattle.merge_model.specs.declared.letter.Letter.{Letter}
use Rattle.merge_model.specs.declared.letter.Message.{Message}
use Rattle.merge_model.specs.declared.event.Event.{Event}
use Rattle.merge_model.proofs.Runs.Actions.{failing-actions-keep}
use Rattle.merge_laws.proofs.Runs.Tallied.{lineages-tallied, received-tallied}
use Rattle.merge_laws.specs.Facts.Lineages.{IsOfMade, LineagesAreMade, OfLineages, OfLost, OfMessage, OfOrder, OfPublisher, OfSubscriber}
use Rattle.merge_laws.specs.Facts.Knowledge.{changes_of}
use Rattle.merge_laws.specs.Facts.Received.{Received}
use Rattle.merge_model.proofs.Lists.Finding.{all-at, all-more, all-weaker, at_put_other, at_put_same}
use Rattle.merge_laws.proofs.Lineages.LineageLists.{made-dot, made-joined, made-none}
use Rattle.merge_laws.proofs.Lineages.{ActFits, acts-fit, after-fits, all-lost, anew-lost, held-found, own-above, own-found, own-items, own-put, put-items, rows-changed, sent-items, versions-fit, versions-local}
use Rattle.merge_model.proofs.Lists.{all-append, all-filter}
use Rattle.merge_laws.proofs.Received.Models.{begins, begins-with, model-fine}
use Rattle.merge_laws.proofs.Received.Subscribing.{number-decided, same_number, version-conflicts}
use Rattle.merge_laws.proofs.Unsent.UnsentKept.{version-site}
use Rattle.merge_laws.proofs.Walking.{Sends, StepsKeep, acts_in, comes, here, step-keeps, told_by, uploaded_world}
use Rattle.merge_laws.proofs.Runs.OfActions.{of-events}

version-changes : (key : Key) (found : Option Version) (u : SubscriberTables) → (with_version_if key found u).changes ≡ u.changes
version-changes key None u = refl
version-changes key (Some version) u = refl

reply-same : (judge : SubscriberJudge) (m : Reply) (s : SubscriberTables) (w : World) → ((tables_after_reply judge w.moment m s).site.0 ≡ s.site.0) × ((tables_after_reply judge w.moment m s).changes ≡ s.changes)
reply-same judge (reply.Joined m) s w = (refl, refl)
reply-same judge (reply.Uploaded m) s w = (refl, refl)
reply-same judge (reply.Ranged m) s w = (refl, refl)
reply-same judge (reply.Downloaded m) s w = (refl, refl)
reply-same judge (reply.Refused number values) s w = (refl, refl)

-- A world, by a fact of lineages.

module _ (Q : List Dot → Type 0) where
  publisher-put : (w : World) (q : PublisherTables) → OfPublisher Q q → OfLineages Q w → OfLineages Q (with_publisher q w)
  publisher-put w q new i = record { publisher = new; subscribers = i.subscribers; letters = i.letters }

  subscriber-at : (w : World) (t v : SubscriberTables) (n : ℕ) (b : Bool) → same_number n t.site.0 b → OfSubscriber Q t → OfLineages Q w → at_number (put_number w.subscribers t.site.0 t) n ≡ Some v → OfSubscriber Q v
  subscriber-at w t v n true same new i found =
      let put : at_number (put_number w.subscribers t.site.0 t) n ≡ Some t = ap (λ (m : ℕ). at_number (put_number w.subscribers t.site.0 t) m) same ∙ at_put_same t.site.0 t w.subscribers in
      let is_t : Some t ≡ Some v = sym put ∙ found in
      let both : t ≡ v = cc in
      subst (λ (x : SubscriberTables). OfSubscriber Q x) both new
  subscriber-at w t v n false differs new i found = i.subscribers n v (sym (at_put_other t.site.0 n t w.subscribers differs) ∙ found)

  subscriber-put : (w : World) (t : SubscriberTables) → OfSubscriber Q t → OfLineages Q w → OfLineages Q (with_subscriber t w)
  subscriber-put w t new i = record { publisher = i.publisher; subscribers = λ n v found. subscriber-at w t v n (n == t.site.0) (number-decided n t.site.0) new i found; letters = i.letters }

  letter-put : (w : World) (letter : Letter) → OfMessage Q letter.message → OfLineages Q w → OfLineages Q (record w { pool = w.pool ++ letter ∷ [] })
  letter-put w letter new i = record { publisher = i.publisher; subscribers = i.subscribers; letters = all-more (λ (x : Letter). OfMessage Q x.message) w.pool letter i.letters new }

  letter-of : (w : World) (number : ℕ) (letter : Letter) → OfLineages Q w → letter_at w number ≡ Some letter → OfMessage Q letter.message
  letter-of w zero letter i at = absurd (grind (arith, at))
  letter-of w (suc k) letter i at = all-at (λ (x : Letter). OfMessage Q x.message) w.pool k letter at i.letters

  -- the tables of one site
  publisher-same : (p q : PublisherTables) → q.rows ≡ p.rows → q.conflicts ≡ p.conflicts → OfPublisher Q p → OfPublisher Q q
  publisher-same p q rows lost f = record {
    rows = subst (λ (es : List (Key × PublisherRow)). AllByRecursion (λ (row : Key × PublisherRow). Q row.1.version.lineage) es) (sym rows) f.rows;
    lost = subst (λ (es : List ConflictRow). OfLost Q es) (sym lost) f.lost;
  }

  subscriber-same : (s t : SubscriberTables) → t.rows ≡ s.rows → t.conflicts ≡ s.conflicts → OfSubscriber Q s → OfSubscriber Q t
  subscriber-same s t rows lost f = record {
    rows = subst (λ (es : List (Key × SubscriberRow)). AllByRecursion (λ (row : Key × SubscriberRow). Q row.1.version.lineage) es) (sym rows) f.rows;
    lost = subst (λ (es : List ConflictRow). OfLost Q es) (sym lost) f.lost;
  }

  purged : (publication : Publication) (p : PublisherTables) (w : World) → OfPublisher Q w.publisher → OfPublisher Q (purge publication w.moment w.publisher).0
  purged publication p w f = record { rows = all-filter (λ (row : Key × PublisherRow). Q row.1.version.lineage) _ w.publisher.rows f.rows; lost = f.lost }

  own-made : (publication : Publication) (judge : PublisherJudge) (change : Change) (d : Drawn) (p : PublisherTables) → ((l : List Dot) → Q l → Q (with_dot (next_dot p) l)) → Q [] → OfPublisher Q p → OfPublisher Q (made_locally publication judge change d p).0
  own-made publication judge change d p knows none f =
      let key : Key = key_of (next_dot p) change in
      let found : Option Version = version_after publication (next_dot p) d.value change (version_at p key) in
      record {
        rows = rows-changed Q (map (λ (version : Version). (key, version)) (option_to_list found)) _ p.rows (versions-local Q key found (after-fits Q publication (next_dot p) d.value change (version_at p key) knows none (held-found Q p key f.rows))) f.rows;
        lost = f.lost;
      }

  upload-taken : (publication : Publication) (judge : PublisherJudge) (m : Upload) (acts : List Act) (p : PublisherTables) → ((a b : List Dot) → Q a → Q b → Q (joined a b)) → AllByRecursion (ActFits Q) acts → OfPublisher Q p → OfPublisher Q (taken_in publication judge m acts p)
  upload-taken publication judge m acts p join fits f = record {
    rows = rows-changed Q _ _ p.rows (versions-fit Q join acts fits) f.rows;
    lost = all-append (λ (row : ConflictRow). Q row.losing.lineage) p.conflicts _ f.lost (all-lost Q publication m.site p.latest (p.conflict_count + 1) acts fits);
  }

  change-made : (publication : Publication) (change : Change) (d : Value × List (ℕ × Holder)) (s : SubscriberTables) (w : World) → ((l : List Dot) → Q l → Q (with_dot (subscriber_next_dot s) l)) → Q [] → OfSubscriber Q s → OfSubscriber Q (subscriber_made_locally publication change d (subscriber_at_moment w.moment s)).0
  change-made publication change d s w knows none f =
      let key : Key = key_of (subscriber_next_dot s) change in
      let u : SubscriberTables = record (subscriber_at_moment w.moment s) { changes = s.changes + 1; held = d.1 } in
      let found : Option Version = version_after publication (subscriber_next_dot s) d.0 change (subscriber_version_at s key) in
      record {
        rows = own-put Q key found u (after-fits Q publication (subscriber_next_dot s) d.0 change (subscriber_version_at s key) knows none (own-found Q s key f.rows)) f.rows;
        lost = subst (λ (es : List ConflictRow). OfLost Q es) (sym (version-conflicts key found u)) f.lost;
      }

  reply-taken : (judge : SubscriberJudge) (m : Reply) (s : SubscriberTables) (w : World) → OfMessage Q (Replies m) → OfSubscriber Q s → OfSubscriber Q (tables_after_reply judge w.moment m s)
  reply-taken judge (reply.Joined m) s w new f = record { rows = f.rows; lost = f.lost }
  reply-taken judge (reply.Uploaded m) s w new f = record { rows = own-above Q m.received s.rows f.rows; lost = f.lost }
  reply-taken judge (reply.Ranged m) s w new f = record { rows = f.rows; lost = f.lost }
  reply-taken judge (reply.Downloaded m) s w new f = record { rows = own-items Q judge m.received m.items (map (row_above m.received) s.rows) new (own-above Q m.received s.rows f.rows); lost = f.lost }
  reply-taken judge (reply.Refused number values) s w new f = record { rows = f.rows; lost = f.lost }

  anew-made : (judge : SubscriberJudge) (s : SubscriberTables) (w : World) → OfSubscriber Q s → OfSubscriber Q (result_of_reinit judge (subscriber_at_moment w.moment s)).0
  anew-made judge s w f =
      let c : SubscriberTables = subscriber_at_moment w.moment s in
      record { rows = tt; lost = all-append (λ (row : ConflictRow). Q row.losing.lineage) s.conflicts (discarded_rows_from c (c.conflict_count + 1) (discarded_versions judge c)) f.lost (anew-lost Q judge c (c.conflict_count + 1) f.rows) }

  -- a message of a subscriber
  sends : (w : World) (s t : SubscriberTables) (message : Message) → OfSubscriber Q t → OfMessage Q message → OfLineages Q w → OfLineages Q (record (with_subscriber t w) { pool = w.pool ++ record { site = s.site; message = message } ∷ [] })
  sends w s t message new said i = letter-put (with_subscriber t w) (record { site = s.site; message = message }) said (subscriber-put w t new i)

-- where the fact says less
weaker-publisher : (Q R : List Dot → Type 0) → ((l : List Dot) → Q l → R l) → (p : PublisherTables) → OfPublisher Q p → OfPublisher R p
weaker-publisher Q R less p f = record {
  rows = all-weaker (λ (row : Key × PublisherRow). Q row.1.version.lineage) (λ (row : Key × PublisherRow). R row.1.version.lineage) (λ row fits. less row.1.version.lineage fits) p.rows f.rows;
  lost = all-weaker (λ (row : ConflictRow). Q row.losing.lineage) (λ (row : ConflictRow). R row.losing.lineage) (λ row fits. less row.losing.lineage fits) p.conflicts f.lost;
}

weaker-subscriber : (Q R : List Dot → Type 0) → ((l : List Dot) → Q l → R l) → (s : SubscriberTables) → OfSubscriber Q s → OfSubscriber R s
weaker-subscriber Q R less s f = record {
  rows = all-weaker (λ (row : Key × SubscriberRow). Q row.1.version.lineage) (λ (row : Key × SubscriberRow). R row.1.version.lineage) (λ row fits. less row.1.version.lineage fits) s.rows f.rows;
  lost = all-weaker (λ (row : ConflictRow). Q row.losing.lineage) (λ (row : ConflictRow). R row.losing.lineage) (λ row fits. less row.losing.lineage fits) s.conflicts f.lost;
}

weaker-order : (Q R : List Dot → Type 0) → ((l : List Dot) → Q l → R l) → (o : Order) → OfOrder Q o → OfOrder R o
weaker-order Q R less (order.Put lineage live) f = less lineage f
weaker-order Q R less order.RemoveDeleted f = tt
weaker-order Q R less order.RemoveLeft f = tt

weaker-message : (Q R : List Dot → Type 0) → ((l : List Dot) → Q l → R l) → (m : Message) → OfMessage Q m → OfMessage R m
weaker-message Q R less (Asks (request.Upload m)) f = all-weaker (λ (item : UploadItem). Q item.version.lineage) (λ (item : UploadItem). R item.version.lineage) (λ item fits. less item.version.lineage fits) m.items f
weaker-message Q R less (Asks (request.Join m)) f = tt
weaker-message Q R less (Asks (request.Ranges m)) f = tt
weaker-message Q R less (Asks (request.Download m)) f = tt
weaker-message Q R less (Replies (reply.Downloaded m)) f = all-weaker (λ (item : DownloadItem). OfOrder Q item.act) (λ (item : DownloadItem). OfOrder R item.act) (λ item fits. weaker-order Q R less item.act fits) m.items f
weaker-message Q R less (Replies (reply.Joined m)) f = tt
weaker-message Q R less (Replies (reply.Uploaded m)) f = tt
weaker-message Q R less (Replies (reply.Ranged m)) f = tt
weaker-message Q R less (Replies (reply.Refused number values)) f = tt

weaker-world : (Q R : List Dot → Type 0) → ((l : List Dot) → Q l → R l) → (w : World) → OfLineages Q w → OfLineages R w
weaker-world Q R less w i = record {
  publisher = weaker-publisher Q R less w.publisher i.publisher;
  subscribers = λ n s at. weaker-subscriber Q R less s (i.subscribers n s at);
  letters = all-weaker (λ (x : Letter). OfMessage Q x.message) (λ (x : Letter). OfMessage R x.message) (λ x fits. weaker-message Q R less x.message fits) w.pool i.letters;
}

rises : (w v : World) → ((n : ℕ) → changes_of w n ≤ changes_of v n) → LineagesAreMade w → OfLineages (IsOfMade (changes_of v)) w
rises w v up i = weaker-world (IsOfMade (changes_of w)) (IsOfMade (changes_of v)) (λ l f. record { ascends = f.ascends; within = λ n. (let a = f.within n in let b = up n in omega (arith, a, b)) }) w i

-- How many changes sites made.

changes-publisher : (w : World) (q : PublisherTables) (n : ℕ) (b : Bool) → (n == 0) ≡ b → w.publisher.changes ≤ q.changes → changes_of w n ≤ changes_of (with_publisher q w) n
changes-publisher w q n true e up = grind (arith, e, up)
changes-publisher w q n false e up = grind (arith, e)

changes-subscriber : (w : World) (s t : SubscriberTables) (n : ℕ) (zero_is b : Bool) → (n == 0) ≡ zero_is → same_number n t.site.0 b → t.site.0 ≡ s.site.0 → at_number w.subscribers s.site.0 ≡ Some s → s.changes ≤ t.changes → changes_of w n ≤ changes_of (with_subscriber t w) n
changes-subscriber w s t n true b e decide site at up = grind (arith, e)
changes-subscriber w s t n false true e same site at up =
    let before : at_number w.subscribers n ≡ Some s = ap (λ (k : ℕ). at_number w.subscribers k) (same ∙ site) ∙ at in
    let put : at_number (put_number w.subscribers t.site.0 t) n ≡ Some t = ap (λ (k : ℕ). at_number (put_number w.subscribers t.site.0 t) k) same ∙ at_put_same t.site.0 t w.subscribers in
    grind (arith, e, before, put, up)
changes-subscriber w s t n false false e differs site at up = let put = at_put_other t.site.0 n t w.subscribers differs in grind (arith, e, put)

changes-here : (w : World) (t : SubscriberTables) (n : ℕ) (b : Bool) → (n == 0) ≡ b → (n ≡ 0 → ⊥) → n ≡ t.site.0 → t.changes ≤ changes_of (with_subscriber t w) n
changes-here w t n true e named same = absurd (named (let is : n ≡ 0 = grind (arith, nat_tests, e) in is))
changes-here w t n false e named same =
    let put : at_number (put_number w.subscribers t.site.0 t) n ≡ Some t = ap (λ (k : ℕ). at_number (put_number w.subscribers t.site.0 t) k) same ∙ at_put_same t.site.0 t w.subscribers in
    grind (arith, e, put)

-- What each way keeps.

abbrev Made : World → List Dot → Type 0
Made w = IsOfMade (changes_of w)

on-publisher : (w : World) (q : PublisherTables) → w.publisher.changes ≤ q.changes → (OfPublisher (Made (with_publisher q w)) w.publisher → OfPublisher (Made (with_publisher q w)) q) → LineagesAreMade w → LineagesAreMade (with_publisher q w)
on-publisher w q up goes i =
    let j : OfLineages (Made (with_publisher q w)) w = rises w (with_publisher q w) (λ n. changes-publisher w q n (n == 0) refl up) i in
    publisher-put (Made (with_publisher q w)) w q (goes j.publisher) j

subscriber-rises : (w : World) (s t : SubscriberTables) → subscriber_at w s.site ≡ Some s → t.site.0 ≡ s.site.0 → s.changes ≤ t.changes → LineagesAreMade w → OfLineages (Made (with_subscriber t w)) w
subscriber-rises w s t at site up i = rises w (with_subscriber t w) (λ n. changes-subscriber w s t n (n == 0) (n == t.site.0) refl (number-decided n t.site.0) site at up) i

on-subscriber : (w : World) (s t : SubscriberTables) → subscriber_at w s.site ≡ Some s → t.site.0 ≡ s.site.0 → s.changes ≤ t.changes → (OfSubscriber (Made (with_subscriber t w)) s → OfSubscriber (Made (with_subscriber t w)) t) → LineagesAreMade w → LineagesAreMade (with_subscriber t w)
on-subscriber w s t at site up goes i =
    let j : OfLineages (Made (with_subscriber t w)) w = subscriber-rises w s t at site up i in
    subscriber-put (Made (with_subscriber t w)) w t (goes (j.subscribers s.site.0 s at)) j

on-letter : (w : World) (site : SiteId) (message : Message) → OfMessage (Made w) message → LineagesAreMade w → LineagesAreMade (record w { pool = w.pool ++ record { site = site; message = message } ∷ [] })
on-letter w site message said i = letter-put (Made w) w (record { site = site; message = message }) said i

abbrev OfWorlds : World → History → Type 0
OfWorlds w h = LineagesAreMade w

module _ (publication : Publication) (says : Saying) where
  -- the publisher's rows and its conflict table stay
  stays-there : (w : World) (q : PublisherTables) → q.rows ≡ w.publisher.rows → q.conflicts ≡ w.publisher.conflicts → q.changes ≡ w.publisher.changes → LineagesAreMade w → LineagesAreMade (with_publisher q w)
  stays-there w q rows lost same i = on-publisher w q (omega (arith, same)) (publisher-same (Made (with_publisher q w)) w.publisher q rows lost) i

  stays-here : (w : World) (s t : SubscriberTables) → subscriber_at w s.site ≡ Some s → t.site.0 ≡ s.site.0 → t.changes ≡ s.changes → t.rows ≡ s.rows → t.conflicts ≡ s.conflicts → LineagesAreMade w → LineagesAreMade (with_subscriber t w)
  stays-here w s t at site same rows lost i = on-subscriber w s t at site (omega (arith, same)) (subscriber-same (Made (with_subscriber t w)) s t rows lost) i

  own-kept : (w : World) (judge : PublisherJudge) (change : Change) (d : Drawn) → LineagesAreMade w → LineagesAreMade (with_publisher (made_locally publication judge change d (here w)).0 w)
  own-kept w judge change d i =
      let q : PublisherTables = (made_locally publication judge change d (here w)).0 in
      let Q : List Dot → Type 0 = Made (with_publisher q w) in
      on-publisher w q (omega arith)
      (λ f. own-made Q publication judge change d (here w) (λ l fits. made-dot (changes_of (with_publisher q w)) (next_dot (here w)) l (omega arith) fits) (made-none (changes_of (with_publisher q w))) (publisher-same Q w.publisher (here w) refl refl f)) i

  change-kept : (w : World) (s : SubscriberTables) (change : Change) (d : Value × List (ℕ × Holder)) → subscriber_at w s.site ≡ Some s → (s.site.0 ≡ 0 → ⊥) → LineagesAreMade w
      → LineagesAreMade (with_subscriber (subscriber_made_locally publication change d (subscriber_at_moment w.moment s)).0 w)
  change-kept w s change d at named i =
      let key : Key = key_of (subscriber_next_dot s) change in
      let u : SubscriberTables = record (subscriber_at_moment w.moment s) { changes = s.changes + 1; held = d.1 } in
      let found : Option Version = version_after publication (subscriber_next_dot s) d.0 change (subscriber_version_at s key) in
      let t : SubscriberTables = with_version_if key found u in
      let site : t.site.0 ≡ s.site.0 = version-site key found u in
      let more : t.changes ≡ s.changes + 1 = version-changes key found u in
      let Q : List Dot → Type 0 = Made (with_subscriber t w) in
      let counted : t.changes ≤ changes_of (with_subscriber t w) s.site.0 = changes-here w t s.site.0 (s.site.0 == 0) refl named (sym site) in
      on-subscriber w s t at site (omega (arith, more))
      (λ f. change-made Q publication change d s w (λ l fits. made-dot (changes_of (with_subscriber t w)) (subscriber_next_dot s) l (omega (arith, counted, more)) fits) (made-none (changes_of (with_subscriber t w))) f) i

  upload-kept : (w : World) (judge : PublisherJudge) (number : ℕ) (m : Upload) → comes w number m.site (Asks (request.Upload m)) → LineagesAreMade w → LineagesAreMade (with_publisher (taken_in publication judge m (acts_in publication says judge m w) (here w)) w)
  upload-kept w judge number m at i =
      let decisions : List Decision = kept_decisions says w.tallies (upload_questions publication judge w.moment m w.publisher) in
      let acts : List Act = acts_in publication says judge m w in
      let q : PublisherTables = taken_in publication judge m acts (here w) in
      let made : ℕ → ℕ = changes_of (with_publisher q w) in
      let top : ℕ = w.publisher.changes + changes_by acts in
      let up : w.publisher.changes ≤ q.changes = omega arith in
      let j : OfLineages (Made (with_publisher q w)) w = rises w (with_publisher q w) (λ n. changes-publisher w q n (n == 0) refl up) i in
      let items = letter-of (Made (with_publisher q w)) w number (record { site = m.site; message = Asks (request.Upload m) }) j at in
      let fits : AllByRecursion (ActFits (Made (with_publisher q w))) acts = acts-fit (Made (with_publisher q w)) judge m.site (here w) j.publisher.rows top
      (λ k below l known. made-dot made (record { site = publisher_site; number = k }) l (omega (arith, below)) known) (w.publisher.changes + 1) decisions (acting_items judge m) (omega arith)
      (all-filter (λ (item : UploadItem). Made (with_publisher q w) item.version.lineage) _ m.items items) in
      publisher-put (Made (with_publisher q w)) w q (upload-taken (Made (with_publisher q w)) publication judge m acts (here w) (made-joined made) fits (publisher-same (Made (with_publisher q w)) w.publisher (here w) refl refl j.publisher)) j

  upload-sends : (w : World) (h : History) (s : SubscriberTables) → subscriber_at w s.site ≡ Some s → LineagesAreMade w
      → (let made : SubscriberTables × Upload = upload_sent (by_made h s.site) (subscriber_closed (subscriber_at_moment w.moment s)) in Sends OfWorlds s.site (Asks (request.Upload made.1)) (with_subscriber made.0 w) h)
  upload-sends w h s at i =
      let c : SubscriberTables = subscriber_closed (subscriber_at_moment w.moment s) in
      let made : SubscriberTables × Upload = upload_sent (by_made h s.site) c in
      let v : World = with_subscriber made.0 w in
      let j : LineagesAreMade v = stays-here w s made.0 at refl refl refl refl i in
      let there : at_number v.subscribers s.site.0 ≡ Some made.0 = at_put_same s.site.0 made.0 w.subscribers in
      let f = j.subscribers s.site.0 made.0 there in
      on-letter v s.site (Asks (request.Upload made.1)) (sent-items (Made v) c _ f.rows) j

  ask-answers : (w : World) (h : History) (number : ℕ) (site : SiteId) (m : Download) → LineagesAreMade w
      → Sends OfWorlds site (Replies (reply.Downloaded (reply_to publication (by_past h (pasts_with h number)) m (tables_after_download m (here w))))) (with_publisher (tables_after_download m (here w)) w) h
  ask-answers w h number site m i =
      let q : PublisherTables = tables_after_download m (here w) in
      let v : World = with_publisher q w in
      let j : LineagesAreMade v = stays-there w q refl refl refl i in
      on-letter v site (Replies (reply.Downloaded (reply_to publication (by_past h (pasts_with h number)) m q))) (put-items (Made v) q _ j.publisher.rows) j

  pub lineages-keep : StepsKeep publication says Received OfWorlds
  lineages-keep = record {
    moment = λ w h now r i. record { publisher = i.publisher; subscribers = i.subscribers; letters = i.letters };
    own_change = λ w h change d r i fine is. own-kept w (by_past h (pasts_with h 0)) change d i;
    own_closing = λ w h r i. stays-there w (tables_after_close (here w)) refl refl refl i;
    forgetting = λ w h r i. (let q : PublisherTables = (purge publication w.moment w.publisher).0 in on-publisher w q (omega arith) (λ f. purged (Made (with_publisher q w)) publication w.publisher w f) i);
    same = λ w h s r i at. stays-here w s s at refl refl refl refl i;
    subscriber_change = λ w h s change d r i at named fine is. change-kept w s change d at named i;
    subscriber_closing = λ w h s r i at. stays-here w s (subscriber_closed (subscriber_at_moment w.moment s)) at refl refl refl refl i;
    anew = λ w h s r i at. (let judge : SubscriberJudge = by_made h s.site in let t : SubscriberTables = (result_of_reinit judge (subscriber_at_moment w.moment s)).0 in
        on-subscriber w s t at refl (omega arith) (λ f. anew-made (Made (with_subscriber t w)) judge s w f) i);
    sends_join = λ w h s r i at joining. (let t : SubscriberTables = with_message ask.Join s in on-letter (with_subscriber t w) s.site (Asks (request.Join (join_of s))) tt (stays-here w s t at refl refl refl refl i));
    sends_upload = λ w h s r i at fine. upload-sends w h s at i;
    sends_ranges = λ w h s r i at fine. (let t : SubscriberTables = with_message ask.Ranges s in on-letter (with_subscriber t w) s.site (Asks (request.Ranges (record { site = s.site; seq = s.seq + 1; wants = map want_of s.held }))) tt (stays-here w s t at refl refl refl refl i));
    sends_ask = λ w h s r i at fine. (let t : SubscriberTables = with_message (ask.Download s.watermark) s in on-letter (with_subscriber t w) s.site (Asks (request.Download (record { site = s.site; seq = s.seq + 1; from = s.watermark }))) tt (stays-here w s t at refl refl refl refl i));
    joins = λ w h number m r i at fine acts. (let q : PublisherTables = join_taken m (here w) in on-letter (with_publisher q w) m.site (Replies (reply.Joined (record { seq = m.seq }))) tt (stays-there w q refl refl refl i));
    joins_again = λ w h number m r i at acts. on-letter (with_publisher (here w) w) m.site (Replies (reply.Joined (record { seq = m.seq }))) tt (stays-there w (here w) refl refl refl i);
    uploads = λ w h number m r i at fine news. (let judge : PublisherJudge = by_past h (pasts_with h number) in let q : PublisherTables = taken_in publication judge m (acts_in publication says judge m w) (here w) in let v : World = uploaded_world publication says judge m q w in
        on-letter v m.site (Replies (reply.Uploaded (told_by judge m))) tt (lineages-tallied (with_publisher q w) v.tallies (Made v) (upload-kept w judge number m at i)));
    uploads_again = λ w h number m r i at none. (let judge : PublisherJudge = by_past h (pasts_with h number) in let v : World = uploaded_world publication says judge m (here w) w in
        on-letter v m.site (Replies (reply.Uploaded (told_by judge m))) tt (lineages-tallied (with_publisher (here w) w) v.tallies (Made v) (stays-there w (here w) refl refl refl i)));
    answers_ranges = λ w h site m r i. (let q : PublisherTables = with_grants (plans publication m w.publisher) (here w) in
        on-letter (with_publisher q w) site (Replies (reply.Ranged (reply_to_ranges m (plans publication m w.publisher)))) tt (stays-there w q refl refl refl i));
    answers_ask = λ w h number site m r i at fine. ask-answers w h number site m i;
    replies = λ w h s number m sent r i at there out none. (let judge : SubscriberJudge = by_made h s.site in let t : SubscriberTables = tables_after_reply judge w.moment m s in
        let facts = reply-same judge m s w in let same = facts.1 in let up : s.changes ≤ t.changes = omega (arith, same) in
        on-subscriber w s t at facts.0 up (λ f. reply-taken (Made (with_subscriber t w)) judge m s w (letter-of (Made (with_subscriber t w)) w number (record { site = s.site; message = Replies m }) (subscriber-rises w s t at facts.0 up i) there) f) i);
  }

-- how it begins
lineages-begin : (publication : Publication) (tallies : List ℕ) → LineagesAreMade (empty_world publication tallies)
lineages-begin publication tallies = record {
  publisher = record { rows = tt; lost = tt };
  subscribers = λ n s at. begins-with publication (λ (k : ℕ) (t : SubscriberTables). OfSubscriber (Made (empty_world publication tallies)) t) (λ k site keyed. record { rows = tt; lost = tt }) n s at;
  letters = tt;
}

pub lineages-by-actions : (publication : Publication) (says : Saying) (tallies : List ℕ) (slips : Slips) (actions : List Action)
    → (let m : Model = model_behind_actions publication says tallies slips actions in Received m.world m.history × LineagesAreMade m.world)
lineages-by-actions publication says tallies slips actions = failing-actions-keep publication (model publication says) (λ (m : Model). Received m.world m.history × LineagesAreMade m.world)
    (λ m action i. (model-fine publication says m action i.0, step-keeps publication says Received OfWorlds (λ w h r. r) (lineages-keep publication says) m action i.0 i.1)) (λ m others i. (received-tallied m.world others m.history i.0, lineages-tallied m.world others (Made m.world) i.1)) actions (faulty (empty_model publication tallies) slips)
    (begins publication tallies, lineages-begin publication tallies)

pub lineages-always : (publication : Publication) (says : Saying) (tallies : List ℕ) (slips : Slips) (events : List Event)
    → (let m : Model = model_behind publication says tallies slips events in Received m.world m.history × LineagesAreMade m.world)
lineages-always publication says tallies slips events = of-events publication says tallies slips events (λ (m : Model). Received m.world m.history × LineagesAreMade m.world) (lineages-by-actions publication says tallies slips)
