-- What is accepted stays so through local changes, where a site is made anew, and through purges.
use Rattle.std.specs.Prelude.{◌≡◌, ◌≤◌, ◌<◌, ◌==◌, ◌+◌, ℕ, List, [], ◌∷◌, true, false, Option, Some, None, refl, flat_map, map}
use Rattle.std.specs.List.{AllByRecursion, AllZip, fold}
use Rattle.std.proofs.Common.{arith, subst, sym, ap, ◌∙◌}
use Rattle.std.proofs.lemmas.Bool.Decides.{nat_tests}
use Rattle.merge_types.specs.declared.changes.Change.{Change}
use Rattle.merge_types.specs.declared.identifiers.Dot.{Dot}
use Rattle.merge_types.specs.declared.identifiers.SiteId.{SiteId}
use Rattle.merge_types.specs.declared.values.Value.{Value}
use Rattle.merge_units.specs.declared.version.Version.{Version}
use Rattle.merge_ident.specs.Holders.{Holder}
use Rattle.merge_schema.specs.declared.publication.Publication.{Publication}
use Rattle.merge_batch.specs.Makers.{maker_of}
use Rattle.merge_batch.specs.declared.request.Request.TheVariants as request
use Rattle.merge_batch.specs.declared.request.UploadItem.{UploadItem}
use Rattle.merge_model.specs.Publisher.Acts.{key_of_item}
use Rattle.merge_model.specs.Judge.ByHistory.{by_made}
use Rattle.merge_model.specs.Judge.ByNumbers.{received_by_number, received_number_by_number}
use Rattle.merge_model.specs.Tables.Changes.{key_of, version_after}
use Rattle.merge_model.specs.History.{History, Line, MadeChange, Past, has, is_accepted, made_at, past_at, past_in, pasts_at}
use Rattle.merge_model.specs.Judge.{PublisherJudge, SubscriberJudge}
use Rattle.merge_model.specs.Tables.Keys.{at_number, drop_row, put_number, put_row}
use Rattle.merge_model.specs.History.Noting
use Rattle.merge_model.specs.History.Pasts.{past_after}
use Rattle.merge_model.specs.Tables.Publications.{by_site}
use Rattle.merge_model.specs.Publisher.{last_closed}
use Rattle.merge_model.specs.Publisher.PublisherLocal.{Drawn, local_refusal, made_locally, next_dot}
use Rattle.merge_model.specs.Publisher.PublisherPurge.{purge}
use Rattle.merge_model.specs.Subscriber.Reinit.{discarded_versions, result_of_reinit}
use Rattle.merge_model.specs.Subscriber.{is_joining, subscriber_at_moment, subscriber_last_closed, subscriber_local_refusal, subscriber_made_locally, subscriber_next_dot, subscriber_version_at, with_version_if}
use Rattle.merge_types.specs.declared.row_key.RowKey.{RowKey as Key}
use Rattle.merge_model.specs.Tables.{PublisherTables, SubscriberTables}
use Rattle.merge_model.specs.World.{World, subscriber_at, with_publisher, with_subscriber}
use Rattle.merge_model.specs.declared.letter.Message.TheVariants.{Asks, Replies}
use Rattle.merge_model.specs.declared.letter.Letter.{Letter}
use Rattle.merge_model.specs.declared.letter.Message.{Message}
use Rattle.merge_laws.specs.Invariants.Accepted.{Accepted, IsUpTo, SendsInserts}
use Rattle.merge_laws.specs.Facts.Knowledge.{AllKnow, AreNumbered, Known, changes_of, same_dot, was_made}
use Rattle.merge_laws.specs.Invariants.KnownMakers.{Ascend, KnownMakers, KnowsMaker}
use Rattle.merge_model.specs.Laws.Promises.{is_given_up}
use Rattle.merge_laws.specs.Facts.LineagesStand.{OfMessage}
use Rattle.merge_laws.specs.Facts.Numbered.{Numbered}
use Rattle.merge_laws.proofs.Accepted.AcceptedOrder.{was-below}
use Rattle.merge_laws.proofs.Accepted.AcceptedParts.{PastFits, SiteFits, all-fit, count-on, lines-accept, nothing-fits, others-accepted, publisher-accepted, send-on}
use Rattle.merge_model.proofs.Runs.Refusals.{first-none}
use Rattle.merge_model.proofs.Lists.Finding.{found-named}
use Rattle.merge_laws.proofs.Runs.Ground.{Ground}
use Rattle.merge_model.proofs.Lists.KeyLookUps.{keys-same}
use Rattle.merge_laws.proofs.Known.Knowing.{after-known}
use Rattle.merge_laws.proofs.Known.KnownCounts.{own-count}
use Rattle.merge_laws.proofs.Known.KnownRows.{past-knows}
use Rattle.merge_laws.proofs.Makers.MakerChanges.{knows-after, made-below, own-held, own-small, sub-held, sub-small}
use Rattle.merge_laws.proofs.Pasts.PastLists.{drop-ascends, each-dropped, each-put}
use Rattle.merge_laws.proofs.Pasts.PastLookUps.{all-sites, put-here, put-there}
use Rattle.merge_laws.proofs.Received.Publishing.{same-sites}
use Rattle.merge_laws.proofs.Received.Steps.{joined-flag}
use Rattle.merge_model.proofs.Lists.Tests.{either}
use Rattle.merge_laws.proofs.Numbered.Through.{order-within}
use Rattle.merge_laws.proofs.Unsent.UnsentKept.{version-site}
use Rattle.merge_laws.proofs.Walking.{here, own_noted}
use Rattle.merge_laws.proofs.Pasts.WorldLists.{all-subscribers}

-- A change knows itself and, at most, what its row knew.

pub after-fits : (publication : Publication) (p : PublisherTables) (h : History) (n : ℕ) (dot : Dot) (change : Change) (past : Past) → dot.site.0 ≡ n → (1 ≤ n → (other : Dot) → same_dot dot other ≡ true → is_given_up p h other ≡ false)
    → PastFits p h n past → PastFits p h n (past_after publication dot change past)
after-fits publication p h n dot change past own counts fits = (
  (λ other is differs. either (is_accepted h other ≡ true) (same_dot dot other) (has past.known other) (after-known publication dot change past other is) (λ same. absurd (differs (grind (arith, nat_tests, same, own)))) (λ old. fits.0 other old differs)),
  (λ low other is. either (is_given_up p h other ≡ false) (same_dot dot other) (has past.known other) (after-known publication dot change past other is) (λ same. counts low other same) (λ old. fits.1 low other old)),
)

-- A new change made no row that a letter has.

pub new-up-to : (count : ℕ → ℕ) (h : History) (pasts : List (Key × Past)) (site to : ℕ) (key : Key) (c : MadeChange) → AreNumbered count h → AllKnow h.made pasts → KnowsMaker key (past_in pasts key).known → count c.dot.site.0 < c.dot.number → IsUpTo site to key c
new-up-to count h pasts site to key c numbered all knows above same maker own =
    let row : key ≡ c.key = keys-same key c.key same in
    let made : maker_of key.row.0 ≡ Some c.dot = ap (λ (k : Key). maker_of k.row.0) row ∙ maker in
    let below = made-below count h key c.dot numbered ((past-knows h.made key pasts all).made_here c.dot (knows c.dot made)) in
    absurd (omega (arith, below, above))

abbrev pub Goes : List MadeChange → List MadeChange → ℕ → ℕ → Key → Type 0
Goes made more site to key = AllByRecursion (IsUpTo site to key) made → AllByRecursion (IsUpTo site to key) more

items-inserts : (made more : List MadeChange) (pasts : List (Key × Past)) (site to : ℕ) → ((key : Key) → KnowsMaker key (past_in pasts key).known → Goes made more site to key) → (items : List UploadItem)
    → AllByRecursion (λ (item : UploadItem). KnowsMaker (key_of_item item) (past_in pasts (key_of_item item)).known) items
    → AllByRecursion (λ (item : UploadItem). AllByRecursion (IsUpTo site to (key_of_item item)) made) items → AllByRecursion (λ (item : UploadItem). AllByRecursion (IsUpTo site to (key_of_item item)) more) items
items-inserts made more pasts site to goes [] knows all = tt
items-inserts made more pasts site to goes (item ∷ items) knows all = (goes (key_of_item item) knows.0 all.0, items-inserts made more pasts site to goes items knows.1 all.1)

message-inserts : (made more : List MadeChange) (pasts : List (Key × Past)) (message : Message) → ((site to : ℕ) (key : Key) → KnowsMaker key (past_in pasts key).known → Goes made more site to key)
    → OfMessage (λ (key : Key) (version : Version) (past : Past). KnowsMaker key past.known) pasts message → SendsInserts made message → SendsInserts more message
message-inserts made more pasts (Asks (request.Upload m)) goes knows all = items-inserts made more pasts m.site.0 m.to (λ key maker. goes m.site.0 m.to key maker) m.items knows all
message-inserts made more pasts (Asks (request.Join m)) goes knows all = tt
message-inserts made more pasts (Asks (request.Ranges m)) goes knows all = tt
message-inserts made more pasts (Asks (request.Download m)) goes knows all = tt
message-inserts made more pasts (Replies m) goes knows all = tt

zip-inserts : (made before more : List MadeChange) (pool : List Letter) (letters : List (List (Key × Past)))
    → ((pasts : List (Key × Past)) (site to : ℕ) (key : Key) → AllKnow made pasts → KnowsMaker key (past_in pasts key).known → Goes before more site to key)
    → AllZip (λ (letter : Letter) (pasts : List (Key × Past)). OfMessage (λ (key : Key) (version : Version) (past : Past). KnowsMaker key past.known) pasts letter.message) pool letters
    → AllByRecursion (AllKnow made) letters → AllByRecursion (λ (letter : Letter). SendsInserts before letter.message) pool → AllByRecursion (λ (letter : Letter). SendsInserts more letter.message) pool
zip-inserts made before more [] letters goes knows sent all = tt
zip-inserts made before more (letter ∷ pool) [] goes knows sent all = absurd knows
zip-inserts made before more (letter ∷ pool) (pasts ∷ letters) goes knows sent all = (
  message-inserts before more pasts letter.message (λ site to key maker. goes pasts site to key sent.0 maker) knows.0 all.0,
  zip-inserts made before more pool letters goes knows.1 sent.1 all.1,
)

-- what letters say of inserts stays so, as changes are made that are new
pub inserts-on : (w : World) (h : History) (count : ℕ → ℕ) (more : List MadeChange) → Known count h → KnownMakers w h
    → ((pasts : List (Key × Past)) (site to : ℕ) (key : Key) → AllKnow h.made pasts → KnowsMaker key (past_in pasts key).known → Goes h.made more site to key)
    → AllByRecursion (λ (letter : Letter). SendsInserts h.made letter.message) w.pool → AllByRecursion (λ (letter : Letter). SendsInserts more letter.message) w.pool
inserts-on w h count more known makers goes all = zip-inserts h.made h.made more w.pool h.letters goes makers.letters known.knowledge.sent all

change-inserts : (publication : Publication) (w : World) (h : History) (c : MadeChange) → Ground publication w h → KnownMakers w h → c.dot.number ≡ changes_of w c.dot.site.0 + 1
    → AllByRecursion (λ (letter : Letter). SendsInserts h.made letter.message) w.pool → AllByRecursion (λ (letter : Letter). SendsInserts (c ∷ h.made) letter.message) w.pool
change-inserts publication w h c g makers next all = inserts-on w h (changes_of w) (c ∷ h.made) g.known makers
    (λ pasts site to key sent knows old. (new-up-to (changes_of w) h pasts site to key c g.known.numbered sent knows (omega (arith, next)), old)) all

-- The publisher's own change.

pub own-accepts : (publication : Publication) (judge : PublisherJudge) (w : World) (h : History) (change : Change) (d : Drawn) → Ground publication w h → KnownMakers w h → Accepted w h → local_refusal publication change w.publisher ≡ None
    → Accepted (with_publisher (made_locally publication judge change d (here w)).0 w) (own_noted publication judge change d (here w) h)
own-accepts publication judge w h change d g makers i fine =
    let p : PublisherTables = here w in
    let dot : Dot = next_dot p in
    let key : Key = key_of dot change in
    let past : Past = past_after publication dot change (past_at h 0 key) in
    let k : History = Noting.with_change publication dot (last_closed p + 1) change d.value h in
    let c : MadeChange = Noting.made_change publication dot (last_closed p + 1) change d.value key past in
    let q : PublisherTables = (made_locally publication judge change d p).0 in
    let v : World = with_publisher q w in
    let rows : List (Key × Past) = put_row (pasts_at h 0) key past in
    let fits : (n : ℕ) → SiteFits w.publisher h n (pasts_at k n) = all-sites (λ (n : ℕ) (x : List (Key × Past)). SiteFits w.publisher h n x) h.pasts 0 rows
    (each-put (λ (key : Key) (x : Past). PastFits w.publisher h 0 x) (pasts_at h 0) key past (after-fits publication w.publisher h 0 dot change (past_at h 0 key) refl (λ low. absurd (omega (arith, low))) (all-fit w h i 0 key)) (all-fit w h i 0)) (all-fit w h i) in
    let changed : Accepted v k = record {
      counts = record {
        here = λ x. (fits 0 x).0;
        there = λ n x low. (fits n x).0;
        holds = λ n x other low is. (fits n x).1 low other is;
        counts = count-on w v h k (λ site. omega arith) (λ x counted. counted) refl refl i.counts.counts;
        joining = i.counts.joining;
        makers = (knows-after publication dot change (past_at h 0 key) (own-small publication change w.publisher fine) (λ is. makers.here key (own-held publication change w.publisher fine is)), i.counts.makers);
        inserts = ((λ maker accepted named. absurd (named refl)), i.counts.inserts);
      };
      bare = λ n s at none. put-there h.pasts 0 rows n (found-named w.subscribers n s g.none at) ∙ i.bare n s at none;
      sent = send-on w v h k (λ x is. is) refl refl i.sent;
      made = λ x is. (let was = i.made x is in grind (arith, was));
      inserts = change-inserts publication w h c g makers refl i.inserts;
    } in
    lines-accept v (Noting.lines_of_entries (last_closed p + 1) (Noting.drawn_entries publication judge change p d)) k changed

-- A subscriber's.

-- it is not received yet
new-counts : (w : World) (h : History) (s : SubscriberTables) → Numbered w h → (s.site.0 ≡ 0 → ⊥) → at_number w.subscribers s.site.0 ≡ Some s → (other : Dot) → same_dot (subscriber_next_dot s) other ≡ true → is_given_up w.publisher h other ≡ false
new-counts w h s i named at other same =
    let t = i.subscribers s.site.0 s at in
    let within = order-within (received_by_number w.publisher s.site.0) s.changes (subscriber_last_closed s + 1) (made_at h s.site.0) (t.order named) in
    let taken = i.taken s.site.0 in
    let site : s.site.0 ≡ other.site.0 = grind (arith, nat_tests, same) in
    let number : s.changes + 1 ≡ other.number = grind (arith, nat_tests, same) in
    let received : received_number_by_number w.publisher other.site.0 ≡ received_number_by_number w.publisher s.site.0 = ap (λ (n : ℕ). received_number_by_number w.publisher n) (sym site) in
    let low : received_number_by_number w.publisher other.site.0 < other.number = omega (arith, within, taken, number, received) in
    grind (arith, nat_tests, low)

joined-version : (key : Key) (found : Option Version) (u : SubscriberTables) → (with_version_if key found u).is_joined ≡ u.is_joined
joined-version key None u = refl
joined-version key (Some version) u = refl

pub sub-accepts : (publication : Publication) (w : World) (h : History) (s : SubscriberTables) (change : Change) (d : Value × List (ℕ × Holder)) → Ground publication w h → KnownMakers w h → Accepted w h → subscriber_at w s.site ≡ Some s → (s.site.0 ≡ 0 → ⊥) → subscriber_local_refusal publication change s ≡ None
    → Accepted (with_subscriber (subscriber_made_locally publication change d (subscriber_at_moment w.moment s)).0 w) (Noting.with_change publication (subscriber_next_dot s) (subscriber_last_closed s + 1) change d.0 h)
sub-accepts publication w h s change d g makers i at named fine =
    let n : ℕ = s.site.0 in
    let dot : Dot = subscriber_next_dot s in
    let key : Key = key_of dot change in
    let past : Past = past_after publication dot change (past_at h n key) in
    let u : SubscriberTables = record (subscriber_at_moment w.moment s) { changes = s.changes + 1; held = d.1 } in
    let found : Option Version = version_after publication dot d.0 change (subscriber_version_at s key) in
    let t : SubscriberTables = with_version_if key found u in
    let k : History = Noting.with_change publication dot (subscriber_last_closed s + 1) change d.0 h in
    let c : MadeChange = Noting.made_change publication dot (subscriber_last_closed s + 1) change d.0 key past in
    let v : World = record w { subscribers = put_number w.subscribers n t } in
    let rows : List (Key × Past) = put_row (pasts_at h n) key past in
    let next : dot.number ≡ changes_of w n + 1 = ap (λ (m : ℕ). m + 1) (own-count w s (s.site.0 == 0) refl named at) in
    let joins : t.is_joined ≡ true = joined-version key found u ∙ joined-flag s (first-none (is_joining s) _ fine).0 in
    let unmade : was_made h.made dot ≡ false = was-below (changes_of w) h dot g.known.numbered (omega (arith, next)) in
    let fits : (m : ℕ) → SiteFits w.publisher h m (pasts_at k m) = all-sites (λ (m : ℕ) (x : List (Key × Past)). SiteFits w.publisher h m x) h.pasts n rows
    (each-put (λ (q : Key) (x : Past). PastFits w.publisher h n x) (pasts_at h n) key past (after-fits publication w.publisher h n dot change (past_at h n key) refl (λ low other same. new-counts w h s g.numbered named at other same) (all-fit w h i n key)) (all-fit w h i n)) (all-fit w h i) in
    subst (λ (m : ℕ). Accepted (record w { subscribers = put_number w.subscribers m t }) k) (sym (version-site key found u)) (record {
      counts = record {
        here = λ x. (fits 0 x).0;
        there = λ m x low. (fits m x).0;
        holds = λ m x other low is. (fits m x).1 low other is;
        counts = count-on w v h k (λ site. omega arith) (λ x counted. counted) refl refl i.counts.counts;
        joining = all-subscribers (λ (m : ℕ) (x : SubscriberTables). x.is_joined ≡ false → x.rows ≡ []) w.subscribers n t (λ none. absurd (grind (arith, none, joins))) (λ m x differs here. i.counts.joining m x here);
        makers = (knows-after publication dot change (past_at h n key) (sub-small publication change s fine) (λ is. makers.there n s at key (sub-held publication change s fine is)), i.counts.makers);
        inserts = ((λ maker accepted other. (let was = i.made dot (grind (arith, nat_tests, accepted, other)) in absurd (grind (arith, was, unmade)))), i.counts.inserts);
      };
      bare = all-subscribers (λ (m : ℕ) (x : SubscriberTables). x.is_joined ≡ false → pasts_at k m ≡ []) w.subscribers n t (λ none. absurd (grind (arith, none, joins))) (λ m x differs here none. put-there h.pasts n rows m differs ∙ i.bare m x here none);
      sent = send-on w v h k (λ x is. is) refl refl i.sent;
      made = λ x is. (let was = i.made x is in grind (arith, was));
      inserts = change-inserts publication w h c g makers next i.inserts;
    })

-- A site is made anew.

discards-accept : (w : World) (site : SiteId) (rows : List (Key × Version)) (h : History) → Accepted w h → Accepted w (fold (Noting.with_discarded site) h rows)
discards-accept w site [] h i = i
discards-accept w site (row ∷ rows) h i = discards-accept w site rows (Noting.with_discarded site h row) (others-accepted w h h.lines (Noting.with_discarded site h row).lost h.purged h.bases i)

pub anew-accepts : (w : World) (h : History) (s : SubscriberTables) → Accepted w h → subscriber_at w s.site ≡ Some s
    → (let judge : SubscriberJudge = by_made h s.site in Accepted (with_subscriber (result_of_reinit judge (subscriber_at_moment w.moment s)).0 w) (Noting.noted_anew judge s h))
anew-accepts w before s old at =
    let judge : SubscriberJudge = by_made before s.site in
    let t : SubscriberTables = (result_of_reinit judge (subscriber_at_moment w.moment s)).0 in
    let n : ℕ = s.site.0 in
    let h : History = fold (Noting.with_discarded s.site) before (discarded_versions judge s) in
    let i : Accepted w h = discards-accept w s.site (discarded_versions judge s) before old in
    let k : History = record h { pasts = put_number h.pasts n [] } in
    let v : World = with_subscriber t w in
    let fits : (m : ℕ) → SiteFits w.publisher h m (pasts_at k m) = all-sites (λ (m : ℕ) (x : List (Key × Past)). SiteFits w.publisher h m x) h.pasts n [] (λ key. nothing-fits w.publisher h n) (all-fit w h i) in
    record {
      counts = record {
        here = λ x. (fits 0 x).0;
        there = λ m x low. (fits m x).0;
        holds = λ m x other low is. (fits m x).1 low other is;
        counts = count-on w v h k (λ site. omega arith) (λ x counted. counted) refl refl i.counts.counts;
        joining = all-subscribers (λ (m : ℕ) (x : SubscriberTables). x.is_joined ≡ false → x.rows ≡ []) w.subscribers n t (λ none. refl) (λ m x differs here. i.counts.joining m x here);
        makers = i.counts.makers;
        inserts = i.counts.inserts;
      };
      bare = all-subscribers (λ (m : ℕ) (x : SubscriberTables). x.is_joined ≡ false → pasts_at k m ≡ []) w.subscribers n t (λ none. put-here h.pasts n []) (λ m x differs here none. put-there h.pasts n [] m differs ∙ i.bare m x here none);
      sent = send-on w v h k (λ x is. is) refl refl i.sent;
      made = i.made;
      inserts = i.inserts;
    }

-- A purge.

purged-accept : (w : World) → at_number w.subscribers 0 ≡ None → (keys : List Key) (h : History) → ((n : ℕ) → Ascend (pasts_at h n)) → Accepted w h → Accepted w (fold Noting.with_purged h keys)
purged-accept w none [] h sorted i = i
purged-accept w none (key ∷ keys) h sorted i =
    let k : History = Noting.with_purged h key in
    let rows : List (Key × Past) = drop_row (pasts_at h 0) key in
    let fits : (m : ℕ) → SiteFits w.publisher h m (pasts_at k m) = all-sites (λ (m : ℕ) (x : List (Key × Past)). SiteFits w.publisher h m x) h.pasts 0 rows
    (each-dropped (λ (q : Key) (x : Past). PastFits w.publisher h 0 x) (pasts_at h 0) key (sorted 0) (λ q. nothing-fits w.publisher h 0) (all-fit w h i 0)) (all-fit w h i) in
    purged-accept w none keys k (all-sites (λ (m : ℕ) (x : List (Key × Past)). Ascend x) h.pasts 0 rows (drop-ascends (pasts_at h 0) key (sorted 0)) sorted) (record {
      counts = record {
        here = λ x. (fits 0 x).0;
        there = λ m x low. (fits m x).0;
        holds = λ m x other low is. (fits m x).1 low other is;
        counts = count-on w w h k (λ site. omega arith) (λ x counted. counted) refl refl i.counts.counts;
        joining = i.counts.joining;
        makers = i.counts.makers;
        inserts = i.counts.inserts;
      };
      bare = λ n s at joins. put-there h.pasts 0 rows n (found-named w.subscribers n s none at) ∙ i.bare n s at joins;
      sent = send-on w w h k (λ x is. is) refl refl i.sent;
      made = i.made;
      inserts = i.inserts;
    })

pub purge-accepts : (publication : Publication) (judge : PublisherJudge) (w : World) (h : History) → Ground publication w h → KnownMakers w h → Accepted w h → Accepted (with_publisher (purge publication w.moment w.publisher).0 w) (Noting.noted_purge publication judge (here w) h)
purge-accepts publication judge w h g makers i =
    let p : PublisherTables = here w in
    let q : PublisherTables = (purge publication w.moment w.publisher).0 in
    let v : World = with_publisher q w in
    let keys : List Key = Noting.old_tombstones publication p in
    let lines : List Line = map (Noting.gone_line (last_closed p + 1)) (flat_map (Noting.old_left publication judge p) (map Noting.site_of_subscription (by_site publication))) in
    lines-accept v lines (fold Noting.with_purged h keys) (publisher-accepted w (fold Noting.with_purged h keys) q (same-sites w.publisher q refl) (purged-accept w g.none keys h makers.sorted i))
