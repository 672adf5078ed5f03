-- Every step keeps what is said of the generations in which rows were touched for a site.
use Rattle.std.specs.Prelude.{◌≡◌, ◌≤◌, ◌<◌, ◌==◌, ◌+◌, ℕ, List, Bool, true, false, not, Option, Some, None, IfSome, refl, cond, map, unwrap_or}
use Rattle.std.specs.List.Sorted.{IsStrictlySortedBy}
use Rattle.std.specs.Map.{keys_of}
use Rattle.std.proofs.Common.{arith, inl, inr, subst, sym, ap, ◌∙◌}
use Rattle.merge_types.specs.declared.identifiers.Moment.{Moment}
use Rattle.merge_types.specs.declared.identifiers.SiteId.{SiteId}
use Rattle.merge_types.specs.declared.changes.Change.{Change}
use Rattle.merge_types.specs.declared.values.Value.{Value}
use Rattle.merge_units.specs.declared.version.Version.{Version}
use Rattle.merge_ident.specs.Holders.{Holder}
use Rattle.merge_schema.specs.declared.publication.Publication.{Publication}
use Rattle.merge_batch.specs.declared.request.Join.{Join}
use Rattle.merge_batch.specs.declared.request.Outstanding.TheVariants as ask
use Rattle.merge_batch.specs.declared.request.Download.{Download}
use Rattle.merge_model.specs.Publisher.Acts.{Act}
use Rattle.merge_model.specs.Judge.ByHistory.{by_history, by_made, by_past}
use Rattle.merge_model.specs.Judge.ByNumbers.{mapping_at}
use Rattle.merge_model.specs.Publisher.Entries.{Changing, changed_by}
use Rattle.merge_model.specs.Tables.Changes.{key_of, version_after}
use Rattle.merge_model.specs.History.{History, Line, no_history, pasts_with}
use Rattle.merge_model.specs.Judge.{PublisherJudge}
use Rattle.merge_types.specs.RowKeys.{key_cmp}
use Rattle.merge_gens.specs.Moves.{row_site_cmp}
use Rattle.merge_model.specs.Tables.Keys.{at_number, has_key, put_number, row_at}
use Rattle.merge_model.specs.Laws.{AreSorted}
use Rattle.merge_model.specs.History.Noting
use Rattle.merge_model.specs.Laws.Promises.{base_of}
use Rattle.merge_model.specs.Publisher.{at_moment, empty_publisher, last_closed, tables_after_close}
use Rattle.merge_model.specs.Publisher.PublisherDownload.{inside_keys, tables_after_download}
use Rattle.merge_model.specs.Publisher.PublisherJoin.{is_left_of, join_taken}
use Rattle.merge_model.specs.Publisher.PublisherLocal.{changing_locally, next_dot, with_draw}
use Rattle.merge_model.specs.Publisher.PublisherPurge.{is_old_left, is_old_tombstone, purge}
use Rattle.merge_model.specs.Publisher.PublisherRanges.{plans, with_grants}
use Rattle.merge_model.specs.Publisher.PublisherUpload.{changing_by, with_acts}
use Rattle.merge_model.specs.Subscriber.Reinit.{result_of_reinit}
use Rattle.merge_model.specs.Subscriber.Sending.{upload_sent, with_message}
use Rattle.merge_model.specs.Subscriber.{subscriber_at_moment, subscriber_closed, subscriber_last_closed, subscriber_made_locally, subscriber_next_dot, subscriber_version_at, with_version_if}
use Rattle.merge_types.specs.declared.row_key.RowKey.{RowKey as Key}
use Rattle.merge_gens.specs.declared.moves.Mapping.{Mapping}
use Rattle.merge_units.specs.declared.site_row.PublisherRow.{PublisherRow}
use Rattle.merge_gens.specs.declared.moves.RowSite.{RowSite}
use Rattle.merge_model.specs.Tables.{PublisherTables, SubscriberTables}
use Rattle.merge_model.specs.Subscriber.Taking.{tables_after_reply}
use Rattle.merge_model.specs.World.{Saying, World, empty_subscribers, empty_world, subscriber_at, with_subscriber}
use Rattle.merge_model.proofs.Publishers.Sorted.{closed_filling-rises, key_total, row_site_total}
use Rattle.merge_laws.specs.Facts.Settled.{OfPublisher, TouchedInOrder, last_used, touched_at}
use Rattle.merge_model.proofs.Entries.Downloads.{inside-held}
use Rattle.merge_model.proofs.Lists.Finding.{at_put_other, at_put_same}
use Rattle.merge_laws.proofs.Runs.Ground.{Ground}
use Rattle.merge_model.proofs.Lists.KeyLookUps.{keys-exact}
use Rattle.merge_model.proofs.Lists.PlaceLookUps.{kept, lookup-filter, places-exact}
use Rattle.merge_laws.proofs.Received.Models.{begins-with}
use Rattle.merge_laws.proofs.Purges.PurgeLists.{if-put, if-weaker}
use Rattle.merge_laws.proofs.Purges.PurgeNotes.{anew-bases, lines-bases, purge-bases, taken-bases, upload-bases}
use Rattle.merge_laws.proofs.Received.Subscribing.{number-decided, same_number}
use Rattle.merge_laws.proofs.Touched.TouchCases.{touch-bound, touch-is}
use Rattle.merge_laws.proofs.Touched.TouchEntries.{changed_of, generation_of, move-new, row-new, used-after, used-more}
use Rattle.merge_laws.proofs.Touched.TouchLists.{used-closed, used-empty, used-low}
use Rattle.merge_model.proofs.Entries.StepParts.{CanBeSaid}
use Rattle.merge_laws.proofs.Touched.TouchTables.{Touches, asked-touches, changed-touches, closed-touches, joined-in, joined-other, joined-out, purge-inside, purge-touched}
use Rattle.merge_laws.proofs.Unsent.UnsentKept.{reply-site, version-site}
use Rattle.merge_laws.proofs.Walking.{StepsKeep, acts_in, here, join_noted, own_noted}

-- The publisher's tables.

-- a row was touched no later than it changed or moved
touched-used : (publication : Publication) (p : PublisherTables) (site : SiteId) (key : Key) (top : ℕ) → changed_of (row_at p.rows key) ≤ top → generation_of (mapping_at p key site.0) ≤ top → touched_at publication p site key ≤ top
touched-used publication p site key top row move =
    let is : Bool = has_key (inside_keys publication site p) key in
    subst (λ (touch : ℕ). touch ≤ top) (sym (touch-is p key site.0 is)) (touch-bound top is (row_at p.rows key) (mapping_at p key site.0) row move)

-- the rows and moves of a site stand in no generation behind this one
pub record WithinUsed (p : PublisherTables) (site : SiteId) : Type 0 where
  pub changes : (key : Key) → changed_of (row_at p.rows key) ≤ last_used p.gens.filling
  pub moves : (key : Key) → generation_of (mapping_at p key site.0) ≤ last_used p.gens.filling

module _ (publication : Publication) (p q : PublisherTables) (base : ℕ) (site : SiteId) (rises : last_closed p ≤ last_closed q) (within : WithinUsed q site) (f : TouchedInOrder publication p base site) where
  below-used : (key : Key) → touched_at publication q site key ≤ last_used q.gens.filling
  below-used key = touched-used publication q site key (last_used q.gens.filling) (within.changes key) (within.moves key)

  -- where rows were touched anew, or stay
  touched-on : ((key : Key) → Touches publication p q site key) → TouchedInOrder publication q base site
  touched-on touches = record {
    live = λ key inn. elim (touches key) [
      | inl same ↦ (let before : 1 ≤ touched_at publication p site key = f.live key (sym same.0 ∙ inn) in omega (arith, before, same.2))
      | inr above ↦ omega (arith, above)
    ];
    below = λ key. omega (arith, below-used key, used-low q.gens.filling);
    unused = λ empty key. omega (arith, below-used key, used-empty q.gens.filling empty);
    changes = within.changes;
    moves = within.moves;
    left = λ key out some. elim (touches key) [
      | inl same ↦ (let before : base < touched_at publication p site key = f.left key (sym same.0 ∙ out) (omega (arith, some, same.2)) in omega (arith, before, same.2))
      | inr above ↦ omega (arith, above, f.bases)
    ];
    bases = omega (arith, f.bases, rises);
  }

-- entries
entries-within : (publication : Publication) (judge : PublisherJudge) (changing : Changing) (p : PublisherTables) (site : SiteId) → IsStrictlySortedBy row_site_cmp (keys_of p.mappings) → WithinUsed p site → WithinUsed (changed_by publication judge changing p) site
entries-within publication judge changing p site sorted within =
    let q : PublisherTables = changed_by publication judge changing p in
    let after = used-after publication judge changing p in
    let more = used-more publication judge changing p in
    record {
      changes = λ key. row-new publication judge changing p key (λ (g : ℕ). g ≤ last_used q.gens.filling) (λ g new. omega (arith, new.below, after)) (λ none. omega (arith, within.changes key, more));
      moves = λ key. move-new publication judge changing p key sorted site.0 (λ (g : ℕ). g ≤ last_used q.gens.filling) (λ g new. omega (arith, new.below, after)) (omega arith) (omega (arith, within.moves key, more));
    }

module _ (publication : Publication) (p : PublisherTables) (base : ℕ) (site : SiteId) (f : TouchedInOrder publication p base site) where
  within-now : WithinUsed p site
  within-now = record { changes = f.changes; moves = f.moves }

  entered-order : CanBeSaid publication → IsStrictlySortedBy row_site_cmp (keys_of p.mappings) → (judge : PublisherJudge) (changing : Changing) → TouchedInOrder publication (changed_by publication judge changing p) base site
  entered-order valid sorted judge changing = touched-on publication p (changed_by publication judge changing p) base site (omega arith) (entries-within publication judge changing p site sorted within-now) f
      (λ key. changed-touches publication judge changing p valid sorted site key)

  closed-within : WithinUsed (tables_after_close p) site
  closed-within = let same = used-closed p.gens.filling in record { changes = λ key. omega (arith, f.changes key, same); moves = λ key. omega (arith, f.moves key, same) }

  closed-order : TouchedInOrder publication (tables_after_close p) base site
  closed-order = touched-on publication p (tables_after_close p) base site (closed_filling-rises p.gens.filling) closed-within f (λ key. closed-touches publication p site key)

  asked-order : (m : Download) → TouchedInOrder publication (tables_after_download m p) base site
  asked-order m = touched-on publication p (tables_after_download m p) base site (closed_filling-rises p.gens.filling) (record { changes = closed-within.changes; moves = closed-within.moves }) f (λ key. asked-touches publication m p site key)

-- What is dropped.

dropped-less : {V : Type 0} (number : Option V → ℕ) (b : Bool) (v : V) → number None ≤ number (Some v) → number (cond b (Some v) None) ≤ number (Some v)
dropped-less number true v none = omega arith
dropped-less number false v none = none

row-less : (keep : Key × PublisherRow → Bool) (key : Key) (found : Option PublisherRow) → changed_of (kept keep key found) ≤ changed_of found
row-less keep key None = omega arith
row-less keep key (Some row) = dropped-less (λ (found : Option PublisherRow). changed_of found) (keep (key, row)) row (omega arith)

move-less : (keep : RowSite × Mapping → Bool) (place : RowSite) (found : Option Mapping) → generation_of (kept keep place found) ≤ generation_of found
move-less keep place None = omega arith
move-less keep place (Some move) = dropped-less (λ (found : Option Mapping). generation_of found) (keep (place, move)) move (omega arith)

module _ (publication : Publication) (p : PublisherTables) (base : ℕ) (site : SiteId) (sorted : AreSorted p) (f : TouchedInOrder publication p base site) where
  purged-within : (now : Moment) → WithinUsed (purge publication now p).0 site
  purged-within now = record {
    changes = λ key. (let keep : Key × PublisherRow → Bool = λ row. not (is_old_tombstone publication (at_moment now p) row) in
        let found = ap changed_of (lookup-filter key_cmp key_total keys-exact keep key p.rows sorted.rows_ascend) in omega (arith, found, row-less keep key (row_at p.rows key), f.changes key));
    moves = λ key. (let place : RowSite = record { key = key; site = site.0 } in let keep : RowSite × Mapping → Bool = λ entry. not (is_old_left publication (at_moment now p) entry) in
        let found = ap generation_of (lookup-filter row_site_cmp row_site_total places-exact keep place p.mappings sorted.mappings_ascend) in omega (arith, found, move-less keep place (mapping_at p key site.0), f.moves key));
  }

  purged-order : (now : Moment) → TouchedInOrder publication (purge publication now p).0 base site
  purged-order now =
      let q : PublisherTables = (purge publication now p).0 in
      let same = λ (key : Key). ap (λ (keys : List Key). has_key keys key) (purge-inside publication now p site) in
      let low = λ (key : Key). below-used publication p q base site (omega arith) (purged-within now) f key in
      record {
        live = λ key inn. elim (purge-touched publication now p sorted site key) [
          | inl touch ↦ (let before : 1 ≤ touched_at publication p site key = f.live key (sym (same key) ∙ inn) in omega (arith, before, touch))
          | inr gone ↦ absurd (grind (arith, gone.0, same key, inn))
        ];
        below = λ key. omega (arith, low key, used-low p.gens.filling);
        unused = λ empty key. omega (arith, low key, used-empty p.gens.filling empty);
        changes = (purged-within now).changes;
        moves = (purged-within now).moves;
        left = λ key out some. elim (purge-touched publication now p sorted site key) [
          | inl touch ↦ (let before : base < touched_at publication p site key = f.left key (sym (same key) ∙ out) (omega (arith, some, touch)) in omega (arith, before, touch))
          | inr gone ↦ absurd (omega (arith, some, gone.1))
        ];
        bases = f.bases;
      }

  joined-within : (m : Join) → WithinUsed (join_taken m p) site
  joined-within m = record {
    changes = f.changes;
    moves = λ key. (let place : RowSite = record { key = key; site = site.0 } in let keep : RowSite × Mapping → Bool = λ entry. not (is_left_of m.site entry) in
        let found = ap generation_of (lookup-filter row_site_cmp row_site_total places-exact keep place p.mappings sorted.mappings_ascend) in omega (arith, found, move-less keep place (mapping_at p key site.0), f.moves key));
  }

  joined-low : (m : Join) (key : Key) → touched_at publication (join_taken m p) site key ≤ last_used p.gens.filling
  joined-low m key = below-used publication p (join_taken m p) base site (omega arith) (joined-within m) f key

  -- of another site
  other-joined : (m : Join) → (site.0 ≡ m.site.0 → ⊥) → TouchedInOrder publication (join_taken m p) base site
  other-joined m differs = touched-on publication p (join_taken m p) base site (omega arith) (joined-within m) f (λ key. inl (refl, refl, joined-other publication m p sorted site differs key))

-- of the site that joins: what is outside is told no more
self-joined : (publication : Publication) (p : PublisherTables) (base : ℕ) (m : Join) → AreSorted p → TouchedInOrder publication p base m.site → TouchedInOrder publication (join_taken m p) (last_closed p) m.site
self-joined publication p base m sorted f = record {
  live = λ key inn. (let same = joined-in publication m p sorted m.site key inn in let before : 1 ≤ touched_at publication p m.site key = f.live key inn in omega (arith, same, before));
  below = λ key. omega (arith, joined-low publication p base m.site sorted f m key, used-low p.gens.filling);
  unused = λ empty key. omega (arith, joined-low publication p base m.site sorted f m key, used-empty p.gens.filling empty);
  changes = (joined-within publication p base m.site sorted f m).changes;
  moves = (joined-within publication p base m.site sorted f m).moves;
  left = λ key out some. absurd (omega (arith, some, joined-out publication m p sorted key out));
  bases = omega arith;
}

-- Worlds.

abbrev base_at : List (ℕ × ℕ) → ℕ → ℕ
base_at bases n = unwrap_or (at_number bases n) 0

module _ (publication : Publication) where
  -- the publisher goes on
  publisher-on : (w : World) (h k : History) (q : PublisherTables) → ((site : SiteId) → TouchedInOrder publication w.publisher (base_of h site) site → TouchedInOrder publication q (base_of k site) site) → OfPublisher publication w h
      → (n : ℕ) → IfSome (at_number w.subscribers n) (λ (s : SubscriberTables). TouchedInOrder publication q (base_of k s.site) s.site)
  publisher-on w h k q each o n = if-weaker (λ (s : SubscriberTables). TouchedInOrder publication w.publisher (base_of h s.site) s.site) (λ (s : SubscriberTables). TouchedInOrder publication q (base_of k s.site) s.site) (λ s f. each s.site f) (at_number w.subscribers n) (o n)

  same-bases : (q : PublisherTables) (h k : History) (site : SiteId) → k.bases ≡ h.bases → TouchedInOrder publication q (base_of h site) site → TouchedInOrder publication q (base_of k site) site
  same-bases q h k site same f = subst (λ (bases : List (ℕ × ℕ)). TouchedInOrder publication q (base_at bases site.0) site) (sym same) f

  -- a subscriber goes on
  site-moved : (w : World) (k : History) (n m : ℕ) → n ≡ m → (let site : SiteId = record { 0 = m } in TouchedInOrder publication w.publisher (base_of k site) site) → (let site : SiteId = record { 0 = n } in TouchedInOrder publication w.publisher (base_of k site) site)
  site-moved w k n m same f = subst (λ (x : ℕ). (let site : SiteId = record { 0 = x } in TouchedInOrder publication w.publisher (base_of k site) site)) (sym same) f

  found-touched : (w : World) (h : History) (s : SubscriberTables) → OfPublisher publication w h → subscriber_at w s.site ≡ Some s → TouchedInOrder publication w.publisher (base_of h s.site) s.site
  found-touched w h s o at = subst (λ (found : Option SubscriberTables). IfSome found (λ (x : SubscriberTables). TouchedInOrder publication w.publisher (base_of h x.site) x.site)) at (o s.site.0)

  subscriber-on : (w : World) (h k : History) (s t : SubscriberTables) → k.bases ≡ h.bases → t.site.0 ≡ s.site.0 → subscriber_at w s.site ≡ Some s → OfPublisher publication w h → OfPublisher publication (with_subscriber t w) k
  subscriber-on w h k s t same site at o =
      if-put (λ (n : ℕ) (x : SubscriberTables). TouchedInOrder publication w.publisher (base_of k x.site) x.site) t.site.0 t w.subscribers
      (site-moved w k t.site.0 s.site.0 site (same-bases w.publisher h k s.site same (found-touched w h s o at)))
      (λ n differs. publisher-on w h k w.publisher (λ x f. same-bases w.publisher h k x same f) o n)

  -- a join that acts
  base-put : (h k : History) (m n base : ℕ) → k.bases ≡ put_number h.bases m base → n ≡ m → base_at k.bases n ≡ base
  base-put h k m n base bases same =
      ap (λ (bs : List (ℕ × ℕ)). base_at bs n) bases ∙ ap (λ (x : ℕ). base_at (put_number h.bases m base) x) same ∙ ap (λ (found : Option ℕ). unwrap_or found 0) (at_put_same m base h.bases)

  base-other : (h k : History) (m n base : ℕ) → k.bases ≡ put_number h.bases m base → (n ≡ m → ⊥) → base_at k.bases n ≡ base_at h.bases n
  base-other h k m n base bases differs = ap (λ (bs : List (ℕ × ℕ)). base_at bs n) bases ∙ ap (λ (found : Option ℕ). unwrap_or found 0) (at_put_other m n base h.bases differs)

  joined-order : (p : PublisherTables) (h k : History) (m : Join) → AreSorted p → k.bases ≡ put_number h.bases m.site.0 (last_closed p) → (site : SiteId) (b : Bool) → same_number site.0 m.site.0 b
      → TouchedInOrder publication p (base_of h site) site → TouchedInOrder publication (join_taken m p) (base_of k site) site
  joined-order p h k m sorted bases site true same f =
      let before : TouchedInOrder publication p (base_of h m.site) m.site = subst (λ (n : ℕ). (let x : SiteId = record { 0 = n } in TouchedInOrder publication p (base_of h x) x)) same f in
      subst (λ (base : ℕ). TouchedInOrder publication (join_taken m p) base site) (sym (base-put h k m.site.0 site.0 (last_closed p) bases same))
      (subst (λ (n : ℕ). (let x : SiteId = record { 0 = n } in TouchedInOrder publication (join_taken m p) (last_closed p) x)) (sym same) (self-joined publication p (base_of h m.site) m sorted before))
  joined-order p h k m sorted bases site false differs f =
      subst (λ (base : ℕ). TouchedInOrder publication (join_taken m p) base site) (sym (base-other h k m.site.0 site.0 (last_closed p) bases differs)) (other-joined publication p (base_of h site) site sorted f m differs)

  -- the same lists beside other tables
  same-lists : (p q : PublisherTables) (base : ℕ) (site : SiteId) → TouchedInOrder publication p base site → TouchedInOrder publication (record q { gens = p.gens; rows = p.rows; mappings = p.mappings }) base site
  same-lists p q base site f = record { live = f.live; below = f.below; unused = f.unused; changes = f.changes; moves = f.moves; left = f.left; bases = f.bases }

  lists-on : (w : World) (h : History) (q : PublisherTables) → OfPublisher publication w h → (n : ℕ) → IfSome (at_number w.subscribers n) (λ (s : SubscriberTables). TouchedInOrder publication (record q { gens = w.publisher.gens; rows = w.publisher.rows; mappings = w.publisher.mappings }) (base_of h s.site) s.site)
  lists-on w h q o = publisher-on w h h (record q { gens = w.publisher.gens; rows = w.publisher.rows; mappings = w.publisher.mappings }) (λ site f. same-lists w.publisher q (base_of h site) site f) o

  -- entries over the same lists
  entered-on : (w : World) (h k : History) (q : PublisherTables) (judge : PublisherJudge) (changing : Changing) → Ground publication w h → k.bases ≡ h.bases → OfPublisher publication w h
      → (let p : PublisherTables = record q { gens = w.publisher.gens; rows = w.publisher.rows; mappings = w.publisher.mappings } in
      (n : ℕ) → IfSome (at_number w.subscribers n) (λ (s : SubscriberTables). TouchedInOrder publication (changed_by publication judge changing p) (base_of k s.site) s.site))
  entered-on w h k q judge changing g bases o =
      let p : PublisherTables = record q { gens = w.publisher.gens; rows = w.publisher.rows; mappings = w.publisher.mappings } in
      publisher-on w h k (changed_by publication judge changing p)
      (λ site f. same-bases (changed_by publication judge changing p) h k site bases (entered-order publication p (base_of h site) site (same-lists w.publisher q (base_of h site) site f) g.valid g.sorted.mappings_ascend judge changing)) o

  -- a local change of a subscriber
  change-on : (w : World) (h : History) (s : SubscriberTables) (change : Change) (d : Value × List (ℕ × Holder)) → subscriber_at w s.site ≡ Some s → OfPublisher publication w h
      → OfPublisher publication (with_subscriber (subscriber_made_locally publication change d (subscriber_at_moment w.moment s)).0 w) (Noting.with_change publication (subscriber_next_dot s) (subscriber_last_closed s + 1) change d.0 h)
  change-on w h s change d at o =
      let key : Key = key_of (subscriber_next_dot s) change in
      let u : SubscriberTables = record (subscriber_at_moment w.moment s) { changes = s.changes + 1; held = d.1 } in
      let found : Option Version = version_after publication (subscriber_next_dot s) d.0 change (subscriber_version_at s key) in
      subscriber-on w h (Noting.with_change publication (subscriber_next_dot s) (subscriber_last_closed s + 1) change d.0 h) s (with_version_if key found u) refl (version-site key found u) at o

  pub touched-keeps : (says : Saying) → StepsKeep publication says (Ground publication) (OfPublisher publication)
  touched-keeps says = record {
    moment = λ w h now g o. o;
    own_change = λ w h change d g o fine is. (let judge : PublisherJudge = by_past h (pasts_with h 0) in
        let noted : List Line = Noting.lines_of_entries (last_closed (here w) + 1) (Noting.drawn_entries publication judge change (here w) d) in
        entered-on w h (own_noted publication judge change d (here w) h) (with_draw d (here w)) judge (changing_locally publication change d.value (here w)) g
        (lines-bases noted (Noting.with_change publication (next_dot (here w)) (last_closed (here w) + 1) change d.value h)) o);
    own_closing = λ w h g o. publisher-on w h h (tables_after_close (here w)) (λ site f. closed-order publication (here w) (base_of h site) site (same-lists w.publisher (here w) (base_of h site) site f)) o;
    forgetting = λ w h g o. (let judge : PublisherJudge = by_past h (pasts_with h 0) in let q : PublisherTables = (purge publication w.moment w.publisher).0 in let k : History = Noting.noted_purge publication judge (here w) h in
        publisher-on w h k q (λ site f. same-bases q h k site (purge-bases publication judge (here w) h) (purged-order publication w.publisher (base_of h site) site g.sorted f w.moment)) o);
    same = λ w h s g o at. subscriber-on w h h s s refl refl at o;
    subscriber_change = λ w h s change d g o at named fine is. change-on w h s change d at o;
    subscriber_closing = λ w h s g o at. subscriber-on w h h s (subscriber_closed (subscriber_at_moment w.moment s)) refl refl at o;
    anew = λ w h s g o at. subscriber-on w h (Noting.noted_anew (by_made h s.site) s h) s (result_of_reinit (by_made h s.site) (subscriber_at_moment w.moment s)).0 (anew-bases (by_history h) s.site (Some s) h) refl at o;
    sends_join = λ w h s g o at joining. subscriber-on w h h s (with_message ask.Join s) refl refl at o;
    sends_upload = λ w h s g o at fine. subscriber-on w h h s (upload_sent (by_made h s.site) (subscriber_closed (subscriber_at_moment w.moment s))).0 refl refl at o;
    sends_ranges = λ w h s g o at fine. subscriber-on w h h s (with_message ask.Ranges s) refl refl at o;
    sends_ask = λ w h s g o at fine. subscriber-on w h h s (with_message (ask.Download s.watermark) s) refl refl at o;
    joins = λ w h number m g o at fine acts. (let judge : PublisherJudge = by_past h (pasts_with h number) in let k : History = join_noted judge m w.publisher h in
        let p : PublisherTables = join_taken m w.publisher in
        let bases : k.bases ≡ put_number h.bases m.site.0 (last_closed w.publisher) = lines-bases (map (Noting.gone_line (last_closed w.publisher + 1)) (map (Noting.gone_for m.site) (Noting.left_rows judge m.site)))
        (record (Noting.with_done m.site.0 0 m.generation h) { bases = put_number h.bases m.site.0 (last_closed w.publisher) }) in
        publisher-on w h k (join_taken m (here w))
        (λ site f. same-lists p (join_taken m (here w)) (base_of k site) site (joined-order w.publisher h k m g.sorted bases site (site.0 == m.site.0) (number-decided site.0 m.site.0) f)) o);
    joins_again = λ w h number m g o at acts. lists-on w h (here w) o;
    uploads = λ w h number m g o at fine news. (let judge : PublisherJudge = by_past h (pasts_with h number) in let acts : List Act = acts_in publication says judge m w in
        entered-on w h (Noting.with_acts_noted publication judge m acts (pasts_with h number) (here w) h) (with_acts publication m acts (here w)) judge (changing_by m acts) g (upload-bases publication judge m acts (pasts_with h number) (here w) h) o);
    uploads_again = λ w h number m g o at none. lists-on w h (here w) o;
    answers_ranges = λ w h site m g o. lists-on w h (with_grants (plans publication m w.publisher) (here w)) o;
    answers_ask = λ w h number site m g o at fine. publisher-on w h h (tables_after_download m (here w)) (λ x f. asked-order publication (here w) (base_of h x) x (same-lists w.publisher (here w) (base_of h x) x f) m) o;
    replies = λ w h s number m sent g o at there out none.
        subscriber-on w h (Noting.noted_reply (by_made h s.site) s.site (pasts_with h number) m h) s (tables_after_reply (by_made h s.site) w.moment m s) (taken-bases (by_history h) s.site (pasts_with h number) m (Some s) h) (reply-site (by_made h s.site) w.moment m s) at o;
  }

  -- How it begins: with no row.

  empty-order : (site : SiteId) → TouchedInOrder publication (empty_publisher publication) 0 site
  empty-order site =
      let p : PublisherTables = empty_publisher publication in
      let low = λ (key : Key). touched-used publication p site key 0 (omega arith) (omega arith) in
      record {
        live = λ key inn. absurd (grind (arith, inside-held publication site p key inn));
        below = λ key. omega (arith, low key);
        unused = λ empty key. low key;
        changes = λ key. omega arith;
        moves = λ key. omega arith;
        left = λ key out some. absurd (omega (arith, some, low key));
        bases = omega arith;
      }

  if-found : (P : SubscriberTables → Type 0) (found : Option SubscriberTables) → ((s : SubscriberTables) → found ≡ Some s → P s) → IfSome found P
  if-found P None each = tt
  if-found P (Some s) each = each s refl

  pub touched-begins : (tallies : List ℕ) → OfPublisher publication (empty_world publication tallies) no_history
  touched-begins tallies n = if-found (λ (s : SubscriberTables). TouchedInOrder publication (empty_publisher publication) 0 s.site) (at_number (empty_subscribers publication) n)
      (λ s at. begins-with publication (λ (k : ℕ) (x : SubscriberTables). TouchedInOrder publication (empty_publisher publication) 0 x.site) (λ k site keyed. empty-order site) n s at)
