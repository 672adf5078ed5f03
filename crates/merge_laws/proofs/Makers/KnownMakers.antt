-- Every step keeps that each version of a row, and each change of it, knows the change that made the row.
use Rattle.std.specs.Prelude.{◌≡◌, ◌==◌, ◌++◌, ◌+◌, ◌||◌, ℕ, List, [], ◌∷◌, true, false, Option, Some, None, refl, flat_map, is_some, map}
use Rattle.std.specs.List.{AllByRecursion, AllZip, fold}
use Rattle.std.specs.List.Sorted.{IsStrictlySortedBy}
use Rattle.std.proofs.Common.{arith, subst, sym, ap}
use Rattle.merge_types.specs.declared.changes.Change.{Change}
use Rattle.merge_types.specs.declared.identifiers.Dot.{Dot}
use Rattle.merge_types.specs.declared.identifiers.SiteId.{SiteId}
use Rattle.merge_types.specs.declared.values.Value.{Value}
use Rattle.merge_units.specs.declared.version.Version.{Version}
use Rattle.merge_ident.specs.Holders.{Holder}
use Rattle.merge_schema.specs.declared.publication.Publication.{Publication}
use Rattle.merge_model.specs.Judge.ByHistory.{by_made}
use Rattle.merge_model.specs.Tables.Changes.{is_insert, key_of, version_after}
use Rattle.merge_model.specs.History.{History, Line, MadeChange, Past, past_at, pasts_at}
use Rattle.merge_model.specs.Judge.{PublisherJudge, SubscriberJudge}
use Rattle.merge_model.specs.Tables.Keys.{put_number, put_row, row_at, same_key}
use Rattle.merge_model.specs.History.Model.{pasts_in, with_letter}
use Rattle.merge_model.specs.History.Noting
use Rattle.merge_model.specs.History.Pasts.{past_after}
use Rattle.merge_model.specs.Tables.Publications.{by_site}
use Rattle.merge_model.specs.Publisher.{last_closed}
use Rattle.merge_model.specs.Publisher.PublisherLocal.{Drawn, changing_locally, local_refusal, made_locally, next_dot, version_at, with_draw}
use Rattle.merge_model.specs.Publisher.PublisherPurge.{is_old_tombstone, purge}
use Rattle.merge_model.specs.Subscriber.Reinit.{discarded_versions, result_of_reinit}
use Rattle.merge_model.specs.Subscriber.{generations_at, subscriber_at_moment, subscriber_last_closed, subscriber_local_refusal, subscriber_made_locally, subscriber_next_dot, subscriber_version_at, with_open, with_version_if}
use Rattle.merge_types.specs.declared.row_key.RowKey.{RowKey as Key}
use Rattle.merge_units.specs.declared.site_row.PublisherRow.{PublisherRow}
use Rattle.merge_units.specs.declared.site_row.SubscriberRow.{SubscriberRow}
use Rattle.merge_model.specs.Tables.{PublisherTables, SubscriberTables}
use Rattle.merge_model.specs.World.{World, subscriber_at, with_publisher, with_subscriber}
use Rattle.merge_model.specs.declared.letter.Letter.{Letter}
use Rattle.merge_model.specs.declared.letter.Message.{Message}
use Rattle.merge_laws.specs.Facts.Knowledge.{changes_of}
use Rattle.merge_laws.specs.Invariants.KnownMakers.{Ascend, HeldKnow, IsAfterMaker, KnownMakers, KnowsMaker}
use Rattle.merge_laws.specs.Facts.LineagesStand.{OfMessage}
use Rattle.merge_model.proofs.Lists.Finding.{found-named}
use Rattle.merge_laws.proofs.Runs.Ground.{Ground}
use Rattle.merge_laws.proofs.Pasts.HeldRows.{changed-held, held-put, one-version}
use Rattle.merge_laws.proofs.Known.KnownCounts.{own-count}
use Rattle.merge_laws.proofs.Known.KnownRows.{held-knows}
use Rattle.merge_model.proofs.Lists.{zip-more}
use Rattle.merge_laws.proofs.Makers.MakerChanges.{after-maker, knows-after, own-held, own-small, sub-held, sub-small}
use Rattle.merge_laws.proofs.Makers.MakerSites.{know-more, purged-know}
use Rattle.merge_laws.proofs.Walking.NotesLeave.{fold-leave}
use Rattle.merge_laws.proofs.Pasts.PastLists.{put-ascends}
use Rattle.merge_laws.proofs.Pasts.PastLookUps.{all-sites, put-here, put-there, rows_in}
use Rattle.merge_laws.proofs.Pasts.PastNotes.{purged-pasts}
use Rattle.merge_laws.proofs.Unsent.UnsentKept.{version-site}
use Rattle.merge_laws.proofs.Walking.{here, own_noted}
use Rattle.merge_laws.proofs.Pasts.WorldLists.{all-subscribers}

-- The history goes on by parts that say nothing of this, and a letter is posted.

pub makers-of-parts : (w : World) (h k : History) → k.made ≡ h.made → k.letters ≡ h.letters → k.pasts ≡ h.pasts → KnownMakers w h → KnownMakers w k
makers-of-parts w h k made letters pasts i = record {
  sorted = λ n. subst (λ (x : List (ℕ × List (Key × Past))). Ascend (rows_in x n)) (sym pasts) (i.sorted n);
  makers = subst (λ (x : List MadeChange). AllByRecursion (λ (change : MadeChange). KnowsMaker change.key change.past.known) x) (sym made) i.makers;
  firsts = subst (λ (x : List MadeChange). AllByRecursion IsAfterMaker x) (sym made) i.firsts;
  here = subst (λ (x : List (ℕ × List (Key × Past))). HeldKnow w.publisher.rows (rows_in x 0)) (sym pasts) i.here;
  there = λ n s at. subst (λ (x : List (ℕ × List (Key × Past))). HeldKnow s.rows (rows_in x n)) (sym pasts) (i.there n s at);
  letters = subst (λ (x : List (List (Key × Past))). AllZip (λ (letter : Letter) (ps : List (Key × Past)). OfMessage (λ (key : Key) (version : Version) (past : Past). KnowsMaker key past.known) ps letter.message) w.pool x) (sym letters) i.letters;
}

pub post-makers : (w : World) (h : History) (site : SiteId) (message : Message) → OfMessage (λ (key : Key) (version : Version) (past : Past). KnowsMaker key past.known) (pasts_in h site message) message → KnownMakers w h
    → (let letter : Letter = record { site = site; message = message } in KnownMakers (record w { pool = w.pool ++ letter ∷ [] }) (with_letter letter h))
post-makers w h site message new i = record {
  sorted = i.sorted;
  makers = i.makers;
  firsts = i.firsts;
  here = i.here;
  there = i.there;
  letters = zip-more (λ (letter : Letter) (pasts : List (Key × Past)). OfMessage (λ (key : Key) (version : Version) (past : Past). KnowsMaker key past.known) pasts letter.message) w.pool h.letters (record { site = site; message = message }) (pasts_in h site message) i.letters new;
}

-- the publisher goes on with the same rows, and a subscriber with no more rows than it had
pub publisher-makers : (w : World) (h : History) (q : PublisherTables) → q.rows ≡ w.publisher.rows → KnownMakers w h → KnownMakers (with_publisher q w) h
publisher-makers w h q rows i = record {
  sorted = i.sorted;
  makers = i.makers;
  firsts = i.firsts;
  here = subst (λ (x : List (Key × PublisherRow)). HeldKnow x (pasts_at h 0)) (sym rows) i.here;
  there = i.there;
  letters = i.letters;
}

pub subscriber-makers : (w : World) (h : History) (s t : SubscriberTables) → subscriber_at w s.site ≡ Some s → t.site.0 ≡ s.site.0 → (HeldKnow s.rows (pasts_at h s.site.0) → HeldKnow t.rows (pasts_at h s.site.0)) → KnownMakers w h → KnownMakers (with_subscriber t w) h
subscriber-makers w h s t at site rows i = subst (λ (m : ℕ). KnownMakers (record w { subscribers = put_number w.subscribers m t }) h) (sym site) (record {
  sorted = i.sorted;
  makers = i.makers;
  firsts = i.firsts;
  here = i.here;
  there = all-subscribers (λ (n : ℕ) (v : SubscriberTables). HeldKnow v.rows (pasts_at h n)) w.subscribers s.site.0 t (rows (i.there s.site.0 s at)) (λ m u differs found. i.there m u found);
  letters = i.letters;
})

-- A local change of the publisher.

own-rows : (publication : Publication) (judge : PublisherJudge) (change : Change) (d : Drawn) (p : PublisherTables) (q : Key) → is_some (row_at (made_locally publication judge change d p).0.rows q) ≡ true → (is_some (row_at p.rows q) || same_key q (key_of (next_dot p) change)) ≡ true
own-rows publication judge change d p q is =
    let changing = changing_locally publication change d.value p in
    let held = changed-held publication judge changing (with_draw d p) q is in
    let one = one-version q (key_of (next_dot p) change) (version_after publication (next_dot p) d.value change (version_at p (key_of (next_dot p) change))) in
    grind (arith, held, one)

pub own-makers : (publication : Publication) (judge : PublisherJudge) (w : World) (h : History) (change : Change) (d : Drawn) → Ground publication w h → KnownMakers w h → local_refusal publication change w.publisher ≡ None
    → KnownMakers (with_publisher (made_locally publication judge change d (here w)).0 w) (own_noted publication judge change d (here w) h)
own-makers publication judge w h change d g i fine =
    let p : PublisherTables = here w in
    let dot : Dot = next_dot p in
    let key : Key = key_of dot change in
    let past : Past = past_after publication dot change (past_at h 0 key) in
    let k : History = Noting.with_change publication dot (last_closed p + 1) change d.value h in
    let v : World = with_publisher (made_locally publication judge change d p).0 w in
    let lines : List Line = Noting.lines_of_entries (last_closed p + 1) (Noting.drawn_entries publication judge change p d) in
    let old : is_insert change ≡ false → KnowsMaker key (past_at h 0 key).known = λ is. i.here key (own-held publication change w.publisher fine is) in
    let knows : KnowsMaker key past.known = knows-after publication dot change (past_at h 0 key) (own-small publication change w.publisher fine) old in
    let rows : List (Key × Past) = put_row (pasts_at h 0) key past in
    let changed : KnownMakers v k = record {
      sorted = all-sites (λ (n : ℕ) (x : List (Key × Past)). Ascend x) h.pasts 0 rows (put-ascends (pasts_at h 0) key past (i.sorted 0)) i.sorted;
      makers = (knows, i.makers);
      firsts = (after-maker (changes_of w) publication dot (last_closed p + 1) change d.value (past_at h 0 key) h (own-small publication change w.publisher fine) g.known.numbered refl (held-knows h 0 key g.known.knowledge) old, i.firsts);
      here = subst (λ (x : List (Key × Past)). HeldKnow v.publisher.rows x) (sym (put-here h.pasts 0 rows)) (know-more w.publisher.rows v.publisher.rows (pasts_at h 0) key past knows (λ q is. own-rows publication judge change d p q is) i.here);
      there = λ n s at. subst (λ (x : List (Key × Past)). HeldKnow s.rows x) (sym (put-there h.pasts 0 rows n (found-named w.subscribers n s g.none at))) (i.there n s at);
      letters = i.letters;
    } in
    makers-of-parts v k (own_noted publication judge change d p h) (fold-leave (λ (x : History). x.made) Noting.with_line (λ x line. refl) lines k) (fold-leave (λ (x : History). x.letters) Noting.with_line (λ x line. refl) lines k) (fold-leave (λ (x : History). x.pasts) Noting.with_line (λ x line. refl) lines k) changed

-- A local change of a subscriber.

sub-rows : (key : Key) (found : Option Version) (u : SubscriberTables) (q : Key) → is_some (row_at (with_version_if key found u).rows q) ≡ true → (is_some (row_at u.rows q) || same_key q key) ≡ true
sub-rows key None u q is = grind (arith, is)
sub-rows key (Some version) u q is = (let row : SubscriberRow = record { version = version; generations = with_open (subscriber_last_closed u + 1) (generations_at u key) } in let held = held-put u.rows key row q in grind (arith, held, is))

pub sub-makers : (publication : Publication) (w : World) (h : History) (s : SubscriberTables) (change : Change) (d : Value × List (ℕ × Holder)) → Ground publication w h → KnownMakers w h → subscriber_at w s.site ≡ Some s → (s.site.0 ≡ 0 → ⊥) → subscriber_local_refusal publication change s ≡ None
    → KnownMakers (with_subscriber (subscriber_made_locally publication change d (subscriber_at_moment w.moment s)).0 w) (Noting.with_change publication (subscriber_next_dot s) (subscriber_last_closed s + 1) change d.0 h)
sub-makers publication w h s change d g i at named fine =
    let n : ℕ = s.site.0 in
    let dot : Dot = subscriber_next_dot s in
    let key : Key = key_of dot change in
    let past : Past = past_after publication dot change (past_at h n key) in
    let u : SubscriberTables = record (subscriber_at_moment w.moment s) { changes = s.changes + 1; held = d.1 } in
    let found : Option Version = version_after publication dot d.0 change (subscriber_version_at s key) in
    let t : SubscriberTables = with_version_if key found u in
    let k : History = Noting.with_change publication dot (subscriber_last_closed s + 1) change d.0 h in
    let old : is_insert change ≡ false → KnowsMaker key (past_at h n key).known = λ is. i.there n s at key (sub-held publication change s fine is) in
    let knows : KnowsMaker key past.known = knows-after publication dot change (past_at h n key) (sub-small publication change s fine) old in
    let rows : List (Key × Past) = put_row (pasts_at h n) key past in
    let next : dot.number ≡ changes_of w n + 1 = ap (λ (m : ℕ). m + 1) (own-count w s (s.site.0 == 0) refl named at) in
    subst (λ (m : ℕ). KnownMakers (record w { subscribers = put_number w.subscribers m t }) k) (sym (version-site key found u)) (record {
      sorted = all-sites (λ (m : ℕ) (x : List (Key × Past)). Ascend x) h.pasts n rows (put-ascends (pasts_at h n) key past (i.sorted n)) i.sorted;
      makers = (knows, i.makers);
      firsts = (after-maker (changes_of w) publication dot (subscriber_last_closed s + 1) change d.0 (past_at h n key) h (sub-small publication change s fine) g.known.numbered next (held-knows h n key g.known.knowledge) old, i.firsts);
      here = subst (λ (x : List (Key × Past)). HeldKnow w.publisher.rows x) (sym (put-there h.pasts n rows 0 (λ e. named (sym e)))) i.here;
      there = all-subscribers (λ (m : ℕ) (v : SubscriberTables). HeldKnow v.rows (rows_in k.pasts m)) w.subscribers n t
          (subst (λ (x : List (Key × Past)). HeldKnow t.rows x) (sym (put-here h.pasts n rows)) (know-more s.rows t.rows (pasts_at h n) key past knows (λ q is. sub-rows key found u q is) (i.there n s at)))
          (λ m v differs here. subst (λ (x : List (Key × Past)). HeldKnow v.rows x) (sym (put-there h.pasts n rows m differs)) (i.there m v here));
      letters = i.letters;
    })

pub none-ascends : Ascend []
unfolding IsStrictlySortedBy
none-ascends = tt

-- A site is made anew.

pub anew-makers : (w : World) (h : History) (s : SubscriberTables) → (s.site.0 ≡ 0 → ⊥) → KnownMakers w h → subscriber_at w s.site ≡ Some s
    → (let judge : SubscriberJudge = by_made h s.site in KnownMakers (with_subscriber (result_of_reinit judge (subscriber_at_moment w.moment s)).0 w) (Noting.noted_anew judge s h))
anew-makers w h s named i at =
    let judge : SubscriberJudge = by_made h s.site in
    let t : SubscriberTables = (result_of_reinit judge (subscriber_at_moment w.moment s)).0 in
    let n : ℕ = s.site.0 in
    let lost : List (Key × Version) = discarded_versions judge s in
    let k : History = record h { pasts = put_number h.pasts n [] } in
    let anew : KnownMakers (with_subscriber t w) k = record {
      sorted = all-sites (λ (m : ℕ) (x : List (Key × Past)). Ascend x) h.pasts n [] none-ascends i.sorted;
      makers = i.makers;
      firsts = i.firsts;
      here = subst (λ (x : List (Key × Past)). HeldKnow w.publisher.rows x) (sym (put-there h.pasts n [] 0 (λ e. named (sym e)))) i.here;
      there = all-subscribers (λ (m : ℕ) (v : SubscriberTables). HeldKnow v.rows (rows_in k.pasts m)) w.subscribers n t (λ key is. absurd (grind (arith, is)))
          (λ m v differs here. subst (λ (x : List (Key × Past)). HeldKnow v.rows x) (sym (put-there h.pasts n [] m differs)) (i.there m v here));
      letters = i.letters;
    } in
    makers-of-parts (with_subscriber t w) k (Noting.noted_anew judge s h) (fold-leave (λ (x : History). x.made) (Noting.with_discarded s.site) (λ x row. refl) lost h) (fold-leave (λ (x : History). x.letters) (Noting.with_discarded s.site) (λ x row. refl) lost h)
    (ap (λ (pasts : List (ℕ × List (Key × Past))). put_number pasts n []) (fold-leave (λ (x : History). x.pasts) (Noting.with_discarded s.site) (λ x row. refl) lost h)) anew

-- A purge.

pub purge-makers : (publication : Publication) (judge : PublisherJudge) (w : World) (h : History) → Ground publication w h → KnownMakers w h → KnownMakers (with_publisher (purge publication w.moment w.publisher).0 w) (Noting.noted_purge publication judge (here w) h)
purge-makers publication judge w h g i =
    let p : PublisherTables = here w in
    let v : World = with_publisher (purge publication w.moment w.publisher).0 w in
    let keys : List Key = Noting.old_tombstones publication p in
    let k : History = fold Noting.with_purged h keys in
    let lines : List Line = map (Noting.gone_line (last_closed p + 1)) (flat_map (Noting.old_left publication judge p) (map Noting.site_of_subscription (by_site publication))) in
    let purged = purged-pasts keys h i.sorted in
    let made = fold-leave (λ (x : History). x.made) Noting.with_purged (λ x key. refl) keys h in
    let letters = fold-leave (λ (x : History). x.letters) Noting.with_purged (λ x key. refl) keys h in
    let done : KnownMakers v k = record {
      sorted = purged.sorted;
      makers = subst (λ (x : List MadeChange). AllByRecursion (λ (change : MadeChange). KnowsMaker change.key change.past.known) x) (sym made) i.makers;
      firsts = subst (λ (x : List MadeChange). AllByRecursion IsAfterMaker x) (sym made) i.firsts;
      here = purged-know (is_old_tombstone publication p) w.publisher.rows h.pasts k.pasts g.sorted.rows_ascend purged i.here;
      there = λ n s at. subst (λ (x : List (Key × Past)). HeldKnow s.rows x) (sym (purged.there n (found-named w.subscribers n s g.none at))) (i.there n s at);
      letters = subst (λ (x : List (List (Key × Past))). AllZip (λ (letter : Letter) (ps : List (Key × Past)). OfMessage (λ (key : Key) (version : Version) (past : Past). KnowsMaker key past.known) ps letter.message) w.pool x) (sym letters) i.letters;
    } in
    makers-of-parts v k (Noting.noted_purge publication judge p h) (fold-leave (λ (x : History). x.made) Noting.with_line (λ x line. refl) lines k) (fold-leave (λ (x : History). x.letters) Noting.with_line (λ x line. refl) lines k) (fold-leave (λ (x : History). x.pasts) Noting.with_line (λ x line. refl) lines k) done
