-- What a step of the publisher does to a row for a site: nothing, or it touches the row in a generation that was still open.
use Rattle.std.specs.Prelude.{◌≡◌, ◌<◌, ◌==◌, ◌&&◌, ◌+◌, ◌⊎◌, ℕ, List, [], ◌∷◌, Bool, true, false, not, Option, None, refl, cond, filter, is_some, map}
use Rattle.std.specs.List.{cons_option}
use Rattle.std.specs.List.Sorted.{IsStrictlySortedBy}
use Rattle.std.specs.Map.{keys_of}
use Rattle.std.proofs.Common.{arith, inl, inr, subst, sym, ap, ◌∙◌}
use Rattle.std.proofs.lemmas.Bool.Decides.{nat_tests}
use Rattle.merge_types.specs.declared.changes.Change.{Change}
use Rattle.merge_types.specs.declared.identifiers.Moment.{Moment}
use Rattle.merge_types.specs.declared.identifiers.SiteId.{SiteId}
use Rattle.merge_units.specs.Version.{is_live}
use Rattle.merge_units.specs.declared.result.Decision.{Decision}
use Rattle.merge_units.specs.declared.version.Body.{Body}
use Rattle.merge_units.specs.declared.version.Body.TheVariants.{Dead, Live}
use Rattle.merge_ident.specs.declared.grants.GrantPlan.{GrantPlan}
use Rattle.merge_schema.specs.Partition.{LiveRow}
use Rattle.merge_schema.specs.declared.publication.Publication.{Publication}
use Rattle.merge_schema.specs.declared.publication.Subscription.{Subscription}
use Rattle.merge_schema.specs.Places.{is_subscription}
use Rattle.merge_batch.specs.declared.request.Download.{Download}
use Rattle.merge_batch.specs.declared.request.Join.{Join}
use Rattle.merge_batch.specs.declared.request.Upload.{Upload}
use Rattle.merge_model.specs.Publisher.Acts.{Act, acting_items, acts_of, key_of_item}
use Rattle.merge_model.specs.Judge.ByNumbers.{mapping_at}
use Rattle.merge_model.specs.Publisher.Entries.{Changing, changed_by, live_row, live_rows, rows_after, touched_by}
use Rattle.merge_model.specs.Judge.{PublisherJudge}
use Rattle.merge_types.specs.RowKeys.{key_cmp}
use Rattle.merge_gens.specs.Moves.{row_site_cmp}
use Rattle.merge_model.specs.Tables.Keys.{has_key, row_at}
use Rattle.merge_model.specs.Laws.{AreSorted}
use Rattle.merge_resolve.specs.Priorities.{subscription_at}
use Rattle.merge_model.specs.Publisher.{at_moment, last_closed, tables_after_close}
use Rattle.merge_model.specs.Publisher.PublisherDownload.{inside_keys, tables_after_download}
use Rattle.merge_model.specs.Publisher.PublisherJoin.{is_left_of, join_taken}
use Rattle.merge_model.specs.Publisher.PublisherLocal.{Drawn, changing_locally, made_locally, with_draw}
use Rattle.merge_model.specs.Publisher.PublisherPurge.{is_old, is_old_tombstone, purge}
use Rattle.merge_model.specs.Publisher.PublisherRanges.{with_grants}
use Rattle.merge_model.specs.Publisher.PublisherUpload.{changing_by, taken_in, with_acts}
use Rattle.merge_types.specs.declared.row_key.RowKey.{RowKey as Key}
use Rattle.merge_gens.specs.declared.moves.Mapping.{Mapping}
use Rattle.merge_units.specs.declared.site_row.PublisherRow.{PublisherRow}
use Rattle.merge_gens.specs.declared.moves.RowSite.{RowSite}
use Rattle.merge_model.specs.Tables.{PublisherTables}
use Rattle.merge_model.proofs.Publishers.Sorted.{key_total, row_site_total}
use Rattle.merge_laws.specs.Facts.Settled.{owed_at, touched_at}
use Rattle.merge_model.proofs.Entries.Downloads.{inside-held}
use Rattle.merge_model.proofs.Lists.KeyLookUps.{keys-exact}
use Rattle.merge_model.proofs.Lists.PlaceLookUps.{kept, kept-found, lookup-filter, places-exact}
use Rattle.merge_laws.proofs.Touched.TouchCases.{StaysOr, acted-case, in-case, old-case, other-case, out-case, owed-same, owed_of, stays, touch-case, touch-is, touch_of}
use Rattle.merge_laws.proofs.Touched.TouchEntries.{enters, inside-after}
use Rattle.merge_model.proofs.Entries.StepParts.{CanBeSaid, found-any, found-same, found_keys}
use Rattle.merge_laws.proofs.Touched.TouchUploads.{acts-keys, held-changes}

-- nothing changed of the row for the site
abbrev pub StaysAs : Publication → PublisherTables → PublisherTables → SiteId → Key → Type 0
StaysAs publication p q site key =
    (has_key (inside_keys publication site q) key ≡ has_key (inside_keys publication site p) key)
    × (owed_at publication q site key ≡ owed_at publication p site key)
    × (touched_at publication q site key ≡ touched_at publication p site key)

-- or it was touched anew
abbrev pub Touches : Publication → PublisherTables → PublisherTables → SiteId → Key → Type 0
Touches publication p q site key = StaysAs publication p q site key ⊎ (last_closed p < touched_at publication q site key)

-- From what is found of the row and its mapping.
to-touches : (publication : Publication) (p q : PublisherTables) (site : SiteId) (key : Key)
    → StaysOr (last_closed p) (row_at p.rows key) (row_at q.rows key) (mapping_at p key site.0) (mapping_at q key site.0) (has_key (inside_keys publication site p) key) (has_key (inside_keys publication site q) key) → Touches publication p q site key
to-touches publication p q site key found =
    let after = touch-is q key site.0 (has_key (inside_keys publication site q) key) in
    elim found [
      | inl same ↦ inl (same.0, same.1, after ∙ same.2 ∙ sym (touch-is p key site.0 (has_key (inside_keys publication site p) key)))
      | inr above ↦ inr (subst (λ (touch : ℕ). last_closed p < touch) (sym after) above)
    ]

-- Entries.

pub changed-touches : (publication : Publication) (judge : PublisherJudge) (changing : Changing) (p : PublisherTables) → CanBeSaid publication → IsStrictlySortedBy row_site_cmp (keys_of p.mappings) → (site : SiteId) (key : Key)
    → Touches publication p (changed_by publication judge changing p) site key
changed-touches publication judge changing p valid sorted site key =
    let q : PublisherTables = changed_by publication judge changing p in
    let found : Option Subscription = subscription_at publication site.0 in
    let rows : List (Key × PublisherRow) = rows_after changing p.rows in
    let was : Bool = has_key (inside_keys publication site p) key in
    to-touches publication p q site key
    (subst (λ (keys : List Key). StaysOr (last_closed p) (row_at p.rows key) (row_at q.rows key) (mapping_at p key site.0) (mapping_at q key site.0) was (has_key keys key)) (sym (inside-after publication judge changing p site))
    (touch-case (last_closed p) (row_at p.rows key) (row_at q.rows key) (mapping_at p key site.0) (mapping_at q key site.0) was (has_key (found_keys publication found rows) key) (has_key (touched_by changing).changed key)
    ((site.0 == changing.uploader) && has_key changing.acted key) (is_some found) (enters publication judge changing p key valid sorted site)))

pub made-touches : (publication : Publication) (judge : PublisherJudge) (change : Change) (drawn : Drawn) (p : PublisherTables) → CanBeSaid publication → AreSorted p → (site : SiteId) (key : Key)
    → Touches publication p (made_locally publication judge change drawn p).0 site key
made-touches publication judge change drawn p valid sorted site key = changed-touches publication judge (changing_locally publication change drawn.value p) (with_draw drawn p) valid sorted.mappings_ascend site key

pub taken-touches : (publication : Publication) (judge : PublisherJudge) (m : Upload) (acts : List Act) (p : PublisherTables) → CanBeSaid publication → AreSorted p → (site : SiteId) (key : Key)
    → Touches publication p (taken_in publication judge m acts p) site key
taken-touches publication judge m acts p valid sorted site key = changed-touches publication judge (changing_by m acts) (with_acts publication m acts p) valid sorted.mappings_ascend site key

-- each row of an item that acts is touched anew for the uploader, also where it stays outside of its partition
pub item-touched : (publication : Publication) (judge : PublisherJudge) (m : Upload) (decisions : List Decision) (p : PublisherTables) → CanBeSaid publication → AreSorted p → is_subscription publication m.site.0 ≡ true
    → (key : Key) → has_key (map key_of_item (acting_items judge m)) key ≡ true
    → last_closed p < touched_at publication (taken_in publication judge m (acts_of judge m decisions p) p) m.site key
item-touched publication judge m decisions p valid sorted subscribes key acts =
    let made : List Act = acts_of judge m decisions p in
    let changing : Changing = changing_by m made in
    let before : PublisherTables = with_acts publication m made p in
    let q : PublisherTables = changed_by publication judge changing before in
    let found : Option Subscription = subscription_at publication m.site.0 in
    let rows : List (Key × PublisherRow) = rows_after changing p.rows in
    let was : Bool = has_key (inside_keys publication m.site p) key in
    let touched : Bool = (m.site.0 == m.site.0) && has_key changing.acted key in
    let acted : has_key changing.acted key ≡ true = ap (λ (keys : List Key). has_key keys key) (acts-keys judge m.site p (p.changes + 1) decisions (acting_items judge m)) ∙ acts in
    let above : last_closed p < touch_of (has_key (inside_keys publication m.site q) key) (row_at q.rows key) (mapping_at q key m.site.0) =
    subst (λ (keys : List Key). last_closed p < touch_of (has_key keys key) (row_at q.rows key) (mapping_at q key m.site.0)) (sym (inside-after publication judge changing before m.site))
    (acted-case (last_closed p) (row_at p.rows key) (row_at q.rows key) (mapping_at p key m.site.0) (mapping_at q key m.site.0) was (has_key (found_keys publication found rows) key) (has_key (touched_by changing).changed key) touched (is_some found)
    (enters publication judge changing before key valid sorted.mappings_ascend m.site) (grind (arith, nat_tests, acted)) (found-any (λ (s : Subscription). s.site.0 == m.site.0) publication.subscriptions ∙ subscribes)
    (λ inn. held-changes judge m.site p key (inside-held publication m.site p key inn) (p.changes + 1) decisions (acting_items judge m) acts)) in
    subst (λ (touch : ℕ). last_closed p < touch) (sym (touch-is q key m.site.0 (has_key (inside_keys publication m.site q) key))) above

-- No entries.

pub closed-touches : (publication : Publication) (p : PublisherTables) (site : SiteId) (key : Key) → Touches publication p (tables_after_close p) site key
closed-touches publication p site key = inl (refl, refl, refl)

pub asked-touches : (publication : Publication) (m : Download) (p : PublisherTables) (site : SiteId) (key : Key) → Touches publication p (tables_after_download m p) site key
asked-touches publication m p site key = inl (refl, refl, refl)

pub granted-touches : (publication : Publication) (planned : List GrantPlan) (p : PublisherTables) (site : SiteId) (key : Key) → Touches publication p (with_grants planned p) site key
granted-touches publication planned p site key = inl (refl, refl, refl)

pub moment-touches : (publication : Publication) (now : Moment) (p : PublisherTables) (site : SiteId) (key : Key) → Touches publication p (at_moment now p) site key
moment-touches publication now p site key = inl (refl, refl, refl)

-- A purge forgets rows that left in an old generation, and nothing of what is inside.

dead-none : (key : Key) (body : Body) → is_live body ≡ false → live_row key body ≡ None
dead-none key (Dead top) dead = refl
dead-none key (Live cells) dead = absurd (grind (arith, dead))

module _ (publication : Publication) (p : PublisherTables) where
  live-head : (row : Key × PublisherRow) (rest more : List (Key × PublisherRow)) (b : Bool) → is_old_tombstone publication p row ≡ b → live_rows rest ≡ live_rows more
      → (let left : List (Key × PublisherRow) = cond (not b) (row ∷ rest) rest in live_rows left ≡ live_rows (row ∷ more))
  live-head row rest more true old same =
      let dead : is_live row.1.version.body ≡ false = grind (arith, old) in
      same ∙ ap (λ (live : Option LiveRow). cons_option live (live_rows more)) (sym (dead-none row.0 row.1.version.body dead))
  live-head row rest more false old same = ap (λ (live : List LiveRow). cons_option (live_row row.0 row.1.version.body) live) same

  live-kept : (rows : List (Key × PublisherRow)) → live_rows (filter (λ (row : Key × PublisherRow). not (is_old_tombstone publication p row)) rows) ≡ live_rows rows
  live-kept [] = refl
  live-kept (row ∷ rows) = live-head row (filter (λ (r : Key × PublisherRow). not (is_old_tombstone publication p r)) rows) rows (is_old_tombstone publication p row) refl (live-kept rows)

pub purge-inside : (publication : Publication) (now : Moment) (p : PublisherTables) (site : SiteId) → inside_keys publication site (purge publication now p).0 ≡ inside_keys publication site p
purge-inside publication now p site = found-same publication (subscription_at publication site.0) (purge publication now p).0.rows p.rows (live-kept publication (at_moment now p) p.rows)

row-purged : (publication : Publication) (now : Moment) (p : PublisherTables) → AreSorted p → (site : SiteId) (key : Key) → has_key (inside_keys publication site p) key ≡ true → row_at (purge publication now p).0.rows key ≡ row_at p.rows key
row-purged publication now p sorted site key inn =
    let q : PublisherTables = (purge publication now p).0 in
    let keep : Key × PublisherRow → Bool = λ row. not (is_old_tombstone publication (at_moment now p) row) in
    let found : row_at q.rows key ≡ kept keep key (row_at p.rows key) = lookup-filter key_cmp key_total keys-exact keep key p.rows sorted.rows_ascend in
    let held : is_some (row_at q.rows key) ≡ true = inside-held publication site q key (ap (λ (keys : List Key). has_key keys key) (purge-inside publication now p site) ∙ inn) in
    found ∙ kept-found keep key (row_at p.rows key) (ap (λ (row : Option PublisherRow). is_some row) (sym found) ∙ held)

pub purge-owed : (publication : Publication) (now : Moment) (p : PublisherTables) → AreSorted p → (site : SiteId) (key : Key) → owed_at publication (purge publication now p).0 site key ≡ owed_at publication p site key
purge-owed publication now p sorted site key =
    let q : PublisherTables = (purge publication now p).0 in
    ap (λ (keys : List Key). owed_of (has_key keys key) (row_at q.rows key)) (purge-inside publication now p site)
    ∙ owed-same (has_key (inside_keys publication site p) key) (row_at q.rows key) (row_at p.rows key) (row-purged publication now p sorted site key)

-- what a purge forgets of a row: it is outside, and left in an old generation
abbrev pub IsForgotten : Publication → Moment → PublisherTables → SiteId → Key → Type 0
IsForgotten publication now p site key =
    (has_key (inside_keys publication site p) key ≡ false)
    × (touched_at publication (purge publication now p).0 site key ≡ 0)
    × (is_old publication (at_moment now p) (touched_at publication p site key) ≡ true)

pub purge-touched : (publication : Publication) (now : Moment) (p : PublisherTables) → AreSorted p → (site : SiteId) (key : Key)
    → (touched_at publication (purge publication now p).0 site key ≡ touched_at publication p site key) ⊎ IsForgotten publication now p site key
purge-touched publication now p sorted site key =
    let q : PublisherTables = (purge publication now p).0 in
    let old : ℕ → Bool = is_old publication (at_moment now p) in
    let place : RowSite = record { key = key; site = site.0 } in
    let is : Bool = has_key (inside_keys publication site p) key in
    let row : Option PublisherRow = row_at q.rows key in
    let after : touched_at publication q site key ≡ touch_of is row (kept (stays row (row_at p.rows key) old place) place (mapping_at p key site.0)) =
    touch-is q key site.0 (has_key (inside_keys publication site q) key) ∙ ap (λ (keys : List Key). touch_of (has_key keys key) row (mapping_at q key site.0)) (purge-inside publication now p site)
    ∙ ap (λ (move : Option Mapping). touch_of is row move) (lookup-filter row_site_cmp row_site_total places-exact (stays row (row_at p.rows key) old place) place p.mappings sorted.mappings_ascend) in
    let before = touch-is p key site.0 is in
    elim (old-case row (row_at p.rows key) old place is (mapping_at p key site.0) (row-purged publication now p sorted site key)) [
      | inl same ↦ inl (after ∙ same ∙ sym before)
      | inr gone ↦ inr (gone.0, after ∙ gone.1, ap old before ∙ gone.2)
    ]

-- A join that acts forgets what left the partition of its site.

pub joined-owed : (publication : Publication) (m : Join) (p : PublisherTables) (site : SiteId) (key : Key) → owed_at publication (join_taken m p) site key ≡ owed_at publication p site key
joined-owed publication m p site key = refl

module _ (publication : Publication) (m : Join) (p : PublisherTables) (sorted : AreSorted p) (site : SiteId) (key : Key) where
  abbrev place : RowSite
  place = record { key = key; site = site.0 }

  mapping-joined : mapping_at (join_taken m p) key site.0 ≡ kept (λ (entry : RowSite × Mapping). not (is_left_of m.site entry)) place (mapping_at p key site.0)
  mapping-joined = lookup-filter row_site_cmp row_site_total places-exact (λ (entry : RowSite × Mapping). not (is_left_of m.site entry)) place p.mappings sorted.mappings_ascend

  touch-joined : (is : Bool) → has_key (inside_keys publication site p) key ≡ is
      → touched_at publication (join_taken m p) site key ≡ touch_of is (row_at p.rows key) (kept (λ (entry : RowSite × Mapping). not (is_left_of m.site entry)) place (mapping_at p key site.0))
  touch-joined is inn = touch-is (join_taken m p) key site.0 (has_key (inside_keys publication site p) key) ∙ ap (λ (b : Bool). touch_of b (row_at p.rows key) (mapping_at (join_taken m p) key site.0)) inn
      ∙ ap (λ (move : Option Mapping). touch_of is (row_at p.rows key) move) mapping-joined

  touch-before : (is : Bool) → has_key (inside_keys publication site p) key ≡ is → touched_at publication p site key ≡ touch_of is (row_at p.rows key) (mapping_at p key site.0)
  touch-before is inn = touch-is p key site.0 (has_key (inside_keys publication site p) key) ∙ ap (λ (b : Bool). touch_of b (row_at p.rows key) (mapping_at p key site.0)) inn

pub joined-other : (publication : Publication) (m : Join) (p : PublisherTables) → AreSorted p → (site : SiteId) → (site.0 ≡ m.site.0 → ⊥) → (key : Key) → touched_at publication (join_taken m p) site key ≡ touched_at publication p site key
joined-other publication m p sorted site differs key =
    let is : Bool = has_key (inside_keys publication site p) key in
    let other : (site.0 == m.site.0) ≡ false = grind (arith, nat_tests, differs) in
    touch-joined publication m p sorted site key is refl
    ∙ ap (λ (move : Option Mapping). touch_of is (row_at p.rows key) move) (other-case (row_at p.rows key) (record { key = key; site = site.0 }) m.site (mapping_at p key site.0) other) ∙ sym (touch-before publication m p sorted site key is refl)

pub joined-in : (publication : Publication) (m : Join) (p : PublisherTables) → AreSorted p → (site : SiteId) (key : Key) → has_key (inside_keys publication site p) key ≡ true
    → touched_at publication (join_taken m p) site key ≡ touched_at publication p site key
joined-in publication m p sorted site key inn =
    touch-joined publication m p sorted site key true inn ∙ in-case (row_at p.rows key) (record { key = key; site = site.0 }) m.site (mapping_at p key site.0) ∙ sym (touch-before publication m p sorted site key true inn)

pub joined-out : (publication : Publication) (m : Join) (p : PublisherTables) → AreSorted p → (key : Key) → has_key (inside_keys publication m.site p) key ≡ false → touched_at publication (join_taken m p) m.site key ≡ 0
joined-out publication m p sorted key out =
    let same : (m.site.0 == m.site.0) ≡ true = grind (arith, nat_tests) in
    touch-joined publication m p sorted m.site key false out ∙ out-case (row_at p.rows key) (record { key = key; site = m.site.0 }) m.site (mapping_at p key m.site.0) same
