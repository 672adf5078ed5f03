-- What a step does to lineages: each that is kept afterwards was kept before, or was joined of such, or knows a new change besides.
-- The room holds what lineages know, what they stand for, and that they decide as histories do.
pub mod LineageLists
pub mod LineagesKept
pub mod Standing
pub mod LineagesTold
pub mod LineagesStand
pub mod AllStand
pub mod LineagesAlways
use Rattle.std.specs.Prelude.{◌≤◌, ◌+◌, ℕ, List, [], ◌∷◌, Bool, true, false, Option, Some, None, if◌then◌else◌, filter_map, length, map, zip}
use Rattle.std.specs.BTreeMap.{is_at}
use Rattle.std.specs.List.{AllByRecursion, fold}
use Rattle.std.specs.Option.{option_to_list}
use Rattle.std.proofs.Common.{arith}
use Rattle.merge_types.specs.declared.changes.Change.{Change}
use Rattle.merge_types.specs.declared.changes.Change.TheVariants.{Insert, Update, Delete}
use Rattle.merge_types.specs.declared.identifiers.Dot.{Dot}
use Rattle.merge_types.specs.declared.identifiers.Moment.{Moment}
use Rattle.merge_types.specs.declared.identifiers.SiteId.{SiteId}
use Rattle.merge_types.specs.declared.values.Value.{Value}
use Rattle.merge_lineage.specs.Lineage.{joined, with_dot}
use Rattle.merge_units.specs.declared.result.Decision.{Decision}
use Rattle.merge_units.specs.declared.result.Decision.TheVariants.{Custom, KeepPublisher, TakeSubscriber}
use Rattle.merge_units.specs.declared.version.Version.{Version}
use Rattle.merge_units.specs.Changes.{changed, removed}
use Rattle.merge_units.specs.Results.{result_lineage}
use Rattle.merge_units.specs.Version.{is_live}
use Rattle.merge_conflict.specs.declared.losers.Conflict.{Conflict}
use Rattle.merge_conflict.specs.declared.row.ConflictRow.{ConflictRow}
use Rattle.merge_conflict.specs.Losers.{losing_rows, publisher_site}
use Rattle.merge_schema.specs.declared.publication.Publication.{Publication}
use Rattle.merge_batch.specs.declared.reply.Act.{Act as Order}
use Rattle.merge_batch.specs.declared.reply.Act.TheVariants as order
use Rattle.merge_batch.specs.declared.reply.DownloadItem.{DownloadItem}
use Rattle.merge_batch.specs.declared.request.UploadItem.{UploadItem}
use Rattle.merge_model.specs.Publisher.Acts.{Act, Fate, Met, New, Unknown, act_of, acts_from, conflict_of, case_met, changes_by, decided_changes, decision_for, fate_by, is_new_row, key_of_item, left_by, lost_by, lost_from, made_by, version_by, version_of_act, versions_of}
use Rattle.merge_units.specs.Cases.{is_conflict}
use Rattle.merge_model.specs.Tables.Changes.{version_after}
use Rattle.merge_model.specs.Publisher.Entries.{with_rows}
use Rattle.merge_model.specs.Judge.{PublisherJudge, SubscriberJudge}
use Rattle.merge_types.specs.RowKeys.{key_cmp}
use Rattle.merge_model.specs.Tables.Keys.{put_row, row_at}
use Rattle.merge_model.specs.Publisher.PublisherDownload.{TouchedRow, item_of}
use Rattle.merge_batch.specs.Orders.{order_by}
use Rattle.merge_model.specs.Publisher.PublisherLocal.{version_at}
use Rattle.merge_model.specs.Tables.Publications.{tracking_at}
use Rattle.merge_model.specs.Subscriber.Reinit.{discarded_rows_from, discarded_versions}
use Rattle.merge_model.specs.Subscriber.Sending.{upload_item}
use Rattle.merge_model.specs.Subscriber.{subscriber_version_at, with_version_if}
use Rattle.merge_types.specs.declared.row_key.RowKey.{RowKey as Key}
use Rattle.merge_units.specs.declared.site_row.PublisherRow.{PublisherRow}
use Rattle.merge_units.specs.declared.site_row.SubscriberRow.{SubscriberRow}
use Rattle.merge_model.specs.Tables.{PublisherTables, SubscriberTables}
use Rattle.merge_model.specs.Subscriber.Taking.{key_of_download, row_above, with_item, with_order}
use Rattle.merge_laws.specs.Facts.Lineages.{OfLost, OfOrder}
use Rattle.merge_laws.proofs.Lineages.LineageLists.{values-dropped, values-found, values-put}
use Rattle.merge_model.proofs.Lists.{OfSome, some-map, all-unit, all-map, all-filter_map, all-append}

-- Of a fact of lineages, in general.

module _ (Q : List Dot → Type 0) where
  abbrev pub OfVersion : Version → Type 0
  OfVersion version = Q version.lineage

  abbrev OfVersions : List (Key × Version) → Type 0
  OfVersions versions = AllByRecursion (λ (row : Key × Version). OfVersion row.1) versions

  abbrev OfRows : List (Key × PublisherRow) → Type 0
  OfRows rows = AllByRecursion (λ (row : Key × PublisherRow). OfVersion row.1.version) rows

  abbrev OfOwnRows : List (Key × SubscriberRow) → Type 0
  OfOwnRows rows = AllByRecursion (λ (row : Key × SubscriberRow). OfVersion row.1.version) rows

  -- the publisher's rows, with versions that were given generations
  rows-put : (changed : List ((Key × Version) × ℕ)) (rows : List (Key × PublisherRow)) → AllByRecursion (λ (row : (Key × Version) × ℕ). OfVersion row.0.1) changed → OfRows rows → OfRows (with_rows rows changed)
  rows-put [] rows new all = all
  rows-put (row ∷ changed) rows new all = rows-put changed (put_row rows row.0.0 (record { version = row.0.1; changed = row.1 })) new.1
      (values-put (λ (x : PublisherRow). OfVersion x.version) key_cmp row.0.0 (record { version = row.0.1; changed = row.1 }) rows new.0 all)

  zip-all : (versions : List (Key × Version)) (generations : List ℕ) → OfVersions versions → AllByRecursion (λ (row : (Key × Version) × ℕ). OfVersion row.0.1) (zip versions generations)
  zip-all [] generations all = tt
  zip-all (version ∷ versions) [] all = tt
  zip-all (version ∷ versions) (g ∷ generations) all = (all.0, zip-all versions generations all.1)

  pub rows-changed : (versions : List (Key × Version)) (generations : List ℕ) (rows : List (Key × PublisherRow)) → OfVersions versions → OfRows rows → OfRows (with_rows rows (zip versions generations))
  rows-changed versions generations rows new all = rows-put (zip versions generations) rows (zip-all versions generations new) all

  -- a local change
  pub after-fits : (publication : Publication) (dot : Dot) (identity : Value) (change : Change) (held : Option Version) → ((l : List Dot) → Q l → Q (with_dot dot l)) → Q [] → OfSome OfVersion held → OfSome OfVersion (version_after publication dot identity change held)
  after-fits publication dot identity (Insert article values) held knows none all = knows [] none
  after-fits publication dot identity (Update article row values) held knows none all = some-map OfVersion OfVersion (λ (version : Version). changed version dot values (tracking_at publication article)) (λ version fits. knows version.lineage fits) held all
  after-fits publication dot identity (Delete article row) held knows none all = some-map OfVersion OfVersion (λ (version : Version). removed version dot) (λ version fits. knows version.lineage fits) held all

  pub versions-local : (key : Key) (found : Option Version) → OfSome OfVersion found → OfVersions (map (λ (version : Version). (key, version)) (option_to_list found))
  versions-local key None all = tt
  versions-local key (Some version) all = (all, tt)

  -- acts
  abbrev DotFits : Decision → Dot → Type 0
  DotFits (Custom values) dot = (l : List Dot) → Q l → Q (with_dot dot l)
  DotFits decision dot = Unit {0}

  abbrev FateFits : Fate → Type 0
  FateFits New = Unit {0}
  FateFits Unknown = Unit {0}
  FateFits (Met held case decision dot) = OfVersion held × DotFits decision dot

  abbrev pub ActFits : Act → Type 0
  ActFits act = OfVersion act.incoming × FateFits act.fate

  module _ (join : (a b : List Dot) → Q a → Q b → Q (joined a b)) where
    result-fits : (ours theirs : List Dot) (decision : Decision) (dot : Dot) → Q ours → Q theirs → DotFits decision dot → Q (result_lineage ours theirs decision dot)
    result-fits ours theirs KeepPublisher dot first second fits = join ours theirs first second
    result-fits ours theirs TakeSubscriber dot first second fits = join ours theirs first second
    result-fits ours theirs (Custom values) dot first second fits = fits (joined ours theirs) (join ours theirs first second)

    version-fits : (key : Key) (incoming : Version) (fate : Fate) → OfVersion incoming → FateFits fate
        → (let found : Option (Key × Version) = elim (version_by incoming fate) [ None ↦ None | Some version ↦ Some (key, version) ] in OfSome (λ (row : Key × Version). OfVersion row.1) found)
    version-fits key incoming New first fits = first
    version-fits key incoming Unknown first fits = tt
    version-fits key incoming (Met held case decision dot) first fits = result-fits held.lineage incoming.lineage decision dot fits.0 first fits.1

    pub versions-fit : (acts : List Act) → AllByRecursion ActFits acts → OfVersions (versions_of acts)
    versions-fit acts all = all-filter_map ActFits (λ (row : Key × Version). OfVersion row.1) version_of_act (λ act fits. version-fits act.key act.incoming act.fate fits.0 fits.1) acts all

  -- what they lose
  losing-fits : (conflict : Conflict) (ours theirs : Version) (decision : Decision) → OfVersion ours → OfVersion theirs → OfLost Q (losing_rows conflict ours theirs decision)
  losing-fits conflict ours theirs KeepPublisher first second = (second, tt)
  losing-fits conflict ours theirs TakeSubscriber first second = (first, tt)
  losing-fits conflict ours theirs (Custom values) first second = (first, (second, tt))

  if-lost : (b : Bool) (rows : List ConflictRow) → OfLost Q rows → OfLost Q (if b then rows else [])
  if-lost true rows all = all
  if-lost false rows all = tt

  lost-fits : (publication : Publication) (site : SiteId) (moment : Moment) (number : ℕ) (act : Act) (fate : Fate) → OfVersion act.incoming → FateFits fate → OfLost Q (lost_by publication site moment number act fate)
  lost-fits publication site moment number act New first fits = tt
  lost-fits publication site moment number act Unknown first fits = (first, tt)
  lost-fits publication site moment number act (Met held case decision dot) first fits =
      let conflict : Conflict = conflict_of publication site moment number act.key in
      if-lost (is_conflict case) (losing_rows conflict held act.incoming decision) (losing-fits conflict held act.incoming decision fits.0 first)

  pub all-lost : (publication : Publication) (site : SiteId) (moment : Moment) (number : ℕ) (acts : List Act) → AllByRecursion ActFits acts → OfLost Q (lost_from publication site moment number acts)
  all-lost publication site moment number [] all = tt
  all-lost publication site moment number (act ∷ acts) all =
      let rows : List ConflictRow = lost_by publication site moment number act act.fate in
      all-append (λ (row : ConflictRow). Q row.losing.lineage) rows (lost_from publication site moment (number + length rows) acts) (lost-fits publication site moment number act act.fate all.0.0 all.0.1)
      (all-lost publication site moment (number + length rows) acts all.1)

  -- acts of items and rows that fit, whose decided changes are numbered up to a top
  module _ (judge : PublisherJudge) (site : SiteId) (p : PublisherTables) (rows : OfRows p.rows) (top : ℕ) (knows : (number : ℕ) → number ≤ top → (l : List Dot) → Q l → Q (with_dot (record { site = publisher_site; number = number }) l)) where
    dot-fits : (decision : Decision) (number : ℕ) → number + decided_changes decision ≤ top + 1 → DotFits decision (record { site = publisher_site; number = number })
    dot-fits KeepPublisher number up = tt
    dot-fits TakeSubscriber number up = tt
    dot-fits (Custom values) number up = knows number (omega (arith, up))

    new-fits : (b : Bool) → FateFits (if b then New else Unknown)
    new-fits true = tt
    new-fits false = tt

    fate-fits : (number : ℕ) (decisions : List Decision) (item : UploadItem) (found : Option PublisherRow) → OfSome (λ (x : PublisherRow). OfVersion x.version) found → number + made_by (fate_by judge site number decisions item found) ≤ top + 1
        → FateFits (fate_by judge site number decisions item found)
    fate-fits number decisions item None held up = new-fits (is_new_row judge site (key_of_item item))
    fate-fits number decisions item (Some row) held up = (held, dot-fits (decision_for (case_met judge (key_of_item item) row.version item.version) decisions) number up)

    pub acts-fit : (number : ℕ) (decisions : List Decision) (items : List UploadItem) → number + changes_by (acts_from judge site p number decisions items) ≤ top + 1 → AllByRecursion (λ (item : UploadItem). OfVersion item.version) items
        → AllByRecursion ActFits (acts_from judge site p number decisions items)
    acts-fit number decisions [] up all = tt
    acts-fit number decisions (item ∷ items) up all =
        let act : Act = act_of judge site p number decisions item in
        let rest : List Act = acts_from judge site p (number + made_by act.fate) (left_by act.fate decisions) items in (
          (all.0, fate-fits number decisions item (row_at p.rows (key_of_item item)) (values-found (λ (x : PublisherRow). OfVersion x.version) (is_at (key_cmp (key_of_item item))) p.rows rows) (omega (arith, up))),
          acts-fit (number + made_by act.fate) (left_by act.fate decisions) items (omega (arith, up)) all.1,
        )

  -- At a subscriber.

  pub own-found : (s : SubscriberTables) (key : Key) → OfOwnRows s.rows → OfSome OfVersion (subscriber_version_at s key)
  own-found s key all = some-map (λ (row : SubscriberRow). OfVersion row.version) OfVersion (λ (row : SubscriberRow). row.version) (λ row fits. fits) (row_at s.rows key) (values-found (λ (x : SubscriberRow). OfVersion x.version) (is_at (key_cmp key)) s.rows all)

  pub held-found : (p : PublisherTables) (key : Key) → OfRows p.rows → OfSome OfVersion (version_at p key)
  held-found p key all = some-map (λ (row : PublisherRow). OfVersion row.version) OfVersion (λ (row : PublisherRow). row.version) (λ row fits. fits) (row_at p.rows key) (values-found (λ (x : PublisherRow). OfVersion x.version) (is_at (key_cmp key)) p.rows all)

  pub own-put : (key : Key) (found : Option Version) (u : SubscriberTables) → OfSome OfVersion found → OfOwnRows u.rows → OfOwnRows (with_version_if key found u).rows
  own-put key None u new all = all
  own-put key (Some version) u new all = values-put (λ (x : SubscriberRow). OfVersion x.version) key_cmp key _ u.rows new all

  pub own-above : (received : ℕ) (rows : List (Key × SubscriberRow)) → OfOwnRows rows → OfOwnRows (map (row_above received) rows)
  own-above received rows all = all-map (λ (row : Key × SubscriberRow). OfVersion row.1.version) (λ (row : Key × SubscriberRow). OfVersion row.1.version) (row_above received) (λ row fits. fits) rows all

  own-order : (key : Key) (o : Order) (rows : List (Key × SubscriberRow)) → OfOrder Q o → OfOwnRows rows → OfOwnRows (with_order key o rows)
  own-order key (order.Put lineage live) rows new all = values-put (λ (x : SubscriberRow). OfVersion x.version) key_cmp key _ rows new all
  own-order key order.RemoveDeleted rows new all = values-dropped (λ (x : SubscriberRow). OfVersion x.version) (is_at (key_cmp key)) rows all
  own-order key order.RemoveLeft rows new all = values-dropped (λ (x : SubscriberRow). OfVersion x.version) (is_at (key_cmp key)) rows all

  if-own : (b : Bool) (x y : List (Key × SubscriberRow)) → OfOwnRows x → OfOwnRows y → OfOwnRows (if b then x else y)
  if-own true x y first second = first
  if-own false x y first second = second

  pub own-items : (judge : SubscriberJudge) (received : ℕ) (items : List DownloadItem) (rows : List (Key × SubscriberRow)) → AllByRecursion (λ (item : DownloadItem). OfOrder Q item.act) items → OfOwnRows rows → OfOwnRows (fold (with_item judge received) rows items)
  own-items judge received [] rows new all = all
  own-items judge received (item ∷ items) rows new all = own-items judge received items (with_item judge received rows item) new.1
      (if-own (judge.is_unsent received (key_of_download item)) rows (with_order (key_of_download item) item.act rows) all (own-order (key_of_download item) item.act rows new.0 all))

  discarded-step : (b : Bool) (row : Key × SubscriberRow) → OfVersion row.1.version → OfSome (λ (x : Key × Version). OfVersion x.1) (let found : Option (Key × Version) = if b then Some (row.0, row.1.version) else None in found)
  discarded-step true row fits = fits
  discarded-step false row fits = tt

  discarded-fit : (judge : SubscriberJudge) (s : SubscriberTables) → OfOwnRows s.rows → OfVersions (discarded_versions judge s)
  discarded-fit judge s all = all-filter_map (λ (row : Key × SubscriberRow). OfVersion row.1.version) (λ (row : Key × Version). OfVersion row.1) (λ (row : Key × SubscriberRow). if judge.is_unsent s.received row.0 then Some (row.0, row.1.version) else None)
      (λ row fits. discarded-step (judge.is_unsent s.received row.0) row fits) s.rows all

  numbered-fit : (s : SubscriberTables) (number : ℕ) (rows : List (Key × Version)) → OfVersions rows → OfLost Q (discarded_rows_from s number rows)
  numbered-fit s number [] all = tt
  numbered-fit s number (row ∷ rows) all = (all.0, numbered-fit s (number + 1) rows all.1)

  pub anew-lost : (judge : SubscriberJudge) (s : SubscriberTables) (number : ℕ) → OfOwnRows s.rows → OfLost Q (discarded_rows_from s number (discarded_versions judge s))
  anew-lost judge s number all = numbered-fit s number (discarded_versions judge s) (discarded-fit judge s all)

  -- Messages.

  pub sent-items : (s : SubscriberTables) (rows : List (Key × ℕ)) → OfOwnRows s.rows → AllByRecursion (λ (item : UploadItem). OfVersion item.version) (filter_map (upload_item s) rows)
  sent-items s rows all = all-filter_map (λ (row : Key × ℕ). Unit {0}) (λ (item : UploadItem). OfVersion item.version) (upload_item s)
      (λ row unit. some-map OfVersion (λ (item : UploadItem). OfVersion item.version) (λ (version : Version). (let item : UploadItem = record { article = row.0.article; row = row.0.row; generation = row.1; version = version } in item)) (λ version fits. fits)
      (subscriber_version_at s row.0) (own-found s row.0 all)) rows (all-unit rows)

  if-order : (b : Bool) → OfOrder Q (if b then order.RemoveLeft else order.RemoveDeleted)
  if-order true = tt
  if-order false = tt

  order-fits : (is_in : Bool) (found : Option Version) → OfSome OfVersion found → OfOrder Q (order_by is_in found)
  order-fits true (Some version) fits = fits
  order-fits false (Some version) fits = if-order (is_live version.body)
  order-fits true None fits = tt
  order-fits false None fits = tt

  pub put-items : (p : PublisherTables) (rows : List TouchedRow) → OfRows p.rows → AllByRecursion (λ (item : DownloadItem). OfOrder Q item.act) (map (item_of p) rows)
  put-items p rows all = all-map (λ (row : TouchedRow). Unit {0}) (λ (item : DownloadItem). OfOrder Q item.act) (item_of p) (λ row unit. order-fits row.is_in (version_at p row.key) (held-found p row.key all)) rows (all-unit rows)
