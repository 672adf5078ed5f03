-- What the acts of an upload leave: versions that stand, whatever was decided that counts, and lost versions that do.
use Rattle.std.specs.BTreeMap.{is_at}
use Rattle.std.specs.List.{AllByRecursion, cons_option}
use Rattle.std.specs.Prelude.{Bool, List, None, Option, Some, [], cond, false, if◌then◌else◌, length, map, refl, true, ℕ, ◌+◌, ◌==◌, ◌≡◌, ◌≤◌, ◌∷◌}
use Rattle.std.proofs.Common.{ap, arith, subst, sym}
use Rattle.merge_types.specs.RowKeys.{key_cmp}
use Rattle.merge_types.specs.declared.identifiers.Moment.{Moment}
use Rattle.merge_types.specs.declared.identifiers.SiteId.{SiteId}
use Rattle.merge_types.specs.declared.row_key.RowKey.{RowKey as Key}
use Rattle.merge_units.specs.Cases.{is_conflict}
use Rattle.merge_units.specs.Results.{case_body, result_by}
use Rattle.merge_units.specs.declared.case.Case.{Case}
use Rattle.merge_units.specs.declared.result.Decision.{Decision}
use Rattle.merge_units.specs.declared.result.Decision.TheVariants.{Custom, KeepPublisher, TakeSubscriber}
use Rattle.merge_units.specs.declared.site_row.PublisherRow.{PublisherRow}
use Rattle.merge_units.specs.declared.version.Version.{Version}
use Rattle.merge_conflict.specs.Losers.{losing_rows}
use Rattle.merge_conflict.specs.declared.row.ConflictRow.{ConflictRow}
use Rattle.merge_schema.specs.Valid.{IsValid}
use Rattle.merge_schema.specs.declared.publication.Publication.{Publication}
use Rattle.merge_batch.specs.Articles.{has_article}
use Rattle.merge_batch.specs.Lineages.{is_site}
use Rattle.merge_batch.specs.declared.request.UploadItem.{UploadItem}
use Rattle.merge_record.specs.Tables.{IsRowKey}
use Rattle.merge_model.specs.Judge.{PublisherJudge}
use Rattle.merge_model.specs.Laws.Promises.{key_of_conflict}
use Rattle.merge_model.specs.Publisher.Acts.{Act, Fate, Met, New, Unknown, act_of, acts_from, case_met, changes_by, conflict_of, decided_changes, decision_for, fate_by, is_new_row, key_of_item, left_by, lost_by, lost_from, made_by, meeting_of, version_of_act, versions_of}
use Rattle.merge_model.specs.Tables.Keys.{row_at}
use Rattle.merge_model.specs.Tables.Publications.{identity_column, resolver_at, resolver_column, tracking_at, types_at}
use Rattle.merge_model.specs.Tables.{PublisherTables}
use Rattle.merge_model.proofs.Lists.Finding.{some_same}
use Rattle.merge_model.proofs.Lists.KeyLookUps.{keys-exact}
use Rattle.merge_model.proofs.Lists.{all-append, all-map}
use Rattle.merge_owed.proofs.Decided.{ActCounts, FateCounts}
use Rattle.merge_honest.proofs.RowsFit.{RightAt, case-right, few}
use Rattle.merge_stored.proofs.AnyCalls.Versions.{RowStands, VersionStands, any, bound, most, own_dot, result-stands, row-later, version-weaker}

-- What is found by its key is one of those that there are.

module _ {R : Type 0} (P : Key → R → Type 0) where
  found-by : (b : Bool) (key : Key) (row : Key × R) (held : R) (rest : Option R) → is_at (key_cmp key) row.0 ≡ b → P row.0 row.1 → (rest ≡ Some held → P key held) → (let found : Option R = cond b (Some row.1) rest in found) ≡ Some held → P key held
  found-by true key row held rest is here more at = subst (λ (k : Key). P k held) (sym (keys-exact key row.0 is)) (subst (λ (r : R). P row.0 r) (some_same row.1 held at) here)
  found-by false key row held rest is here more at = more at

  pub found-row : (rows : List (Key × R)) (key : Key) (held : R) → AllByRecursion (λ (row : Key × R). P row.0 row.1) rows → row_at rows key ≡ Some held → P key held
  found-row [] key held all at = absurd cc
  found-row (row ∷ rows) key held all at = found-by (is_at (key_cmp key) row.0) key row held (row_at rows key) refl all.0 (found-row rows key held all.1) at

keeps-by : (case : Case) (decisions : List Decision) → is_conflict case ≡ false → decision_for case decisions ≡ KeepPublisher
keeps-by case [] is = refl
keeps-by case (decision ∷ decisions) is = ap (λ (b : Bool). (let d : Decision = if b then decision else KeepPublisher in d)) is

module _ (publication : Publication) where
  -- a version that an upload's item found, or brought
  abbrev pub LostStands : ConflictRow → Type 0
  LostStands row = VersionStands publication any (key_of_conflict row) row.losing × (is_site publication row.from.0 ≡ true)

  abbrev pub KeyStands : Key → Type 0
  KeyStands key = IsRowKey key × (has_article publication key.article ≡ true)

  abbrev FateIs : Key → Fate → Type 0
  FateIs key (Met held case decision dot) = VersionStands publication any key held
  FateIs key fate = Unit {0}

  abbrev pub ActIs : Act → Type 0
  ActIs act = VersionStands publication any act.key act.incoming × FateIs act.key act.fate

  -- Lost versions.

  module _ (site : SiteId) (moment : Moment) (subscribes : is_site publication site.0 ≡ true) where
    losing-stand : (number : ℕ) (key : Key) (held incoming : Version) (decision : Decision) → VersionStands publication any key held → VersionStands publication any key incoming → AllByRecursion LostStands (losing_rows (conflict_of publication site moment number key) held incoming decision)
    losing-stand number key held incoming KeepPublisher one other = ((other, subscribes), tt)
    losing-stand number key held incoming TakeSubscriber one other = ((one, refl), tt)
    losing-stand number key held incoming (Custom values) one other = ((one, refl), ((other, subscribes), tt))

    if-stand : (b : Bool) (rows : List ConflictRow) → AllByRecursion LostStands rows → (let some : List ConflictRow = if b then rows else [] in AllByRecursion LostStands some)
    if-stand true rows all = all
    if-stand false rows all = tt

    lost-stand : (number : ℕ) (act : Act) (fate : Fate) → VersionStands publication any act.key act.incoming → FateIs act.key fate → AllByRecursion LostStands (lost_by publication site moment number act fate)
    lost-stand number act New one other = tt
    lost-stand number act Unknown one other = ((one, subscribes), tt)
    lost-stand number act (Met held case decision dot) one other =
        if-stand (is_conflict case) (losing_rows (conflict_of publication site moment number act.key) held act.incoming decision) (losing-stand number act.key held act.incoming decision other one)

    pub all-lost : (number : ℕ) (acts : List Act) → AllByRecursion ActIs acts → AllByRecursion LostStands (lost_from publication site moment number acts)
    all-lost number [] all = tt
    all-lost number (act ∷ acts) all =
        let rows : List ConflictRow = lost_by publication site moment number act act.fate in
        all-append LostStands rows (lost_from publication site moment (number + length rows) acts) (lost-stand number act act.fate all.0.0 all.0.1) (all-lost (number + length rows) acts all.1)

  pub keys-stand : (acts : List Act) → AllByRecursion ActIs acts → AllByRecursion KeyStands (map (λ (act : Act). act.key) acts)
  keys-stand acts all = all-map ActIs KeyStands (λ (act : Act). act.key) (λ act is. (is.0.key_fits, is.0.exists)) acts all

  -- The acts.

  module _ (resolvers : ℕ) (valid : IsValid resolvers publication) (judge : PublisherJudge) (site : SiteId) (p : PublisherTables) (low : p.changes ≤ most) (rows : AllByRecursion (λ (row : Key × PublisherRow). RowStands publication p.changes row.0 row.1.version) p.rows) where
    abbrev ItemStands : UploadItem → Type 0
    ItemStands item = RowStands publication p.changes (key_of_item item) item.version

    any-stands : (key : Key) (version : Version) → RowStands publication p.changes key version → VersionStands publication any key version
    any-stands key version r = version-weaker publication (bound p.changes) any (λ n. bound-any (n == 0)) key version r.stands
      where
        bound-any : (b : Bool) → (let n : ℕ = if b then p.changes else most in n ≤ most)
        bound-any true = low
        bound-any false = omega arith

    held-stands : (key : Key) (held : PublisherRow) → row_at p.rows key ≡ Some held → RowStands publication p.changes key held.version
    held-stands key held at = found-row (λ (k : Key) (row : PublisherRow). RowStands publication p.changes k row.version) p.rows key held rows at

    new-is : (b : Bool) (key : Key) → (let fate : Fate = if b then New else Unknown in FateIs key fate)
    new-is true key = tt
    new-is false key = tt

    fate-is : (number : ℕ) (decisions : List Decision) (item : UploadItem) (found : Option PublisherRow) → row_at p.rows (key_of_item item) ≡ found → FateIs (key_of_item item) (fate_by judge site number decisions item found)
    fate-is number decisions item None at = new-is (is_new_row judge site (key_of_item item)) (key_of_item item)
    fate-is number decisions item (Some held) at = any-stands (key_of_item item) held.version (held-stands (key_of_item item) held at)

    pub acts-are : (number : ℕ) (decisions : List Decision) (items : List UploadItem) → AllByRecursion ItemStands items → AllByRecursion ActIs (acts_from judge site p number decisions items)
    acts-are number decisions [] all = tt
    acts-are number decisions (item ∷ items) all =
        let act : Act = act_of judge site p number decisions item in
        ((any-stands (key_of_item item) item.version all.0, fate-is number decisions item (row_at p.rows (key_of_item item)) refl), acts-are (number + made_by act.fate) (left_by act.fate decisions) items all.1)

    -- The versions that they leave.

    abbrev pub VersionIs : ℕ → Key × Version → Type 0
    VersionIs changes row = RowStands publication changes row.0 row.1

    -- a merge that counts
    met-stands : (changes number : ℕ) (item : UploadItem) (held : PublisherRow) (decisions : List Decision) → p.changes ≤ changes → number ≡ changes + 1 → ItemStands item → RowStands publication p.changes (key_of_item item) held.version
        → (let case : Case = case_met judge (key_of_item item) held.version item.version in let decision : Decision = decision_for case decisions in
        FateCounts publication judge site p (key_of_item item) item.version (Met held.version case decision (own_dot number)) → RowStands publication (changes + decided_changes decision) (key_of_item item) (result_by case held.version item.version decision (own_dot number)))
    met-stands changes number item held decisions up next incoming there counts =
        let key : Key = key_of_item item in
        let case : Case = case_met judge key held.version item.version in
        let decision : Decision = decision_for case decisions in
        let right : RightAt publication key (case_body (own_dot number) decision case held.version.body item.version.body) =
        case-right (meeting_of publication judge site p.latest key held.version item.version) (resolver_at publication key.article) (resolver_column publication key.article) (types_at publication key.article) (identity_column publication key.article) (tracking_at publication key.article)
        (few resolvers publication valid key.article) (judge.knows_here key held.version) (judge.knows_there key item.version) (own_dot number) decision held.version.body item.version.body (keeps-by case decisions) counts there.stands.right incoming.stands.right in
        let first = row-later publication p.changes changes up key held.version there in
        let second = row-later publication p.changes changes up key item.version incoming in
        let more : changes ≤ changes + decided_changes decision = omega arith in
        record {
          stands = result-stands publication changes number key held.version item.version case decision next right first.stands second.stands;
          made = (row-later publication changes (changes + decided_changes decision) more key held.version first).made;
        }

    abbrev act_by : ℕ → List Decision → UploadItem → Option PublisherRow → Act
    act_by number decisions item found = record { key = key_of_item item; incoming = item.version; fate = fate_by judge site number decisions item found }

    new-step : (b : Bool) (total : ℕ) (item : UploadItem) (rest : List (Key × Version)) → p.changes ≤ total → ItemStands item → AllByRecursion (VersionIs total) rest
        → (let fate : Fate = if b then New else Unknown in let act : Act = record { key = key_of_item item; incoming = item.version; fate = fate } in AllByRecursion (VersionIs total) (cons_option (version_of_act act) rest))
    new-step true total item rest up incoming all = (row-later publication p.changes total up (key_of_item item) item.version incoming, all)
    new-step false total item rest up incoming all = all

    act-step : (changes number total : ℕ) (decisions : List Decision) (item : UploadItem) (found : Option PublisherRow) (rest : List (Key × Version)) → row_at p.rows (key_of_item item) ≡ found → p.changes ≤ changes → number ≡ changes + 1
        → changes + made_by (fate_by judge site number decisions item found) ≤ total → ItemStands item → FateCounts publication judge site p (key_of_item item) item.version (fate_by judge site number decisions item found) → AllByRecursion (VersionIs total) rest
        → AllByRecursion (VersionIs total) (cons_option (version_of_act (act_by number decisions item found)) rest)
    act-step changes number total decisions item None rest at up next most_now incoming counts all = new-step (is_new_row judge site (key_of_item item)) total item rest (omega (arith, up, most_now)) incoming all
    act-step changes number total decisions item (Some held) rest at up next most_now incoming counts all =
        let key : Key = key_of_item item in
        let case : Case = case_met judge key held.version item.version in
        let decision : Decision = decision_for case decisions in (
          row-later publication (changes + decided_changes decision) total most_now key (result_by case held.version item.version decision (own_dot number))
              (met-stands changes number item held decisions up next incoming (held-stands key held at) counts),
          all,
        )

    acts-from : (items : List UploadItem) (changes number : ℕ) (decisions : List Decision) → p.changes ≤ changes → number ≡ changes + 1 → AllByRecursion ItemStands items → AllByRecursion (ActCounts publication judge site p) (acts_from judge site p number decisions items)
        → (let acts : List Act = acts_from judge site p number decisions items in AllByRecursion (VersionIs (changes + changes_by acts)) (versions_of acts))
    acts-from [] changes number decisions up next items counts = tt
    acts-from (item ∷ items) changes number decisions up next stand counts =
        let act : Act = act_of judge site p number decisions item in
        let acts : List Act = acts_from judge site p (number + made_by act.fate) (left_by act.fate decisions) items in
        let made : ℕ = made_by act.fate in
        let rest = acts-from items (changes + made) (number + made) (left_by act.fate decisions) (omega (arith, up)) (omega (arith, next)) stand.1 counts.1 in
        let same : changes + made + changes_by acts ≡ changes + (made + changes_by acts) = omega arith in
        act-step changes number (changes + (made + changes_by acts)) decisions item (row_at p.rows (key_of_item item)) (versions_of acts) refl up next (omega arith) stand.0 counts.0
        (subst (λ (n : ℕ). AllByRecursion (VersionIs n) (versions_of acts)) same rest)

    pub acts-stand : (items : List UploadItem) (decisions : List Decision) → AllByRecursion ItemStands items → AllByRecursion (ActCounts publication judge site p) (acts_from judge site p (p.changes + 1) decisions items)
        → (let acts : List Act = acts_from judge site p (p.changes + 1) decisions items in AllByRecursion (VersionIs (p.changes + changes_by acts)) (versions_of acts))
    acts-stand items decisions stand counts = acts-from items p.changes (p.changes + 1) decisions (omega arith) refl stand counts
