-- What acts on other rows leaves of a row: what is held of it, what it comes from, what lost, and the changes that were made.
use Rattle.std.specs.Prelude.{◌≡◌, ◌++◌, ◌+◌, ◌||◌, ℕ, List, [], ◌∷◌, Bool, true, false, not, Option, Some, None, refl, if◌then◌else◌, cond, filter, length, map, unwrap_or, zip}
use Rattle.std.specs.List.{AllByRecursion, fold, list_all}
use Rattle.std.proofs.Common.{arith, ap, ◌∙◌}
use Rattle.std.proofs.lemmas.List.{append-nil}
use Rattle.std.proofs.lemmas.List.Elements.{filter-append}
use Rattle.merge_types.specs.declared.identifiers.Dot.{Dot}
use Rattle.merge_types.specs.declared.identifiers.Moment.{Moment}
use Rattle.merge_types.specs.declared.identifiers.SiteId.{SiteId}
use Rattle.merge_units.specs.declared.case.Case.{Case}
use Rattle.merge_units.specs.declared.result.Decision.{Decision}
use Rattle.merge_units.specs.declared.result.Decision.TheVariants.{Custom, KeepPublisher, TakeSubscriber}
use Rattle.merge_units.specs.declared.version.Version.{Version}
use Rattle.merge_conflict.specs.declared.losers.Conflict.{Conflict}
use Rattle.merge_conflict.specs.declared.row.ConflictRow.{ConflictRow}
use Rattle.merge_conflict.specs.Losers.{losing_rows}
use Rattle.merge_schema.specs.declared.publication.Publication.{Publication}
use Rattle.merge_batch.specs.declared.request.Upload.{Upload}
use Rattle.merge_batch.specs.declared.request.UploadItem.{UploadItem}
use Rattle.merge_model.specs.Publisher.Acts.{Act, Fate, Met, New, Unknown, act_of, acts_from, conflict_of, key_of_item, left_by, lost_by, lost_from, made_by, version_by, version_of_act, versions_of}
use Rattle.merge_units.specs.Cases.{is_conflict}
use Rattle.merge_model.specs.Publisher.Entries.{Entries, changing_entries, with_rows}
use Rattle.merge_model.specs.History.{History, Line, MadeChange, Past, is_done, no_past, past_at, past_in, pasts_at}
use Rattle.merge_model.specs.Judge.{PublisherJudge}
use Rattle.merge_model.specs.Tables.Keys.{put_row, row_at, same_key}
use Rattle.merge_model.specs.History.Noting
use Rattle.merge_model.specs.History.Pasts.{past_by}
use Rattle.merge_model.specs.Laws.Promises.{key_of_conflict}
use Rattle.merge_model.specs.Publisher.{last_closed}
use Rattle.merge_model.specs.Publisher.PublisherUpload.{changing_by, taken_in, with_acts}
use Rattle.merge_types.specs.declared.row_key.RowKey.{RowKey as Key}
use Rattle.merge_units.specs.declared.site_row.PublisherRow.{PublisherRow}
use Rattle.merge_model.specs.Tables.{PublisherTables}
use Rattle.merge_laws.specs.Laws.ActsOnce.{OfRow, of_row}
use Rattle.merge_model.proofs.Lists.Finding.{at_put_same}
use Rattle.merge_model.proofs.Lists.KeyLookUps.{row-put}
use Rattle.merge_model.proofs.Lists.{OfSome, all-append, all-filter_map}
use Rattle.merge_laws.proofs.Walking.Noted.{DecidesAsOwn}

-- What passes no test is filtered away.

filter-none : {X : Type 0} (test : X → Bool) (xs : List X) → AllByRecursion (λ (x : X). test x ≡ false) xs → filter test xs ≡ []
filter-none test [] all = refl
filter-none {X = X} test (x ∷ xs) all = ap (λ (b : Bool). (let kept : List X = cond b (x ∷ filter test xs) (filter test xs) in kept)) all.0 ∙ filter-none test xs all.1

filter-more : {X : Type 0} (test : X → Bool) (xs ys : List X) → AllByRecursion (λ (x : X). test x ≡ false) ys → filter test (xs ++ ys) ≡ filter test xs
filter-more {X = X} test xs ys all = filter-append test xs ys ∙ ap (λ (rest : List X). filter test xs ++ rest) (filter-none test ys all) ∙ append-nil (filter test xs)

module _ (q : Key) where
  -- Acts on other rows.

  abbrev Elsewhere : Act → Type 0
  Elsewhere act = same_key q act.key ≡ false

  abbrev IsApart : Key × Version → Type 0
  IsApart row = same_key q row.0 ≡ false

  abbrev LosesApart : ConflictRow → Type 0
  LosesApart row = same_key q (key_of_conflict row) ≡ false

  kept-elsewhere : (b : Bool) (item : UploadItem) (rest : List UploadItem) → (b ≡ true → same_key q (key_of_item item) ≡ false) → AllByRecursion (λ (x : UploadItem). same_key q (key_of_item x) ≡ false) rest
      → AllByRecursion (λ (x : UploadItem). same_key q (key_of_item x) ≡ false) (cond b (item ∷ rest) rest)
  kept-elsewhere true item rest first more = (first refl, more)
  kept-elsewhere false item rest first more = more

  pub acting-elsewhere : (h : History) (site : ℕ) (items : List UploadItem) → list_all (λ (item : UploadItem). not (same_key q (key_of_item item)) || is_done h site item.generation) items ≡ true
      → AllByRecursion (λ (item : UploadItem). same_key q (key_of_item item) ≡ false) (filter (λ (item : UploadItem). not (is_done h site item.generation)) items)
  acting-elsewhere h site [] all = tt
  acting-elsewhere h site (item ∷ items) all =
      kept-elsewhere (not (is_done h site item.generation)) item (filter (λ (x : UploadItem). not (is_done h site x.generation)) items) (λ acts. grind (arith, all, acts)) (acting-elsewhere h site items (grind (arith, all)))

  pub acts-elsewhere : (judge : PublisherJudge) (site : SiteId) (p : PublisherTables) (number : ℕ) (decisions : List Decision) (items : List UploadItem) → AllByRecursion (λ (item : UploadItem). same_key q (key_of_item item) ≡ false) items
      → AllByRecursion Elsewhere (acts_from judge site p number decisions items)
  acts-elsewhere judge site p number decisions [] all = tt
  acts-elsewhere judge site p number decisions (item ∷ items) all =
      let act : Act = act_of judge site p number decisions item in
      (all.0, acts-elsewhere judge site p (number + made_by act.fate) (left_by act.fate decisions) items all.1)

  -- The row that is held.

  version-apart : (key : Key) (found : Option Version) → same_key q key ≡ false → OfSome IsApart (let row : Option (Key × Version) = elim found [ None ↦ None | Some version ↦ Some (key, version) ] in row)
  version-apart key None other = tt
  version-apart key (Some version) other = other

  versions-apart : (acts : List Act) → AllByRecursion Elsewhere acts → AllByRecursion IsApart (versions_of acts)
  versions-apart acts all = all-filter_map Elsewhere IsApart version_of_act (λ act other. version-apart act.key (version_by act.incoming act.fate) other) acts all

  rows-stay : (versions : List (Key × Version)) (generations : List ℕ) (rows : List (Key × PublisherRow)) → AllByRecursion IsApart versions → row_at (with_rows rows (zip versions generations)) q ≡ row_at rows q
  rows-stay [] generations rows all = refl
  rows-stay (row ∷ versions) [] rows all = refl
  rows-stay (row ∷ versions) (generation ∷ generations) rows all =
      let put : PublisherRow = record { version = row.1; changed = generation } in
      rows-stay versions generations (put_row rows row.0 put) all.1 ∙ row-put rows row.0 put q
      ∙ ap (λ (b : Bool). (let found : Option PublisherRow = if b then Some put else row_at rows q in found)) all.0

  -- What loses.

  losing-apart : (conflict : Conflict) (ours theirs : Version) (decision : Decision) → same_key q (record { article = conflict.article; row = conflict.row }) ≡ false → AllByRecursion LosesApart (losing_rows conflict ours theirs decision)
  losing-apart conflict ours theirs KeepPublisher other = (other, tt)
  losing-apart conflict ours theirs TakeSubscriber other = (other, tt)
  losing-apart conflict ours theirs (Custom values) other = (other, (other, tt))

  if-apart : (b : Bool) (rows : List ConflictRow) → AllByRecursion LosesApart rows → AllByRecursion LosesApart (if b then rows else [])
  if-apart true rows all = all
  if-apart false rows all = tt

  fate-apart : (publication : Publication) (site : SiteId) (moment : Moment) (number : ℕ) (act : Act) (fate : Fate) → Elsewhere act → AllByRecursion LosesApart (lost_by publication site moment number act fate)
  fate-apart publication site moment number act New other = tt
  fate-apart publication site moment number act Unknown other = (other, tt)
  fate-apart publication site moment number act (Met held case decision dot) other =
      let conflict : Conflict = conflict_of publication site moment number act.key in
      if-apart (is_conflict case) (losing_rows conflict held act.incoming decision) (losing-apart conflict held act.incoming decision other)

  lost-apart : (publication : Publication) (site : SiteId) (moment : Moment) (number : ℕ) (acts : List Act) → AllByRecursion Elsewhere acts → AllByRecursion LosesApart (lost_from publication site moment number acts)
  lost-apart publication site moment number [] all = tt
  lost-apart publication site moment number (act ∷ acts) all =
      let rows : List ConflictRow = lost_by publication site moment number act act.fate in
      all-append LosesApart rows (lost_from publication site moment (number + length rows) acts) (fate-apart publication site moment number act act.fate all.0) (lost-apart publication site moment (number + length rows) acts all.1)

  pub tables-stay : (publication : Publication) (judge : PublisherJudge) (u : Upload) (acts : List Act) (p : PublisherTables) (h : History) → AllByRecursion Elsewhere acts → of_row (taken_in publication judge u acts p) h q ≡ of_row p h q
  tables-stay publication judge u acts p h all =
      let entries : Entries = changing_entries publication judge (changing_by u acts) (with_acts publication u acts p) in
      let lost : List ConflictRow = lost_from publication u.site p.latest (p.conflict_count + 1) acts in
      let after : OfRow = of_row (taken_in publication judge u acts p) h q in
      ap (λ (held : Option PublisherRow). (let r : OfRow = record after { held = held } in r)) (rows-stay (versions_of acts) (map (λ (entry : Key × ℕ). entry.1) entries.changed) p.rows (versions-apart acts all))
      ∙ ap (λ (conflicts : List ConflictRow). (let r : OfRow = record (of_row p h q) { conflicts = conflicts } in r))
      (filter-more (λ (row : ConflictRow). same_key q (key_of_conflict row)) p.conflicts lost (lost-apart publication u.site p.latest (p.conflict_count + 1) acts all))

  -- What the history has.

  module _ (p : PublisherTables) where
    abbrev Stays : History → History → Type 0
    Stays k h = of_row p k q ≡ of_row p h q

    past-put : (h : History) (key : Key) (past : Past) → same_key q key ≡ false → past_at (Noting.with_past 0 key past h) 0 q ≡ past_at h 0 q
    past-put h key past other =
        ap (λ (found : Option (List (Key × Past))). past_in (unwrap_or found []) q) (at_put_same 0 (put_row (pasts_at h 0) key past) h.pasts)
        ∙ ap (λ (found : Option Past). unwrap_or found no_past) (row-put (pasts_at h 0) key past q ∙ ap (λ (b : Bool). (let found : Option Past = if b then Some past else row_at (pasts_at h 0) q in found)) other)

    past-stays : (h : History) (key : Key) (past : Past) → same_key q key ≡ false → Stays (Noting.with_past 0 key past h) h
    past-stays h key past other = ap (λ (x : Past). (let r : OfRow = record (of_row p h q) { past = x } in r)) (past-put h key past other)

    lost-stays : (h : History) (key : Key) (past : Past) → same_key q key ≡ false → Stays (Noting.with_lost 0 key past h) h
    lost-stays h key past other = ap (λ (xs : List (ℕ × (Key × Past))). (let r : OfRow = record (of_row p h q) { lost = xs } in r))
        (filter-more (λ (lost : ℕ × (Key × Past)). same_key q lost.1.0) h.lost ((0, (key, past)) ∷ []) (other, tt))

    made-stays : (h : History) (change : MadeChange) → change.dot.site.0 ≡ 0 → same_key q change.key ≡ false → Stays (Noting.with_made change h) h
    made-stays h change own other =
        let made : History = record h { made = change ∷ h.made } in
        ap (λ (n : ℕ). of_row p (Noting.with_past n change.key change.past made) q) own ∙ past-stays made change.key change.past other
        ∙ ap (λ (b : Bool). (let r : OfRow = record (of_row p h q) { made = cond b (change ∷ filter (λ (x : MadeChange). same_key q x.key) h.made) (filter (λ (x : MadeChange). same_key q x.key) h.made) } in r)) other

    loser-stays : (decision : Decision) (key : Key) (ours theirs : Past) (h : History) → same_key q key ≡ false → Stays (Noting.with_loser decision key ours theirs h) h
    loser-stays KeepPublisher key ours theirs h other = lost-stays h key theirs other
    loser-stays TakeSubscriber key ours theirs h other = lost-stays h key ours other
    loser-stays (Custom values) key ours theirs h other = lost-stays (Noting.with_lost 0 key ours h) key theirs other ∙ lost-stays h key ours other

    decided-stays : (decision : Decision) (dot : Dot) (generation : ℕ) (key : Key) (case : Case) (past : Past) (h : History) → dot.site.0 ≡ 0 → same_key q key ≡ false → Stays (Noting.with_decided decision dot generation key case past h) h
    decided-stays KeepPublisher dot generation key case past h own other = past-stays h key past other
    decided-stays TakeSubscriber dot generation key case past h own other = past-stays h key past other
    decided-stays (Custom values) dot generation key case past h own other = made-stays h (Noting.decided_change dot generation key case past) own other

    if-stays : (b : Bool) (x y h : History) → Stays x h → Stays y h → Stays (if b then x else y) h
    if-stays true x y h one two = one
    if-stays false x y h one two = two

    fate-stays : (fate : Fate) (generation : ℕ) (key : Key) (incoming : Past) (h : History) → DecidesAsOwn fate → same_key q key ≡ false → Stays (Noting.with_fate fate generation key incoming h) h
    fate-stays New generation key incoming h own other = past-stays h key incoming other
    fate-stays Unknown generation key incoming h own other = lost-stays h key incoming other
    fate-stays (Met held case decision dot) generation key incoming h own other =
        let past : Past = past_by case decision dot (past_at h 0 key) incoming in
        let after : History = Noting.with_decided decision dot generation key case past h in
        let same : Stays after h = decided-stays decision dot generation key case past h own other in
        if-stays (is_conflict case) (Noting.with_loser decision key (past_at h 0 key) incoming after) after h (loser-stays decision key (past_at h 0 key) incoming after other ∙ same) same

    acts-stay : (incoming : List (Key × Past)) (entries : Entries) (acts : List Act) (h : History) → AllByRecursion (λ (act : Act). DecidesAsOwn act.fate) acts → AllByRecursion Elsewhere acts → Stays (fold (Noting.with_act incoming entries) h acts) h
    acts-stay incoming entries [] h own all = refl
    acts-stay incoming entries (act ∷ acts) h own all = acts-stay incoming entries acts (Noting.with_act incoming entries h act) own.1 all.1
        ∙ fate-stays act.fate (Noting.entry_generation entries act.key) act.key (past_in incoming act.key) h own.0 all.0

    lines-stay : (lines : List Line) (h : History) → Stays (Noting.with_lines lines h) h
    lines-stay [] h = refl
    lines-stay (line ∷ lines) h = lines-stay lines (Noting.with_line h line)

    pub noted-stays : (publication : Publication) (judge : PublisherJudge) (u : Upload) (acts : List Act) (incoming : List (Key × Past)) (t : PublisherTables) (h : History) → AllByRecursion (λ (act : Act). DecidesAsOwn act.fate) acts → AllByRecursion Elsewhere acts
        → Stays (Noting.with_acts_noted publication judge u acts incoming t h) h
    noted-stays publication judge u acts incoming t h own all =
        let entries : Entries = Noting.acts_entries publication judge u acts t in
        lines-stay (Noting.lines_of_entries (last_closed t + 1) entries) (fold (Noting.with_act incoming entries) h acts) ∙ acts-stay incoming entries acts h own all
