-- The acts of an upload make versions and pasts in parallel. Each row is named once, so the version that an act meets is still the one that is held.
use Rattle.std.specs.Prelude.{◌≡◌, ◌++◌, ◌+◌, ℕ, List, [], ◌∷◌, Bool, true, false, Option, Some, None, refl, if◌then◌else◌, length, option_map}
use Rattle.std.specs.List.{AllByRecursion, cons_option, fold}
use Rattle.std.proofs.Common.{subst, sym, ap, ◌∙◌}
use Rattle.std.proofs.lemmas.List.{append-nil, append_assoc}
use Rattle.merge_types.specs.declared.changes.Change.{Change}
use Rattle.merge_types.specs.declared.identifiers.Dot.{Dot}
use Rattle.merge_types.specs.declared.identifiers.Moment.{Moment}
use Rattle.merge_types.specs.declared.identifiers.SiteId.{SiteId}
use Rattle.merge_types.specs.declared.values.Value.{Value}
use Rattle.merge_units.specs.Version.{cells_of}
use Rattle.merge_units.specs.declared.case.Case.{Case}
use Rattle.merge_units.specs.declared.result.Decision.{Decision}
use Rattle.merge_units.specs.declared.result.Decision.TheVariants.{Custom, KeepPublisher, TakeSubscriber}
use Rattle.merge_units.specs.declared.version.Body.TheVariants.{Live}
use Rattle.merge_units.specs.declared.version.Version.{Version}
use Rattle.merge_conflict.specs.declared.losers.Conflict.{Conflict}
use Rattle.merge_conflict.specs.declared.row.ConflictRow.{ConflictRow}
use Rattle.merge_conflict.specs.declared.row.Verdict.TheVariants as verdict
use Rattle.merge_conflict.specs.Losers.{losing_rows, our_row, their_row}
use Rattle.merge_schema.specs.declared.publication.Publication.{Publication}
use Rattle.merge_batch.specs.declared.request.UploadItem.{UploadItem}
use Rattle.merge_model.specs.Publisher.Acts.{Act, Fate, Met, New, Unknown, act_of, acts_from, conflict_of, case_met, decision_for, fate_by, is_new_row, key_of_item, left_by, lost_by, lost_from, made_by, purged_row, version_of_act, versions_of}
use Rattle.merge_model.specs.Judge.ByHistory.{by_past}
use Rattle.merge_units.specs.Cases.{case_by, is_conflict}
use Rattle.merge_units.specs.Results.{result_by}
use Rattle.merge_model.specs.Tables.Changes.{change_refusal, key_of, version_after}
use Rattle.merge_model.specs.Publisher.Entries.{Entries}
use Rattle.merge_model.specs.History.{History, MadeChange, Past, has, past_at, past_in}
use Rattle.merge_model.specs.Judge.{PublisherJudge}
use Rattle.merge_model.specs.Tables.Keys.{row_at, same_key}
use Rattle.merge_model.specs.History.Noting
use Rattle.merge_model.specs.History.Pasts.{past_after, past_by}
use Rattle.merge_model.specs.Publisher.PublisherLocal.{version_at}
use Rattle.merge_types.specs.declared.row_key.RowKey.{RowKey as Key}
use Rattle.merge_units.specs.declared.site_row.PublisherRow.{PublisherRow}
use Rattle.merge_model.specs.Tables.{PublisherTables}
use Rattle.merge_model.proofs.Lists.{all-both}
use Rattle.merge_laws.proofs.Walking.Noted.{DecidesAsOwn}
use Rattle.merge_laws.proofs.Told.ToldHistories.{Goes, goes-lost, goes-others, goes-put, past-elsewhere}
use Rattle.merge_laws.proofs.Told.ToldItems.{ActsApart}
use Rattle.merge_laws.proofs.Told.ToldRows.{AllFit, HeldFits, put_if, put_version}
use Rattle.merge_laws.proofs.Told.ToldTables.{row_version}

-- A fact of a key, a version and a past that goes on: by a local change that is not refused, by a merge of two versions, and as a reply puts a version, which is then live.
pub record GoesOn (publication : Publication) (P : Key → Version → Past → Type 0) : Type 0 where
  pub changed : (dot : Dot) (identity : Value) (change : Change) (held : Option Version) (rows : ℕ) (past : Past) → change_refusal publication dot change held rows ≡ None → HeldFits P (key_of dot change) held past
      → HeldFits P (key_of dot change) (version_after publication dot identity change held) (past_after publication dot change past)
  -- a decision counts in a conflict alone, and the dot of decided values is the publisher's
  pub merged : (key : Key) (case : Case) (decision : Decision) (dot : Dot) (ours theirs : Version) (one other : Past) → case ≡ case_by (has one.known) (has other.known) ours.body theirs.body → (is_conflict case ≡ false → decision ≡ KeepPublisher) → dot.site.0 ≡ 0
      → P key ours one → P key theirs other → P key (result_by case ours theirs decision dot) (past_by case decision dot one other)
  pub put : (key : Key) (version : Version) (past : Past) → P key version past → P key (record { lineage = version.lineage; body = Live (cells_of version.body) }) past

-- What is known of an act beside what it brings: the version that it meets has the past that is held.
abbrev pub FateFits : (Key → Version → Past → Type 0) → Key → Version → Past → Fate → Past → Type 0
FateFits P key incoming other New past = Unit {0}
FateFits P key incoming other Unknown past = Unit {0}
FateFits P key incoming other (Met held case decision dot) past = P key held past × (case ≡ case_by (has past.known) (has other.known) held.body incoming.body) × (is_conflict case ≡ false → decision ≡ KeepPublisher)

abbrev pub ActFits : (Key → Version → Past → Type 0) → List (Key × Past) → (Key → Past) → Act → Type 0
ActFits P incoming past act = P act.key act.incoming (past_in incoming act.key) × FateFits P act.key act.incoming (past_in incoming act.key) act.fate (past act.key)

-- Acts as they are computed, before the first one acts.
module _ (P : Key → Version → Past → Type 0) (h : History) (incoming : List (Key × Past)) (site : SiteId) (p : PublisherTables) (held : AllFit P (version_at p) (past_at h 0)) where
  abbrev judge : PublisherJudge
  judge = by_past h incoming

  decides-kept : (case : Case) (b : Bool) (decision : Decision) → is_conflict case ≡ b → b ≡ false → (let decided : Decision = if b then decision else KeepPublisher in decided) ≡ KeepPublisher
  decides-kept case true decision is not = absurd cc
  decides-kept case false decision is not = refl

  decision-kept : (case : Case) (decisions : List Decision) → is_conflict case ≡ false → decision_for case decisions ≡ KeepPublisher
  decision-kept case [] not = refl
  decision-kept case (decision ∷ decisions) not = decides-kept case (is_conflict case) decision refl not

  if-new : (key : Key) (version : Version) (other past : Past) (b : Bool) → FateFits P key version other (if b then New else Unknown) past
  if-new key version other past true = tt
  if-new key version other past false = tt

  fate-fits : (number : ℕ) (decisions : List Decision) (item : UploadItem) (found : Option PublisherRow) → HeldFits P (key_of_item item) (option_map row_version found) (past_at h 0 (key_of_item item))
      → FateFits P (key_of_item item) item.version (past_in incoming (key_of_item item)) (fate_by judge site number decisions item found) (past_at h 0 (key_of_item item))
  fate-fits number decisions item None fits = if-new (key_of_item item) item.version (past_in incoming (key_of_item item)) (past_at h 0 (key_of_item item)) (is_new_row judge site (key_of_item item))
  fate-fits number decisions item (Some row) fits = (fits, refl, decision-kept (case_met judge (key_of_item item) row.version item.version) decisions)

  pub acts-fit : (number : ℕ) (decisions : List Decision) (items : List UploadItem) → AllByRecursion (λ (item : UploadItem). P (key_of_item item) item.version (past_in incoming (key_of_item item))) items
      → AllByRecursion (ActFits P incoming (past_at h 0)) (acts_from judge site p number decisions items)
  acts-fit number decisions [] all = tt
  acts-fit number decisions (item ∷ items) all =
      let act : Act = act_of judge site p number decisions item in
      ((all.0, fate-fits number decisions item (row_at p.rows (key_of_item item)) (held (key_of_item item))), acts-fit (number + made_by act.fate) (left_by act.fate decisions) items all.1)

-- The pasts of other rows stay.
module _ (h : History) (key q : Key) (other : same_key q key ≡ false) where
  decided-elsewhere : (decision : Decision) (dot : Dot) (generation : ℕ) (case : Case) (past : Past) → dot.site.0 ≡ 0 → past_at (Noting.with_decided decision dot generation key case past h) 0 q ≡ past_at h 0 q
  decided-elsewhere KeepPublisher dot generation case past own = past-elsewhere h 0 key q past other
  decided-elsewhere TakeSubscriber dot generation case past own = past-elsewhere h 0 key q past other
  decided-elsewhere (Custom values) dot generation case past own =
      let made : History = record h { made = Noting.decided_change dot generation key case past ∷ h.made } in
      ap (λ (n : ℕ). past_at (Noting.with_past n key past made) 0 q) own ∙ past-elsewhere made 0 key q past other

loser-past : (decision : Decision) (key q : Key) (one two : Past) (h : History) → past_at (Noting.with_loser decision key one two h) 0 q ≡ past_at h 0 q
loser-past KeepPublisher key q one two h = refl
loser-past TakeSubscriber key q one two h = refl
loser-past (Custom values) key q one two h = refl

if-past : (b : Bool) (q : Key) (x y : History) (past : Past) → past_at x 0 q ≡ past → past_at y 0 q ≡ past → past_at (if b then x else y) 0 q ≡ past
if-past true q x y past one other = one
if-past false q x y past one other = other

pub fate-elsewhere : (fate : Fate) (generation : ℕ) (key q : Key) (incoming : Past) (h : History) → DecidesAsOwn fate → same_key q key ≡ false → past_at (Noting.with_fate fate generation key incoming h) 0 q ≡ past_at h 0 q
fate-elsewhere New generation key q incoming h own other = past-elsewhere h 0 key q incoming other
fate-elsewhere Unknown generation key q incoming h own other = refl
fate-elsewhere (Met held case decision dot) generation key q incoming h own other =
    let past : Past = past_by case decision dot (past_at h 0 key) incoming in
    let after : History = Noting.with_decided decision dot generation key case past h in
    let same : past_at after 0 q ≡ past_at h 0 q = decided-elsewhere h key q other decision dot generation case past own in
    if-past (is_conflict case) q (Noting.with_loser decision key (past_at h 0 key) incoming after) after (past_at h 0 q) (loser-past decision key q (past_at h 0 key) incoming after ∙ same) same

pub put-first : (found : Key → Option Version) (row : Option (Key × Version)) (rest : List (Key × Version)) → fold put_version found (cons_option row rest) ≡ fold put_version (put_if found row) rest
put-first found None rest = refl
put-first found (Some row) rest = refl

-- One act after the other.
module _ (P : Key → Version → Past → Type 0) (publication : Publication) (on : GoesOn publication P) (judge : PublisherJudge) (site : SiteId) (moment : Moment) (before : History) where
  decided-goes : (decision : Decision) (dot : Dot) (generation : ℕ) (key : Key) (case : Case) (version : Version) (past : Past) (found : Key → Option Version) (conflicts : List ConflictRow) (h : History) → dot.site.0 ≡ 0 → P key version past
      → Goes P 0 before found conflicts h → Goes P 0 before (put_version found (key, version)) conflicts (Noting.with_decided decision dot generation key case past h)
  decided-goes KeepPublisher dot generation key case version past found conflicts h own new g = goes-put P 0 before conflicts found h g key version past new
  decided-goes TakeSubscriber dot generation key case version past found conflicts h own new g = goes-put P 0 before conflicts found h g key version past new
  decided-goes (Custom values) dot generation key case version past found conflicts h own new g =
      let c : MadeChange = Noting.decided_change dot generation key case past in
      let made : History = record h { made = c ∷ h.made } in
      subst (λ (n : ℕ). Goes P 0 before (put_version found (key, version)) conflicts (Noting.with_past n key past made)) (sym own)
      (goes-put P 0 before conflicts found made (goes-others P 0 before conflicts found h g (c ∷ h.made) h.lines h.done h.accepted h.purged h.bases) key version past new)

  losers-go : (decision : Decision) (conflict : Conflict) (ours theirs : Version) (key : Key) (one other : Past) (found : Key → Option Version) (conflicts : List ConflictRow) (h : History) → P key ours one → P key theirs other
      → Goes P 0 before found conflicts h → Goes P 0 before found (conflicts ++ losing_rows conflict ours theirs decision) (Noting.with_loser decision key one other h)
  losers-go KeepPublisher conflict ours theirs key one other found conflicts h first second g = goes-lost P 0 before conflicts found h g (their_row conflict.number conflict ours theirs verdict.Publisher) key other second
  losers-go TakeSubscriber conflict ours theirs key one other found conflicts h first second g = goes-lost P 0 before conflicts found h g (our_row conflict.number conflict ours theirs verdict.Subscriber) key one first
  losers-go (Custom values) conflict ours theirs key one other found conflicts h first second g =
      let a : ConflictRow = our_row conflict.number conflict ours theirs verdict.Custom in
      let b : ConflictRow = their_row (conflict.number + 1) conflict ours theirs verdict.Custom in
      subst (λ (rows : List ConflictRow). Goes P 0 before found rows (Noting.with_loser (Custom values) key one other h)) (append_assoc conflicts (a ∷ []) (b ∷ []))
      (goes-lost P 0 before (conflicts ++ a ∷ []) found (Noting.with_lost 0 key one h) (goes-lost P 0 before conflicts found h g a key one first) b key other second)

  no-more : (found : Key → Option Version) (conflicts : List ConflictRow) (h : History) → Goes P 0 before found conflicts h → Goes P 0 before found (conflicts ++ []) h
  no-more found conflicts h g = subst (λ (rows : List ConflictRow). Goes P 0 before found rows h) (sym (append-nil conflicts)) g

  if-goes : (b : Bool) (found : Key → Option Version) (conflicts rows : List ConflictRow) (x y : History) → Goes P 0 before found (conflicts ++ rows) x → Goes P 0 before found conflicts y → Goes P 0 before found (conflicts ++ (if b then rows else [])) (if b then x else y)
  if-goes true found conflicts rows x y one other = one
  if-goes false found conflicts rows x y one other = no-more found conflicts y other

  fate-goes : (number generation : ℕ) (key : Key) (version : Version) (fate : Fate) (past : Past) (found : Key → Option Version) (conflicts : List ConflictRow) (h : History) → DecidesAsOwn fate → P key version past → FateFits P key version past fate (past_at h 0 key)
      → Goes P 0 before found conflicts h
      → (let act : Act = record { key = key; incoming = version; fate = fate } in
      Goes P 0 before (put_if found (version_of_act act)) (conflicts ++ lost_by publication site moment number act fate) (Noting.with_fate fate generation key past h))
  fate-goes number generation key version New past found conflicts h own new fits g =
      no-more (put_version found (key, version)) conflicts (Noting.with_past 0 key past h) (goes-put P 0 before conflicts found h g key version past new)
  fate-goes number generation key version Unknown past found conflicts h own new fits g =
      let act : Act = record { key = key; incoming = version; fate = Unknown } in goes-lost P 0 before conflicts found h g (purged_row number site moment act) key past new
  fate-goes number generation key version (Met held case decision dot) past found conflicts h own new fits g =
      let ours : Past = past_at h 0 key in
      let result : Version = result_by case held version decision dot in
      let made : Past = past_by case decision dot ours past in
      let conflict : Conflict = conflict_of publication site moment number key in
      let after : History = Noting.with_decided decision dot generation key case made h in
      let decided : Goes P 0 before (put_version found (key, result)) conflicts after =
      decided-goes decision dot generation key case result made found conflicts h own (on.merged key case decision dot held version ours past fits.1 fits.2 own fits.0 new) g in
      if-goes (is_conflict case) (put_version found (key, result)) conflicts (losing_rows conflict held version decision) (Noting.with_loser decision key ours past after) after
      (losers-go decision conflict held version key ours past (put_version found (key, result)) conflicts after fits.0 new decided) decided

  module _ (incoming : List (Key × Past)) (entries : Entries) where
    act-goes : (number : ℕ) (act : Act) (found : Key → Option Version) (conflicts : List ConflictRow) (h : History) → DecidesAsOwn act.fate → ActFits P incoming (past_at h 0) act → Goes P 0 before found conflicts h
        → Goes P 0 before (put_if found (version_of_act act)) (conflicts ++ lost_by publication site moment number act act.fate) (Noting.with_act incoming entries h act)
    act-goes number act found conflicts h own fits g =
        let past : Past = past_in incoming act.key in
        let after : History = Noting.with_fate act.fate (Noting.entry_generation entries act.key) act.key past h in
        goes-others P 0 before (conflicts ++ lost_by publication site moment number act act.fate) (put_if found (version_of_act act)) after
        (fate-goes number (Noting.entry_generation entries act.key) act.key act.incoming act.fate past found conflicts h own fits.0 fits.1 g)
        after.made after.lines after.done (Noting.with_accepted past after).accepted after.purged after.bases

    -- what is known of the acts that follow
    act-later : (act other : Act) (h : History) → DecidesAsOwn act.fate → same_key other.key act.key ≡ false → ActFits P incoming (past_at h 0) other → ActFits P incoming (past_at (Noting.with_act incoming entries h act) 0) other
    act-later act other h own apart fits = (
      fits.0,
      subst (λ (past : Past). FateFits P other.key other.incoming (past_in incoming other.key) other.fate past)
          (sym (fate-elsewhere act.fate (Noting.entry_generation entries act.key) act.key other.key (past_in incoming act.key) h own apart)) fits.1,
    )

    pub acts-go : (number : ℕ) (acts : List Act) (found : Key → Option Version) (conflicts : List ConflictRow) (h : History) → AllByRecursion (λ (act : Act). DecidesAsOwn act.fate) acts → ActsApart acts → AllByRecursion (ActFits P incoming (past_at h 0)) acts
        → Goes P 0 before found conflicts h
        → Goes P 0 before (fold put_version found (versions_of acts)) (conflicts ++ lost_from publication site moment number acts) (fold (Noting.with_act incoming entries) h acts)
    acts-go number [] found conflicts h own apart fits g = no-more found conflicts h g
    acts-go number (act ∷ acts) found conflicts h own apart fits g =
        let rows : List ConflictRow = lost_by publication site moment number act act.fate in
        let rest : List ConflictRow = lost_from publication site moment (number + length rows) acts in
        let after : History = Noting.with_act incoming entries h act in
        let all : History = fold (Noting.with_act incoming entries) after acts in
        let later : AllByRecursion (ActFits P incoming (past_at after 0)) acts = all-both (λ (other : Act). same_key other.key act.key ≡ false) (ActFits P incoming (past_at h 0)) (ActFits P incoming (past_at after 0))
        (λ other apart fits. act-later act other h own.0 apart fits) acts apart.0 fits.1 in
        let gone = acts-go (number + length rows) acts (put_if found (version_of_act act)) (conflicts ++ rows) after own.1 apart.1 later (act-goes number act found conflicts h own.0 fits.0 g) in
        subst (λ (f : Key → Option Version). Goes P 0 before f (conflicts ++ (rows ++ rest)) all) (sym (put-first found (version_of_act act) (versions_of acts)))
        (subst (λ (cs : List ConflictRow). Goes P 0 before (fold put_version (put_if found (version_of_act act)) (versions_of acts)) cs all) (append_assoc conflicts rows rest) gone)
