-- The acts of an upload make versions and pasts in parallel, of which each act keeps a fact.
use Rattle.std.specs.List.{AllByRecursion, cons_option, fold}
use Rattle.std.specs.Prelude.{Bool, List, None, Option, Some, [], false, if◌then◌else◌, length, refl, true, ℕ, ◌+◌, ◌++◌, ◌≡◌, ◌∷◌}
use Rattle.std.proofs.Common.{ap, subst, sym, ◌∙◌}
use Rattle.std.proofs.lemmas.List.{append-nil, append_assoc}
use Rattle.merge_types.specs.declared.identifiers.Dot.{Dot}
use Rattle.merge_types.specs.declared.identifiers.Moment.{Moment}
use Rattle.merge_types.specs.declared.identifiers.SiteId.{SiteId}
use Rattle.merge_types.specs.declared.row_key.RowKey.{RowKey as Key}
use Rattle.merge_units.specs.Cases.{case_by, is_conflict}
use Rattle.merge_units.specs.Results.{result_by}
use Rattle.merge_units.specs.declared.case.Case.{Case}
use Rattle.merge_units.specs.declared.result.Decision.{Decision}
use Rattle.merge_units.specs.declared.result.Decision.TheVariants.{Custom, KeepPublisher, TakeSubscriber}
use Rattle.merge_units.specs.declared.version.Version.{Version}
use Rattle.merge_conflict.specs.Losers.{losing_rows, our_row, their_row}
use Rattle.merge_conflict.specs.declared.losers.Conflict.{Conflict}
use Rattle.merge_conflict.specs.declared.row.ConflictRow.{ConflictRow}
use Rattle.merge_conflict.specs.declared.row.Verdict.TheVariants as verdict
use Rattle.merge_schema.specs.declared.publication.Publication.{Publication}
use Rattle.merge_model.specs.Publisher.Acts.{Act, Fate, Met, New, Unknown, conflict_of, lost_by, lost_from, purged_row, version_of_act, versions_of}
use Rattle.merge_model.specs.Publisher.Entries.{Entries}
use Rattle.merge_model.specs.History.{History, MadeChange, Past, has, past_at, past_in}
use Rattle.merge_model.specs.Tables.Keys.{same_key}
use Rattle.merge_model.specs.History.Noting
use Rattle.merge_model.specs.History.Pasts.{past_by}
use Rattle.merge_model.proofs.Lists.{all-both}
use Rattle.merge_laws.proofs.Walking.Noted.{DecidesAsOwn}
use Rattle.merge_laws.proofs.Told.ToldHistories.{Goes, goes-lost, goes-others, goes-put, past-elsewhere}
use Rattle.merge_laws.proofs.Told.ToldItems.{ActsApart}
use Rattle.merge_laws.proofs.Told.ToldRows.{put_if, put_version}
use Rattle.merge_laws.proofs.Told.ToldUploads.{ActFits, FateFits, fate-elsewhere, put-first}

-- what an act makes of two versions that have the fact has it
abbrev pub FateMakes : (Key → Version → Past → Type 0) → Key → Version → Past → Fate → Type 0
FateMakes P key incoming other New = Unit {0}
FateMakes P key incoming other Unknown = Unit {0}
FateMakes P key incoming other (Met held case decision dot) = (past : Past) → case ≡ case_by (has past.known) (has other.known) held.body incoming.body → (is_conflict case ≡ false → decision ≡ KeepPublisher) → P key held past → P key incoming other
    → P key (result_by case held incoming decision dot) (past_by case decision dot past other)

abbrev pub ActMakes : (Key → Version → Past → Type 0) → List (Key × Past) → Act → Type 0
ActMakes P incoming act = FateMakes P act.key act.incoming (past_in incoming act.key) act.fate

-- One act after the other.
module _ (P : Key → Version → Past → Type 0) (publication : Publication) (site : SiteId) (moment : Moment) (before : History) where
  decided-goes : (decision : Decision) (dot : Dot) (generation : ℕ) (key : Key) (case : Case) (version : Version) (past : Past) (found : Key → Option Version) (conflicts : List ConflictRow) (h : History) → dot.site.0 ≡ 0 → P key version past
      → Goes P 0 before found conflicts h → Goes P 0 before (put_version found (key, version)) conflicts (Noting.with_decided decision dot generation key case past h)
  decided-goes KeepPublisher dot generation key case version past found conflicts h own new g = goes-put P 0 before conflicts found h g key version past new
  decided-goes TakeSubscriber dot generation key case version past found conflicts h own new g = goes-put P 0 before conflicts found h g key version past new
  decided-goes (Custom values) dot generation key case version past found conflicts h own new g =
      let c : MadeChange = Noting.decided_change dot generation key case past in
      let made : History = record h { made = c ∷ h.made } in
      subst (λ (n : ℕ). Goes P 0 before (put_version found (key, version)) conflicts (Noting.with_past n key past made)) (sym own)
      (goes-put P 0 before conflicts found made (goes-others P 0 before conflicts found h g (c ∷ h.made) h.lines h.done h.accepted h.purged h.bases) key version past new)

  losers-go : (decision : Decision) (conflict : Conflict) (ours theirs : Version) (key : Key) (one other : Past) (found : Key → Option Version) (conflicts : List ConflictRow) (h : History) → P key ours one → P key theirs other
      → Goes P 0 before found conflicts h → Goes P 0 before found (conflicts ++ losing_rows conflict ours theirs decision) (Noting.with_loser decision key one other h)
  losers-go KeepPublisher conflict ours theirs key one other found conflicts h first second g = goes-lost P 0 before conflicts found h g (their_row conflict.number conflict ours theirs verdict.Publisher) key other second
  losers-go TakeSubscriber conflict ours theirs key one other found conflicts h first second g = goes-lost P 0 before conflicts found h g (our_row conflict.number conflict ours theirs verdict.Subscriber) key one first
  losers-go (Custom values) conflict ours theirs key one other found conflicts h first second g =
      let a : ConflictRow = our_row conflict.number conflict ours theirs verdict.Custom in
      let b : ConflictRow = their_row (conflict.number + 1) conflict ours theirs verdict.Custom in
      subst (λ (rows : List ConflictRow). Goes P 0 before found rows (Noting.with_loser (Custom values) key one other h)) (append_assoc conflicts (a ∷ []) (b ∷ []))
      (goes-lost P 0 before (conflicts ++ a ∷ []) found (Noting.with_lost 0 key one h) (goes-lost P 0 before conflicts found h g a key one first) b key other second)

  no-more : (found : Key → Option Version) (conflicts : List ConflictRow) (h : History) → Goes P 0 before found conflicts h → Goes P 0 before found (conflicts ++ []) h
  no-more found conflicts h g = subst (λ (rows : List ConflictRow). Goes P 0 before found rows h) (sym (append-nil conflicts)) g

  if-goes : (b : Bool) (found : Key → Option Version) (conflicts rows : List ConflictRow) (x y : History) → Goes P 0 before found (conflicts ++ rows) x → Goes P 0 before found conflicts y → Goes P 0 before found (conflicts ++ (if b then rows else [])) (if b then x else y)
  if-goes true found conflicts rows x y one other = one
  if-goes false found conflicts rows x y one other = no-more found conflicts y other

  fate-goes : (number generation : ℕ) (key : Key) (version : Version) (fate : Fate) (past : Past) (found : Key → Option Version) (conflicts : List ConflictRow) (h : History) → DecidesAsOwn fate → P key version past → FateFits P key version past fate (past_at h 0 key)
      → FateMakes P key version past fate → Goes P 0 before found conflicts h
      → (let act : Act = record { key = key; incoming = version; fate = fate } in
      Goes P 0 before (put_if found (version_of_act act)) (conflicts ++ lost_by publication site moment number act fate) (Noting.with_fate fate generation key past h))
  fate-goes number generation key version New past found conflicts h own new fits makes g =
      no-more (put_version found (key, version)) conflicts (Noting.with_past 0 key past h) (goes-put P 0 before conflicts found h g key version past new)
  fate-goes number generation key version Unknown past found conflicts h own new fits makes g =
      let act : Act = record { key = key; incoming = version; fate = Unknown } in goes-lost P 0 before conflicts found h g (purged_row number site moment act) key past new
  fate-goes number generation key version (Met held case decision dot) past found conflicts h own new fits makes g =
      let ours : Past = past_at h 0 key in
      let result : Version = result_by case held version decision dot in
      let made : Past = past_by case decision dot ours past in
      let conflict : Conflict = conflict_of publication site moment number key in
      let after : History = Noting.with_decided decision dot generation key case made h in
      let decided : Goes P 0 before (put_version found (key, result)) conflicts after = decided-goes decision dot generation key case result made found conflicts h own (makes ours fits.1 fits.2 fits.0 new) g in
      if-goes (is_conflict case) (put_version found (key, result)) conflicts (losing_rows conflict held version decision) (Noting.with_loser decision key ours past after) after
      (losers-go decision conflict held version key ours past (put_version found (key, result)) conflicts after fits.0 new decided) decided

  module _ (incoming : List (Key × Past)) (entries : Entries) where
    act-goes : (number : ℕ) (act : Act) (found : Key → Option Version) (conflicts : List ConflictRow) (h : History) → DecidesAsOwn act.fate → ActFits P incoming (past_at h 0) act → ActMakes P incoming act → Goes P 0 before found conflicts h
        → Goes P 0 before (put_if found (version_of_act act)) (conflicts ++ lost_by publication site moment number act act.fate) (Noting.with_act incoming entries h act)
    act-goes number act found conflicts h own fits makes g =
        let past : Past = past_in incoming act.key in
        let after : History = Noting.with_fate act.fate (Noting.entry_generation entries act.key) act.key past h in
        goes-others P 0 before (conflicts ++ lost_by publication site moment number act act.fate) (put_if found (version_of_act act)) after
        (fate-goes number (Noting.entry_generation entries act.key) act.key act.incoming act.fate past found conflicts h own fits.0 fits.1 makes g)
        after.made after.lines after.done (Noting.with_accepted past after).accepted after.purged after.bases

    -- what is known of the acts that follow
    act-later : (act other : Act) (h : History) → DecidesAsOwn act.fate → same_key other.key act.key ≡ false → ActFits P incoming (past_at h 0) other → ActFits P incoming (past_at (Noting.with_act incoming entries h act) 0) other
    act-later act other h own apart fits = (
      fits.0,
      subst (λ (past : Past). FateFits P other.key other.incoming (past_in incoming other.key) other.fate past)
          (sym (fate-elsewhere act.fate (Noting.entry_generation entries act.key) act.key other.key (past_in incoming act.key) h own apart)) fits.1,
    )

    pub acts-go : (number : ℕ) (acts : List Act) (found : Key → Option Version) (conflicts : List ConflictRow) (h : History) → AllByRecursion (λ (act : Act). DecidesAsOwn act.fate) acts → ActsApart acts → AllByRecursion (ActFits P incoming (past_at h 0)) acts
        → AllByRecursion (ActMakes P incoming) acts → Goes P 0 before found conflicts h
        → Goes P 0 before (fold put_version found (versions_of acts)) (conflicts ++ lost_from publication site moment number acts) (fold (Noting.with_act incoming entries) h acts)
    acts-go number [] found conflicts h own apart fits makes g = no-more found conflicts h g
    acts-go number (act ∷ acts) found conflicts h own apart fits makes g =
        let rows : List ConflictRow = lost_by publication site moment number act act.fate in
        let rest : List ConflictRow = lost_from publication site moment (number + length rows) acts in
        let after : History = Noting.with_act incoming entries h act in
        let all : History = fold (Noting.with_act incoming entries) after acts in
        let later : AllByRecursion (ActFits P incoming (past_at after 0)) acts = all-both (λ (other : Act). same_key other.key act.key ≡ false) (ActFits P incoming (past_at h 0)) (ActFits P incoming (past_at after 0))
        (λ other apart fits. act-later act other h own.0 apart fits) acts apart.0 fits.1 in
        let gone = acts-go (number + length rows) acts (put_if found (version_of_act act)) (conflicts ++ rows) after own.1 apart.1 later makes.1 (act-goes number act found conflicts h own.0 fits.0 makes.0 g) in
        subst (λ (f : Key → Option Version). Goes P 0 before f (conflicts ++ (rows ++ rest)) all) (sym (put-first found (version_of_act act) (versions_of acts)))
        (subst (λ (cs : List ConflictRow). Goes P 0 before (fold put_version (put_if found (version_of_act act)) (versions_of acts)) cs all) (append_assoc conflicts rows rest) gone)
