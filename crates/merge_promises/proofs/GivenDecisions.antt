-- What an item that acts leaves of its row is what was decided.
use Rattle.std.specs.List.{AllByRecursion, cons_option, fold}
use Rattle.std.specs.Prelude.{Bool, Err, IfOk, List, None, Ok, Option, Result, Some, [], drop, false, if◌then◌else◌, refl, take, true, ℕ, ◌+◌, ◌∷◌, ◌≡◌}
use Rattle.std.proofs.Common.{subst, sym, ◌∙◌}
use Rattle.std.proofs.lemmas.List.{drop-drop}
use Rattle.merge_types.specs.declared.identifiers.Dot.{Dot}
use Rattle.merge_types.specs.declared.identifiers.SiteId.{SiteId}
use Rattle.merge_types.specs.declared.row_key.RowKey.{RowKey as Key}
use Rattle.merge_types.specs.declared.values.Value.{Value}
use Rattle.merge_units.specs.Results.{case_body, decided, result_by, result_cell, result_cells, taken, winner_body}
use Rattle.merge_units.specs.declared.case.Case.{Case}
use Rattle.merge_units.specs.declared.case.Case.TheVariants as case
use Rattle.merge_units.specs.declared.case.Side.{Side}
use Rattle.merge_units.specs.declared.case.Side.TheVariants as side
use Rattle.merge_units.specs.declared.result.Decision.{Decision}
use Rattle.merge_units.specs.declared.result.Decision.TheVariants.{Custom, KeepPublisher, TakeSubscriber}
use Rattle.merge_units.specs.declared.version.Body.{Body}
use Rattle.merge_units.specs.declared.version.Cell.{Cell}
use Rattle.merge_units.specs.declared.version.Version.{Version}
use Rattle.merge_units.specs.Version.{cells_of}
use Rattle.merge_schema.specs.declared.publication.Publication.{Publication}
use Rattle.merge_batch.specs.declared.refusal.Refusal.{Refusal}
use Rattle.merge_batch.specs.declared.reply.Uploaded.{Uploaded}
use Rattle.merge_batch.specs.declared.request.Upload.{Upload}
use Rattle.merge_model.specs.Judge.{PublisherJudge}
use Rattle.merge_model.specs.Publisher.Acts.{Act, Fate, Met, New, Unknown, acts_of, version_by, version_of_act, versions_of}
use Rattle.merge_model.specs.Publisher.PublisherLocal.{version_at}
use Rattle.merge_model.specs.Publisher.PublisherUpload.{brings_news, changing_by, tables_after_upload, taken_in, upload, upload_refusal, with_acts}
use Rattle.merge_model.specs.Publisher.{at_moment}
use Rattle.merge_model.specs.Tables.Keys.{same_key}
use Rattle.merge_model.specs.Tables.Refusals.{unless}
use Rattle.merge_model.specs.Tables.{PublisherTables}
use Rattle.merge_model.specs.World.Steps.{after_upload, deliver_letter, kept_decisions, upload_questions}
use Rattle.merge_model.specs.World.{Saying, World}
use Rattle.merge_model.specs.declared.letter.Letter.{Letter}
use Rattle.merge_model.specs.declared.outcome.Outcome.TheVariants.{NoLetter, Posted}
use Rattle.merge_model.specs.declared.outcome.Outcome.{Outcome}
use Rattle.merge_model.proofs.Lists.Finding.{all-weaker}
use Rattle.merge_model.proofs.Lists.KeyLookUps.{key-itself, keys-turned}
use Rattle.merge_laws.proofs.Told.ToldItems.{ActsApart, acts-apart}
use Rattle.merge_laws.proofs.Told.ToldRows.{put_if, put_version}
use Rattle.merge_laws.proofs.Told.ToldTables.{changed-versions}
use Rattle.merge_laws.proofs.Walking.{told_by}
use Rattle.merge_promises.proofs.GivenChanges.{version-here}
use Rattle.merge_promises.specs.Given.{ActGives, AllGive, AreDealt, DecisionsGive, FateGives, IsDealt, IsDecided, IsWinner, MetGives}

-- The cells of a merge, by their sides.

module _ (dot : Dot) where
  cell-dealt : (decision : Decision) (before : ℕ) (s : Side) (p i : Cell) → IsDealt dot decision before s p i (result_cell dot decision (take (taken decision s p) (drop before (decided decision))) s p i)
  cell-dealt KeepPublisher before side.Neither p i = refl
  cell-dealt KeepPublisher before side.Publisher p i = refl
  cell-dealt KeepPublisher before side.Incoming p i = refl
  cell-dealt KeepPublisher before side.Both p i = refl
  cell-dealt TakeSubscriber before side.Neither p i = refl
  cell-dealt TakeSubscriber before side.Publisher p i = refl
  cell-dealt TakeSubscriber before side.Incoming p i = refl
  cell-dealt TakeSubscriber before side.Both p i = refl
  cell-dealt (Custom values) before side.Neither p i = refl
  cell-dealt (Custom values) before side.Publisher p i = refl
  cell-dealt (Custom values) before side.Incoming p i = refl
  cell-dealt (Custom values) before side.Both p i = (refl, refl)

  cells-dealt : (decision : Decision) (before : ℕ) (sides : List Side) (ours theirs : List Cell) → AreDealt dot decision before sides ours theirs (result_cells dot decision (drop before (decided decision)) sides ours theirs)
  cells-dealt decision before [] ours theirs = refl
  cells-dealt decision before (s ∷ sides) [] theirs = refl
  cells-dealt decision before (s ∷ sides) (p ∷ ours) [] = refl
  cells-dealt decision before (s ∷ sides) (p ∷ ours) (i ∷ theirs) =
      let n : ℕ = taken decision s p in (
        cell-dealt decision before s p i,
        subst (λ (values : List Value). AreDealt dot decision (before + n) sides ours theirs (result_cells dot decision values sides ours theirs)) (sym (drop-drop n before (decided decision))) (cells-dealt decision (before + n) sides ours theirs),
      )

  winner : (decision : Decision) (ours theirs : Body) → IsWinner decision ours theirs (winner_body decision ours theirs)
  winner KeepPublisher ours theirs = refl
  winner TakeSubscriber ours theirs = refl
  winner (Custom values) ours theirs = refl

  body-decided : (decision : Decision) (c : Case) (ours theirs : Body) → IsDecided dot decision c ours theirs (case_body dot decision c ours theirs)
  body-decided decision case.Nothing ours theirs = refl
  body-decided decision case.Take ours theirs = refl
  body-decided decision case.Unite ours theirs = refl
  body-decided decision case.LifeConflict ours theirs = winner decision ours theirs
  body-decided decision (case.Merge sides) ours theirs = cells-dealt decision 0 sides (cells_of ours) (cells_of theirs)
  body-decided decision (case.Conflict sides) ours theirs = cells-dealt decision 0 sides (cells_of ours) (cells_of theirs)

-- What is found of an act's row, where acts are of other rows each.

not-here : (b : Bool) (version : Version) (rest : Option Version) → b ≡ false → (let found : Option Version = if b then Some version else rest in found) ≡ rest
not-here true version rest is = absurd (cc is)
not-here false version rest is = refl

apart-turned : (a b : Key) (x : Bool) → same_key b a ≡ x → same_key a b ≡ false → x ≡ false
apart-turned a b true is apart = (let turned : same_key a b ≡ true = keys-turned b a is in absurd (cc (apart, turned)))
apart-turned a b false is apart = refl

abbrev row_of : Key → Option Version → Option (Key × Version)
row_of key made = elim made [ None ↦ None | Some version ↦ Some (key, version) ]

act-here : (key : Key) (found : Key → Option Version) (incoming : Version) (fate : Fate) → FateGives incoming fate (put_if found (row_of key (version_by incoming fate)) key)
act-here key found incoming New = version-here (same_key key key) incoming (found key) (key-itself key)
act-here key found incoming Unknown = tt
act-here key found incoming (Met held c decision dot) =
    let result : Version = result_by c held incoming decision dot in
    subst (λ (after : Option Version). MetGives held incoming c decision dot after) (sym (version-here (same_key key key) result (found key) (key-itself key))) (body-decided dot decision c held.body incoming.body)

act-apart : (key q : Key) (found : Key → Option Version) (made : Option Version) → same_key q key ≡ false → put_if found (row_of key made) q ≡ found q
act-apart key q found None apart = refl
act-apart key q found (Some version) apart = not-here (same_key q key) version (found q) apart

put-first : (q : Key) (found : Key → Option Version) (row : Option (Key × Version)) (rest : List (Key × Version)) → fold put_version found (cons_option row rest) q ≡ fold put_version (put_if found row) rest q
put-first q found None rest = refl
put-first q found (Some row) rest = refl

others-stay : (q : Key) (acts : List Act) (found : Key → Option Version) → AllByRecursion (λ (other : Act). same_key other.key q ≡ false) acts → fold put_version found (versions_of acts) q ≡ found q
others-stay q [] found apart = refl
others-stay q (act ∷ acts) found apart =
    put-first q found (version_of_act act) (versions_of acts) ∙ others-stay q acts (put_if found (version_of_act act)) apart.1
    ∙ act-apart act.key q found (version_by act.incoming act.fate) (apart-turned act.key q (same_key q act.key) refl apart.0)

abbrev GivesIn : (Key → Option Version) → Act → Type 0
GivesIn found act = ActGives act (found act.key)

acts-give : (acts : List Act) (found : Key → Option Version) → ActsApart acts → AllByRecursion (GivesIn (fold put_version found (versions_of acts))) acts
acts-give [] found apart = tt
acts-give (act ∷ acts) found apart =
    let next : Key → Option Version = put_if found (version_of_act act) in
    let here : fold put_version found (versions_of (act ∷ acts)) act.key ≡ next act.key = put-first act.key found (version_of_act act) (versions_of acts) ∙ others-stay act.key acts next apart.0 in (
      subst (λ (after : Option Version). ActGives act after) (sym here) (act-here act.key found act.incoming act.fate),
      all-weaker (GivesIn (fold put_version next (versions_of acts))) (GivesIn (fold put_version found (versions_of (act ∷ acts))))
          (λ other gives. subst (λ (after : Option Version). ActGives other after) (sym (put-first other.key found (version_of_act act) (versions_of acts))) gives) acts (acts-give acts next apart.1),
    )

-- An upload.
module _ (publication : Publication) (says : Saying) (judge : PublisherJudge) (w : World) (site : SiteId) (m : Upload) where
  abbrev decisions : List Decision
  decisions = kept_decisions says w.tallies (upload_questions publication judge w.moment m w.publisher)

  abbrev here : PublisherTables
  here = at_moment w.moment w.publisher

  abbrev acts : List Act
  acts = acts_of judge m decisions here

  taken-gives : ActsApart acts → AllGive acts (taken_in publication judge m acts here)
  taken-gives apart = all-weaker (GivesIn (fold put_version (version_at here) (versions_of acts))) (λ (act : Act). ActGives act (version_at (taken_in publication judge m acts here) act.key))
      (λ act gives. subst (λ (after : Option Version). ActGives act after) (sym (changed-versions publication judge (changing_by m acts) (with_acts publication m acts here) act.key)) gives) acts (acts-give acts (version_at here) apart)

  news-give : (b : Bool) → b ≡ true → ActsApart acts → AllGive acts (if b then taken_in publication judge m acts here else here)
  news-give true news apart = taken-gives apart
  news-give false news apart = absurd (cc news)

  abbrev Holds : PublisherTables → Type 0
  Holds q = brings_news judge m ≡ true → AllGive acts q

  upload-gives : (why : Option Refusal) → upload_refusal publication judge w.moment m w.publisher ≡ why
      → (let done : Result (PublisherTables × Uploaded) Refusal = unless why (tables_after_upload publication judge m decisions here, told_by judge m) in IfOk done (λ a. Holds a.0))
  upload-gives (Some why) is = tt
  upload-gives None is = λ news. news-give (brings_news judge m) news (acts-apart publication judge w.moment m decisions w.publisher here is)

  posted-gives : (posted : ℕ) (result : Result (PublisherTables × Uploaded) Refusal) → IfOk result (λ a. Holds a.0)
      → (let done : World × Outcome = after_upload publication says judge site m w result in done.1 ≡ Posted posted → Holds done.0.publisher)
  posted-gives posted (Ok made) holds is = holds
  posted-gives posted (Err why) holds is = absurd (cc is)

  upload-given : (posted : ℕ) → (let done : World × Outcome = after_upload publication says judge site m w (upload publication judge w.moment m decisions w.publisher) in done.1 ≡ Posted posted → Holds done.0.publisher)
  upload-given posted = posted-gives posted (upload publication judge w.moment m decisions w.publisher) (upload-gives (upload_refusal publication judge w.moment m w.publisher) refl)

pub decisions-give : DecisionsGive
decisions-give publication says judges w number site m posted at =
    subst (λ (found : Option Letter). (let done : World × Outcome = elim found [ None ↦ (w, NoLetter) | Some letter ↦ deliver_letter publication says judges number w letter ] in
    done.1 ≡ Posted posted → Holds publication says (judges.publisher number) w site m done.0.publisher))
    (sym at) (upload-given publication says (judges.publisher number) w site m posted)
