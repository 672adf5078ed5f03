-- The decisions of an upload's conflicts count on their own questions.
use Rattle.std.specs.List.{AllByRecursion, cons_option, zip}
use Rattle.std.specs.Prelude.{Bool, List, None, Option, Some, [], false, filter_map, if◌then◌else◌, map, refl, true, unwrap_or, ℕ, ◌+◌, ◌≡◌, ◌∷◌}
use Rattle.std.proofs.Common.{inl, inr}
use Rattle.merge_types.specs.declared.identifiers.SiteId.{SiteId}
use Rattle.merge_types.specs.declared.row_key.RowKey.{RowKey as Key}
use Rattle.merge_units.specs.Cases.{is_conflict}
use Rattle.merge_units.specs.declared.case.Case.{Case}
use Rattle.merge_units.specs.declared.result.Decision.{Decision}
use Rattle.merge_units.specs.declared.result.Decision.TheVariants.{KeepPublisher}
use Rattle.merge_units.specs.declared.site_row.PublisherRow.{PublisherRow}
use Rattle.merge_units.specs.declared.version.Version.{Version}
use Rattle.merge_resolve.specs.Asked.{decisions_of}
use Rattle.merge_resolve.specs.Questions.{decision_for_question, question_asked, question_of as asked_of}
use Rattle.merge_resolve.specs.declared.asking.Question.{Question}
use Rattle.merge_schema.specs.declared.publication.Publication.{Publication}
use Rattle.merge_batch.specs.declared.request.Upload.{Upload}
use Rattle.merge_batch.specs.declared.request.UploadItem.{UploadItem}
use Rattle.merge_model.specs.Publisher.Acts.{Act, Fate, Met, New, Unknown, act_of, acting_items, acts_from, acts_of, asked_at, case_met, decision_for, fate_by, is_new_row, key_of_item, left_by, made_by, meeting_of, question_of, question_on, questions_of, without_first}
use Rattle.merge_model.specs.Judge.{PublisherJudge}
use Rattle.merge_model.specs.Tables.Keys.{row_at}
use Rattle.merge_model.specs.World.Steps.{kept_decision, kept_decisions}
use Rattle.merge_model.specs.Tables.{PublisherTables}
use Rattle.merge_model.specs.World.{Saying}
use Rattle.merge_owed.proofs.BodyValues.{IsCounted}

-- each decision counts on the question at its place
abbrev Count : List Decision → List Question → Type 0
Count [] questions = Unit {0}
Count (decision ∷ decisions) [] = ⊥
Count (decision ∷ decisions) (question ∷ questions) = ((other : Decision) × (decision ≡ decision_for_question question other)) × Count decisions questions

zipped-count : (questions : List Question) (answers : List (Option Decision)) → Count (map kept_decision (zip questions answers)) questions
zipped-count [] answers = tt
zipped-count (question ∷ questions) [] = tt
zipped-count (question ∷ questions) (answer ∷ answers) = ((unwrap_or answer KeepPublisher, refl), zipped-count questions answers)

kept-count : (says : Saying) (tallies : List ℕ) (questions : List Question) → Count (kept_decisions says tallies questions) questions
kept-count says tallies questions = zipped-count questions (decisions_of says tallies (map asked_of questions))

module _ (publication : Publication) (judge : PublisherJudge) (site : SiteId) (p : PublisherTables) where
  -- what a conflict is decided by counts on its question
  abbrev pub FateCounts : Key → Version → Fate → Type 0
  FateCounts key incoming New = Unit {0}
  FateCounts key incoming Unknown = Unit {0}
  FateCounts key incoming (Met held case decision dot) = IsCounted (meeting_of publication judge site p.latest key held incoming) (asked_at publication key.article) case held.body incoming.body decision

  abbrev pub ActCounts : Act → Type 0
  ActCounts act = FateCounts act.key act.incoming act.fate

  -- One conflict, or none.
  module _ (key : Key) (held incoming : Version) (case : Case) where
    abbrev question : Question
    question = question_asked (meeting_of publication judge site p.latest key held incoming) (asked_at publication key.article) held.body incoming.body case

    abbrev asked_if : Bool → List Question → List Question
    asked_if b rest = cons_option (let asked : Option Question = if b then Some question else None in asked) rest

    none-left : (b : Bool) (rest : List Question) → Count (if b then without_first [] else []) rest
    none-left true rest = tt
    none-left false rest = tt

    first-left : (b : Bool) (decision : Decision) (decisions : List Decision) (rest : List Question) → Count (decision ∷ decisions) (asked_if b rest)
        → IsCounted (meeting_of publication judge site p.latest key held incoming) (asked_at publication key.article) case held.body incoming.body (if b then decision else KeepPublisher) × Count (if b then without_first (decision ∷ decisions) else decision ∷ decisions) rest
    first-left true decision decisions rest count = (inr count.0, count.1)
    first-left false decision decisions rest count = (inl refl, count)

    met-counts : (decisions : List Decision) (rest : List Question) → Count decisions (asked_if (is_conflict case) rest)
        → IsCounted (meeting_of publication judge site p.latest key held incoming) (asked_at publication key.article) case held.body incoming.body (decision_for case decisions) × Count (if is_conflict case then without_first decisions else decisions) rest
    met-counts [] rest count = (inl refl, none-left (is_conflict case) rest)
    met-counts (decision ∷ decisions) rest count = first-left (is_conflict case) decision decisions rest count

  new-counts : (key : Key) (incoming : Version) (b : Bool) (decisions : List Decision) (rest : List Question) → Count decisions rest
      → (let fate : Fate = if b then New else Unknown in FateCounts key incoming fate × Count (left_by fate decisions) rest)
  new-counts key incoming true decisions rest count = (tt, count)
  new-counts key incoming false decisions rest count = (tt, count)

  item-counts : (number : ℕ) (decisions : List Decision) (item : UploadItem) (found : Option PublisherRow) (rest : List Question)
      → Count decisions (cons_option (question_on publication judge site p.latest (key_of_item item) item.version found) rest)
      → (let fate : Fate = fate_by judge site number decisions item found in FateCounts (key_of_item item) item.version fate × Count (left_by fate decisions) rest)
  item-counts number decisions item None rest count = new-counts (key_of_item item) item.version (is_new_row judge site (key_of_item item)) decisions rest count
  item-counts number decisions item (Some held) rest count = met-counts (key_of_item item) held.version item.version (case_met judge (key_of_item item) held.version item.version) decisions rest count

  acts-count : (number : ℕ) (decisions : List Decision) (items : List UploadItem) → Count decisions (filter_map (question_of publication judge site p) items) → AllByRecursion ActCounts (acts_from judge site p number decisions items)
  acts-count number decisions [] count = tt
  acts-count number decisions (item ∷ items) count =
      let act : Act = act_of judge site p number decisions item in
      let here = item-counts number decisions item (row_at p.rows (key_of_item item)) (filter_map (question_of publication judge site p) items) count in
      (here.0, acts-count (number + made_by act.fate) (left_by act.fate decisions) items here.1)

pub upload-counts : (publication : Publication) (judge : PublisherJudge) (says : Saying) (tallies : List ℕ) (m : Upload) (p : PublisherTables)
    → AllByRecursion (ActCounts publication judge m.site p) (acts_of judge m (kept_decisions says tallies (questions_of publication judge m p)) p)
upload-counts publication judge says tallies m p =
    acts-count publication judge m.site p (p.changes + 1) (kept_decisions says tallies (questions_of publication judge m p)) (acting_items judge m) (kept-count says tallies (questions_of publication judge m p))
