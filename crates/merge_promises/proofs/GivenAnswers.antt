-- The conflicts of an upload's acts are decided by the answers to their own questions.
use Rattle.std.specs.List.{cons_option, zip}
use Rattle.std.specs.Prelude.{Bool, List, None, Option, Some, [], false, filter_map, if◌then◌else◌, length, map, refl, suc, true, ℕ, ◌+◌, ◌∷◌, ◌≡◌}
use Rattle.std.proofs.Common.{ap, arith}
use Rattle.merge_types.specs.declared.identifiers.SiteId.{SiteId}
use Rattle.merge_types.specs.declared.row_key.RowKey.{RowKey as Key}
use Rattle.merge_units.specs.Cases.{is_conflict}
use Rattle.merge_units.specs.declared.case.Case.{Case}
use Rattle.merge_units.specs.declared.result.Decision.{Decision}
use Rattle.merge_units.specs.declared.result.Decision.TheVariants.{KeepPublisher}
use Rattle.merge_units.specs.declared.site_row.PublisherRow.{PublisherRow}
use Rattle.merge_resolve.specs.Asked.{decisions_of, tallies_after_question}
use Rattle.merge_resolve.specs.Questions.{question_asked, question_of as asked_of}
use Rattle.merge_resolve.specs.declared.asking.Question.{Question}
use Rattle.merge_schema.specs.declared.publication.Publication.{Publication}
use Rattle.merge_batch.specs.declared.request.UploadItem.{UploadItem}
use Rattle.merge_model.specs.Judge.{PublisherJudge}
use Rattle.merge_model.specs.Publisher.Acts.{Act, Fate, New, Unknown, acting_items, acts_from, asked_at, case_met, decided_changes, decision_for, fate_by, is_new_row, key_of_item, left_by, made_by, meeting_of, question_of, question_on, without_first}
use Rattle.merge_model.specs.Publisher.{at_moment}
use Rattle.merge_model.specs.Tables.Keys.{row_at}
use Rattle.merge_model.specs.Tables.{PublisherTables}
use Rattle.merge_model.specs.World.Steps.{kept_decision, kept_decisions, upload_questions}
use Rattle.merge_model.specs.World.{Saying}
use Rattle.merge_promises.specs.Given.{DecisionsAreAnswers, decided_by, decided_in}

-- There is a decision for each question.

answers-length : (says : Saying) (tallies : List ℕ) (questions : List Question) → length (decisions_of says tallies (map asked_of questions)) ≡ length questions
answers-length says tallies [] = refl
answers-length says tallies (question ∷ questions) = ap (λ (n : ℕ). suc n) (answers-length says (tallies_after_question tallies question.place) questions)

zipped-length : (questions : List Question) (answers : List (Option Decision)) → length answers ≡ length questions → length (map kept_decision (zip questions answers)) ≡ length questions
zipped-length [] answers even = refl
zipped-length (question ∷ questions) [] even = absurd (omega (arith, even))
zipped-length (question ∷ questions) (answer ∷ answers) even = ap (λ (n : ℕ). suc n) (zipped-length questions answers (omega (arith, even)))

kept-length : (says : Saying) (tallies : List ℕ) (questions : List Question) → length (kept_decisions says tallies questions) ≡ length questions
kept-length says tallies questions = zipped-length questions (decisions_of says tallies (map asked_of questions)) (answers-length says tallies questions)

-- One conflict, or none, before others: where it is one, the first decision is its own.
module _ (question : Question) (rest : List Question) (behind : List Decision → List (Question × Decision)) where
  abbrev Behind : Type 0
  Behind = (decisions : List Decision) → length decisions ≡ length rest → behind decisions ≡ zip rest decisions

  abbrev asked_if : Bool → List Question
  asked_if b = cons_option (let asked : Option Question = if b then Some question else None in asked) rest

  abbrev decided_if : Bool → Decision → List (Question × Decision) → List (Question × Decision)
  decided_if b decision others = cons_option (let decided : Option (Question × Decision) = if b then Some (question, decision) else None in decided) others

  none-left : (b : Bool) → Behind → length (let none : List Decision = [] in none) ≡ length (asked_if b) → decided_if b KeepPublisher (behind (if b then without_first [] else [])) ≡ zip (asked_if b) []
  none-left true all even = (let none : 0 ≡ suc (length rest) = even in absurd (omega (arith, none)))
  none-left false all even = all [] even

  first-left : (b : Bool) (decision : Decision) (decisions : List Decision) → Behind → length (decision ∷ decisions) ≡ length (asked_if b)
      → decided_if b (if b then decision else KeepPublisher) (behind (if b then without_first (decision ∷ decisions) else decision ∷ decisions)) ≡ zip (asked_if b) (decision ∷ decisions)
  first-left true decision decisions all even =
      let same : suc (length decisions) ≡ suc (length rest) = even in
      ap (λ (others : List (Question × Decision)). (let first : Question × Decision = (question, decision) in first ∷ others)) (all decisions (omega (arith, same)))
  first-left false decision decisions all even = all (decision ∷ decisions) even

module _ (publication : Publication) (judge : PublisherJudge) (site : SiteId) (p : PublisherTables) where
  abbrev asked : List UploadItem → List Question
  asked items = filter_map (question_of publication judge site p) items

  abbrev decided : List Act → List (Question × Decision)
  decided acts = filter_map (decided_in publication judge site p) acts

  -- those of items, from a number of a change and with some decisions
  abbrev decided_from : List UploadItem → ℕ → List Decision → List (Question × Decision)
  decided_from items number decisions = decided (acts_from judge site p number decisions items)

  abbrev Paired : List UploadItem → Type 0
  Paired items = (number : ℕ) (decisions : List Decision) → length decisions ≡ length (asked items) → decided_from items number decisions ≡ zip (asked items) decisions

  abbrev with_item : List UploadItem → ℕ → List Decision → UploadItem → Fate → List (Question × Decision)
  with_item items number decisions item fate = cons_option (decided_by publication judge site p (key_of_item item) item.version fate) (decided_from items (number + made_by fate) (left_by fate decisions))

  new-paired : (items : List UploadItem) (number : ℕ) (decisions : List Decision) (item : UploadItem) (b : Bool) → Paired items → length decisions ≡ length (asked items)
      → (let fate : Fate = if b then New else Unknown in with_item items number decisions item fate ≡ zip (asked items) decisions)
  new-paired items number decisions item true all even = all (number + 0) decisions even
  new-paired items number decisions item false all even = all (number + 0) decisions even

  met-paired : (items : List UploadItem) (number : ℕ) (decisions : List Decision) (item : UploadItem) (held : PublisherRow) → Paired items
      → length decisions ≡ length (cons_option (question_on publication judge site p.latest (key_of_item item) item.version (Some held)) (asked items))
      → with_item items number decisions item (fate_by judge site number decisions item (Some held)) ≡ zip (cons_option (question_on publication judge site p.latest (key_of_item item) item.version (Some held)) (asked items)) decisions
  met-paired items number [] item held all even =
      let key : Key = key_of_item item in
      let c : Case = case_met judge key held.version item.version in
      let question : Question = question_asked (meeting_of publication judge site p.latest key held.version item.version) (asked_at publication key.article) held.version.body item.version.body c in
      none-left question (asked items) (decided_from items (number + 0)) (is_conflict c) (all (number + 0)) even
  met-paired items number (decision ∷ decisions) item held all even =
      let key : Key = key_of_item item in
      let c : Case = case_met judge key held.version item.version in
      let question : Question = question_asked (meeting_of publication judge site p.latest key held.version item.version) (asked_at publication key.article) held.version.body item.version.body c in
      let next : ℕ = number + decided_changes (decision_for c (decision ∷ decisions)) in
      first-left question (asked items) (decided_from items next) (is_conflict c) decision decisions (all next) even

  item-paired : (items : List UploadItem) (number : ℕ) (decisions : List Decision) (item : UploadItem) (found : Option PublisherRow) → Paired items
      → length decisions ≡ length (cons_option (question_on publication judge site p.latest (key_of_item item) item.version found) (asked items))
      → with_item items number decisions item (fate_by judge site number decisions item found) ≡ zip (cons_option (question_on publication judge site p.latest (key_of_item item) item.version found) (asked items)) decisions
  item-paired items number decisions item None all even = new-paired items number decisions item (is_new_row judge site (key_of_item item)) all even
  item-paired items number decisions item (Some held) all even = met-paired items number decisions item held all even

  all-paired : (items : List UploadItem) → Paired items
  all-paired [] number decisions even = refl
  all-paired (item ∷ items) number decisions even = item-paired items number decisions item (row_at p.rows (key_of_item item)) (all-paired items) even

pub decisions-are-answers : DecisionsAreAnswers
decisions-are-answers publication says judge w m =
    let p : PublisherTables = at_moment w.moment w.publisher in
    let questions : List Question = upload_questions publication judge w.moment m w.publisher in
    all-paired publication judge m.site p (acting_items judge m) (p.changes + 1) (kept_decisions says w.tallies questions) (kept-length says w.tallies questions)
