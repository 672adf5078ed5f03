-- An upload does the same by two ways to decide that agree on the sites and on its items.
use Rattle.std.specs.Prelude.{◌≡◌, ◌+◌, ℕ, List, [], ◌∷◌, Bool, Option, Some, None, refl, if◌then◌else◌, cond, filter, filter_map, not}
use Rattle.std.specs.List.{AllByRecursion, cons_option}
use Rattle.std.proofs.Common.{ap, ◌∙◌}
use Rattle.merge_types.specs.declared.identifiers.Dot.{Dot}
use Rattle.merge_types.specs.declared.identifiers.Moment.{Moment}
use Rattle.merge_types.specs.declared.identifiers.SiteId.{SiteId}
use Rattle.merge_units.specs.declared.case.Case.{Case}
use Rattle.merge_units.specs.declared.result.Decision.{Decision}
use Rattle.merge_units.specs.declared.version.Version.{Version}
use Rattle.merge_resolve.specs.Questions.{question_asked}
use Rattle.merge_resolve.specs.declared.question.Meeting.{Meeting}
use Rattle.merge_conflict.specs.Losers.{publisher_site}
use Rattle.merge_schema.specs.declared.publication.Publication.{Publication}
use Rattle.merge_batch.specs.declared.request.UploadItem.{UploadItem}
use Rattle.merge_model.specs.Publisher.Acts.{Act, Fate, Met, New, Unknown, act_of, acts_from, asked_at, case_met, decision_for, fate_by, is_new_row, key_of_item, left_by, made_by, meeting_of, question_of, question_on}
use Rattle.merge_resolve.specs.Priorities.{greatest_priority}
use Rattle.merge_resolve.specs.declared.asking.Question.{Question}
use Rattle.merge_units.specs.Cases.{is_conflict}
use Rattle.merge_units.specs.Version.{new_tops}
use Rattle.merge_model.specs.Judge.{PublisherJudge}
use Rattle.merge_model.specs.Tables.Keys.{row_at}
use Rattle.merge_types.specs.declared.row_key.RowKey.{RowKey as Key}
use Rattle.merge_units.specs.declared.site_row.PublisherRow.{PublisherRow}
use Rattle.merge_model.specs.Tables.{PublisherTables}

-- What two ways to decide agree on, of an item and the row that it meets.

pub record CaseAgrees (one other : PublisherJudge) (key : Key) (held incoming : Version) : Type 0 where
  pub case : case_met one key held incoming ≡ case_met other key held incoming
  pub news : new_tops (one.knows_there key incoming) held.body ≡ new_tops (other.knows_there key incoming) held.body

abbrev pub MetAgrees : PublisherJudge → PublisherJudge → UploadItem → Option PublisherRow → Type 0
MetAgrees one other item None = Unit {0}
MetAgrees one other item (Some held) = CaseAgrees one other (key_of_item item) held.version item.version

pub record ItemAgrees (one other : PublisherJudge) (site : SiteId) (rows : List (Key × PublisherRow)) (item : UploadItem) : Type 0 where
  pub acted : one.has_acted site.0 item.generation ≡ other.has_acted site.0 item.generation
  pub new : is_new_row one site (key_of_item item) ≡ is_new_row other site (key_of_item item)
  pub met : MetAgrees one other item (row_at rows (key_of_item item))

module _ (publication : Publication) (one other : PublisherJudge) (site : SiteId) where
  -- Cases and questions.

  meeting-same : (moment : Moment) (key : Key) (held incoming : Version) → new_tops (one.knows_there key incoming) held.body ≡ new_tops (other.knows_there key incoming) held.body
      → meeting_of publication one site moment key held incoming ≡ meeting_of publication other site moment key held incoming
  meeting-same moment key held incoming news =
      ap (λ (tops : List Dot). (let meeting : Meeting = record (meeting_of publication one site moment key held incoming) { publisher_priority = greatest_priority publication tops } in meeting)) news

  abbrev asking : Key → Version → Version → Meeting → Case → Option Question
  asking key held incoming meeting case = if is_conflict case then Some (question_asked meeting (asked_at publication key.article) held.body incoming.body case) else None

  question-on-same : (moment : Moment) (item : UploadItem) (found : Option PublisherRow) → MetAgrees one other item found
      → question_on publication one site moment (key_of_item item) item.version found ≡ question_on publication other site moment (key_of_item item) item.version found
  question-on-same moment item None met = refl
  question-on-same moment item (Some held) met =
      ap (λ (meeting : Meeting). asking (key_of_item item) held.version item.version meeting (case_met one (key_of_item item) held.version item.version))
      (meeting-same moment (key_of_item item) held.version item.version met.news)
      ∙ ap (asking (key_of_item item) held.version item.version (meeting_of publication other site moment (key_of_item item) held.version item.version)) met.case

  -- Acts.

  abbrev new_or_not : Bool → Fate
  new_or_not b = if b then New else Unknown

  fate-same : (number : ℕ) (decisions : List Decision) (item : UploadItem) (found : Option PublisherRow) → is_new_row one site (key_of_item item) ≡ is_new_row other site (key_of_item item) → MetAgrees one other item found
      → fate_by one site number decisions item found ≡ fate_by other site number decisions item found
  fate-same number decisions item None new met = ap new_or_not new
  fate-same number decisions item (Some held) new met =
      ap (λ (case : Case). Met held.version case (decision_for case decisions) (record { site = publisher_site; number = number })) met.case

  module _ (p : PublisherTables) where
    abbrev Agrees : UploadItem → Type 0
    Agrees item = ItemAgrees one other site p.rows item

    pub acting-same : (items : List UploadItem) → AllByRecursion Agrees items → filter (λ (item : UploadItem). not (one.has_acted site.0 item.generation)) items ≡ filter (λ (item : UploadItem). not (other.has_acted site.0 item.generation)) items
    acting-same [] all = refl
    acting-same (item ∷ items) all =
        ap (λ (b : Bool). (let kept : List UploadItem = cond (not b) (item ∷ filter (λ (x : UploadItem). not (one.has_acted site.0 x.generation)) items) (filter (λ (x : UploadItem). not (one.has_acted site.0 x.generation)) items) in kept)) all.0.acted
        ∙ ap (λ (others : List UploadItem). (let kept : List UploadItem = cond (not (other.has_acted site.0 item.generation)) (item ∷ others) others in kept)) (acting-same items all.1)

    act-same : (number : ℕ) (decisions : List Decision) (item : UploadItem) → Agrees item → act_of one site p number decisions item ≡ act_of other site p number decisions item
    act-same number decisions item a = ap (λ (fate : Fate). (let act : Act = record { key = key_of_item item; incoming = item.version; fate = fate } in act)) (fate-same number decisions item (row_at p.rows (key_of_item item)) a.new a.met)

    pub acts-from-same : (items : List UploadItem) (number : ℕ) (decisions : List Decision) → AllByRecursion Agrees items → acts_from one site p number decisions items ≡ acts_from other site p number decisions items
    acts-from-same [] number decisions all = refl
    acts-from-same (item ∷ items) number decisions all =
        let act : Act = act_of other site p number decisions item in
        ap (λ (a : Act). a ∷ acts_from one site p (number + made_by a.fate) (left_by a.fate decisions) items) (act-same number decisions item all.0)
        ∙ ap (λ (acts : List Act). act ∷ acts) (acts-from-same items (number + made_by act.fate) (left_by act.fate decisions) all.1)

    pub questions-same : (items : List UploadItem) → AllByRecursion Agrees items → filter_map (question_of publication one site p) items ≡ filter_map (question_of publication other site p) items
    questions-same [] all = refl
    questions-same (item ∷ items) all =
        ap (λ (found : Option Question). cons_option found (filter_map (question_of publication one site p) items)) (question-on-same p.latest item (row_at p.rows (key_of_item item)) all.0.met)
        ∙ ap (λ (qs : List Question). cons_option (question_of publication other site p item) qs) (questions-same items all.1)
