-- What is decided on an upload's items is what the resolvers decide on their questions.
use Rattle.std.specs.List.{cons_option, fold}
use Rattle.std.specs.Option.{option_to_list}
use Rattle.std.specs.Prelude.{◌≡◌, ◌++◌, ◌+◌, ◌∷◌, ℕ, Bool, true, false, List, [], Option, Some, None, if◌then◌else◌, refl}
use Rattle.std.proofs.Common.{sym, ap, ◌∙◌, append_assoc, append-nil}
use Rattle.merge_types.specs.declared.row_key.RowKey.{RowKey as Key}
use Rattle.merge_units.specs.Cases.{case_of, is_conflict}
use Rattle.merge_units.specs.declared.case.Case.{Case}
use Rattle.merge_units.specs.declared.result.Decision.{Decision}
use Rattle.merge_units.specs.declared.site_row.PublisherRow.{PublisherRow}
use Rattle.merge_resolve.specs.declared.asking.Question.{Question}
use Rattle.merge_schema.specs.declared.publication.Publication.{Publication}
use Rattle.merge_batch.specs.declared.request.UploadItem.{UploadItem}
use Rattle.merge_model.specs.Publisher.Acts.{Fate, New, Unknown, key_of_item}
use Rattle.merge_model.specs.Tables.Keys.{row_at}
use Rattle.merge_model.specs.World.Steps.{kept_decisions}
use Rattle.merge_model.specs.World.{Saying}
use Rattle.merge_steps.specs.Uploading.{Pass, acts_in, after_act, after_item, after_items, decided_by, decision_on, fate_at, is_made_by, pass_at, question_at, questions_in, tallies_on}
use Rattle.merge_steps.specs.declared.acting.Acting.{Acting}
use Rattle.merge_steps.specs.declared.acting.Arrival.{Arrival}
use Rattle.merge_steps.proofs.Meetings.{the_question}

module _ (publication : Publication) (rows : List (Key × PublisherRow)) (arrival : Arrival) (says : Saying) where
  -- One question.

  abbrev decided_one : List ℕ → Option Question → Option Decision
  decided_one tallies None = None
  decided_one tallies (Some question) = Some (decision_on says tallies (Some question))

  kept-onto : (tallies : List ℕ) (q : Option Question) (questions : List Question)
      → kept_decisions says tallies (cons_option q questions) ≡ option_to_list (decided_one tallies q) ++ kept_decisions says (tallies_on tallies q) questions
  kept-onto tallies None questions = refl
  kept-onto tallies (Some question) questions = refl

  -- One item.

  -- there is a question exactly where the case is a conflict
  decided-case : (case : Case) (b : Bool) → is_conflict case ≡ b → (question : Question) (tallies : List ℕ)
      → (let q : Option Question = if b then Some question else None in
      (let o : Option Decision = if is_conflict case then Some (decision_on says tallies q) else None in o) ≡ decided_one tallies q)
  decided-case case true is question tallies = rw is refl
  decided-case case false is question tallies = rw is refl

  decided-act : (tallies : List ℕ) (number : ℕ) (item : UploadItem) (held : Option PublisherRow)
      → decided_by (fate_at publication arrival says tallies number item held) ≡ decided_one tallies (question_at publication arrival item held)
  decided-act tallies number item None = by-made (is_made_by arrival (key_of_item item))
    where
      by-made : (b : Bool) → decided_by (let f : Fate = if b then New else Unknown in f) ≡ None
      by-made true = refl
      by-made false = refl
  decided-act tallies number item (Some held) =
      let case : Case = case_of held.version item.version in
      decided-case case (is_conflict case) refl (the_question publication arrival item held.version) tallies

  -- All items.

  abbrev goes_on : Acting → List ℕ → List UploadItem → Type 0
  goes_on s tallies items = (fold (after_item publication rows arrival says) (pass_at s tallies) items).acting.decisions ≡ s.decisions ++ kept_decisions says tallies (questions_in publication rows arrival items)

  -- an item that has acted

  idle-item : (pass : Pass) (item : UploadItem) → acts_in arrival item ≡ false → after_item publication rows arrival says pass item ≡ pass
  idle-item pass item is = rw is refl

  idle-question : (item : UploadItem) (items : List UploadItem) → acts_in arrival item ≡ false → questions_in publication rows arrival items ≡ questions_in publication rows arrival (item ∷ items)
  idle-question item items is = rw is refl

  -- and one that acts

  due-item : (pass : Pass) (item : UploadItem) → acts_in arrival item ≡ true → after_item publication rows arrival says pass item ≡ after_act publication arrival says pass item (row_at rows (key_of_item item))
  due-item pass item is = rw is refl

  due-question : (item : UploadItem) (items : List UploadItem) → acts_in arrival item ≡ true
      → cons_option (question_at publication arrival item (row_at rows (key_of_item item))) (questions_in publication rows arrival items) ≡ questions_in publication rows arrival (item ∷ items)
  due-question item items is = rw is refl

  decided-item : (b : Bool) (s : Acting) (tallies : List ℕ) (item : UploadItem) (items : List UploadItem) → acts_in arrival item ≡ b
      → ((t : Acting) (ts : List ℕ) → goes_on t ts items) → goes_on s tallies (item ∷ items)
  decided-item false s tallies item items is goes =
      ap (λ (pass : Pass). (fold (after_item publication rows arrival says) pass items).acting.decisions) (idle-item (pass_at s tallies) item is)
      ∙ goes s tallies
      ∙ ap (λ (qs : List Question). s.decisions ++ kept_decisions says tallies qs) (idle-question item items is)
  decided-item true s tallies item items is goes =
      let held : Option PublisherRow = row_at rows (key_of_item item) in
      let q : Option Question = question_at publication arrival item held in
      let next : Pass = after_act publication arrival says (pass_at s tallies) item held in
      let fate : Fate = fate_at publication arrival says tallies (s.changes + 1) item held in
      let behind : List Decision = kept_decisions says (tallies_on tallies q) (questions_in publication rows arrival items) in
      ap (λ (pass : Pass). (fold (after_item publication rows arrival says) pass items).acting.decisions) (due-item (pass_at s tallies) item is)
      ∙ goes next.acting next.tallies
      ∙ append_assoc s.decisions (option_to_list (decided_by fate)) behind
      ∙ ap (λ (o : Option Decision). s.decisions ++ (option_to_list o ++ behind)) (decided-act tallies (s.changes + 1) item held)
      ∙ ap (λ (ds : List Decision). s.decisions ++ ds) (sym (kept-onto tallies q (questions_in publication rows arrival items)))
      ∙ ap (λ (qs : List Question). s.decisions ++ kept_decisions says tallies qs) (due-question item items is)

  decided-all : (items : List UploadItem) (s : Acting) (tallies : List ℕ) → goes_on s tallies items
  decided-all [] s tallies = sym (append-nil s.decisions)
  decided-all (item ∷ items) s tallies = decided-item (acts_in arrival item) s tallies item items refl (decided-all items)

  -- the decisions after a pass are those before it and those on its questions
  pub pass-decided : (items : List UploadItem) (s acting : Acting) (tallies after : List ℕ) → pass_at acting after ≡ after_items publication rows arrival says (pass_at s tallies) items
      → acting.decisions ≡ s.decisions ++ kept_decisions says tallies (questions_in publication rows arrival items)
  unfolding after_items
  pass-decided items s acting tallies after is = ap (λ (pass : Pass). pass.acting.decisions) is ∙ decided-all items s tallies
