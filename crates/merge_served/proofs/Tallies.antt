-- Resolvers that do not ask how often they were asked decide the same, whatever the tallies are.
use Rattle.std.proofs.Common.{◌≡◌, ◌∷◌, ◌∙◌, [], All, List, Option, Result, Some, ap, map, refl, slice_index, suc, sym, zero, ℕ}
use Rattle.std.proofs.lemmas.List.Elements.{All-head, All-tail}
use Rattle.std.specs.List.{zip}
use Rattle.merge_types.specs.declared.identifiers.Moment.{Moment}
use Rattle.merge_units.specs.declared.result.Decision.{Decision}
use Rattle.merge_resolve.specs.Asked.{decisions_of, says_at, tallies_after_question}
use Rattle.merge_resolve.specs.Questions.{question_of as asked_of}
use Rattle.merge_resolve.specs.declared.asking.Question.{Question}
use Rattle.merge_resolve.specs.declared.case.ConflictCase.{ConflictCase}
use Rattle.merge_schema.specs.declared.publication.Publication.{Publication}
use Rattle.merge_batch.specs.declared.refusal.Refusal.{Refusal}
use Rattle.merge_batch.specs.declared.reply.Reply.{Reply}
use Rattle.merge_batch.specs.declared.request.Request.{Request}
use Rattle.merge_batch.specs.declared.request.Request.TheVariants as request
use Rattle.merge_model.specs.Judge.ByNumbers.{by_numbers}
use Rattle.merge_model.specs.Publisher.Acts.{questions_of}
use Rattle.merge_model.specs.Publisher.{later}
use Rattle.merge_model.specs.Script.Resolvers.{rules_say}
use Rattle.merge_model.specs.Tables.{PublisherTables}
use Rattle.merge_model.specs.World.Calls.{result_of_request}
use Rattle.merge_model.specs.World.Steps.{kept_decision, kept_decisions, upload_questions}
use Rattle.merge_model.specs.World.{Saying}
use Rattle.merge_draft.proofs.Decided.{handled-is}
use Rattle.merge_draft.specs.Drafting.{decisions_on, result_with_decisions}
use Rattle.merge_desk.specs.Replay.{decisions_if_made, entry_decisions}
use Rattle.merge_served.proofs.Moments.{taken-alike}
use Rattle.merge_served.specs.Tallies.{DecisionsAreTheSameAtAnyTallies, SaysItsRule, SaysTheSameAtAnyTally}

module _ (says : Saying) (steady : SaysTheSameAtAnyTally says) where
  same-answers : (tallies others : List ℕ) (questions : List (ℕ × ConflictCase)) → decisions_of says tallies questions ≡ decisions_of says others questions
  same-answers tallies others [] = refl
  same-answers tallies others (q ∷ questions) =
      ap (λ (d : Option Decision). d ∷ decisions_of says (tallies_after_question tallies q.0) questions) (steady q.0 (slice_index tallies q.0) (slice_index others q.0) q.1)
      ∙ ap (λ (ds : List (Option Decision)). says q.0 (slice_index others q.0) q.1 ∷ ds) (same-answers (tallies_after_question tallies q.0) (tallies_after_question others q.0) questions)

  same-kept : (tallies others : List ℕ) (questions : List Question) → kept_decisions says tallies questions ≡ kept_decisions says others questions
  same-kept tallies others questions = ap (λ (answers : List (Option Decision)). map kept_decision (zip questions answers)) (same-answers tallies others (map asked_of questions))

  -- also at two moments for which the publisher takes the same one
  same-decisions : (publication : Publication) (tallies others : List ℕ) (a b : Moment) (m : Request) (p : PublisherTables) → later a p.latest ≡ later b p.latest
      → decisions_on publication says tallies a m p ≡ decisions_on publication says others b m p
  same-decisions publication tallies others a b (request.Join m) p e = refl
  same-decisions publication tallies others a b (request.Upload m) p e =
      same-kept tallies others (upload_questions publication (by_numbers p) a m p)
      ∙ ap (λ (t : Moment). kept_decisions says others (questions_of publication (by_numbers p) m (record p { latest = t }))) e
  same-decisions publication tallies others a b (request.Ranges m) p e = refl
  same-decisions publication tallies others a b (request.Download m) p e = refl

  same-result : (publication : Publication) (tallies others : List ℕ) (a b : Moment) (m : Request) (p : PublisherTables) → later a p.latest ≡ later b p.latest
      → result_of_request publication says tallies a m p ≡ result_of_request publication says others b m p
  same-result publication tallies others a b m p e =
      handled-is publication says tallies a m p
      ∙ taken-alike publication a b m (decisions_on publication says tallies a m p) p e
      ∙ ap (λ (ds : List Decision). result_with_decisions publication b m ds p) (same-decisions publication tallies others a b m p e)
      ∙ sym (handled-is publication says others b m p)

  pub same-entry : (publication : Publication) (tallies others : List ℕ) (a b : Moment) (m : Request) (p : PublisherTables) → later a p.latest ≡ later b p.latest
      → entry_decisions publication says tallies a m p ≡ entry_decisions publication says others b m p
  same-entry publication tallies others a b m p e =
      ap (λ (r : Result (PublisherTables × Reply) Refusal). decisions_if_made r (decisions_on publication says tallies a m p)) (same-result publication tallies others a b m p e)
      ∙ ap (decisions_if_made (result_of_request publication says others b m p)) (same-decisions publication tallies others a b m p e)

pub decisions-same : DecisionsAreTheSameAtAnyTallies
decisions-same publication says steady tallies others now m p = same-entry says steady publication tallies others now now m p refl

-- Resolvers by rules are such.

pub rules-steady : SaysTheSameAtAnyTally rules_say
rules-steady place tally other case = refl

module _ {X : Type 0} (says : X → ℕ → ConflictCase → Decision) where
  pub ruled-steady : (resolvers : List X) → All (λ x. SaysItsRule (says x)) resolvers → (place tally other : ℕ) (case : ConflictCase)
      → says_at says resolvers place tally case ≡ says_at says resolvers place other case
  ruled-steady [] ruled place tally other case = refl
  ruled-steady (x ∷ xs) ruled zero tally other case =
      let rule : SaysItsRule (says x) = All-head (λ y. SaysItsRule (says y)) x xs ruled in
      ap (λ (d : Decision). Some d) (rule.1 tally case ∙ sym (rule.1 other case))
  ruled-steady (x ∷ xs) ruled (suc place) tally other case = ruled-steady xs (All-tail (λ y. SaysItsRule (says y)) x xs ruled) place tally other case
