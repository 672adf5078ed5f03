-- What a purge answers, behind every list of actions.
use Rattle.std.specs.Prelude.{Bool, List, None, Option, Some, [], count_by, false, if◌then◌else◌, length, nat_lt, refl, true, ◌≡◌, ◌∷◌, ℕ}
use Rattle.std.proofs.Common.{ap, arith, sym, ◌∙◌}
use Rattle.merge_types.specs.declared.row_key.RowKey.{RowKey as Key}
use Rattle.merge_units.specs.declared.site_row.PublisherRow.{PublisherRow}
use Rattle.merge_gens.specs.Book.{moment_of}
use Rattle.merge_gens.specs.declared.closings.Closing.{Closing}
use Rattle.merge_gens.specs.declared.moves.RowSite.{RowSite}
use Rattle.merge_schema.specs.declared.publication.Publication.{Publication}
use Rattle.merge_batch.specs.declared.refusal.Refusal.{Refusal}
use Rattle.merge_batch.specs.declared.refusal.Refusal.TheVariants as refusal
use Rattle.merge_model.specs.World.Events.{happens, outcome_answer}
use Rattle.merge_model.specs.Failing.{Slip, Slips, fails, faulty, faulty_stepping, is_allowed, slip_if}
use Rattle.merge_model.specs.Tables.Keys.{row_at}
use Rattle.merge_model.specs.History.Model.{Model, model, model_step}
use Rattle.merge_model.specs.Publisher.PublisherPurge.{counts_of_purge, cutoff, is_old, is_old_left, is_old_tombstone}
use Rattle.merge_model.specs.Failing.Runs.{model_behind_actions}
use Rattle.merge_model.specs.Laws.SlipLaws.{is_slip, refused_for, shows_refusal}
use Rattle.merge_model.specs.World.Steps.{Action, Forget}
use Rattle.merge_model.specs.Tables.{PublisherTables}
use Rattle.merge_model.specs.World.{Saying}
use Rattle.merge_model.specs.declared.answer.Answer.{Answer}
use Rattle.merge_model.specs.declared.event.Event.TheVariants as event
use Rattle.merge_model.specs.declared.outcome.Forgotten.{Forgotten}
use Rattle.merge_model.specs.declared.outcome.Outcome.{Outcome}
use Rattle.merge_model.specs.declared.outcome.Outcome.TheVariants.{Forgot}
use Rattle.merge_model.proofs.Lists.Finding.{all-weaker}
use Rattle.merge_model.proofs.Lists.RowsFound.{Found, each-found}
use Rattle.merge_laws.specs.Laws.{OfEveryValidActions}
use Rattle.merge_owed.specs.Forgotten.{PurgesAnswerByLines, PurgesCountByLines, answer_of_counts, forgotten_by_lines, going_over, is_old_by_lines, lines_past}
use Rattle.merge_owed.proofs.ForgottenByLines.{purges-forget, tombstones-old}
use Rattle.merge_owed.proofs.MappingRuns.{Based, based-by-actions}
use Rattle.merge_owed.proofs.PurgeCounts.{Closes, as-many, count-same, each-closing, purge-places-once}

abbrev counted : ℕ → ℕ → ℕ → Forgotten
counted tombstones mappings generations = record { tombstones = tombstones; mappings = mappings; generations = generations }

same-counts : (a b c x y z : ℕ) → a ≡ x → b ≡ y → c ≡ z → counted a b c ≡ counted x y z
same-counts a b c x y z first second third = ap (λ (n : ℕ). counted n b c) first ∙ ap (λ (n : ℕ). counted x n c) second ∙ ap (λ (n : ℕ). counted x y n) third

-- a closed generation is old by its moment
closed-old : (publication : Publication) (p : PublisherTables) (c : Closing) → Closes p.gens.closings c → nat_lt c.moment.0 (cutoff publication p).0 ≡ is_old publication p c.generation
closed-old publication p c at = sym (ap (λ (found : Option ℕ). (let old : Bool = elim found [ None ↦ false | Some moment ↦ nat_lt moment (cutoff publication p).0 ] in old)) at)

pub counts-by-lines : OfEveryValidActions (λ publication says m. counts_of_purge publication (going_over m) ≡ forgotten_by_lines publication m)
counts-by-lines resolvers publication valid says tallies slips actions =
    let m : Model = model_behind_actions publication says tallies slips actions in
    let p : PublisherTables = going_over m in
    let based : Based publication m = based-by-actions publication says tallies slips actions in
    same-counts (counts_of_purge publication p).tombstones (counts_of_purge publication p).mappings (counts_of_purge publication p).generations
    (forgotten_by_lines publication m).tombstones (forgotten_by_lines publication m).mappings (forgotten_by_lines publication m).generations
    (count-same (is_old_tombstone publication p) (is_old_by_lines publication m) m.world.publisher.rows
    (all-weaker (Found m.world.publisher.rows) (λ (row : Key × PublisherRow). is_old_tombstone publication p row ≡ is_old_by_lines publication m row)
    (λ row found. tombstones-old resolvers publication valid says tallies slips actions row.0 row.1 found) m.world.publisher.rows (each-found m.world.publisher.rows based.0.1.rows_ascend)))
    (as-many (is_old_left publication p) m.world.publisher.mappings (lines_past publication m) based.0.1.mappings_ascend (purge-places-once publication m.history.lines (is_old publication p))
    (purges-forget resolvers publication valid says tallies slips actions))
    (count-same (λ (c : Closing). nat_lt c.moment.0 (cutoff publication p).0) (λ (c : Closing). is_old publication p c.generation) m.world.publisher.gens.closings
    (all-weaker (Closes m.world.publisher.gens.closings) (λ (c : Closing). nat_lt c.moment.0 (cutoff publication p).0 ≡ is_old publication p c.generation) (λ c at. closed-old publication p c at) m.world.publisher.gens.closings
    (each-closing m.world.publisher.gens.closings based.0.1.generations_ascend.ascending)))

-- A purge that does not fail.

slip-shows : (fault : Bool) → (let why : Refusal = if fault then refusal.StoreFault else refusal.NoMemory in is_slip why) ≡ true
slip-shows true = refl
slip-shows false = refl

module _ (publication : Publication) (says : Saying) (m : Model) (counts : Forgotten) (same : counts_of_purge publication (going_over m) ≡ counts) where
  slip-counts : (allowed : Bool) (slips : Slips) (slip : Slip) → (let outcome : Outcome = (slip_if publication (model publication says) allowed slips slip Forget m (model_step publication says m Forget)).1 in refused_for is_slip outcome ≡ false → outcome ≡ Forgot counts)
  slip-counts true slips slip none = absurd (let shows = slip-shows slip.is_fault in grind (arith, shows, none))
  slip-counts false slips slip none = ap (λ (f : Forgotten). (let outcome : Outcome = Forgot f in outcome)) same

  purge-counts : (slips : Slips) → (let outcome : Outcome = (fails publication (model publication says) (faulty m slips) Forget).1 in refused_for is_slip outcome ≡ false → outcome ≡ Forgot counts)
  purge-counts [] none = ap (λ (f : Forgotten). (let outcome : Outcome = Forgot f in outcome)) same
  purge-counts (None ∷ slips) none = ap (λ (f : Forgotten). (let outcome : Outcome = Forgot f in outcome)) same
  purge-counts (Some slip ∷ slips) none = slip-counts (is_allowed publication m.world Forget slip (model_step publication says m Forget).1) slips slip none

  slip-answers : (allowed : Bool) (slips : Slips) (slip : Slip) → (let outcome : Outcome = (slip_if publication (model publication says) allowed slips slip Forget m (model_step publication says m Forget)).1 in
      shows_refusal is_slip (outcome_answer 0 outcome) ≡ false → outcome_answer 0 outcome ≡ answer_of_counts counts)
  slip-answers true slips slip none = absurd (let shows = slip-shows slip.is_fault in grind (arith, shows, none))
  slip-answers false slips slip none = ap answer_of_counts same

  purge-answers : (slips : Slips) → (let answer : Answer = (happens publication (faulty_stepping publication (model publication says)) (faulty m slips) event.Purge).1 in shows_refusal is_slip answer ≡ false → answer ≡ answer_of_counts counts)
  purge-answers [] none = ap answer_of_counts same
  purge-answers (None ∷ slips) none = ap answer_of_counts same
  purge-answers (Some slip ∷ slips) none = slip-answers (is_allowed publication m.world Forget slip (model_step publication says m Forget).1) slips slip none

pub purges-count : OfEveryValidActions PurgesCountByLines
purges-count resolvers publication valid says tallies slips actions later =
    let m : Model = model_behind_actions publication says tallies slips actions in
    purge-counts publication says m (forgotten_by_lines publication m) (counts-by-lines resolvers publication valid says tallies slips actions) later

pub purges-answer : OfEveryValidActions PurgesAnswerByLines
purges-answer resolvers publication valid says tallies slips actions later =
    let m : Model = model_behind_actions publication says tallies slips actions in
    purge-answers publication says m (forgotten_by_lines publication m) (counts-by-lines resolvers publication valid says tallies slips actions) later
