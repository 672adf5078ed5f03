use Rattle.merge_types.specs.declared.row_key.RowKey.{RowKey as Key}
use Rattle.merge_model.specs.Failing.{faulty}
use Rattle.merge_model.specs.Failing.Runs.{model_behind}
use Rattle.merge_model.specs.History.Model.{Model, empty_model}
use Rattle.merge_laws.specs.Laws.ActsOnce.{DoneStaysByActions, LettersStayByActions, TakenOnlyAnswerByActions}
use Rattle.merge_laws.proofs.Runs.OfActions.{of-runs, of-valid-runs}
use Rattle.merge_owed.specs.Forgotten.{PurgesCountByLines}
use Rattle.merge_owed.specs.Identity.{TakenStandsForGoodByActions}
use Rattle.merge_owed.specs.Mappings.{KeptOrWentByActions}
use Rattle.merge_owed.specs.Purged.{WasPurged}
use Rattle.merge_owed.specs.Values.{ValuesStandForGoodByActions}
use Rattle.merge_promises.proofs.ExpectedRefusals.{no-gap, no-unknown-site, no-wrong-watermark, none-break, none-not-joined}
use Rattle.merge_promises.proofs.PurgedRows.{lacked-noted, within-noted}
use Rattle.merge_promises.proofs.promises.all_promises_hold.Goals as goal
use Rattle.merge_promises.specs.GivenForGood.{DecisionsStand, GivenStandsHere, GivenStandsThere}

pub returns-clause-model : goal.returns-clause-model
returns-clause-model c resolvers publication valid says tallies slips events =
    let m : Model = model_behind publication says tallies slips events in
    let Purged : Key → Type 0 = λ key. WasPurged publication says (faulty (empty_model publication tallies) slips) events key in
    let few = c.requests_are_refused_for_little.ensures.few resolvers publication valid says tallies slips events in
    let taken = c.accepted_changes_are_known_or_purged.ensures.taken resolvers publication valid says tallies slips events in
    record {
      promised = c.promises_hold.ensures.model resolvers publication valid says tallies slips events;
      lacked = lacked-noted m Purged taken (c.accepted_changes_are_known_or_purged.ensures.lacked resolvers publication valid says tallies slips events);
      within = within-noted m Purged taken (c.accepted_changes_are_known_or_purged.ensures.within resolvers publication valid says tallies slips events);
      earlier = c.earlier_changes_are_known.ensures.every resolvers publication valid says tallies slips events;
      held_earlier = c.earlier_changes_are_known.ensures.held resolvers publication valid says tallies slips events;
      tops = c.tops_are_in_chains.ensures resolvers publication valid says tallies slips events;
      values = c.values_stand_by_their_tops.ensures resolvers publication valid says tallies slips events;
      values_by_actions = of-valid-runs ValuesStandForGoodByActions c.actions_keep_values.ensures.values resolvers publication valid says tallies slips events;
      own_changes = c.changes_and_decisions_give_values.ensures.publisher;
      subscriber_changes = c.changes_and_decisions_give_values.ensures.subscribers;
      decisions = c.changes_and_decisions_give_values.ensures.decisions;
      answers_decide = c.changes_and_decisions_give_values.ensures.answers;
      own_values = of-valid-runs GivenStandsHere c.given_values_stand.ensures.publisher resolvers publication valid says tallies slips events;
      subscriber_values = of-valid-runs GivenStandsThere c.given_values_stand.ensures.subscribers resolvers publication valid says tallies slips events;
      decided_values = of-valid-runs DecisionsStand c.given_values_stand.ensures.decisions resolvers publication valid says tallies slips events;
      twice = c.no_generation_takes_effect_twice.ensures.once;
      acting = c.no_generation_takes_effect_twice.ensures.acting;
      acted_rows = c.uploads_take_effect_once.ensures.rows;
      acted_items = c.uploads_take_effect_once.ensures.items;
      acted_uploads = c.uploads_take_effect_once.ensures.answered;
      stays = of-runs DoneStaysByActions c.actions_take_effect_once.ensures.stay publication says tallies slips events;
      letters = of-runs LettersStayByActions c.actions_take_effect_once.ensures.letters publication says tallies slips events;
      again = of-runs TakenOnlyAnswerByActions c.actions_take_effect_once.ensures.again publication says tallies slips events;
      leavings = c.rows_leave_where_a_step_saw_it.ensures;
      finishes = c.sessions_finish.ensures resolvers publication valid says tallies slips events;
      fails = c.sessions_in_which_steps_fail_finish.ensures.ends resolvers publication valid says tallies slips events;
      settles = c.sessions_in_which_steps_fail_finish.ensures.settled resolvers publication valid says tallies slips events;
      syncs = c.two_rounds_settle_all_sites.ensures.plain resolvers publication valid says tallies slips events;
      failing_syncs = c.two_rounds_settle_all_sites.ensures.failing resolvers publication valid says tallies slips events;
      failing_rounds = c.rounds_in_which_steps_may_fail_settle_all_sites.ensures.runs resolvers publication valid says tallies slips events;
      spaced_rounds = c.rounds_beside_other_steps_settle_all_sites.ensures.runs resolvers publication valid says tallies slips events;
      ranges = c.range_requests_are_enough.ensures resolvers publication valid says tallies slips events;
      honest = c.honest_requests_are_taken.ensures resolvers publication valid says tallies slips events;
      few = few;
      first = c.requests_are_refused_for_little.ensures.first;
      rules = none-break publication says m few;
      gaps = no-gap publication says m few;
      watermarks = no-wrong-watermark publication says m few;
      known_sites = no-unknown-site publication says m few;
      joined_sites = none-not-joined publication says m few;
      answers = c.replies_answer_what_was_asked.ensures resolvers publication valid says tallies slips events;
      fit = c.replies_are_taken.ensures.fit resolvers publication valid says tallies slips events;
      replies = c.replies_are_taken.ensures.taken resolvers publication valid says tallies slips events;
      puts = c.rows_that_are_put_fit.ensures resolvers publication valid says tallies slips events;
      removals = c.rows_that_are_removed_fit.ensures resolvers publication valid says tallies slips events;
      inserts = c.inserts_take_values.ensures.took resolvers publication valid says tallies slips events;
      valued = c.inserts_take_values.ensures.rows resolvers publication valid says tallies slips events;
      taken = c.identity_values_stay.ensures.taken resolvers publication valid says tallies slips events;
      identities = c.identity_values_stay.ensures.stay resolvers publication valid says tallies slips events;
      identities_by_actions = of-valid-runs TakenStandsForGoodByActions c.actions_keep_values.ensures.stay resolvers publication valid says tallies slips events;
      held_ranges = c.held_ranges_were_granted.ensures.held resolvers publication valid says tallies slips events;
      told_ranges = c.held_ranges_were_granted.ensures.told resolvers publication valid says tallies slips events;
      tombstones = c.tombstones_are_passed.ensures.runs resolvers publication valid says tallies slips events;
      passed_leavings = c.leavings_are_passed.ensures.runs resolvers publication valid says tallies slips events;
      held_rows = c.purged_rows_are_never_new.ensures.held resolvers publication valid says tallies slips events;
      accepted_rows = c.purged_rows_are_never_new.ensures.accepted resolvers publication valid says tallies slips events;
      join_forgets = c.what_is_forgotten_is_read_of_lines.ensures.joins publication says tallies slips events;
      purge_forgets = c.what_is_forgotten_is_read_of_lines.ensures.purges resolvers publication valid says tallies slips events;
      purge_drops = c.what_is_forgotten_is_read_of_lines.ensures.tombstones resolvers publication valid says tallies slips events;
      purge_counts = of-valid-runs PurgesCountByLines c.actions_forget_by_lines.ensures.counts resolvers publication valid says tallies slips events;
      purge_answers = c.what_is_forgotten_is_read_of_lines.ensures.counts resolvers publication valid says tallies slips events;
      mappings = c.mappings_go_by_what_took_them.ensures.kept resolvers publication valid says tallies slips events;
      mappings_by_actions = of-valid-runs KeptOrWentByActions c.actions_take_mappings.ensures.kept resolvers publication valid says tallies slips events;
      sites_told = c.reports_tell_what_has_acted.ensures.publisher resolvers publication valid says tallies slips events;
      rows_told = c.reports_tell_what_has_acted.ensures.subscribers resolvers publication valid says tallies slips events;
    }

pub returns-clause-runs : goal.returns-clause-runs
returns-clause-runs c resolvers publication valid says tallies slips events = record {
  model = returns-clause-model c resolvers publication valid says tallies slips events;
  answers = c.machine_answers_as_the_model.ensures.failing_answers resolvers publication valid says tallies slips events;
  tables = c.machine_answers_as_the_model.ensures.failing_tables resolvers publication valid says tallies slips events;
  lacked = c.accepted_changes_are_known_or_purged.ensures.lacked resolvers publication valid says tallies slips events;
  within = c.accepted_changes_are_known_or_purged.ensures.within resolvers publication valid says tallies slips events;
  taken = c.accepted_changes_are_known_or_purged.ensures.taken resolvers publication valid says tallies slips events;
  told = c.mappings_go_by_what_took_them.ensures.told resolvers publication valid says tallies slips events;
  left = c.leavings_were_seen.ensures.runs resolvers publication valid says tallies slips events;
}
