use Rattle.std.specs.Prelude.{ℕ, All}
use Rattle.std.specs.List.{AllByRecursion}
use Rattle.std.proofs.Common.{subst, sym}
use Rattle.merge_ident.specs.Books.{IsRule}
use Rattle.merge_model.specs.Laws.{AreSorted, SubscriberIsSorted}
use Rattle.merge_model.specs.Tables.Publications.{rules_of}
use Rattle.merge_model.specs.Failing.Runs.{model_behind}
use Rattle.merge_model.specs.Tables.{SubscriberTables}
use Rattle.merge_model.specs.World.{World}
use Rattle.merge_laws.proofs.promised.promises_hold.Goals as goal

pub returns-clause-model : goal.returns-clause-model
returns-clause-model c resolvers publication valid says tallies slips events =
    let rules : All IsRule (rules_of publication) = c.valid_publications_have_values.ensures resolvers publication valid in
    let same = c.machine_answers_as_the_model.ensures.failing_tables resolvers publication valid says tallies slips events in
    record {
      accounted = c.no_change_is_lost.ensures resolvers publication valid says tallies slips events;
      partition = c.settled_sites_hold_their_partitions.ensures resolvers publication valid says tallies slips events;
      sessions = c.finished_sessions_settle_their_sites.ensures publication says tallies slips events;
      once = c.no_generation_acts_twice.ensures.once publication says tallies slips events;
      taken = c.uploads_take_effect_once.ensures.taken publication says tallies slips events;
      stays = c.uploads_take_effect_once.ensures.stay publication says tallies slips events;
      letters = c.uploads_take_effect_once.ensures.letters publication says tallies slips events;
      again = c.uploads_take_effect_once.ensures.again publication says tallies slips events;
      effects = c.no_generation_takes_effect_twice.ensures.numbers publication says tallies slips events;
      news = c.no_generation_takes_effect_twice.ensures.news publication says tallies slips events;
      lineages = c.lineages_decide_as_histories_do.ensures.stand resolvers publication valid says tallies slips events;
      publisher = c.lineages_decide_as_histories_do.ensures.publisher resolvers publication valid says tallies slips events;
      subscribers = c.subscribers_decide_as_their_changes_do.ensures publication says tallies slips events;
      cases = c.lineages_decide_as_histories_do.ensures.cases resolvers publication valid says tallies slips events;
      steps = c.lineages_decide_as_histories_do.ensures.steps resolvers publication valid says tallies slips events;
      ranges = c.ranges_never_overlap.ensures.model publication rules says tallies slips events;
      identities = c.identity_values_are_taken_once.ensures.apart publication rules says tallies slips events;
      granted = c.identity_values_are_taken_once.ensures.granted publication rules says tallies slips events;
      old = c.purges_take_nothing_that_live_sites_need.ensures publication says tallies slips events;
      watermarks = c.watermarks_are_held.ensures publication says tallies slips events;
      inside = c.downloads_stay_in_the_partition.ensures publication (model_behind publication says tallies slips events);
      received = c.received_numbers_are_the_generations_that_acted.ensures.received publication says tallies slips events;
      acted = c.received_numbers_are_the_generations_that_acted.ensures.acted publication says tallies slips events;
      gaps = c.received_numbers_are_the_generations_that_acted.ensures.gap publication says tallies slips events;
      closed = c.received_numbers_are_the_generations_that_acted.ensures.closed publication says tallies slips events;
      joined = c.joined_sites_take_for_received_what_has_acted.ensures publication says tallies slips events;
      numbers = c.received_change_numbers_are_the_last_that_acted.ensures.number publication says tallies slips events;
      unmet = c.received_change_numbers_are_the_last_that_acted.ensures.unmet publication says tallies slips events;
      mappings = c.mappings_are_the_last_lines.ensures.mappings publication says tallies slips events;
      changes = c.mappings_are_the_last_lines.ensures.changes publication says tallies slips events;
      numbered = c.known_changes_were_made.ensures.numbered publication says tallies slips events;
      known = c.known_changes_were_made.ensures.known publication says tallies slips events;
      lineages_known = c.lineages_know_only_changes_that_were_made.ensures publication says tallies slips events;
      kept = c.received_change_numbers_are_the_last_that_acted.ensures.kept publication says tallies slips events;
      told = c.received_change_numbers_are_the_last_that_acted.ensures.told publication says tallies slips events;
      has_left = c.mappings_are_the_last_lines.ensures.has_left publication says tallies slips events;
      touch_inside = c.mappings_are_the_last_lines.ensures.touch_inside publication says tallies slips events;
      touch_outside = c.mappings_are_the_last_lines.ensures.touch_outside publication says tallies slips events;
      rounds = c.rounds_settle_all_sites.ensures resolvers publication valid says tallies slips events;
      uploads = c.bounds_never_end_a_session.ensures.uploads resolvers publication valid says tallies slips events;
      downloads = c.bounds_never_end_a_session.ensures.downloads resolvers publication valid says tallies slips events;
      purges = c.purges_and_joins_take_nothing_owed.ensures.purges resolvers publication valid says tallies slips events;
      forgets = c.purges_and_joins_take_nothing_owed.ensures.joins resolvers publication valid says tallies slips events;
      accepted = c.runs_keep_what_laws_rest_on.ensures.accepted resolvers publication valid says tallies slips events;
      accepted_known = c.runs_keep_what_laws_rest_on.ensures.known resolvers publication valid says tallies slips events;
      chains = c.runs_keep_what_laws_rest_on.ensures.chains resolvers publication valid says tallies slips events;
      equal = c.runs_keep_what_laws_rest_on.ensures.equal resolvers publication valid says tallies slips events;
      replies = c.runs_keep_what_laws_rest_on.ensures.replies resolvers publication valid says tallies slips events;
      moments = c.runs_keep_what_laws_rest_on.ensures.moments resolvers publication valid says tallies slips events;
      in_step = c.runs_keep_what_laws_rest_on.ensures.received publication says tallies slips events;
      held = c.runs_keep_what_laws_rest_on.ensures.held resolvers publication valid says tallies slips events;
      sorted = subst (λ (w : World). AreSorted w.publisher) same (c.lists_stay_sorted.ensures.publisher publication says tallies slips events);
      subscriber_sorted = subst (λ (w : World). AllByRecursion (λ (entry : ℕ × SubscriberTables). SubscriberIsSorted entry.1) w.subscribers) same (c.lists_stay_sorted.ensures.subscribers publication says tallies slips events);
    }

pub returns-clause-machine : goal.returns-clause-machine
returns-clause-machine c resolvers publication valid says tallies slips events = record {
  model = model_behind publication says tallies slips events;
  same_tables = sym (c.machine_answers_as_the_model.ensures.failing_tables resolvers publication valid says tallies slips events);
  promised = returns-clause-model c resolvers publication valid says tallies slips events;
}
