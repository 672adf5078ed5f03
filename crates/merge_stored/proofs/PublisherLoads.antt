-- The tables of the publisher keep the rules of a start.
use Rattle.std.specs.Option.{option_map}
use Rattle.std.specs.Prelude.{Some, filter, ℕ, ◌≡◌}
use Rattle.merge_ident.specs.Holders.{Holder}
use Rattle.merge_keeper.specs.Entries.{held_ranges, was_received}
use Rattle.merge_keeper.specs.Start.{holder_of, identity_at}
use Rattle.merge_model.specs.Failing.Runs.{model_behind}
use Rattle.merge_model.specs.Tables.{PublisherTables}
use Rattle.merge_model.proofs.Lists.Finding.{all-weaker}
use Rattle.merge_laws.specs.Laws.{OfEveryValidRun}
use Rattle.merge_stored.specs.PublisherLoading.{PublisherLoads}
use Rattle.merge_stored.specs.Ranges.{HeldLoads}
use Rattle.merge_stored.proofs.Closings.{closings-load}
use Rattle.merge_stored.proofs.Conflicts.{conflicts-load}
use Rattle.merge_stored.proofs.Lost.{lost-rows-load}
use Rattle.merge_stored.proofs.PublisherRowsLoad.{publisher-rows-load}
use Rattle.merge_stored.proofs.RangeFacts.{range-rule-holds}
use Rattle.merge_stored.proofs.Ranges.{ranges-load}
use Rattle.merge_stored.proofs.States.{states-load}
use Rattle.merge_stored.proofs.Subscriptions.{sites-load}

pub publisher-loads : OfEveryValidRun PublisherLoads
publisher-loads resolvers publication valid says tallies slips events typed =
    let p : PublisherTables = (model_behind publication says tallies slips events).world.publisher in
    let state = (states-load resolvers publication valid says tallies slips events).publisher typed.latest in
    let rows = publisher-rows-load resolvers publication valid says tallies slips events in
    let ranges = ranges-load resolvers publication valid says tallies slips events in
    record {
      fits = state.0;
      state = state.1;
      rows = rows.rows typed;
      mappings = rows.mappings;
      closings = (closings-load resolvers publication valid says tallies slips events).publisher typed.latest;
      conflicts = (lost-rows-load resolvers publication valid says tallies slips events).publisher typed;
      numbered = (conflicts-load resolvers publication valid says tallies slips events).publisher.numbered;
      ranges = range-rule-holds resolvers publication valid says tallies slips events typed;
      received = all-weaker (HeldLoads publication) (λ (entry : ℕ × Holder). option_map (λ identity. holder_of identity (held_ranges entry.1)) (identity_at publication entry.0) ≡ Some entry.1) (λ entry loads. loads.same) (filter was_received p.held) ranges.publisher.received;
      all_held = ranges.publisher.all_held;
      in_order = ranges.grants.in_order;
      granted = ranges.grants.granted;
      keyed = ranges.grants.keyed typed.grants;
      sites = sites-load resolvers publication valid says tallies slips events typed;
    }
