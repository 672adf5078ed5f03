-- The tables of each subscriber keep the rules of a start.
use Rattle.std.specs.Prelude.{filter}
use Rattle.merge_keeper.specs.Entries.{was_received}
use Rattle.merge_model.proofs.Lists.{all-both, all-filter}
use Rattle.merge_typed.specs.Typed.{HolderIsTyped}
use Rattle.merge_laws.specs.Laws.{OfEveryValidRun}
use Rattle.merge_stored.specs.Loading.{HeldEntryLoads, SubscribersLoad}
use Rattle.merge_stored.specs.Ranges.{HeldLoads}
use Rattle.merge_stored.proofs.Closings.{closings-load}
use Rattle.merge_stored.proofs.Conflicts.{conflicts-load}
use Rattle.merge_stored.proofs.Lost.{lost-rows-load}
use Rattle.merge_stored.proofs.Ranges.{ranges-load}
use Rattle.merge_stored.proofs.States.{states-load}
use Rattle.merge_stored.proofs.SubscriberRowsLoad.{subscriber-rows-load}

pub subscribers-load : OfEveryValidRun SubscribersLoad
subscribers-load resolvers publication valid says tallies slips events n s at typed =
    let state = (states-load resolvers publication valid says tallies slips events).subscribers n s at typed.latest in
    let closings = (closings-load resolvers publication valid says tallies slips events).subscribers n s at in
    let held = (ranges-load resolvers publication valid says tallies slips events).subscribers n s at in
    record {
      fits = state.0;
      state = state.1;
      rows = subscriber-rows-load resolvers publication valid says tallies slips events n s at typed;
      closings = closings.each;
      run = closings.run;
      conflicts = (lost-rows-load resolvers publication valid says tallies slips events).subscribers n s at typed;
      numbered = ((conflicts-load resolvers publication valid says tallies slips events).subscribers n s at).numbered;
      received = all-both (HeldLoads publication) HolderIsTyped (HeldEntryLoads publication) (λ entry loads fits. (loads.article, fits, loads.sound, loads.same)) (filter was_received s.held) held.received (all-filter HolderIsTyped was_received s.held typed.held);
      all_held = held.all_held;
    }
