-- The subscribers so far, for whose keepers there is room, and what is to come.
use Rattle.std.proofs.Common.{◌≡◌, ◌++◌, map, List, ℕ}
use Rattle.merge_types.specs.declared.identifiers.SiteId.{SiteId}
use Rattle.merge_world.specs.Views.{site_of}
use Rattle.merge_program.specs.Elsewhere.{SameAtOthers}
use Rattle.merge_program.specs.Stores.{AreRooms, fresh_at, fresh_subscribers, untold_subscriber}
use Rattle.merge_program.proofs.Starts.{Starting}
use Rattle.merge_program.proofs.stores.start_subscribers.Given as goal

abbrev pub invariant-loop-subscription : goal.invariant-loop-subscription
invariant-loop-subscription g l = record {
  fresh : map untold_subscriber l.subscribers.items ++ map (fresh_at l.publication) l.subscription-iterator ≡ fresh_subscribers l.publication;
  starting : Starting l.publication l.path (g.E.Outside.told l.initial.outside) (g.E.Outside.told l.outside) (map site_of l.subscribers.items) l.subscription-iterator;
  rooms : AreRooms (g.E.Outside.HasRoom l.outside) l.path (map site_of l.subscribers.items);
  still : (s : SiteId) (p : List ℕ) → g.E.Outside.HasRoom l.initial.outside s p → g.E.Outside.HasRoom l.outside s p;
  kept : (g.E.Outside.counts l.outside).stores ≡ (g.E.Outside.counts l.initial.outside).stores;
  others : SameAtOthers l.path (g.E.Outside.told l.initial.outside) (g.E.Outside.told l.outside);
}
