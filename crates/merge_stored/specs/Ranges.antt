-- Grants, and what the sites hold of ranges.
use Rattle.std.specs.List.{AllByRecursion}
use Rattle.std.specs.Option.{option_map}
use Rattle.std.specs.Prelude.{List, Some, filter, true, ℕ, ◌<◌, ◌^◌, ◌≡◌}
use Rattle.merge_ident.specs.Grants.{AreGrants, AreInOrder}
use Rattle.merge_ident.specs.Holders.{Holder}
use Rattle.merge_ident.specs.declared.grants.Grant.{Grant}
use Rattle.merge_schema.specs.declared.publication.Publication.{Publication}
use Rattle.merge_keeper.specs.Entries.{held_ranges, was_received}
use Rattle.merge_keeper.specs.Start.{holder_of, identity_at}
use Rattle.merge_keeper.specs.Stored.{HasGrantKey}
use Rattle.merge_keeper.specs.SubscriberRules.{held_with}
use Rattle.merge_keeper.specs.SubscriberStart.{held_is_sound}
use Rattle.merge_model.specs.Tables.Keys.{at_number}
use Rattle.merge_model.specs.History.Model.{Model}
use Rattle.merge_model.specs.Publisher.{new_holders}
use Rattle.merge_model.specs.Tables.{SubscriberTables}
use Rattle.merge_model.specs.World.{Saying}
use Rattle.merge_typed.specs.Typed.{GrantIsTyped}

-- what was received of an article reads back, where it is one that a record can have
pub record HeldLoads (publication : Publication) (entry : ℕ × Holder) : Type 0 where
  pub article : entry.0 < 2 ^ 8
  pub sound : held_is_sound publication entry.0 (held_ranges entry.1) ≡ true
  pub same : option_map (λ identity. holder_of identity (held_ranges entry.1)) (identity_at publication entry.0) ≡ Some entry.1

-- and nothing else is held than was received, or was there in the beginning
pub record AllHeldLoad (publication : Publication) (held : List (ℕ × Holder)) : Type 0 where
  pub received : AllByRecursion (HeldLoads publication) (filter was_received held)
  pub all_held : held_with (new_holders publication) (filter was_received held) ≡ held

-- the publisher's grants are those of a book
pub record GrantsLoad (grants : List Grant) : Type 0 where
  pub in_order : AreInOrder grants
  pub granted : AreGrants grants
  pub keyed : AllByRecursion GrantIsTyped grants → AllByRecursion HasGrantKey grants

pub record AllRangesLoad (publication : Publication) (m : Model) : Type 0 where
  pub grants : GrantsLoad m.world.publisher.grants
  pub publisher : AllHeldLoad publication m.world.publisher.held
  pub subscribers : (n : ℕ) (s : SubscriberTables) → at_number m.world.subscribers n ≡ Some s → AllHeldLoad publication s.held

abbrev pub RangesLoad : Publication → Saying → Model → Type 0
RangesLoad publication says m = AllRangesLoad publication m
