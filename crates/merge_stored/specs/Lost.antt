-- The rows of conflict tables.
use Rattle.std.specs.Prelude.{List, Some, [], length, true, ℕ, ◌<◌, ◌^◌, ◌≡◌}
use Rattle.merge_conflict.specs.declared.row.ConflictRow.{ConflictRow}
use Rattle.merge_schema.specs.declared.publication.Publication.{Publication}
use Rattle.merge_keeper.specs.Start.{KeepOneByOne, conflict_is_sound}
use Rattle.merge_keeper.specs.States.{IsConflict}
use Rattle.merge_keeper.specs.SubscriberRules.{value_of}
use Rattle.merge_model.specs.Tables.Keys.{at_number}
use Rattle.merge_model.specs.History.Model.{Model}
use Rattle.merge_model.specs.Tables.{SubscriberTables}
use Rattle.merge_model.specs.World.{Saying}
use Rattle.merge_typed.specs.Typed.{PublisherIsTyped, SubscriberIsTyped}

-- a record can have the row, and a start takes it behind those in front of it
abbrev pub LostLoads : Publication → ℕ → List ConflictRow → ConflictRow → Type 0
LostLoads publication count front row = (row.number < 2 ^ 64) × IsConflict (value_of row) × (conflict_is_sound publication (length front) count row ≡ true)

pub record AllLostLoad (publication : Publication) (m : Model) : Type 0 where
  pub publisher : PublisherIsTyped m.world.publisher → KeepOneByOne (LostLoads publication m.world.publisher.conflict_count) [] m.world.publisher.conflicts
  pub subscribers : (n : ℕ) (s : SubscriberTables) → at_number m.world.subscribers n ≡ Some s → SubscriberIsTyped s → KeepOneByOne (LostLoads publication s.conflict_count) [] s.conflicts

abbrev pub LostRowsLoad : Publication → Saying → Model → Type 0
LostRowsLoad publication says m = AllLostLoad publication m
