-- Conflict tables: their numbers, where their versions come from, and when they were added.
use Rattle.std.specs.List.{AllByRecursion}
use Rattle.std.specs.Prelude.{List, Some, true, ℕ, ◌<◌, ◌≡◌, ◌≤◌}
use Rattle.merge_types.specs.Limits.{number_limit}
use Rattle.merge_conflict.specs.declared.row.ConflictRow.{ConflictRow}
use Rattle.merge_schema.specs.declared.publication.Publication.{Publication}
use Rattle.merge_batch.specs.Lineages.{is_site}
use Rattle.merge_keeper.specs.SubscriberRules.{Numbered}
use Rattle.merge_model.specs.Tables.Keys.{at_number}
use Rattle.merge_model.specs.History.Model.{Model}
use Rattle.merge_model.specs.Tables.{SubscriberTables}
use Rattle.merge_model.specs.World.{Saying}

-- the version was one of the publisher or of a site that subscribes, and lost at a moment that has been
abbrev pub LostAt : Publication → ℕ → ConflictRow → Type 0
LostAt publication latest row = (is_site publication row.from.0 ≡ true) × (row.moment.0 ≤ latest)

-- the numbers run from 1 to the counter, which is below the limit
pub record ConflictsAreKept (publication : Publication) (latest count : ℕ) (rows : List ConflictRow) : Type 0 where
  pub numbered : Numbered count 0 rows
  pub each : AllByRecursion (LostAt publication latest) rows
  pub low : count < number_limit

pub record AllConflictsAreKept (publication : Publication) (m : Model) : Type 0 where
  pub publisher : ConflictsAreKept publication m.world.publisher.latest.0 m.world.publisher.conflict_count m.world.publisher.conflicts
  pub subscribers : (n : ℕ) (s : SubscriberTables) → at_number m.world.subscribers n ≡ Some s → ConflictsAreKept publication s.latest.0 s.conflict_count s.conflicts

abbrev pub ConflictsLoad : Publication → Saying → Model → Type 0
ConflictsLoad publication says m = AllConflictsAreKept publication m
