-- What contracts see of a conflict table: its rows, and for how many more there is room.
use Rattle.std.specs.Prelude.{ℕ, ◌≤◌, List, ◌++◌, length, filter, nat_le}
use Rattle.merge_types.specs.declared.Moment.{Moment}
use Rattle.merge_conflict.specs.declared.row.ConflictRow.{ConflictRow}
use Rattle.merge_conflict.specs.declared.table.ConflictPlan.{ConflictPlan}
use Rattle.merge_conflict.specs.Rising.{AreRising}

pub record RowsWithRoom : Type 0 where
  pub rows : List ConflictRow
  pub room : ℕ

-- the rows from the cutoff on
abbrev pub kept_from : Moment → List ConflictRow → List ConflictRow
kept_from cutoff rows = filter (λ (row : ConflictRow). nat_le cutoff.0 row.moment.0) rows

-- there is room for the rows of the plan, and their numbers go on from those of the table
pub record IsReady (table : RowsWithRoom) (plan : ConflictPlan) : Type 0 where
  pub room : length plan.rows ≤ table.room
  pub rising : AreRising (table.rows ++ plan.rows)
