-- How many entries of a site stand in each of its generations: no more than fill one, and in the open one no more than it has.
use Rattle.std.specs.List.{AllByRecursion}
use Rattle.std.specs.Map.{values_of}
use Rattle.std.specs.Prelude.{List, count_by, if◌then◌else◌, length, nat_le, sum_by, true, ℕ, ◌+◌, ◌==◌, ◌≡◌, ◌≤◌}
use Rattle.merge_types.specs.Limits.{entry_limit}
use Rattle.merge_types.specs.declared.row_key.RowKey.{RowKey as Key}
use Rattle.merge_units.specs.declared.site_row.SubscriberRow.{SubscriberRow}
use Rattle.merge_gens.specs.declared.filling.Filling.{Filling}
use Rattle.merge_record.specs.Rows.{numbers_ascend}
use Rattle.merge_model.specs.Tables.{SubscriberTables}

-- how many entries a generation can have
abbrev pub room_of : Filling → ℕ → ℕ
room_of filling generation = if nat_le generation filling.last_closed then entry_limit else (if generation == filling.last_closed + 1 then filling.filled else 0)

-- how often a generation is kept, and how much is kept in all
abbrev pub times_kept : ℕ → List ℕ → ℕ
times_kept generation generations = count_by (λ (other : ℕ). generation == other) generations

abbrev pub total_kept : (List ℕ → ℕ) → List (Key × SubscriberRow) → ℕ
total_kept weigh rows = sum_by (λ (row : SubscriberRow). weigh row.generations) (values_of rows)

abbrev pub Ascends : Key × SubscriberRow → Type 0
Ascends row = numbers_ascend row.1.generations ≡ true

-- What a subscriber keeps with its rows. What it discarded had a generation each time, so conflicts are no more than its changes.
pub record RowsHaveRoom (s : SubscriberTables) : Type 0 where
  pub few : s.conflict_count + total_kept length s.rows ≤ s.changes
  pub ascend : AllByRecursion Ascends s.rows
  pub room : (generation : ℕ) → total_kept (times_kept generation) s.rows ≤ room_of s.gens.filling generation
