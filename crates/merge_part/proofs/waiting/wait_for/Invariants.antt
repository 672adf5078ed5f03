use Rattle.std.proofs.Common.{◌≡◌, ◌||◌, true}
use Rattle.std.specs.List.{list_any}
use Rattle.std.specs.Map.{keys_of}
use Rattle.merge_types.specs.declared.identifiers.RowId.{RowId}
use Rattle.merge_part.specs.Waiting.{waits, KeepsWaiting}
use Rattle.merge_part.proofs.Found.{is_row}
use Rattle.merge_part.proofs.waiting.wait_for.Given as goal

abbrev pub invariant-loop-entry : goal.invariant-loop-entry
invariant-loop-entry l = record {
  kept : KeepsWaiting (keys_of l.fn.waiting.rows) (keys_of l.waiting.rows);
  added : (row : RowId) → list_any (is_row row) (keys_of l.fn.entries) ≡ true → (waits (keys_of l.waiting.rows) (record { article = l.article; row = row }) || list_any (is_row row) (keys_of l.entry-iterator)) ≡ true;
}
