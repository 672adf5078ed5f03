-- The rows so far are entries, and were read.
use Rattle.std.proofs.Common.{◌≡◌, take}
use Rattle.std.specs.Prelude.{All}
use Rattle.merge_sqlite.specs.Reading.{IsEntry, entries_in}
use Rattle.merge_sqlite.proofs.keeper.read_all.Given as goal

abbrev pub invariant-loop-row : goal.invariant-loop-row
invariant-loop-row g l =
    All IsEntry (take l.row-index l.row-items) × (l.entries ≡ entries_in (take l.row-index l.row-items))
