-- The numbers of conflict rows.
use Rattle.std.specs.Prelude.{ℕ, ◌<◌, ◌≤◌, List, [], ◌∷◌, ◌++◌, All}
use Rattle.merge_conflict.specs.declared.row.ConflictRow.{ConflictRow}

-- each number is above the one before it, and the first above this
abbrev pub RiseAbove : ℕ → List ConflictRow → Type 0
RiseAbove above [] = Unit {0}
RiseAbove above (row ∷ rows) = (above < row.number) × RiseAbove row.number rows

-- numbers rise from 1 on
abbrev pub AreRising : List ConflictRow → Type 0
AreRising rows = RiseAbove 0 rows

-- rows that rise above every number of a table go on from it
abbrev pub GoOnAbove : Type 0
GoOnAbove = (most : ℕ) (rows more : List ConflictRow) → AreRising rows → All (λ (row : ConflictRow). row.number ≤ most) rows → RiseAbove most more → AreRising (rows ++ more)
