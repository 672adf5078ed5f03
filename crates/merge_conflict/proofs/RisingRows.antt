-- Rows with rising numbers, some of which are taken away.
use Rattle.std.proofs.Common.{◌≡◌, ℕ, ◌+◌, ◌≤◌, not, true, false, List, [], ◌∷◌, ◌++◌, if◌then◌else◌, nat_le, nat_lt, count_by, length, arith}
use Rattle.std.proofs.lemmas.Bool.Decides.{nat_tests}
use Rattle.std.specs.List.{AllByRecursion}
use Rattle.std.proofs.lemmas.List.Elements.{recursion_from_All}
use Rattle.std.proofs.lemmas.List.Sums.{length-filter}
use Rattle.std.proofs.lemmas.List.Filters.{length-filter_both}
use Rattle.merge_types.specs.declared.Moment.{Moment}
use Rattle.merge_conflict.specs.declared.row.ConflictRow.{ConflictRow}
use Rattle.merge_conflict.specs.Rising.{RiseAbove, GoOnAbove}
use Rattle.merge_conflict.specs.Table.{kept_from}

-- what rises above a number rises above each smaller one
lower_start : (low high : ℕ) (rows : List ConflictRow) → low ≤ high → RiseAbove high rows → RiseAbove low rows
lower_start low high [] below rising = tt
lower_start low high (row ∷ rows) below rising = (omega (arith, rising.0), rising.1)

-- the rows from the cutoff on still rise
pub rising_kept : (cutoff : Moment) (above : ℕ) (rows : List ConflictRow) → RiseAbove above rows → RiseAbove above (kept_from cutoff rows)
rising_kept cutoff above [] rising = tt
rising_kept cutoff above (row ∷ rows) rising =
    elim (nat_le cutoff.0 row.moment.0) as (λ kept. RiseAbove above (if kept then row ∷ kept_from cutoff rows else kept_from cutoff rows)) [
      | true ↦ (rising.0, rising_kept cutoff row.number rows rising.1)
      | false ↦ lower_start above row.number (kept_from cutoff rows) (omega (arith, rising.0)) (rising_kept cutoff row.number rows rising.1)
    ]

-- the rows from the cutoff on, and those from before it, are all
pub count_kept : (cutoff : Moment) (rows : List ConflictRow) → length (kept_from cutoff rows) + count_by (λ (row : ConflictRow). nat_lt row.moment.0 cutoff.0) rows ≡ length rows
count_kept cutoff rows =
    let other : (row : ConflictRow) → nat_lt row.moment.0 cutoff.0 ≡ not (nat_le cutoff.0 row.moment.0) = λ row. grind (arith, nat_tests) in
    rw (← length-filter (λ (row : ConflictRow). nat_lt row.moment.0 cutoff.0) rows) (length-filter_both _ _ other rows)

-- rows that rise above all numbers of others go on from them
go_on : (above most : ℕ) (rows more : List ConflictRow) → above ≤ most → RiseAbove above rows → AllByRecursion (λ (row : ConflictRow). row.number ≤ most) rows → RiseAbove most more → RiseAbove above (rows ++ more)
go_on above most [] more below rising up_to on = lower_start above most more below on
go_on above most (row ∷ rows) more below rising up_to on = (rising.0, go_on row.number most rows more up_to.0 rising.1 up_to.1 on)

pub go_on_above : GoOnAbove
go_on_above most rows more rising up_to on = go_on 0 most rows more (omega arith) rising (recursion_from_All _ _ up_to) on
