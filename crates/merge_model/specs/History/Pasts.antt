-- How pasts go on by changes and merges.
use Rattle.std.specs.List.{enumerate_from, list_any, range_with_len}
use Rattle.std.specs.Prelude.{Bool, List, [], false, flat_map, if◌then◌else◌, length, map, true, ℕ, ◌++◌, ◌==◌, ◌∷◌}
use Rattle.merge_types.specs.declared.changes.Change.{Change}
use Rattle.merge_types.specs.declared.changes.Change.TheVariants.{Delete, Insert, Update}
use Rattle.merge_types.specs.declared.changes.Setting.{Setting}
use Rattle.merge_types.specs.declared.changes.Tracking.{Tracking}
use Rattle.merge_types.specs.declared.identifiers.Dot.{Dot}
use Rattle.merge_units.specs.declared.case.Case.{Case}
use Rattle.merge_units.specs.declared.case.Side.{Side}
use Rattle.merge_units.specs.declared.result.Decision.{Decision}
use Rattle.merge_units.specs.declared.result.Decision.TheVariants.{Custom, TakeSubscriber}
use Rattle.merge_schema.specs.declared.publication.Publication.{Publication}
use Rattle.merge_model.specs.History.{Chains, OfCells, OfDead, Past}
use Rattle.merge_model.specs.Tables.Publications.{columns_at, tracking_at}
use Rattle.merge_units.specs.declared.case.Case.TheVariants as case
use Rattle.merge_units.specs.declared.case.Side.TheVariants as side
use Rattle.merge_types.specs.declared.changes.Tracking.TheVariants as tracking

abbrev pub all_chains : Chains → List Dot
all_chains (OfCells chains) = flat_map (λ (chain : List Dot). chain) chains
all_chains (OfDead chain) = chain

abbrev pub cell_chains : Chains → List (List Dot)
cell_chains (OfCells chains) = chains
cell_chains (OfDead chain) = []

-- Local changes.

-- a new row has so many cells
abbrev pub inserted_past : Dot → ℕ → Past
inserted_past dot cells = record { known = dot ∷ []; chains = OfCells (map (λ (place : ℕ). dot ∷ []) (range_with_len 0 cells)) }

-- the cells that a change sets: with row tracking the one, else that of each set column
abbrev pub set_cells : Tracking → List Setting → List ℕ
set_cells tracking.Row settings = 0 ∷ []
set_cells tracking.ByColumn settings = map (λ (setting : Setting). setting.column) settings

abbrev pub chain_after : Dot → List ℕ → ℕ × List Dot → List Dot
chain_after dot cells chain = if list_any (λ (cell : ℕ). cell == chain.0) cells then dot ∷ chain.1 else chain.1

abbrev pub updated_past : Dot → List ℕ → Past → Past
updated_past dot cells past = record {
  known = dot ∷ past.known;
  chains = OfCells (map (chain_after dot cells) (enumerate_from 0 (cell_chains past.chains)));
}

-- a deleted row descends from all that its cells did
abbrev pub deleted_past : Dot → Past → Past
deleted_past dot past = record { known = dot ∷ past.known; chains = OfDead (dot ∷ all_chains past.chains) }

abbrev pub cell_count : Publication → ℕ → ℕ
cell_count publication article = elim (tracking_at publication article) [
  | tracking.Row ↦ 1
  | tracking.ByColumn ↦ length (columns_at publication article)
]

abbrev pub past_after : Publication → Dot → Change → Past → Past
past_after publication dot (Insert article settings) past = inserted_past dot (cell_count publication article)
past_after publication dot (Update article row settings) past = updated_past dot (set_cells (tracking_at publication article) settings) past
past_after publication dot (Delete article row) past = deleted_past dot past

abbrev pub cells_made : Publication → Change → List ℕ
cells_made publication (Insert article settings) = range_with_len 0 (cell_count publication article)
cells_made publication (Update article row settings) = set_cells (tracking_at publication article) settings
cells_made publication (Delete article row) = []

abbrev pub is_delete : Change → Bool
is_delete (Delete article row) = true
is_delete change = false

-- Merges.

-- the chain of a cell, by its side. Decided values descend from the decision alone
abbrev pub merged_chain : Dot → Decision → Side → List Dot → List Dot → List Dot
merged_chain dot decision side.Incoming ours theirs = theirs
merged_chain dot TakeSubscriber side.Both ours theirs = theirs
merged_chain dot (Custom values) side.Both ours theirs = dot ∷ []
merged_chain dot decision side ours theirs = ours

abbrev pub merged_chains : Dot → Decision → List Side → List (List Dot) → List (List Dot) → List (List Dot)
merged_chains dot decision (side ∷ sides) (ours ∷ others) (theirs ∷ rest) = merged_chain dot decision side ours theirs ∷ merged_chains dot decision sides others rest
merged_chains dot decision sides ours theirs = []

abbrev pub winner_chains : Decision → Chains → Chains → Chains
winner_chains TakeSubscriber ours theirs = theirs
winner_chains decision ours theirs = ours

abbrev pub chains_by : Case → Decision → Dot → Chains → Chains → Chains
chains_by case.Nothing decision dot ours theirs = ours
chains_by case.Take decision dot ours theirs = theirs
chains_by case.Unite decision dot ours theirs = OfDead (all_chains ours ++ all_chains theirs)
chains_by (case.Merge sides) decision dot ours theirs = OfCells (merged_chains dot decision sides (cell_chains ours) (cell_chains theirs))
chains_by (case.Conflict sides) decision dot ours theirs = OfCells (merged_chains dot decision sides (cell_chains ours) (cell_chains theirs))
chains_by case.LifeConflict decision dot ours theirs = winner_chains decision ours theirs

abbrev pub decided_dots : Decision → Dot → List Dot
decided_dots (Custom values) dot = dot ∷ []
decided_dots decision dot = []

-- the past of the result of a case
abbrev pub past_by : Case → Decision → Dot → Past → Past → Past
past_by case decision dot ours theirs = record {
  known = decided_dots decision dot ++ ours.known ++ theirs.known;
  chains = chains_by case decision dot ours.chains theirs.chains;
}
