-- What a table holds.
use Rattle.std.specs.Prelude.{◌≡◌, ℕ, Bool, List, [], ◌∷◌, length}
use Rattle.std.specs.List.{list_any}
use Rattle.std.specs.List.Sorted.{IsStrictlySortedBy}
use Rattle.std.specs.declared.option.Option.{Option}
use Rattle.std.specs.declared.option.Option.TheVariants.{None, Some}
use Rattle.std.specs.declared.cmp.Ordering.{Ordering}
use Rattle.std.specs.Map.{keys_of}
use Rattle.std.specs.BTreeMap.{is_at}

-- A table's rows in the order of their keys, and the keys of its slots in order, with a row or without.
-- Two tables with the same rows are the same to whoever cites `rows` alone.
pub record Contents (K V : Type 0) : Type 0 where
  pub rows : List (K × V)
  pub slots : List K

-- whether the key has a slot
abbrev pub has_room : {K : Type 0} → (K → K → Ordering) → List K → K → Bool
has_room cmp slots key = list_any (is_at (cmp key)) slots

-- a slot's row, if it has one, in front of the others
abbrev pub with_slot : {K V : Type 0} → K → Option V → List (K × V) → List (K × V)
with_slot key None rows = rows
with_slot key (Some row) rows = (key, row) ∷ rows

-- the rows of the slots that have one
abbrev pub rows_of : {K V : Type 0} → List (K × Option V) → List (K × V)
rows_of [] = []
rows_of (slot ∷ slots) = with_slot slot.0 slot.1 (rows_of slots)

-- how many rows a slot has
abbrev pub count_of : {V : Type 0} → Option V → ℕ
count_of None = 0
count_of (Some row) = 1

abbrev pub contents_of : {K V : Type 0} → List (K × Option V) → Contents K V
contents_of slots = record { rows = rows_of slots; slots = keys_of slots }

-- the slots ascend, and so many have a row
pub record IsSound {K V : Type 0} (cmp : K → K → Ordering) (slots : List (K × Option V)) (held : ℕ) : Type 0 where
  pub ordered : IsStrictlySortedBy cmp (keys_of slots)
  pub counted : held ≡ length (rows_of slots)
