-- What a walk through the index of mappings finds.
use Rattle.std.specs.Prelude.{ℕ, Bool, true, ◌&&◌, ◌==◌, List, Option, Some, None, filter, map, nat_le}
use Rattle.std.specs.Map.{keys_of}
use Rattle.merge_types.specs.declared.row_key.RowKey.{RowKey as Key}
use Rattle.merge_steps.specs.declared.site_moves.MoveEntry.{MoveEntry}

-- whether a generation comes before the end, where there is one
abbrev pub is_within : Option ℕ → ℕ → Bool
is_within None generation = true
is_within (Some to) generation = nat_le generation to

-- whether an entry is the site's, of a generation from the first one on, up to the end
abbrev pub is_in_walk : ℕ → ℕ → Option ℕ → MoveEntry → Bool
is_in_walk site first to entry = (entry.site == site) && (nat_le first entry.generation && is_within to entry.generation)

abbrev pub key_of_move : MoveEntry → Key
key_of_move entry = entry.key

-- the rows of these entries, by generation
abbrev pub keys_in_walk : ℕ → ℕ → Option ℕ → List (MoveEntry × Unit {0}) → List Key
keys_in_walk site first to entries = map key_of_move (filter (is_in_walk site first to) (keys_of entries))
