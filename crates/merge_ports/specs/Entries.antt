-- The entries of a store, and what edits make of them.
use Rattle.std.specs.Prelude.{◌≡◌, ℕ, List, map, ◌==◌, ◌&&◌, nat_eq}
use Rattle.std.specs.declared.option.Option.{Option}
use Rattle.std.specs.declared.option.Option.TheVariants.{None, Some}
use Rattle.std.specs.declared.cmp.Ordering.{Ordering}
use Rattle.std.specs.declared.cmp.Ordering.TheVariants.{Equal}
use Rattle.std.proofs.Common.{ap}
use Rattle.std.proofs.lemmas.Map.Lookups.{exact_pairs, exact_unsigned, exact_bytes}
use Rattle.std.specs.Option.{option_map}
use Rattle.std.specs.Ordering.{nat_cmp, ordering_then, is_eq}
use Rattle.std.specs.Cmp.Lexicographic.{slice_cmp, pointwise, texts_ties}
use Rattle.std.specs.Cmp.{both_tied, unsigned_ties}
use Rattle.merge_table.specs.declared.edit.Edit.{Edit}
use Rattle.merge_table.specs.declared.edit.Edit.TheVariants.{Put, Take}
use Rattle.merge_table.specs.Edits.{rows_after_all}
use Rattle.merge_ports.specs.declared.entry.EntryKey.{EntryKey}
use Rattle.merge_ports.specs.declared.entry.EntryEdit.{EntryEdit}

-- by table, then by the bytes of the key
abbrev pub entry_cmp : EntryKey → EntryKey → Ordering
entry_cmp a b = ordering_then (nat_cmp a.table b.table) (slice_cmp nat_cmp a.key b.key)

abbrev key_from : ℕ × List ℕ → EntryKey
key_from p = record { table = p.0; key = p.1 }

-- keys that compare as equal are the same
pub entry_exact : (x y : EntryKey) → entry_cmp x y ≡ Equal → x ≡ y
entry_exact x y tied = ap key_from (exact_pairs nat_cmp (slice_cmp nat_cmp) exact_unsigned exact_bytes (x.table, x.key) (y.table, y.key) tied)

-- `==` of keys says whether they compare as equal
pub entry_ties : (x y : EntryKey) → ((x.table == y.table) && pointwise nat_eq x.key y.key) ≡ is_eq (entry_cmp x y)
entry_ties x y = both_tied (x.table == y.table) (pointwise nat_eq x.key y.key) (nat_cmp x.table y.table) (slice_cmp nat_cmp x.key y.key) (unsigned_ties x.table y.table) (texts_ties x.key y.key)

-- the entries of a store, each with its value
abbrev pub Map : Type 0
Map = List (EntryKey × List ℕ)

abbrev pub change_at : EntryKey → Option (List ℕ) → Edit EntryKey (List ℕ)
change_at key None = Take key
change_at key (Some value) = Put key value

-- an edit as a change of a table of entries
abbrev pub change_of : EntryEdit → Edit EntryKey (List ℕ)
change_of edit = change_at (record { table = edit.table; key = edit.key }) edit.value

-- the entries after edits, in their order
abbrev pub map_after : List EntryEdit → Map → Map
map_after edits entries = rows_after_all entry_cmp entries (map change_of edits)

-- what a keeper tells after edits, where it tells its map
abbrev pub told_after : List EntryEdit → Option Map → Option Map
told_after edits told = option_map (map_after edits) told
