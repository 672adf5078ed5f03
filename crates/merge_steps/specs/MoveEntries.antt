-- The entries by which a site's mappings are found by their generations, and their order.
use Rattle.std.specs.Prelude.{◌≡◌, ℕ}
use Rattle.std.proofs.Common.{ap}
use Rattle.std.specs.declared.cmp.Ordering.{Ordering}
use Rattle.std.specs.declared.cmp.Ordering.TheVariants.{Equal}
use Rattle.std.specs.Ordering.{nat_cmp, ordering_then}
use Rattle.std.proofs.lemmas.Map.Lookups.{exact_unsigned, exact_pairs}
use Rattle.merge_types.specs.RowKeys.{key_cmp, key_exact}
use Rattle.merge_types.specs.declared.row_key.RowKey.{RowKey as Key}
use Rattle.merge_gens.specs.declared.moves.RowSite.{RowSite}
use Rattle.merge_steps.specs.declared.site_moves.MoveEntry.{MoveEntry}

-- by site, then by generation, then by row
abbrev pub move_entry_cmp : MoveEntry → MoveEntry → Ordering
move_entry_cmp a b = ordering_then (nat_cmp a.site b.site) (ordering_then (nat_cmp a.generation b.generation) (key_cmp a.key b.key))

abbrev within_cmp : ℕ × Key → ℕ × Key → Ordering
within_cmp a b = ordering_then (nat_cmp a.0 b.0) (key_cmp a.1 b.1)

abbrev entry_from : ℕ × (ℕ × Key) → MoveEntry
entry_from p = record { site = p.0; generation = p.1.0; key = p.1.1 }

-- entries that compare as equal are the same
pub move_entry_exact : (a b : MoveEntry) → move_entry_cmp a b ≡ Equal → a ≡ b
move_entry_exact a b tied = ap entry_from (exact_pairs nat_cmp within_cmp exact_unsigned (exact_pairs nat_cmp key_cmp exact_unsigned key_exact)
    (a.site, (a.generation, a.key)) (b.site, (b.generation, b.key)) tied)

-- the entry of a mapping
abbrev pub move_entry : RowSite → ℕ → MoveEntry
move_entry place generation = record { site = place.site; generation = generation; key = place.key }
