-- The order of rows and sites, and which moves leave a partition.
use Rattle.std.specs.Prelude.{Bool, false, true, ◌≡◌, ℕ}
use Rattle.std.proofs.Common.{ap}
use Rattle.std.specs.declared.cmp.Ordering.{Ordering}
use Rattle.std.specs.declared.cmp.Ordering.TheVariants.{Equal}
use Rattle.std.specs.Ordering.{nat_cmp, ordering_then}
use Rattle.std.proofs.lemmas.Map.Lookups.{exact_unsigned, exact_pairs}
use Rattle.merge_types.specs.RowKeys.{key_cmp, key_exact}
use Rattle.merge_types.specs.declared.row_key.RowKey.{RowKey}
use Rattle.merge_gens.specs.declared.moves.MoveKind.{MoveKind}
use Rattle.merge_gens.specs.declared.moves.MoveKind.TheVariants.{Entered, Left}
use Rattle.merge_gens.specs.declared.moves.RowSite.{RowSite}

-- by row, then by site
abbrev pub row_site_cmp : RowSite → RowSite → Ordering
row_site_cmp a b = ordering_then (key_cmp a.key b.key) (nat_cmp a.site b.site)

abbrev pub place_from : RowKey × ℕ → RowSite
place_from p = record { key = p.0; site = p.1 }

-- places that compare as equal are the same
pub row_site_exact : (a b : RowSite) → row_site_cmp a b ≡ Equal → a ≡ b
row_site_exact a b tied = ap place_from (exact_pairs key_cmp nat_cmp key_exact exact_unsigned (a.key, a.site) (b.key, b.site) tied)

abbrev pub is_left : MoveKind → Bool
is_left Entered = false
is_left Left = true
