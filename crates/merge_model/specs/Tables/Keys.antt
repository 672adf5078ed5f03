-- Rows by article and row, rows and sites, and lists of pairs by such keys.
use Rattle.std.specs.BTreeMap.{insert_entry, is_at}
use Rattle.std.specs.List.{list_any}
use Rattle.std.specs.Map.{lookup, remove_entry}
use Rattle.std.specs.Ordering.{nat_cmp}
use Rattle.std.specs.Prelude.{Bool, List, Option, ℕ, ◌&&◌, ◌==◌}
use Rattle.merge_types.specs.RowKeys.{key_cmp}
use Rattle.merge_types.specs.declared.row_key.RowKey.{RowKey as Key}
use Rattle.merge_gens.specs.Moves.{row_site_cmp}
use Rattle.merge_gens.specs.declared.moves.RowSite.{RowSite}

abbrev pub same_key : Key → Key → Bool
same_key a b = (a.row.0 == b.row.0) && (a.article == b.article)

abbrev pub has_key : List Key → Key → Bool
has_key keys key = list_any (same_key key) keys

-- the row of a key, the rows with one put in its place, and without one
abbrev pub row_at : {A : Type 0} → List (Key × A) → Key → Option A
row_at rows key = lookup (is_at (key_cmp key)) rows

abbrev pub put_row : {A : Type 0} → List (Key × A) → Key → A → List (Key × A)
put_row rows key row = insert_entry key_cmp rows key row

abbrev pub drop_row : {A : Type 0} → List (Key × A) → Key → List (Key × A)
drop_row rows key = remove_entry (is_at (key_cmp key)) rows

-- the same of rows and sites
abbrev pub at_row_site : {A : Type 0} → List (RowSite × A) → RowSite → Option A
at_row_site entries place = lookup (is_at (row_site_cmp place)) entries

abbrev pub put_row_site : {A : Type 0} → List (RowSite × A) → RowSite → A → List (RowSite × A)
put_row_site entries place entry = insert_entry row_site_cmp entries place entry

abbrev pub drop_row_site : {A : Type 0} → List (RowSite × A) → RowSite → List (RowSite × A)
drop_row_site entries place = remove_entry (is_at (row_site_cmp place)) entries

-- and of numbers
abbrev pub at_number : {A : Type 0} → List (ℕ × A) → ℕ → Option A
at_number entries number = lookup (is_at (nat_cmp number)) entries

abbrev pub put_number : {A : Type 0} → List (ℕ × A) → ℕ → A → List (ℕ × A)
put_number entries number entry = insert_entry nat_cmp entries number entry
