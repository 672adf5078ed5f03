-- Lists of index entries.
use Rattle.std.proofs.Common.{◌≡◌, ◌+◌, ◌*◌, ◌≤◌, length, arith, List, [], ◌∷◌, refl, ap, ◌∙◌}
use Rattle.std.specs.FinSet as set
use Rattle.std.specs.Cmp.{IsTotalOrder, then_total, on_total, nat_cmp_total}
use Rattle.std.proofs.lemmas.Map.Entries.{length-keys_of}
use Rattle.std.specs.List.Sorted.{IsStrictlySortedBy}
use Rattle.std.specs.Map.{keys_of}
use Rattle.merge_types.specs.RowKeys.{key_cmp}
use Rattle.merge_types.specs.declared.row_key.RowKey.{RowKey}
use Rattle.merge_table.specs.declared.edit.Edit.{Edit}
use Rattle.merge_table.specs.declared.edit.Edit.TheVariants.{Put, Take}
use Rattle.merge_table.specs.Edits.{rows_after, rows_after_all}
use Rattle.merge_gens.specs.declared.index.IndexEntry.{IndexEntry}
use Rattle.merge_gens.specs.Entries.{entry_cmp, entry_exact}
use Rattle.merge_gens.specs.Index.{IsCompact, entries_after, entries_after_all}
use Rattle.merge_table.proofs.Sorted.{sorted_after}
use Rattle.merge_gens.proofs.Sets.{len-sorted, set_put, set_take}

pub key_total : IsTotalOrder key_cmp
key_total = then_total (on_total (λ (k : RowKey). k.article) nat_cmp_total) (on_total (λ (k : RowKey). k.row.0) nat_cmp_total)

pub entry_total : IsTotalOrder entry_cmp
entry_total = then_total (on_total (λ (e : IndexEntry). e.generation) nat_cmp_total) (on_total (λ (e : IndexEntry). e.key) key_total)

-- an index's rows: entries with nothing at each
abbrev pub Rows : Type 0
Rows = List (IndexEntry × Unit {0})

abbrev pub AreSorted : Rows → Type 0
AreSorted rows = IsStrictlySortedBy entry_cmp (keys_of rows)

abbrev pub entries_of : Rows → set.FinSet entry_cmp
entries_of rows = set.from_list (keys_of rows)

set_edited : (rows : Rows) (edit : Edit IndexEntry (Unit {0})) → AreSorted rows → entries_of (rows_after entry_cmp rows edit) ≡ entries_after (entries_of rows) edit
set_edited rows (Put entry u) sorted = set_put entry_cmp entry_total entry_exact entry u rows
set_edited rows (Take entry) sorted = set_take entry_cmp entry_total entry_exact entry rows sorted

-- where slots are at most twice the rows, they are at most twice the entries
pub compact_rows : (rows : Rows) (slots : List IndexEntry) → AreSorted rows → length slots ≤ 2 * length rows → IsCompact (record { entries = entries_of rows; slots = slots })
compact_rows rows slots sorted few =
    let all = len-sorted entry_cmp entry_total (keys_of rows) sorted in
    omega (arith, all, length-keys_of rows, few)

-- the set of entries changes by each change
pub set_by_all : (rows : Rows) (edits : List (Edit IndexEntry (Unit {0}))) → AreSorted rows → entries_of (rows_after_all entry_cmp rows edits) ≡ entries_after_all (entries_of rows) edits
set_by_all rows [] sorted = refl
set_by_all rows (edit ∷ edits) sorted =
    set_by_all (rows_after entry_cmp rows edit) edits (sorted_after entry_cmp entry_total rows edit sorted)
    ∙ ap (λ entries. entries_after_all entries edits) (set_edited rows edit sorted)
