-- The mappings that a join or a purge forgets.
use Rattle.std.specs.Prelude.{◌≡◌, ℕ, Bool, List}
use Rattle.merge_table.specs.Edits.{rows_after_all}
use Rattle.merge_table.specs.declared.edit.Edit.{Edit}
use Rattle.merge_table.specs.declared.edit.Edit.TheVariants.{Take}
use Rattle.merge_types.specs.RowKeys.{key_cmp}
use Rattle.merge_types.specs.declared.row_key.RowKey.{RowKey as Key}
use Rattle.merge_gens.specs.declared.moves.Mapping.{Mapping}
use Rattle.merge_gens.specs.declared.moves.RowSite.{RowSite}
use Rattle.merge_gens.specs.Index.{entries_after_all}
use Rattle.merge_pub.specs.Held.{Held, publication_of, tables_of}
use Rattle.merge_steps.specs.Indexed.{AreIndexed}
use Rattle.merge_steps.specs.Keeps.{KeepsRules}
use Rattle.merge_steps.specs.LiveRows.{live_pairs}
use Rattle.merge_steps.specs.Rows.{has_left_at}
use Rattle.merge_steps.specs.Working.{AreApart, places_of}
use Rattle.merge_pub.specs.declared.forgetting.Forgetting.{Forgetting}

abbrev pub place_at : ℕ → Key → RowSite
place_at site key = record { key = key; site = site }

-- whether the last move of a row says that it left the site's partition
abbrev pub is_left_at : List (RowSite × Mapping) → ℕ → Key → Bool
is_left_at mappings site key = has_left_at mappings (place_at site key)

abbrev pub take_at : ℕ → Key → Edit RowSite Mapping
take_at site key = Take (place_at site key)

-- where rows, mappings and what is remembered of sites change like this, all is sound that was: the same rows live, each row is
-- found by its generation, each mapping is edited once, and the rules are kept
pub record LeavesAll (h : Held) (edits : Forgetting) : Type 0 where
  pub live : live_pairs (rows_after_all key_cmp h.rows.rows edits.rows) ≡ live_pairs h.rows.rows
  pub indexed : AreIndexed (rows_after_all key_cmp h.rows.rows edits.rows) (entries_after_all h.changed.entries edits.entries)
  pub apart : AreApart (places_of edits.mappings)
  pub keeps : KeepsRules (publication_of h) (record (tables_of h) { rows = rows_after_all key_cmp h.rows.rows edits.rows })
