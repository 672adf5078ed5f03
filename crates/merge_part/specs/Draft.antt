-- Rows and marks as a draft leaves them.
use Rattle.std.specs.Prelude.{List, map, ◌==◌, if◌then◌else◌, Option, Some, None, unwrap_or}
use Rattle.std.specs.Map.{lookup}
use Rattle.std.specs.BTreeMap.{is_at}
use Rattle.merge_table.specs.declared.edit.Edit.{Edit}
use Rattle.merge_table.specs.declared.edit.Edit.TheVariants.{Put, Take}
use Rattle.merge_table.specs.Edits.{rows_after_all}
use Rattle.merge_types.specs.declared.row_key.RowKey.{RowKey}
use Rattle.merge_part.specs.declared.sites.Sites.{Sites}
use Rattle.merge_part.specs.declared.content.Content.{Content}
use Rattle.merge_types.specs.RowKeys.{key_cmp}

abbrev pub found : {X : Type 0} → List (RowKey × X) → RowKey → Option X
found entries key = lookup (is_at (key_cmp key)) entries

-- what a row holds after the changes
abbrev pub rows_in : List (RowKey × Content) → List (Edit RowKey Content) → RowKey → Option Content
rows_in held edits key = found (rows_after_all key_cmp held edits) key

abbrev pub no_sites : Sites
no_sites = record { 0 = 0 }

-- the partitions that a row is in
abbrev pub marks_of : List (RowKey × Sites) → RowKey → Sites
marks_of held key = unwrap_or (found held key) no_sites

-- the partitions that a row is in after these have taken the place of what is held
abbrev pub marks_in : List (RowKey × Sites) → List (RowKey × Sites) → RowKey → Sites
marks_in held drafted key = unwrap_or (found drafted key) (marks_of held key)

-- the change after which the row holds this
abbrev pub edit_to : RowKey → Option Content → Edit RowKey Content
edit_to key None = Take key
edit_to key (Some content) = Put key content

-- the change after which the row has these marks, of which none is held
abbrev pub mark_edit : RowKey → Sites → Edit RowKey Sites
mark_edit key sites = if sites.0 == 0 then Take key else Put key sites

abbrev pub mark_edits : List (RowKey × Sites) → List (Edit RowKey Sites)
mark_edits drafted = map (λ entry. mark_edit entry.0 entry.1) drafted
