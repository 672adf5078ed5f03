-- What the edits of a step are.
use Rattle.std.specs.Prelude.{◌≡◌, ◌+◌, ℕ, Bool, true, List, length, take, drop, is_some}
use Rattle.std.specs.FinSet as set
use Rattle.merge_types.specs.declared.identifiers.Moment.{Moment}
use Rattle.merge_units.specs.declared.version.Version.{Version}
use Rattle.merge_table.specs.Edits.{rows_after_all}
use Rattle.merge_gens.specs.Book.{Book}
use Rattle.merge_gens.specs.Entries.{entry_cmp}
use Rattle.merge_gens.specs.Filling.{generations_of}
use Rattle.merge_gens.specs.declared.filling.Filling.{Filling}
use Rattle.merge_gens.specs.Index.{entries_after_all}
use Rattle.merge_gens.specs.Plan.{book_after_plan}
use Rattle.merge_table.specs.declared.edit.Edit.{Edit}
use Rattle.merge_schema.specs.Partition.{LiveRow}
use Rattle.merge_schema.specs.declared.publication.Publication.{Publication}
use Rattle.merge_part.specs.Moves.{AreMoves}
use Rattle.merge_part.specs.declared.change.Move.{Move}
use Rattle.merge_steps.specs.declared.step.Worked.{Worked}
use Rattle.merge_model.specs.Publisher.Entries.{Changing, changed_by}
use Rattle.std.specs.List.{AllByRecursion}
use Rattle.std.specs.List.Sorted.{IsStrictlySortedBy}
use Rattle.std.specs.Map.{keys_of}
use Rattle.merge_steps.specs.Indexed.{AreIndexed, AreMoved}
use Rattle.merge_steps.specs.Keeps.{FitsHere, RowFits}
use Rattle.merge_steps.specs.MoveEntries.{move_entry_cmp}
use Rattle.merge_steps.specs.declared.site_moves.MoveEntry.{MoveEntry}
use Rattle.merge_model.specs.Judge.{PublisherJudge}
use Rattle.merge_model.specs.Tables.Keys.{has_key}
use Rattle.merge_types.specs.RowKeys.{key_cmp}
use Rattle.merge_gens.specs.Moves.{row_site_cmp}
use Rattle.merge_resolve.specs.Priorities.{subscription_at}
use Rattle.merge_steps.specs.Rows.{has_left_at, mapping_edits}
use Rattle.merge_steps.specs.Working.{found_entries, keys_in, returns}
use Rattle.merge_types.specs.declared.row_key.RowKey.{RowKey as Key}
use Rattle.merge_gens.specs.declared.moves.Mapping.{Mapping}
use Rattle.merge_units.specs.declared.site_row.PublisherRow.{PublisherRow}
use Rattle.merge_model.specs.Tables.{PublisherTables}
use Rattle.merge_gens.specs.declared.moves.RowSite.{RowSite}

abbrev pub changing : List (Key × Version) → List Key → ℕ → Changing
changing versions acted site = record { versions = versions; acted = acted; uploader = site }

-- a judge that sees which rows left by these mappings
abbrev pub SeesLeft : PublisherJudge → List (RowSite × Mapping) → Type 0
SeesLeft judge mappings = (key : Key) (site : ℕ) → judge.has_left key site ≡ has_left_at mappings (record { key = key; site = site })

-- the uploader subscribes, where there is one
abbrev pub Subscribes : Publication → List Key → ℕ → Type 0
Subscribes publication acted site = (key : Key) → has_key acted key ≡ true → is_some (subscription_at publication site) ≡ true

-- the edits make of the rows, the mappings and the generations what the step does
unfoldable pub IsStep : Publication → Changing → List (Key × PublisherRow) → List (RowSite × Mapping) → Book → Moment → Worked → Type 0
IsStep publication changing rows mappings book latest w = (p : PublisherTables) (judge : PublisherJudge) → SeesLeft judge mappings
    → changed_by publication judge changing (record p { rows = rows; mappings = mappings; gens = book; latest = latest })
    ≡ record p { rows = rows_after_all key_cmp rows w.rows; mappings = rows_after_all row_site_cmp mappings w.mappings; gens = book_after_plan book w.gens; latest = latest }

-- what moves makes entries, behind those of the rows, and a row that comes back has left no more
abbrev pub mappings_edited : Publication → List LiveRow → Changing → Filling → List (RowSite × Mapping) → List Move → List (Edit RowSite Mapping)
mappings_edited publication before changing filling mappings moves =
    let entries = found_entries publication before changing moves in
    let count = length changing.versions in
    mapping_edits entries (drop count (generations_of filling (count + length entries))) (returns mappings (keys_in changing.versions) moves)

-- the edits of mappings are those of the moves
pub record EditsMappings (publication : Publication) (before after : List LiveRow) (changing : Changing) (filling : Filling) (mappings : List (RowSite × Mapping)) (edits : List (Edit RowSite Mapping)) : Type 0 where
  pub moves : List Move
  pub are : AreMoves publication before after moves
  pub edits_are : edits ≡ mappings_edited publication before changing filling mappings moves

-- the index follows the rows
unfoldable pub Indexes : List (Key × PublisherRow) → Worked → Type 0
Indexes rows w = (entries : set.FinSet entry_cmp) → AreIndexed rows entries → AreIndexed (rows_after_all key_cmp rows w.rows) (entries_after_all entries w.index)

-- the index of mappings follows these
unfoldable pub IndexesMoves : List (RowSite × Mapping) → Worked → Type 0
IndexesMoves mappings w = (entries : List (MoveEntry × Unit {0})) → IsStrictlySortedBy move_entry_cmp (keys_of entries) → AreMoved mappings entries
    → AreMoved (rows_after_all row_site_cmp mappings w.mappings) (rows_after_all move_entry_cmp entries w.moved)

-- the rows still fit, where the versions do
unfoldable pub KeepsFitting : Publication → List (Key × Version) → List (Key × PublisherRow) → Worked → Type 0
KeepsFitting publication versions rows w = (changes : ℕ) → AllByRecursion (RowFits publication changes) rows → AllByRecursion (FitsHere publication changes) versions
    → AllByRecursion (RowFits publication changes) (rows_after_all key_cmp rows w.rows)
