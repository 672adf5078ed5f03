-- The version that a local change gives its row.
use Rattle.std.specs.Option.{option_to_list}
use Rattle.std.specs.Prelude.{◌≡◌, ◌⊎◌, ℕ, Err, List, None, Option, Some, length, map, option_map}
use Rattle.merge_types.specs.declared.changes.Change.{Change}
use Rattle.merge_types.specs.declared.identifiers.Dot.{Dot}
use Rattle.merge_types.specs.declared.row_key.RowKey.{RowKey as Key}
use Rattle.merge_types.specs.declared.values.Value.{Value}
use Rattle.merge_units.specs.declared.site_row.PublisherRow.{PublisherRow}
use Rattle.merge_units.specs.declared.version.Version.{Version}
use Rattle.merge_schema.specs.declared.publication.Publication.{Publication}
use Rattle.merge_batch.specs.LocalChanges.{change_refusal, key_of, version_after}
use Rattle.merge_batch.specs.declared.refusal.Refusal.{Refusal}
use Rattle.merge_ident.specs.Holders.{Holder}
use Rattle.merge_ident.specs.declared.grants.Grant.{Grant}
use Rattle.merge_model.specs.Tables.Keys.{row_at}
use Rattle.merge_steps.specs.Drawing.{Draws, Gives}

-- the version of a row that is held
abbrev pub held_version : List (Key × PublisherRow) → Key → Option Version
held_version rows key = option_map (λ (row : PublisherRow). row.version) (row_at rows key)

-- the version held of the row that a change is about
abbrev pub changed_version : Dot → Change → List (Key × PublisherRow) → Option Version
changed_version dot change rows = held_version rows (key_of dot change)

-- why these rows refuse a change
abbrev pub rows_refusal : Publication → Dot → Change → List (Key × PublisherRow) → Option Refusal
rows_refusal publication dot change rows = change_refusal publication dot change (changed_version dot change rows) (length rows)

-- the version that the row of a change gets
abbrev pub versions_after : Publication → Dot → Value → Change → List (Key × PublisherRow) → List (Key × Version)
versions_after publication dot identity change rows =
    map (λ (version : Version). (key_of dot change, version)) (option_to_list (version_after publication dot identity change (changed_version dot change rows)))

-- why a change is refused: by the rows, or behind them where its identity value is drawn, or for want of memory where both let it pass
abbrev pub Refuses : Publication → Dot → Change → List (Key × PublisherRow) → List Grant → List (ℕ × Holder) → Refusal → Type 0
Refuses publication dot change rows grants held refusal = (rows_refusal publication dot change rows ≡ Some refusal)
    ⊎ ((rows_refusal publication dot change rows ≡ None) × Gives (Draws publication change grants held) grants held (Err refusal))
