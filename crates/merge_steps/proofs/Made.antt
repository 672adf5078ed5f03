-- What a step's edits make of the tables is what the definitions say.
use Rattle.std.specs.Prelude.{◌≡◌, ◌++◌, ◌+◌, ℕ, zero, suc, List, [], ◌∷◌, Bool, true, false, Option, Some, None, refl, drop, length, map, take}
use Rattle.std.specs.List.{fold, zip}
use Rattle.std.proofs.Common.{arith, sym, ap, ◌∙◌, subst}
use Rattle.merge_types.specs.declared.identifiers.Moment.{Moment}
use Rattle.merge_units.specs.declared.version.Version.{Version}
use Rattle.merge_table.specs.declared.edit.Edit.{Edit}
use Rattle.merge_table.specs.declared.edit.Edit.TheVariants.{Put, Take}
use Rattle.merge_table.specs.Edits.{rows_after_all}
use Rattle.merge_gens.specs.Book.{book_after_entries}
use Rattle.merge_model.specs.Publisher.Entries.{Entries, with_entries, with_move}
use Rattle.merge_model.specs.Tables.Keys.{drop_row_site, put_row}
use Rattle.merge_gens.specs.Moves.{row_site_cmp}
use Rattle.merge_steps.specs.Rows.{mapping_edits, put_edit}
use Rattle.merge_types.specs.declared.row_key.RowKey.{RowKey as Key}
use Rattle.merge_gens.specs.declared.moves.Mapping.{Mapping}
use Rattle.merge_gens.specs.declared.moves.MoveKind.{MoveKind}
use Rattle.merge_units.specs.declared.site_row.PublisherRow.{PublisherRow}
use Rattle.merge_model.specs.Tables.{PublisherTables}
use Rattle.merge_gens.specs.declared.moves.RowSite.{RowSite}

takes : (gone : List RowSite) (mappings : List (RowSite × Mapping)) → rows_after_all row_site_cmp mappings (map Take gone) ≡ fold drop_row_site mappings gone
takes [] mappings = refl
takes (place ∷ gone) mappings = takes gone (drop_row_site mappings place)

-- the mappings' edits make what the entries and the returned rows do
pub mappings-made : (entries : List ((RowSite × MoveKind) × ℕ)) (gone : List RowSite) (mappings : List (RowSite × Mapping))
    → rows_after_all row_site_cmp mappings (map put_edit entries ++ map Take gone) ≡ fold drop_row_site (fold with_move mappings entries) gone
mappings-made [] gone mappings = takes gone mappings
mappings-made (entry ∷ entries) gone mappings = mappings-made entries gone (with_move mappings entry)

abbrev pub entries_with : List ℕ → List Key → List (RowSite × MoveKind) → List RowSite → Entries
entries_with generations changed moves gone = record {
  changed = zip changed (take (length changed) generations);
  moved = zip moves (drop (length changed) generations);
  gone = gone;
}

pub zip-length : {X : Type 0} (xs : List X) (ns : List ℕ) → length ns ≡ length xs → length (zip xs ns) ≡ length xs
zip-length [] ns same = refl
zip-length (x ∷ xs) [] same = absurd (omega (arith, same))
zip-length (x ∷ xs) (n ∷ ns) same = ap (λ (k : ℕ). suc k) (zip-length xs ns (omega (arith, same)))

-- one row, with the first generation, and its moves with the others
pub row-made : (key : Key) (version : Version) (moves : List (RowSite × MoveKind)) (gone : List RowSite) (first : ℕ) (rest : List ℕ) (p : PublisherTables) → length rest ≡ length moves
    → with_entries (entries_with (first ∷ rest) (key ∷ []) moves gone) ((key, version) ∷ []) p ≡ record p {
      rows = put_row p.rows key (record { version = version; changed = first });
      mappings = rows_after_all row_site_cmp p.mappings (mapping_edits moves rest gone);
      gens = book_after_entries p.gens (1 + length moves) p.latest;
    }
row-made key version moves gone first rest p same =
    ap (λ (n : ℕ). (let made : PublisherTables = record p { rows = put_row p.rows key (record { version = version; changed = first }); mappings = fold drop_row_site (fold with_move p.mappings (zip moves rest)) gone; gens = book_after_entries p.gens (1 + n) p.latest } in made)) (zip-length moves rest same)
    ∙ ap (λ (ms : List (RowSite × Mapping)). (let made : PublisherTables = record p { rows = put_row p.rows key (record { version = version; changed = first }); mappings = ms; gens = book_after_entries p.gens (1 + length moves) p.latest } in made)) (sym (mappings-made (zip moves rest) gone p.mappings))
