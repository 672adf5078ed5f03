-- One step of the loops over changed rows.
use Rattle.std.specs.Prelude.{◌≡◌, ◌<◌, ◌++◌, ◌+◌, ℕ, Option, suc, List, [], ◌∷◌, refl, drop, length}
use Rattle.std.specs.List.{zip}
use Rattle.std.proofs.Common.{arith, sym, ap, ◌∙◌, get_or}
use Rattle.std.proofs.lemmas.List.{at_drop_more}
use Rattle.merge_units.specs.declared.version.Version.{Version}
use Rattle.merge_table.specs.declared.edit.Edit.{Edit}
use Rattle.merge_table.specs.declared.edit.Edit.TheVariants.{Put, Take}
use Rattle.merge_gens.specs.declared.index.IndexEntry.{IndexEntry}
use Rattle.merge_model.specs.Tables.Keys.{row_at}
use Rattle.merge_steps.specs.Rows.{index_edits}
use Rattle.merge_types.specs.declared.row_key.RowKey.{RowKey as Key}
use Rattle.merge_units.specs.declared.site_row.PublisherRow.{PublisherRow}
use Rattle.merge_steps.specs.Working.{all_indexing, version_edits}

append-assoc : {X : Type 0} (xs ys zs : List X) → (xs ++ ys) ++ zs ≡ xs ++ (ys ++ zs)
append-assoc [] ys zs = refl
append-assoc {X = X} (x ∷ xs) ys zs = ap (λ (rest : List X). x ∷ rest) (append-assoc xs ys zs)

abbrev Change : Type 0
Change = Edit IndexEntry (Unit {0})

pub indexing-step : (rows : List (Key × PublisherRow)) (done new more all : List Change) (versions : List (Key × Version)) (generations : List ℕ) (n : ℕ) (one : Key × Version) (found : Option PublisherRow)
    → done ++ all_indexing rows (zip (drop n versions) (drop n generations)) ≡ all → n < length versions → length versions ≡ length generations → one ≡ get_or versions n one
    → found ≡ row_at rows one.0 → more ≡ index_edits found one.0 (get_or generations n 0) → new ≡ done ++ more
    → new ++ all_indexing rows (zip (drop (n + 1) versions) (drop (n + 1) generations)) ≡ all
indexing-step rows done new more all versions generations n one found held less same is old made then =
    let rest : List Change = all_indexing rows (zip (drop (n + 1) versions) (drop (n + 1) generations)) in
    let first : all_indexing rows (zip (drop n versions) (drop n generations)) ≡ index_edits (row_at rows one.0) one.0 (get_or generations n 0) ++ rest =
    at_drop_more (λ (xs : List (Key × Version)). all_indexing rows (zip xs (drop n generations))) versions n one less
    ∙ ap (λ (x : Key × Version). all_indexing rows (zip (x ∷ drop (n + 1) versions) (drop n generations))) (sym is)
    ∙ at_drop_more (λ (ns : List ℕ). all_indexing rows (zip (one ∷ drop (n + 1) versions) ns)) generations n 0 (omega (arith, less, same)) in
    ap (λ (xs : List Change). xs ++ rest) then ∙ append-assoc done more rest ∙ ap (λ (xs : List Change). done ++ (xs ++ rest)) (made ∙ ap (λ (o : Option PublisherRow). index_edits o one.0 (get_or generations n 0)) old) ∙ ap (λ (xs : List Change). done ++ xs) (sym first) ∙ held

pub versions-step : (done new all : List (Edit Key PublisherRow)) (rest left : List (Key × Version)) (generations : List ℕ) (n : ℕ) (key : Key) (version : Version)
    → done ++ version_edits rest (drop n generations) ≡ all → n + length rest ≡ length generations → rest ≡ (key, version) ∷ left → new ≡ done ++ Put key (record { version = version; changed = get_or generations n 0 }) ∷ []
    → (new ++ version_edits left (drop (n + 1) generations) ≡ all) × ((n + 1) + length left ≡ length generations)
versions-step done new all rest left generations n key version held counts is then =
    let more : suc (length left) ≡ length rest = sym (ap (λ (xs : List (Key × Version)). length xs) is) in
    let first : version_edits rest (drop n generations) ≡ Put key (record { version = version; changed = get_or generations n 0 }) ∷ version_edits left (drop (n + 1) generations) =
    ap (λ (xs : List (Key × Version)). version_edits xs (drop n generations)) is
    ∙ at_drop_more (λ (ns : List ℕ). version_edits ((key, version) ∷ left) ns) generations n 0 (omega (arith, counts, more)) in (
      ap (λ (xs : List (Edit Key PublisherRow)). xs ++ version_edits left (drop (n + 1) generations)) then
          ∙ append-assoc done (Put key (record { version = version; changed = get_or generations n 0 }) ∷ []) (version_edits left (drop (n + 1) generations))
          ∙ ap (λ (xs : List (Edit Key PublisherRow)). done ++ xs) (sym first) ∙ held,
      omega (arith, counts, more),
    )
