-- A purge by its parts, over all that a publisher holds.
use Rattle.std.specs.Prelude.{◌≡◌, ◌&&◌, ℕ, Bool, true, false, not, List, [], count_by, filter, length, nat_lt, refl}
use Rattle.std.specs.List.Sorted.{IsStrictlySortedBy}
use Rattle.std.specs.Map.{keys_of}
use Rattle.std.specs.Ordering.{nat_cmp}
use Rattle.std.proofs.Common.{sym, ap, ◌∙◌, subst}
use Rattle.merge_types.specs.RowKeys.{key_cmp}
use Rattle.merge_types.specs.declared.identifiers.Moment.{Moment}
use Rattle.merge_types.specs.declared.row_key.RowKey.{RowKey as Key}
use Rattle.merge_table.specs.Edits.{rows_after_all, takes_of}
use Rattle.merge_table.specs.declared.edit.Edit.{Edit}
use Rattle.merge_table.proofs.Takes.{filter_is_takes}
use Rattle.merge_units.specs.Version.{is_live}
use Rattle.merge_units.specs.declared.site_row.PublisherRow.{PublisherRow}
use Rattle.merge_gens.specs.Book.{book_after_purge}
use Rattle.merge_gens.specs.Index.{entries_after_all}
use Rattle.merge_gens.specs.Moves.{row_site_cmp}
use Rattle.merge_gens.specs.declared.closings.Closing.{Closing}
use Rattle.merge_gens.specs.declared.index.IndexEntry.{IndexEntry}
use Rattle.merge_gens.specs.declared.moves.Mapping.{Mapping}
use Rattle.merge_gens.specs.declared.moves.RowSite.{RowSite}
use Rattle.merge_gens.specs.declared.sites.SiteState.{SiteState}
use Rattle.merge_schema.specs.declared.publication.Publication.{Publication}
use Rattle.merge_model.specs.Publisher.{later}
use Rattle.merge_model.specs.Publisher.PublisherPurge.{cutoff, purge}
use Rattle.merge_model.specs.Tables.{PublisherTables}
use Rattle.merge_model.specs.declared.outcome.Forgotten.{Forgotten}
use Rattle.merge_model.proofs.Publishers.Sorted.{key_total, row_site_total}
use Rattle.merge_pub.specs.Forgetting.{LeavesAll}
use Rattle.merge_pub.specs.Held.{Held, IsSound, publication_of, tables_of}
use Rattle.merge_steps.specs.Indexed.{AreIndexed}
use Rattle.merge_steps.specs.Keeps.{KeepsRules}
use Rattle.merge_steps.specs.LiveRows.{live_pairs}
use Rattle.merge_steps.specs.Purging.{gone_entries, is_old_at, is_old_mapping, is_old_row}
use Rattle.merge_steps.specs.Working.{AreApart, places_of}
use Rattle.merge_pub.specs.declared.forgetting.Forgetting.{Forgetting}
use Rattle.merge_pub.proofs.Purged.{index-kept, live-kept, purge-keeps, takes-count, takes-of-apart}

abbrev stays : List Closing → Moment → Key × PublisherRow → Bool
stays closings cut row = not (is_old_row closings cut row)

abbrev stays_mapped : List Closing → Moment → RowSite × Mapping → Bool
stays_mapped closings cut entry = not (is_old_mapping closings cut entry)

dead-if : (a b : Bool) → not (not a && b) ≡ false → a ≡ false
dead-if true b gone = absurd cc
dead-if false b gone = refl

-- what a purge takes leaves all else
pub leaves-purge : (h now : Held) → h ≡ now → IsSound h → IsStrictlySortedBy key_cmp (keys_of h.rows.rows) → IsStrictlySortedBy row_site_cmp (keys_of h.mappings.rows) → (cut : Moment) (edits : Forgetting)
    → edits.rows ≡ takes_of (stays (tables_of now).gens.closings cut) (tables_of now).rows → edits.entries ≡ gone_entries (is_old_row (tables_of now).gens.closings cut) (tables_of now).rows
    → edits.mappings ≡ takes_of (stays_mapped (tables_of now).gens.closings cut) (tables_of now).mappings → LeavesAll now edits
leaves-purge h now same sound sorted ordered cut edits rows entries mappings =
    let sound' : IsSound now = subst IsSound same sound in
    let sorted' : IsStrictlySortedBy key_cmp (keys_of now.rows.rows) = subst (λ (x : Held). IsStrictlySortedBy key_cmp (keys_of x.rows.rows)) same sorted in
    let ordered' : IsStrictlySortedBy row_site_cmp (keys_of now.mappings.rows) = subst (λ (x : Held). IsStrictlySortedBy row_site_cmp (keys_of x.mappings.rows)) same ordered in
    let keep : Key × PublisherRow → Bool = stays now.gens.book.closings cut in
    let left : rows_after_all key_cmp now.rows.rows edits.rows ≡ filter keep now.rows.rows = ap (rows_after_all key_cmp now.rows.rows) rows ∙ filter_is_takes key_cmp key_total keep now.rows.rows sorted' in
    record {
      live = ap live_pairs left ∙ live-kept keep (λ row gone. dead-if (is_live row.1.version.body) (is_old_at now.gens.book.closings cut row.1.changed) gone) now.rows.rows;
      indexed =
          subst (λ (rs : List (Key × PublisherRow)). AreIndexed rs (entries_after_all now.changed.entries edits.entries)) (sym left)
          (subst (λ (es : List (Edit IndexEntry (Unit {0}))). AreIndexed (filter keep now.rows.rows) (entries_after_all now.changed.entries es)) (sym entries)
          (index-kept (is_old_row now.gens.book.closings cut) now.rows.rows now.changed.entries sorted' sound'.indexed));
      apart = subst (λ (es : List (Edit RowSite Mapping)). AreApart (places_of es)) (sym mappings) (takes-of-apart (stays_mapped now.gens.book.closings cut) now.mappings.rows ordered');
      keeps = subst (λ (rs : List (Key × PublisherRow)). KeepsRules (publication_of now) (record (tables_of now) { rows = rs })) (sym left) (purge-keeps (publication_of now) (tables_of now) keep sound'.keeps);
    }

-- the tables after the edits
pub purge-drafted : (h now : Held) → h ≡ now → IsStrictlySortedBy key_cmp (keys_of h.rows.rows) → IsStrictlySortedBy row_site_cmp (keys_of h.mappings.rows) → (latest cut : Moment) (done : PublisherTables) (row_edits : List (Edit Key PublisherRow)) (mapping_edits : List (Edit RowSite Mapping)) (site_edits : List (Edit ℕ SiteState))
    → row_edits ≡ takes_of (stays (tables_of now).gens.closings cut) (tables_of now).rows → mapping_edits ≡ takes_of (stays_mapped (tables_of now).gens.closings cut) (tables_of now).mappings → site_edits ≡ []
    → done ≡ record (tables_of now) { latest = latest; rows = rows_after_all key_cmp (tables_of now).rows row_edits; mappings = rows_after_all row_site_cmp (tables_of now).mappings mapping_edits; sites = rows_after_all nat_cmp (tables_of now).sites site_edits }
    → done ≡ record (tables_of now) { latest = latest; rows = filter (stays (tables_of now).gens.closings cut) (tables_of now).rows; mappings = filter (stays_mapped (tables_of now).gens.closings cut) (tables_of now).mappings }
purge-drafted h now same sorted ordered latest cut done row_edits mapping_edits site_edits rows mappings sites is =
    let sorted' : IsStrictlySortedBy key_cmp (keys_of now.rows.rows) = subst (λ (x : Held). IsStrictlySortedBy key_cmp (keys_of x.rows.rows)) same sorted in
    let ordered' : IsStrictlySortedBy row_site_cmp (keys_of now.mappings.rows) = subst (λ (x : Held). IsStrictlySortedBy row_site_cmp (keys_of x.mappings.rows)) same ordered in
    let left = ap (rows_after_all key_cmp now.rows.rows) rows ∙ filter_is_takes key_cmp key_total (stays now.gens.book.closings cut) now.rows.rows sorted' in
    let mapped = ap (rows_after_all row_site_cmp now.mappings.rows) mappings ∙ filter_is_takes row_site_cmp row_site_total (stays_mapped now.gens.book.closings cut) now.mappings.rows ordered' in
    is
    ∙ ap (λ (rs : List (Key × PublisherRow)). (let q : PublisherTables = record (tables_of now) { latest = latest; rows = rs; mappings = rows_after_all row_site_cmp now.mappings.rows mapping_edits; sites = rows_after_all nat_cmp now.sites.rows site_edits } in q)) left
    ∙ ap (λ (ms : List (RowSite × Mapping)). (let q : PublisherTables = record (tables_of now) { latest = latest; rows = filter (stays now.gens.book.closings cut) now.rows.rows; mappings = ms; sites = rows_after_all nat_cmp now.sites.rows site_edits } in q)) mapped
    ∙ ap (λ (es : List (Edit ℕ SiteState)). (let q : PublisherTables = record (tables_of now) { latest = latest; rows = filter (stays now.gens.book.closings cut) now.rows.rows; mappings = filter (stays_mapped now.gens.book.closings cut) now.mappings.rows; sites = rows_after_all nat_cmp now.sites.rows es } in q)) sites

abbrev counted : ℕ → ℕ → ℕ → Forgotten
counted rows mappings generations = record { tombstones = rows; mappings = mappings; generations = generations }

-- and how much it is
pub purge-counted : (p : PublisherTables) (cut : Moment) (rows mappings generations : ℕ) (row_edits : List (Edit Key PublisherRow)) (mapping_edits : List (Edit RowSite Mapping))
    → row_edits ≡ takes_of (stays p.gens.closings cut) p.rows → mapping_edits ≡ takes_of (stays_mapped p.gens.closings cut) p.mappings → rows ≡ length row_edits → mappings ≡ length mapping_edits
    → generations ≡ count_by (λ (closing : Closing). nat_lt closing.moment.0 cut.0) p.gens.closings
    → counted rows mappings generations ≡ counted (count_by (is_old_row p.gens.closings cut) p.rows) (count_by (is_old_mapping p.gens.closings cut) p.mappings) (count_by (λ (closing : Closing). nat_lt closing.moment.0 cut.0) p.gens.closings)
purge-counted p cut rows mappings generations row_edits mapping_edits are are' n m k =
    ap (λ (x : ℕ). counted x mappings generations) (n ∙ ap length are ∙ takes-count (is_old_row p.gens.closings cut) p.rows)
    ∙ ap (λ (x : ℕ). counted (count_by (is_old_row p.gens.closings cut) p.rows) x generations) (m ∙ ap length are' ∙ takes-count (is_old_mapping p.gens.closings cut) p.mappings)
    ∙ ap (λ (x : ℕ). counted (count_by (is_old_row p.gens.closings cut) p.rows) (count_by (is_old_mapping p.gens.closings cut) p.mappings) x) k

abbrev purged_at : PublisherTables → Moment → Moment → PublisherTables
purged_at p latest cut = record p {
  latest = latest;
  rows = filter (stays p.gens.closings cut) p.rows;
  mappings = filter (stays_mapped p.gens.closings cut) p.mappings;
  gens = book_after_purge p.gens cut;
}

abbrev forgotten_at : PublisherTables → Moment → Forgotten
forgotten_at p cut = counted (count_by (is_old_row p.gens.closings cut) p.rows) (count_by (is_old_mapping p.gens.closings cut) p.mappings) (count_by (λ (closing : Closing). nat_lt closing.moment.0 cut.0) p.gens.closings)

abbrev done_at : PublisherTables → Moment → Moment → PublisherTables × Forgotten
done_at p latest cut = (purged_at p latest cut, forgotten_at p cut)

pub purge-made : (publication : Publication) (now : Moment) (p mid done : PublisherTables) (latest cut : Moment) (told : Forgotten) → latest ≡ later now p.latest → cut ≡ cutoff publication (record p { latest = latest })
    → mid ≡ record p { latest = latest; rows = filter (stays p.gens.closings cut) p.rows; mappings = filter (stays_mapped p.gens.closings cut) p.mappings } → done ≡ record mid { gens = book_after_purge mid.gens cut } → told ≡ forgotten_at p cut
    → purge publication now p ≡ (done, told)
purge-made publication now p mid done latest cut told moment at is forgot tells =
    ap (λ (l : Moment). done_at p l (cutoff publication (record p { latest = l }))) (sym moment)
    ∙ ap (done_at p latest) (sym at)
    ∙ ap (λ (t : Forgotten). (let pair : PublisherTables × Forgotten = (purged_at p latest cut, t) in pair)) (sym tells)
    ∙ ap (λ (q : PublisherTables). (let pair : PublisherTables × Forgotten = (q, told) in pair)) (sym (forgot ∙ ap (λ (q : PublisherTables). (let r : PublisherTables = record q { gens = book_after_purge q.gens cut } in r)) is))
