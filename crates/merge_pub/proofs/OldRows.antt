-- The tombstones that a purge takes are found by the generations of the rows' last changes.
use Rattle.std.specs.Prelude.{◌≡◌, ◌≤◌, ◌↔◌, ◌+◌, ◌&&◌, ℕ, Bool, true, false, not, List, [], ◌∷◌, Option, Some, None, Contains, refl, cond, filter, filter_map, if◌then◌else◌, is_some, map, option_map}
use Rattle.std.specs.BTreeMap.{is_at}
use Rattle.std.specs.List.{cons_option, list_any}
use Rattle.std.specs.List.Sorted.{IsStrictlySortedBy}
use Rattle.std.specs.Map.{keys_of}
use Rattle.std.proofs.Common.{arith, sym, ap, ◌∙◌, subst}
use Rattle.std.proofs.lemmas.Map.Made.{is_some-lookup}
use Rattle.merge_types.specs.RowKeys.{key_cmp, key_exact}
use Rattle.merge_types.specs.declared.identifiers.Moment.{Moment}
use Rattle.merge_types.specs.declared.row_key.RowKey.{RowKey as Key}
use Rattle.merge_table.specs.Edits.{takes_of}
use Rattle.merge_table.specs.declared.edit.Edit.{Edit}
use Rattle.merge_table.specs.declared.edit.Edit.TheVariants.{Take}
use Rattle.merge_units.specs.Version.{is_live}
use Rattle.merge_units.specs.declared.site_row.PublisherRow.{PublisherRow}
use Rattle.merge_gens.specs.Index.{AddsRowsBetween}
use Rattle.merge_gens.specs.declared.closings.Closing.{Closing}
use Rattle.merge_gens.specs.declared.index.IndexEntry.{IndexEntry}
use Rattle.merge_schema.proofs.ListMembers.{any_at, any_found}
use Rattle.merge_model.specs.Tables.Keys.{row_at}
use Rattle.merge_model.specs.Tables.{PublisherTables}
use Rattle.merge_model.proofs.Publishers.Sorted.{key_total}
use Rattle.merge_pub.specs.Held.{Held, tables_of}
use Rattle.merge_steps.specs.Indexed.{AreIndexed}
use Rattle.merge_steps.specs.OldSpans.{HasChanged, IsSpan}
use Rattle.merge_steps.specs.Purging.{gone_at, gone_entries, gone_entry, gone_if, is_old_at, is_old_row, take_entry, take_row}
use Rattle.merge_steps.specs.declared.old_spans.Span.{Span}
use Rattle.merge_pub.proofs.Due.{changed-found}
use Rattle.merge_pub.proofs.GivenRows.{rows-given}

-- Rows that changed last within a span.

pub all-changed : (rows : List (Key × PublisherRow)) (span : Span) (keys : List Key) → keys ≡ keys_of rows → HasChanged rows span keys
all-changed rows span keys are = λ key row found within.
    ap (list_any (is_at (key_cmp key))) are ∙ sym (is_some-lookup (is_at (key_cmp key)) rows) ∙ ap (λ (o : Option PublisherRow). is_some o) found

pub between-changed : (h now : Held) → h ≡ now → AreIndexed h.rows.rows h.changed.entries → (span : Span) (before : ℕ) (old keys : List Key) → before + 1 ≤ span.first → old ≡ [] → AddsRowsBetween h.changed.entries before span.last old keys
    → HasChanged (tables_of now).rows span keys
between-changed h now same indexed span before old keys below none adds = λ key row found within.
    let adds' : AddsRowsBetween h.changed.entries before span.last [] keys = subst (λ (xs : List Key). AddsRowsBetween h.changed.entries before span.last xs keys) none adds in
    let there : row_at h.rows.rows key ≡ Some row = ap (λ (x : Held). row_at x.rows.rows key) same ∙ found in
    changed-found (tables_of h) h.changed.entries before span.last keys key row.changed indexed adds' (omega (arith, below, within.0)) within.1 (ap (λ (o : Option PublisherRow). option_map (λ (r : PublisherRow). r.changed) o) there)

-- in another order, and each once
pub sorted-changed : (rows : List (Key × PublisherRow)) (span : Span) (found keys : List Key) → HasChanged rows span found → ((key : Key) → Contains keys key ↔ Contains found key) → HasChanged rows span keys
sorted-changed rows span found keys has same = λ key row there within.
    let at = any_found (is_at (key_cmp key)) found (has key row there within) in
    any_at (is_at (key_cmp key)) keys at.0 ((same at.0).1 at.1) at.2

-- The rows that go.

goes-if : (b : Bool) (entry : IndexEntry) → is_some (let found : Option IndexEntry = if b then Some entry else None in found) ≡ true → b ≡ true
goes-if true entry some = refl
goes-if false entry some = absurd cc

old-dead : (a b : Bool) → (not a && b) ≡ true → b ≡ true
old-dead true b is = absurd cc
old-dead false b is = is

found-gone : (closings : List Closing) (cut : Moment) (rows : List (Key × PublisherRow)) (span : Span) (keys : List Key) → IsStrictlySortedBy key_cmp (keys_of rows) → IsSpan closings cut span → IsStrictlySortedBy key_cmp keys → HasChanged rows span keys
    → filter_map (gone_at closings cut rows) keys ≡ filter_map (gone_if (is_old_row closings cut)) rows
found-gone closings cut rows span keys sorted within ascend has =
    rows-given key_cmp key_total key_exact (gone_if (is_old_row closings cut)) rows keys sorted ascend
    (λ key row found some.
    let goes : is_old_row closings cut (key, row) ≡ true = goes-if (is_old_row closings cut (key, row)) (gone_entry (key, row)) some in
    let old : is_old_at closings cut row.changed ≡ true = old-dead (is_live row.version.body) (is_old_at closings cut row.changed) goes in
    has key row found (within row.changed old))

pub held-gone : (h now : Held) → h ≡ now → (cut : Moment) (span : Span) (keys : List Key) (gone : List IndexEntry) → IsStrictlySortedBy key_cmp (keys_of h.rows.rows) → IsSpan h.gens.book.closings cut span → IsStrictlySortedBy key_cmp keys
    → HasChanged (tables_of now).rows span keys → gone ≡ filter_map (gone_at h.gens.book.closings cut (tables_of now).rows) keys → gone ≡ filter_map (gone_if (is_old_row (tables_of now).gens.closings cut)) (tables_of now).rows
held-gone h now same cut span keys gone sorted within ascend has is =
    let sorted' : IsStrictlySortedBy key_cmp (keys_of now.rows.rows) = subst (λ (x : Held). IsStrictlySortedBy key_cmp (keys_of x.rows.rows)) same sorted in
    let within' : IsSpan now.gens.book.closings cut span = subst (λ (x : Held). IsSpan x.gens.book.closings cut span) same within in
    is ∙ ap (λ (x : Held). filter_map (gone_at x.gens.book.closings cut now.rows.rows) keys) same ∙ found-gone now.gens.book.closings cut now.rows.rows span keys sorted' within' ascend has

-- Their edits.

take-step : (goes : Key × PublisherRow → Bool) (row : Key × PublisherRow) (rest : List IndexEntry) (edits : List (Edit Key PublisherRow)) (b : Bool) → map take_row rest ≡ edits
    → map take_row (cons_option (let found : Option IndexEntry = if b then Some (gone_entry row) else None in found) rest) ≡ (let all : List (Edit Key PublisherRow) = if not b then edits else Take row.0 ∷ edits in all)
take-step goes row rest edits true same = ap (λ (es : List (Edit Key PublisherRow)). Take row.0 ∷ es) same
take-step goes row rest edits false same = same

rows-taken : (goes : Key × PublisherRow → Bool) (rows : List (Key × PublisherRow)) → map take_row (filter_map (gone_if goes) rows) ≡ takes_of (λ (row : Key × PublisherRow). not (goes row)) rows
rows-taken goes [] = refl
rows-taken goes (row ∷ rows) = take-step goes row (filter_map (gone_if goes) rows) (takes_of (λ (r : Key × PublisherRow). not (goes r)) rows) (goes row) (rows-taken goes rows)

abbrev take_one : IndexEntry → Edit IndexEntry (Unit {0})
take_one entry = Take entry

entry-step : (row : Key × PublisherRow) (rest : List IndexEntry) (kept : List (Key × PublisherRow)) (b : Bool) → map take_one rest ≡ map take_entry kept
    → map take_one (cons_option (let found : Option IndexEntry = if b then Some (gone_entry row) else None in found) rest) ≡ map take_entry (let all : List (Key × PublisherRow) = cond b (row ∷ kept) kept in all)
entry-step row rest kept true same = ap (λ (es : List (Edit IndexEntry (Unit {0}))). take_entry row ∷ es) same
entry-step row rest kept false same = same

entries-taken : (goes : Key × PublisherRow → Bool) (rows : List (Key × PublisherRow)) → map (λ (entry : IndexEntry). (let edit : Edit IndexEntry (Unit {0}) = Take entry in edit)) (filter_map (gone_if goes) rows) ≡ gone_entries goes rows
entries-taken goes [] = refl
entries-taken goes (row ∷ rows) = entry-step row (filter_map (gone_if goes) rows) (filter goes rows) (goes row) (entries-taken goes rows)

-- the same over the tables

pub rows-made : (p : PublisherTables) (cut : Moment) (gone : List IndexEntry) (edits : List (Edit Key PublisherRow)) → gone ≡ filter_map (gone_if (is_old_row p.gens.closings cut)) p.rows → edits ≡ map take_row gone
    → edits ≡ takes_of (λ (row : Key × PublisherRow). not (is_old_row p.gens.closings cut row)) p.rows
rows-made p cut gone edits are is = is ∙ ap (map take_row) are ∙ rows-taken (is_old_row p.gens.closings cut) p.rows

pub entries-made : (p : PublisherTables) (cut : Moment) (gone : List IndexEntry) (edits : List (Edit IndexEntry (Unit {0}))) → gone ≡ filter_map (gone_if (is_old_row p.gens.closings cut)) p.rows
    → edits ≡ map (λ (entry : IndexEntry). (let edit : Edit IndexEntry (Unit {0}) = Take entry in edit)) gone → edits ≡ gone_entries (is_old_row p.gens.closings cut) p.rows
entries-made p cut gone edits are is = is ∙ ap (map take_one) are ∙ entries-taken (is_old_row p.gens.closings cut) p.rows
