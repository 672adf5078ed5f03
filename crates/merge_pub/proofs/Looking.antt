-- What a publisher finds of a row, over all that it holds.
use Rattle.std.specs.Prelude.{◌≡◌, ◌↔◌, ◌+◌, ◌++◌, ℕ, Bool, true, false, List, [], Option, Some, Contains, option_map}
use Rattle.std.specs.List.Sorted.{IsStrictlySortedBy}
use Rattle.std.specs.Map.{keys_of}
use Rattle.std.proofs.Common.{sym, ap, ◌∙◌, subst}
use Rattle.merge_types.specs.RowKeys.{key_cmp}
use Rattle.merge_types.specs.declared.identifiers.SiteId.{SiteId}
use Rattle.merge_types.specs.declared.row_key.RowKey.{RowKey as Key}
use Rattle.merge_units.specs.declared.site_row.PublisherRow.{PublisherRow}
use Rattle.merge_gens.specs.Index.{AddsRowsBetween}
use Rattle.merge_gens.specs.declared.moves.Mapping.{Mapping}
use Rattle.merge_schema.specs.Partition.{is_in_at}
use Rattle.merge_part.specs.Live.{live_rows as listed}
use Rattle.merge_part.specs.View.{live_in}
use Rattle.merge_model.specs.Judge.ByNumbers.{touch_by_mapping, touch_inside, touch_outside}
use Rattle.merge_model.specs.Tables.Keys.{at_row_site, has_key, row_at}
use Rattle.merge_model.specs.Publisher.PublisherDownload.{inside_keys}
use Rattle.merge_pub.specs.Held.{Held, publication_of, tables_of}
use Rattle.merge_steps.specs.Indexed.{AreIndexed, AreMoved}
use Rattle.merge_steps.specs.LiveRows.{live_pairs}
use Rattle.merge_steps.specs.MoveWalks.{keys_in_walk}
use Rattle.merge_pub.specs.Touches.{HasTouched}
use Rattle.merge_pub.proofs.Due.{are-due}
use Rattle.merge_pub.proofs.Inside.{inside-is}
use Rattle.merge_pub.proofs.TouchedRows.{touched-among}

pub has-row : (h now : Held) → h ≡ now → (site : SiteId) (key : Key) (b : Bool) → live_in h.membership ≡ live_pairs h.rows.rows
    → b ≡ is_in_at h.membership.publication site (listed (live_in h.membership)) key.article key.row → b ≡ has_key (inside_keys (publication_of now) site (tables_of now)) key
has-row h now same site key b live is =
    subst (λ (x : Held). b ≡ has_key (inside_keys (publication_of x) site (tables_of x)) key) same
    (is ∙ inside-is (publication_of h) site (tables_of h) (live_in h.membership) key live)

pub touch-out : (h now : Held) → h ≡ now → (key : Key) (site : ℕ) (is_in : Bool) (found : Option ℕ) → is_in ≡ false
    → found ≡ touch_outside (at_row_site h.mappings.rows (record { key = key; site = site })) → found ≡ touch_by_mapping (tables_of now) key site is_in
touch-out h now same key site is_in found out is =
    subst (λ (x : Held). found ≡ touch_by_mapping (tables_of x) key site is_in) same
    (is ∙ ap (λ (b : Bool). touch_by_mapping (tables_of h) key site b) (sym out))

pub touch-in : (h now : Held) → h ≡ now → (key : Key) (site : ℕ) (is_in : Bool) (row : PublisherRow) (found : ℕ) → is_in ≡ true → Some row ≡ row_at h.rows.rows key
    → found ≡ touch_inside row.changed (at_row_site h.mappings.rows (record { key = key; site = site })) → Some found ≡ touch_by_mapping (tables_of now) key site is_in
touch-in h now same key site is_in row found inn held is =
    let mapping : Option Mapping = at_row_site h.mappings.rows (record { key = key; site = site }) in
    subst (λ (x : Held). Some found ≡ touch_by_mapping (tables_of x) key site is_in) same
    (ap (λ (g : ℕ). (let o : Option ℕ = Some g in o)) is
    ∙ ap (λ (o : Option PublisherRow). option_map (λ (c : ℕ). touch_inside c mapping) (option_map (λ (r : PublisherRow). r.changed) o)) held
    ∙ ap (λ (b : Bool). touch_by_mapping (tables_of h) key site b) (sym inn))

pub due-touched : (h now : Held) → h ≡ now → (site : SiteId) (from to : ℕ) (old found more keys : List Key) → AreIndexed h.rows.rows h.changed.entries → AreMoved h.mappings.rows h.moved.rows
    → IsStrictlySortedBy key_cmp (keys_of h.rows.rows) → old ≡ [] → AddsRowsBetween h.changed.entries from to old found → more ≡ found ++ keys_in_walk site.0 (from + 1) (Some to) h.moved.rows
    → IsStrictlySortedBy key_cmp keys → ((key : Key) → Contains keys key ↔ Contains more key) → HasTouched (publication_of now) (tables_of now) site from to keys
due-touched h now same site from to old found more keys indexed moved sorted none adds is ascend each =
    let adds' : AddsRowsBetween h.changed.entries from to [] found = subst (λ (xs : List Key). AddsRowsBetween h.changed.entries from to xs found) none adds in
    let each' : (key : Key) → Contains keys key ↔ Contains (found ++ keys_in_walk site.0 (from + 1) (Some to) h.moved.rows) key = λ key. subst (λ (xs : List Key). Contains keys key ↔ Contains xs key) is (each key) in
    subst (λ (x : Held). HasTouched (publication_of x) (tables_of x) site from to keys) same
    (touched-among (publication_of h) (tables_of h) site from to keys sorted ascend (are-due (tables_of h) h.changed.entries h.moved.rows site.0 from to found keys indexed moved adds' each'))
