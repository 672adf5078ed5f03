-- A join over all that a publisher holds.
use Rattle.std.specs.Prelude.{◌≡◌, ◌↔◌, ◌++◌, ℕ, Bool, List, [], None, Contains, filter, map}
use Rattle.std.specs.List.Sorted.{IsStrictlySortedBy}
use Rattle.std.specs.Map.{keys_of}
use Rattle.std.proofs.Common.{sym, ap, ◌∙◌, subst, refl}
use Rattle.merge_types.specs.RowKeys.{key_cmp}
use Rattle.merge_types.specs.declared.identifiers.SiteId.{SiteId}
use Rattle.merge_types.specs.declared.row_key.RowKey.{RowKey as Key}
use Rattle.merge_table.specs.Edits.{rows_after_all}
use Rattle.merge_table.specs.declared.edit.Edit.{Edit}
use Rattle.merge_gens.specs.Moves.{row_site_cmp}
use Rattle.merge_gens.specs.declared.moves.Mapping.{Mapping}
use Rattle.merge_gens.specs.declared.moves.RowSite.{RowSite}
use Rattle.merge_model.specs.Publisher.PublisherJoin.{without_left}
use Rattle.merge_pub.specs.Forgetting.{is_left_at, take_at}
use Rattle.merge_pub.specs.Held.{Held, tables_of}
use Rattle.merge_steps.specs.Indexed.{AreMoved}
use Rattle.merge_steps.specs.MoveWalks.{keys_in_walk}
use Rattle.merge_steps.specs.Working.{AreApart, places_of}
use Rattle.merge_pub.proofs.Forgotten.{left-forgotten, takes-apart}

pub left-held : (h now : Held) → h ≡ now → (site : SiteId) (old more keys left : List Key) (edits : List (Edit RowSite Mapping)) → AreMoved h.mappings.rows h.moved.rows → IsStrictlySortedBy row_site_cmp (keys_of h.mappings.rows)
    → old ≡ [] → more ≡ old ++ keys_in_walk site.0 0 None h.moved.rows → ((key : Key) → Contains keys key ↔ Contains more key)
    → left ≡ filter (is_left_at (tables_of now).mappings site.0) keys → edits ≡ map (take_at site.0) left
    → rows_after_all row_site_cmp (tables_of now).mappings edits ≡ (without_left site (tables_of now)).mappings
left-held h now same site old more keys left edits are sorted none is each among taken =
    let walked : more ≡ keys_in_walk site.0 0 None h.moved.rows = is ∙ ap (λ (xs : List Key). xs ++ keys_in_walk site.0 0 None h.moved.rows) none in
    let each' : (key : Key) → Contains keys key ↔ Contains (keys_in_walk site.0 0 None h.moved.rows) key = λ key. subst (λ (xs : List Key). Contains keys key ↔ Contains xs key) walked (each key) in
    let forgot : rows_after_all row_site_cmp (tables_of now).mappings (map (take_at site.0) (filter (is_left_at (tables_of now).mappings site.0) keys)) ≡ (without_left site (tables_of now)).mappings =
    subst (λ (x : Held). rows_after_all row_site_cmp (tables_of x).mappings (map (take_at site.0) (filter (is_left_at (tables_of x).mappings site.0) keys)) ≡ (without_left site (tables_of x)).mappings) same
    (left-forgotten h.mappings.rows h.moved.rows site.0 keys are each' site refl sorted) in
    ap (rows_after_all row_site_cmp (tables_of now).mappings) (taken ∙ ap (map (take_at site.0)) among) ∙ forgot

pub left-places : (site : ℕ) (test : Key → Bool) (keys left : List Key) (edits : List (Edit RowSite Mapping)) → IsStrictlySortedBy key_cmp keys → left ≡ filter test keys → edits ≡ map (take_at site) left → AreApart (places_of edits)
left-places site test keys left edits sorted among taken = subst (λ (es : List (Edit RowSite Mapping)). AreApart (places_of es)) (sym (taken ∙ ap (map (take_at site)) among)) (takes-apart site test keys sorted)
