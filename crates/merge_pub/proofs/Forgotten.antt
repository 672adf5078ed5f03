-- A join forgets the rows that left the site's partition, which are found through the index.
use Rattle.std.specs.Prelude.{◌≡◌, ◌↔◌, ◌&&◌, ◌==◌, ℕ, Bool, true, false, not, List, [], ◌∷◌, Option, Some, None, Contains, refl, filter, map, option_map, unwrap_or}
use Rattle.std.specs.BTreeMap.{is_at}
use Rattle.std.specs.List.{list_any}
use Rattle.std.specs.List.Sorted.{IsStrictlySortedBy}
use Rattle.std.specs.Map.{keys_of}
use Rattle.std.specs.declared.cmp.Ordering.TheVariants.{Less}
use Rattle.std.specs.List.{AllByRecursion}
use Rattle.std.proofs.Common.{arith, sym, ap, ◌∙◌, subst}
use Rattle.std.proofs.lemmas.Bool.Decides.{nat_tests}
use Rattle.std.proofs.lemmas.List.Kept.{IsStrictlySortedBy-filter}
use Rattle.merge_types.specs.RowKeys.{key_cmp}
use Rattle.merge_types.specs.declared.identifiers.SiteId.{SiteId}
use Rattle.merge_types.specs.declared.row_key.RowKey.{RowKey as Key}
use Rattle.merge_table.specs.Edits.{rows_after_all}
use Rattle.merge_table.specs.declared.edit.Edit.{Edit}
use Rattle.merge_table.specs.declared.edit.Edit.TheVariants.{Take}
use Rattle.merge_table.proofs.Puts.{filter-edits}
use Rattle.merge_gens.specs.Moves.{is_left, row_site_cmp, row_site_exact}
use Rattle.merge_gens.specs.declared.moves.Mapping.{Mapping}
use Rattle.merge_gens.specs.declared.moves.RowSite.{RowSite}
use Rattle.merge_schema.proofs.ListMembers.{any_at, any_found, contains_filter, contains_from_filter}
use Rattle.merge_model.specs.Tables.Keys.{at_row_site}
use Rattle.merge_model.specs.Publisher.PublisherJoin.{is_left_of}
use Rattle.merge_model.proofs.Lists.KeyLookUps.{keys-exact}
use Rattle.merge_model.proofs.Lists.PlaceLookUps.{places-exact}
use Rattle.merge_model.proofs.Publishers.Sorted.{row_site_total}
use Rattle.merge_pub.specs.Forgetting.{is_left_at, place_at, take_at}
use Rattle.merge_steps.specs.Indexed.{AreMoved, is_moved}
use Rattle.merge_steps.specs.MoveWalks.{keys_in_walk}
use Rattle.merge_steps.specs.Rows.{has_left_at}
use Rattle.merge_steps.specs.Working.{AreApart, places_of}
use Rattle.merge_steps.specs.declared.site_moves.MoveEntry.{MoveEntry}
use Rattle.merge_pub.proofs.Due.{walk-found}
use Rattle.merge_steps.proofs.MovesApart.{sorted-apart}
use Rattle.merge_steps.proofs.Told.{contains-from_map, contains-map, same-bool}

-- The edits take places.

pub takes-are : (site : ℕ) (keys : List Key) → map (take_at site) keys ≡ (let edits : List (Edit RowSite Mapping) = map Take (map (place_at site) keys) in edits)
takes-are site [] = refl
takes-are site (key ∷ keys) = ap (λ (edits : List (Edit RowSite Mapping)). Take (place_at site key) ∷ edits) (takes-are site keys)

place-above : (site : ℕ) (key : Key) (keys : List Key) → AllByRecursion (λ (k : Key). key_cmp key k ≡ Less) keys → AllByRecursion (λ (q : RowSite). row_site_cmp (place_at site key) q ≡ Less) (places_of (map (take_at site) keys))
place-above site key [] all = tt
place-above site key (k ∷ keys) all = (grind (arith, nat_tests, all.0), place-above site key keys all.1)

places-ascend : (site : ℕ) (keys : List Key) → IsStrictlySortedBy key_cmp keys → IsStrictlySortedBy row_site_cmp (places_of (map (take_at site) keys))
unfolding IsStrictlySortedBy
places-ascend site [] sorted = tt
places-ascend site (key ∷ keys) sorted = (place-above site key keys sorted.0, places-ascend site keys sorted.1)

-- each at a place of its own, where the rows ascend
pub takes-apart : (site : ℕ) (test : Key → Bool) (keys : List Key) → IsStrictlySortedBy key_cmp keys → AreApart (places_of (map (take_at site) (filter test keys)))
takes-apart site test keys sorted = sorted-apart (places_of (map (take_at site) (filter test keys))) (places-ascend site (filter test keys) (IsStrictlySortedBy-filter key_cmp test keys sorted))

-- Which places they are.

left-is : (mappings : List (RowSite × Mapping)) (q : RowSite) (v : Mapping) → at_row_site mappings q ≡ Some v → has_left_at mappings q ≡ is_left v.kind
left-is mappings q v found = ap (λ (o : Option Mapping). unwrap_or (option_map (λ (m : Mapping). is_left m.kind) o) false) found

moved-here : (mapping : Mapping) → is_moved (Some mapping) mapping.generation ≡ true
moved-here mapping = grind (arith, nat_tests)

module _ (mappings : List (RowSite × Mapping)) (moved : List (MoveEntry × Unit {0})) (site : ℕ) (keys : List Key) (are : AreMoved mappings moved) (same : (key : Key) → Contains keys key ↔ Contains (keys_in_walk site 0 None moved) key) where
  abbrev places : List RowSite
  places = map (place_at site) (filter (is_left_at mappings site) keys)

  taken-to : (q : RowSite) (v : Mapping) → at_row_site mappings q ≡ Some v → list_any (is_at (row_site_cmp q)) places ≡ true → ((q.site == site) && is_left v.kind) ≡ true
  taken-to q v found any =
      let at = any_found (is_at (row_site_cmp q)) places any in
      let from = contains-from_map (place_at site) (filter (is_left_at mappings site) keys) at.0 at.1 in
      let kept = contains_from_filter (is_left_at mappings site) keys from.0 from.1 in
      let here : q ≡ place_at site from.0 = places-exact q at.0 at.2 ∙ sym from.2 in
      let left : is_left v.kind ≡ true = sym (left-is mappings q v found) ∙ ap (λ (x : RowSite). has_left_at mappings x) here ∙ kept.1 in
      let number : q.site ≡ site = ap (λ (x : RowSite). x.site) here in
      grind (arith, nat_tests, left, number)

  taken-from : (q : RowSite) (v : Mapping) → at_row_site mappings q ≡ Some v → ((q.site == site) && is_left v.kind) ≡ true → list_any (is_at (row_site_cmp q)) places ≡ true
  unfolding AreMoved
  taken-from q v found is =
      let number : q.site ≡ site = grind (arith, nat_tests, is) in
      let left : is_left v.kind ≡ true = grind (arith, is) in
      let there : q ≡ place_at site q.key = ap (λ (n : ℕ). (let place : RowSite = record { key = q.key; site = n } in place)) number in
      let held = are (place_at site q.key) v.generation ∙ ap (λ (x : RowSite). is_moved (at_row_site mappings x) v.generation) (sym there) ∙ ap (λ (o : Option Mapping). is_moved o v.generation) found ∙ moved-here v in
      let walked = walk-found q.key site 0 None v.generation (omega arith) refl moved held in
      let at = any_found (is_at (key_cmp q.key)) (keys_in_walk site 0 None moved) walked in
      let key : at.0 ≡ q.key = sym (keys-exact q.key at.0 at.2) in
      let among = (same q.key).1 (subst (λ (k : Key). Contains (keys_in_walk site 0 None moved) k) key at.1) in
      let passes : is_left_at mappings site q.key ≡ true = ap (λ (x : RowSite). has_left_at mappings x) (sym there) ∙ left-is mappings q v found ∙ left in
      let kept = contains_filter (is_left_at mappings site) keys q.key among passes in
      any_at (is_at (row_site_cmp q)) places (place_at site q.key) (contains-map (place_at site) (filter (is_left_at mappings site) keys) q.key kept)
      (subst (λ (x : RowSite). is_at (row_site_cmp q) x ≡ true) there (itself q))
    where
      itself : (x : RowSite) → is_at (row_site_cmp x) x ≡ true
      itself x = grind (arith, nat_tests)

  not-not : (b : Bool) → b ≡ not (not b)
  not-not true = refl
  not-not false = refl

  -- what is left are the mappings but those that say that a row left
  pub left-forgotten : (who : SiteId) → site ≡ who.0 → IsStrictlySortedBy row_site_cmp (keys_of mappings)
      → rows_after_all row_site_cmp mappings (map (take_at site) (filter (is_left_at mappings site) keys)) ≡ filter (λ (entry : RowSite × Mapping). not (is_left_of who entry)) mappings
  left-forgotten who is sorted =
      ap (rows_after_all row_site_cmp mappings) (takes-are site (filter (is_left_at mappings site) keys))
      ∙ filter-edits row_site_cmp row_site_total row_site_exact (λ (entry : RowSite × Mapping). not (is_left_of who entry)) places mappings sorted
      (λ q v found.
      same-bool (list_any (is_at (row_site_cmp q)) places) ((q.site == site) && is_left v.kind) (taken-to q v found) (taken-from q v found)
      ∙ ap (λ (n : ℕ). (q.site == n) && is_left v.kind) is
      ∙ not-not ((q.site == who.0) && is_left v.kind))
