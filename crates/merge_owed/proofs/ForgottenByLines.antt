-- What a join and a purge forget of mappings and tombstones is what the last lines say.
use Rattle.std.specs.List.{AllByRecursion, list_any}
use Rattle.std.specs.Option.{option_map_or}
use Rattle.std.specs.Prelude.{Bool, List, None, Option, Some, [], false, filter, find, flat_map, is_some, map, not, option_map, refl, true, ◌&&◌, ◌==◌, ◌||◌, ◌≡◌, ◌∷◌, ℕ}
use Rattle.std.proofs.Common.{ap, arith, subst, sym, ◌∙◌}
use Rattle.std.proofs.lemmas.Bool.Decides.{nat_tests}
use Rattle.std.proofs.lemmas.List.Folds.{list_any-append}
use Rattle.merge_types.specs.declared.identifiers.SiteId.{SiteId}
use Rattle.merge_types.specs.declared.row_key.RowKey.{RowKey as Key}
use Rattle.merge_units.specs.Version.{is_live}
use Rattle.merge_units.specs.declared.site_row.PublisherRow.{PublisherRow}
use Rattle.merge_gens.specs.Moves.{is_left}
use Rattle.merge_gens.specs.declared.moves.Mapping.{Mapping}
use Rattle.merge_gens.specs.declared.moves.RowSite.{RowSite}
use Rattle.merge_schema.proofs.Searches.{any_map}
use Rattle.merge_schema.specs.declared.publication.Publication.{Publication}
use Rattle.merge_model.specs.Judge.ByHistory.{is_line_for, last_change, says_left}
use Rattle.merge_model.specs.Publisher.Entries as entry
use Rattle.merge_model.specs.History.{Changed, EnteredFor, GoneFor, LeftFor, Line, LineKind}
use Rattle.merge_model.specs.Tables.Keys.{row_at, same_key}
use Rattle.merge_model.specs.History.Model.{Model}
use Rattle.merge_model.specs.History.Noting.{gone_for, site_of_subscription}
use Rattle.merge_model.specs.Tables.Publications.{by_site}
use Rattle.merge_model.specs.Publisher.PublisherJoin.{is_left_of}
use Rattle.merge_model.specs.Publisher.PublisherPurge.{is_old}
use Rattle.merge_model.specs.Failing.Runs.{model_behind_actions}
use Rattle.merge_model.proofs.Lists.KeyLookUps.{keys-same}
use Rattle.merge_model.proofs.Lists.{all-filter, all-kept, all-of, any-leads}
use Rattle.merge_laws.specs.Laws.LastLines.{move_in, move_told}
use Rattle.merge_laws.specs.Laws.{OfEveryActions, OfEveryValidActions}
use Rattle.merge_laws.proofs.LastLines.LastLineGone.{all-gone, left-gone, moved_in, old_places}
use Rattle.merge_laws.proofs.LastLines.LastLineSteps.{last_lines-by-actions}
use Rattle.merge_owed.specs.Forgotten.{JoinsForgetByLines, PurgesForgetByLines, TombstonesAreOldByLines, going_over, has_place}

-- Where no move is told, none is told to have left.

kind-none : (of : Key) (kind : LineKind) (generation : ℕ) → (let last : Option Line = Some (record { key = of; kind = kind; generation = generation }) in move_told last ≡ None → says_left last ≡ false)
kind-none of Changed generation none = refl
kind-none of (EnteredFor site) generation none = refl
kind-none of (LeftFor site) generation none = absurd cc
kind-none of (GoneFor site) generation none = refl

none-left : (last : Option Line) → move_told last ≡ None → says_left last ≡ false
none-left None none = refl
none-left (Some line) none = kind-none line.key line.kind line.generation none

abbrev left_in : List Line → ℕ → Key → Bool
left_in lines site key = says_left (find (is_line_for key site) lines)

module _ (lines : List Line) (site : SiteId) (place : RowSite) (none : move_in lines place.key place.site ≡ None) where
  abbrev is_here : RowSite → Bool
  is_here other = same_key place.key other.key && (other.site == place.site)

  not-here : (key : Key) → left_in lines site.0 key ≡ true → is_here (gone_for site key) ≡ true → ⊥
  not-here key left here =
      let same : place.key ≡ key = keys-same place.key key (grind (arith, here)) in
      let at : site.0 ≡ place.site = grind (arith, nat_tests, here) in
      let gone : says_left (find (is_line_for place.key place.site) lines) ≡ false = none-left (find (is_line_for place.key place.site) lines) none in
      let moved : left_in lines place.site place.key ≡ true = subst (λ (n : ℕ). left_in lines n place.key ≡ true) at (subst (λ (k : Key). left_in lines site.0 k ≡ true) (sym same) left) in
      absurd (grind (arith, gone, moved))

  none-among : (b : Bool) (keys : List Key) → AllByRecursion (λ (key : Key). is_here (gone_for site key) ≡ true → ⊥) keys → list_any (λ (key : Key). is_here (gone_for site key)) keys ≡ b → b ≡ false
  none-among true keys never is = absurd (any-leads (λ (key : Key). is_here (gone_for site key)) ⊥ keys never is)
  none-among false keys never is = refl

  kept-never : (keys : List Key) → AllByRecursion (λ (key : Key). is_here (gone_for site key) ≡ true → ⊥) (filter (left_in lines site.0) keys)
  kept-never keys = all-kept (λ (key : Key). is_here (gone_for site key) ≡ true → ⊥) (left_in lines site.0) keys (all-of (λ (key : Key). left_in lines site.0 key ≡ true → is_here (gone_for site key) ≡ true → ⊥) not-here keys)

  none-place : (keys : List Key) → AllByRecursion (λ (key : Key). is_here (gone_for site key) ≡ true → ⊥) keys → has_place (map (gone_for site) keys) place ≡ false
  none-place keys never = any_map (gone_for site) is_here keys ∙ none-among (list_any (λ (key : Key). is_here (gone_for site key)) keys) keys never refl

  pub none-gone : has_place (map (gone_for site) (filter (left_in lines site.0) (entry.keys_of [] (moved_in lines site.0)))) place ≡ false
  none-gone = none-place (filter (left_in lines site.0) (entry.keys_of [] (moved_in lines site.0))) (kept-never (entry.keys_of [] (moved_in lines site.0)))

  none-old : (old : ℕ → Bool) → has_place (old_places lines old site) place ≡ false
  none-old old = none-place _ (all-filter (λ (key : Key). is_here (gone_for site key) ≡ true → ⊥) _ (filter (left_in lines site.0) (entry.keys_of [] (moved_in lines site.0))) (kept-never (entry.keys_of [] (moved_in lines site.0))))

none-anywhere : (lines : List Line) (old : ℕ → Bool) (place : RowSite) → move_in lines place.key place.site ≡ None → (sites : List SiteId) → has_place (flat_map (old_places lines old) sites) place ≡ false
none-anywhere lines old place none [] = refl
none-anywhere lines old place none (site ∷ sites) =
    list_any-append (λ (other : RowSite). same_key place.key other.key && (other.site == place.site)) (old_places lines old site) (flat_map (old_places lines old) sites)
    ∙ ap (λ (b : Bool). b || has_place (flat_map (old_places lines old) sites) place) (none-old lines site place none old)
    ∙ none-anywhere lines old place none sites

-- Joins.

join-place : (lines : List Line) (site : SiteId) (place : RowSite) (found : Option Mapping) → move_in lines place.key place.site ≡ found
    → option_map_or (λ (move : Mapping). is_left_of site (place, move)) found false ≡ has_place (map (gone_for site) (filter (left_in lines site.0) (entry.keys_of [] (moved_in lines site.0)))) place
join-place lines site place None at = sym (none-gone lines site place at)
join-place lines site place (Some move) at = sym (left-gone lines site place.key place.site move at)

pub joins-forget : OfEveryActions (λ publication says m. JoinsForgetByLines m)
joins-forget publication says tallies slips actions site place =
    let m : Model = model_behind_actions publication says tallies slips actions in
    let fits = last_lines-by-actions publication says tallies slips actions in
    ap (λ (found : Option Mapping). option_map_or (λ (move : Mapping). is_left_of site (place, move)) found false) (fits.moves place.key place.site) ∙ join-place m.history.lines site place (move_in m.history.lines place.key place.site) refl

-- Purges.

and-true : (a b : Bool) → a ≡ true → (a && b) ≡ b
and-true true b is = refl
and-true false b is = absurd cc

purge-place : (publication : Publication) (lines : List Line) (old : ℕ → Bool) (place : RowSite) (sites : List SiteId) (found : Option Mapping) → move_in lines place.key place.site ≡ found
    → (is_some found ≡ true → list_any (λ (other : SiteId). other.0 == place.site) sites ≡ true)
    → option_map_or (λ (move : Mapping). is_left move.kind && old move.generation) found false ≡ has_place (flat_map (old_places lines old) sites) place
purge-place publication lines old place sites None at among = sym (none-anywhere lines old place at sites)
purge-place publication lines old place sites (Some move) at among =
    sym (all-gone lines old place.key place.site move at sites ∙ and-true (list_any (λ (other : SiteId). other.0 == place.site) sites) (is_left move.kind && old move.generation) (among refl))

pub purges-forget : OfEveryValidActions PurgesForgetByLines
purges-forget resolvers publication valid says tallies slips actions place =
    let m : Model = model_behind_actions publication says tallies slips actions in
    let fits = last_lines-by-actions publication says tallies slips actions in
    let old : ℕ → Bool = is_old publication (going_over m) in
    ap (λ (found : Option Mapping). option_map_or (λ (move : Mapping). is_left move.kind && old move.generation) found false) (fits.moves place.key place.site)
    ∙ purge-place publication m.history.lines old place (map site_of_subscription (by_site publication)) (move_in m.history.lines place.key place.site) refl
    (λ is. fits.sites place.key place.site (ap (λ (found : Option Mapping). is_some found) (fits.moves place.key place.site) ∙ is))

-- Tombstones.

row-old : (live : Bool) (old : ℕ → Bool) (row : PublisherRow) (found : Option PublisherRow) (last : Option ℕ) → found ≡ Some row → option_map (λ (r : PublisherRow). r.changed) found ≡ last → (not live && old row.changed) ≡ (not live && option_map_or old last false)
row-old live old row found last at is =
    ap (λ (n : Option ℕ). not live && option_map_or old n false) (sym (ap (λ (o : Option PublisherRow). option_map (λ (r : PublisherRow). r.changed) o) at) ∙ is)

pub tombstones-old : OfEveryValidActions TombstonesAreOldByLines
tombstones-old resolvers publication valid says tallies slips actions key row at =
    let m : Model = model_behind_actions publication says tallies slips actions in
    let fits = last_lines-by-actions publication says tallies slips actions in
    row-old (is_live row.version.body) (is_old publication (going_over m)) row (row_at m.world.publisher.rows key) (last_change m.history key) at (fits.changes key (ap (λ (found : Option PublisherRow). is_some found) at))
