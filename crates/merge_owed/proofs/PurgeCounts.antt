-- The counts that a purge answers are the numbers of what is forgotten by lines.
use Rattle.std.specs.BTreeMap.{is_at}
use Rattle.std.specs.List.{AllByRecursion, IsDistinct, fold}
use Rattle.std.specs.List.Sorted.{IsStrictlySortedBy}
use Rattle.std.specs.Map.{keys_of}
use Rattle.std.specs.Option.{option_map_or}
use Rattle.std.specs.Ordering.{eq_by_cmp, nat_cmp}
use Rattle.std.specs.Prelude.{AllPairs, Bool, List, None, Option, Some, [], cond, count_by, false, filter, find, flat_map, is_some, length, map, option_map, refl, suc, true, zero, ◌&&◌, ◌++◌, ◌+◌, ◌<◌, ◌==◌, ◌≡◌, ◌∷◌, ℕ}
use Rattle.std.proofs.Common.{ap, arith, sym, ◌∙◌}
use Rattle.std.proofs.lemmas.Bool.Decides.{nat_tests}
use Rattle.std.proofs.lemmas.Cmp.{eq_by_cmp_equiv}
use Rattle.std.proofs.lemmas.List.{length-map}
use Rattle.std.proofs.lemmas.List.Elements.{recursion_from_All}
use Rattle.std.proofs.lemmas.List.Sums.{length-filter, sum_by-cons}
use Rattle.std.proofs.lemmas.Map.Keys.{IsDistinct-from_sorted}
use Rattle.std.proofs.lemmas.Map.Made.{IsDistinct-keys_filter, is_some-lookup, length-from_same_keys}
use Rattle.merge_types.specs.RowKeys.{key_cmp}
use Rattle.merge_types.specs.declared.identifiers.SiteId.{SiteId}
use Rattle.merge_types.specs.declared.row_key.RowKey.{RowKey as Key}
use Rattle.merge_table.proofs.Sorted.{sorted_put}
use Rattle.merge_gens.specs.Book.{moment_of}
use Rattle.merge_gens.specs.Moves.{row_site_cmp}
use Rattle.merge_gens.specs.declared.closings.Closing.{Closing}
use Rattle.merge_gens.specs.declared.moves.Mapping.{Mapping}
use Rattle.merge_gens.specs.declared.moves.RowSite.{RowSite}
use Rattle.merge_schema.specs.declared.publication.Publication.{Publication}
use Rattle.merge_schema.specs.declared.publication.Subscription.{Subscription}
use Rattle.merge_model.specs.Judge.ByHistory.{is_line_for, says_left, touched_outside}
use Rattle.merge_model.specs.Publisher.Entries as entry
use Rattle.merge_model.specs.History.{Line}
use Rattle.merge_model.specs.Tables.Keys.{at_row_site, put_row, same_key}
use Rattle.merge_model.specs.History.Noting.{gone_for, site_of_subscription}
use Rattle.merge_model.specs.Tables.Publications.{by_site}
use Rattle.merge_model.proofs.Lists.Finding.{all-weaker}
use Rattle.merge_model.proofs.Lists.KeyLookUps.{key-test}
use Rattle.merge_model.proofs.Lists.{all-append, all-filter, all-map, all-of, any-same}
use Rattle.merge_model.proofs.Lists.PlaceLookUps.{is_place, kept, lookup-filter, place-is, places-exact}
use Rattle.merge_model.proofs.Lists.SitesInOrder.{AreKeyed, sites-ascend, sites-keyed}
use Rattle.merge_model.proofs.Publishers.Sorted.{key_total, row_site_total}
use Rattle.merge_laws.proofs.LastLines.LastLineGone.{moved_in, old_places}
use Rattle.merge_owed.specs.Forgotten.{has_place}

-- Lists of which no two members are equal.

module _ {K : Type 0} (e : K → K → Bool) where
  kept-apart : (keep : Bool) (x : K) (xs : List K) → AllByRecursion (λ (y : K). e x y ≡ false) xs → IsDistinct e xs → IsDistinct e (cond keep (x ∷ xs) xs)
  unfolding IsDistinct
  kept-apart true x xs all rest = (all, rest)
  kept-apart false x xs all rest = rest

  distinct-filter : (keep : K → Bool) (xs : List K) → IsDistinct e xs → IsDistinct e (filter keep xs)
  unfolding IsDistinct
  distinct-filter keep [] apart = tt
  distinct-filter keep (x ∷ xs) apart = kept-apart (keep x) x (filter keep xs) (all-filter (λ (y : K). e x y ≡ false) keep xs apart.0) (distinct-filter keep xs apart.1)

  distinct-map : {X : Type 0} (other : X → X → Bool) (f : X → K) → ((x y : X) → other x y ≡ false → e (f x) (f y) ≡ false) → (xs : List X) → IsDistinct other xs → IsDistinct e (map f xs)
  unfolding IsDistinct
  distinct-map other f apart [] distinct = tt
  distinct-map {X = X} other f apart (x ∷ xs) distinct = (all-map (λ (y : X). other x y ≡ false) (λ (k : K). e (f x) k ≡ false) f (λ y is. apart x y is) xs distinct.0, distinct-map other f apart xs distinct.1)

  pub distinct-append : (xs ys : List K) → IsDistinct e xs → IsDistinct e ys → AllByRecursion (λ (x : K). AllByRecursion (λ (y : K). e x y ≡ false) ys) xs → IsDistinct e (xs ++ ys)
  unfolding IsDistinct
  distinct-append [] ys first second apart = second
  distinct-append (x ∷ xs) ys first second apart = (all-append (λ (y : K). e x y ≡ false) xs ys first.0 apart.0, distinct-append xs ys first.1 second apart.1)

-- The places that last lines tell so stand once each.

abbrev pub same_place : RowSite → RowSite → Bool
same_place = eq_by_cmp row_site_cmp

abbrev same_site : SiteId → SiteId → Bool
same_site a b = b.0 == a.0

pub keys-sorted : (keys : List Key) (others : List (Key × Unit {0})) → IsStrictlySortedBy key_cmp (keys_of others) → IsStrictlySortedBy key_cmp (keys_of (fold (λ (os : List (Key × Unit {0})) (k : Key). put_row os k tt) others keys))
keys-sorted [] others sorted = sorted
keys-sorted (key ∷ keys) others sorted = keys-sorted keys (put_row others key tt) (sorted_put key_cmp key_total key tt others sorted)

none-sorted : IsStrictlySortedBy key_cmp []
unfolding IsStrictlySortedBy
none-sorted = tt

keys-once : (keys : List Key) → IsDistinct (eq_by_cmp key_cmp) (entry.keys_of [] keys)
keys-once keys = IsDistinct-from_sorted key_cmp (entry.keys_of [] keys) (keys-sorted keys [] none-sorted)

apart-place : (site : SiteId) (a b : Key) → eq_by_cmp key_cmp a b ≡ false → same_place (gone_for site a) (gone_for site b) ≡ false
apart-place site a b is =
    let differ : same_key a b ≡ false = sym (key-test a b) ∙ is in
    place-is a site.0 (gone_for site b) ∙ ap (λ (t : Bool). t && (site.0 == site.0)) differ

module _ (lines : List Line) (old : ℕ → Bool) where
  abbrev told_in : ℕ → List Key
  told_in site = entry.keys_of [] (moved_in lines site)

  abbrev has_left : ℕ → Key → Bool
  has_left site key = says_left (find (is_line_for key site) lines)

  abbrev left_old : ℕ → Key → Bool
  left_old site key = option_map_or old (touched_outside (find (is_line_for key site) lines)) false

  abbrev left_keys : ℕ → List Key
  left_keys site = filter (left_old site) (filter (has_left site) (told_in site))

  one-site : (site : SiteId) → IsDistinct same_place (old_places lines old site)
  one-site site = distinct-map same_place (eq_by_cmp key_cmp) (gone_for site) (apart-place site) (left_keys site.0)
      (distinct-filter (eq_by_cmp key_cmp) (left_old site.0) (filter (has_left site.0) (told_in site.0)) (distinct-filter (eq_by_cmp key_cmp) (has_left site.0) (told_in site.0) (keys-once (moved_in lines site.0))))

  abbrev OfSite : ℕ → RowSite → Type 0
  OfSite n place = place.site ≡ n

  site-own : (site : SiteId) → AllByRecursion (OfSite site.0) (old_places lines old site)
  site-own site = all-map (λ (k : Key). Unit {0}) (OfSite site.0) (gone_for site) (λ k is. refl) (left_keys site.0) (all-of (λ (k : Key). Unit {0}) (λ k. tt) (left_keys site.0))

  abbrev NotOf : ℕ → RowSite → Type 0
  NotOf n place = (place.site == n) ≡ false

  others-apart : (n : ℕ) (sites : List SiteId) → AllByRecursion (λ (site : SiteId). (site.0 == n) ≡ false) sites → AllByRecursion (NotOf n) (flat_map (old_places lines old) sites)
  others-apart n [] apart = tt
  others-apart n (site ∷ sites) apart = all-append (NotOf n) (old_places lines old site) (flat_map (old_places lines old) sites)
      (all-map (λ (k : Key). Unit {0}) (NotOf n) (gone_for site) (λ k is. apart.0) (left_keys site.0) (all-of (λ (k : Key). Unit {0}) (λ k. tt) (left_keys site.0))) (others-apart n sites apart.1)

  apart-sites : (n : ℕ) (x y : RowSite) → OfSite n x → NotOf n y → same_place x y ≡ false
  apart-sites n x y own other = place-is x.key x.site y ∙ (let site : (y.site == x.site) ≡ false = ap (λ (k : ℕ). y.site == k) own ∙ other in grind (arith, site))

  places-once : (sites : List SiteId) → IsDistinct same_site sites → IsDistinct same_place (flat_map (old_places lines old) sites)
  unfolding IsDistinct
  places-once [] distinct = tt
  places-once (site ∷ sites) distinct =
      let rest : List RowSite = flat_map (old_places lines old) sites in
      let others : AllByRecursion (NotOf site.0) rest = others-apart site.0 sites distinct.0 in
      distinct-append same_place (old_places lines old site) rest (one-site site) (places-once sites distinct.1)
      (all-weaker (OfSite site.0) (λ (x : RowSite). AllByRecursion (λ (y : RowSite). same_place x y ≡ false) rest)
      (λ x own. all-weaker (NotOf site.0) (λ (y : RowSite). same_place x y ≡ false) (λ y other. apart-sites site.0 x y own other) rest others) (old_places lines old site) (site-own site))

-- the sites that a purge goes over are each one
apart-numbers : (n k : ℕ) → eq_by_cmp nat_cmp n k ≡ false → (k == n) ≡ false
apart-numbers n k is = (let test : eq_by_cmp nat_cmp n k ≡ (k == n) = grind (arith, nat_tests) in sym test ∙ is)

heads-differ : (n : ℕ) (es : List (ℕ × Subscription)) → AreKeyed es → AllByRecursion (λ (k : ℕ). eq_by_cmp nat_cmp n k ≡ false) (keys_of es) → AllByRecursion (λ (site : SiteId). (site.0 == n) ≡ false) (map site_of_subscription es)
heads-differ n [] keyed apart = tt
heads-differ n (e ∷ es) keyed apart = (ap (λ (k : ℕ). k == n) keyed.0 ∙ apart-numbers n e.0 apart.0, heads-differ n es keyed.1 apart.1)

sites-once : (es : List (ℕ × Subscription)) → AreKeyed es → IsDistinct (eq_by_cmp nat_cmp) (keys_of es) → IsDistinct same_site (map site_of_subscription es)
unfolding IsDistinct
sites-once [] keyed distinct = tt
sites-once (e ∷ es) keyed distinct = (
  all-weaker (λ (site : SiteId). (site.0 == e.0) ≡ false) (λ (site : SiteId). same_site e.1.site site ≡ false) (λ site is. ap (λ (k : ℕ). site.0 == k) keyed.0 ∙ is) (map site_of_subscription es) (heads-differ e.0 es keyed.1 distinct.0),
  sites-once es keyed.1 distinct.1,
)

pub purge-places-once : (publication : Publication) (lines : List Line) (old : ℕ → Bool) → IsDistinct same_place (flat_map (old_places lines old) (map site_of_subscription (by_site publication)))
purge-places-once publication lines old = places-once lines old (map site_of_subscription (by_site publication))
    (sites-once (by_site publication) (sites-keyed publication) (IsDistinct-from_sorted nat_cmp (keys_of (by_site publication)) (sites-ascend publication)))

-- Of mappings that pass a test, as many as there are places of which the same is told.

some-kept : (old : RowSite × Mapping → Bool) (place : RowSite) (found : Option Mapping) → is_some (kept old place found) ≡ option_map_or (λ (move : Mapping). old (place, move)) found false
some-kept old place None = refl
some-kept old place (Some move) = elim (old (place, move)) as (λ (b : Bool). is_some (let found : Option Mapping = cond b (Some move) None in found) ≡ b) [
  | true ↦ refl
  | false ↦ refl
]

pub as-many : (old : RowSite × Mapping → Bool) (mappings : List (RowSite × Mapping)) (places : List RowSite) → IsStrictlySortedBy row_site_cmp (keys_of mappings) → IsDistinct same_place places
    → ((place : RowSite) → option_map_or (λ (move : Mapping). old (place, move)) (at_row_site mappings place) false ≡ has_place places place)
    → count_by old mappings ≡ length places
as-many old mappings places sorted distinct same =
    let left : List (RowSite × Mapping) = filter old mappings in
    sym (length-filter old mappings)
    ∙ sym (length-map left (λ (e : RowSite × Mapping). e.0))
    ∙ length-from_same_keys (eq_by_cmp_equiv row_site_total) (keys_of left) places (IsDistinct-keys_filter same_place old mappings (IsDistinct-from_sorted row_site_cmp (keys_of mappings) sorted)) distinct
    (λ place. sym (is_some-lookup (is_at (row_site_cmp place)) left)
    ∙ ap (λ (found : Option Mapping). is_some found) (lookup-filter row_site_cmp row_site_total places-exact old place mappings sorted)
    ∙ some-kept old place (at_row_site mappings place)
    ∙ same place
    ∙ sym (any-same (is_at (row_site_cmp place)) (λ (other : RowSite). is_place place.key place.site other) (λ other. place-is place.key place.site other) places))

-- Counts by tests that say the same of each member.

pub count-same : {X : Type 0} (f g : X → Bool) (xs : List X) → AllByRecursion (λ (x : X). f x ≡ g x) xs → count_by f xs ≡ count_by g xs
count-same f g [] same = refl
count-same {X = X} f g (x ∷ xs) same =
    sum_by-cons (λ (y : X). cond (f y) 1 0) x xs
    ∙ ap (λ (b : Bool). cond b 1 0 + count_by f xs) same.0
    ∙ ap (λ (n : ℕ). cond (g x) 1 0 + n) (count-same f g xs same.1)
    ∙ sym (sum_by-cons (λ (y : X). cond (g y) 1 0) x xs)

-- The moment of each closed generation is found.

abbrev pub Closes : List Closing → Closing → Type 0
Closes closings c = moment_of closings c.generation ≡ Some c.moment.0

abbrev pub Before : Closing → Closing → Type 0
Before a b = a.generation < b.generation

closing-head : (c : Closing) (closings : List Closing) → Closes (c ∷ closings) c
closing-head c closings =
    let is : (c.generation == c.generation) ≡ true = grind (arith, nat_tests) in
    ap (λ (b : Bool). (let found : Option Closing = cond b (Some c) (find (λ (other : Closing). other.generation == c.generation) closings) in option_map (λ (other : Closing). other.moment.0) found)) is

closing-behind : (c other : Closing) (closings : List Closing) → Before c other → Closes closings other → Closes (c ∷ closings) other
closing-behind c other closings below found =
    let is : (c.generation == other.generation) ≡ false = grind (arith, nat_tests, below) in
    ap (λ (b : Bool). (let first : Option Closing = cond b (Some c) (find (λ (x : Closing). x.generation == other.generation) closings) in option_map (λ (x : Closing). x.moment.0) first)) is ∙ found

closings-behind : (c : Closing) (all rest : List Closing) → AllByRecursion (Before c) rest → AllByRecursion (Closes all) rest → AllByRecursion (Closes (c ∷ all)) rest
closings-behind c all [] below found = tt
closings-behind c all (other ∷ rest) below found = (closing-behind c other all below.0 found.0, closings-behind c all rest below.1 found.1)

pairs-head : (c : Closing) (closings : List Closing) → AllPairs Before (c ∷ closings) → AllByRecursion (Before c) closings
pairs-head c closings pairs = recursion_from_All (Before c) closings (λ k d less. pairs zero (suc k) d (omega arith) (omega (arith, less)))

pairs-tail : (c : Closing) (closings : List Closing) → AllPairs Before (c ∷ closings) → AllPairs Before closings
pairs-tail c closings pairs = λ i j d less inside. pairs (suc i) (suc j) d (omega (arith, less)) (omega (arith, inside))

pub each-closing : (closings : List Closing) → AllPairs Before closings → AllByRecursion (Closes closings) closings
each-closing [] pairs = tt
each-closing (c ∷ closings) pairs = (closing-head c closings, closings-behind c closings closings (pairs-head c closings pairs) (each-closing closings (pairs-tail c closings pairs)))
