-- Places that are found by their keys, and what a filter leaves of rows and places.
use Rattle.std.specs.Prelude.{◌≡◌, ◌==◌, ◌&&◌, ◌||◌, ℕ, List, [], ◌∷◌, Bool, true, false, Option, Some, None, refl, cond, filter, is_some}
use Rattle.std.specs.List.{fold, list_any}
use Rattle.std.specs.List.Sorted.{IsStrictlySortedBy}
use Rattle.std.specs.Map.{keys_of, lookup}
use Rattle.std.specs.BTreeMap.{is_at}
use Rattle.std.specs.declared.cmp.Ordering.{Ordering}
use Rattle.std.specs.Cmp.{IsTotalOrder, Equal-is}
use Rattle.std.proofs.Common.{arith, sym, ap, ◌∙◌}
use Rattle.std.proofs.lemmas.Bool.Decides.{nat_tests}
use Rattle.std.proofs.lemmas.Map.Keys.{sorted_tail}
use Rattle.merge_table.proofs.Room.{rest_above}
use Rattle.merge_table.proofs.Slots.{lookup_above}
use Rattle.merge_table.proofs.LookUps.{lookup-remove_entry}
use Rattle.merge_table.proofs.Sorted.{sorted_take}
use Rattle.merge_types.specs.declared.row_key.RowKey.{RowKey as Key}
use Rattle.merge_gens.specs.declared.moves.RowSite.{RowSite}
use Rattle.merge_gens.specs.declared.moves.Mapping.{Mapping}
use Rattle.merge_gens.specs.Moves.{row_site_cmp}
use Rattle.merge_model.specs.Tables.Keys.{same_key, at_row_site, drop_row_site}
use Rattle.merge_model.proofs.Publishers.Sorted.{row_site_total}
use Rattle.merge_model.proofs.Lists.KeyLookUps.{keys-same}

-- The comparisons as tests.

abbrev pub is_place : Key → ℕ → RowSite → Bool
is_place key site place = same_key key place.key && (place.site == site)

pub place-is : (key : Key) (site : ℕ) (place : RowSite) → is_at (row_site_cmp (record { key = key; site = site })) place ≡ is_place key site place
place-is key site place = grind (arith, nat_tests)

-- equal places are the same
abbrev place_from : Key → ℕ → RowSite
place_from key site = record { key = key; site = site }

pub place-same : (key : Key) (site : ℕ) (place : RowSite) → is_place key site place ≡ true → place_from key site ≡ place
place-same key site place is =
    let keys : same_key key place.key ≡ true = grind (arith, is) in
    let sites : site ≡ place.site = grind (arith, nat_tests, is) in
    ap (λ (k : Key). place_from k site) (keys-same key place.key keys) ∙ ap (λ (n : ℕ). place_from place.key n) sites

pub places-exact : (a b : RowSite) → is_at (row_site_cmp a) b ≡ true → a ≡ b
places-exact a b is = place-same a.key a.site b (sym (place-is a.key a.site b) ∙ is)

-- What is found in a filtered list.

abbrev pub kept : {K V : Type 0} → (K × V → Bool) → K → Option V → Option V
kept keep q None = None
kept keep q (Some v) = cond (keep (q, v)) (Some v) None

kept-head : {K V : Type 0} (keep : K × V → Bool) (q : K) (v : V) (new found : Option V) (c : Bool) → (c ≡ true → keep (q, v) ≡ true) → new ≡ kept keep q found → cond c (Some v) new ≡ kept keep q (cond c (Some v) found)
kept-head keep q v new found true keeps same = rw (keeps refl) refl
kept-head keep q v new found false keeps same = same

left-head : {K V : Type 0} (keep : K × V → Bool) (q : K) (v : V) (new found : Option V) (c : Bool) → (c ≡ true → keep (q, v) ≡ false) → (c ≡ true → found ≡ None) → new ≡ kept keep q found → new ≡ kept keep q (cond c (Some v) found)
left-head keep q v new found true leaves none same = same ∙ ap (λ (o : Option _). kept keep q o) (none refl) ∙ rw (leaves refl) refl
left-head keep q v new found false leaves none same = same

pub lookup-filter : {K V : Type 0} (cmp : K → K → Ordering) → IsTotalOrder cmp → ((a b : K) → is_at (cmp a) b ≡ true → a ≡ b) → (keep : K × V → Bool) (q : K) (es : List (K × V)) → IsStrictlySortedBy cmp (keys_of es)
    → lookup (is_at (cmp q)) (filter keep es) ≡ kept keep q (lookup (is_at (cmp q)) es)
lookup-filter cmp o exact keep q [] sorted = refl
lookup-filter {K = K} {V = V} cmp o exact keep q (e ∷ es) sorted =
    let rest = lookup-filter cmp o exact keep q es (sorted_tail cmp e.0 (keys_of es) sorted) in
    let head = λ (is : is_at (cmp q) e.0 ≡ true). ap (λ (k : K). keep (k, e.1)) (exact q e.0 is) in
    let none = λ (is : is_at (cmp q) e.0 ≡ true). lookup_above cmp q es (rest_above cmp o q e.0 (keys_of es) sorted ((Equal-is (cmp q e.0)).0 is)) in
    elim (keep e) as (λ (b : Bool). keep e ≡ b → lookup (is_at (cmp q)) (let found : List (K × V) = cond b (e ∷ filter keep es) (filter keep es) in found) ≡ kept keep q (lookup (is_at (cmp q)) (e ∷ es))) [
      | true ↦ (λ keeps. kept-head keep q e.1 (lookup (is_at (cmp q)) (filter keep es)) (lookup (is_at (cmp q)) es) (is_at (cmp q) e.0) (λ is. head is ∙ keeps) rest)
      | false ↦ (λ leaves. left-head keep q e.1 (lookup (is_at (cmp q)) (filter keep es)) (lookup (is_at (cmp q)) es) (is_at (cmp q) e.0) (λ is. head is ∙ leaves) none rest)
    ] refl

-- what is found there was found before
kept-some : {V : Type 0} (b : Bool) (v : V) → is_some (let left : Option V = cond b (Some v) None in left) ≡ true → cond b (Some v) None ≡ Some v
kept-some true v is = refl
kept-some false v is = absurd cc

pub kept-found : {K V : Type 0} (keep : K × V → Bool) (q : K) (found : Option V) → is_some (kept keep q found) ≡ true → kept keep q found ≡ found
kept-found keep q None is = refl
kept-found keep q (Some v) is = kept-some (keep (q, v)) v is

-- What is found where places were dropped.

abbrev pub has_place : List RowSite → Key → ℕ → Bool
has_place places key site = list_any (is_place key site) places

pub drop-head : (b c : Bool) (found : Option Mapping) → cond c None (cond b None found) ≡ cond (b || c) None found
drop-head true true found = refl
drop-head true false found = refl
drop-head false c found = refl

pub at-dropped : (places : List RowSite) (mappings : List (RowSite × Mapping)) (key : Key) (site : ℕ) → IsStrictlySortedBy row_site_cmp (keys_of mappings)
    → at_row_site (fold drop_row_site mappings places) (record { key = key; site = site }) ≡ cond (has_place places key site) None (at_row_site mappings (record { key = key; site = site }))
at-dropped [] mappings key site sorted = refl
at-dropped (place ∷ places) mappings key site sorted =
    let found : Option Mapping = at_row_site mappings (record { key = key; site = site }) in
    at-dropped places (drop_row_site mappings place) key site (sorted_take row_site_cmp row_site_total (is_at (row_site_cmp place)) mappings sorted)
    ∙ ap (λ (o : Option Mapping). (let left : Option Mapping = cond (has_place places key site) None o in left))
    (lookup-remove_entry row_site_cmp row_site_total place (record { key = key; site = site }) mappings sorted
    ∙ ap (λ (b : Bool). (let left : Option Mapping = cond b None found in left)) (place-is key site place))
    ∙ drop-head (is_place key site place) (has_place places key site) found
