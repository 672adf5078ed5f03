-- What two lists in order give and keep, where they have the same of what gives anything.
use Rattle.std.specs.Prelude.{◌≡◌, ◌||◌, List, [], ◌∷◌, Bool, true, false, Option, Some, None, refl, cond, filter, filter_map, is_some, map, option_map}
use Rattle.std.specs.BTreeMap.{is_at}
use Rattle.std.specs.Cmp.{IsTotalOrder, Equal-is}
use Rattle.std.specs.List.{AllByRecursion, cons_option, list_any}
use Rattle.std.specs.List.Sorted.{IsStrictlySortedBy}
use Rattle.std.specs.Map.{keys_of, lookup}
use Rattle.std.specs.declared.cmp.Ordering.{Ordering}
use Rattle.std.specs.declared.cmp.Ordering.TheVariants.{Equal, Less}
use Rattle.std.proofs.Common.{sym, ap, ◌∙◌}
use Rattle.merge_table.proofs.LookUps.{rows_from_look_ups}

module _ {K V : Type 0} (cmp : K → K → Ordering) (o : IsTotalOrder cmp) (exact : (x y : K) → cmp x y ≡ Equal → x ≡ y) (f : K → Option V) where
  abbrev paired : K → Option (K × V)
  paired k = option_map (λ (v : V). (k, v)) (f k)

  given-head : (q k : K) (found : Option V) (b more : Bool) (rest : List (K × V)) → is_at (cmp q) k ≡ b → (b ≡ true → found ≡ f q) → lookup (is_at (cmp q)) rest ≡ cond more (f q) None
      → lookup (is_at (cmp q)) (cons_option (option_map (λ (v : V). (k, v)) found) rest) ≡ cond (b || more) (f q) None
  given-head q k None true true rest at is found = found
  given-head q k None true false rest at is found = found ∙ is refl
  given-head q k None false more rest at is found = found
  given-head q k (Some v) true more rest at is found = ap (λ (c : Bool). (let x : Option V = cond c (Some v) (lookup (is_at (cmp q)) rest) in x)) at ∙ is refl
  given-head q k (Some v) false more rest at is found = ap (λ (c : Bool). (let x : Option V = cond c (Some v) (lookup (is_at (cmp q)) rest) in x)) at ∙ found

  given-found : (q : K) (xs : List K) → lookup (is_at (cmp q)) (filter_map paired xs) ≡ cond (list_any (is_at (cmp q)) xs) (f q) None
  given-found q [] = refl
  given-found q (k ∷ xs) =
      given-head q k (f k) (is_at (cmp q) k) (list_any (is_at (cmp q)) xs) (filter_map paired xs) refl (λ at. ap f (sym (exact q k ((Equal-is (cmp q k)).0 at)))) (given-found q xs)

  given-above : (x k : K) (found : Option V) (rest : List (K × V)) → cmp x k ≡ Less → AllByRecursion (λ (y : K). cmp x y ≡ Less) (keys_of rest) → AllByRecursion (λ (y : K). cmp x y ≡ Less) (keys_of (cons_option (option_map (λ (v : V). (k, v)) found) rest))
  given-above x k None rest less all = all
  given-above x k (Some v) rest less all = (less, all)

  all-above : (x : K) (xs : List K) → AllByRecursion (λ (y : K). cmp x y ≡ Less) xs → AllByRecursion (λ (y : K). cmp x y ≡ Less) (keys_of (filter_map paired xs))
  all-above x [] all = tt
  all-above x (k ∷ xs) all = given-above x k (f k) (filter_map paired xs) all.0 (all-above x xs all.1)

  given-cons : (k : K) (found : Option V) (rest : List (K × V)) → AllByRecursion (λ (y : K). cmp k y ≡ Less) (keys_of rest) → IsStrictlySortedBy cmp (keys_of rest) → IsStrictlySortedBy cmp (keys_of (cons_option (option_map (λ (v : V). (k, v)) found) rest))
  unfolding IsStrictlySortedBy
  given-cons k None rest above sorted = sorted
  given-cons k (Some v) rest above sorted = (above, sorted)

  given-sorted : (xs : List K) → IsStrictlySortedBy cmp xs → IsStrictlySortedBy cmp (keys_of (filter_map paired xs))
  unfolding IsStrictlySortedBy
  given-sorted [] sorted = tt
  given-sorted (k ∷ xs) sorted = given-cons k (f k) (filter_map paired xs) (all-above k xs sorted.0) (given-sorted xs sorted.1)

  second-head : (k : K) (found : Option V) (rest : List (K × V)) (values : List V) → map (λ (e : K × V). e.1) rest ≡ values → map (λ (e : K × V). e.1) (cons_option (option_map (λ (v : V). (k, v)) found) rest) ≡ cons_option found values
  second-head k None rest values same = same
  second-head k (Some v) rest values same = ap (λ (vs : List V). v ∷ vs) same

  seconds : (xs : List K) → map (λ (e : K × V). e.1) (filter_map paired xs) ≡ filter_map f xs
  seconds [] = refl
  seconds (k ∷ xs) = second-head k (f k) (filter_map paired xs) (filter_map f xs) (seconds xs)

  same-if : (found : Option V) (a b : Bool) → (is_some found ≡ true → a ≡ b) → (let x : Option V = cond a found None in x) ≡ cond b found None
  same-if None a b same = elim a as (λ (c : Bool). (let x : Option V = cond c None None in x) ≡ cond b None None) [ true ↦ none-if b | false ↦ none-if b ]
    where
      none-if : (c : Bool) → None ≡ (let x : Option V = cond c None None in x)
      none-if true = refl
      none-if false = refl
  same-if (Some v) a b same = ap (λ (c : Bool). (let x : Option V = cond c (Some v) None in x)) (same refl)

  -- of two lists in order, where they have the same of what gives anything, what they give is the same
  pub same-given : (xs ys : List K) → IsStrictlySortedBy cmp xs → IsStrictlySortedBy cmp ys → ((k : K) → is_some (f k) ≡ true → list_any (is_at (cmp k)) xs ≡ list_any (is_at (cmp k)) ys) → filter_map f xs ≡ filter_map f ys
  same-given xs ys s t same =
      sym (seconds xs)
      ∙ ap (λ (es : List (K × V)). map (λ (e : K × V). e.1) es) (rows_from_look_ups cmp o exact (filter_map paired xs) (filter_map paired ys) (given-sorted xs s) (given-sorted ys t)
      (λ q. given-found q xs ∙ same-if (f q) (list_any (is_at (cmp q)) xs) (list_any (is_at (cmp q)) ys) (same q) ∙ sym (given-found q ys)))
      ∙ seconds ys

module _ {K : Type 0} (cmp : K → K → Ordering) (o : IsTotalOrder cmp) (exact : (x y : K) → cmp x y ≡ Equal → x ≡ y) (test : K → Bool) where
  abbrev kept_as : Bool → K → Option K
  kept_as true k = Some k
  kept_as false k = None

  filter-head : (b : Bool) (k : K) (rest : List K) → cond b (k ∷ rest) rest ≡ cons_option (kept_as b k) rest
  filter-head true k rest = refl
  filter-head false k rest = refl

  filter-given : (xs : List K) → filter test xs ≡ filter_map (λ (k : K). kept_as (test k) k) xs
  filter-given [] = refl
  filter-given (k ∷ xs) = filter-head (test k) k (filter test xs) ∙ ap (λ (rest : List K). cons_option (kept_as (test k) k) rest) (filter-given xs)

  kept-some : (b : Bool) (k : K) → is_some (kept_as b k) ≡ true → b ≡ true
  kept-some true k is = refl
  kept-some false k is = is

  -- filters of two lists in order are equal where the lists have the same of what the test keeps
  pub same-filters : (xs ys : List K) → IsStrictlySortedBy cmp xs → IsStrictlySortedBy cmp ys → ((k : K) → test k ≡ true → list_any (is_at (cmp k)) xs ≡ list_any (is_at (cmp k)) ys) → filter test xs ≡ filter test ys
  same-filters xs ys s t same =
      filter-given xs
      ∙ same-given cmp o exact (λ (k : K). kept_as (test k) k) xs ys s t (λ k is. same k (kept-some (test k) k is))
      ∙ sym (filter-given ys)
