-- What is found after many puts, and after many takes; maps and filters of rows as changes.
use Rattle.std.specs.Prelude.{◌≡◌, ◌||◌, ℕ, List, [], ◌∷◌, Bool, true, false, not, Option, Some, None, refl, cond, filter, is_some, map}
use Rattle.std.specs.BTreeMap.{is_at, insert_entry}
use Rattle.std.specs.Cmp.{IsTotalOrder, Equal-is}
use Rattle.std.specs.List.{list_any}
use Rattle.std.specs.List.Sorted.{IsStrictlySortedBy}
use Rattle.std.specs.Map.{keys_of, lookup, remove_entry}
use Rattle.std.specs.declared.cmp.Ordering.{Ordering}
use Rattle.std.specs.declared.cmp.Ordering.TheVariants.{Equal, Less}
use Rattle.std.proofs.Common.{sym, ap, ◌∙◌}
use Rattle.std.proofs.lemmas.Map.Keys.{sorted_tail}
use Rattle.merge_table.specs.declared.edit.Edit.{Edit}
use Rattle.merge_table.specs.declared.edit.Edit.TheVariants.{Put, Take}
use Rattle.merge_table.specs.Edits.{rows_after_all}
use Rattle.merge_table.proofs.LookUps.{lookup-insert_entry, lookup-remove_entry, rows_from_look_ups}
use Rattle.merge_table.proofs.Room.{AreAbove, rest_above}
use Rattle.merge_table.proofs.Slots.{lookup_above}
use Rattle.merge_table.proofs.Sorted.{sorted_take, sorted_after_all}

-- the first that is there
abbrev pub or_else : {V : Type 0} → Option V → Option V → Option V
or_else None other = other
or_else (Some v) other = Some v

module _ {K V : Type 0} (cmp : K → K → Ordering) (o : IsTotalOrder cmp) (exact : (x y : K) → cmp x y ≡ Equal → x ≡ y) where
  abbrev pub put_of : K × V → Edit K V
  put_of e = Put e.0 e.1

  head-put : (b : Bool) (v : V) (found other : Option V) → (b ≡ true → found ≡ None) → or_else found (let x : Option V = cond b (Some v) other in x) ≡ or_else (let x : Option V = cond b (Some v) found in x) other
  head-put true v found other none = ap (λ (x : Option V). or_else x (Some v)) (none refl)
  head-put false v found other none = refl

  -- after puts of rows in order, each of them is found, and else what was there
  pub found-puts : (q : K) (es rows : List (K × V)) → IsStrictlySortedBy cmp (keys_of es) → lookup (is_at (cmp q)) (rows_after_all cmp rows (map put_of es)) ≡ or_else (lookup (is_at (cmp q)) es) (lookup (is_at (cmp q)) rows)
  found-puts q [] rows sorted = refl
  found-puts q (e ∷ es) rows sorted =
      found-puts q es (insert_entry cmp rows e.0 e.1) (sorted_tail cmp e.0 (keys_of es) sorted)
      ∙ ap (λ (x : Option V). or_else (lookup (is_at (cmp q)) es) x) (lookup-insert_entry cmp o e.0 q e.1 rows)
      ∙ head-put (is_at (cmp q) e.0) e.1 (lookup (is_at (cmp q)) es) (lookup (is_at (cmp q)) rows) (λ at. lookup_above cmp q es (rest_above cmp o q e.0 (keys_of es) sorted ((Equal-is (cmp q e.0)).0 at)))

  -- new rows of the same keys take the places of all
  over-all : (found other : Option V) → (found ≡ None → other ≡ None) → or_else found other ≡ found
  over-all None other none = none refl
  over-all (Some v) other none = refl

  head-none : (b : Bool) (v w : V) (found other : Option V) → (found ≡ None → other ≡ None) → (let x : Option V = cond b (Some v) found in x) ≡ None → (let x : Option V = cond b (Some w) other in x) ≡ None
  head-none true v w found other none is = absurd cc
  head-none false v w found other none is = none is

  module _ (f : K × V → V) where
    abbrev pub new_row : K × V → K × V
    new_row e = (e.0, f e)

    none-there : (q : K) (rows : List (K × V)) → lookup (is_at (cmp q)) (map new_row rows) ≡ None → lookup (is_at (cmp q)) rows ≡ None
    none-there q [] is = refl
    none-there q (e ∷ rows) is = head-none (is_at (cmp q) e.0) (f e) e.1 (lookup (is_at (cmp q)) (map new_row rows)) (lookup (is_at (cmp q)) rows) (none-there q rows) is

    new-keys : (rows : List (K × V)) → keys_of (map new_row rows) ≡ keys_of rows
    new-keys [] = refl
    new-keys (e ∷ rows) = ap (λ (ks : List K). e.0 ∷ ks) (new-keys rows)

    -- a map by value, as edits
    pub map-edits : (rows : List (K × V)) → IsStrictlySortedBy cmp (keys_of rows) → rows_after_all cmp rows (map put_of (map new_row rows)) ≡ map new_row rows
    map-edits rows sorted =
        let new-sorted : IsStrictlySortedBy cmp (keys_of (map new_row rows)) = rw (new-keys rows) sorted in
        rows_from_look_ups cmp o exact (rows_after_all cmp rows (map put_of (map new_row rows))) (map new_row rows) (sorted_after_all cmp o rows (map put_of (map new_row rows)) sorted) new-sorted
        (λ q. found-puts q (map new_row rows) rows new-sorted ∙ over-all (lookup (is_at (cmp q)) (map new_row rows)) (lookup (is_at (cmp q)) rows) (none-there q rows))

  head-take : (b c : Bool) (found : Option V) → (let x : Option V = cond c None (let y : Option V = cond b None found in y) in x) ≡ (let x : Option V = cond (b || c) None found in x)
  head-take true true found = refl
  head-take true false found = refl
  head-take false c found = refl

  -- after takes nothing is found at their keys, and else what was there
  pub found-takes : (q : K) (ks : List K) (rows : List (K × V)) → IsStrictlySortedBy cmp (keys_of rows) → lookup (is_at (cmp q)) (rows_after_all cmp rows (map Take ks)) ≡ (let x : Option V = cond (list_any (is_at (cmp q)) ks) None (lookup (is_at (cmp q)) rows) in x)
  found-takes q [] rows sorted = refl
  found-takes q (k ∷ ks) rows sorted =
      found-takes q ks (remove_entry (is_at (cmp k)) rows) (sorted_take cmp o (is_at (cmp k)) rows sorted)
      ∙ ap (λ (x : Option V). (let y : Option V = cond (list_any (is_at (cmp q)) ks) None x in y)) (lookup-remove_entry cmp o k q rows sorted)
      ∙ head-take (is_at (cmp q) k) (list_any (is_at (cmp q)) ks) (lookup (is_at (cmp q)) rows)

  abbrev pub kept : (K × V → Bool) → K → Option V → Option V
  kept keep q None = None
  kept keep q (Some v) = cond (keep (q, v)) (Some v) None

  kept-head : (keep : K × V → Bool) (q : K) (v : V) (new found : Option V) (c : Bool) → (c ≡ true → keep (q, v) ≡ true) → new ≡ kept keep q found → (let x : Option V = cond c (Some v) new in x) ≡ kept keep q (let x : Option V = cond c (Some v) found in x)
  kept-head keep q v new found true keeps same = rw (keeps refl) refl
  kept-head keep q v new found false keeps same = same

  left-head : (keep : K × V → Bool) (q : K) (v : V) (new found : Option V) (c : Bool) → (c ≡ true → keep (q, v) ≡ false) → (c ≡ true → found ≡ None) → new ≡ kept keep q found → new ≡ kept keep q (let x : Option V = cond c (Some v) found in x)
  left-head keep q v new found true leaves none same = same ∙ ap (λ (x : Option V). kept keep q x) (none refl) ∙ rw (leaves refl) refl
  left-head keep q v new found false leaves none same = same

  filter-step : (keep : K × V → Bool) (q : K) (e : K × V) (es : List (K × V)) (b : Bool) → keep e ≡ b → (is_at (cmp q) e.0 ≡ true → keep (q, e.1) ≡ keep e) → (is_at (cmp q) e.0 ≡ true → lookup (is_at (cmp q)) es ≡ None)
      → lookup (is_at (cmp q)) (filter keep es) ≡ kept keep q (lookup (is_at (cmp q)) es) → lookup (is_at (cmp q)) (let x : List (K × V) = cond b (e ∷ filter keep es) (filter keep es) in x) ≡ kept keep q (lookup (is_at (cmp q)) (e ∷ es))
  filter-step keep q e es true keeps same none rest = kept-head keep q e.1 (lookup (is_at (cmp q)) (filter keep es)) (lookup (is_at (cmp q)) es) (is_at (cmp q) e.0) (λ at. same at ∙ keeps) rest
  filter-step keep q e es false leaves same none rest = left-head keep q e.1 (lookup (is_at (cmp q)) (filter keep es)) (lookup (is_at (cmp q)) es) (is_at (cmp q) e.0) (λ at. same at ∙ leaves) none rest

  -- what is found among the rows that a test keeps
  pub found-filter : (keep : K × V → Bool) (q : K) (es : List (K × V)) → IsStrictlySortedBy cmp (keys_of es) → lookup (is_at (cmp q)) (filter keep es) ≡ kept keep q (lookup (is_at (cmp q)) es)
  found-filter keep q [] sorted = refl
  found-filter keep q (e ∷ es) sorted =
      filter-step keep q e es (keep e) refl (λ at. ap (λ (k : K). keep (k, e.1)) (exact q e.0 ((Equal-is (cmp q e.0)).0 at)))
      (λ at. lookup_above cmp q es (rest_above cmp o q e.0 (keys_of es) sorted ((Equal-is (cmp q e.0)).0 at)))
      (found-filter keep q es (sorted_tail cmp e.0 (keys_of es) sorted))

  above-step : (a : K) (e : K × V) (b : Bool) (kept : List (K × V)) → cmp a e.0 ≡ Less → AreAbove cmp a (keys_of kept) → AreAbove cmp a (keys_of (let x : List (K × V) = cond b (e ∷ kept) kept in x))
  above-step a e true kept less above = (less, above)
  above-step a e false kept less above = above

  above-filter : (keep : K × V → Bool) (a : K) (es : List (K × V)) → AreAbove cmp a (keys_of es) → AreAbove cmp a (keys_of (filter keep es))
  above-filter keep a [] above = tt
  above-filter keep a (e ∷ es) above = above-step a e (keep e) (filter keep es) above.0 (above-filter keep a es above.1)

  sorted-step : (e : K × V) (b : Bool) (kept : List (K × V)) → AreAbove cmp e.0 (keys_of kept) → IsStrictlySortedBy cmp (keys_of kept) → IsStrictlySortedBy cmp (keys_of (let x : List (K × V) = cond b (e ∷ kept) kept in x))
  unfolding IsStrictlySortedBy
  sorted-step e true kept above sorted = (above, sorted)
  sorted-step e false kept above sorted = sorted

  -- rows that a test keeps stay in order
  pub sorted-filter : (keep : K × V → Bool) (es : List (K × V)) → IsStrictlySortedBy cmp (keys_of es) → IsStrictlySortedBy cmp (keys_of (filter keep es))
  unfolding IsStrictlySortedBy
  sorted-filter keep [] sorted = tt
  sorted-filter keep (e ∷ es) sorted = sorted-step e (keep e) (filter keep es) (above-filter keep e.0 es sorted.0) (sorted-filter keep es sorted.1)

  gone-by : (keep : K × V → Bool) (q : K) (any : Bool) (found here : Option V) → found ≡ here → ((v : V) → found ≡ Some v → any ≡ not (keep (q, v))) → (let x : Option V = cond any None here in x) ≡ kept keep q here
  gone-by keep q any found None is names = elim any as (λ (b : Bool). (let x : Option V = cond b None None in x) ≡ None) [ true ↦ refl | false ↦ refl ]
  gone-by keep q any found (Some v) is names = rw (names v is) (turn (keep (q, v)))
    where
      turn : (b : Bool) → (let x : Option V = cond (not b) None (Some v) in x) ≡ (let x : Option V = cond b (Some v) None in x)
      turn true = refl
      turn false = refl

  -- a filter, as edits that take the keys of what it leaves out
  pub filter-edits : (keep : K × V → Bool) (ks : List K) (rows : List (K × V)) → IsStrictlySortedBy cmp (keys_of rows) → ((q : K) (v : V) → lookup (is_at (cmp q)) rows ≡ Some v → list_any (is_at (cmp q)) ks ≡ not (keep (q, v)))
      → rows_after_all cmp rows (map Take ks) ≡ filter keep rows
  filter-edits keep ks rows sorted names =
      rows_from_look_ups cmp o exact (rows_after_all cmp rows (map Take ks)) (filter keep rows) (sorted_after_all cmp o rows (map Take ks) sorted) (sorted-filter keep rows sorted)
      (λ q. found-takes q ks rows sorted ∙ gone-by keep q (list_any (is_at (cmp q)) ks) (lookup (is_at (cmp q)) rows) (lookup (is_at (cmp q)) rows) refl (names q) ∙ sym (found-filter keep q rows sorted))
