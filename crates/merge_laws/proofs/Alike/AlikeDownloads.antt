-- A download has the same rows by mappings and by lines: what is touched is held or told of, and the lists ascend.
use Rattle.std.specs.Prelude.{◌≡◌, ◌||◌, List, [], ◌∷◌, Bool, true, false, Option, Some, None, refl, if◌then◌else◌, cond, filter_map, is_some, map}
use Rattle.std.specs.BTreeMap.{is_at}
use Rattle.std.specs.List.{cons_option, fold}
use Rattle.std.specs.List.Sorted.{IsStrictlySortedBy}
use Rattle.std.specs.Map.{keys_of}
use Rattle.std.specs.declared.cmp.Ordering.TheVariants.{Less}
use Rattle.std.proofs.Common.{arith, subst, sym, ap, ◌∙◌}
use Rattle.std.proofs.lemmas.Map.Keys.{sorted_tail}
use Rattle.merge_table.proofs.Sorted.{sorted_put}
use Rattle.merge_table.proofs.LookUps.{rows_from_look_ups}
use Rattle.merge_table.proofs.Room.{AreAbove}
use Rattle.merge_model.specs.Publisher.Entries
use Rattle.merge_types.specs.RowKeys.{key_cmp}
use Rattle.merge_model.specs.Tables.Keys.{has_key, put_row, row_at}
use Rattle.merge_types.specs.declared.row_key.RowKey.{RowKey as Key}
use Rattle.merge_units.specs.declared.site_row.PublisherRow.{PublisherRow}
use Rattle.merge_model.proofs.Publishers.Sorted.{key_total}
use Rattle.merge_model.proofs.Lists.KeyLookUps.{keys-exact, keys-tied, none-behind}
use Rattle.merge_model.proofs.Lists.KeyLists.{put-keys}

-- Picking from keys in order: what is found is what is picked of a key that is there.

module _ {T : Type 0} (f : Key → Option T) where
  abbrev with_pick : Key → Option T → List (Key × T) → List (Key × T)
  with_pick key None rest = rest
  with_pick key (Some t) rest = (key, t) ∷ rest

  abbrev picked : List (Key × Unit {0}) → List (Key × T)
  picked [] = []
  picked (e ∷ es) = with_pick e.0 (f e.0) (picked es)

  picks-step : (key : Key) (found : Option T) (es : List (Key × Unit {0})) → filter_map f (map (λ (e : Key × Unit {0}). e.0) es) ≡ map (λ (e : Key × T). e.1) (picked es)
      → cons_option found (filter_map f (map (λ (e : Key × Unit {0}). e.0) es)) ≡ map (λ (e : Key × T). e.1) (with_pick key found (picked es))
  picks-step key None es rest = rest
  picks-step key (Some t) es rest = ap (λ (ts : List T). t ∷ ts) rest

  picks : (es : List (Key × Unit {0})) → filter_map f (map (λ (e : Key × Unit {0}). e.0) es) ≡ map (λ (e : Key × T). e.1) (picked es)
  picks [] = refl
  picks (e ∷ es) = picks-step e.0 (f e.0) es (picks es)

  abbrev if_there : Bool → Key → Option T
  if_there there q = if there then f q else None

  found-step : (q key : Key) (here : Bool) (found : Option T) (kept : List (Key × T)) (rest : Option (Unit {0})) → is_at (key_cmp q) key ≡ here → f key ≡ found → (here ≡ true → rest ≡ None) → row_at kept q ≡ if_there (is_some rest) q
      → row_at (with_pick key found kept) q ≡ if_there (is_some (let now : Option (Unit {0}) = cond here (Some tt) rest in now)) q
  found-step q key true None kept rest at is none h =
      h ∙ ap (λ (o : Option (Unit {0})). if_there (is_some o) q) (none refl) ∙ sym is ∙ sym (ap f (keys-exact q key at))
  found-step q key true (Some t) kept rest at is none h = ap (λ (b : Bool). (let now : Option T = cond b (Some t) (row_at kept q) in now)) at ∙ sym is ∙ sym (ap f (keys-exact q key at))
  found-step q key false None kept rest at is none h = h
  found-step q key false (Some t) kept rest at is none h = ap (λ (b : Bool). (let now : Option T = cond b (Some t) (row_at kept q) in now)) at ∙ h

  picked-found : (q : Key) (es : List (Key × Unit {0})) → IsStrictlySortedBy key_cmp (keys_of es) → row_at (picked es) q ≡ if_there (is_some (row_at es q)) q
  picked-found q [] sorted = refl
  picked-found q (e ∷ es) sorted = found-step q e.0 (is_at (key_cmp q) e.0) (f e.0) (picked es) (row_at es q) refl refl (λ here. none-behind q e es sorted here) (picked-found q es (sorted_tail key_cmp e.0 (keys_of es) sorted))

  above-pick : (k key : Key) (found : Option T) (kept : List (Key × T)) → key_cmp k key ≡ Less → AreAbove key_cmp k (keys_of kept) → AreAbove key_cmp k (keys_of (with_pick key found kept))
  above-pick k key None kept first rest = rest
  above-pick k key (Some t) kept first rest = (first, rest)

  above-picked : (k : Key) (es : List (Key × Unit {0})) → AreAbove key_cmp k (keys_of es) → AreAbove key_cmp k (keys_of (picked es))
  above-picked k [] above = tt
  above-picked k (e ∷ es) above = above-pick k e.0 (f e.0) (picked es) above.0 (above-picked k es above.1)

  pick-ascends : (key : Key) (found : Option T) (kept : List (Key × T)) → AreAbove key_cmp key (keys_of kept) → IsStrictlySortedBy key_cmp (keys_of kept) → IsStrictlySortedBy key_cmp (keys_of (with_pick key found kept))
  unfolding IsStrictlySortedBy
  pick-ascends key None kept above rest = rest
  pick-ascends key (Some t) kept above rest = (above, rest)

  picked-ascends : (es : List (Key × Unit {0})) → IsStrictlySortedBy key_cmp (keys_of es) → IsStrictlySortedBy key_cmp (keys_of (picked es))
  unfolding IsStrictlySortedBy
  picked-ascends [] sorted = tt
  picked-ascends (e ∷ es) sorted = pick-ascends e.0 (f e.0) (picked es) (above-picked e.0 es sorted.0) (picked-ascends es sorted.1)

  -- the rows that are there may differ where nothing is picked
  picked-same : (es ds : List (Key × Unit {0})) → IsStrictlySortedBy key_cmp (keys_of es) → IsStrictlySortedBy key_cmp (keys_of ds) → ((q : Key) → if_there (is_some (row_at es q)) q ≡ if_there (is_some (row_at ds q)) q)
      → filter_map f (map (λ (e : Key × Unit {0}). e.0) es) ≡ filter_map f (map (λ (e : Key × Unit {0}). e.0) ds)
  picked-same es ds one other same = picks es
      ∙ ap (λ (kept : List (Key × T)). map (λ (e : Key × T). e.1) kept)
      (rows_from_look_ups key_cmp key_total keys-tied (picked es) (picked ds) (picked-ascends es one) (picked-ascends ds other) (λ q. picked-found q es one ∙ same q ∙ sym (picked-found q ds other)))
      ∙ sym (picks ds)

-- The keys of a step: the rows that are held with others that are put among them.

abbrev held_units : List (Key × PublisherRow) → List (Key × Unit {0})
held_units rows = map (λ (row : Key × PublisherRow). (row.0, tt)) rows

abbrev put_units : List (Key × Unit {0}) → List Key → List (Key × Unit {0})
put_units es keys = fold (λ (os : List (Key × Unit {0})) (k : Key). put_row os k tt) es keys

units-keys : (rows : List (Key × PublisherRow)) → keys_of (held_units rows) ≡ keys_of rows
units-keys [] = refl
units-keys (row ∷ rows) = ap (λ (keys : List Key). row.0 ∷ keys) (units-keys rows)

unit-step : (b : Bool) (row : PublisherRow) (units : Option (Unit {0})) (rest : Option PublisherRow) → is_some units ≡ is_some rest
    → is_some (let found : Option (Unit {0}) = cond b (Some tt) units in found) ≡ is_some (let found : Option PublisherRow = cond b (Some row) rest in found)
unit-step true row units rest same = refl
unit-step false row units rest same = same

units-found : (rows : List (Key × PublisherRow)) (q : Key) → is_some (row_at (held_units rows) q) ≡ is_some (row_at rows q)
units-found [] q = refl
units-found (row ∷ rows) q = unit-step (is_at (key_cmp q) row.0) row.1 (row_at (held_units rows) q) (row_at rows q) (units-found rows q)

put-ascends : (keys : List Key) (es : List (Key × Unit {0})) → IsStrictlySortedBy key_cmp (keys_of es) → IsStrictlySortedBy key_cmp (keys_of (put_units es keys))
put-ascends [] es sorted = sorted
put-ascends (k ∷ keys) es sorted = put-ascends keys (put_row es k tt) (sorted_put key_cmp key_total k tt es sorted)

keys-found : (rows : List (Key × PublisherRow)) (keys : List Key) (q : Key) → is_some (row_at (put_units (held_units rows) keys) q) ≡ (is_some (row_at rows q) || has_key keys q)
keys-found rows keys q = put-keys keys (held_units rows) q ∙ ap (λ (b : Bool). b || has_key keys q) (units-found rows q)

there-test : {T : Type 0} (a b : Bool) (found : Option T) → (is_some found ≡ true → a ≡ true) → (is_some found ≡ true → b ≡ true) → (if a then found else None) ≡ (if b then found else None)
there-test true true found one other = refl
there-test false false found one other = refl
there-test true false None one other = refl
there-test true false (Some t) one other = absurd (grind (arith, other refl))
there-test false true None one other = refl
there-test false true (Some t) one other = absurd (grind (arith, one refl))

-- What is picked of rows that are held or told of does not depend on which others are told of.
pub told-same : {T : Type 0} (f : Key → Option T) (rows : List (Key × PublisherRow)) (one other : List Key) → IsStrictlySortedBy key_cmp (keys_of rows)
    → ((q : Key) → is_some (f q) ≡ true → (is_some (row_at rows q) || has_key one q) ≡ true) → ((q : Key) → is_some (f q) ≡ true → (is_some (row_at rows q) || has_key other q) ≡ true)
    → filter_map f (Entries.keys_of rows one) ≡ filter_map f (Entries.keys_of rows other)
told-same f rows one other sorted first second =
    let held : IsStrictlySortedBy key_cmp (keys_of (held_units rows)) = subst (λ (keys : List Key). IsStrictlySortedBy key_cmp keys) (sym (units-keys rows)) sorted in
    picked-same f (put_units (held_units rows) one) (put_units (held_units rows) other) (put-ascends one (held_units rows) held) (put-ascends other (held_units rows) held)
    (λ q. there-test (is_some (row_at (put_units (held_units rows) one) q)) (is_some (row_at (put_units (held_units rows) other) q)) (f q)
    (λ is. keys-found rows one q ∙ first q is) (λ is. keys-found rows other q ∙ second q is))
