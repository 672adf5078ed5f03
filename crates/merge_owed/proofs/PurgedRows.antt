-- What a purge leaves of the publisher's rows, and what the history has as purged then.
use Rattle.std.specs.BTreeMap.{is_at}
use Rattle.std.specs.List.{fold}
use Rattle.std.specs.List.Sorted.{IsStrictlySortedBy}
use Rattle.std.specs.Map.{keys_of}
use Rattle.std.specs.Prelude.{Bool, List, None, Option, Some, [], cond, false, filter, is_some, map, not, refl, true, ◌||◌, ◌≡◌, ◌∷◌}
use Rattle.std.proofs.Common.{ap, arith, sym, ◌∙◌}
use Rattle.merge_types.specs.RowKeys.{key_cmp}
use Rattle.merge_types.specs.declared.row_key.RowKey.{RowKey as Key}
use Rattle.merge_units.specs.declared.site_row.PublisherRow.{PublisherRow}
use Rattle.merge_model.specs.History.{History}
use Rattle.merge_model.specs.Tables.Keys.{has_key, row_at, same_key}
use Rattle.merge_model.specs.History.Noting
use Rattle.merge_model.proofs.Lists.KeyLookUps.{key-test, keys-exact}
use Rattle.merge_model.proofs.Lists.PlaceLookUps.{kept, lookup-filter}
use Rattle.merge_model.proofs.Publishers.Sorted.{key_total}

-- a key is among the keys of rows just where a row is found
found-step : (q : Key) (row : Key × PublisherRow) (b c : Bool) (rest : Option PublisherRow) → is_at (key_cmp q) row.0 ≡ b → same_key q row.0 ≡ b → c ≡ is_some rest → (same_key q row.0 || c) ≡ is_some (let found : Option PublisherRow = cond (is_at (key_cmp q) row.0) (Some row.1) rest in found)
found-step q row b c rest at is same = grind (arith, at, is, same)

keys-found : (q : Key) (rows : List (Key × PublisherRow)) → has_key (map (λ (row : Key × PublisherRow). row.0) rows) q ≡ is_some (row_at rows q)
keys-found q [] = refl
keys-found q (row ∷ rows) = found-step q row (is_at (key_cmp q) row.0) (has_key (map (λ (r : Key × PublisherRow). r.0) rows) q) (row_at rows q) refl (sym (key-test q row.0)) (keys-found q rows)

abbrev pub keys_old : (Key × PublisherRow → Bool) → List (Key × PublisherRow) → List Key
keys_old old rows = map (λ (row : Key × PublisherRow). row.0) (filter old rows)

-- a row that a purge took
pub record Dropped (old : Key × PublisherRow → Bool) (rows : List (Key × PublisherRow)) (q : Key) : Type 0 where
  pub row : PublisherRow
  pub held : row_at rows q ≡ Some row
  pub is_old : old (q, row) ≡ true
  pub gone : row_at (filter (λ (r : Key × PublisherRow). not (old r)) rows) q ≡ None

module _ (old : Key × PublisherRow → Bool) (rows : List (Key × PublisherRow)) (q : Key) (sorted : IsStrictlySortedBy key_cmp (keys_of rows)) where
  left-is : row_at (filter (λ (r : Key × PublisherRow). not (old r)) rows) q ≡ kept (λ (r : Key × PublisherRow). not (old r)) q (row_at rows q)
  left-is = lookup-filter key_cmp key_total keys-exact (λ (r : Key × PublisherRow). not (old r)) q rows sorted

  old-is : has_key (keys_old old rows) q ≡ is_some (kept old q (row_at rows q))
  old-is = keys-found q (filter old rows) ∙ ap (λ (found : Option PublisherRow). is_some found) (lookup-filter key_cmp key_total keys-exact old q rows sorted)

  either-way : (found : Option PublisherRow) → is_some found ≡ true → (is_some (kept (λ (r : Key × PublisherRow). not (old r)) q found) || is_some (kept old q found)) ≡ true
  either-way None is = absurd cc
  either-way (Some row) is = elim (old (q, row)) as (λ (b : Bool). (let left : Option PublisherRow = cond (not b) (Some row) None in let taken : Option PublisherRow = cond b (Some row) None in is_some left || is_some taken) ≡ true) [
    | true ↦ refl
    | false ↦ refl
  ]

  -- a row that was held is left, or among those that are purged
  pub left-or-old : is_some (row_at rows q) ≡ true → (is_some (row_at (filter (λ (r : Key × PublisherRow). not (old r)) rows) q) || has_key (keys_old old rows) q) ≡ true
  left-or-old is =
      let both = either-way (row_at rows q) is in
      let one = ap (λ (found : Option PublisherRow). is_some found) left-is in
      let other = old-is in
      grind (arith, both, one, other)

  dropped-by : (found : Option PublisherRow) → row_at rows q ≡ found → is_some (kept old q found) ≡ true → Dropped old rows q
  dropped-by None at is = absurd (grind (arith, is))
  dropped-by (Some row) at is = elim (old (q, row)) as (λ (b : Bool). old (q, row) ≡ b → is_some (let taken : Option PublisherRow = cond b (Some row) None in taken) ≡ true → Dropped old rows q) [
    | true ↦ (λ e some. record {
      row = row;
      held = at;
      is_old = e;
      gone = left-is ∙ ap (λ (found : Option PublisherRow). kept (λ (r : Key × PublisherRow). not (old r)) q found) at ∙ ap (λ (b : Bool). (let left : Option PublisherRow = cond (not b) (Some row) None in left)) e;
    })
    | false ↦ (λ e some. absurd (grind (arith, some)))
  ] refl is

  pub was-dropped : has_key (keys_old old rows) q ≡ true → Dropped old rows q
  was-dropped is = dropped-by (row_at rows q) refl (sym old-is ∙ is)

  -- and one that a purge took is among those
  taken-old : (found : Option PublisherRow) (row : PublisherRow) → found ≡ Some row → old (q, row) ≡ true → is_some (kept old q found) ≡ true
  taken-old None row at is = absurd cc
  taken-old (Some other) row at is = (let same : other ≡ row = cc in let here : old (q, other) ≡ true = ap (λ (r : PublisherRow). old (q, r)) same ∙ is in grind (arith, here))

  pub is-among : (row : PublisherRow) → row_at rows q ≡ Some row → old (q, row) ≡ true → has_key (keys_old old rows) q ≡ true
  is-among row at is = old-is ∙ taken-old (row_at rows q) row at is

-- what the history has as purged
or-turned : (a b c : Bool) → (a || (b || c)) ≡ ((b || a) || c)
or-turned a b c = grind (arith)

pub purged-has : (keys : List Key) (h : History) (q : Key) → has_key (fold Noting.with_purged h keys).purged q ≡ (has_key keys q || has_key h.purged q)
purged-has [] h q = refl
purged-has (key ∷ keys) h q = purged-has keys (Noting.with_purged h key) q ∙ or-turned (has_key keys q) (same_key q key) (has_key h.purged q)
