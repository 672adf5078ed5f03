-- Lists of rows' keys, each once, and what is found in them.
use Rattle.std.specs.Prelude.{◌≡◌, ◌||◌, List, [], ◌∷◌, Bool, true, false, Option, Some, refl, cond, map, is_some}
use Rattle.std.specs.List.{fold}
use Rattle.std.specs.BTreeMap.{is_at}
use Rattle.std.proofs.Common.{sym, ap, ◌∙◌}
use Rattle.std.proofs.lemmas.Map.Made.{is_some-lookup}
use Rattle.std.proofs.Math.Bool.{or-false}
use Rattle.merge_table.proofs.LookUps.{lookup-insert_entry}
use Rattle.merge_types.specs.declared.row_key.RowKey.{RowKey as Key}
use Rattle.merge_types.specs.RowKeys.{key_cmp}
use Rattle.merge_model.specs.Tables.Keys.{same_key, has_key, row_at, put_row}
use Rattle.merge_model.specs.Publisher.Entries as entry
use Rattle.merge_model.proofs.Lists.KeyLookUps.{key-test}
use Rattle.merge_model.proofs.Lists.{any-same}
use Rattle.merge_model.proofs.Publishers.Sorted.{key_total}

put-head : (s o h : Bool) → ((s || o) || h) ≡ (o || (s || h))
put-head true true h = refl
put-head true false h = refl
put-head false o h = refl

pub some-head : {A : Type 0} (b : Bool) (v : A) (found : Option A) → is_some (let now : Option A = cond b (Some v) found in now) ≡ (b || is_some found)
some-head true v found = refl
some-head false v found = refl

pub put-keys : (keys : List Key) (others : List (Key × Unit {0})) (key : Key)
    → is_some (row_at (fold (λ (os : List (Key × Unit {0})) (k : Key). put_row os k tt) others keys) key) ≡ (is_some (row_at others key) || has_key keys key)
put-keys [] others key = sym (or-false (is_some (row_at others key)))
put-keys (k ∷ keys) others key =
    let here : is_some (row_at (put_row others k tt) key) ≡ (same_key key k || is_some (row_at others key)) =
    ap (λ (o : Option (Unit {0})). is_some o) (lookup-insert_entry key_cmp key_total k key tt others) ∙ some-head (is_at (key_cmp key) k) tt (row_at others key) ∙ ap (λ (b : Bool). b || is_some (row_at others key)) (key-test key k) in
    put-keys keys (put_row others k tt) key ∙ ap (λ (b : Bool). b || has_key keys key) here ∙ put-head (same_key key k) (is_some (row_at others key)) (has_key keys key)

pub row-key : (entries : List (Key × Unit {0})) (key : Key) → has_key (map (λ (e : Key × Unit {0}). e.0) entries) key ≡ is_some (row_at entries key)
row-key entries key = any-same (same_key key) (is_at (key_cmp key)) (λ k. sym (key-test key k)) (map (λ (e : Key × Unit {0}). e.0) entries) ∙ sym (is_some-lookup (is_at (key_cmp key)) entries)

-- each once, however many lines it has
pub keys-once : (keys : List Key) (key : Key) → has_key (entry.keys_of [] keys) key ≡ has_key keys key
keys-once keys key = row-key (fold (λ (os : List (Key × Unit {0})) (k : Key). put_row os k tt) [] keys) key ∙ put-keys keys [] key
