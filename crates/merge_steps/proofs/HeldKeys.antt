-- The rows that a step goes over: they ascend, and which there are.
use Rattle.std.specs.Prelude.{◌≡◌, ◌||◌, List, [], ◌∷◌, Bool, true, false, refl, map}
use Rattle.std.specs.BTreeMap.{is_at}
use Rattle.std.specs.List.{fold, list_any}
use Rattle.std.specs.List.Sorted.{IsStrictlySortedBy}
use Rattle.std.specs.Map.{keys_of}
use Rattle.std.proofs.Common.{ap, ◌∙◌}
use Rattle.merge_table.specs.Contents.{has_room}
use Rattle.merge_table.proofs.Room.{has_room-insert_key}
use Rattle.merge_table.proofs.Slots.{keys-insert_entry}
use Rattle.merge_table.proofs.Sorted.{sorted_put}
use Rattle.merge_types.specs.RowKeys.{key_cmp}
use Rattle.merge_types.specs.declared.row_key.RowKey.{RowKey as Key}
use Rattle.merge_units.specs.declared.site_row.PublisherRow.{PublisherRow}
use Rattle.merge_model.specs.Publisher.Entries.{keys_of as all_keys}
use Rattle.merge_model.specs.Tables.Keys.{put_row}
use Rattle.merge_model.proofs.Publishers.Sorted.{key_total}

or-turn : (a b c : Bool) → (a || (b || c)) ≡ ((b || a) || c)
or-turn true true c = refl
or-turn true false c = refl
or-turn false true c = refl
or-turn false false c = refl

abbrev put_all : List (Key × Unit {0}) → List Key → List (Key × Unit {0})
put_all es acted = fold (λ (others : List (Key × Unit {0})) (key : Key). put_row others key tt) es acted

put-sorted : (acted : List Key) (es : List (Key × Unit {0})) → IsStrictlySortedBy key_cmp (keys_of es) → IsStrictlySortedBy key_cmp (keys_of (put_all es acted))
put-sorted [] es sorted = sorted
put-sorted (k ∷ acted) es sorted = put-sorted acted (put_row es k tt) (sorted_put key_cmp key_total k tt es sorted)

put-has : (q : Key) (acted : List Key) (es : List (Key × Unit {0})) → has_room key_cmp (keys_of (put_all es acted)) q ≡ (list_any (is_at (key_cmp q)) acted || has_room key_cmp (keys_of es) q)
put-has q [] es = refl
put-has q (k ∷ acted) es =
    put-has q acted (put_row es k tt)
    ∙ ap (λ (b : Bool). list_any (is_at (key_cmp q)) acted || b) (ap (λ (ks : List Key). has_room key_cmp ks q) (keys-insert_entry key_cmp k tt es) ∙ has_room-insert_key key_cmp key_total k q (keys_of es))
    ∙ or-turn (list_any (is_at (key_cmp q)) acted) (is_at (key_cmp q) k) (has_room key_cmp (keys_of es) q)

firsts : (es : List (Key × Unit {0})) → map (λ (e : Key × Unit {0}). e.0) es ≡ keys_of es
firsts [] = refl
firsts (e ∷ es) = ap (λ (ks : List Key). e.0 ∷ ks) (firsts es)

abbrev unit_row : Key × PublisherRow → Key × Unit {0}
unit_row row = (row.0, tt)

row-keys : (rows : List (Key × PublisherRow)) → keys_of (map unit_row rows) ≡ keys_of rows
row-keys [] = refl
row-keys (row ∷ rows) = ap (λ (ks : List Key). row.0 ∷ ks) (row-keys rows)

pub all-sorted : (rows : List (Key × PublisherRow)) (acted : List Key) → IsStrictlySortedBy key_cmp (keys_of rows) → IsStrictlySortedBy key_cmp (all_keys rows acted)
all-sorted rows acted sorted = rw (firsts (put_all (map unit_row rows) acted)) (put-sorted acted (map unit_row rows) (rw (row-keys rows) sorted))

pub all-has : (rows : List (Key × PublisherRow)) (acted : List Key) (q : Key) → list_any (is_at (key_cmp q)) (all_keys rows acted) ≡ (list_any (is_at (key_cmp q)) acted || has_room key_cmp (keys_of rows) q)
all-has rows acted q =
    ap (λ (ks : List Key). list_any (is_at (key_cmp q)) ks) (firsts (put_all (map unit_row rows) acted))
    ∙ put-has q acted (map unit_row rows)
    ∙ ap (λ (ks : List Key). list_any (is_at (key_cmp q)) acted || has_room key_cmp ks q) (row-keys rows)
