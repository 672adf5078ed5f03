-- Rows' keys that are the same, and what is found by a row's key.
use Rattle.std.specs.Prelude.{◌≡◌, ℕ, List, [], ◌∷◌, Bool, true, false, Option, Some, None, refl, if◌then◌else◌, cond}
use Rattle.std.specs.BTreeMap.{is_at}
use Rattle.std.specs.List.Sorted.{IsStrictlySortedBy}
use Rattle.std.specs.Map.{keys_of}
use Rattle.std.specs.declared.cmp.Ordering.TheVariants.{Equal}
use Rattle.std.proofs.Common.{arith, ap, ◌∙◌, sym, subst}
use Rattle.std.proofs.lemmas.Bool.Decides.{nat_tests}
use Rattle.merge_table.proofs.LookUps.{lookup-insert_entry, lookup-remove_entry}
use Rattle.merge_types.specs.RowKeys.{key_cmp}
use Rattle.merge_model.specs.Tables.Keys.{drop_row, put_row, row_at, same_key}
use Rattle.merge_types.specs.declared.row_key.RowKey.{RowKey as Key}
use Rattle.merge_model.proofs.Publishers.Sorted.{key_total}
use Rattle.merge_table.proofs.Room.{rest_above}
use Rattle.merge_table.proofs.Slots.{lookup_above}
use Rattle.std.specs.Cmp.{Equal-is}

-- keys with the same parts are the same
parts-same : (a b : Key) → a.article ≡ b.article → a.row.0 ≡ b.row.0 → a ≡ b
parts-same a b e f = ap (λ (article : ℕ). (let key : Key = record { article = article; row = a.row } in key)) e ∙ ap (λ (row : ℕ). (let key : Key = record { article = b.article; row = record { 0 = row } } in key)) f

pub keys-same : (a b : Key) → same_key a b ≡ true → a ≡ b
keys-same a b e =
    let article : a.article ≡ b.article = grind (arith, nat_tests, e) in
    let row : a.row.0 ≡ b.row.0 = grind (arith, nat_tests, e) in
    parts-same a b article row

pub key-test : (q k : Key) → is_at (key_cmp q) k ≡ same_key q k
key-test q k = grind (arith, nat_tests)

pub keys-exact : (a b : Key) → is_at (key_cmp a) b ≡ true → a ≡ b
keys-exact a b is = keys-same a b (sym (key-test a b) ∙ is)

pub keys-tied : (a b : Key) → key_cmp a b ≡ Equal → a ≡ b
keys-tied a b e = keys-same a b (let same : same_key a b ≡ true = grind (arith, nat_tests, key-test a b, e) in same)

pub key-itself : (key : Key) → same_key key key ≡ true
key-itself key = grind (arith, nat_tests)

pub keys-turned : (a b : Key) → same_key a b ≡ true → same_key b a ≡ true
keys-turned a b e = grind (arith, nat_tests, e)

-- behind a row there is none with its key
pub none-behind : {V : Type 0} (q : Key) (row : Key × V) (rows : List (Key × V)) → IsStrictlySortedBy key_cmp (keys_of (row ∷ rows)) → is_at (key_cmp q) row.0 ≡ true → row_at rows q ≡ None
none-behind q row rows sorted here = lookup_above key_cmp q rows (rest_above key_cmp key_total q row.0 (keys_of rows) sorted ((Equal-is (key_cmp q row.0)).0 here))

-- after a row is put, or dropped
pub row-put : {V : Type 0} (rows : List (Key × V)) (key : Key) (row : V) (q : Key) → row_at (put_row rows key row) q ≡ (if same_key q key then Some row else row_at rows q)
row-put {V = V} rows key row q = lookup-insert_entry key_cmp key_total key q row rows ∙ ap (λ (b : Bool). (let found : Option V = cond b (Some row) (row_at rows q) in found)) (key-test q key)

pub row-dropped : {V : Type 0} (rows : List (Key × V)) (key q : Key) → IsStrictlySortedBy key_cmp (keys_of rows) → row_at (drop_row rows key) q ≡ (if same_key q key then None else row_at rows q)
row-dropped {V = V} rows key q sorted = lookup-remove_entry key_cmp key_total key q rows sorted ∙ ap (λ (b : Bool). (let found : Option V = cond b None (row_at rows q) in found)) (key-test q key)

-- what is dropped is not another row, whatever the order of the list
dropped-step : {V : Type 0} (q key : Key) (e : Key × V) (es more : List (Key × V)) (b : Bool) → is_at (key_cmp key) e.0 ≡ b → same_key q key ≡ false → row_at more q ≡ row_at es q → row_at (let left : List (Key × V) = cond b es (e ∷ more) in left) q ≡ row_at (e ∷ es) q
dropped-step {V = V} q key e es more true is other same =
    let differs : is_at (key_cmp q) e.0 ≡ false = subst (λ (k : Key). is_at (key_cmp q) k ≡ false) (keys-exact key e.0 is) (key-test q key ∙ other) in
    sym (ap (λ (b : Bool). (let found : Option V = cond b (Some e.1) (row_at es q) in found)) differs)
dropped-step {V = V} q key e es more false is other same = ap (λ (rest : Option V). (let found : Option V = cond (is_at (key_cmp q) e.0) (Some e.1) rest in found)) same

pub row-left : {V : Type 0} (q key : Key) (rows : List (Key × V)) → same_key q key ≡ false → row_at (drop_row rows key) q ≡ row_at rows q
row-left q key [] other = refl
row-left q key (e ∷ es) other = dropped-step q key e es (drop_row es key) (is_at (key_cmp key) e.0) refl other (row-left q key es other)
