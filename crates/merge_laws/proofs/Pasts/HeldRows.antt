-- Which rows a table holds after rows are put, dropped and changed.
use Rattle.std.specs.Prelude.{◌≡◌, ◌||◌, ℕ, List, [], ◌∷◌, Bool, true, false, Option, Some, None, refl, cond, if◌then◌else◌, is_some, map}
use Rattle.std.specs.BTreeMap.{is_at}
use Rattle.std.specs.List.{list_any, zip}
use Rattle.std.specs.List.Sorted.{IsStrictlySortedBy}
use Rattle.std.specs.Map.{keys_of}
use Rattle.std.specs.Option.{option_to_list}
use Rattle.std.proofs.Common.{arith, sym, ap, ◌∙◌}
use Rattle.merge_units.specs.declared.version.Version.{Version}
use Rattle.merge_schema.specs.declared.publication.Publication.{Publication}
use Rattle.merge_model.specs.Publisher.Entries.{Changing, Entries, changed_by, changing_entries, with_rows}
use Rattle.merge_model.specs.Judge.{PublisherJudge}
use Rattle.merge_types.specs.RowKeys.{key_cmp}
use Rattle.merge_model.specs.Tables.Keys.{drop_row, put_row, row_at, same_key}
use Rattle.merge_types.specs.declared.row_key.RowKey.{RowKey as Key}
use Rattle.merge_units.specs.declared.site_row.PublisherRow.{PublisherRow}
use Rattle.merge_units.specs.declared.site_row.SubscriberRow.{SubscriberRow}
use Rattle.merge_model.specs.Tables.{PublisherTables}
use Rattle.merge_model.specs.Subscriber.Taking.{row_above}
use Rattle.merge_model.proofs.Lists.KeyLookUps.{row-dropped, row-put}

some-if : {A : Type 0} (b : Bool) (x : A) (rest : Option A) → is_some (let found : Option A = if b then Some x else rest in found) ≡ (b || is_some rest)
some-if true x rest = refl
some-if false x rest = refl

pub held-put : {A : Type 0} (rows : List (Key × A)) (key : Key) (row : A) (q : Key) → is_some (row_at (put_row rows key row) q) ≡ (same_key q key || is_some (row_at rows q))
held-put {A = A} rows key row q = ap (λ (found : Option A). is_some found) (row-put rows key row q) ∙ some-if (same_key q key) row (row_at rows q)

pub some-none : {A : Type 0} (b : Bool) (rest : Option A) → is_some (let found : Option A = if b then None else rest in found) ≡ true → (b ≡ false) × (is_some rest ≡ true)
some-none true rest is = absurd (grind (arith, is))
some-none false rest is = (refl, is)

pub held-dropped : {A : Type 0} (rows : List (Key × A)) (key q : Key) → IsStrictlySortedBy key_cmp (keys_of rows) → is_some (row_at (drop_row rows key) q) ≡ true → (same_key q key ≡ false) × (is_some (row_at rows q) ≡ true)
held-dropped {A = A} rows key q sorted is = some-none (same_key q key) (row_at rows q) (sym (ap (λ (found : Option A). is_some found) (row-dropped rows key q sorted)) ∙ is)

-- the rows that the publisher holds after a step
with-rows-held : (rows : List (Key × PublisherRow)) (changed : List ((Key × Version) × ℕ)) (q : Key) → is_some (row_at (with_rows rows changed) q) ≡ (is_some (row_at rows q) || list_any (λ (row : (Key × Version) × ℕ). same_key q row.0.0) changed)
with-rows-held rows [] q = grind (arith)
with-rows-held rows (row ∷ changed) q =
    let more : List (Key × PublisherRow) = put_row rows row.0.0 (record { version = row.0.1; changed = row.1 }) in
    let rest = with-rows-held more changed q in
    let here = held-put rows row.0.0 (record { version = row.0.1; changed = row.1 }) q in
    grind (arith, rest, here)

zip-any : (test : Key × Version → Bool) (versions : List (Key × Version)) (generations : List ℕ) → list_any (λ (row : (Key × Version) × ℕ). test row.0) (zip versions generations) ≡ true → list_any test versions ≡ true
zip-any test [] generations is = is
zip-any test (v ∷ versions) [] is = absurd (grind (arith, is))
zip-any test (v ∷ versions) (g ∷ generations) is = grind (arith, is, zip-any test versions generations)

pub changed-held : (publication : Publication) (judge : PublisherJudge) (changing : Changing) (p : PublisherTables) (q : Key) → is_some (row_at (changed_by publication judge changing p).rows q) ≡ true
    → (is_some (row_at p.rows q) || list_any (λ (row : Key × Version). same_key q row.0) changing.versions) ≡ true
changed-held publication judge changing p q is =
    let entries : Entries = changing_entries publication judge changing p in
    let generations : List ℕ = map (λ (entry : Key × ℕ). entry.1) entries.changed in
    let held = with-rows-held p.rows (zip changing.versions generations) q in
    let versions = zip-any (λ (v : Key × Version). same_key q v.0) changing.versions generations in
    grind (arith, held, versions, is)

-- one version of a row, or none
pub one-version : (q key : Key) (found : Option Version) → list_any (λ (row : Key × Version). same_key q row.0) (map (λ (version : Version). (key, version)) (option_to_list found)) ≡ true → same_key q key ≡ true
one-version q key None is = absurd (grind (arith, is))
one-version q key (Some version) is = grind (arith, is)

-- what is received drops no row
above-held-step : (b : Bool) (received : ℕ) (row : Key × SubscriberRow) (rest more : Option SubscriberRow) → is_some more ≡ is_some rest → is_some (let found : Option SubscriberRow = cond b (Some (row_above received row).1) more in found) ≡ is_some (let found : Option SubscriberRow = cond b (Some row.1) rest in found)
above-held-step true received row rest more same = refl
above-held-step false received row rest more same = same

pub above-held : (received : ℕ) (rows : List (Key × SubscriberRow)) (q : Key) → is_some (row_at (map (row_above received) rows) q) ≡ is_some (row_at rows q)
above-held received [] q = refl
above-held received (row ∷ rows) q = above-held-step (is_at (key_cmp q) row.0) received row (row_at rows q) (row_at (map (row_above received) rows) q) (above-held received rows q)
