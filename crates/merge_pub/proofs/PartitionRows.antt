-- The rows of a site's partition, among all rows in their order.
use Rattle.std.specs.Prelude.{◌≡◌, List, [], ◌∷◌, Bool, true, Option, Some, None, refl, cond, filter, map, option_map}
use Rattle.std.specs.List.{AllByRecursion, cons_option}
use Rattle.std.specs.List.Sorted.{IsStrictlySortedBy}
use Rattle.std.specs.Map.{keys_of}
use Rattle.std.specs.declared.cmp.Ordering.TheVariants.{Less}
use Rattle.std.proofs.Common.{sym, ap, ◌∙◌, subst}
use Rattle.std.proofs.lemmas.List.Elements.{recursion_from_All}
use Rattle.merge_types.specs.RowKeys.{key_cmp, key_exact}
use Rattle.merge_types.specs.declared.identifiers.SiteId.{SiteId}
use Rattle.merge_types.specs.declared.row_key.RowKey.{RowKey as Key}
use Rattle.merge_table.proofs.Given.{same-filters}
use Rattle.merge_table.proofs.Room.{AreAbove}
use Rattle.merge_units.specs.declared.site_row.PublisherRow.{PublisherRow}
use Rattle.merge_units.specs.declared.version.Body.{Body}
use Rattle.merge_units.specs.declared.version.Body.TheVariants.{Dead, Live}
use Rattle.merge_schema.specs.Partition.{LiveRow, partition_of, partition_where}
use Rattle.merge_schema.specs.declared.publication.Publication.{Publication}
use Rattle.merge_schema.specs.declared.publication.Subscription.{Subscription}
use Rattle.merge_schema.proofs.ListMembers.{any_at}
use Rattle.merge_schema.proofs.PartitionOrder.{Ascend, IsAbove, partition_ascends}
use Rattle.merge_schema.proofs.Searches.{all_members}
use Rattle.merge_resolve.specs.Priorities.{subscription_at}
use Rattle.merge_model.specs.Publisher.Entries.{key_of_live, live_row, live_rows, partition_keys}
use Rattle.merge_model.specs.Tables.Keys.{has_key, same_key}
use Rattle.merge_model.specs.Publisher.PublisherDownload.{inside_keys}
use Rattle.merge_model.specs.World.Reports.{partition_rows}
use Rattle.merge_model.specs.Tables.{PublisherTables}
use Rattle.merge_model.proofs.Lists.KeyLookUps.{key-itself}
use Rattle.merge_model.proofs.Publishers.Sorted.{key_total}
use Rattle.merge_pub.specs.Held.{Held, publication_of, tables_of}
use Rattle.merge_steps.proofs.Told.{in-partition, in-rows}
use Rattle.merge_steps.proofs.Whole.{has-is}

-- The live rows ascend, as the rows do.

head-above : (key at : Key) (body : Body) (rest : List LiveRow) → key_cmp key at ≡ Less → AllByRecursion (IsAbove key) rest → AllByRecursion (IsAbove key) (cons_option (live_row at body) rest)
head-above key at (Dead top) rest less all = all
head-above key at (Live cells) rest less all = (less, all)

live-above : (key : Key) (rows : List (Key × PublisherRow)) → AreAbove key_cmp key (keys_of rows) → AllByRecursion (IsAbove key) (live_rows rows)
live-above key [] all = tt
live-above key (row ∷ rows) all = head-above key row.0 row.1.version.body (live_rows rows) all.0 (live-above key rows all.1)

head-ascends : (at : Key) (body : Body) (rest : List LiveRow) → AllByRecursion (IsAbove at) rest → Ascend rest → Ascend (cons_option (live_row at body) rest)
unfolding IsStrictlySortedBy
head-ascends at (Dead top) rest above sorted = sorted
head-ascends at (Live cells) rest above sorted = (above, sorted)

live-ascend : (rows : List (Key × PublisherRow)) → IsStrictlySortedBy key_cmp (keys_of rows) → Ascend (live_rows rows)
unfolding IsStrictlySortedBy
live-ascend [] sorted = tt
live-ascend (row ∷ rows) sorted = head-ascends row.0 row.1.version.body (live_rows rows) (live-above row.0 rows sorted.0) (live-ascend rows sorted.1)

-- and so do their keys
keys-above : (key : Key) (rows : List LiveRow) → AllByRecursion (IsAbove key) rows → AreAbove key_cmp key (map key_of_live rows)
keys-above key [] all = tt
keys-above key (row ∷ rows) all = (all.0, keys-above key rows all.1)

keys-ascend : (rows : List LiveRow) → Ascend rows → IsStrictlySortedBy key_cmp (map key_of_live rows)
unfolding IsStrictlySortedBy
keys-ascend [] sorted = tt
keys-ascend (row ∷ rows) sorted = (keys-above (key_of_live row) rows sorted.0, keys-ascend rows sorted.1)

-- The rows that pass the test of the partition are the partition.

abbrev part_of : Publication → List (Key × PublisherRow) → Option Subscription → List Key
part_of publication rows found = elim found [ None ↦ [] | Some subscription ↦ partition_keys publication subscription rows ]

none-ascend : IsStrictlySortedBy key_cmp []
unfolding IsStrictlySortedBy
none-ascend = tt

part-ascends : (publication : Publication) (rows : List (Key × PublisherRow)) → IsStrictlySortedBy key_cmp (keys_of rows) → (found : Option Subscription) → IsStrictlySortedBy key_cmp (part_of publication rows found)
part-ascends publication rows sorted None = none-ascend
part-ascends publication rows sorted (Some s) = keys-ascend (partition_of publication s.host (live_rows rows)) (partition_ascends publication s.host (live_rows rows) (live-ascend rows sorted))

part-held : (publication : Publication) (rows : List (Key × PublisherRow)) (key : Key) (found : Option Subscription) → has_key (part_of publication rows found) key ≡ true → has_key (keys_of rows) key ≡ true
part-held publication rows key None is = absurd cc
part-held publication rows key (Some s) is = in-rows publication s.host rows key (sym (in-partition publication s.host (live_rows rows) key) ∙ is)

part-is : (publication : Publication) (rows : List (Key × PublisherRow)) (found : Option Subscription) → part_of publication rows found ≡ map key_of_live (partition_where (option_map (λ (s : Subscription). s.host) found) publication (live_rows rows))
part-is publication rows None = refl
part-is publication rows (Some s) = refl

all-kept : (test : Key → Bool) (keys : List Key) → AllByRecursion (λ (key : Key). test key ≡ true) keys → filter test keys ≡ keys
all-kept test [] all = refl
all-kept test (key ∷ keys) all = ap (λ (b : Bool). (let kept : List Key = cond b (key ∷ filter test keys) (filter test keys) in kept)) all.0 ∙ ap (λ (rest : List Key). key ∷ rest) (all-kept test keys all.1)

own-kept : (keys : List Key) → filter (has_key keys) keys ≡ keys
own-kept keys =
    let Passes : Key → Type 0 = λ key. has_key keys key ≡ true in
    all-kept (has_key keys) keys (recursion_from_All Passes keys (all_members Passes keys (λ key there. any_at (same_key key) keys key there (key-itself key))))

partition-kept : (publication : Publication) (site : SiteId) (p : PublisherTables) → IsStrictlySortedBy key_cmp (keys_of p.rows) → filter (has_key (inside_keys publication site p)) (keys_of p.rows) ≡ partition_rows publication site p
partition-kept publication site p sorted =
    let found : Option Subscription = subscription_at publication site.0 in
    let inside : List Key = inside_keys publication site p in
    same-filters key_cmp key_total key_exact (has_key inside) (keys_of p.rows) inside sorted (part-ascends publication p.rows sorted found)
    (λ key is. has-is (keys_of p.rows) key ∙ part-held publication p.rows key found is ∙ sym (has-is inside key ∙ is))
    ∙ own-kept inside
    ∙ part-is publication p.rows found

pub partition-told : (h now : Held) → h ≡ now → (site : SiteId) (inside : List Key) → IsStrictlySortedBy key_cmp (keys_of h.rows.rows)
    → inside ≡ filter (has_key (inside_keys (publication_of now) site (tables_of now))) (keys_of (tables_of now).rows) → inside ≡ partition_rows (publication_of now) site (tables_of now)
partition-told h now same site inside sorted is =
    is
    ∙ subst (λ (x : Held). filter (has_key (inside_keys (publication_of x) site (tables_of x))) (keys_of (tables_of x).rows) ≡ partition_rows (publication_of x) site (tables_of x)) same
    (partition-kept (publication_of h) site (tables_of h) sorted)
