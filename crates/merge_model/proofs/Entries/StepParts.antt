-- The partitions of a step: each subscription stands once among the sites, and a partition asks for bodies alone.
use Rattle.std.specs.Prelude.{◌≡◌, ◌≢◌, ◌≤◌, ◌==◌, ◌||◌, ℕ, zero, suc, AllPairs, List, [], ◌∷◌, Bool, true, false, Option, Some, None, refl, cond, filter_map, find, is_some, length, map}
use Rattle.std.specs.BTreeMap.{is_at}
use Rattle.std.specs.Cmp.{nat_cmp_total}
use Rattle.std.specs.List.{AllByRecursion, cons_option, fold, list_any, zip}
use Rattle.std.specs.Map.{keys_of}
use Rattle.std.specs.Ordering.{match_ordering, nat_cmp}
use Rattle.std.specs.declared.cmp.Ordering.{Ordering}
use Rattle.std.specs.declared.cmp.Ordering.TheVariants.{Less, Equal, Greater}
use Rattle.std.proofs.Common.{arith, sym, ap, ◌∙◌}
use Rattle.std.proofs.lemmas.Bool.Decides.{nat_tests}
use Rattle.std.proofs.lemmas.List.Elements.{recursion_from_All}
use Rattle.std.proofs.lemmas.Map.Lookups.{exact_unsigned}
use Rattle.std.proofs.lemmas.Map.Made.{is_some-lookup, keys_of-map_values}
use Rattle.merge_units.specs.declared.version.Version.{Version}
use Rattle.merge_schema.specs.Partition.{LiveRow, partition_of}
use Rattle.merge_schema.specs.Valid.{IsValid}
use Rattle.merge_schema.specs.declared.publication.Publication.{Publication}
use Rattle.merge_schema.specs.declared.publication.Subscription.{Subscription}
use Rattle.merge_schema.proofs.Searches.{any_map}
use Rattle.merge_model.specs.Publisher.Entries as entry
use Rattle.merge_model.specs.Publisher.Entries.{Parts, key_of_live, live_row, live_rows, parts_of, partition_keys, with_rows}
use Rattle.merge_types.specs.RowKeys.{key_cmp}
use Rattle.merge_model.specs.Tables.Keys.{at_number, has_key, put_number, put_row, row_at}
use Rattle.merge_model.specs.Tables.Publications.{by_site}
use Rattle.merge_resolve.specs.Priorities.{subscription_at}
use Rattle.merge_types.specs.declared.row_key.RowKey.{RowKey as Key}
use Rattle.merge_units.specs.declared.site_row.PublisherRow.{PublisherRow}
use Rattle.merge_model.proofs.Entries.EntryLists.{all-put}
use Rattle.merge_model.proofs.Lists.KeyLists.{put-keys, row-key}
use Rattle.merge_model.proofs.Lists.{all-both, any-same}
use Rattle.merge_model.proofs.Entries.EntryLists.{puts-hold}

-- a publication that a file can say
abbrev pub CanBeSaid : Publication → Type 0
CanBeSaid publication = (resolvers : ℕ) × IsValid resolvers publication

-- Of distinct sites, the subscriptions of a number are the one that is found.

pairs-head : {X : Type 0} (R : X → X → Type 0) (x : X) (xs : List X) → AllPairs R (x ∷ xs) → AllByRecursion (R x) xs
pairs-head R x xs pairs = recursion_from_All (R x) xs (λ k d less. pairs zero (suc k) d (omega arith) (omega (arith, less)))

pairs-tail : {X : Type 0} (R : X → X → Type 0) (x : X) (xs : List X) → AllPairs R (x ∷ xs) → AllPairs R xs
pairs-tail R x xs pairs = λ i j d less inside. pairs (suc i) (suc j) d (omega (arith, less)) (omega (arith, inside))

all-mapped : {X Y : Type 0} (P : Y → Type 0) (f : X → Y) (xs : List X) → AllByRecursion P (map f xs) → AllByRecursion (λ (x : X). P (f x)) xs
all-mapped P f [] all = tt
all-mapped P f (x ∷ xs) all = (all.0, all-mapped P f xs all.1)

abbrev site_number : Subscription → ℕ
site_number s = s.site.0

abbrev IsFound : ℕ → Option Subscription → Subscription → Type 0
IsFound n found s = (s.site.0 == n) ≡ true → found ≡ Some s

found-first : (n : ℕ) (s : Subscription) (rest : Option Subscription) → (s.site.0 == n) ≡ true → cond (s.site.0 == n) (Some s) rest ≡ Some s
found-first n s rest is = ap (λ (b : Bool). (let found : Option Subscription = cond b (Some s) rest in found)) is

found-later : (n : ℕ) (s t : Subscription) (rest : Option Subscription) → s.site.0 ≢ t.site.0 → IsFound n rest t → IsFound n (cond (s.site.0 == n) (Some s) rest) t
found-later n s t rest differs found is =
    let other : (s.site.0 == n) ≡ false = grind (arith, nat_tests, differs, is) in
    ap (λ (b : Bool). (let first : Option Subscription = cond b (Some s) rest in first)) other ∙ found is

distinct-found : (n : ℕ) (subscriptions : List Subscription) → AllPairs (λ (a b : ℕ). a ≢ b) (map site_number subscriptions)
    → AllByRecursion (IsFound n (find (λ (s : Subscription). s.site.0 == n) subscriptions)) subscriptions
distinct-found n [] pairs = tt
distinct-found n (s ∷ subscriptions) pairs =
    let rest : Option Subscription = find (λ (x : Subscription). x.site.0 == n) subscriptions in (
      (λ is. found-first n s rest is),
      all-both (λ (t : Subscription). s.site.0 ≢ t.site.0) (IsFound n rest) (IsFound n (cond (s.site.0 == n) (Some s) rest)) (λ t differs found. found-later n s t rest differs found) subscriptions
          (all-mapped (λ (k : ℕ). s.site.0 ≢ k) site_number subscriptions (pairs-head (λ (a b : ℕ). a ≢ b) s.site.0 (map site_number subscriptions) pairs))
          (distinct-found n subscriptions (pairs-tail (λ (a b : ℕ). a ≢ b) s.site.0 (map site_number subscriptions) pairs)),
    )

abbrev EntryIsFound : ℕ → Option Subscription → ℕ × Subscription → Type 0
EntryIsFound n found e = (e.0 == n) ≡ true → found ≡ Some e.1

sites-put : (n : ℕ) (found : Option Subscription) (subscriptions : List Subscription) (es : List (ℕ × Subscription)) → AllByRecursion (IsFound n found) subscriptions → AllByRecursion (EntryIsFound n found) es
    → AllByRecursion (EntryIsFound n found) (fold (λ (others : List (ℕ × Subscription)) (s : Subscription). put_number others s.site.0 s) es subscriptions)
sites-put n found [] es all before = before
sites-put n found (s ∷ subscriptions) es all before =
    sites-put n found subscriptions (put_number es s.site.0 s) all.1
    (all-put (EntryIsFound n found) nat_cmp s.site.0 s (λ q same is. all.0 (ap (λ (k : ℕ). k == n) (exact_unsigned s.site.0 q same) ∙ is)) all.0 es before)

number-test : (n k : ℕ) → is_at (nat_cmp n) k ≡ (k == n)
number-test n k = grind (arith, nat_tests)

pub sites-found : (publication : Publication) (n : ℕ) → CanBeSaid publication → AllByRecursion (EntryIsFound n (subscription_at publication n)) (by_site publication)
sites-found publication n valid = sites-put n (subscription_at publication n) publication.subscriptions [] (distinct-found n publication.subscriptions valid.1.distinct_sites) tt

some-of : {X : Type 0} (b : Bool) (x : X) (found : Option X) (more : Bool) → is_some found ≡ more → is_some (cond b (Some x) found) ≡ (b || more)
some-of true x found more same = refl
some-of false x found more same = same

pub found-any : {X : Type 0} (test : X → Bool) (xs : List X) → is_some (find test xs) ≡ list_any test xs
found-any test [] = refl
found-any test (x ∷ xs) = some-of (test x) x (find test xs) (list_any test xs) (found-any test xs)

-- a subscription that is found stands there
pub site-stands : (publication : Publication) (n : ℕ) → is_some (subscription_at publication n) ≡ true → list_any (λ (e : ℕ × Subscription). e.0 == n) (by_site publication) ≡ true
site-stands publication n some =
    let any : list_any (λ (s : Subscription). s.site.0 == n) publication.subscriptions ≡ true = sym (found-any (λ (s : Subscription). s.site.0 == n) publication.subscriptions) ∙ some in
    let stands : is_some (at_number (by_site publication) n) ≡ true = puts-hold nat_cmp nat_cmp_total site_number (λ (s : Subscription). s) (λ (found : Option Subscription). is_some found ≡ true) n
    (λ (s : Subscription). s.site.0 == n) (λ s. number-test n s.site.0) publication.subscriptions []
    (recursion_from_All (λ (s : Subscription). (s.site.0 == n) ≡ true → is_some (Some s) ≡ true) publication.subscriptions (λ k d less is. refl)) (λ none. absurd (grind (arith, any, none))) in
    sym (any_map (λ (e : ℕ × Subscription). e.0) (λ (k : ℕ). k == n) (by_site publication)) ∙ sym (any-same (is_at (nat_cmp n)) (λ (k : ℕ). k == n) (λ k. number-test n k) (keys_of (by_site publication)))
    ∙ sym (is_some-lookup (is_at (nat_cmp n)) (by_site publication)) ∙ stands

-- The parts of a step, for one site.

abbrev pub found_keys : Publication → Option Subscription → List (Key × PublisherRow) → List Key
found_keys publication found rows = elim found [ None ↦ [] | Some subscription ↦ partition_keys publication subscription rows ]

-- the parts of this site are these
abbrev pub IsPart : ℕ → List Key → List Key → Parts → Type 0
IsPart n before after part = (part.site == n) ≡ true → (part.before ≡ before) × (part.after ≡ after)

abbrev part_of : Publication → List (Key × PublisherRow) → List (Key × PublisherRow) → ℕ × Subscription → Parts
part_of publication before after s = record { site = s.0; before = partition_keys publication s.1 before; after = partition_keys publication s.1 after }

module _ (publication : Publication) (n : ℕ) (before after : List (Key × PublisherRow)) where
  parts-found : (es : List (ℕ × Subscription)) → AllByRecursion (EntryIsFound n (subscription_at publication n)) es
      → AllByRecursion (IsPart n (found_keys publication (subscription_at publication n) before) (found_keys publication (subscription_at publication n) after)) (map (part_of publication before after) es)
  parts-found [] all = tt
  parts-found (e ∷ es) all = (
    (λ is. (
      sym (ap (λ (o : Option Subscription). found_keys publication o before) (all.0 is)),
      sym (ap (λ (o : Option Subscription). found_keys publication o after) (all.0 is)),
    )),
    parts-found es all.1,
  )

  pub parts-are : CanBeSaid publication
      → AllByRecursion (IsPart n (found_keys publication (subscription_at publication n) before) (found_keys publication (subscription_at publication n) after)) (parts_of publication before after)
  parts-are valid = parts-found (by_site publication) (sites-found publication n valid)

  pub part-stands : is_some (subscription_at publication n) ≡ true → list_any (λ (part : Parts). part.site == n) (parts_of publication before after) ≡ true
  part-stands some = any_map (part_of publication before after) (λ (part : Parts). part.site == n) (by_site publication) ∙ site-stands publication n some

-- of a site that does not subscribe there are none
no-entry : (n : ℕ) (found : Option Subscription) (e : ℕ × Subscription) → is_some found ≡ false → EntryIsFound n found e → (e.0 == n) ≡ true → ⊥
no-entry n found e none each is = absurd (grind (arith, none, each is))

strangers-found : (publication : Publication) (n : ℕ) (before after : List (Key × PublisherRow)) (x y : List Key) (es : List (ℕ × Subscription)) → is_some (subscription_at publication n) ≡ false → AllByRecursion (EntryIsFound n (subscription_at publication n)) es
    → AllByRecursion (IsPart n x y) (map (part_of publication before after) es)
strangers-found publication n before after x y [] none all = tt
strangers-found publication n before after x y (e ∷ es) none all = ((λ is. absurd (no-entry n (subscription_at publication n) e none all.0 is)), strangers-found publication n before after x y es none all.1)

pub strangers-parts : (publication : Publication) (n : ℕ) (before after : List (Key × PublisherRow)) (x y : List Key) → CanBeSaid publication → is_some (subscription_at publication n) ≡ false → AllByRecursion (IsPart n x y) (parts_of publication before after)
strangers-parts publication n before after x y valid none = strangers-found publication n before after x y (by_site publication) none (sites-found publication n valid)

pub none-found : (publication : Publication) (found : Option Subscription) (rows : List (Key × PublisherRow)) (key : Key) → is_some found ≡ false → has_key (found_keys publication found rows) key ≡ false
none-found publication None rows key none = refl
none-found publication (Some subscription) rows key none = absurd (grind (arith, none))

-- Which rows are live is seen in their versions.

abbrev versions_in : List (Key × PublisherRow) → List (Key × Version)
versions_in rows = map (λ (row : Key × PublisherRow). (row.0, row.1.version)) rows

abbrev live_versions : List (Key × Version) → List LiveRow
live_versions versions = filter_map (λ (row : Key × Version). live_row row.0 row.1.body) versions

live-by : (rows : List (Key × PublisherRow)) → live_rows rows ≡ live_versions (versions_in rows)
live-by [] = refl
live-by (row ∷ rows) = ap (λ (rest : List LiveRow). cons_option (live_row row.0 row.1.version.body) rest) (live-by rows)

put-test : (found : Ordering) (k : Key) (row : PublisherRow) (e : Key × PublisherRow) (rest new : List (Key × PublisherRow)) (other : List (Key × Version)) → versions_in new ≡ other
    → versions_in (match_ordering found ((k, row) ∷ e ∷ rest) ((e.0, row) ∷ rest) (e ∷ new)) ≡ match_ordering found ((k, row.version) ∷ versions_in (e ∷ rest)) ((e.0, row.version) ∷ versions_in rest) ((e.0, e.1.version) ∷ other)
put-test Less k row e rest new other same = refl
put-test Equal k row e rest new other same = refl
put-test Greater k row e rest new other same = ap (λ (others : List (Key × Version)). (e.0, e.1.version) ∷ others) same

put-versions : (k : Key) (row : PublisherRow) (rows : List (Key × PublisherRow)) → versions_in (put_row rows k row) ≡ put_row (versions_in rows) k row.version
put-versions k row [] = refl
put-versions k row (e ∷ rows) = put-test (key_cmp k e.0) k row e rows (put_row rows k row) (put_row (versions_in rows) k row.version) (put-versions k row rows)

abbrev puts : List (Key × Version) → List (Key × Version) → List (Key × Version)
puts rows versions = fold (λ (others : List (Key × Version)) (row : Key × Version). put_row others row.0 row.1) rows versions

rows-versions : (xs : List ((Key × Version) × ℕ)) (rows : List (Key × PublisherRow)) → versions_in (with_rows rows xs) ≡ puts (versions_in rows) (map (λ (x : (Key × Version) × ℕ). x.0) xs)
rows-versions [] rows = refl
rows-versions (x ∷ xs) rows =
    let new : PublisherRow = record { version = x.0.1; changed = x.1 } in
    rows-versions xs (put_row rows x.0.0 new) ∙ ap (λ (others : List (Key × Version)). puts others (map (λ (y : (Key × Version) × ℕ). y.0) xs)) (put-versions x.0.0 new rows)

all-zipped : (versions : List (Key × Version)) (generations : List ℕ) → length versions ≤ length generations → map (λ (x : (Key × Version) × ℕ). x.0) (zip versions generations) ≡ versions
all-zipped [] generations enough = refl
all-zipped (v ∷ versions) [] enough = absurd (omega (arith, enough))
all-zipped (v ∷ versions) (g ∷ generations) enough = ap (λ (rest : List (Key × Version)). v ∷ rest) (all-zipped versions generations (omega (arith, enough)))

all-paired : (versions : List (Key × Version)) → map (λ (x : (Key × Version) × ℕ). x.0) (map (λ (row : Key × Version). (row, 0)) versions) ≡ versions
all-paired [] = refl
all-paired (v ∷ versions) = ap (λ (rest : List (Key × Version)). v ∷ rest) (all-paired versions)

-- whatever the generations of changed rows are, the same rows are live
pub live-same : (versions : List (Key × Version)) (generations : List ℕ) (rows : List (Key × PublisherRow)) → length versions ≤ length generations
    → live_rows (with_rows rows (zip versions generations)) ≡ live_rows (with_rows rows (map (λ (row : Key × Version). (row, 0)) versions))
live-same versions generations rows enough =
    let here : versions_in (with_rows rows (zip versions generations)) ≡ puts (versions_in rows) versions =
    rows-versions (zip versions generations) rows ∙ ap (λ (vs : List (Key × Version)). puts (versions_in rows) vs) (all-zipped versions generations enough) in
    let there : versions_in (with_rows rows (map (λ (row : Key × Version). (row, 0)) versions)) ≡ puts (versions_in rows) versions =
    rows-versions (map (λ (row : Key × Version). (row, 0)) versions) rows ∙ ap (λ (vs : List (Key × Version)). puts (versions_in rows) vs) (all-paired versions) in
    live-by (with_rows rows (zip versions generations)) ∙ ap live_versions (here ∙ sym there) ∙ sym (live-by (with_rows rows (map (λ (row : Key × Version). (row, 0)) versions)))

pub found-same : (publication : Publication) (found : Option Subscription) (rows others : List (Key × PublisherRow)) → live_rows rows ≡ live_rows others → found_keys publication found rows ≡ found_keys publication found others
found-same publication None rows others same = refl
found-same publication (Some subscription) rows others same = ap (λ (live : List LiveRow). map key_of_live (partition_of publication subscription.host live)) same

-- The rows that a step goes over.

abbrev nothing_of : PublisherRow → Unit {0}
nothing_of row = tt

pub keys-held : (rows : List (Key × PublisherRow)) (acted : List Key) (key : Key) → has_key (entry.keys_of rows acted) key ≡ (is_some (row_at rows key) || has_key acted key)
keys-held rows acted key =
    let marked : List (Key × Unit {0}) = map (λ (row : Key × PublisherRow). (row.0, tt)) rows in
    let same : is_some (row_at marked key) ≡ is_some (row_at rows key) =
    is_some-lookup (is_at (key_cmp key)) marked ∙ ap (λ (keys : List Key). list_any (is_at (key_cmp key)) keys) (keys_of-map_values nothing_of rows) ∙ sym (is_some-lookup (is_at (key_cmp key)) rows) in
    row-key (fold (λ (others : List (Key × Unit {0})) (k : Key). put_row others k tt) marked acted) key ∙ put-keys acted marked key ∙ ap (λ (b : Bool). b || has_key acted key) same
