-- The moves of a membership are the moves of a local change.
use Rattle.std.specs.Prelude.{◌≡◌, ◌≢◌, ◌==◌, ◌&&◌, ◌||◌, ◌↔◌, ℕ, zero, suc, AllPairs, List, [], ◌∷◌, Bool, true, false, not, Option, Some, None, refl, cond, filter, find, flat_map, is_some, map, option_map, Contains}
use Rattle.std.specs.BTreeMap.{is_at}
use Rattle.std.specs.Cmp.{nat_cmp_total, eq_by_cmp_equiv, Equal-is}
use Rattle.std.specs.List.{AllByRecursion, cons_option, fold, list_any}
use Rattle.std.specs.List.Sorted.{IsStrictlySortedBy}
use Rattle.std.specs.Map.{keys_of, lookup}
use Rattle.std.specs.Ordering.{match_ordering, nat_cmp, ordering_then}
use Rattle.std.specs.declared.cmp.Ordering.{Ordering}
use Rattle.std.specs.declared.cmp.Ordering.TheVariants.{Less, Equal, Greater}
use Rattle.std.proofs.Common.{arith, sym, ap, ◌∙◌, subst, inl, inr}
use Rattle.std.proofs.lemmas.Bool.Decides.{nat_tests}
use Rattle.std.proofs.lemmas.List.Elements.{recursion_from_All}
use Rattle.std.proofs.lemmas.Map.Keys.{IsDistinct-from_sorted}
use Rattle.std.proofs.lemmas.Map.Lookups.{exact_unsigned}
use Rattle.std.proofs.lemmas.Map.Views.{Contains-from_lookup, lookup-from_Contains}
use Rattle.merge_types.specs.declared.identifiers.RowId.{RowId}
use Rattle.merge_types.specs.declared.identifiers.SiteId.{SiteId}
use Rattle.merge_types.specs.declared.identifiers.HostName.{HostName}
use Rattle.merge_table.proofs.LookUps.{rows_from_look_ups}
use Rattle.merge_table.proofs.Sorted.{sorted_put}
use Rattle.merge_schema.specs.Partition.{LiveRow, host_of, is_in, is_in_at, is_in_where, partition_of}
use Rattle.merge_schema.specs.declared.publication.Publication.{Publication}
use Rattle.merge_schema.specs.declared.publication.Subscription.{Subscription}
use Rattle.merge_schema.proofs.ListMembers.{any_at, any_found, contains_cases, contains_filter, contains_from_filter, contains_none}
use Rattle.merge_schema.proofs.Partitions.{in_by_partition, partition_reasons}
use Rattle.merge_schema.proofs.Searches.{all_members, any_map}
use Rattle.merge_part.specs.Moves.{AreMoves, kind_number, move_cmp}
use Rattle.merge_part.specs.declared.change.Move.{Move}
use Rattle.merge_units.specs.declared.version.Body.{Body}
use Rattle.merge_units.specs.declared.version.Body.TheVariants.{Dead, Live}
use Rattle.merge_units.specs.declared.version.Cell.{Cell}
use Rattle.merge_model.specs.Publisher.Entries.{Parts, Touched, key_of_live, keys_of as all_keys, live_row, live_rows, move_of, moves_of, parts_of, partition_keys}
use Rattle.merge_model.specs.Tables.Keys.{at_row_site, has_key, put_number, same_key}
use Rattle.merge_types.specs.RowKeys.{key_cmp}
use Rattle.merge_gens.specs.Moves.{is_left, row_site_cmp}
use Rattle.merge_gens.specs.Moves.{row_site_exact}
use Rattle.merge_model.specs.Tables.Publications.{by_site}
use Rattle.merge_resolve.specs.Priorities.{subscription_at}
use Rattle.merge_types.specs.declared.row_key.RowKey.{RowKey as Key}
use Rattle.merge_gens.specs.declared.moves.RowSite.{RowSite}
use Rattle.merge_gens.specs.declared.moves.MoveKind.{MoveKind}
use Rattle.merge_gens.specs.declared.moves.MoveKind.TheVariants.{Entered, Left}
use Rattle.merge_units.specs.declared.site_row.PublisherRow.{PublisherRow}
use Rattle.merge_steps.specs.Tie.{Says, changed_alone, entry_of, is_entered, is_told, key_moved, told_moves}
use Rattle.merge_model.proofs.Lists.Finding.{some_same}
use Rattle.merge_model.proofs.Lists.KeyLookUps.{key-itself, keys-same}
use Rattle.merge_model.proofs.Publishers.Sorted.{row_site_total}
use Rattle.merge_model.proofs.Entries.StepParts.{CanBeSaid, site-stands, sites-found}
use Rattle.merge_steps.proofs.Moved.{moves-ascend, moves-found}

pub same-bool : (a b : Bool) → (a ≡ true → b ≡ true) → (b ≡ true → a ≡ true) → a ≡ b
same-bool true b to from = sym (to refl)
same-bool false true to from = from refl
same-bool false false to from = refl

pub contains-first : {X : Type 0} (x : X) (xs : List X) → Contains (x ∷ xs) x
contains-first x xs = (0, omega arith, refl)

pub contains-later : {X : Type 0} (x : X) (xs : List X) (y : X) → Contains xs y → Contains (x ∷ xs) y
contains-later x xs y (k, less, at) = (suc k, omega (arith, less), at)

pub contains-map : {X Y : Type 0} (f : X → Y) (xs : List X) (x : X) → Contains xs x → Contains (map f xs) (f x)
contains-map f [] x there = absurd (contains_none x there)
contains-map {X = X} {Y = Y} f (y ∷ xs) x there = elim (contains_cases y xs x there) [
  | inl same ↦ subst (λ (z : X). Contains (f y ∷ map f xs) (f z)) same (contains-first (f y) (map f xs))
  | inr later ↦ contains-later (f y) (map f xs) (f x) (contains-map f xs x later)
]

pub contains-from_map : {X Y : Type 0} (f : X → Y) (xs : List X) (y : Y) → Contains (map f xs) y → (x : X) × Contains xs x × (f x ≡ y)
contains-from_map f [] y there = absurd (contains_none y there)
contains-from_map {X = X} {Y = Y} f (x ∷ xs) y there = elim (contains_cases (f x) (map f xs) y there) [
  | inl same ↦ (x, contains-first x xs, same)
  | inr later ↦ let more = contains-from_map f xs y later in (more.0, contains-later x xs more.0 more.1, more.2)
]

-- Partitions as lists of keys, and as tests.

live-key : (key : Key) (inside : LiveRow) → same_key key (key_of_live inside) ≡ true → (inside.article ≡ key.article) × (inside.row ≡ key.row)
live-key key inside same =
    let e = keys-same key (key_of_live inside) same in
    (sym (ap (λ (k : Key). k.article) e), sym (ap (λ (k : Key). k.row) e))

pub key-live : (key : Key) (inside : LiveRow) → inside.article ≡ key.article → inside.row ≡ key.row → same_key key (key_of_live inside) ≡ true
key-live key inside article row = let number : inside.row.0 ≡ key.row.0 = ap (λ (r : RowId). r.0) row in grind (arith, nat_tests, article, number)

pub in-partition : (publication : Publication) (host : HostName) (live : List LiveRow) (key : Key) → has_key (map key_of_live (partition_of publication host live)) key ≡ is_in publication host live key.article key.row
in-partition publication host live key =
    let test : LiveRow → Bool = λ x. same_key key (key_of_live x) in
    any_map key_of_live (same_key key) (partition_of publication host live)
    ∙ same-bool (list_any test (partition_of publication host live)) (is_in publication host live key.article key.row)
    (λ found. (let at = any_found test (partition_of publication host live) found in let parts = live-key key at.0 at.2 in (in_by_partition publication host live key.article key.row).1 (at.0, at.1, parts.0, parts.1)))
    (λ is. (let at = (in_by_partition publication host live key.article key.row).0 is in any_at test (partition_of publication host live) at.0 at.1 (key-live key at.0 at.2 at.3)))

-- The sites of a step's parts.

sites-ordered : (subscriptions : List Subscription) (es : List (ℕ × Subscription)) → IsStrictlySortedBy nat_cmp (keys_of es)
    → IsStrictlySortedBy nat_cmp (keys_of (fold (λ (others : List (ℕ × Subscription)) (s : Subscription). put_number others s.site.0 s) es subscriptions))
sites-ordered [] es sorted = sorted
sites-ordered (s ∷ subscriptions) es sorted = sites-ordered subscriptions (put_number es s.site.0 s) (sorted_put nat_cmp nat_cmp_total s.site.0 s es sorted)

none-sorted : IsStrictlySortedBy nat_cmp (keys_of (let none : List (ℕ × Subscription) = [] in none))
unfolding IsStrictlySortedBy
none-sorted = tt

part-sites : (publication : Publication) (rows rows' : List (Key × PublisherRow)) (es : List (ℕ × Subscription))
    → map (λ (p : Parts). p.site) (map (λ (s : ℕ × Subscription). (let p : Parts = record { site = s.0; before = partition_keys publication s.1 rows; after = partition_keys publication s.1 rows' } in p)) es) ≡ keys_of es
part-sites publication rows rows' [] = refl
part-sites publication rows rows' (e ∷ es) = ap (λ (ns : List ℕ). e.0 ∷ ns) (part-sites publication rows rows' es)

pub parts-ascend : (publication : Publication) (rows rows' : List (Key × PublisherRow)) → IsStrictlySortedBy nat_cmp (map (λ (p : Parts). p.site) (parts_of publication rows rows'))
parts-ascend publication rows rows' = rw (part-sites publication rows rows' (by_site publication)) (sites-ordered publication.subscriptions [] none-sorted)

-- What is found among a membership's moves.

told-kind : (kind : MoveKind) (b a c : Bool) → b ≡ is_left kind → a ≡ not (is_left kind) → not (is_entered kind && c) ≡ true → Some (kind) ≡ move_of b a c false
told-kind Entered b a true was is said = absurd cc
told-kind Entered b a false was is said = rw (was, is) refl
told-kind Left b a c was is said = rw (was, is) refl

-- a move that makes an entry
pub record IsMade (b a c : Bool) (kind : MoveKind) : Type 0 where
  pub was : b ≡ is_left kind
  pub then_is : a ≡ not (is_left kind)
  pub said : not (is_entered kind && c) ≡ true

made-kind : (b a c : Bool) (kind : MoveKind) → move_of b a c false ≡ Some kind → IsMade b a c kind
made-kind true true c kind e = absurd cc
made-kind true false c kind e = let is : Left ≡ kind = some_same Left kind e in subst (λ (k : MoveKind). IsMade true false c k) is (record { was = refl; then_is = refl; said = refl })
made-kind false true true kind e = absurd cc
made-kind false true false kind e = let is : Entered ≡ kind = some_same Entered kind e in subst (λ (k : MoveKind). IsMade false true false k) is (record { was = refl; then_is = refl; said = refl })
made-kind false false true kind e = absurd cc
made-kind false false false kind e = absurd cc

less-place : (p q r s : Ordering) → ordering_then p (ordering_then q (ordering_then r s)) ≡ Less → (p ≡ Equal → q ≡ Equal → r ≡ Equal → s ≡ Equal) → ordering_then (ordering_then p q) r ≡ Less
less-place Less q r s less tied = refl
less-place Greater q r s less tied = absurd cc
less-place Equal Less r s less tied = refl
less-place Equal Greater r s less tied = absurd cc
less-place Equal Equal Less s less tied = refl
less-place Equal Equal Greater s less tied = absurd cc
less-place Equal Equal Equal s less tied = let no : Equal ≡ Less = sym (tied refl refl refl) ∙ less in absurd cc

same-kinds : (a b : MoveKind) → is_left a ≡ is_left b → nat_cmp (kind_number a) (kind_number b) ≡ Equal
same-kinds Entered Entered e = refl
same-kinds Entered Left e = absurd cc
same-kinds Left Entered e = absurd cc
same-kinds Left Left e = refl

module _ (publication : Publication) (before after : List LiveRow) (changed : List Key) where
  abbrev pub was_there : RowSite → Bool
  was_there q = is_in_at publication (record { 0 = q.site }) before q.key.article q.key.row

  abbrev pub is_there : RowSite → Bool
  is_there q = is_in_at publication (record { 0 = q.site }) after q.key.article q.key.row

  abbrev pub here : RowSite → Option MoveKind
  here q = move_of (was_there q) (is_there q) (has_key changed q.key) false

  abbrev pub Fits : Move → Type 0
  Fits m = is_in_at publication m.site before m.article m.row ≡ is_left m.kind

  abbrev was_at : ℕ → ℕ → ℕ → Bool
  was_at article row site = is_in_at publication (record { 0 = site }) before article (record { 0 = row })

  kinds-tied : (x y : Move) → Fits x → Fits y → nat_cmp x.article y.article ≡ Equal → nat_cmp x.row.0 y.row.0 ≡ Equal → nat_cmp x.site.0 y.site.0 ≡ Equal → nat_cmp (kind_number x.kind) (kind_number y.kind) ≡ Equal
  kinds-tied x y fx fy article row site =
      same-kinds x.kind y.kind
      (sym fx
      ∙ ap (λ (n : ℕ). was_at n x.row.0 x.site.0) (exact_unsigned x.article y.article article)
      ∙ ap (λ (n : ℕ). was_at y.article n x.site.0) (exact_unsigned x.row.0 y.row.0 row)
      ∙ ap (λ (n : ℕ). was_at y.article y.row.0 n) (exact_unsigned x.site.0 y.site.0 site)
      ∙ fy)

  place-less : (x y : Move) → Fits x → Fits y → move_cmp x y ≡ Less → row_site_cmp (entry_of x).0 (entry_of y).0 ≡ Less
  place-less x y fx fy less =
      less-place (nat_cmp x.article y.article) (nat_cmp x.row.0 y.row.0) (nat_cmp x.site.0 y.site.0) (nat_cmp (kind_number x.kind) (kind_number y.kind)) less (kinds-tied x y fx fy)

  above-cons : (x y : Move) (b : Bool) (kept : List Move) → row_site_cmp (entry_of x).0 (entry_of y).0 ≡ Less → AllByRecursion (λ (p : RowSite). row_site_cmp (entry_of x).0 p ≡ Less) (keys_of (map entry_of kept))
      → AllByRecursion (λ (p : RowSite). row_site_cmp (entry_of x).0 p ≡ Less) (keys_of (map entry_of (let all : List Move = cond b (y ∷ kept) kept in all)))
  above-cons x y true kept less all = (less, all)
  above-cons x y false kept less all = all

  module _ (keep : Move → Bool) where
    kept-above : (x : Move) (moves : List Move) → Fits x → AllByRecursion Fits moves → AllByRecursion (λ (y : Move). move_cmp x y ≡ Less) moves
        → AllByRecursion (λ (p : RowSite). row_site_cmp (entry_of x).0 p ≡ Less) (keys_of (map entry_of (filter keep moves)))
    kept-above x [] fx fits all = tt
    kept-above x (y ∷ moves) fx fits all = above-cons x y (keep y) (filter keep moves) (place-less x y fx fits.0 all.0) (kept-above x moves fx fits.1 all.1)

    sorted-cons : (x : Move) (b : Bool) (kept : List Move) → AllByRecursion (λ (p : RowSite). row_site_cmp (entry_of x).0 p ≡ Less) (keys_of (map entry_of kept)) → IsStrictlySortedBy row_site_cmp (keys_of (map entry_of kept))
        → IsStrictlySortedBy row_site_cmp (keys_of (map entry_of (let all : List Move = cond b (x ∷ kept) kept in all)))
    unfolding IsStrictlySortedBy
    sorted-cons x true kept above sorted = (above, sorted)
    sorted-cons x false kept above sorted = sorted

    kept-sorted : (moves : List Move) → AllByRecursion Fits moves → IsStrictlySortedBy move_cmp moves → IsStrictlySortedBy row_site_cmp (keys_of (map entry_of (filter keep moves)))
    unfolding IsStrictlySortedBy
    kept-sorted [] fits sorted = tt
    kept-sorted (x ∷ moves) fits sorted = sorted-cons x (keep x) (filter keep moves) (kept-above x moves fits.0 fits.1 sorted.0) (kept-sorted moves fits.1 sorted.1)

  module _ (moves : List Move) (are : AreMoves publication before after moves) where
    moves-fit : AllByRecursion Fits moves
    moves-fit = recursion_from_All Fits moves (all_members Fits moves (λ m there. ((are.each m).0 there).0))

    -- whichever moves are kept, their places ascend
    pub kept-ordered : (keep : Move → Bool) → IsStrictlySortedBy row_site_cmp (keys_of (map entry_of (filter keep moves)))
    kept-ordered keep = kept-sorted keep moves moves-fit are.ascending

    pub ordered : IsStrictlySortedBy row_site_cmp (keys_of (told_moves changed moves))
    ordered = kept-ordered (is_told changed)

    pub exact : (x y : RowSite) → is_at (row_site_cmp x) y ≡ true → x ≡ y
    exact x y e = row_site_exact x y ((Equal-is (row_site_cmp x y)).0 e)

    some-found : (q : RowSite) (kind : MoveKind) → Contains (told_moves changed moves) (q, kind) → Some kind ≡ here q
    some-found q kind there =
        let at = contains-from_map entry_of (filter (is_told changed) moves) (q, kind) there in
        let kept = contains_from_filter (is_told changed) moves at.0 at.1 in
        let differs = (are.each at.0).0 kept.0 in
        let e : Some (at.0.kind) ≡ here (entry_of at.0).0 = told-kind at.0.kind (was_there (entry_of at.0).0) (is_there (entry_of at.0).0) (has_key changed (key_moved at.0)) differs.0 differs.1 kept.1 in
        ap (λ (x : RowSite × MoveKind). Some x.1) (sym at.2) ∙ e ∙ ap (λ (x : RowSite × MoveKind). here x.0) at.2

    move-there : (q : RowSite) (kind : MoveKind) → IsMade (was_there q) (is_there q) (has_key changed q.key) kind → Contains (told_moves changed moves) (q, kind)
    move-there q kind made =
        let m : Move = record { article = q.key.article; row = q.key.row; site = record { 0 = q.site }; kind = kind } in
        let there : Contains moves m = (are.each m).1 (made.was, made.then_is) in
        let kept : Contains (filter (is_told changed) moves) m = contains_filter (is_told changed) moves m there made.said in
        contains-map entry_of (filter (is_told changed) moves) m kept

    none-found : (q : RowSite) (made : Option MoveKind) → here q ≡ made → at_row_site (told_moves changed moves) q ≡ None → None ≡ made
    none-found q None e none = refl
    none-found q (Some kind) e none =
        let there = move-there q kind (made-kind (was_there q) (is_there q) (has_key changed q.key) kind e) in
        let found : at_row_site (told_moves changed moves) q ≡ Some kind =
        lookup-from_Contains {eq = λ a b. is_at (row_site_cmp a) b} (eq_by_cmp_equiv row_site_total) q kind (told_moves changed moves) (IsDistinct-from_sorted row_site_cmp (keys_of (told_moves changed moves)) ordered) there in
        let no : (let o : Option MoveKind = None in o) ≡ Some kind = sym none ∙ found in absurd cc

    found-by : (q : RowSite) (found : Option MoveKind) → at_row_site (told_moves changed moves) q ≡ found → found ≡ here q
    found-by q None e = none-found q (here q) refl e ∙ refl
    found-by q (Some kind) e = some-found q kind (Contains-from_lookup {eq = λ a b. is_at (row_site_cmp a) b} exact q kind (told_moves changed moves) e)

    pub told-found : (q : RowSite) → at_row_site (told_moves changed moves) q ≡ here q
    told-found q = found-by q (at_row_site (told_moves changed moves) q) refl

-- The rows of partitions are held.

pub or-first : (a b : Bool) → a ≡ true → (a || b) ≡ true
or-first true b e = refl
or-first false b e = absurd cc

pub or-second : (a b : Bool) → b ≡ true → (a || b) ≡ true
or-second true b e = refl
or-second false b e = e

live-first : (key : Key) (row : PublisherRow) (body : Body) (rest : List LiveRow) (inside : LiveRow) (more : Bool) → (Contains rest inside → more ≡ true) → Contains (cons_option (live_row key body) rest) inside → (same_key (key_of_live inside) key || more) ≡ true
live-first key row (Dead top) rest inside more each there = or-second (same_key (key_of_live inside) key) more (each there)
live-first key row (Live cells) rest inside more each there = elim (contains_cases (record { article = key.article; row = key.row; values = flat_map (λ (cell : Cell). cell.values) cells }) rest inside there) [
  | inl same ↦ or-first (same_key (key_of_live inside) key) more (subst (λ (x : LiveRow). same_key (key_of_live x) key ≡ true) same (key-itself key))
  | inr later ↦ or-second (same_key (key_of_live inside) key) more (each later)
]

live-among : (rows : List (Key × PublisherRow)) (inside : LiveRow) → Contains (live_rows rows) inside → has_key (keys_of rows) (key_of_live inside) ≡ true
live-among [] inside there = absurd (contains_none inside there)
live-among (row ∷ rows) inside there = live-first row.0 row.1 row.1.version.body (live_rows rows) inside (has_key (keys_of rows) (key_of_live inside)) (live-among rows inside) there

pub in-rows : (publication : Publication) (host : HostName) (rows : List (Key × PublisherRow)) (key : Key) → is_in publication host (live_rows rows) key.article key.row ≡ true → has_key (keys_of rows) key ≡ true
in-rows publication host rows key is =
    let at = (in_by_partition publication host (live_rows rows) key.article key.row).0 is in
    let lives = (partition_reasons publication host (live_rows rows) at.0 at.1).0 in
    let same = keys-same key (key_of_live at.0) (key-live key at.0 at.2 at.3) in
    subst (λ (k : Key). has_key (keys_of rows) k ≡ true) (sym same) (live-among rows at.0 lives)

-- a subscription stands once among the sites
abbrev pub EntryIsFound : ℕ → Option Subscription → ℕ × Subscription → Type 0
EntryIsFound n found e = (e.0 == n) ≡ true → found ≡ Some e.1

-- All of it.

pub in-some : (publication : Publication) (live : List LiveRow) (key : Key) (found : Option Subscription) → is_in_where (option_map (λ (s : Subscription). s.host) found) publication live key.article key.row ≡ true
    → (s : Subscription) × (found ≡ Some s) × (is_in publication s.host live key.article key.row ≡ true)
in-some publication live key None is = absurd cc
in-some publication live key (Some s) is = (s, refl, is)

pub and-false : (b : Bool) → (b && false) ≡ false
and-false true = refl
and-false false = refl

module _ (publication : Publication) (valid : CanBeSaid publication) (rows rows' : List (Key × PublisherRow)) (sorted' : IsStrictlySortedBy key_cmp (keys_of rows'))
    (stay : (key : Key) → has_key (keys_of rows) key ≡ true → has_key (keys_of rows') key ≡ true) (changed : List Key) where
  abbrev parts : List Parts
  parts = parts_of publication rows rows'

  abbrev made : RowSite → Option MoveKind
  made q = here publication (live_rows rows) (live_rows rows') changed q

  -- whether a row is in a part, both ways
  pub part-in : (q : RowSite) (s : Subscription) (xs : List (Key × PublisherRow)) → subscription_at publication q.site ≡ Some s
      → has_key (partition_keys publication s xs) q.key ≡ is_in_at publication (record { 0 = q.site }) (live_rows xs) q.key.article q.key.row
  part-in q s xs found =
      in-partition publication s.host (live_rows xs) q.key
      ∙ sym (ap (λ (o : Option Subscription). is_in_where (option_map (λ (x : Subscription). x.host) o) publication (live_rows xs) q.key.article q.key.row) found)

  says-one : (q : RowSite) (e : ℕ × Subscription) → EntryIsFound q.site (subscription_at publication q.site) e
      → Says (changed_alone changed) q.site q.key (made q) (record { site = e.0; before = partition_keys publication e.1 rows; after = partition_keys publication e.1 rows' })
  says-one q e found is =
      ap (λ (b : Bool). move_of (has_key (partition_keys publication e.1 rows) q.key) (has_key (partition_keys publication e.1 rows') q.key) (has_key changed q.key) b) (and-false (e.0 == 0))
      ∙ ap (λ (b : Bool). move_of b (has_key (partition_keys publication e.1 rows') q.key) (has_key changed q.key) false) (part-in q e.1 rows (found is))
      ∙ ap (λ (b : Bool). move_of (is_in_at publication (record { 0 = q.site }) (live_rows rows) q.key.article q.key.row) b (has_key changed q.key) false) (part-in q e.1 rows' (found is))

  says-all : (q : RowSite) (es : List (ℕ × Subscription)) → AllByRecursion (EntryIsFound q.site (subscription_at publication q.site)) es
      → AllByRecursion (Says (changed_alone changed) q.site q.key (made q)) (map (λ (s : ℕ × Subscription). (let p : Parts = record { site = s.0; before = partition_keys publication s.1 rows; after = partition_keys publication s.1 rows' } in p)) es)
  says-all q [] all = tt
  says-all q (e ∷ es) all = (says-one q e all.0, says-all q es all.1)

  pub part-stands : (n : ℕ) (es : List (ℕ × Subscription)) → list_any (λ (e : ℕ × Subscription). e.0 == n) es ≡ true
      → list_any (λ (p : Parts). p.site == n) (map (λ (s : ℕ × Subscription). (let p : Parts = record { site = s.0; before = partition_keys publication s.1 rows; after = partition_keys publication s.1 rows' } in p)) es) ≡ true
  part-stands n es some = any_map (λ (s : ℕ × Subscription). (let p : Parts = record { site = s.0; before = partition_keys publication s.1 rows; after = partition_keys publication s.1 rows' } in p)) (λ (p : Parts). p.site == n) es ∙ some

  -- where a row is in a partition, it is held, and the site has a part
  abbrev pub Stands : RowSite → Type 0
  Stands q = (has_key (keys_of rows') q.key ≡ true) × (list_any (λ (p : Parts). p.site == q.site) parts ≡ true)

  pub stands : (q : RowSite) (xs : List (Key × PublisherRow)) → ((key : Key) → has_key (keys_of xs) key ≡ true → has_key (keys_of rows') key ≡ true)
      → is_in_at publication (record { 0 = q.site }) (live_rows xs) q.key.article q.key.row ≡ true → Stands q
  stands q xs onward is =
      let found = in-some publication (live_rows xs) q.key (subscription_at publication q.site) is in (
        onward q.key (in-rows publication found.0.host xs q.key found.2),
        part-stands q.site (by_site publication) (site-stands publication q.site (ap (λ (o : Option Subscription). is_some o) found.1)),
      )

  made-stands : (q : RowSite) (kind : MoveKind) → is_in_at publication (record { 0 = q.site }) (live_rows rows) q.key.article q.key.row ≡ is_left kind
      → is_in_at publication (record { 0 = q.site }) (live_rows rows') q.key.article q.key.row ≡ not (is_left kind) → Stands q
  made-stands q Entered was is = stands q rows' (λ key e. e) is
  made-stands q Left was is = stands q rows stay was

  pub keys-alone : (xs : List (Key × PublisherRow)) → map (λ (entry : Key × Unit {0}). entry.0) (map (λ (row : Key × PublisherRow). (row.0, tt)) xs) ≡ keys_of xs
  keys-alone [] = refl
  keys-alone (x ∷ xs) = ap (λ (ks : List Key). x.0 ∷ ks) (keys-alone xs)

  whole-by : (q : RowSite) (o : Option MoveKind) → made q ≡ o → cond (has_key (keys_of rows') q.key && list_any (λ (p : Parts). p.site == q.site) parts) o None ≡ o
  whole-by q None e = elim (has_key (keys_of rows') q.key && list_any (λ (p : Parts). p.site == q.site) parts) as (λ (b : Bool). (let x : Option MoveKind = cond b None None in x) ≡ None) [ true ↦ refl | false ↦ refl ]
  whole-by q (Some kind) e =
      let m = made-kind (is_in_at publication (record { 0 = q.site }) (live_rows rows) q.key.article q.key.row) (is_in_at publication (record { 0 = q.site }) (live_rows rows') q.key.article q.key.row) (has_key changed q.key) kind e in
      let s = made-stands q kind m.was m.then_is in
      let both : (has_key (keys_of rows') q.key && list_any (λ (p : Parts). p.site == q.site) parts) ≡ true = grind (arith, s.0, s.1) in
      ap (λ (b : Bool). (let x : Option MoveKind = cond b (Some kind) None in x)) both

  moves-here : (q : RowSite) → at_row_site (moves_of (changed_alone changed) parts (keys_of rows')) q ≡ made q
  moves-here q = moves-found (changed_alone changed) q (keys_of rows') (made q) parts (says-all q (by_site publication) (sites-found publication q.site valid)) ∙ whole-by q (made q) refl

  -- the moves of a membership are those of a local change
  pub told-moves : (moves : List Move) → AreMoves publication (live_rows rows) (live_rows rows') moves → told_moves changed moves ≡ moves_of (changed_alone changed) parts (all_keys rows' [])
  told-moves moves are = rw (keys-alone rows')
      (rows_from_look_ups row_site_cmp row_site_total row_site_exact (told_moves changed moves) (moves_of (changed_alone changed) parts (keys_of rows'))
      (ordered publication (live_rows rows) (live_rows rows') changed moves are) (moves-ascend (changed_alone changed) parts (keys_of rows') (parts-ascend publication rows rows') sorted')
      (λ q. told-found publication (live_rows rows) (live_rows rows') changed moves are q ∙ sym (moves-here q)))
