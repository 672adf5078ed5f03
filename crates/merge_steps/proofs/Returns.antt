-- The rows that come back, by a membership's moves, are those that the definitions name.
use Rattle.std.specs.Prelude.{◌≡◌, ◌==◌, ◌&&◌, ◌||◌, ℕ, List, [], ◌∷◌, Bool, true, false, not, Option, Some, None, refl, cond, filter, flat_map, is_some, map, Contains}
use Rattle.std.specs.BTreeMap.{is_at}
use Rattle.std.specs.Cmp.{Equal-is}
use Rattle.std.specs.List.{AllByRecursion, fold, list_any}
use Rattle.std.specs.List.Sorted.{IsStrictlySortedBy}
use Rattle.std.specs.Map.{keys_of}
use Rattle.std.proofs.Common.{arith, sym, ap, ◌∙◌, subst, inl, inr}
use Rattle.std.proofs.lemmas.Bool.Decides.{nat_tests}
use Rattle.merge_table.proofs.LookUps.{lookup-remove_entry, rows_from_look_ups}
use Rattle.merge_table.proofs.Sorted.{sorted_take}
use Rattle.merge_part.specs.Moves.{AreMoves}
use Rattle.merge_part.specs.declared.change.Move.{Move}
use Rattle.merge_gens.specs.declared.moves.MoveKind.{MoveKind}
use Rattle.merge_gens.specs.declared.moves.MoveKind.TheVariants.{Entered, Left}
use Rattle.merge_schema.specs.Partition.{LiveRow, is_in_at}
use Rattle.merge_schema.specs.declared.publication.Publication.{Publication}
use Rattle.merge_schema.specs.declared.publication.Subscription.{Subscription}
use Rattle.merge_schema.proofs.ListMembers.{any_at, any_found, contains_cases, contains_filter, contains_flat_map, contains_from_filter, contains_from_flat_map, contains_none}
use Rattle.merge_model.specs.Publisher.Entries.{Parts, Touched, comes_back, live_rows, parts_of, partition_keys, returned_rows}
use Rattle.merge_model.specs.Judge.{PublisherJudge}
use Rattle.merge_model.specs.Tables.Keys.{at_row_site, drop_row_site, has_key, same_key}
use Rattle.merge_types.specs.RowKeys.{key_cmp}
use Rattle.merge_gens.specs.Moves.{is_left, row_site_cmp}
use Rattle.merge_gens.specs.Moves.{row_site_exact}
use Rattle.merge_model.specs.Tables.Publications.{by_site}
use Rattle.merge_resolve.specs.Priorities.{subscription_at}
use Rattle.merge_steps.specs.Rows.{has_left_at}
use Rattle.merge_types.specs.declared.row_key.RowKey.{RowKey as Key}
use Rattle.merge_gens.specs.declared.moves.Mapping.{Mapping}
use Rattle.merge_units.specs.declared.site_row.PublisherRow.{PublisherRow}
use Rattle.merge_gens.specs.declared.moves.RowSite.{RowSite}
use Rattle.merge_model.proofs.Entries.StepParts.{CanBeSaid}
use Rattle.merge_steps.specs.Tie.{entry_of, is_entered, key_moved}
use Rattle.merge_steps.specs.Working.{is_return, returns}
use Rattle.merge_model.proofs.Lists.KeyLookUps.{keys-same}
use Rattle.merge_steps.proofs.Moved.{place, place-is}
use Rattle.merge_model.proofs.Publishers.Sorted.{row_site_total}
use Rattle.merge_steps.proofs.Told.{EntryIsFound, contains-from_map, contains-map, part-in, same-bool, stands}
use Rattle.merge_model.proofs.Lists.KeyLookUps.{key-itself}
use Rattle.merge_model.proofs.Entries.StepParts.{sites-found}

-- What is left where places are dropped.

abbrev pub has_place : List RowSite → RowSite → Bool
has_place places q = list_any (is_at (row_site_cmp q)) places

drop-head : (b c : Bool) (found : Option Mapping) → cond c None (cond b None found) ≡ cond (b || c) None found
drop-head true true found = refl
drop-head true false found = refl
drop-head false c found = refl

pub at-dropped : (places : List RowSite) (mappings : List (RowSite × Mapping)) (q : RowSite) → IsStrictlySortedBy row_site_cmp (keys_of mappings)
    → at_row_site (fold drop_row_site mappings places) q ≡ cond (has_place places q) None (at_row_site mappings q)
at-dropped [] mappings q sorted = refl
at-dropped (p ∷ places) mappings q sorted =
    at-dropped places (drop_row_site mappings p) q (sorted_take row_site_cmp row_site_total (is_at (row_site_cmp p)) mappings sorted)
    ∙ ap (λ (o : Option Mapping). (let left : Option Mapping = cond (has_place places q) None o in left)) (lookup-remove_entry row_site_cmp row_site_total p q mappings sorted)
    ∙ drop-head (is_at (row_site_cmp q) p) (has_place places q) (at_row_site mappings q)

dropped-sorted : (places : List RowSite) (mappings : List (RowSite × Mapping)) → IsStrictlySortedBy row_site_cmp (keys_of mappings) → IsStrictlySortedBy row_site_cmp (keys_of (fold drop_row_site mappings places))
dropped-sorted [] mappings sorted = sorted
dropped-sorted (p ∷ places) mappings sorted = dropped-sorted places (drop_row_site mappings p) (sorted_take row_site_cmp row_site_total (is_at (row_site_cmp p)) mappings sorted)

-- the same places leave the same
pub dropped-same : (xs ys : List RowSite) (mappings : List (RowSite × Mapping)) → IsStrictlySortedBy row_site_cmp (keys_of mappings) → ((q : RowSite) → has_place xs q ≡ has_place ys q)
    → fold drop_row_site mappings xs ≡ fold drop_row_site mappings ys
dropped-same xs ys mappings sorted same =
    rows_from_look_ups row_site_cmp row_site_total row_site_exact (fold drop_row_site mappings xs) (fold drop_row_site mappings ys) (dropped-sorted xs mappings sorted) (dropped-sorted ys mappings sorted)
    (λ q. at-dropped xs mappings q sorted ∙ ap (λ (b : Bool). (let left : Option Mapping = cond b None (at_row_site mappings q) in left)) (same q) ∙ sym (at-dropped ys mappings q sorted))

places-exact : (q p : RowSite) → is_at (row_site_cmp q) p ≡ true → q ≡ p
places-exact q p e = row_site_exact q p ((Equal-is (row_site_cmp q p)).0 e)

pub and4 : (a b c d : Bool) → (not a && b && c && d) ≡ true → (a ≡ false) × (b ≡ true) × (c ≡ true) × (d ≡ true)
and4 true b c d e = absurd cc
and4 false false c d e = absurd cc
and4 false true false d e = absurd cc
and4 false true true false e = absurd cc
and4 false true true true e = (refl, refl, refl, refl)

all-and4 : (a b c d : Bool) → a ≡ false → b ≡ true → c ≡ true → d ≡ true → (not a && b && c && d) ≡ true
all-and4 a b c d ea eb ec ed = rw (ea, eb, ec, ed) refl

and3 : (a b c : Bool) → (a && b && c) ≡ true → (a ≡ true) × (b ≡ true) × (c ≡ true)
and3 false b c e = absurd cc
and3 true false c e = absurd cc
and3 true true false e = absurd cc
and3 true true true e = (refl, refl, refl)

all-and3 : (a b c : Bool) → a ≡ true → b ≡ true → c ≡ true → (a && b && c) ≡ true
all-and3 a b c ea eb ec = rw (ea, eb, ec) refl

entered-is : (kind : MoveKind) → is_entered kind ≡ true → kind ≡ Entered
entered-is Entered e = refl
entered-is Left e = absurd cc

all-at : {X : Type 0} (P : X → Type 0) (xs : List X) → AllByRecursion P xs → (x : X) → Contains xs x → P x
all-at P [] all x there = absurd (contains_none x there)
all-at P (y ∷ xs) all x there = elim (contains_cases y xs x there) [
  | inl same ↦ subst P same all.0
  | inr later ↦ all-at P xs all.1 x later
]

module _ (publication : Publication) (before after : List LiveRow) (changed : List Key) (mappings : List (RowSite × Mapping)) where
  abbrev was : RowSite → Bool
  was q = is_in_at publication (record { 0 = q.site }) before q.key.article q.key.row

  abbrev is : RowSite → Bool
  is q = is_in_at publication (record { 0 = q.site }) after q.key.article q.key.row

  abbrev pub back_at : RowSite → Bool
  back_at q = not (was q) && is q && has_key changed q.key && has_left_at mappings q

  module _ (moves : List Move) (are : AreMoves publication before after moves) where
    move-back : (q : RowSite) (m : Move) → Contains moves m → is_return mappings changed m ≡ true → (entry_of m).0 ≡ q → back_at q ≡ true
    move-back q m there passes at =
        let parts = and3 (is_entered m.kind) (has_key changed (key_moved m)) (has_left_at mappings (entry_of m).0) passes in
        let entered : m.kind ≡ Entered = entered-is m.kind parts.0 in
        let differs = (are.each m).0 there in
        let old : was (entry_of m).0 ≡ false = differs.0 ∙ ap is_left entered in
        let new : is (entry_of m).0 ≡ true = differs.1 ∙ ap (λ (k : MoveKind). not (is_left k)) entered in
        subst (λ (p : RowSite). back_at p ≡ true) at (all-and4 (was (entry_of m).0) (is (entry_of m).0) (has_key changed (key_moved m)) (has_left_at mappings (entry_of m).0) old new parts.1 parts.2)

    returns-back : (q : RowSite) → has_place (returns mappings changed moves) q ≡ true → back_at q ≡ true
    returns-back q found =
        let at = any_found (is_at (row_site_cmp q)) (returns mappings changed moves) found in
        let from = contains-from_map (λ (m : Move). (entry_of m).0) (filter (is_return mappings changed) moves) at.0 at.1 in
        let kept = contains_from_filter (is_return mappings changed) moves from.0 from.1 in
        move-back q from.0 kept.0 kept.1 (from.2 ∙ sym (places-exact q at.0 at.2))

    back-returns : (q : RowSite) → back_at q ≡ true → has_place (returns mappings changed moves) q ≡ true
    back-returns q back =
        let parts = and4 (was q) (is q) (has_key changed q.key) (has_left_at mappings q) back in
        let m : Move = record { article = q.key.article; row = q.key.row; site = record { 0 = q.site }; kind = Entered } in
        let there : Contains moves m = (are.each m).1 (parts.0, parts.1) in
        let passes : is_return mappings changed m ≡ true = all-and3 true (has_key changed q.key) (has_left_at mappings q) refl parts.2 parts.3 in
        any_at (is_at (row_site_cmp q)) (returns mappings changed moves) q
        (contains-map (λ (n : Move). (entry_of n).0) (filter (is_return mappings changed) moves) m (contains_filter (is_return mappings changed) moves m there passes))
        (place-is q q.key q.site ∙ (let one = key-itself q.key in grind (arith, nat_tests, one)))

    pub returns-has : (q : RowSite) → has_place (returns mappings changed moves) q ≡ back_at q
    returns-has q = same-bool (has_place (returns mappings changed moves) q) (back_at q) (returns-back q) (back-returns q)

module _ (publication : Publication) (valid : CanBeSaid publication) (rows rows' : List (Key × PublisherRow)) (sorted' : IsStrictlySortedBy key_cmp (keys_of rows'))
    (stay : (key : Key) → has_key (keys_of rows) key ≡ true → has_key (keys_of rows') key ≡ true) (touched : Touched) (mappings : List (RowSite × Mapping))
    (judge : PublisherJudge) (left : (key : Key) (site : ℕ) → judge.has_left key site ≡ has_left_at mappings (place key site)) where
  abbrev parts : List Parts
  parts = parts_of publication rows rows'

  abbrev back_there : RowSite → Bool
  back_there q = back_at publication (live_rows rows) (live_rows rows') touched.changed mappings q

  abbrev Comes : RowSite → Parts → Type 0
  Comes q p = (p.site == q.site) ≡ true → comes_back judge touched q.key p ≡ back_there q

  comes-one : (q : RowSite) (e : ℕ × Subscription) → EntryIsFound q.site (subscription_at publication q.site) e
      → Comes q (record { site = e.0; before = partition_keys publication e.1 rows; after = partition_keys publication e.1 rows' })
  comes-one q e found same =
      let number : e.0 ≡ q.site = grind (arith, nat_tests, same) in
      let old = part-in publication valid rows rows' sorted' stay touched.changed q e.1 rows (found same) in
      let new = part-in publication valid rows rows' sorted' stay touched.changed q e.1 rows' (found same) in
      let gone : judge.has_left q.key e.0 ≡ has_left_at mappings q = left q.key e.0 ∙ ap (λ (n : ℕ). has_left_at mappings (place q.key n)) number in
      ap (λ (b : Bool). not b && has_key (partition_keys publication e.1 rows') q.key && has_key touched.changed q.key && judge.has_left q.key e.0) old
      ∙ ap (λ (b : Bool). not (is_in_at publication (record { 0 = q.site }) (live_rows rows) q.key.article q.key.row) && b && has_key touched.changed q.key && judge.has_left q.key e.0) new
      ∙ ap (λ (b : Bool). not (is_in_at publication (record { 0 = q.site }) (live_rows rows) q.key.article q.key.row) && is_in_at publication (record { 0 = q.site }) (live_rows rows') q.key.article q.key.row && has_key touched.changed q.key && b) gone

  comes-all : (q : RowSite) (es : List (ℕ × Subscription)) → AllByRecursion (EntryIsFound q.site (subscription_at publication q.site)) es
      → AllByRecursion (Comes q) (map (λ (s : ℕ × Subscription). (let p : Parts = record { site = s.0; before = partition_keys publication s.1 rows; after = partition_keys publication s.1 rows' } in p)) es)
  comes-all q [] all = tt
  comes-all q (e ∷ es) all = (comes-one q e all.0, comes-all q es all.1)

  comes-at : (q : RowSite) (p : Parts) → Contains parts p → Comes q p
  comes-at q p there = all-at (Comes q) parts (comes-all q (by_site publication) (sites-found publication q.site valid)) p there

  returned-back : (q : RowSite) → has_place (returned_rows judge touched parts touched.changed) q ≡ true → back_there q ≡ true
  returned-back q found =
      let at = any_found (is_at (row_site_cmp q)) (returned_rows judge touched parts touched.changed) found in
      let by_key = contains_from_flat_map (λ (key : Key). map (λ (p : Parts). place key p.site) (filter (comes_back judge touched key) parts)) touched.changed at.0 at.1 in
      let by_part = contains-from_map (λ (p : Parts). place by_key.0 p.site) (filter (comes_back judge touched by_key.0) parts) at.0 by_key.2 in
      let kept = contains_from_filter (comes_back judge touched by_key.0) parts by_part.0 by_part.1 in
      let same : q ≡ place by_key.0 by_part.0.site = places-exact q at.0 at.2 ∙ sym by_part.2 in
      let key : q.key ≡ by_key.0 = ap (λ (p : RowSite). p.key) same in
      let number : q.site ≡ by_part.0.site = ap (λ (p : RowSite). p.site) same in
      let here : (by_part.0.site == q.site) ≡ true = grind (arith, nat_tests, number) in
      sym (comes-at q by_part.0 kept.0 here) ∙ subst (λ (k : Key). comes_back judge touched k by_part.0 ≡ true) (sym key) kept.1

  back-returned : (q : RowSite) → back_there q ≡ true → has_place (returned_rows judge touched parts touched.changed) q ≡ true
  back-returned q back =
      let facts = and4 (is_in_at publication (record { 0 = q.site }) (live_rows rows) q.key.article q.key.row) (is_in_at publication (record { 0 = q.site }) (live_rows rows') q.key.article q.key.row) (has_key touched.changed q.key) (has_left_at mappings q) back in
      let named = any_found (same_key q.key) touched.changed facts.2 in
      let key : Contains touched.changed q.key = subst (λ (k : Key). Contains touched.changed k) (sym (keys-same q.key named.0 named.2)) named.1 in
      let stand = stands publication valid rows rows' sorted' stay touched.changed q rows' (λ k there. there) facts.1 in
      let at = any_found (λ (p : Parts). p.site == q.site) parts stand.1 in
      let comes : comes_back judge touched q.key at.0 ≡ true = comes-at q at.0 at.1 at.2 ∙ back in
      any_at (is_at (row_site_cmp q)) (returned_rows judge touched parts touched.changed) (place q.key at.0.site)
      (contains_flat_map (λ (k : Key). map (λ (p : Parts). place k p.site) (filter (comes_back judge touched k) parts)) touched.changed q.key (place q.key at.0.site) key
      (contains-map (λ (p : Parts). place q.key p.site) (filter (comes_back judge touched q.key) parts) at.0 (contains_filter (comes_back judge touched q.key) parts at.0 at.1 comes)))
      (place-is q q.key at.0.site ∙ (let one = key-itself q.key in let site = at.2 in grind (arith, one, site)))

  -- what comes back by a membership's moves leaves the same mappings
  pub returns-same : (moves : List Move) → AreMoves publication (live_rows rows) (live_rows rows') moves → (held : List (RowSite × Mapping)) → IsStrictlySortedBy row_site_cmp (keys_of held)
      → fold drop_row_site held (returns mappings touched.changed moves) ≡ fold drop_row_site held (returned_rows judge touched parts touched.changed)
  returns-same moves are held sorted = dropped-same (returns mappings touched.changed moves) (returned_rows judge touched parts touched.changed) held sorted
      (λ q. returns-has publication (live_rows rows) (live_rows rows') touched.changed mappings moves are q
      ∙ sym (same-bool (has_place (returned_rows judge touched parts touched.changed) q) (back_there q) (returned-back q) (back-returned q)))
