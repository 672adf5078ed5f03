-- The moves of a membership, and the rows that a site sent and may not hold, are the moves of a step.
use Rattle.std.specs.Prelude.{◌≡◌, ◌==◌, ◌&&◌, ◌||◌, ℕ, List, [], ◌∷◌, Bool, true, false, not, Option, Some, None, refl, cond, filter, is_some, map}
use Rattle.std.specs.BTreeMap.{is_at}
use Rattle.std.specs.List.{AllByRecursion, list_any}
use Rattle.std.specs.List.Sorted.{IsStrictlySortedBy}
use Rattle.std.specs.Map.{keys_of}
use Rattle.std.proofs.Common.{arith, sym, ap, ◌∙◌, subst}
use Rattle.std.proofs.lemmas.Bool.Decides.{nat_tests}
use Rattle.merge_table.specs.Contents.{has_room}
use Rattle.merge_table.specs.Edits.{rows_after_all}
use Rattle.merge_table.proofs.LookUps.{lookup-insert_entry, rows_from_look_ups}
use Rattle.merge_table.proofs.Sorted.{sorted_after_all}
use Rattle.merge_part.specs.Moves.{AreMoves}
use Rattle.merge_part.specs.declared.change.Move.{Move}
use Rattle.merge_schema.specs.Partition.{LiveRow, is_in_at}
use Rattle.merge_schema.specs.declared.publication.Publication.{Publication}
use Rattle.merge_schema.specs.declared.publication.Subscription.{Subscription}
use Rattle.merge_model.specs.Publisher.Entries.{Parts, Touched, keys_of as all_keys, live_rows, move_of, moves_of, parts_of, partition_keys}
use Rattle.merge_model.specs.Tables.Keys.{at_row_site, has_key, put_row_site, same_key}
use Rattle.merge_types.specs.RowKeys.{key_cmp}
use Rattle.merge_gens.specs.Moves.{row_site_cmp}
use Rattle.merge_gens.specs.Moves.{row_site_exact}
use Rattle.merge_model.specs.Tables.Publications.{by_site}
use Rattle.merge_resolve.specs.Priorities.{subscription_at}
use Rattle.merge_types.specs.declared.row_key.RowKey.{RowKey as Key}
use Rattle.merge_gens.specs.declared.moves.RowSite.{RowSite}
use Rattle.merge_gens.specs.declared.moves.MoveKind.{MoveKind}
use Rattle.merge_gens.specs.declared.moves.MoveKind.TheVariants.{Entered, Left}
use Rattle.merge_units.specs.declared.site_row.PublisherRow.{PublisherRow}
use Rattle.merge_steps.specs.Tie.{Says, told_moves}
use Rattle.merge_model.proofs.Entries.StepParts.{CanBeSaid}
use Rattle.merge_steps.specs.Working.{all_told, is_out, left_edit, left_or, outs_of}
use Rattle.merge_model.proofs.Lists.KeyLookUps.{keys-same}
use Rattle.merge_steps.proofs.Moved.{moves-ascend, moves-found, place, place-is}
use Rattle.merge_model.proofs.Publishers.Sorted.{row_site_total}
use Rattle.merge_steps.proofs.Told.{EntryIsFound, and-false, or-first, or-second, ordered, part-in, part-stands, parts-ascend, stands, told-found}
use Rattle.merge_model.proofs.Entries.StepParts.{site-stands, sites-found}
use Rattle.merge_steps.proofs.HeldKeys.{all-has, all-sorted}

move-split : (b a c d : Bool) → left_or (d && not a) (move_of b a c false) ≡ move_of b a c d
move-split true true c true = refl
move-split true true c false = refl
move-split true false c true = refl
move-split true false c false = refl
move-split false true true true = refl
move-split false true true false = refl
move-split false true false true = refl
move-split false true false false = refl
move-split false false c true = refl
move-split false false c false = refl

-- what is found where rows left a site

left-head : (k s h : Bool) (o : Option MoveKind) → left_or (h && s) (let found : Option MoveKind = cond (k && s) (Some Left) o in found) ≡ left_or ((k || h) && s) o
left-head true true true o = refl
left-head true true false o = refl
left-head true false true o = refl
left-head true false false o = refl
left-head false true true o = refl
left-head false true false o = refl
left-head false false true o = refl
left-head false false false o = refl

pub at-lefts : (q : RowSite) (site : ℕ) (outs : List Key) (es : List (RowSite × MoveKind)) → at_row_site (rows_after_all row_site_cmp es (map (left_edit site) outs)) q ≡ left_or (has_key outs q.key && (site == q.site)) (at_row_site es q)
at-lefts q site [] es = refl
at-lefts q site (key ∷ outs) es =
    at-lefts q site outs (put_row_site es (place key site) Left)
    ∙ ap (λ (o : Option MoveKind). left_or (has_key outs q.key && (site == q.site)) o)
    (lookup-insert_entry row_site_cmp row_site_total (place key site) q Left es ∙ ap (λ (b : Bool). (let o : Option MoveKind = cond b (Some Left) (at_row_site es q) in o)) (place-is q key site))
    ∙ left-head (same_key q.key key) (site == q.site) (has_key outs q.key) (at_row_site es q)

-- what a filter of keys keeps

and-off : (m u : Bool) → false ≡ u → (m && u) ≡ u
and-off true u e = refl
and-off false true e = absurd cc
and-off false false e = refl

keep-step : (k x : Key) (s t u : Bool) (kept : List Key) (more : Bool) → same_key k x ≡ s → (s ≡ true → t ≡ u) → has_key kept k ≡ (more && u) → has_key (let new : List Key = cond t (x ∷ kept) kept in new) k ≡ ((s || more) && u)
keep-step k x true true u kept more same fits rest = ap (λ (b : Bool). b || has_key kept k) same ∙ fits refl
keep-step k x true false u kept more same fits rest = rest ∙ and-off more u (fits refl)
keep-step k x false true u kept more same fits rest = ap (λ (b : Bool). b || has_key kept k) same ∙ rest
keep-step k x false false u kept more same fits rest = rest

pub has-kept : (test : Key → Bool) (keys : List Key) (k : Key) → has_key (filter test keys) k ≡ (has_key keys k && test k)
has-kept test [] k = refl
has-kept test (x ∷ keys) k = keep-step k x (same_key k x) (test x) (test k) (filter test keys) (has_key keys k) refl (λ same. ap test (sym (keys-same k x same))) (has-kept test keys k)

turned : (h o n : Bool) → o ≡ n → ((h && o) && true) ≡ (h && n)
turned true true n e = e
turned true false n e = e
turned false o n e = refl

split-all : (h o s t b a c : Bool) → s ≡ t → (s ≡ true → o ≡ not a) → left_or ((h && o) && s) (move_of b a c false) ≡ move_of b a c (t && h)
split-all h o true true b a c same out = ap (λ (x : Bool). left_or x (move_of b a c false)) (turned h o (not a) (out refl)) ∙ move-split b a c h
split-all h o true false b a c same out = absurd cc
split-all h o false true b a c same out = absurd cc
split-all h o false false b a c same out = ap (λ (x : Bool). left_or x (move_of b a c false)) (and-false (h && o))

module _ (publication : Publication) (before after : List LiveRow) (changed acted : List Key) (site : ℕ) where
  abbrev pub was : RowSite → Bool
  was q = is_in_at publication (record { 0 = q.site }) before q.key.article q.key.row

  abbrev pub is : RowSite → Bool
  is q = is_in_at publication (record { 0 = q.site }) after q.key.article q.key.row

  abbrev pub here_all : RowSite → Option MoveKind
  here_all q = move_of (was q) (is q) (has_key changed q.key) ((q.site == site) && has_key acted q.key)

  out-here : (q : RowSite) → (site == q.site) ≡ true → is_out publication site after q.key ≡ not (is q)
  out-here q same = let e : site ≡ q.site = grind (arith, nat_tests, same) in ap (λ (n : ℕ). not (is_in_at publication (record { 0 = n }) after q.key.article q.key.row)) e

  pub found-all : (moves : List Move) → AreMoves publication before after moves → (q : RowSite) → at_row_site (all_told changed site (outs_of publication site after acted) moves) q ≡ here_all q
  found-all moves are q =
      at-lefts q site (outs_of publication site after acted) (told_moves changed moves)
      ∙ ap (λ (b : Bool). left_or (b && (site == q.site)) (at_row_site (told_moves changed moves) q)) (has-kept (is_out publication site after) acted q.key)
      ∙ ap (λ (o : Option MoveKind). left_or ((has_key acted q.key && is_out publication site after q.key) && (site == q.site)) o) (told-found publication before after changed moves are q)
      ∙ split-all (has_key acted q.key) (is_out publication site after q.key) (site == q.site) (q.site == site) (was q) (is q) (has_key changed q.key) (grind (arith, nat_tests)) (out-here q)

  pub all-ordered : (moves : List Move) → AreMoves publication before after moves → IsStrictlySortedBy row_site_cmp (keys_of (all_told changed site (outs_of publication site after acted) moves))
  all-ordered moves are = sorted_after_all row_site_cmp row_site_total (told_moves changed moves) (map (left_edit site) (outs_of publication site after acted)) (ordered publication before after changed moves are)

-- All of it.

key-is : (k key : Key) → is_at (key_cmp k) key ≡ same_key k key
key-is k key = grind (arith, nat_tests)

pub has-is : (keys : List Key) (k : Key) → list_any (is_at (key_cmp k)) keys ≡ has_key keys k
has-is [] k = refl
has-is (x ∷ keys) k = ap (λ (b : Bool). b || list_any (is_at (key_cmp k)) keys) (key-is k x) ∙ ap (λ (b : Bool). same_key k x || b) (has-is keys k)

pub keys-all : (rows : List (Key × PublisherRow)) (acted : List Key) (k : Key) → has_key (all_keys rows acted) k ≡ (has_key acted k || has_key (keys_of rows) k)
keys-all rows acted k =
    sym (has-is (all_keys rows acted) k) ∙ all-has rows acted k ∙ ap (λ (b : Bool). b || has_room key_cmp (keys_of rows) k) (has-is acted k) ∙ ap (λ (b : Bool). has_key acted k || b) (has-is (keys_of rows) k)

move-from : (b a c d : Bool) (kind : MoveKind) → move_of b a c d ≡ Some kind → b ≡ false → a ≡ false → d ≡ true
move-from true a c d kind e old new = absurd cc
move-from false true c d kind e old new = absurd cc
move-from false false c true kind e old new = refl
move-from false false c false kind e old new = absurd cc

pub both-true : (x y : Bool) → (x && y) ≡ true → (x ≡ true) × (y ≡ true)
both-true true true e = (refl, refl)
both-true true false e = absurd cc
both-true false y e = absurd cc

module _ (publication : Publication) (valid : CanBeSaid publication) (rows rows' : List (Key × PublisherRow)) (sorted' : IsStrictlySortedBy key_cmp (keys_of rows'))
    (stay : (key : Key) → has_key (keys_of rows) key ≡ true → has_key (keys_of rows') key ≡ true) (changed acted : List Key) (site : ℕ)
    (subscribes : (key : Key) → has_key acted key ≡ true → is_some (subscription_at publication site) ≡ true) where
  abbrev parts : List Parts
  parts = parts_of publication rows rows'

  abbrev touched : Touched
  touched = record { changed = changed; acted = acted; uploader = site }

  abbrev made : RowSite → Option MoveKind
  made q = here_all publication (live_rows rows) (live_rows rows') changed acted site q

  says-one : (q : RowSite) (e : ℕ × Subscription) → EntryIsFound q.site (subscription_at publication q.site) e
      → Says touched q.site q.key (made q) (record { site = e.0; before = partition_keys publication e.1 rows; after = partition_keys publication e.1 rows' })
  says-one q e found same =
      let number : e.0 ≡ q.site = grind (arith, nat_tests, same) in
      ap (λ (n : ℕ). move_of (has_key (partition_keys publication e.1 rows) q.key) (has_key (partition_keys publication e.1 rows') q.key) (has_key changed q.key) ((n == site) && has_key acted q.key)) number
      ∙ ap (λ (b : Bool). move_of b (has_key (partition_keys publication e.1 rows') q.key) (has_key changed q.key) ((q.site == site) && has_key acted q.key)) (part-in publication valid rows rows' sorted' stay changed q e.1 rows (found same))
      ∙ ap (λ (b : Bool). move_of (is_in_at publication (record { 0 = q.site }) (live_rows rows) q.key.article q.key.row) b (has_key changed q.key) ((q.site == site) && has_key acted q.key)) (part-in publication valid rows rows' sorted' stay changed q e.1 rows' (found same))

  says-all : (q : RowSite) (es : List (ℕ × Subscription)) → AllByRecursion (EntryIsFound q.site (subscription_at publication q.site)) es
      → AllByRecursion (Says touched q.site q.key (made q)) (map (λ (s : ℕ × Subscription). (let p : Parts = record { site = s.0; before = partition_keys publication s.1 rows; after = partition_keys publication s.1 rows' } in p)) es)
  says-all q [] all = tt
  says-all q (e ∷ es) all = (says-one q e all.0, says-all q es all.1)

  abbrev IsThere : RowSite → Type 0
  IsThere q = (has_key (all_keys rows' acted) q.key ≡ true) × (list_any (λ (p : Parts). p.site == q.site) parts ≡ true)

  held-there : (q : RowSite) → (has_key (keys_of rows') q.key ≡ true) × (list_any (λ (p : Parts). p.site == q.site) parts ≡ true) → IsThere q
  held-there q held = (keys-all rows' acted q.key ∙ or-second (has_key acted q.key) (has_key (keys_of rows') q.key) held.0, held.1)

  sent-there : (q : RowSite) → ((q.site == site) && has_key acted q.key) ≡ true → IsThere q
  sent-there q sent =
      let both = both-true (q.site == site) (has_key acted q.key) sent in
      let number : site ≡ q.site = (let same = both.0 in grind (arith, nat_tests, same)) in (
        keys-all rows' acted q.key ∙ or-first (has_key acted q.key) (has_key (keys_of rows') q.key) both.1,
        part-stands publication valid rows rows' sorted' stay changed q.site (by_site publication) (site-stands publication q.site (ap (λ (n : ℕ). is_some (subscription_at publication n)) (sym number) ∙ subscribes q.key both.1)),
      )

  made-there : (q : RowSite) (kind : MoveKind) (b a : Bool) → was publication (live_rows rows) (live_rows rows') changed acted site q ≡ b → is publication (live_rows rows) (live_rows rows') changed acted site q ≡ a
      → made q ≡ Some kind → IsThere q
  made-there q kind true a old new e = held-there q (stands publication valid rows rows' sorted' stay changed q rows stay old)
  made-there q kind false true old new e = held-there q (stands publication valid rows rows' sorted' stay changed q rows' (λ key there. there) new)
  made-there q kind false false old new e = sent-there q (move-from (was publication (live_rows rows) (live_rows rows') changed acted site q) (is publication (live_rows rows) (live_rows rows') changed acted site q) (has_key changed q.key) ((q.site == site) && has_key acted q.key) kind e old new)

  whole-by : (q : RowSite) (o : Option MoveKind) → made q ≡ o → cond (has_key (all_keys rows' acted) q.key && list_any (λ (p : Parts). p.site == q.site) parts) o None ≡ o
  whole-by q None e = elim (has_key (all_keys rows' acted) q.key && list_any (λ (p : Parts). p.site == q.site) parts) as (λ (b : Bool). (let x : Option MoveKind = cond b None None in x) ≡ None) [ true ↦ refl | false ↦ refl ]
  whole-by q (Some kind) e =
      let there = made-there q kind (was publication (live_rows rows) (live_rows rows') changed acted site q) (is publication (live_rows rows) (live_rows rows') changed acted site q) refl refl e in
      let both : (has_key (all_keys rows' acted) q.key && list_any (λ (p : Parts). p.site == q.site) parts) ≡ true = grind (arith, there.0, there.1) in
      ap (λ (b : Bool). (let x : Option MoveKind = cond b (Some kind) None in x)) both

  moves-here : (q : RowSite) → at_row_site (moves_of touched parts (all_keys rows' acted)) q ≡ made q
  moves-here q = moves-found touched q (all_keys rows' acted) (made q) parts (says-all q (by_site publication) (sites-found publication q.site valid)) ∙ whole-by q (made q) refl

  -- the code's list is that of the definitions
  pub whole-moves : (moves : List Move) → AreMoves publication (live_rows rows) (live_rows rows') moves
      → all_told changed site (outs_of publication site (live_rows rows') acted) moves ≡ moves_of touched parts (all_keys rows' acted)
  whole-moves moves are =
      rows_from_look_ups row_site_cmp row_site_total row_site_exact (all_told changed site (outs_of publication site (live_rows rows') acted) moves) (moves_of touched parts (all_keys rows' acted))
      (all-ordered publication (live_rows rows) (live_rows rows') changed acted site moves are)
      (moves-ascend touched parts (all_keys rows' acted) (parts-ascend publication rows rows') (all-sorted rows' acted sorted'))
      (λ q. found-all publication (live_rows rows) (live_rows rows') changed acted site moves are q ∙ sym (moves-here q))
