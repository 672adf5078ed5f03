-- Each move that a line tells is kept as a mapping behind its step: a step tells at most one move of a row and a site.
use Rattle.std.specs.List.{AllByRecursion, IsDistinct, cons_option, fold, zip}
use Rattle.std.specs.List.Sorted.{IsStrictlySortedBy}
use Rattle.std.specs.Map.{keys_of}
use Rattle.std.specs.Ordering.{eq_by_cmp, nat_cmp}
use Rattle.std.specs.Prelude.{Bool, List, None, Option, Some, [], cond, drop, false, filter_map, flat_map, length, map, not, option_map, refl, true, ◌&&◌, ◌++◌, ◌+◌, ◌==◌, ◌≡◌, ◌∷◌, ℕ}
use Rattle.std.proofs.Common.{ap, arith, subst, sym, ◌∙◌}
use Rattle.std.proofs.lemmas.Bool.Decides.{nat_tests}
use Rattle.std.proofs.lemmas.Map.Keys.{IsDistinct-from_sorted}
use Rattle.std.proofs.lemmas.Map.Made.{keys_of-map_values}
use Rattle.merge_types.specs.RowKeys.{key_cmp}
use Rattle.merge_types.specs.declared.row_key.RowKey.{RowKey as Key}
use Rattle.merge_table.proofs.LookUps.{lookup-insert_entry}
use Rattle.merge_table.proofs.Sorted.{sorted_put}
use Rattle.merge_units.specs.declared.site_row.PublisherRow.{PublisherRow}
use Rattle.merge_units.specs.declared.version.Version.{Version}
use Rattle.merge_gens.specs.Filling.{generations_of}
use Rattle.merge_gens.specs.Moves.{row_site_cmp}
use Rattle.merge_gens.specs.declared.moves.Mapping.{Mapping}
use Rattle.merge_gens.specs.declared.moves.MoveKind.{MoveKind}
use Rattle.merge_gens.specs.declared.moves.MoveKind.TheVariants.{Entered, Left}
use Rattle.merge_gens.specs.declared.moves.RowSite.{RowSite}
use Rattle.merge_resolve.specs.Priorities.{subscription_at}
use Rattle.merge_schema.specs.declared.publication.Publication.{Publication}
use Rattle.merge_schema.specs.declared.publication.Subscription.{Subscription}
use Rattle.merge_model.specs.Judge.ByHistory.{line_site}
use Rattle.merge_model.specs.Publisher.Entries as entry
use Rattle.merge_model.specs.Publisher.Entries.{Changing, Entries, Parts, Touched, changed_by, changing_entries, move_at, move_of, moves_of, parts_of, partition_keys, returned_rows, rows_after, touched_by, with_move, with_rows}
use Rattle.merge_model.specs.History.{Line}
use Rattle.merge_model.specs.Judge.{PublisherJudge}
use Rattle.merge_model.specs.Tables.Keys.{at_row_site, has_key, put_row, same_key}
use Rattle.merge_model.specs.History.Noting.{changed_line, gone_line, lines_of_entries, moved_line}
use Rattle.merge_model.specs.Tables.Publications.{by_site}
use Rattle.merge_model.specs.Tables.{PublisherTables}
use Rattle.merge_model.proofs.Entries.EntryLists.{all-numbered, puts-hold}
use Rattle.merge_model.proofs.Lists.Finding.{all-weaker, some_same}
use Rattle.merge_model.proofs.Lists.KeyLookUps.{key-test}
use Rattle.merge_model.proofs.Lists.{all-append, all-both, all-map, all-of}
use Rattle.merge_model.proofs.Lists.PlaceLookUps.{at-dropped, has_place, is_place, place-is}
use Rattle.merge_model.proofs.Lists.SitesInOrder.{sites-ascend}
use Rattle.merge_model.proofs.Publishers.Sorted.{key_total, row_site_total}
use Rattle.merge_model.proofs.Entries.StepMoves.{IsMoveHere, moves-are, none-returned}
use Rattle.merge_model.proofs.Entries.StepParts.{CanBeSaid, IsPart, found_keys, parts-are}
use Rattle.merge_laws.specs.Laws.LastLines.{move_told}
use Rattle.merge_laws.proofs.LastLines.LastLineAdded.{moves-ascend}
use Rattle.merge_laws.proofs.LastLines.LeavingsSeen.{all-own}
use Rattle.merge_laws.proofs.Touched.TouchEntries.{move-out}
use Rattle.merge_owed.specs.Mappings.{kept_at}
use Rattle.merge_owed.proofs.PurgeCounts.{distinct-append, keys-sorted, same_place}

-- A step goes over each row once, and over each site once.

abbrev nothing_of : PublisherRow → Unit {0}
nothing_of row = tt

abbrev marked : List (Key × PublisherRow) → List (Key × Unit {0})
marked rows = map (λ (row : Key × PublisherRow). (row.0, tt)) rows

sorted-rows : (rows : List (Key × PublisherRow)) → IsStrictlySortedBy key_cmp (keys_of rows) → IsStrictlySortedBy key_cmp (keys_of (marked rows))
sorted-rows rows sorted = subst (λ (ks : List Key). IsStrictlySortedBy key_cmp ks) (sym (keys_of-map_values nothing_of rows)) sorted

abbrev OneEach : List Key → Type 0
OneEach keys = IsDistinct (eq_by_cmp key_cmp) keys

keys-each : (rows : List (Key × PublisherRow)) (acted : List Key) → IsStrictlySortedBy key_cmp (keys_of rows) → OneEach (entry.keys_of rows acted)
keys-each rows acted sorted = IsDistinct-from_sorted key_cmp (entry.keys_of rows acted) (keys-sorted acted (marked rows) (sorted-rows rows sorted))

abbrev PartsApart : List Parts → Type 0
PartsApart parts = IsDistinct (λ (a b : Parts). b.site == a.site) parts

abbrev part_of : Publication → List (Key × PublisherRow) → List (Key × PublisherRow) → ℕ × Subscription → Parts
part_of publication before after s = record { site = s.0; before = partition_keys publication s.1 before; after = partition_keys publication s.1 after }

apart-number : (n k : ℕ) → eq_by_cmp nat_cmp n k ≡ false → (k == n) ≡ false
apart-number n k is = (let test : eq_by_cmp nat_cmp n k ≡ (k == n) = grind (arith, nat_tests) in sym test ∙ is)

module _ (publication : Publication) (before after : List (Key × PublisherRow)) where
  part-heads : (n : ℕ) (es : List (ℕ × Subscription)) → AllByRecursion (λ (k : ℕ). eq_by_cmp nat_cmp n k ≡ false) (keys_of es) → AllByRecursion (λ (part : Parts). (part.site == n) ≡ false) (map (part_of publication before after) es)
  part-heads n [] apart = tt
  part-heads n (e ∷ es) apart = (apart-number n e.0 apart.0, part-heads n es apart.1)

  parts-by : (es : List (ℕ × Subscription)) → IsDistinct (eq_by_cmp nat_cmp) (keys_of es) → PartsApart (map (part_of publication before after) es)
  unfolding IsDistinct
  parts-by [] distinct = tt
  parts-by (e ∷ es) distinct = (part-heads e.0 es distinct.0, parts-by es distinct.1)

  parts-apart : PartsApart (parts_of publication before after)
  parts-apart = parts-by (by_site publication) (IsDistinct-from_sorted nat_cmp (keys_of (by_site publication)) (sites-ascend publication))

-- So its moves are each of another row and site.

abbrev Move : Type 0
Move = RowSite × MoveKind

abbrev same_moved : Move → Move → Bool
same_moved a b = same_place a.0 b.0

abbrev OfPlace : Key → ℕ → Move → Type 0
OfPlace key n move = (same_key key move.0.key ≡ true) × ((move.0.site == n) ≡ false)

module _ (touched : Touched) where
  -- of one row
  abbrev RowIs : Key → Move → Type 0
  RowIs key move = move.0.key ≡ key

  some-row : (key : Key) (part : Parts) (kind : Option MoveKind) (rest : List Move) → AllByRecursion (RowIs key) rest → AllByRecursion (RowIs key) (cons_option (option_map (λ (k : MoveKind). (record { key = key; site = part.site }, k)) kind) rest)
  some-row key part None rest all = all
  some-row key part (Some kind) rest all = (refl, all)

  rows-are : (key : Key) (parts : List Parts) → AllByRecursion (RowIs key) (filter_map (move_at touched key) parts)
  rows-are key [] = tt
  rows-are key (part ∷ parts) = some-row key part (move_of (has_key part.before key) (has_key part.after key) (has_key touched.changed key) ((part.site == touched.uploader) && has_key touched.acted key))
      (filter_map (move_at touched key) parts) (rows-are key parts)

  abbrev SiteIsNot : ℕ → Move → Type 0
  SiteIsNot n move = (move.0.site == n) ≡ false

  some-site : (n : ℕ) (key : Key) (part : Parts) (kind : Option MoveKind) (rest : List Move) → (part.site == n) ≡ false → AllByRecursion (SiteIsNot n) rest → AllByRecursion (SiteIsNot n) (cons_option (option_map (λ (k : MoveKind). (record { key = key; site = part.site }, k)) kind) rest)
  some-site n key part None rest is all = all
  some-site n key part (Some kind) rest is all = (is, all)

  sites-are : (n : ℕ) (key : Key) (parts : List Parts) → AllByRecursion (λ (part : Parts). (part.site == n) ≡ false) parts → AllByRecursion (SiteIsNot n) (filter_map (move_at touched key) parts)
  sites-are n key [] apart = tt
  sites-are n key (part ∷ parts) apart = some-site n key part (move_of (has_key part.before key) (has_key part.after key) (has_key touched.changed key) ((part.site == touched.uploader) && has_key touched.acted key))
      (filter_map (move_at touched key) parts) apart.0 (sites-are n key parts apart.1)

  site-apart : (key : Key) (n : ℕ) (kind : MoveKind) (other : Move) → SiteIsNot n other → (let move : Move = (record { key = key; site = n }, kind) in same_moved move other ≡ false)
  site-apart key n kind other not_here = place-is key n other.0 ∙ grind (arith, not_here)

  one-row : (key : Key) (part : Parts) (kind : Option MoveKind) (rest : List Move) → AllByRecursion (SiteIsNot part.site) rest → IsDistinct same_moved rest
      → IsDistinct same_moved (cons_option (option_map (λ (k : MoveKind). (record { key = key; site = part.site }, k)) kind) rest)
  unfolding IsDistinct
  one-row key part None rest others distinct = distinct
  one-row key part (Some kind) rest others distinct =
      (all-weaker (SiteIsNot part.site) (λ (other : Move). (let move : Move = (record { key = key; site = part.site }, kind) in same_moved move other ≡ false)) (λ other is. site-apart key part.site kind other is) rest others, distinct)

  row-once : (key : Key) (parts : List Parts) → PartsApart parts → IsDistinct same_moved (filter_map (move_at touched key) parts)
  unfolding IsDistinct
  row-once key [] apart = tt
  row-once key (part ∷ parts) apart = one-row key part (move_of (has_key part.before key) (has_key part.after key) (has_key touched.changed key) ((part.site == touched.uploader) && has_key touched.acted key))
      (filter_map (move_at touched key) parts) (sites-are part.site key parts apart.0) (row-once key parts apart.1)

  -- and of each
  abbrev RowIsNot : Key → Move → Type 0
  RowIsNot key move = same_key key move.0.key ≡ false

  others-not : (key : Key) (parts : List Parts) (keys : List Key) → AllByRecursion (λ (k : Key). eq_by_cmp key_cmp key k ≡ false) keys → AllByRecursion (RowIsNot key) (moves_of touched parts keys)
  others-not key parts [] apart = tt
  others-not key parts (k ∷ keys) apart = all-append (RowIsNot key) (filter_map (move_at touched k) parts) (moves_of touched parts keys)
      (all-weaker (RowIs k) (RowIsNot key) (λ move is. ap (λ (x : Key). same_key key x) is ∙ sym (key-test key k) ∙ apart.0) (filter_map (move_at touched k) parts) (rows-are k parts)) (others-not key parts keys apart.1)

  row-apart : (key : Key) (move other : Move) → RowIs key move → RowIsNot key other → same_moved move other ≡ false
  row-apart key move other is differs = place-is move.0.key move.0.site other.0 ∙ (let no : same_key move.0.key other.0.key ≡ false = ap (λ (x : Key). same_key x other.0.key) is ∙ differs in grind (arith, no))

  moves-once : (parts : List Parts) (keys : List Key) → PartsApart parts → OneEach keys → IsDistinct same_moved (moves_of touched parts keys)
  unfolding IsDistinct
  moves-once parts [] apart each = tt
  moves-once parts (key ∷ keys) apart each =
      let rest : List Move = moves_of touched parts keys in
      let others : AllByRecursion (RowIsNot key) rest = others-not key parts keys each.0 in
      distinct-append same_moved (filter_map (move_at touched key) parts) rest (row-once key parts apart) (moves-once parts keys apart each.1)
      (all-weaker (RowIs key) (λ (move : Move). AllByRecursion (λ (other : Move). same_moved move other ≡ false) rest)
      (λ move is. all-weaker (RowIsNot key) (λ (other : Move). same_moved move other ≡ false) (λ other differs. row-apart key move other is differs) rest others) (filter_map (move_at touched key) parts) (rows-are key parts))

-- Moves of different rows and sites are all found.

place-itself : (place : RowSite) → is_place place.key place.site place ≡ true
place-itself place = grind (arith, nat_tests)

abbrev Numbered : Type 0
Numbered = (RowSite × MoveKind) × ℕ

abbrev mapping_of : Numbered → Mapping
mapping_of e = record { kind = e.0.1; generation = e.1 }

abbrev NotAt : RowSite → Numbered → Type 0
NotAt place e = same_place place e.0.0 ≡ false

zip-apart : (place : RowSite) (moves : List Move) (generations : List ℕ) → AllByRecursion (λ (move : Move). same_place place move.0 ≡ false) moves → AllByRecursion (NotAt place) (zip moves generations)
zip-apart place [] generations apart = tt
zip-apart place (move ∷ moves) [] apart = tt
zip-apart place (move ∷ moves) (generation ∷ generations) apart = (apart.0, zip-apart place moves generations apart.1)

abbrev IsPut : List (RowSite × Mapping) → Numbered → Type 0
IsPut mappings e = at_row_site mappings e.0.0 ≡ Some (mapping_of e)

still-put : (e : Numbered) (mappings : List (RowSite × Mapping)) (es : List Numbered) → AllByRecursion (NotAt e.0.0) es → IsPut (with_move mappings e) e → IsPut (fold with_move (with_move mappings e) es) e
still-put e mappings es apart put = puts-hold row_site_cmp row_site_total (λ (x : Numbered). x.0.0) mapping_of (λ (found : Option Mapping). found ≡ Some (mapping_of e)) e.0.0
    (λ (x : Numbered). is_place e.0.0.key e.0.0.site x.0.0) (λ x. place-is e.0.0.key e.0.0.site x.0.0) es (with_move mappings e)
    (all-weaker (NotAt e.0.0) (λ (x : Numbered). is_place e.0.0.key e.0.0.site x.0.0 ≡ true → Some (mapping_of x) ≡ Some (mapping_of e))
    (λ x differs there. absurd (let at = place-is e.0.0.key e.0.0.site x.0.0 in grind (arith, at, differs, there))) es apart) (λ none. put)

just-put : (e : Numbered) (mappings : List (RowSite × Mapping)) → IsPut (with_move mappings e) e
just-put e mappings = lookup-insert_entry row_site_cmp row_site_total e.0.0 e.0.0 (mapping_of e) mappings
    ∙ ap (λ (b : Bool). (let found : Option Mapping = cond b (Some (mapping_of e)) (at_row_site mappings e.0.0) in found)) (place-is e.0.0.key e.0.0.site e.0.0 ∙ place-itself e.0.0)

all-put : (moves : List Move) (generations : List ℕ) (mappings : List (RowSite × Mapping)) → IsDistinct same_moved moves → AllByRecursion (IsPut (fold with_move mappings (zip moves generations))) (zip moves generations)
unfolding IsDistinct
all-put [] generations mappings distinct = tt
all-put (move ∷ moves) [] mappings distinct = tt
all-put (move ∷ moves) (generation ∷ generations) mappings distinct = (
  still-put (move, generation) mappings (zip moves generations) (zip-apart move.0 moves generations distinct.0) (just-put (move, generation) mappings),
  all-put moves generations (with_move mappings (move, generation)) distinct.1,
)

-- The lines of a step's entries.

-- what a line tells of a move is kept as a mapping
abbrev pub IsTold : PublisherTables → Line → Type 0
IsTold p line = (site : ℕ) (move : Mapping) → line_site line ≡ Some site → move_told (Some line) ≡ Some move → kept_at p (record { key = line.key; site = site }) ≡ Some move

pub gone-told : (p : PublisherTables) (generation : ℕ) (places : List RowSite) → AllByRecursion (IsTold p) (map (gone_line generation) places)
gone-told p generation [] = tt
gone-told p generation (place ∷ places) = ((λ site move at is. absurd cc), gone-told p generation places)

changed-told : (p : PublisherTables) (changes : List (Key × ℕ)) → AllByRecursion (IsTold p) (map changed_line changes)
changed-told p [] = tt
changed-told p (change ∷ changes) = ((λ site move at is. absurd cc), changed-told p changes)

kept-there : (p : PublisherTables) (place : RowSite) (mapping move : Mapping) (site : ℕ) → Some place.site ≡ Some site → kept_at p place ≡ Some mapping → Some mapping ≡ Some move → kept_at p (record { key = place.key; site = site }) ≡ Some move
kept-there p place mapping move site at kept is = ap (λ (n : ℕ). kept_at p (record { key = place.key; site = n })) (sym (some_same place.site site at)) ∙ kept ∙ is

moved-told : (p : PublisherTables) (place : RowSite) (kind : MoveKind) (generation : ℕ) → kept_at p place ≡ Some (record { kind = kind; generation = generation }) → IsTold p (moved_line ((place, kind), generation))
moved-told p place Entered generation kept = λ site move at is. kept-there p place (record { kind = Entered; generation = generation }) move site at kept is
moved-told p place Left generation kept = λ site move at is. kept-there p place (record { kind = Left; generation = generation }) move site at kept is

-- the rows that a step goes over ascend
rows-put : (changed : List ((Key × Version) × ℕ)) (rows : List (Key × PublisherRow)) → IsStrictlySortedBy key_cmp (keys_of rows) → IsStrictlySortedBy key_cmp (keys_of (with_rows rows changed))
rows-put [] rows sorted = sorted
rows-put (row ∷ changed) rows sorted =
    let new : PublisherRow = record { version = row.0.1; changed = row.1 } in rows-put changed (put_row rows row.0.0 new) (sorted_put key_cmp key_total row.0.0 new rows sorted)

rows-ascend : (changing : Changing) (rows : List (Key × PublisherRow)) → IsStrictlySortedBy key_cmp (keys_of rows) → IsStrictlySortedBy key_cmp (keys_of (rows_after changing rows))
rows-ascend changing rows sorted = rows-put (map (λ (row : Key × Version). (row, 0)) changing.versions) rows sorted

module _ (publication : Publication) (valid : CanBeSaid publication) (judge : PublisherJudge) (changing : Changing) (p : PublisherTables) (rows_ascend : IsStrictlySortedBy key_cmp (keys_of p.rows)) (mappings_ascend : IsStrictlySortedBy row_site_cmp (keys_of p.mappings)) where
  abbrev touched : Touched
  touched = touched_by changing

  abbrev rows : List (Key × PublisherRow)
  rows = rows_after changing p.rows

  abbrev parts : List Parts
  parts = parts_of publication p.rows rows

  abbrev keys : List Key
  keys = entry.keys_of rows touched.acted

  abbrev moves : List Move
  moves = moves_of touched parts keys

  abbrev generations : List ℕ
  generations = drop (length touched.changed) (generations_of p.gens.filling (length touched.changed + length moves))

  abbrev numbered : List Numbered
  numbered = zip moves generations

  abbrev gone : List RowSite
  gone = returned_rows judge touched parts touched.changed

  abbrev q : PublisherTables
  q = changed_by publication judge changing p

  abbrev found_at : ℕ → List (Key × PublisherRow) → List Key
  found_at n at = found_keys publication (subscription_at publication n) at

  abbrev MovesAt : RowSite → Move → Type 0
  MovesAt place move = IsMoveHere touched place.key place.site (found_at place.site p.rows) (found_at place.site rows) move

  abbrev NotGone : Move → Type 0
  NotGone move = has_place gone move.0.key move.0.site ≡ false

  are : (n : ℕ) → AllByRecursion (IsPart n (found_at n p.rows) (found_at n rows)) parts
  are n = parts-are publication n p.rows rows valid

  own-stays : (move : Move) → MovesAt move.0 move → NotGone move
  own-stays move moves_so =
      let place : RowSite = move.0 in
      let itself : is_place place.key place.site place ≡ true = place-itself place in
      none-returned touched place.key place.site (found_at place.site p.rows) (found_at place.site rows) judge
      (move-out (has_key (found_at place.site p.rows) place.key) (has_key (found_at place.site rows) place.key) (has_key touched.changed place.key) ((place.site == touched.uploader) && has_key touched.acted place.key) move.1 (moves_so itself))
      parts touched.changed (are place.site)

  none-gone : AllByRecursion NotGone moves
  none-gone = all-weaker (λ (move : Move). MovesAt move.0 move) NotGone own-stays moves
      (all-own MovesAt (λ (move : Move). move.0) moves (λ place. moves-are touched place.key place.site (found_at place.site p.rows) (found_at place.site rows) parts keys (are place.site)))

  are-put : AllByRecursion (IsPut (fold with_move p.mappings numbered)) numbered
  are-put = all-put moves generations p.mappings (moves-once touched parts keys (parts-apart publication p.rows rows) (keys-each rows touched.acted (rows-ascend changing p.rows rows_ascend)))

  kept-by : (e : Numbered) → NotGone e.0 → IsPut (fold with_move p.mappings numbered) e → IsTold q (moved_line e)
  kept-by e stays put = moved-told q e.0.0 e.0.1 e.1
      (at-dropped gone (fold with_move p.mappings numbered) e.0.0.key e.0.0.site (moves-ascend numbered p.mappings mappings_ascend)
      ∙ ap (λ (b : Bool). (let found : Option Mapping = cond b None (at_row_site (fold with_move p.mappings numbered) e.0.0) in found)) stays ∙ put)

  moves-told : AllByRecursion (IsTold q) (map moved_line numbered)
  moves-told = all-map (λ (e : Numbered). NotGone e.0 × IsPut (fold with_move p.mappings numbered) e) (IsTold q) moved_line (λ e both. kept-by e both.0 both.1) numbered
      (all-both (λ (e : Numbered). NotGone e.0 × Unit {0}) (IsPut (fold with_move p.mappings numbered)) (λ (e : Numbered). NotGone e.0 × IsPut (fold with_move p.mappings numbered) e) (λ e first second. (first.0, second)) numbered
      (all-numbered NotGone (λ (generation : ℕ). Unit {0}) moves generations none-gone (all-of (λ (generation : ℕ). Unit {0}) (λ generation. tt) generations)) are-put)

  pub entries-told : (generation : ℕ) → AllByRecursion (IsTold q) (lines_of_entries generation (changing_entries publication judge changing p))
  entries-told generation =
      let entries : Entries = changing_entries publication judge changing p in
      all-append (IsTold q) (map changed_line entries.changed ++ map moved_line entries.moved) (map (gone_line generation) entries.gone)
      (all-append (IsTold q) (map changed_line entries.changed) (map moved_line entries.moved) (changed-told q entries.changed) moves-told) (gone-told q generation entries.gone)
