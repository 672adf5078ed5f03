-- What a download puts is in the partition, and what it removes left it.
use Rattle.std.specs.Prelude.{◌≡◌, ◌==◌, ◌||◌, ℕ, zero, suc, List, [], ◌∷◌, Bool, true, false, Option, Some, None, refl, map, filter, filter_map, flat_map, cond, option_map, is_some}
use Rattle.std.specs.List.{cons_option, list_all, list_any, range_with_len}
use Rattle.std.specs.BTreeMap.{is_at}
use Rattle.std.proofs.Common.{arith, sym, ap, ◌∙◌}
use Rattle.std.proofs.lemmas.List.Folds.{list_any-append}
use Rattle.merge_types.specs.declared.identifiers.HostName.{HostName}
use Rattle.merge_types.specs.declared.identifiers.SiteId.{SiteId}
use Rattle.merge_units.specs.declared.version.Body.{Body}
use Rattle.merge_units.specs.declared.version.Body.TheVariants.{Dead, Live}
use Rattle.merge_units.specs.Version.{is_live}
use Rattle.merge_schema.specs.Partition.{LiveRow, belongs, joins_at, partition_of, rows_inside, rows_of, rows_within}
use Rattle.merge_schema.specs.declared.publication.JoinFilter.{JoinFilter}
use Rattle.merge_schema.specs.declared.publication.Publication.{Publication}
use Rattle.merge_schema.specs.declared.publication.Subscription.{Subscription}
use Rattle.merge_model.specs.Judge.ByHistory.{by_past, has_left_by_line, last_line, says_left, touch_by_line, touched_outside}
use Rattle.merge_model.specs.Publisher.Entries.{key_of_live, keys_of, live_row, live_rows, partition_keys}
use Rattle.merge_model.specs.History.{Changed, EnteredFor, GoneFor, LeftFor, Line}
use Rattle.merge_model.specs.Judge.{PublisherJudge}
use Rattle.merge_types.specs.RowKeys.{key_cmp}
use Rattle.merge_model.specs.Tables.Keys.{has_key, row_at, same_key}
use Rattle.merge_model.specs.History.Model.{Model}
use Rattle.merge_model.specs.Laws.Promises.{RepliesStayInside, stays_inside}
use Rattle.merge_resolve.specs.Priorities.{subscription_at}
use Rattle.merge_model.specs.Publisher.PublisherDownload.{TouchedRow, inside_keys, item_of, touched_row}
use Rattle.merge_types.specs.declared.row_key.RowKey.{RowKey as Key}
use Rattle.merge_units.specs.declared.site_row.PublisherRow.{PublisherRow}
use Rattle.merge_model.specs.Tables.{PublisherTables}
use Rattle.merge_model.proofs.Lists.KeyLookUps.{key-test}
use Rattle.merge_model.proofs.Lists.{any-filtered}
use Rattle.merge_model.proofs.Lists.Tests.{either}

-- A row of a partition is one of the live rows.

any-flat : {X Y : Type 0} (test : Y → Bool) (f : X → List Y) (c : Bool) → ((x : X) → list_any test (f x) ≡ true → c ≡ true) → (xs : List X) → list_any test (flat_map f xs) ≡ true → c ≡ true
any-flat test f c each [] is = absurd (grind (arith, is))
any-flat test f c each (x ∷ xs) is = either (c ≡ true) (list_any test (f x)) (list_any test (flat_map f xs)) (sym (list_any-append test (f x) (flat_map f xs)) ∙ is) (each x) (any-flat test f c each xs)

module _ (publication : Publication) (host : HostName) (live : List LiveRow) (test : LiveRow → Bool) where
  within-live : (n place : ℕ) → list_any test (rows_within n publication host live place) ≡ true → list_any test live ≡ true
  within-live zero place is = absurd (grind (arith, is))
  within-live (suc n) place is =
      any-filtered test (λ (row : LiveRow). row.article == place) live
      (any-filtered test (belongs publication host (flat_map (λ (join : JoinFilter). rows_within n publication host live join.parent) (joins_at publication place))) (rows_of place live) is)

  pub inside-live : list_any test (partition_of publication host live) ≡ true → list_any test live ≡ true
  inside-live is = any-flat test (rows_inside publication host live) (list_any test live) (λ place e. within-live _ place e) (range_with_len 0 _) is

pub any-map : {X Y : Type 0} (test : Y → Bool) (f : X → Y) (xs : List X) → list_any test (map f xs) ≡ list_any (λ (x : X). test (f x)) xs
any-map test f [] = refl
any-map test f (x ∷ xs) = ap (λ (b : Bool). test (f x) || b) (any-map test f xs)

-- And a live row is held.

found-behind : (b : Bool) (row : PublisherRow) (rest : Option PublisherRow) → is_some rest ≡ true → is_some (cond b (Some row) rest) ≡ true
found-behind true row rest is = refl
found-behind false row rest is = is

found-first : (b : Bool) (row : PublisherRow) (rest : Option PublisherRow) → b ≡ true → is_some (cond b (Some row) rest) ≡ true
found-first true row rest is = refl
found-first false row rest is = absurd cc

live-head : (key at : Key) (row : PublisherRow) (body : Body) (live : List LiveRow) (rest : Option PublisherRow) → (list_any (λ (x : LiveRow). same_key key (key_of_live x)) live ≡ true → is_some rest ≡ true)
    → list_any (λ (x : LiveRow). same_key key (key_of_live x)) (cons_option (live_row at body) live) ≡ true → is_some (cond (is_at (key_cmp key) at) (Some row) rest) ≡ true
live-head key at row (Dead top) live rest each is = found-behind (is_at (key_cmp key) at) row rest (each is)
live-head key at row (Live cells) live rest each is =
    either (is_some (let found : Option PublisherRow = cond (is_at (key_cmp key) at) (Some row) rest in found) ≡ true) (same_key key at) (list_any (λ (x : LiveRow). same_key key (key_of_live x)) live) is
    (λ here. found-first (is_at (key_cmp key) at) row rest (key-test key at ∙ here)) (λ there. found-behind (is_at (key_cmp key) at) row rest (each there))

pub live-held : (key : Key) (rows : List (Key × PublisherRow)) → list_any (λ (x : LiveRow). same_key key (key_of_live x)) (live_rows rows) ≡ true → is_some (row_at rows key) ≡ true
live-held key [] is = absurd (grind (arith, is))
live-held key (row ∷ rows) is = live-head key row.0 row.1 row.1.version.body (live_rows rows) (row_at rows key) (live-held key rows) is

partition-held : (publication : Publication) (subscription : Subscription) (key : Key) (rows : List (Key × PublisherRow)) → has_key (partition_keys publication subscription rows) key ≡ true → is_some (row_at rows key) ≡ true
partition-held publication subscription key rows is =
    let test : LiveRow → Bool = λ x. same_key key (key_of_live x) in
    live-held key rows (inside-live publication subscription.host (live_rows rows) test (sym (any-map (same_key key) key_of_live (partition_of publication subscription.host (live_rows rows))) ∙ is))

subscribed-held : (publication : Publication) (found : Option Subscription) (key : Key) (p : PublisherTables)
    → (let keys : List Key = elim found [ None ↦ [] | Some subscription ↦ partition_keys publication subscription p.rows ] in has_key keys key ≡ true) → is_some (row_at p.rows key) ≡ true
subscribed-held publication None key p is = absurd (grind (arith, is))
subscribed-held publication (Some subscription) key p is = partition-held publication subscription key p.rows is

-- a row that is in a site's partition is held
pub inside-held : (publication : Publication) (site : SiteId) (p : PublisherTables) (key : Key) → has_key (inside_keys publication site p) key ≡ true → is_some (row_at p.rows key) ≡ true
inside-held publication site p key is = subscribed-held publication (subscription_at publication site.0) key p is

-- The items of a reply.

outside-left : (line : Option Line) (generation : ℕ) → touched_outside line ≡ Some generation → says_left line ≡ true
outside-left None generation is = absurd (grind (arith, is))
outside-left (Some line) generation is = elim line.kind as (λ kind. (let last : Option Line = Some (record line { kind = kind }) in touched_outside last ≡ Some generation → says_left last ≡ true)) [
  | Changed ↦ (λ e. absurd (grind (arith, e)))
  | EnteredFor site ↦ (λ e. absurd (grind (arith, e)))
  | LeftFor site ↦ (λ e. refl)
  | GoneFor site ↦ (λ e. absurd (grind (arith, e)))
] is

module _ (publication : Publication) (m : Model) (site : SiteId) where
  abbrev p : PublisherTables
  p = m.world.publisher

  abbrev inside : List Key
  inside = inside_keys publication site p

  abbrev judge : PublisherJudge
  judge = by_past m.history []

  abbrev Stays : TouchedRow → Type 0
  Stays row = stays_inside publication m site (item_of p row) ≡ true

  -- a row in the partition is put
  put-stays : (key : Key) (generation : ℕ) (found : Option PublisherRow) → row_at p.rows key ≡ found → is_some found ≡ true → has_key inside key ≡ true → Stays (record { key = key; is_in = true; generation = generation })
  put-stays key generation None at held is = absurd (grind (arith, held))
  put-stays key generation (Some row) at held is = grind (arith, at, is)

  -- one outside is removed, and left
  removed-stays : (key : Key) (generation : ℕ) (found : Option PublisherRow) → row_at p.rows key ≡ found → has_left_by_line m.history key site.0 ≡ true → Stays (record { key = key; is_in = false; generation = generation })
  removed-stays key generation None at left = grind (arith, at, left)
  removed-stays key generation (Some row) at left = elim (is_live row.version.body) as (λ (b : Bool). is_live row.version.body ≡ b → Stays (record { key = key; is_in = false; generation = generation })) [
    | true ↦ (λ e. grind (arith, at, left, e))
    | false ↦ (λ e. grind (arith, at, left, e))
  ] refl

  touched-stays : (key : Key) (is_in : Bool) (found : Option ℕ) → has_key inside key ≡ is_in → touch_by_line m.history key site.0 is_in ≡ found
      → (generation : ℕ) → found ≡ Some generation → Stays (record { key = key; is_in = is_in; generation = generation })
  touched-stays key true found inn touch generation is = put-stays key generation (row_at p.rows key) refl (inside-held publication site p key inn) inn
  touched-stays key false found out touch generation is = removed-stays key generation (row_at p.rows key) refl (outside-left (last_line m.history key site.0) generation (touch ∙ is))

  kept-stay : (b : Bool) (row : TouchedRow) (rest : List TouchedRow) → Stays row → list_all (stays_inside publication m site) (map (item_of p) rest) ≡ true
      → list_all (stays_inside publication m site) (map (item_of p) (cond b (row ∷ rest) rest)) ≡ true
  kept-stay true row rest first others = grind (arith, first, others)
  kept-stay false row rest first others = others

  some-stay : (test : TouchedRow → Bool) (key : Key) (is_in : Bool) (found : Option ℕ) (rest : List TouchedRow) → ((generation : ℕ) → found ≡ Some generation → Stays (record { key = key; is_in = is_in; generation = generation }))
      → list_all (stays_inside publication m site) (map (item_of p) (filter test rest)) ≡ true
      → (let row : Option TouchedRow = option_map (λ (generation : ℕ). record { key = key; is_in = is_in; generation = generation }) found in list_all (stays_inside publication m site) (map (item_of p) (filter test (cons_option row rest))) ≡ true)
  some-stay test key is_in None rest each others = others
  some-stay test key is_in (Some generation) rest each others =
      let row : TouchedRow = record { key = key; is_in = is_in; generation = generation } in
      kept-stay (test row) row (filter test rest) (each generation refl) others

  rows-stay : (test : TouchedRow → Bool) (keys : List Key) → list_all (stays_inside publication m site) (map (item_of p) (filter test (filter_map (touched_row judge site inside) keys))) ≡ true
  rows-stay test [] = refl
  rows-stay test (key ∷ keys) =
      let is_in : Bool = has_key inside key in
      some-stay test key is_in (touch_by_line m.history key site.0 is_in) (filter_map (touched_row judge site inside) keys)
      (λ generation is. touched-stays key is_in (touch_by_line m.history key site.0 is_in) refl refl generation is) (rows-stay test keys)

pub replies-stay : (publication : Publication) (m : Model) → RepliesStayInside publication m
replies-stay publication m ask =
    let judge : PublisherJudge = by_past m.history [] in
    rows-stay publication m ask.site _ (keys_of m.world.publisher.rows (judge.moved_rows ask.site.0))
