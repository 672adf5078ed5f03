-- What holds of the rows of a step holds of each row that moves by its entries.
use Rattle.std.specs.List.{AllByRecursion, cons_option, fold, zip}
use Rattle.std.specs.Map.{remove_entry}
use Rattle.std.specs.Ordering.{is_eq}
use Rattle.std.specs.BTreeMap.{is_at}
use Rattle.std.specs.Prelude.{Bool, List, None, Option, Some, [], cond, drop, false, filter_map, flat_map, is_some, length, map, option_map, refl, true, ℕ, ◌+◌, ◌&&◌, ◌==◌, ◌||◌, ◌≡◌, ◌∷◌}
use Rattle.std.proofs.Common.{ap, arith, subst, sym, ◌∙◌}
use Rattle.std.proofs.lemmas.Bool.Decides.{nat_tests}
use Rattle.merge_types.specs.RowKeys.{key_cmp}
use Rattle.merge_types.specs.declared.row_key.RowKey.{RowKey as Key}
use Rattle.merge_units.specs.declared.site_row.PublisherRow.{PublisherRow}
use Rattle.merge_units.specs.declared.version.Version.{Version}
use Rattle.merge_gens.specs.Filling.{generations_of}
use Rattle.merge_gens.specs.Moves.{row_site_cmp}
use Rattle.merge_gens.specs.declared.moves.Mapping.{Mapping}
use Rattle.merge_gens.specs.declared.moves.MoveKind.{MoveKind}
use Rattle.merge_gens.specs.declared.moves.RowSite.{RowSite}
use Rattle.merge_schema.specs.declared.publication.Publication.{Publication}
use Rattle.merge_model.specs.Publisher.Entries as entry
use Rattle.merge_model.specs.Publisher.Entries.{Changing, Parts, Touched, changed_by, changing_entries, move_at, move_of, moves_of, parts_of, rows_after, touched_by, with_move, with_rows}
use Rattle.merge_model.specs.Judge.{PublisherJudge}
use Rattle.merge_model.specs.Tables.Keys.{at_row_site, drop_row_site, has_key, put_row, put_row_site, row_at, same_key}
use Rattle.merge_model.specs.Tables.{PublisherTables}
use Rattle.merge_model.proofs.Entries.EntryLists.{all-dropped, all-put}
use Rattle.merge_model.proofs.Lists.KeyLists.{some-head}
use Rattle.merge_model.proofs.Lists.KeyLookUps.{key-test, keys-same, keys-tied}
use Rattle.merge_model.proofs.Lists.{OfSome, all-append, all-filter_map, all-unit}
use Rattle.merge_model.proofs.Lists.PlaceLookUps.{place-is, places-exact}

module _ (P : Key → Type 0) where
  abbrev pub RowsHave : {A : Type 0} → List (Key × A) → Type 0
  RowsHave {A = A} rows = AllByRecursion (λ (row : Key × A). P row.0) rows

  abbrev pub MappingsHave : List (RowSite × Mapping) → Type 0
  MappingsHave mappings = AllByRecursion (λ (entry : RowSite × Mapping). P entry.0.key) mappings

  -- What is found.

  row-by : {A : Type 0} (row : Key × A) (key : Key) (rest : Bool) (b : Bool) → same_key key row.0 ≡ b → P row.0 → (b || rest) ≡ true → (rest ≡ true → P key) → P key
  row-by row key rest true same here is later = subst P (sym (keys-same key row.0 same)) here
  row-by row key rest false same here is later = later is

  pub row-has : {A : Type 0} (rows : List (Key × A)) (key : Key) → RowsHave rows → is_some (row_at rows key) ≡ true → P key
  row-has [] key all is = absurd (grind (arith, is))
  row-has {A = A} (row ∷ rows) key all is =
      let either : (same_key key row.0 || is_some (row_at rows key)) ≡ true = ap (λ (b : Bool). b || is_some (row_at rows key)) (sym (key-test key row.0)) ∙ sym (some-head (is_at (key_cmp key) row.0) row.1 (row_at rows key)) ∙ is in
      row-by row key (is_some (row_at rows key)) (same_key key row.0) refl all.0 either (λ later. row-has {A = A} rows key all.1 later)

  place-by : (place : RowSite) (e : RowSite × Mapping) (rest : Bool) (b : Bool) → is_at (row_site_cmp place) e.0 ≡ b → P e.0.key → (b || rest) ≡ true → (rest ≡ true → P place.key) → P place.key
  place-by place e rest true same here is later = subst (λ (other : RowSite). P other.key) (sym (places-exact place e.0 same)) here
  place-by place e rest false same here is later = later is

  pub place-has : (mappings : List (RowSite × Mapping)) (place : RowSite) → MappingsHave mappings → is_some (at_row_site mappings place) ≡ true → P place.key
  place-has [] place all is = absurd (grind (arith, is))
  place-has (e ∷ mappings) place all is =
      place-by place e (is_some (at_row_site mappings place)) (is_at (row_site_cmp place) e.0) refl all.0 (sym (some-head (is_at (row_site_cmp place) e.0) e.1 (at_row_site mappings place)) ∙ is) (λ later. place-has mappings place all.1 later)

  -- What is put, and what is dropped.

  rows-put : (changed : List ((Key × Version) × ℕ)) (rows : List (Key × PublisherRow)) → RowsHave rows → AllByRecursion (λ (x : (Key × Version) × ℕ). P x.0.0) changed → RowsHave (with_rows rows changed)
  rows-put [] rows all new = all
  rows-put (x ∷ changed) rows all new =
      let row : PublisherRow = record { version = x.0.1; changed = x.1 } in
      rows-put changed (put_row rows x.0.0 row) (all-put (λ (r : Key × PublisherRow). P r.0) key_cmp x.0.0 row (λ q tied. subst P (keys-tied x.0.0 q tied) new.0) new.0 rows all) new.1

  keys-put : (keys : List Key) (es : List (Key × Unit {0})) → RowsHave es → AllByRecursion P keys → RowsHave (fold (λ (others : List (Key × Unit {0})) (key : Key). put_row others key tt) es keys)
  keys-put [] es all new = all
  keys-put (key ∷ keys) es all new = keys-put keys (put_row es key tt) (all-put (λ (r : Key × Unit {0}). P r.0) key_cmp key tt (λ q tied. subst P (keys-tied key q tied) new.0) new.0 es all) new.1

  firsts : (es : List (Key × Unit {0})) → RowsHave es → AllByRecursion P (map (λ (e : Key × Unit {0}). e.0) es)
  firsts [] all = tt
  firsts (e ∷ es) all = (all.0, firsts es all.1)

  abbrev unit_row : Key × PublisherRow → Key × Unit {0}
  unit_row row = (row.0, tt)

  units : (rows : List (Key × PublisherRow)) → RowsHave rows → RowsHave (map unit_row rows)
  units [] all = tt
  units (row ∷ rows) all = (all.0, units rows all.1)

  keys-have : (rows : List (Key × PublisherRow)) (acted : List Key) → RowsHave rows → AllByRecursion P acted → AllByRecursion P (entry.keys_of rows acted)
  keys-have rows acted all new = firsts (fold (λ (others : List (Key × Unit {0})) (key : Key). put_row others key tt) (map unit_row rows) acted) (keys-put acted (map unit_row rows) (units rows all) new)

  abbrev MovesHave : List (RowSite × MoveKind) → Type 0
  MovesHave moves = AllByRecursion (λ (move : RowSite × MoveKind). P move.0.key) moves

  move-has : (key : Key) (site : ℕ) (found : Option MoveKind) → P key → OfSome (λ (move : RowSite × MoveKind). P move.0.key) (option_map (λ (kind : MoveKind). (let move : RowSite × MoveKind = (record { key = key; site = site }, kind) in move)) found)
  move-has key site None here = tt
  move-has key site (Some kind) here = here

  moves-have : (touched : Touched) (parts : List Parts) (keys : List Key) → AllByRecursion P keys → MovesHave (moves_of touched parts keys)
  moves-have touched parts [] all = tt
  moves-have touched parts (key ∷ keys) all = all-append (λ (move : RowSite × MoveKind). P move.0.key) (filter_map (move_at touched key) parts) (moves_of touched parts keys)
      (all-filter_map (λ (part : Parts). Unit {0}) (λ (move : RowSite × MoveKind). P move.0.key) (move_at touched key)
      (λ part unit. move-has key part.site (move_of (has_key part.before key) (has_key part.after key) (has_key touched.changed key) ((part.site == touched.uploader) && has_key touched.acted key)) all.0) parts (all-unit parts))
      (moves-have touched parts keys all.1)

  numbered : (moves : List (RowSite × MoveKind)) (generations : List ℕ) → MovesHave moves → AllByRecursion (λ (move : (RowSite × MoveKind) × ℕ). P move.0.0.key) (zip moves generations)
  numbered [] generations all = tt
  numbered (move ∷ moves) [] all = tt
  numbered (move ∷ moves) (generation ∷ generations) all = (all.0, numbered moves generations all.1)

  mappings-put : (moved : List ((RowSite × MoveKind) × ℕ)) (mappings : List (RowSite × Mapping)) → MappingsHave mappings → AllByRecursion (λ (move : (RowSite × MoveKind) × ℕ). P move.0.0.key) moved → MappingsHave (fold with_move mappings moved)
  mappings-put [] mappings all new = all
  mappings-put (x ∷ moved) mappings all new =
      let mapping : Mapping = record { kind = x.0.1; generation = x.1 } in
      mappings-put moved (put_row_site mappings x.0.0 mapping)
      (all-put (λ (e : RowSite × Mapping). P e.0.key) row_site_cmp x.0.0 mapping (λ q tied. subst (λ (place : RowSite). P place.key) (places-exact x.0.0 q (ap is_eq tied)) new.0) new.0 mappings all) new.1

  drop-test : (b : Bool) (e : RowSite × Mapping) (rest more : List (RowSite × Mapping)) → P e.0.key → MappingsHave rest → MappingsHave more → MappingsHave (cond b rest (e ∷ more))
  drop-test true e rest more here all others = all
  drop-test false e rest more here all others = (here, others)

  drop-one : (place : RowSite) (mappings : List (RowSite × Mapping)) → MappingsHave mappings → MappingsHave (drop_row_site mappings place)
  drop-one place [] all = tt
  drop-one place (e ∷ mappings) all = drop-test (is_at (row_site_cmp place) e.0) e mappings (drop_row_site mappings place) all.0 all.1 (drop-one place mappings all.1)

  mappings-dropped : (places : List RowSite) (mappings : List (RowSite × Mapping)) → MappingsHave mappings → MappingsHave (fold drop_row_site mappings places)
  mappings-dropped [] mappings all = all
  mappings-dropped (place ∷ places) mappings all = mappings-dropped places (drop_row_site mappings place) (drop-one place mappings all)

  versions-zero : (versions : List (Key × Version)) → RowsHave versions → AllByRecursion (λ (x : (Key × Version) × ℕ). P x.0.0) (map (λ (row : Key × Version). (let pair : (Key × Version) × ℕ = (row, 0) in pair)) versions)
  versions-zero [] all = tt
  versions-zero (row ∷ versions) all = (all.0, versions-zero versions all.1)

  -- The entries of a step.
  pub changed-have : (publication : Publication) (judge : PublisherJudge) (changing : Changing) (p : PublisherTables) → RowsHave p.rows → RowsHave changing.versions → AllByRecursion P changing.acted → MappingsHave p.mappings
      → MappingsHave (changed_by publication judge changing p).mappings
  changed-have publication judge changing p rows versions acted mappings =
      let touched : Touched = touched_by changing in
      let after : List (Key × PublisherRow) = rows_after changing p.rows in
      let parts : List Parts = parts_of publication p.rows after in
      let moves : List (RowSite × MoveKind) = moves_of touched parts (entry.keys_of after touched.acted) in
      let generations : List ℕ = generations_of p.gens.filling (length touched.changed + length moves) in
      let all : RowsHave after = rows-put (map (λ (row : Key × Version). (row, 0)) changing.versions) p.rows rows (versions-zero changing.versions versions) in
      mappings-dropped (changing_entries publication judge changing p).gone (fold with_move p.mappings (changing_entries publication judge changing p).moved)
      (mappings-put (changing_entries publication judge changing p).moved p.mappings mappings
      (numbered moves (drop (length touched.changed) generations) (moves-have touched parts (entry.keys_of after touched.acted) (keys-have after changing.acted all acted))))
