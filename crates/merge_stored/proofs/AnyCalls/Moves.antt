-- Each row that a step moves for a site is one that the step may touch, and the site subscribes.
use Rattle.std.specs.BTreeMap.{is_at}
use Rattle.std.specs.List.{AllByRecursion, fold, zip}
use Rattle.std.specs.Ordering.{is_eq, nat_cmp}
use Rattle.std.specs.Prelude.{Bool, List, None, Option, Some, [], cond, drop, false, filter_map, length, option_map, true, ℕ, ◌&&◌, ◌+◌, ◌==◌, ◌≡◌, ◌∷◌}
use Rattle.std.proofs.Common.{ap, arith, subst}
use Rattle.std.proofs.lemmas.Bool.Decides.{nat_tests}
use Rattle.merge_types.specs.declared.row_key.RowKey.{RowKey as Key}
use Rattle.merge_units.specs.declared.site_row.PublisherRow.{PublisherRow}
use Rattle.merge_gens.specs.Filling.{generations_of}
use Rattle.merge_gens.specs.Moves.{row_site_cmp}
use Rattle.merge_gens.specs.declared.moves.Mapping.{Mapping}
use Rattle.merge_gens.specs.declared.moves.MoveKind.{MoveKind}
use Rattle.merge_gens.specs.declared.moves.RowSite.{RowSite}
use Rattle.merge_schema.specs.Places.{is_subscription}
use Rattle.merge_schema.specs.Valid.{IsValid}
use Rattle.merge_schema.specs.declared.publication.Publication.{Publication}
use Rattle.merge_schema.specs.declared.publication.Subscription.{Subscription}
use Rattle.merge_model.specs.Judge.{PublisherJudge}
use Rattle.merge_model.specs.Publisher.Entries as entry
use Rattle.merge_model.specs.Publisher.Entries.{Changing, Parts, Touched, changed_by, changing_entries, move_at, move_of, moves_of, partition_keys, parts_of, rows_after, touched_by, with_move}
use Rattle.merge_model.specs.Tables.Keys.{drop_row_site, has_key, put_number, put_row_site}
use Rattle.merge_model.specs.Tables.Publications.{by_site}
use Rattle.merge_model.specs.Tables.{PublisherTables}
use Rattle.merge_model.proofs.Entries.EntryLists.{all-put}
use Rattle.merge_model.proofs.Lists.Finding.{all-weaker}
use Rattle.merge_model.proofs.Lists.PlaceLookUps.{places-exact}
use Rattle.merge_model.proofs.Lists.{OfSome, all-append, all-both, all-filter_map, all-map}
use Rattle.merge_honest.proofs.EntryKeys.{RowsHave, changed-have}
use Rattle.merge_stored.proofs.PublisherRowsLoad.{MoveFits, each-subscribes}
use Rattle.merge_stored.proofs.Sites.{subscription-low}
use Rattle.merge_stored.proofs.AnyCalls.Acts.{KeyStands}

-- A fact of sites.

module _ (T : ℕ → Type 0) where
  abbrev MappingsOf : List (RowSite × Mapping) → Type 0
  MappingsOf mappings = AllByRecursion (λ (entry : RowSite × Mapping). T entry.0.site) mappings

  abbrev MovesOf : List (RowSite × MoveKind) → Type 0
  MovesOf moves = AllByRecursion (λ (move : RowSite × MoveKind). T move.0.site) moves

  move-of : (key : Key) (site : ℕ) (found : Option MoveKind) → T site → OfSome (λ (move : RowSite × MoveKind). T move.0.site) (option_map (λ (kind : MoveKind). (let move : RowSite × MoveKind = (record { key = key; site = site }, kind) in move)) found)
  move-of key site None here = tt
  move-of key site (Some kind) here = here

  moves-of : (touched : Touched) (parts : List Parts) (keys : List Key) → AllByRecursion (λ (part : Parts). T part.site) parts → MovesOf (moves_of touched parts keys)
  moves-of touched parts [] all = tt
  moves-of touched parts (key ∷ keys) all = all-append (λ (move : RowSite × MoveKind). T move.0.site) (filter_map (move_at touched key) parts) (moves_of touched parts keys)
      (all-filter_map (λ (part : Parts). T part.site) (λ (move : RowSite × MoveKind). T move.0.site) (move_at touched key)
      (λ part here. move-of key part.site (move_of (has_key part.before key) (has_key part.after key) (has_key touched.changed key) ((part.site == touched.uploader) && has_key touched.acted key)) here) parts all)
      (moves-of touched parts keys all)

  numbered : (moves : List (RowSite × MoveKind)) (generations : List ℕ) → MovesOf moves → AllByRecursion (λ (move : (RowSite × MoveKind) × ℕ). T move.0.0.site) (zip moves generations)
  numbered [] generations all = tt
  numbered (move ∷ moves) [] all = tt
  numbered (move ∷ moves) (generation ∷ generations) all = (all.0, numbered moves generations all.1)

  mappings-put : (moved : List ((RowSite × MoveKind) × ℕ)) (mappings : List (RowSite × Mapping)) → MappingsOf mappings → AllByRecursion (λ (move : (RowSite × MoveKind) × ℕ). T move.0.0.site) moved → MappingsOf (fold with_move mappings moved)
  mappings-put [] mappings all new = all
  mappings-put (x ∷ moved) mappings all new =
      let mapping : Mapping = record { kind = x.0.1; generation = x.1 } in
      mappings-put moved (put_row_site mappings x.0.0 mapping)
      (all-put (λ (e : RowSite × Mapping). T e.0.site) row_site_cmp x.0.0 mapping (λ q tied. subst (λ (place : RowSite). T place.site) (places-exact x.0.0 q (ap is_eq tied)) new.0) new.0 mappings all) new.1

  drop-by : (b : Bool) (e : RowSite × Mapping) (rest more : List (RowSite × Mapping)) → T e.0.site → MappingsOf rest → MappingsOf more → MappingsOf (cond b rest (e ∷ more))
  drop-by true e rest more here all others = all
  drop-by false e rest more here all others = (here, others)

  drop-one : (place : RowSite) (mappings : List (RowSite × Mapping)) → MappingsOf mappings → MappingsOf (drop_row_site mappings place)
  drop-one place [] all = tt
  drop-one place (e ∷ mappings) all = drop-by (is_at (row_site_cmp place) e.0) e mappings (drop_row_site mappings place) all.0 all.1 (drop-one place mappings all.1)

  mappings-dropped : (places : List RowSite) (mappings : List (RowSite × Mapping)) → MappingsOf mappings → MappingsOf (fold drop_row_site mappings places)
  mappings-dropped [] mappings all = all
  mappings-dropped (place ∷ places) mappings all = mappings-dropped places (drop_row_site mappings place) (drop-one place mappings all)

  -- the subscriptions by site
  by-sites : (entries : List (ℕ × Subscription)) (subscriptions : List Subscription) → AllByRecursion (λ (e : ℕ × Subscription). T e.0) entries → AllByRecursion (λ (s : Subscription). T s.site.0) subscriptions
      → AllByRecursion (λ (e : ℕ × Subscription). T e.0) (fold (λ (others : List (ℕ × Subscription)) (s : Subscription). put_number others s.site.0 s) entries subscriptions)
  by-sites entries [] all each = all
  by-sites entries (s ∷ subscriptions) all each = by-sites (put_number entries s.site.0 s) subscriptions
      (all-put (λ (e : ℕ × Subscription). T e.0) nat_cmp s.site.0 s (λ q tied. subst T (let is : s.site.0 ≡ q = grind (arith, nat_tests, tied) in is) each.0) each.0 entries all) each.1

  changed-of : (publication : Publication) (judge : PublisherJudge) (changing : Changing) (p : PublisherTables) → AllByRecursion (λ (s : Subscription). T s.site.0) publication.subscriptions → MappingsOf p.mappings → MappingsOf (changed_by publication judge changing p).mappings
  changed-of publication judge changing p each mappings =
      let touched : Touched = touched_by changing in
      let after : List (Key × PublisherRow) = rows_after changing p.rows in
      let parts : List Parts = parts_of publication p.rows after in
      let moves : List (RowSite × MoveKind) = moves_of touched parts (entry.keys_of after touched.acted) in
      let generations : List ℕ = generations_of p.gens.filling (length touched.changed + length moves) in
      let sites : AllByRecursion (λ (part : Parts). T part.site) parts = all-map (λ (e : ℕ × Subscription). T e.0) (λ (part : Parts). T part.site)
      (λ (s : ℕ × Subscription). (let part : Parts = record { site = s.0; before = partition_keys publication s.1 p.rows; after = partition_keys publication s.1 after } in part)) (λ e here. here) (by_site publication) (by-sites [] publication.subscriptions tt each) in
      mappings-dropped (changing_entries publication judge changing p).gone (fold with_move p.mappings (changing_entries publication judge changing p).moved)
      (mappings-put (changing_entries publication judge changing p).moved p.mappings mappings (numbered moves (drop (length touched.changed) generations) (moves-of touched parts (entry.keys_of after touched.acted) sites)))

-- Both.

module _ (resolvers : ℕ) (publication : Publication) (valid : IsValid resolvers publication) where
  abbrev Subscribes : ℕ → Type 0
  Subscribes site = is_subscription publication site ≡ true

  pub moves-changed : (judge : PublisherJudge) (changing : Changing) (p : PublisherTables) → RowsHave (KeyStands publication) p.rows → RowsHave (KeyStands publication) changing.versions → AllByRecursion (KeyStands publication) changing.acted → AllByRecursion (MoveFits publication) p.mappings
      → AllByRecursion (MoveFits publication) (changed_by publication judge changing p).mappings
  moves-changed judge changing p rows versions acted moves =
      all-both (λ (e : RowSite × Mapping). KeyStands publication e.0.key) (λ (e : RowSite × Mapping). Subscribes e.0.site) (MoveFits publication)
      (λ e key site. record { key = key.0; article = key.1; site = site; low = subscription-low resolvers publication valid e.0.site site }) (changed_by publication judge changing p).mappings
      (changed-have (KeyStands publication) publication judge changing p rows versions acted (all-weaker (MoveFits publication) (λ (e : RowSite × Mapping). KeyStands publication e.0.key) (λ e fits. (fits.key, fits.article)) p.mappings moves))
      (changed-of Subscribes publication judge changing p (each-subscribes publication) (all-weaker (MoveFits publication) (λ (e : RowSite × Mapping). Subscribes e.0.site) (λ e fits. fits.site) p.mappings moves))
