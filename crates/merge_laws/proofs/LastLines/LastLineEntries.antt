-- The entries of a step: what they make of rows and mappings is what their lines say.
use Rattle.std.specs.Prelude.{◌≡◌, ◌==◌, ◌++◌, ◌+◌, ◌||◌, ◌&&◌, ℕ, List, [], ◌∷◌, true, Option, Some, None, map, filter_map, length, take, drop, option_map}
use Rattle.std.specs.List.{AllByRecursion, cons_option, fold, list_any, zip}
use Rattle.std.specs.List.Sorted.{IsStrictlySortedBy}
use Rattle.std.specs.Map.{keys_of}
use Rattle.std.proofs.Common.{arith, subst, sym, ap, ◌∙◌}
use Rattle.std.proofs.lemmas.Bool.Decides.{nat_tests}
use Rattle.std.proofs.lemmas.List.Sums.{fold-append}
use Rattle.merge_types.specs.declared.identifiers.SiteId.{SiteId}
use Rattle.merge_units.specs.declared.version.Version.{Version}
use Rattle.merge_gens.specs.Filling.{generations_of}
use Rattle.merge_schema.specs.declared.publication.Publication.{Publication}
use Rattle.merge_schema.specs.declared.publication.Subscription.{Subscription}
use Rattle.merge_types.specs.declared.row_key.RowKey.{RowKey as Key}
use Rattle.merge_gens.specs.declared.moves.RowSite.{RowSite}
use Rattle.merge_units.specs.declared.site_row.PublisherRow.{PublisherRow}
use Rattle.merge_gens.specs.declared.moves.MoveKind.{MoveKind}
use Rattle.merge_gens.specs.declared.moves.Mapping.{Mapping}
use Rattle.merge_model.specs.Tables.{PublisherTables}
use Rattle.merge_gens.specs.Moves.{row_site_cmp}
use Rattle.merge_model.specs.Tables.Keys.{has_key, drop_row_site}
use Rattle.merge_model.specs.Judge.{PublisherJudge}
use Rattle.merge_model.specs.Tables.Publications.{by_site}
use Rattle.merge_model.specs.Publisher.Entries as entry
use Rattle.merge_model.specs.Publisher.Entries.{Entries, Changing, Parts, Touched, changing_entries, with_entries, with_move, with_rows, move_at, move_of, moves_of, parts_of, partition_keys, rows_after, touched_by}
use Rattle.merge_model.specs.History.{Line}
use Rattle.merge_model.proofs.Lists.SitesInOrder.{AreKeyed, sites-keyed}
use Rattle.merge_model.specs.History.Noting.{changed_line, moved_line, gone_line, lines_of_entries, site_of_subscription}
use Rattle.merge_laws.specs.Laws.LastLines.{LastLines, subscribes}
use Rattle.merge_laws.proofs.LastLines.LastLineAdded.{added, rows-past_moves, rows-past_gone, moves-past_changes, changes-fit, moves-fit, moves-ascend, moves-sites, drops-fit, drops-sites}

-- rows that changed, moves, and places of which nothing is told any more, in this order
pub lines-fit : (publication : Publication) (versions : List (Key × Version)) (generations : List ℕ) (moves : List ((RowSite × MoveKind) × ℕ)) (gone : List RowSite) (generation : ℕ)
    (rows : List (Key × PublisherRow)) (mappings : List (RowSite × Mapping)) (lines : List Line) → IsStrictlySortedBy row_site_cmp (keys_of mappings)
    → AllByRecursion (λ (move : (RowSite × MoveKind) × ℕ). subscribes publication move.0.0.site ≡ true) moves → LastLines publication rows mappings lines
    → (let changes : List (Key × ℕ) = zip (map (λ (row : Key × Version). row.0) versions) generations in
    LastLines publication (with_rows rows (zip versions (map (λ (e : Key × ℕ). e.1) changes))) (fold drop_row_site (fold with_move mappings moves) gone)
    (fold added lines (map changed_line changes ++ map moved_line moves ++ map (gone_line generation) gone)))
lines-fit publication versions generations moves gone generation rows mappings lines sorted known fits =
    let changes : List (Key × ℕ) = zip (map (λ (row : Key × Version). row.0) versions) generations in
    let now : List (Key × PublisherRow) = with_rows rows (zip versions (map (λ (e : Key × ℕ). e.1) changes)) in
    let changed : List Line = fold added lines (map changed_line changes) in
    let moved : List Line = fold added changed (map moved_line moves) in
    let ascend = moves-ascend moves mappings sorted in
    let order : fold added lines (map changed_line changes ++ map moved_line moves ++ map (gone_line generation) gone) ≡ fold added moved (map (gone_line generation) gone) =
    fold-append added lines (map changed_line changes ++ map moved_line moves) (map (gone_line generation) gone)
    ∙ ap (λ (ls : List Line). fold added ls (map (gone_line generation) gone)) (fold-append added lines (map changed_line changes) (map moved_line moves)) in
    subst (λ (ls : List Line). LastLines publication now (fold drop_row_site (fold with_move mappings moves) gone) ls) (sym order) (record {
      moves = drops-fit generation gone (fold with_move mappings moves) moved ascend (moves-fit moves mappings changed (moves-past_changes changes mappings lines fits.moves));
      changes = rows-past_gone generation gone now moved (rows-past_moves moves now changed (changes-fit versions generations rows lines fits.changes));
      sites = drops-sites publication gone (fold with_move mappings moves) ascend (moves-sites publication moves mappings known fits.sites);
    })

-- The moves of a step are of sites that subscribe.

module _ (publication : Publication) where
  abbrev PartsKnown : List Parts → Type 0
  PartsKnown parts = AllByRecursion (λ (part : Parts). subscribes publication part.site ≡ true) parts

  abbrev part_of : List (Key × PublisherRow) → List (Key × PublisherRow) → ℕ × Subscription → Parts
  part_of before after s = record { site = s.0; before = partition_keys publication s.1 before; after = partition_keys publication s.1 after }

  parts-of : (before after : List (Key × PublisherRow)) (es : List (ℕ × Subscription)) → AreKeyed es
      → ((n : ℕ) → list_any (λ (other : SiteId). other.0 == n) (map site_of_subscription es) ≡ true → subscribes publication n ≡ true) → PartsKnown (map (part_of before after) es)
  parts-of before after [] keyed known = tt
  parts-of before after (e ∷ es) keyed known =
      let first : ((e.1.site.0 == e.0) || list_any (λ (other : SiteId). other.0 == e.0) (map site_of_subscription es)) ≡ true = grind (arith, nat_tests, keyed.0) in
      (known e.0 first, parts-of before after es keyed.1 (λ n is. known n (grind (arith, is))))

  parts-known : (before after : List (Key × PublisherRow)) → PartsKnown (parts_of publication before after)
  parts-known before after = parts-of before after (by_site publication) (sites-keyed publication) (λ n is. is)

  abbrev MovesKnown : List (RowSite × MoveKind) → Type 0
  MovesKnown moves = AllByRecursion (λ (move : RowSite × MoveKind). subscribes publication move.0.site ≡ true) moves

  move-known : (key : Key) (part : Parts) (kind : Option MoveKind) (moves rest : List (RowSite × MoveKind)) → subscribes publication part.site ≡ true → MovesKnown (moves ++ rest)
      → MovesKnown (cons_option (option_map (λ (k : MoveKind). (record { key = key; site = part.site }, k)) kind) moves ++ rest)
  move-known key part None moves rest known more = more
  move-known key part (Some kind) moves rest known more = (known, more)

  row-moves : (touched : Touched) (key : Key) (parts : List Parts) (rest : List (RowSite × MoveKind)) → PartsKnown parts → MovesKnown rest → MovesKnown (filter_map (move_at touched key) parts ++ rest)
  row-moves touched key [] rest known more = more
  row-moves touched key (part ∷ parts) rest known more =
      move-known key part (move_of (has_key part.before key) (has_key part.after key) (has_key touched.changed key) ((part.site == touched.uploader) && has_key touched.acted key))
      (filter_map (move_at touched key) parts) rest known.0 (row-moves touched key parts rest known.1 more)

  all-moves : (touched : Touched) (parts : List Parts) (keys : List Key) → PartsKnown parts → MovesKnown (moves_of touched parts keys)
  all-moves touched parts [] known = tt
  all-moves touched parts (key ∷ keys) known = row-moves touched key parts (moves_of touched parts keys) known (all-moves touched parts keys known)

  numbered : (moves : List (RowSite × MoveKind)) (generations : List ℕ) → MovesKnown moves → AllByRecursion (λ (move : (RowSite × MoveKind) × ℕ). subscribes publication move.0.0.site ≡ true) (zip moves generations)
  numbered [] generations known = tt
  numbered (move ∷ moves) [] known = tt
  numbered (move ∷ moves) (generation ∷ generations) known = (known.0, numbered moves generations known.1)

  pub entries-fit : (judge : PublisherJudge) (changing : Changing) (p : PublisherTables) (generation : ℕ) (lines : List Line) → IsStrictlySortedBy row_site_cmp (keys_of p.mappings) → LastLines publication p.rows p.mappings lines
      → (let entries : Entries = changing_entries publication judge changing p in let q : PublisherTables = with_entries entries changing.versions p in
      LastLines publication q.rows q.mappings (fold added lines (lines_of_entries generation entries)))
  entries-fit judge changing p generation lines sorted fits =
      let entries : Entries = changing_entries publication judge changing p in
      let touched : Touched = touched_by changing in
      let rows : List (Key × PublisherRow) = rows_after changing p.rows in
      let parts : List Parts = parts_of publication p.rows rows in
      let moves : List (RowSite × MoveKind) = moves_of touched parts (entry.keys_of rows touched.acted) in
      let generations : List ℕ = generations_of p.gens.filling (length touched.changed + length moves) in
      lines-fit publication changing.versions (take (length touched.changed) generations) entries.moved entries.gone generation p.rows p.mappings lines sorted
      (numbered moves (drop (length touched.changed) generations) (all-moves touched parts (entry.keys_of rows touched.acted) (parts-known p.rows rows))) fits
