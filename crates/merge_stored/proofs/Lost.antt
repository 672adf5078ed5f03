-- The rows of conflict tables are ones that a record can have, and a start takes them.
use Rattle.std.specs.List.{AllByRecursion, AllZip}
use Rattle.std.specs.Prelude.{List, None, Option, Some, [], length, map, option_map, refl, true, unwrap_or, ℕ, ◌&&◌, ◌==◌, ◌≡◌, ◌∷◌}
use Rattle.std.proofs.Common.{ap, arith, subst, sym, ◌∙◌}
use Rattle.std.proofs.lemmas.List.{length-map}
use Rattle.merge_types.specs.declared.changes.Tracking.{Tracking}
use Rattle.merge_types.specs.declared.changes.Tracking.TheVariants as tracking
use Rattle.merge_types.specs.declared.identifiers.Dot.{Dot}
use Rattle.merge_types.specs.declared.row_key.RowKey.{RowKey as Key}
use Rattle.merge_types.specs.declared.values.Column.{Column}
use Rattle.merge_units.specs.Version.{tops_of}
use Rattle.merge_units.specs.declared.version.Body.{Body}
use Rattle.merge_units.specs.declared.version.Body.TheVariants.{Dead, Live}
use Rattle.merge_units.specs.declared.version.Version.{Version}
use Rattle.merge_conflict.specs.declared.row.ConflictRow.{ConflictRow}
use Rattle.merge_schema.specs.Places.{article_at}
use Rattle.merge_schema.specs.Valid.{IsValid, IsValidArticle}
use Rattle.merge_schema.specs.declared.publication.Article.{Article}
use Rattle.merge_schema.specs.declared.publication.Publication.{Publication}
use Rattle.merge_batch.specs.LocalChanges.{identity_column, tracking_at, types_at}
use Rattle.merge_batch.specs.Makers.{maker_of}
use Rattle.merge_model.specs.History.{History, MadeChange, Past, has}
use Rattle.merge_model.specs.Tables.Keys.{same_key}
use Rattle.merge_model.specs.History.Model.{Model}
use Rattle.merge_model.specs.Laws.Promises.{key_of_conflict}
use Rattle.merge_model.specs.Failing.Runs.{model_behind}
use Rattle.merge_model.specs.Tables.{PublisherTables}
use Rattle.merge_model.proofs.Lists.Finding.{all-weaker}
use Rattle.merge_model.proofs.Lists.KeyLookUps.{keys-same}
use Rattle.merge_model.proofs.Lists.{all-filter}
use Rattle.merge_typed.specs.Typed.{BodyIsTyped, LostIsTyped}
use Rattle.merge_laws.specs.Facts.Knowledge.{Knows, RowKnows, changes_of, same_dot}
use Rattle.merge_laws.specs.Invariants.KnownMakers.{KnowsMaker}
use Rattle.merge_laws.specs.Laws.{OfEveryValidRun}
use Rattle.merge_laws.specs.Facts.Lineages.{IsOfMade}
use Rattle.merge_laws.specs.Facts.LineagesStand.{lost_at}
use Rattle.merge_laws.specs.Facts.Standing.{Told}
use Rattle.merge_laws.proofs.Accounts.AccountElements.{all-in, any-out}
use Rattle.merge_laws.proofs.Pasts.DotTests.{dots-same}
use Rattle.merge_laws.proofs.Told.ToldSites.{Every}
use Rattle.merge_owed.proofs.BodyValues.{BodyFits}
use Rattle.merge_owed.proofs.CellValues.{HasColumns}
use Rattle.merge_owed.proofs.VersionKept.{holds-always}
use Rattle.merge_honest.proofs.ArticlesExist.{AllExist, exist-always}
use Rattle.merge_honest.proofs.Named.{IsNamed}
use Rattle.merge_honest.proofs.RowsFit.{AllTook, IsRight, IsSet, right-goes_on, valid-at}
use Rattle.merge_honest.proofs.Rules.{Known, known-always}
use Rattle.merge_honest.proofs.TookValues.{took-always}
use Rattle.merge_stored.specs.Conflicts.{AllConflictsAreKept, ConflictsAreKept, LostAt}
use Rattle.merge_stored.specs.Lost.{AllLostLoad, LostRowsLoad}
use Rattle.merge_stored.specs.Versions.{VersionLoads}
use Rattle.merge_stored.proofs.Conflicts.{conflicts-kept}
use Rattle.merge_stored.proofs.LostTables.{IsFromSite, table-loads}
use Rattle.merge_stored.proofs.Versions.{version-loads, well-of}

-- A row has a cell: its article has a column.

no-cells : (resolvers : ℕ) (articles : List Article) (found : Option Article) → ((article : Article) → found ≡ Some article → IsValidArticle resolvers articles article)
    → HasColumns (unwrap_or (option_map (λ (article : Article). article.tracking) found) tracking.Row) (length (map (λ (c : Column). c.ty) (unwrap_or (option_map (λ (article : Article). article.columns) found) []))) [] → ⊥
no-cells resolvers articles None valid has = has
no-cells resolvers articles (Some article) valid has = tracked article.tracking has
  where
    tracked : (tr : Tracking) → HasColumns tr (length (map (λ (c : Column). c.ty) article.columns)) [] → ⊥
    tracked tracking.Row has = has
    tracked tracking.ByColumn has = (let some = (valid article refl).some_columns.0 in let same = length-map article.columns (λ (c : Column). c.ty) in let none = has.0 in absurd (omega (arith, some, same, none)))

module _ (publication : Publication) (m : Model) (k : Known publication m) (exist : AllExist publication m.history.made) (rights : Every (IsRight publication m.history.made) m.world m.history) (took : AllTook publication m.history.made) (valid : (resolvers : ℕ) × IsValid resolvers publication) where
  abbrev h : History
  h = m.history

  -- Who knows a change of a row knows the one that made the row.

  maker-known : (key : Key) (known : List Dot) → Knows h.made key known → (dot : Dot) → has known dot ≡ true → KnowsMaker key known
  maker-known key known knowing dot is maker made = any-out (has known maker ≡ true) (λ (change : MadeChange). same_dot change.dot dot && same_key key change.key) h.made (knowing.made_here dot is) (λ c inside passes. (
      let same : c.dot ≡ dot = dots-same c.dot dot (let both : same_dot c.dot dot ≡ true = grind (arith, passes) in both) in
      let row : key ≡ c.key = keys-same key c.key (let both : same_key key c.key ≡ true = grind (arith, passes) in both) in
      let here : has known c.dot ≡ true = ap (has known) same ∙ is in
      let there : has c.past.known maker ≡ true = all-in (λ (change : MadeChange). KnowsMaker change.key change.past.known) h.made c k.kept.accepted.makers.makers inside maker (ap (λ (other : Key). maker_of other.row.0) (sym row) ∙ made) in
      all-in (λ (change : MadeChange). has known change.dot ≡ true → (other : Dot) → has change.past.known other ≡ true → has known other ≡ true) h.made c knowing.closed inside here maker there))

  body-maker : (key : Key) (past : Past) (body : Body) → Knows h.made key past.known → AllByRecursion (λ (top : Dot). has past.known top ≡ true) (tops_of body)
      → BodyFits (IsSet (identity_column publication key.article)) (tracking_at publication key.article) (length (types_at publication key.article)) (identity_column publication key.article) body → KnowsMaker key past.known
  body-maker key past (Live []) knowing tops shaped = absurd (no-cells valid.0 publication.articles (article_at publication key.article) (λ article at. valid-at valid.0 publication valid.1 key.article article at) shaped.0)
  body-maker key past (Live (cell ∷ cells)) knowing tops shaped = maker-known key past.known knowing cell.top tops.0
  body-maker key past (Dead top) knowing tops shaped = maker-known key past.known knowing top tops.0

  lost-loads : (key : Key) (version : Version) (past : Past) → Knows h.made key past.known → Told version past.known → IsOfMade (changes_of m.world) version.lineage → IsNamed key version past → IsRight publication h.made key version past → BodyIsTyped version.body → VersionLoads publication key version
  lost-loads key version past knowing told of named right typed =
      version-loads publication m k exist rights took valid key version past (well-of publication m k exist rights took valid key version past knowing told of (body-maker key past version.body knowing told.tops (right took).shaped) named right) typed

  -- Each row of a table, with what the history has of it.

  abbrev Lost : Type 0
  Lost = List (ℕ × (Key × Past))

  abbrev RowLoads : ConflictRow → Type 0
  RowLoads row = VersionLoads publication (key_of_conflict row) row.losing

  first-key : (a b : Key) (xs ys : List Key) → a ∷ xs ≡ b ∷ ys → b ≡ a
  first-key a b xs ys same = cc

  rest-keys : (a b : Key) (xs ys : List Key) → a ∷ xs ≡ b ∷ ys → xs ≡ ys
  rest-keys a b xs ys same = cc

  rows-load : (rows : List ConflictRow) (lost : Lost) → AllZip (λ (row : ConflictRow) (l : ℕ × (Key × Past)). Told row.losing l.1.1.known) rows lost → AllZip (λ (row : ConflictRow) (l : ℕ × (Key × Past)). IsNamed l.1.0 row.losing l.1.1) rows lost
      → AllZip (λ (row : ConflictRow) (l : ℕ × (Key × Past)). IsRight publication h.made l.1.0 row.losing l.1.1) rows lost → AllByRecursion (λ (row : ConflictRow). IsOfMade (changes_of m.world) row.losing.lineage) rows → AllByRecursion (λ (l : ℕ × (Key × Past)). RowKnows h.made l.1) lost
      → map key_of_conflict rows ≡ map (λ (l : Key × Past). l.0) (map (λ (l : ℕ × (Key × Past)). l.1) lost) → AllByRecursion LostIsTyped rows → AllByRecursion RowLoads rows
  rows-load [] lost told named right of knows same typed = tt
  rows-load (row ∷ rows) [] told named right of knows same typed = absurd told
  rows-load (row ∷ rows) (l ∷ lost) told named right of knows same typed = (
    subst (λ (key : Key). VersionLoads publication key row.losing) (first-key (key_of_conflict row) l.1.0 (map key_of_conflict rows) (map (λ (x : Key × Past). x.0) (map (λ (x : ℕ × (Key × Past)). x.1) lost)) same)
        (lost-loads l.1.0 row.losing l.1.1 knows.0 told.0 of.0 named.0 right.0 typed.0.0),
    rows-load rows lost told.1 named.1 right.1 of.1 knows.1 (rest-keys (key_of_conflict row) l.1.0 (map key_of_conflict rows) (map (λ (x : Key × Past). x.0) (map (λ (x : ℕ × (Key × Past)). x.1) lost)) same) typed.1,
  )

  known-lost : (n : ℕ) → AllByRecursion (λ (l : ℕ × (Key × Past)). RowKnows h.made l.1) (lost_at h n)
  known-lost n = all-filter (λ (l : ℕ × (Key × Past)). RowKnows h.made l.1) (λ (l : ℕ × (Key × Past)). l.0 == n) h.lost k.whole.0.0.known.knowledge.lost

  from-sites : (latest : ℕ) (rows : List ConflictRow) → AllByRecursion (LostAt publication latest) rows → AllByRecursion (IsFromSite publication valid) rows
  from-sites latest rows each = all-weaker (LostAt publication latest) (IsFromSite publication valid) (λ row is. is.0) rows each

  tables-load : AllConflictsAreKept publication m → AllLostLoad publication m
  tables-load c = record {
    publisher = λ typed. (let p : PublisherTables = m.world.publisher in
        table-loads publication valid p.conflict_count c.publisher.low [] p.conflicts 0 refl c.publisher.numbered (from-sites p.latest.0 p.conflicts c.publisher.each)
        (rows-load p.conflicts (lost_at h 0) k.kept.told.conflicts k.named.conflicts rights.conflicts k.whole.0.0.lineages.publisher.lost (known-lost 0) k.kept.tables.publisher typed.conflicts) typed.conflicts);
    subscribers = λ n s at typed. (let kept : ConflictsAreKept publication s.latest.0 s.conflict_count s.conflicts = c.subscribers n s at in
        table-loads publication valid s.conflict_count kept.low [] s.conflicts 0 refl kept.numbered (from-sites s.latest.0 s.conflicts kept.each)
        (rows-load s.conflicts (lost_at h n) (k.kept.told.discards n s at) (k.named.discards n s at) (rights.discards n s at) (k.whole.0.0.lineages.subscribers n s at).lost (known-lost n) (k.kept.tables.subscribers n s at) typed.conflicts) typed.conflicts);
  }

pub lost-rows-load : OfEveryValidRun LostRowsLoad
lost-rows-load resolvers publication valid says tallies slips events =
    let m : Model = model_behind publication says tallies slips events in
    tables-load publication m (known-always publication says tallies slips events (resolvers, valid)) (exist-always publication says tallies slips events (resolvers, valid))
    (holds-always publication (IsRight publication) (right-goes_on resolvers publication valid) says tallies slips events (resolvers, valid)).1.0 (took-always publication says tallies slips events (resolvers, valid)) (resolvers, valid)
    (conflicts-kept publication says tallies slips events (resolvers, valid))
