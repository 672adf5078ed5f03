-- The version of each row that a site holds is one that a record can have, and a start takes it.
use Rattle.std.specs.List.{AllByRecursion, list_all}
use Rattle.std.specs.Option.{option_map_or}
use Rattle.std.specs.Prelude.{Bool, List, None, Option, Some, [], false, is_some, length, map, nat_le, refl, slice_get, suc, true, zero, ℕ, ◌<◌, ◌==◌, ◌||◌, ◌≡◌, ◌≤◌, ◌∷◌}
use Rattle.std.specs.BTreeMap.{is_at}
use Rattle.std.proofs.Common.{ap, arith, subst, ◌∙◌}
use Rattle.std.proofs.lemmas.Bool.Decides.{nat_tests}
use Rattle.merge_types.specs.RowKeys.{key_cmp}
use Rattle.merge_types.specs.declared.identifiers.Dot.{Dot}
use Rattle.merge_types.specs.declared.row_key.RowKey.{RowKey as Key}
use Rattle.merge_lineage.specs.Lineage.{number_of}
use Rattle.merge_lineage.proofs.Ascending.{ascending_complete}
use Rattle.merge_lineage.proofs.Rising.{rises_from_ascending}
use Rattle.merge_units.specs.Version.{tops_of}
use Rattle.merge_units.specs.declared.site_row.PublisherRow.{PublisherRow}
use Rattle.merge_units.specs.declared.site_row.SubscriberRow.{SubscriberRow}
use Rattle.merge_units.specs.declared.version.Body.{Body}
use Rattle.merge_units.specs.declared.version.Body.TheVariants.{Dead, Live}
use Rattle.merge_units.specs.declared.version.Cell.{Cell}
use Rattle.merge_units.specs.declared.version.Version.{Version}
use Rattle.merge_schema.specs.Valid.{IsValid}
use Rattle.merge_schema.specs.declared.publication.Article.{Article}
use Rattle.merge_schema.specs.declared.publication.Publication.{Publication}
use Rattle.merge_batch.specs.Articles.{fits_article, has_article}
use Rattle.merge_batch.specs.Lineages.{is_site, knows_tops}
use Rattle.merge_batch.specs.LocalChanges.{identity_column, tracking_at, types_at}
use Rattle.merge_batch.specs.Makers.{maker_of}
use Rattle.merge_record.specs.Tables.{IsRowKey}
use Rattle.merge_record.specs.Versions.{IsBody, IsDot, IsLineage}
use Rattle.merge_keeper.specs.Start.{cell_site_is_known, dot_site_is_known, row_was_made, top_sites_are_known, version_is_sound, was_made}
use Rattle.merge_model.specs.History.{History, Past, has, past_at, pasts_at}
use Rattle.merge_model.specs.Tables.Keys.{at_number, row_at}
use Rattle.merge_model.specs.History.Model.{Model}
use Rattle.merge_model.specs.Failing.Runs.{model_behind}
use Rattle.merge_model.specs.Tables.{SubscriberTables}
use Rattle.merge_model.proofs.Lists.Finding.{all-weaker}
use Rattle.merge_model.proofs.Lists.KeyLists.{some-head}
use Rattle.merge_model.proofs.Lists.KeyLookUps.{key-itself, key-test}
use Rattle.merge_model.proofs.Lists.{all-both, all-three}
use Rattle.merge_typed.specs.Typed.{BodyIsTyped}
use Rattle.merge_laws.specs.Facts.Knowledge.{Knows, changes_of}
use Rattle.merge_laws.specs.Invariants.KnownMakers.{HeldKnow, KnowsMaker}
use Rattle.merge_laws.specs.Laws.{OfEveryValidRun}
use Rattle.merge_laws.specs.Facts.Lineages.{IsOfMade}
use Rattle.merge_laws.specs.Facts.Standing.{Told}
use Rattle.merge_laws.proofs.Known.KnownRows.{held-knows}
use Rattle.merge_laws.proofs.Told.ToldSites.{Every}
use Rattle.merge_owed.proofs.BodyValues.{BodyFits}
use Rattle.merge_owed.proofs.VersionKept.{holds-always}
use Rattle.merge_honest.proofs.ArticlesExist.{AllExist, exist-always}
use Rattle.merge_honest.proofs.ItemFacts.{IsNumbered, WasMade, lineage-numbered}
use Rattle.merge_honest.proofs.KnownItems.{all-true}
use Rattle.merge_honest.proofs.Named.{IsNamed}
use Rattle.merge_honest.proofs.NumberRules.{counted-low}
use Rattle.merge_honest.proofs.PutRows.{IsPutWell, carried, counted-here, fits, known-counted, known-made, pair-counted, tops-known}
use Rattle.merge_honest.proofs.RowRules.{found-exists}
use Rattle.merge_honest.proofs.RowsFit.{AllTook, IsRight, IsSet, few, right-goes_on}
use Rattle.merge_honest.proofs.Rules.{Known, known-always}
use Rattle.merge_honest.proofs.TookValues.{took-always}
use Rattle.merge_stored.specs.Versions.{VersionIsStored, VersionLoads, VersionsAreStored, VersionsLoad}
use Rattle.merge_stored.proofs.Records.{cells-fit, rising-short, row-fits}

-- An article that there is has a number below 32.
pub article-low : (articles : List Article) (place : ℕ) → is_some (slice_get articles place) ≡ true → place < length articles
article-low [] place there = absurd cc
article-low (article ∷ articles) zero there = omega arith
article-low (article ∷ articles) (suc place) there = let rest = article-low articles place there in omega (arith, rest)

or-true : (b c : Bool) → c ≡ true → (b || c) ≡ true
or-true b c is = grind (arith, is)

-- each row of a list is found by its key
module _ {R : Type 0} where
  abbrev There : List (Key × R) → Key × R → Type 0
  There rows row = is_some (row_at rows row.0) ≡ true

  first-there : (row : Key × R) (rows : List (Key × R)) → There (row ∷ rows) row
  first-there row rows =
      let here : is_at (key_cmp row.0) row.0 ≡ true = key-test row.0 row.0 ∙ key-itself row.0 in
      some-head (is_at (key_cmp row.0) row.0) row.1 (row_at rows row.0) ∙ ap (λ (b : Bool). b || is_some (row_at rows row.0)) here

  pub each-there : (rows : List (Key × R)) → AllByRecursion (There rows) rows
  each-there [] = tt
  each-there (row ∷ rows) = (
    first-there row rows,
    all-weaker (There rows) (There (row ∷ rows)) (λ other there. some-head (is_at (key_cmp other.0) row.0) row.1 (row_at rows other.0) ∙ or-true (is_at (key_cmp other.0) row.0) (is_some (row_at rows other.0)) there) rows (each-there rows),
  )

module _ (publication : Publication) (m : Model) (k : Known publication m) (exist : AllExist publication m.history.made) (rights : Every (IsRight publication m.history.made) m.world m.history) (took : AllTook publication m.history.made) (valid : (resolvers : ℕ) × IsValid resolvers publication) where
  abbrev h : History
  h = m.history

  abbrev pub Well : Key → Version → Past → Type 0
  Well key version past = IsPutWell publication m k exist rights took key version past

  pub dot-fits : (dot : Dot) → WasMade publication m k dot → dot.number ≤ changes_of m.world dot.site.0 → IsDot dot
  dot-fits dot was up =
      let low = was.low in
      let limit = counted-low publication m k dot.site.0 in
      (omega (arith, low), omega (arith, up, limit))

  module _ (key : Key) (version : Version) (past : Past) (v : Well key version past) where
    -- the lineage
    dot-made : (dot : Dot) → IsNumbered version.lineage dot → WasMade publication m k dot
    dot-made dot is = known-made publication m k exist rights took key version past v dot (v.told.tells.reached dot is)

    lineage-fits : IsLineage version.lineage
    lineage-fits =
        let numbered = lineage-numbered version.lineage v.lineage.ascends in
        let short = rising-short 0 version.lineage (rises_from_ascending version.lineage v.lineage.ascends) (all-weaker (IsNumbered version.lineage) (λ (dot : Dot). dot.site.0 ≤ 63) (λ dot is. (dot-made dot is).low) version.lineage numbered) (omega arith) in
        ((omega (arith, short), all-weaker (IsNumbered version.lineage) IsDot (λ dot is. dot-fits dot (dot-made dot is) (pair-counted publication m k exist rights took key version past v dot is)) version.lineage numbered), ascending_complete version.lineage v.lineage.ascends)

    sites-known : list_all (dot_site_is_known publication) version.lineage ≡ true
    sites-known = all-true (dot_site_is_known publication) version.lineage (all-weaker (IsNumbered version.lineage) (λ (dot : Dot). dot_site_is_known publication dot ≡ true) (λ dot is. (dot-made dot is).site) version.lineage (lineage-numbered version.lineage v.lineage.ascends))

    -- the body
    abbrev Tops : Body → Type 0
    Tops body = AllByRecursion (λ (top : Dot). has past.known top ≡ true) (tops_of body)

    top-made : (top : Dot) → has past.known top ≡ true → WasMade publication m k top
    top-made top is = known-made publication m k exist rights took key version past v top is

    top-fits : (top : Dot) → has past.known top ≡ true → IsDot top
    top-fits top is = dot-fits top (top-made top is) (known-counted publication m k exist rights took key version past v top is)

    body-fits : (body : Body) → Tops body → BodyFits (IsSet (identity_column publication key.article)) (tracking_at publication key.article) (length (types_at publication key.article)) (identity_column publication key.article) body → BodyIsTyped body → IsBody body
    body-fits (Live cells) tops shaped typed =
        cells-fit (tracking_at publication key.article) (length (types_at publication key.article)) cells (few valid.0 publication valid.1 key.article) shaped.0
        (all-weaker (λ (top : Dot). has past.known top ≡ true) IsDot top-fits (map (λ (cell : Cell). cell.top) cells) tops) typed
    body-fits (Dead top) tops shaped typed = top-fits top tops.0

    cells-known : (cells : List Cell) → AllByRecursion (λ (top : Dot). has past.known top ≡ true) (map (λ (cell : Cell). cell.top) cells) → list_all (cell_site_is_known publication) cells ≡ true
    cells-known [] tops = refl
    cells-known (cell ∷ cells) tops = (let first : is_site publication cell.top.site.0 ≡ true = (top-made cell.top tops.0).site in let rest = cells-known cells tops.1 in grind (arith, first, rest))

    tops-sites : (body : Body) → Tops body → top_sites_are_known publication body ≡ true
    tops-sites (Live cells) tops = cells-known cells tops
    tops-sites (Dead top) tops = (top-made top tops.0).site

    -- the key
    maker-there : is_some (maker_of key.row.0) ≡ true
    maker-there = v.named (carried publication m k exist rights took key version past v)

    key-fits : IsRowKey key
    key-fits =
        let there : has_article publication key.article ≡ true = found-exists publication m k exist rights took key (maker_of key.row.0) refl maker-there (λ maker is. v.knowing.made_here maker (v.maker maker is)) in
        let low = article-low publication.articles key.article there in
        let some = valid.1.some_articles.1 in
        (omega (arith, low, some), row-fits key.row.0 (maker_of key.row.0) refl maker-there)

    sound : version_is_sound publication key.article version ≡ true
    unfolding version_is_sound
    sound =
        let one : fits_article publication key.article version.body ≡ true = fits publication m k exist rights took key version past v in
        let two : list_all (dot_site_is_known publication) version.lineage ≡ true = sites-known in
        let three : top_sites_are_known publication version.body ≡ true = tops-sites version.body v.told.tops in
        let four : knows_tops version.lineage version.body ≡ true = tops-known publication m k exist rights took key version past v in
        grind (arith, one, two, three, four)

    pub version-loads : BodyIsTyped version.body → VersionLoads publication key version
    version-loads typed = record { key_fits = key-fits; has_record = (lineage-fits, body-fits version.body v.told.tops (v.right took).shaped typed); sound = sound }

    -- of a site that counts its changes
    module _ (site changes : ℕ) (counted : changes_of m.world site ≡ changes) where
      own-by : (dot : Dot) (b : Bool) → (dot.site.0 == site) ≡ b → dot.number ≤ changes_of m.world dot.site.0 → was_made site changes dot ≡ true
      own-by dot false is up = grind (arith, is)
      own-by dot true is up =
          let same : dot.site.0 ≡ site = grind (arith, nat_tests, is) in
          let below : dot.number ≤ changes_of m.world site = subst (λ (n : ℕ). dot.number ≤ changes_of m.world n) same up in
          let low : dot.number ≤ changes = omega (arith, below, counted) in
          grind (arith, nat_tests, low)

      maker-by : (found : Option Dot) → maker_of key.row.0 ≡ found → option_map_or (was_made site changes) found true ≡ true
      maker-by None is = refl
      maker-by (Some maker) is = own-by maker (maker.site.0 == site) refl (known-counted publication m k exist rights took key version past v maker (v.maker maker is))

      made : row_was_made site changes key version ≡ true
      unfolding row_was_made
      made =
          let bound = v.lineage.within site in
          let one : nat_le (number_of version.lineage site) changes ≡ true = (let low : number_of version.lineage site ≤ changes = omega (arith, bound, counted) in grind (arith, nat_tests, low)) in
          let two : option_map_or (was_made site changes) (maker_of key.row.0) true ≡ true = maker-by (maker_of key.row.0) refl in
          grind (arith, one, two)

      pub version-stored : BodyIsTyped version.body → VersionIsStored publication site changes key version
      version-stored typed = record { loads = version-loads typed; made = made }

  -- The rows of both kinds of site.

  pub well-of : (key : Key) (version : Version) (past : Past) → Knows h.made key past.known → Told version past.known → IsOfMade (changes_of m.world) version.lineage → KnowsMaker key past.known → IsNamed key version past → IsRight publication h.made key version past → Well key version past
  well-of key version past knowing told of maker named right = record { told = told; knowing = knowing; lineage = of; maker = maker; named = named; right = right }

  module _ {R : Type 0} (version_of : R → Version) (n : ℕ) (rows : List (Key × R)) where
    abbrev past_of : Key × R → Past
    past_of row = past_at h n row.0

    abbrev Of : (Key → Version → Past → Type 0) → Type 0
    Of P = AllByRecursion (λ (row : Key × R). P row.0 (version_of row.1) (past_of row)) rows

    abbrev FirstPart : Key × R → Type 0
    FirstPart row = Told (version_of row.1) (past_of row).known × (IsOfMade (changes_of m.world) (version_of row.1).lineage × KnowsMaker row.0 (past_of row).known)

    rows-well : Of (λ (key : Key) (version : Version) (past : Past). Told version past.known) → AllByRecursion (λ (row : Key × R). IsOfMade (changes_of m.world) (version_of row.1).lineage) rows → HeldKnow rows (pasts_at h n) → Of IsNamed → Of (IsRight publication h.made) → Of Well
    rows-well told of makers named right = all-three FirstPart (λ (row : Key × R). IsNamed row.0 (version_of row.1) (past_of row)) (λ (row : Key × R). IsRight publication h.made row.0 (version_of row.1) (past_of row)) (λ (row : Key × R). Well row.0 (version_of row.1) (past_of row))
        (λ row first named right. well-of row.0 (version_of row.1) (past_of row) (held-knows h n row.0 k.whole.0.0.known.knowledge) first.0 first.1.0 first.1.1 named right) rows
        (all-three (λ (row : Key × R). Told (version_of row.1) (past_of row).known) (λ (row : Key × R). IsOfMade (changes_of m.world) (version_of row.1).lineage) (There rows) FirstPart
        (λ row told of there. (told, (of, makers row.0 there))) rows told of (each-there rows)) named right

    rows-stored : (site changes : ℕ) → changes_of m.world site ≡ changes → Of Well → AllByRecursion (λ (row : Key × R). BodyIsTyped (version_of row.1).body) rows → AllByRecursion (λ (row : Key × R). VersionIsStored publication site changes row.0 (version_of row.1)) rows
    rows-stored site changes counted well typed = all-both (λ (row : Key × R). Well row.0 (version_of row.1) (past_of row)) (λ (row : Key × R). BodyIsTyped (version_of row.1).body) (λ (row : Key × R). VersionIsStored publication site changes row.0 (version_of row.1))
        (λ row v typed. version-stored row.0 (version_of row.1) (past_of row) v site changes counted typed) rows well typed

  pub versions-stored : VersionsAreStored publication m
  versions-stored = record {
    publisher = λ typed. (let of_row : PublisherRow → Version = λ row. row.version in
        rows-stored of_row 0 m.world.publisher.rows 0 m.world.publisher.changes refl
        (rows-well of_row 0 m.world.publisher.rows k.kept.told.publisher k.whole.0.0.lineages.publisher.rows k.kept.accepted.makers.here k.named.publisher rights.publisher) typed.rows);
    subscribers = λ n s at typed. (let of_row : SubscriberRow → Version = λ row. row.version in
        rows-stored of_row n s.rows s.site.0 s.changes (counted-of n s at)
        (rows-well of_row n s.rows (k.kept.told.subscribers n s at) (k.whole.0.0.lineages.subscribers n s at).rows (k.kept.accepted.makers.there n s at) (k.named.subscribers n s at) (rights.subscribers n s at)) typed.rows);
  }
    where
      counted-of : (n : ℕ) (s : SubscriberTables) → at_number m.world.subscribers n ≡ Some s → changes_of m.world s.site.0 ≡ s.changes
      counted-of n s at = counted-here publication m k (record { 0 = n }) s at

pub versions-load : OfEveryValidRun VersionsLoad
versions-load resolvers publication valid says tallies slips events =
    let m : Model = model_behind publication says tallies slips events in
    versions-stored publication m (known-always publication says tallies slips events (resolvers, valid)) (exist-always publication says tallies slips events (resolvers, valid))
    (holds-always publication (IsRight publication) (right-goes_on resolvers publication valid) says tallies slips events (resolvers, valid)).1.0 (took-always publication says tallies slips events (resolvers, valid)) (resolvers, valid)
