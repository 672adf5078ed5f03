-- Of the worlds behind actions, each step keeps what bounds the messages that a site makes: its rows are within the limits of the
-- product, and it holds ranges of few articles.
use Rattle.std.specs.List.{AllByRecursion}
use Rattle.std.specs.Prelude.{List, None, Option, Some, [], length, refl, suc, true, zero, ℕ, ◌&&◌, ◌+◌, ◌==◌, ◌≡◌, ◌≤◌, ◌∷◌}
use Rattle.std.proofs.Common.{ap, arith, subst, sym}
use Rattle.std.proofs.lemmas.Bool.Decides.{nat_tests}
use Rattle.merge_types.specs.Limits.{row_limit}
use Rattle.merge_types.specs.declared.changes.Tracking.{Tracking}
use Rattle.merge_types.specs.declared.changes.Tracking.TheVariants as tracking
use Rattle.merge_types.specs.declared.identifiers.Dot.{Dot}
use Rattle.merge_types.specs.declared.identifiers.SiteId.{SiteId}
use Rattle.merge_types.specs.declared.row_key.RowKey.{RowKey as Key}
use Rattle.merge_types.specs.declared.values.ColumnType.{ColumnType}
use Rattle.merge_lineage.proofs.Rising.{RisesFrom, rises_from_ascending}
use Rattle.merge_units.specs.Length.{stored_length}
use Rattle.merge_units.specs.declared.site_row.SubscriberRow.{SubscriberRow}
use Rattle.merge_units.specs.declared.version.Body.{Body}
use Rattle.merge_units.specs.declared.version.Body.TheVariants.{Dead, Live}
use Rattle.merge_units.specs.declared.version.Cell.{Cell}
use Rattle.merge_units.specs.declared.version.Version.{Version}
use Rattle.merge_schema.specs.Valid.{IsValid}
use Rattle.merge_schema.specs.declared.publication.Publication.{Publication}
use Rattle.merge_batch.specs.LocalChanges.{identity_column, tracking_at, types_at}
use Rattle.merge_json.specs.Limits.{AreShortCells, IsShortBody, IsShortLineage}
use Rattle.merge_model.specs.Failing.{Slips}
use Rattle.merge_model.specs.Failing.Runs.{model_behind_actions, world_behind_actions}
use Rattle.merge_model.specs.History.{History, MadeChange, Past, made_at, past_at}
use Rattle.merge_model.specs.History.Model.{Model, model_step}
use Rattle.merge_model.specs.Tables.Keys.{at_number, same_key}
use Rattle.merge_model.specs.Tables.{SubscriberTables}
use Rattle.merge_model.specs.World.Events.{machine}
use Rattle.merge_model.specs.World.Steps.{Action}
use Rattle.merge_model.specs.World.{Saying, World, subscriber_at}
use Rattle.merge_model.specs.declared.outcome.Outcome.{Outcome}
use Rattle.merge_model.proofs.Lists.Finding.{all-weaker}
use Rattle.merge_model.proofs.Lists.{all-both}
use Rattle.merge_laws.specs.Facts.Knowledge.{Knows, is_made, same_dot}
use Rattle.merge_laws.specs.Facts.LetterNumbers.{LettersAreNamed}
use Rattle.merge_laws.specs.Facts.Standing.{Told}
use Rattle.merge_laws.proofs.Accounts.AccountElements.{IsIn, any-out, filter-in}
use Rattle.merge_laws.proofs.Known.KnownRows.{held-knows}
use Rattle.merge_laws.proofs.Lineages.LineagesAlways.{Kept, actions-same, alike-step, ground, kept-step}
use Rattle.merge_laws.proofs.Pasts.DotTests.{dots-same}
use Rattle.merge_laws.proofs.Runs.Ground.{Ground}
use Rattle.merge_laws.proofs.Told.ToldSites.{Every}
use Rattle.merge_laws.proofs.Walking.{step-keeps}
use Rattle.merge_owed.proofs.CellValues.{HasColumns}
use Rattle.merge_owed.proofs.VersionKept.{Holds, holds-by-actions, holds-keep}
use Rattle.merge_honest.proofs.ItemFacts.{IsNumbered, lineage-numbered}
use Rattle.merge_honest.proofs.RowsFit.{BodyIsRight, IsRight, few as few-columns, right-goes_on, tracked}
use Rattle.merge_honest.proofs.TookValues.{Took, took-by-actions, took-step}
use Rattle.merge_synced.proofs.FewRanges.{HaveFew, few-by-actions, few-step, rises-few}

-- of a version, and of the tables of a site
abbrev pub IsShort : Version → Type 0
IsShort version = IsShortLineage version.lineage × IsShortBody version.body

pub record AreShort (s : SubscriberTables) : Type 0 where
  pub rows : AllByRecursion (λ (row : Key × SubscriberRow). IsShort row.1.version) s.rows
  pub ranges : length s.held ≤ 32

-- A lineage has each site once, and sites are at most 63.
rising-short : (low : ℕ) (lineage : List Dot) → RisesFrom low lineage → AllByRecursion (λ (dot : Dot). dot.site.0 ≤ 63) lineage → low ≤ 64 → length lineage + low ≤ 64
rising-short low [] rises all begins = omega (arith, begins)
rising-short low (dot ∷ rest) rises all begins =
    let first : dot.site.0 ≤ 63 = all.0 in
    let up : low ≤ dot.site.0 = rises.0 in
    let later = rising-short (dot.site.0 + 1) rest rises.1 all.1 (omega (arith, first)) in
    omega (arith, up, later)

-- A row has at most as many cells as columns, or one.

cells-few : (tr : Tracking) (columns : ℕ) (cells : List Cell) → columns ≤ 64 → HasColumns tr columns cells → length cells ≤ 64
cells-few tracking.Row columns (cell ∷ []) narrow has = omega arith
cells-few tracking.Row columns [] narrow has = absurd has
cells-few tracking.Row columns (cell ∷ other ∷ cells) narrow has = absurd has
cells-few tracking.ByColumn columns cells narrow has = (let even = has.0 in omega (arith, even, narrow))

cells-short : (tr : Tracking) (columns : ℕ) (cells : List Cell) → columns ≤ 64 → HasColumns tr columns cells → stored_length cells ≤ row_limit → AreShortCells cells
cells-short tr columns cells narrow has within =
    let values = (tracked tr columns cells has).1 in
    record { few = cells-few tr columns cells narrow has; few_values = omega (arith, values, narrow); short = within }

body-short : (tr : Tracking) (types : List ColumnType) (identity : Option ℕ) (body : Body) → length types ≤ 64 → BodyIsRight tr types identity body → IsShortBody body
body-short tr types identity (Live cells) narrow right = cells-short tr (length types) cells narrow right.shaped.0 right.short
body-short tr types identity (Dead top) narrow right = tt

-- What is known of a model behind actions.
pub record Stands (publication : Publication) (m : Model) : Type 0 where
  pub kept : Kept publication m
  -- rows fit their articles, where inserts took values
  pub rights : Every (IsRight publication m.history.made) m.world m.history
  pub took : Took publication m.world m.history
  pub few : HaveFew m.world m.history

module _ (publication : Publication) (says : Saying) where
  rights-step : (m : Model) (action : Action) → Kept publication m → Every (IsRight publication m.history.made) m.world m.history → (let n : Model = (model_step publication says m action).0 in Every (IsRight publication n.history.made) n.world n.history)
  rights-step m action k rights =
      let valid : (resolvers : ℕ) × IsValid resolvers publication = (ground publication m k).valid in
      (step-keeps publication says (λ (w : World) (h : History). Ground publication w h × LettersAreNamed w h) (Holds publication (IsRight publication) (right-goes_on valid.0 publication valid.1) []) (λ w h b. b.0.received)
      (holds-keep publication (IsRight publication) (right-goes_on valid.0 publication valid.1) [] says) m action (ground publication m k, k.grounded.1.1) (rights, λ change is. absurd is)).0

  pub stands-step : (m : Model) (action : Action) → Stands publication m → Stands publication (model_step publication says m action).0
  stands-step m action s = record {
    kept = kept-step publication m s.kept says action;
    rights = rights-step m action s.kept s.rights;
    took = (took-step publication says m action (s.kept, s.took)).1;
    few = few-step publication says m action (ground publication m s.kept) s.few;
  }

  pub stands-by-actions : (tallies : List ℕ) (slips : Slips) (actions : List Action) → (resolvers : ℕ) × IsValid resolvers publication → Stands publication (model_behind_actions publication says tallies slips actions)
  stands-by-actions tallies slips actions valid =
      let holds = holds-by-actions publication (IsRight publication) (right-goes_on valid.0 publication valid.1) says tallies slips actions valid in
      record {
        kept = holds.0;
        rights = holds.1.0;
        took = (took-by-actions publication says tallies slips actions valid).1;
        few = few-by-actions publication says tallies slips actions valid;
      }

-- So its subscribers' tables are short.
module _ (publication : Publication) (m : Model) (k : Stands publication m) where
  abbrev h : History
  h = m.history

  none-in : (n : ℕ) (c : MadeChange) → made_at h n ≡ [] → IsIn c (made_at h n) → ⊥
  none-in n c none is = subst (λ (changes : List MadeChange). IsIn c changes) none is

  low-by : (n : ℕ) (c : MadeChange) (found : Option SubscriberTables) → at_number m.world.subscribers n ≡ found → IsIn c h.made → c.dot.site.0 ≡ n → (n ≡ 0 → ⊥) → n ≤ 63
  low-by n c None is inside same named =
      absurd (none-in n c ((ground publication m k.kept).numbered.strangers n named is) (filter-in (λ (change : MadeChange). change.dot.site.0 == n) h.made c inside (let here : (c.dot.site.0 == n) ≡ true = grind (arith, nat_tests, same) in here)))
  low-by n c (Some s) is inside same named = k.kept.grounded.1.1.0 n s is

  made-low : (n : ℕ) (c : MadeChange) → IsIn c h.made → c.dot.site.0 ≡ n → n ≤ 63
  made-low zero c inside same = omega arith
  made-low (suc n) c inside same = low-by (suc n) c (at_number m.world.subscribers (suc n)) refl inside same (λ none. absurd (omega (arith, none)))

  -- who made a change has one of the numbers of sites
  known-low : (key : Key) (dot : Dot) → is_made h.made key dot ≡ true → dot.site.0 ≤ 63
  known-low key dot is = any-out (dot.site.0 ≤ 63) (λ (change : MadeChange). same_dot change.dot dot && same_key key change.key) h.made is (λ c inside passes. (
      let same : c.dot ≡ dot = dots-same c.dot dot (let both : same_dot c.dot dot ≡ true = grind (arith, passes) in both) in
      subst (λ (d : Dot). d.site.0 ≤ 63) same (made-low c.dot.site.0 c inside refl)))

  lineage-short : (key : Key) (version : Version) (past : Past) → Knows h.made key past.known → Told version past.known → IsShortLineage version.lineage
  lineage-short key version past knows told =
      let low : AllByRecursion (λ (dot : Dot). dot.site.0 ≤ 63) version.lineage = all-weaker (IsNumbered version.lineage) (λ (dot : Dot). dot.site.0 ≤ 63)
      (λ dot is. known-low key dot (knows.made_here dot (told.tells.reached dot is))) version.lineage (lineage-numbered version.lineage told.ascending) in
      let few = rising-short 0 version.lineage (rises_from_ascending version.lineage told.ascending) low (omega arith) in
      let short : length version.lineage ≤ 64 = omega (arith, few) in short

  version-short : (key : Key) (version : Version) (past : Past) → Knows h.made key past.known → Told version past.known → IsRight publication h.made key version past → IsShort version
  version-short key version past knows told right =
      let valid : (resolvers : ℕ) × IsValid resolvers publication = (ground publication m k.kept).valid in (
        lineage-short key version past knows told,
        body-short (tracking_at publication key.article) (types_at publication key.article) (identity_column publication key.article) version.body (few-columns valid.0 publication valid.1 key.article) (right k.took.made),
      )

  pub tables-short : (n : ℕ) (s : SubscriberTables) → at_number m.world.subscribers n ≡ Some s → AreShort s
  tables-short n s at =
      let ranges = rises-few 0 s.held (k.few n s at) in
      record {
        rows = all-both (λ (row : Key × SubscriberRow). Told row.1.version (past_at h n row.0).known) (λ (row : Key × SubscriberRow). IsRight publication h.made row.0 row.1.version (past_at h n row.0)) (λ (row : Key × SubscriberRow). IsShort row.1.version)
            (λ row told right. version-short row.0 row.1.version (past_at h n row.0) (held-knows h n row.0 (ground publication m k.kept).known.knowledge) told right) s.rows (k.kept.told.subscribers n s at) (k.rights.subscribers n s at);
        ranges = omega (arith, ranges);
      }

-- a world that is that of such a model
pub record IsBehind (publication : Publication) (w : World) : Type 0 where
  pub history : History
  pub stands : Stands publication (record { world = w; history = history })

pub behind-short : (publication : Publication) (w : World) (site : SiteId) (s : SubscriberTables) → IsBehind publication w → subscriber_at w site ≡ Some s → AreShort s
behind-short publication w site s b at = tables-short publication (record { world = w; history = b.history }) b.stands site.0 s at

-- each step of the machine leads to one
pub behind-step : (publication : Publication) (says : Saying) (w : World) (action : Action) → IsBehind publication w → IsBehind publication ((machine publication says).act w action).0
behind-step publication says w action b =
    let m : Model = record { world = w; history = b.history } in
    let n : Model = (model_step publication says m action).0 in
    let same : ((machine publication says).act w action).0 ≡ n.world = ap (λ (done : World × Outcome). done.0) (alike-step publication m b.stands.kept says action) in
    record { history = n.history; stands = subst (λ (v : World). Stands publication (record { world = v; history = n.history })) (sym same) (stands-step publication says m action b.stands) }

pub behind-by-actions : (publication : Publication) (says : Saying) (tallies : List ℕ) (slips : Slips) (actions : List Action) → (resolvers : ℕ) × IsValid resolvers publication → IsBehind publication (world_behind_actions publication says tallies slips actions)
behind-by-actions publication says tallies slips actions valid =
    let m : Model = model_behind_actions publication says tallies slips actions in
    record { history = m.history; stands = subst (λ (v : World). Stands publication (record { world = v; history = m.history })) (sym (actions-same publication valid says tallies slips actions).1) (stands-by-actions publication says tallies slips actions valid) }
