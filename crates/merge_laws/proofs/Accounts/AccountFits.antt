-- A local change that is not refused: what it leaves of the row that it changes, at a subscriber or at the publisher.
use Rattle.std.specs.Prelude.{◌≡◌, ◌<◌, ◌==◌, ◌||◌, ℕ, zero, suc, List, [], ◌∷◌, Bool, true, false, not, Option, Some, None, refl, cond, find, length, map, option_map, slice_get}
use Rattle.std.specs.List.{AllByRecursion, AllZip, list_any}
use Rattle.std.specs.Option.{option_map_or}
use Rattle.std.proofs.Common.{arith, subst, sym, ap}
use Rattle.std.proofs.lemmas.Bool.Decides.{nat_tests}
use Rattle.merge_types.specs.declared.changes.Change.{Change}
use Rattle.merge_types.specs.declared.changes.Change.TheVariants.{Delete, Insert, Update}
use Rattle.merge_types.specs.declared.changes.Setting.{Setting}
use Rattle.merge_types.specs.declared.changes.Tracking.{Tracking}
use Rattle.merge_types.specs.declared.changes.Tracking.TheVariants as tracking
use Rattle.merge_types.specs.declared.identifiers.Dot.{Dot}
use Rattle.merge_types.specs.declared.identifiers.RowId.{RowId}
use Rattle.merge_types.specs.declared.values.ColumnType.{ColumnType}
use Rattle.merge_types.specs.declared.values.Column.{Column}
use Rattle.merge_types.specs.declared.values.Value.{Value}
use Rattle.merge_lineage.specs.Lineage.{with_dot}
use Rattle.merge_units.specs.Changes.{cells_after, changed, removed}
use Rattle.merge_units.specs.Version.{cells_of, is_live}
use Rattle.merge_units.specs.declared.version.Body.{Body}
use Rattle.merge_units.specs.declared.version.Body.TheVariants.{Dead, Live}
use Rattle.merge_units.specs.declared.version.Cell.{Cell}
use Rattle.merge_units.specs.declared.version.Version.{Version}
use Rattle.merge_schema.specs.declared.publication.Publication.{Publication}
use Rattle.merge_units.specs.Version.{tops_of}
use Rattle.merge_units.specs.Changes.{new_row}
use Rattle.merge_model.specs.Tables.Changes.{change_refusal, fits_type, is_insert, key_of, new_value, new_values, no_row, sets_identity, settings_of, version_after, wrong_type}
use Rattle.merge_model.specs.History.{Chains, History, MadeChange, OfCells, OfDead, Past, has, past_at}
use Rattle.merge_model.specs.History.Noting
use Rattle.merge_model.specs.History.Pasts.{all_chains, cell_chains, cell_count, past_after, set_cells}
use Rattle.merge_model.specs.Laws.Promises.{InRow}
use Rattle.merge_model.specs.Tables.Publications.{columns_at, identity_column, tracking_at, types_at}
use Rattle.merge_types.specs.declared.row_key.RowKey.{RowKey as Key}
use Rattle.merge_laws.specs.Facts.Accounts.{CellGrown, Ends, Grown, GrownAlone, Holds, Traced, is_made_at, is_past}
use Rattle.merge_laws.specs.Facts.Knowledge.{KnowsItsPast}
use Rattle.merge_laws.proofs.Accounts.AccountChains.{cells-known, chain_at}
use Rattle.merge_laws.proofs.Accounts.AccountChanges.{count_by_tracking, deleted-grown, inserted-grown, updated-grown}
use Rattle.merge_laws.proofs.Accounts.AccountHolds.{AreCells, deleted-ends, deleted-holds, held-past, inserted-ends, inserted-holds, updated-ends, updated-holds, updated-past}
use Rattle.merge_model.proofs.Runs.Refusals.{first-none}
use Rattle.merge_laws.proofs.Known.ChangeDots.{AreDistinct}
use Rattle.merge_model.proofs.Lists.Finding.{some_same}
use Rattle.merge_model.proofs.Lists.KeyLookUps.{key-itself}
use Rattle.merge_laws.proofs.Known.Knowing.{IsFresh}
use Rattle.merge_laws.proofs.Numbered.Telling.{no-refusal}

-- of a change that was made on a row with this past
pub record ChangeFits (publication : Publication) (h : History) (key : Key) (past : Past) (c : MadeChange) (version : Version) : Type 0 where
  pub grown : GrownAlone (cell_count publication key.article) (c ∷ h.made) key version.body c.past.chains
  pub holds : Holds (c ∷ h.made) h.lost h.purged key c.past
  pub ends : Ends (c ∷ h.made) h.purged (past_at h 0 key) key c.past
  pub knows : has c.past.known c.dot ≡ true
  pub grows : (dot : Dot) → has past.known dot ≡ true → has c.past.known dot ≡ true
  pub stays : AreDistinct h.made → (dot : Dot) → is_made_at h.made key dot InRow ≡ true → is_past past dot ≡ true → is_past c.past dot ≡ true

-- The columns that are set are columns of the article.
some-within : {A : Type 0} (test : A → Bool) (xs : List A) (k : ℕ) → option_map_or test (slice_get xs k) false ≡ true → k < length xs
some-within test [] k fits = absurd cc
some-within test (x ∷ xs) zero fits = omega arith
some-within test (x ∷ xs) (suc k) fits = let rest = some-within test xs k fits in omega (arith, rest)

head-fits : (types : List ColumnType) (edit : Setting) (rest : Option Setting) (b : Bool) → not (fits_type types edit) ≡ b → (let found : Option Setting = cond b (Some edit) rest in found ≡ None) → (fits_type types edit ≡ true) × (rest ≡ None)
head-fits types edit rest true is none = absurd cc
head-fits types edit rest false is none = (grind (arith, is), none)

column-within : (types : List ColumnType) (edit : Setting) (edits : List Setting) (k : ℕ) (b : Bool) → (edit.column == k) ≡ b → fits_type types edit ≡ true → (list_any (λ (cell : ℕ). cell == k) (map (λ (s : Setting). s.column) edits) ≡ true → k < length types)
    → (b || list_any (λ (cell : ℕ). cell == k) (map (λ (s : Setting). s.column) edits)) ≡ true → k < length types
column-within types edit edits k true e fits rest is =
    let same : edit.column ≡ k = grind (arith, nat_tests, e) in
    subst (λ (n : ℕ). n < length types) same (some-within _ types edit.column fits)
column-within types edit edits k false e fits rest is = rest is

columns-within : (types : List ColumnType) (edits : List Setting) (k : ℕ) → find (λ (s : Setting). not (fits_type types s)) edits ≡ None → list_any (λ (cell : ℕ). cell == k) (map (λ (s : Setting). s.column) edits) ≡ true → k < length types
columns-within types [] k none is = absurd cc
columns-within types (edit ∷ edits) k none is =
    let both = head-fits types edit (find (λ (s : Setting). not (fits_type types s)) edits) (not (fits_type types edit)) refl none in
    column-within types edit edits k (edit.column == k) refl both.0 (columns-within types edits k both.1) is

mapped-none : {A B : Type 0} (f : A → B) (found : Option A) → option_map f found ≡ None → found ≡ None
mapped-none f None e = refl
mapped-none f (Some x) e = absurd cc

types-length : (columns : List Column) → length (map (λ (column : Column). column.ty) columns) ≡ length columns
types-length [] = refl
types-length (column ∷ columns) = let rest = types-length columns in omega (arith, rest)

set-within : (tr : Tracking) (columns : List Column) (edits : List Setting) (count : ℕ) → count ≡ count_by_tracking tr columns → wrong_type (map (λ (column : Column). column.ty) columns) edits ≡ None → (k : ℕ) → list_any (λ (cell : ℕ). cell == k) (set_cells tr edits) ≡ true → k < count
set-within tracking.Row columns edits count is fine k set = grind (arith, nat_tests, is, set)
set-within tracking.ByColumn columns edits count is fine k set =
    let within = columns-within (map (λ (column : Column). column.ty) columns) edits k (mapped-none _ (find (λ (s : Setting). not (fits_type (map (λ (column : Column). column.ty) columns) s)) edits) fine) set in
    let same = types-length columns in
    omega (arith, is, within, same)

-- A row that lives has a chain for each cell.
cells-are : (cells : ℕ) (made : List MadeChange) (key : Key) (body : List Cell) (chains : Chains) → Grown cells made key (Live body) chains → AreCells chains × ((length (cell_chains chains) ≡ cells) × ((chains ≡ OfCells (cell_chains chains)) × AllZip (CellGrown made) body (cell_chains chains)))
cells-are cells made key body (OfCells chains) grown = (tt, (grown.0, (refl, grown.1)))
cells-are cells made key body (OfDead chain) grown = absurd grown

-- what is known of the row before
pub record IsHeld (publication : Publication) (h : History) (key : Key) (past : Past) (held : Option Version) : Type 0 where
  pub grown : (version : Version) → held ≡ Some version → Grown (cell_count publication key.article) h.made key version.body past.chains
  pub tops : (version : Version) → held ≡ Some version → AllByRecursion (λ (top : Dot). has past.known top ≡ true) (tops_of version.body)
  pub closed : AllByRecursion (KnowsItsPast past.known) h.made
  pub traced : Traced h.made h.lost h.purged (past_at h 0 key) key past

-- the change as it is noted
abbrev pub made_of : Publication → Dot → ℕ → Change → Value → Past → MadeChange
made_of publication dot generation change identity past = Noting.made_change publication dot generation change identity (key_of dot change) (past_after publication dot change past)

module _ (publication : Publication) (h : History) (dot : Dot) (generation : ℕ) (identity : Value) (fresh : IsFresh h.made dot) (past : Past) where
  -- a new row
  inserted-fits : (article : ℕ) (values : List Setting) → ((other : Dot) → has past.known other ≡ false)
      → (let change : Change = Insert article values in ChangeFits publication h (key_of dot change) past (made_of publication dot generation change identity past) (new_row dot (new_values publication article identity values) (tracking_at publication article)))
  inserted-fits article values none =
      let change : Change = Insert article values in
      let key : Key = key_of dot change in
      let c : MadeChange = made_of publication dot generation change identity past in
      let own : has c.past.known c.dot ≡ true = grind (arith, nat_tests) in
      record {
        grown = inserted-grown h.made c refl own key (tracking_at publication article) (λ (place : ℕ × ColumnType). new_value (identity_column publication article) identity values place.0) (columns_at publication article);
        holds = inserted-holds h.made c key fresh h.lost h.purged (cell_count publication article) refl refl;
        ends = inserted-ends h.made c key fresh h.lost h.purged (past_at h 0 key) (cell_count publication article) refl;
        knows = own;
        grows = λ other is. absurd (let no = none other in grind (arith, no, is));
        stays = λ distinct other deleted is. absurd (let no = none other in grind (arith, no, is));
      }

  -- an update
  updated-fits : (article : ℕ) (row : RowId) (values : List Setting) (body : Body) (lineage : List Dot) → is_live body ≡ true → wrong_type (types_at publication article) values ≡ None
      → (let change : Change = Update article row values in let key : Key = key_of dot change in
      Grown (cell_count publication article) h.made key body past.chains → AllByRecursion (λ (top : Dot). has past.known top ≡ true) (tops_of body) → AllByRecursion (KnowsItsPast past.known) h.made → Traced h.made h.lost h.purged (past_at h 0 key) key past
      → ChangeFits publication h key past (made_of publication dot generation change identity past) (record { lineage = lineage; body = Live (cells_after (tracking_at publication article) dot values (cells_of body)) }))
  updated-fits article row values (Dead top) lineage lives fine grown tops closed traced = absurd cc
  updated-fits article row values (Live body) lineage lives fine grown tops closed traced =
      let change : Change = Update article row values in
      let key : Key = key_of dot change in
      let c : MadeChange = made_of publication dot generation change identity past in
      let tr : Tracking = tracking_at publication article in
      let cells : List ℕ = set_cells tr values in
      let are = cells-are (cell_count publication article) h.made key body past.chains grown in
      let own : has c.past.known c.dot ≡ true = grind (arith, nat_tests) in
      let knew : (k : ℕ) (d : Dot) → has (chain_at (cell_chains past.chains) k) d ≡ true → has c.past.known d ≡ true = λ k d inside. (
      let old : has past.known d ≡ true = cells-known h.made body (cell_chains past.chains) past.known are.1.1.1 closed tops k d inside in
      grind (arith, old)
      ) in
      record {
        grown = updated-grown h.made c refl own key tr values (columns_at publication article) body (cell_chains past.chains) (are.1.0, are.1.1.1) knew;
        holds = updated-holds h.made c key fresh h.lost h.purged cells past.known past.chains are.0 refl refl (set-within tr (columns_at publication article) values (length (cell_chains past.chains)) are.1.0 fine) traced.holds;
        ends = updated-ends h.made c key fresh h.lost h.purged (past_at h 0 key) cells past.known past.chains are.0 refl traced.ends;
        knows = own;
        grows = λ other is. grind (arith, is);
        stays = λ distinct other deleted is. updated-past h.made c key fresh cells past other is;
      }

  -- a delete
  deleted-fits : (article : ℕ) (row : RowId) (body : Body) (lineage : List Dot) → is_live body ≡ true
      → (let change : Change = Delete article row in let key : Key = key_of dot change in
      Grown (cell_count publication article) h.made key body past.chains → AllByRecursion (λ (top : Dot). has past.known top ≡ true) (tops_of body) → AllByRecursion (KnowsItsPast past.known) h.made → Traced h.made h.lost h.purged (past_at h 0 key) key past
      → ChangeFits publication h key past (made_of publication dot generation change identity past) (record { lineage = lineage; body = Dead dot }))
  deleted-fits article row (Dead top) lineage lives grown tops closed traced = absurd cc
  deleted-fits article row (Live body) lineage lives grown tops closed traced =
      let change : Change = Delete article row in
      let key : Key = key_of dot change in
      let c : MadeChange = made_of publication dot generation change identity past in
      let are = cells-are (cell_count publication article) h.made key body past.chains grown in
      let own : has c.past.known c.dot ≡ true = grind (arith, nat_tests) in
      let alone = deleted-grown h.made c (cell_count publication article) key body (cell_chains past.chains) past.known refl (key-itself key) (λ d is. is) are.1.1.1 closed tops in
      record {
        grown = subst (λ (chain : List Dot). GrownAlone (cell_count publication article) (c ∷ h.made) key (Dead dot) (OfDead (dot ∷ chain))) (sym (ap (λ (chains : Chains). all_chains chains) are.1.1.0)) alone;
        holds = deleted-holds h.made c key fresh h.lost h.purged past.known past.chains are.0 traced.holds;
        ends = deleted-ends h.made c key fresh h.lost h.purged (past_at h 0 key) past.known past.chains are.0 traced.ends;
        knows = own;
        grows = λ other is. grind (arith, is);
        stays = λ distinct other deleted is. held-past h.made c key fresh body past.known past.chains (cell_chains past.chains) distinct are.1.1.0 are.1.1.1 other deleted is;
      }

  pub change-fits : (change : Change) (held : Option Version) (rows : ℕ) → change_refusal publication dot change held rows ≡ None → (is_insert change ≡ true → (other : Dot) → has past.known other ≡ false) → IsHeld publication h (key_of dot change) past held
      → (version : Version) → version_after publication dot identity change held ≡ Some version → ChangeFits publication h (key_of dot change) past (made_of publication dot generation change identity past) version
  change-fits (Insert article values) held rows fine new i version is =
      subst (λ (v : Version). ChangeFits publication h (key_of dot (Insert article values)) past (made_of publication dot generation (Insert article values) identity past) v) (some_same (new_row dot (new_values publication article identity values) (tracking_at publication article)) version is) (inserted-fits article values (new refl))
  change-fits (Update article row values) None rows fine new i version is = absurd cc
  change-fits (Update article row values) (Some held) rows fine new i version is =
      let change : Change = Update article row values in
      let first = first-none (no_row change (Some held)) _ fine in
      let second = first-none (sets_identity (settings_of change) (identity_column publication article)) _ first.1 in
      let third = first-none (wrong_type (types_at publication article) values) _ second.1 in
      subst (λ (v : Version). ChangeFits publication h (key_of dot change) past (made_of publication dot generation change identity past) v) (some_same (changed held dot values (tracking_at publication article)) version is)
      (updated-fits article row values held.body (with_dot dot held.lineage) (no-refusal (is_live held.body) first.0) third.0 (i.grown held refl) (i.tops held refl) i.closed i.traced)
  change-fits (Delete article row) None rows fine new i version is = absurd cc
  change-fits (Delete article row) (Some held) rows fine new i version is =
      let change : Change = Delete article row in
      let first = first-none (no_row change (Some held)) _ fine in
      subst (λ (v : Version). ChangeFits publication h (key_of dot change) past (made_of publication dot generation change identity past) v) (some_same (removed held dot) version is)
      (deleted-fits article row held.body (with_dot dot held.lineage) (no-refusal (is_live held.body) first.0) (i.grown held refl) (i.tops held refl) i.closed i.traced)
