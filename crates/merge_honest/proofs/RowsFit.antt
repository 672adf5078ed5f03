-- Every version fits its article, where the changes that were made took values: changes and merges keep this.
use Rattle.std.specs.List.{AllByRecursion, list_any}
use Rattle.std.specs.Option.{option_and_then}
use Rattle.std.specs.Prelude.{All, Bool, List, None, Option, Some, [], cond, false, find, is_some, length, map, nat_lt, option_map, pos, refl, slice_get, suc, true, unwrap_or, zero, ℕ, ℤ, ◌==◌, ◌||◌, ◌≡◌, ◌≤◌, ◌∷◌}
use Rattle.std.proofs.Common.{ap, arith, inl, inr, subst, sym, ◌∙◌}
use Rattle.std.proofs.lemmas.Bool.Decides.{nat_tests}
use Rattle.std.proofs.lemmas.List.{length-map}
use Rattle.std.proofs.lemmas.List.Elements.{All-cons, All-head, All-nil, All-tail}
use Rattle.std.proofs.lemmas.List.Sums.{sum_by-cons}
use Rattle.merge_types.specs.Limits.{row_limit}
use Rattle.merge_types.specs.declared.changes.Change.{Change}
use Rattle.merge_types.specs.declared.changes.Change.TheVariants.{Delete, Insert, Update}
use Rattle.merge_types.specs.declared.changes.Setting.{Setting}
use Rattle.merge_types.specs.declared.changes.Tracking.{Tracking}
use Rattle.merge_types.specs.declared.changes.Tracking.TheVariants as tracking
use Rattle.merge_types.specs.declared.identifiers.Dot.{Dot}
use Rattle.merge_types.specs.declared.identifiers.RowId.{RowId}
use Rattle.merge_types.specs.declared.identifiers.SiteId.{SiteId}
use Rattle.merge_types.specs.declared.row_key.RowKey.{RowKey as Key}
use Rattle.merge_types.specs.declared.values.ColumnType.{ColumnType}
use Rattle.merge_types.specs.declared.values.ColumnType.TheVariants as column
use Rattle.merge_types.specs.declared.values.Column.{Column}
use Rattle.merge_types.specs.declared.values.Value.{Value}
use Rattle.merge_types.specs.declared.values.Value.TheVariants.{Bit, Bytes, Day, Guid, Int, Null, Text}
use Rattle.merge_units.specs.Cases.{case_by, is_conflict}
use Rattle.merge_units.specs.Changes.{cells_after, new_cells, set_value}
use Rattle.merge_units.specs.Laws.{HaveSameShape}
use Rattle.merge_units.specs.Length.{stored_length, value_count}
use Rattle.merge_units.specs.Results.{case_body}
use Rattle.merge_units.specs.Version.{FitsTracking, Knowing, cells_of, has_news, is_live}
use Rattle.merge_units.specs.declared.case.Case.{Case}
use Rattle.merge_units.specs.declared.result.Decision.{Decision}
use Rattle.merge_units.specs.declared.result.Decision.TheVariants.{KeepPublisher}
use Rattle.merge_units.specs.declared.version.Body.{Body}
use Rattle.merge_units.specs.declared.version.Body.TheVariants.{Dead, Live}
use Rattle.merge_units.specs.declared.version.Cell.{Cell}
use Rattle.merge_units.specs.declared.version.Version.{Version}
use Rattle.merge_units.proofs.Limit.{rows_stay_by}
use Rattle.merge_units.proofs.Places.{one_value_each}
use Rattle.merge_resolve.specs.Counted.{fits_place}
use Rattle.merge_resolve.specs.CountedLaws.{HasColumns as HasCounts}
use Rattle.merge_resolve.specs.Questions.{Asked}
use Rattle.merge_resolve.specs.declared.question.Meeting.{Meeting}
use Rattle.merge_resolve.proofs.CountedRows.{counted_stays_in_limit}
use Rattle.merge_schema.specs.Places.{article_at}
use Rattle.merge_schema.specs.Valid.{HasValidIdentity, IsValid, IsValidArticle}
use Rattle.merge_schema.specs.declared.publication.Article.{Article}
use Rattle.merge_schema.specs.declared.publication.Identity.{Identity}
use Rattle.merge_schema.specs.declared.publication.Publication.{Publication}
use Rattle.merge_batch.specs.Articles.{is_set}
use Rattle.merge_batch.specs.LocalChanges.{article_of, change_refusal, identity_column, key_of, length_after, long_row, long_value, new_values, no_row, sets_identity, settings_of, too_many_rows, tracking_at, types_at, version_after, wrong_type}
use Rattle.merge_batch.specs.Uploads.{whole_number}
use Rattle.merge_batch.specs.declared.refusal.Refusal.{Refusal}
use Rattle.merge_batch.specs.declared.refusal.Refusal.TheVariants.{IdentityColumn, RowTooLong}
use Rattle.merge_batch.proofs.Makers.{maker_of-made}
use Rattle.merge_model.specs.Publisher.Acts.{Met, meeting_of}
use Rattle.merge_model.specs.History.{MadeChange, Past, has}
use Rattle.merge_model.specs.Judge.{PublisherJudge}
use Rattle.merge_model.specs.History.Noting
use Rattle.merge_model.specs.History.Pasts.{past_after}
use Rattle.merge_model.specs.Tables.Publications.{resolver_at, resolver_column}
use Rattle.merge_model.specs.Tables.{PublisherTables}
use Rattle.merge_model.proofs.Lists.Finding.{some_same}
use Rattle.merge_model.proofs.Runs.Refusals.{first-none}
use Rattle.merge_laws.proofs.Accounts.AccountElements.{all-in, each-in}
use Rattle.merge_laws.proofs.Received.Arrivals.{not-refused}
use Rattle.merge_laws.proofs.Numbered.Telling.{no-refusal}
use Rattle.merge_laws.proofs.Told.ToldRows.{HeldFits}
use Rattle.merge_owed.specs.Identity.{HasIdentity, IsMaker}
use Rattle.merge_owed.proofs.BodyValues.{BodyFits, CellsFit, IsCounted, case-fits, inserted-fits, updated-fits}
use Rattle.merge_owed.proofs.CellValues.{HasColumns, HaveOne, asked_by}
use Rattle.merge_owed.proofs.Decided.{FateCounts}
use Rattle.merge_owed.proofs.IdentityFits.{article-valid, column-within}
use Rattle.merge_owed.proofs.VersionKept.{GoesOn, IsCarried}
use Rattle.merge_honest.proofs.FittingRows.{new-row-long, new-values-fit, set-fits}
use Rattle.merge_honest.proofs.TypedCells.{BodyTyped, CellsTyped, HasShape, after-typed, case-typed, new-typed}

-- The value of the identity column is set, where there is such a column.
abbrev pub IsSet : Option ℕ → Option Value → Type 0
IsSet identity found = is_some identity ≡ true → is_set found ≡ true

-- What is asked of a body: cells by the tracking, values of their columns' types, the identity value, and the length.
pub record BodyIsRight (tr : Tracking) (types : List ColumnType) (identity : Option ℕ) (body : Body) : Type 0 where
  pub shaped : BodyFits (IsSet identity) tr (length types) identity body
  pub typed : BodyTyped (fits_place types) tr body
  pub short : stored_length (cells_of body) ≤ row_limit

-- The shape of a row.

ones : (cells : List Cell) → HaveOne cells → All (λ (cell : Cell). length cell.values ≡ 1) cells
ones [] one = All-nil (λ (cell : Cell). length cell.values ≡ 1)
ones (cell ∷ cells) one = All-cons (λ (cell : Cell). length cell.values ≡ 1) cell cells one.0 (ones cells one.1)

pub tracked : (tr : Tracking) (columns : ℕ) (cells : List Cell) → HasColumns tr columns cells → FitsTracking tr cells × (value_count cells ≡ columns)
tracked tracking.Row columns (cell ∷ []) has = (refl, (let none : List Cell = [] in let one = sum_by-cons (λ (c : Cell). length c.values) cell none in omega (arith, one, has)))
tracked tracking.Row columns [] has = absurd has
tracked tracking.Row columns (cell ∷ other ∷ cells) has = absurd has
tracked tracking.ByColumn columns cells has = (ones cells has.1, one_value_each cells (ones cells has.1) ∙ has.0)

abbrev widths : List Cell → List ℕ
widths cells = map (λ (cell : Cell). length cell.values) cells

same-ones : (ours theirs : List Cell) → length ours ≡ length theirs → HaveOne ours → HaveOne theirs → widths ours ≡ widths theirs
same-ones [] [] even one other = refl
same-ones [] (t ∷ theirs) even one other = absurd (omega (arith, even))
same-ones (o ∷ ours) [] even one other = absurd (omega (arith, even))
same-ones (o ∷ ours) (t ∷ theirs) even one other =
    let first : length o.values ≡ length t.values = one.0 ∙ sym other.0 in
    let rest : widths ours ≡ widths theirs = same-ones ours theirs (omega (arith, even)) one.1 other.1 in cc

same-shape : (tr : Tracking) (columns : ℕ) (ours theirs : List Cell) → HasColumns tr columns ours → HasColumns tr columns theirs → widths ours ≡ widths theirs
same-shape tracking.Row columns (o ∷ []) (t ∷ []) one other = (let first : length o.values ≡ length t.values = one ∙ sym other in cc)
same-shape tracking.Row columns [] theirs one other = absurd one
same-shape tracking.Row columns (o ∷ p ∷ ours) theirs one other = absurd one
same-shape tracking.Row columns (o ∷ []) [] one other = absurd other
same-shape tracking.Row columns (o ∷ []) (t ∷ u ∷ theirs) one other = absurd other
same-shape tracking.ByColumn columns ours theirs one other = same-ones ours theirs (one.0 ∙ sym other.0) one.1 other.1

-- A merge whose decision counts.
module _ (meeting : Meeting) (resolver : ℕ) (decides : Option ℕ) (types : List ColumnType) (identity : Option ℕ) (tr : Tracking) (few : length types ≤ 64) (here there : Knowing) (dot : Dot) where
  abbrev asked : Asked
  asked = asked_by meeting resolver decides types identity tr

  abbrev Right : Body → Type 0
  Right body = BodyIsRight tr types identity body

  abbrev Shaped : Body → Type 0
  Shaped body = BodyFits (IsSet identity) tr (length types) identity body

  shapes : (p i : Body) → Shaped p → Shaped i → HaveSameShape p i
  shapes (Live ours) (Live theirs) one other = same-shape tr (length types) ours theirs one.0 other.0
  shapes (Live ours) (Dead y) one other = tt
  shapes (Dead x) (Live theirs) one other = tt
  shapes (Dead x) (Dead y) one other = tt

  counts : (p : Body) → Shaped p → HasCounts asked p
  counts (Live ours) one = tracked tr (length types) ours one.0
  counts (Dead x) one = tt

  narrow : (p : Body) → Shaped p → value_count (cells_of p) ≤ 64
  narrow (Live ours) one = (let same = (tracked tr (length types) ours one.0).1 in omega (arith, same, few))
  narrow (Dead x) one = omega arith

  short-by : (decision : Decision) (b : Bool) (p i : Body) → is_conflict (case_by here there p i) ≡ b → (is_conflict (case_by here there p i) ≡ false → decision ≡ KeepPublisher) → IsCounted meeting asked (case_by here there p i) p i decision → Right p → Right i
      → stored_length (cells_of (case_body dot decision (case_by here there p i) p i)) ≤ row_limit
  short-by decision b p i is keeps (inl same) one other =
      subst (λ (d : Decision). stored_length (cells_of (case_body dot d (case_by here there p i) p i)) ≤ row_limit) (sym same)
      (rows_stay_by dot here there KeepPublisher tt p i (shapes p i one.shaped other.shaped) (narrow p one.shaped) one.short other.short)
  short-by decision false p i is keeps (inr counted_by) one other =
      subst (λ (d : Decision). stored_length (cells_of (case_body dot d (case_by here there p i) p i)) ≤ row_limit) (sym (keeps is))
      (rows_stay_by dot here there KeepPublisher tt p i (shapes p i one.shaped other.shaped) (narrow p one.shaped) one.short other.short)
  short-by decision true p i is keeps (inr counted_by) one other =
      subst (λ (d : Decision). stored_length (cells_of (case_body dot d (case_by here there p i) p i)) ≤ row_limit) (sym counted_by.1)
      (counted_stays_in_limit here there meeting asked p i counted_by.0 dot (shapes p i one.shaped other.shaped) (counts p one.shaped) (narrow p one.shaped) one.short other.short is)

  columns-of : (p : Body) → Shaped p → HasShape tr (length types) p
  columns-of (Live cells) one = one.0
  columns-of (Dead top) one = tt

  pub case-right : (decision : Decision) (p i : Body) → (is_conflict (case_by here there p i) ≡ false → decision ≡ KeepPublisher) → IsCounted meeting asked (case_by here there p i) p i decision → Right p → Right i → Right (case_body dot decision (case_by here there p i) p i)
  case-right decision p i keeps is one other = record {
    shaped = case-fits (IsSet identity) meeting resolver decides types identity tr here there dot decision (has_news there p) (has_news here i) p i keeps is one.shaped other.shaped;
    typed = case-typed meeting resolver decides types identity tr here there dot decision (has_news there p) (has_news here i) p i keeps is (columns-of p one.shaped) one.typed other.typed;
    short = short-by decision (is_conflict (case_by here there p i)) p i refl keeps is one other;
  }

-- The fact. It waits for the inserts to have taken values.

abbrev pub TookValue : Publication → MadeChange → Type 0
TookValue publication change = IsMaker change → HasIdentity publication change.key → is_some change.identity ≡ true

abbrev pub AllTook : Publication → List MadeChange → Type 0
AllTook publication made = AllByRecursion (TookValue publication) made

abbrev pub RightAt : Publication → Key → Body → Type 0
RightAt publication key body = BodyIsRight (tracking_at publication key.article) (types_at publication key.article) (identity_column publication key.article) body

abbrev pub IsRight : Publication → List MadeChange → Key → Version → Past → Type 0
IsRight publication made key version past = AllTook publication made → RightAt publication key version.body

-- Articles have at most 64 columns, and an identity column is one of whole numbers.

few-by : (resolvers : ℕ) (all : List Article) (found : Option Article) → ((article : Article) → found ≡ Some article → IsValidArticle resolvers all article) → length (map (λ (c : Column). c.ty) (unwrap_or (option_map (λ (article : Article). article.columns) found) [])) ≤ 64
few-by resolvers all None valid = omega arith
few-by resolvers all (Some article) valid = (let within = (valid article refl).some_columns.1 in let same = length-map article.columns (λ (c : Column). c.ty) in omega (arith, within, same))

type-mapped : (columns : List Column) (k : ℕ) → slice_get (map (λ (c : Column). c.ty) columns) k ≡ option_map (λ (c : Column). c.ty) (slice_get columns k)
type-mapped [] k = refl
type-mapped (c ∷ columns) zero = refl
type-mapped (c ∷ columns) (suc k) = type-mapped columns k

whole-in : (columns : List Column) (found : Option Identity) (k : ℕ) → HasValidIdentity columns found → option_map (λ (identity : Identity). identity.column) found ≡ Some k → slice_get (map (λ (c : Column). c.ty) columns) k ≡ Some column.Int
whole-in columns None k valid is = absurd cc
whole-in columns (Some identity) k valid is = type-mapped columns k ∙ subst (λ (n : ℕ). option_map (λ (c : Column). c.ty) (slice_get columns n) ≡ Some column.Int) (some_same identity.column k is) valid.0

whole-by : (resolvers : ℕ) (all : List Article) (found : Option Article) (k : ℕ) → ((article : Article) → found ≡ Some article → IsValidArticle resolvers all article) → option_map (λ (identity : Identity). identity.column) (option_and_then (λ (article : Article). article.identity) found) ≡ Some k
    → slice_get (map (λ (c : Column). c.ty) (unwrap_or (option_map (λ (article : Article). article.columns) found) [])) k ≡ Some column.Int
whole-by resolvers all None k valid is = absurd cc
whole-by resolvers all (Some article) k valid is = whole-in article.columns article.identity k (valid article refl).valid_identity is

module _ (resolvers : ℕ) (publication : Publication) (valid : IsValid resolvers publication) where
  pub valid-at : (place : ℕ) (article : Article) → article_at publication place ≡ Some article → IsValidArticle resolvers publication.articles article
  valid-at place article at = article-valid resolvers publication.articles publication.articles place article valid.valid_articles at

  pub few : (place : ℕ) → length (types_at publication place) ≤ 64
  few place = few-by resolvers publication.articles (article_at publication place) (valid-at place)

  whole : (place k : ℕ) → identity_column publication place ≡ Some k → slice_get (types_at publication place) k ≡ Some column.Int
  whole place k is = whole-by resolvers publication.articles (article_at publication place) k (valid-at place) is

  -- A local change.

  live-parts : (tr : Tracking) (types : List ColumnType) (identity : Option ℕ) (body : Body) → is_live body ≡ true → BodyIsRight tr types identity body → CellsFit (IsSet identity) tr (length types) identity (cells_of body) × CellsTyped (fits_place types) tr (cells_of body)
  live-parts tr types identity (Live cells) lives right = (right.shaped, right.typed)
  live-parts tr types identity (Dead top) lives right = absurd cc

  never-set : (settings : List Setting) (found : Option ℕ) (k : ℕ) → found ≡ Some k → sets_identity settings found ≡ None → set_value settings k ≡ None
  never-set settings None k at none = absurd cc
  never-set settings (Some place) k at none =
      let same : place ≡ k = some_same place k at in
      subst (λ (n : ℕ). set_value settings n ≡ None) same (unset place settings (not-refused (list_any (λ (s : Setting). s.column == place) settings) (IdentityColumn place) none))
    where
      head-unset : (column : ℕ) (setting : Setting) (rest : List Setting) (b : Bool) → (setting.column == column) ≡ b → (b || list_any (λ (s : Setting). s.column == column) rest) ≡ false
          → (list_any (λ (s : Setting). s.column == column) rest ≡ false → set_value rest column ≡ None) → option_map (λ (s : Setting). s.value) (let found : Option Setting = cond b (Some setting) (find (λ (s : Setting). s.column == column) rest) in found) ≡ None
      head-unset column setting rest true is none later = absurd cc
      head-unset column setting rest false is none later = later none

      unset : (column : ℕ) (rest : List Setting) → list_any (λ (s : Setting). s.column == column) rest ≡ false → set_value rest column ≡ None
      unset column [] none = refl
      unset column (setting ∷ rest) none = head-unset column setting rest (setting.column == column) refl none (unset column rest)

  set-is : (value : Value) (found : Option ℤ) → whole_number (Some value) ≡ found → is_some found ≡ true → is_set (Some value) ≡ true
  set-is (Int number) found is some = refl
  set-is Null found is some = absurd (grind (arith, is, some))
  set-is (Bit b) found is some = refl
  set-is (Text bytes) found is some = refl
  set-is (Day day) found is some = refl
  set-is (Guid guid) found is some = refl
  set-is (Bytes bytes) found is some = refl

  within : (after : Option Version) → long_row after ≡ None → length_after after ≤ row_limit
  within after fine = (let low : nat_lt row_limit (length_after after) ≡ false = not-refused (nat_lt row_limit (length_after after)) (RowTooLong (length_after after)) fine in grind (arith, nat_tests, low))

  inserted-right : (dot : Dot) (article : ℕ) (value : Value) (settings : List Setting) (held : Option Version) → wrong_type (types_at publication article) settings ≡ None → long_value settings ≡ None → long_row (version_after publication dot (Int (pos 0)) (Insert article settings) held) ≡ None
      → (is_some (identity_column publication article) ≡ true → is_some (whole_number (Some value)) ≡ true)
      → BodyIsRight (tracking_at publication article) (types_at publication article) (identity_column publication article) (Live (new_cells (tracking_at publication article) dot (new_values publication article value settings)))
  inserted-right dot article value settings held typed short row takes =
      let tr : Tracking = tracking_at publication article in
      let types : List ColumnType = types_at publication article in
      let identity : Option ℕ = identity_column publication article in
      record {
        shaped = inserted-fits (IsSet identity) tr types identity dot value settings (column-within resolvers publication valid article) (λ some. set-is value (whole_number (Some value)) refl (takes some));
        typed = new-typed (fits_place types) tr dot (new_values publication article value settings)
            (new-values-fit types value settings (set-fits types settings typed short) identity (λ k is. (whole article k is, takes (ap (λ (found : Option ℕ). is_some found) is))));
        short = (let same = new-row-long tr dot identity value settings types takes in let low = within (version_after publication dot (Int (pos 0)) (Insert article settings) held) row in omega (arith, same, low));
      }

  live-right : (dot : Dot) (article : ℕ) (row : RowId) (settings : List Setting) (version : Version) → is_live version.body ≡ true → sets_identity settings (identity_column publication article) ≡ None → wrong_type (types_at publication article) settings ≡ None → long_value settings ≡ None
      → long_row (version_after publication dot (Int (pos 0)) (Update article row settings) (Some version)) ≡ None → BodyIsRight (tracking_at publication article) (types_at publication article) (identity_column publication article) version.body
      → BodyIsRight (tracking_at publication article) (types_at publication article) (identity_column publication article) (Live (cells_after (tracking_at publication article) dot settings (cells_of version.body)))
  live-right dot article row settings version lives none typed short fine right =
      let tr : Tracking = tracking_at publication article in
      let types : List ColumnType = types_at publication article in
      let identity : Option ℕ = identity_column publication article in
      let parts = live-parts tr types identity version.body lives right in
      record {
        shaped = updated-fits (IsSet identity) tr (length types) identity dot settings (cells_of version.body) (λ k is. never-set settings identity k is none) parts.0;
        typed = after-typed (fits_place types) dot settings (set-fits types settings typed short) tr (cells_of version.body) parts.1;
        short = within (version_after publication dot (Int (pos 0)) (Update article row settings) (Some version)) fine;
      }

  -- what the change and the row passed
  record Passed (dot : Dot) (change : Change) (held : Option Version) : Type 0 where
    row : no_row change held ≡ None
    unset : sets_identity (settings_of change) (identity_column publication (article_of change)) ≡ None
    typed : wrong_type (types_at publication (article_of change)) (settings_of change) ≡ None
    short : long_value (settings_of change) ≡ None
    within : long_row (version_after publication dot (Int (pos 0)) change held) ≡ None

  passed : (dot : Dot) (change : Change) (held : Option Version) (rows : ℕ) → change_refusal publication dot change held rows ≡ None → Passed dot change held
  passed dot change held rows fine =
      let five : List (Option Refusal) = too_many_rows change rows ∷ [] in
      let four : List (Option Refusal) = long_row (version_after publication dot (Int (pos 0)) change held) ∷ five in
      let three : List (Option Refusal) = long_value (settings_of change) ∷ four in
      let two : List (Option Refusal) = wrong_type (types_at publication (article_of change)) (settings_of change) ∷ three in
      let one : List (Option Refusal) = sets_identity (settings_of change) (identity_column publication (article_of change)) ∷ two in
      let a = first-none (no_row change held) one fine in
      let b = first-none (sets_identity (settings_of change) (identity_column publication (article_of change))) two a.1 in
      let c = first-none (wrong_type (types_at publication (article_of change)) (settings_of change)) three b.1 in
      let d = first-none (long_value (settings_of change)) four c.1 in
      let e = first-none (long_row (version_after publication dot (Int (pos 0)) change held)) five d.1 in
      record { row = a.0; unset = b.0; typed = c.0; short = d.0; within = e.0 }

  pub changed-right : (made : List MadeChange) (dot : Dot) (generation : ℕ) (change : Change) (value : Value) (held : Option Version) (rows : ℕ) (past : Past) → IsCarried dot → change_refusal publication dot change held rows ≡ None
      → (let all : List MadeChange = Noting.made_change publication dot generation change value (key_of dot change) (past_after publication dot change past) ∷ made in HeldFits (IsRight publication all) (key_of dot change) held past
      → HeldFits (IsRight publication all) (key_of dot change) (version_after publication dot value change held) (past_after publication dot change past))
  changed-right made dot generation (Insert article settings) value held rows past carried fine fits = λ took. (
      let p : Passed dot (Insert article settings) held = passed dot (Insert article settings) held rows fine in
      inserted-right dot article value settings held p.typed p.short p.within
      (λ has. took.0 (maker_of-made _ dot.site.0 dot.number (record { site_fits = carried.site; from_one = carried.from_one; fits = carried.fits; same = refl })) has))
  changed-right made dot generation (Update article row settings) value None rows past carried fine fits = tt
  changed-right made dot generation (Update article row settings) value (Some held) rows past carried fine fits = λ took. (
      let p : Passed dot (Update article row settings) (Some held) = passed dot (Update article row settings) (Some held) rows fine in
      live-right dot article row settings held (no-refusal (is_live held.body) p.row) p.unset p.typed p.short p.within (fits took))
  changed-right made dot generation (Delete article row) value None rows past carried fine fits = tt
  changed-right made dot generation (Delete article row) value (Some held) rows past carried fine fits = λ took. record { shaped = tt; typed = tt; short = omega arith }

  -- A merge, and more changes.

  merged-right : (judge : PublisherJudge) (site : SiteId) (p : PublisherTables) (key : Key) (held incoming : Version) (case : Case) (decision : Decision) (dot : Dot) (past other : Past) → case ≡ case_by (has past.known) (has other.known) held.body incoming.body → (is_conflict case ≡ false → decision ≡ KeepPublisher)
      → FateCounts publication judge site p key incoming (Met held case decision dot) → RightAt publication key held.body → RightAt publication key incoming.body → RightAt publication key (case_body dot decision case held.body incoming.body)
  merged-right judge site p key held incoming case decision dot past other is keeps counts one two =
      subst (λ (c : Case). (is_conflict c ≡ false → decision ≡ KeepPublisher) → FateCounts publication judge site p key incoming (Met held c decision dot) → RightAt publication key (case_body dot decision c held.body incoming.body)) (sym is)
      (λ keeps counts. case-right (meeting_of publication judge site p.latest key held incoming) (resolver_at publication key.article) (resolver_column publication key.article) (types_at publication key.article) (identity_column publication key.article)
      (tracking_at publication key.article) (few key.article) (has past.known) (has other.known) dot decision held.body incoming.body keeps counts one two) keeps counts

  pub right-goes_on : GoesOn publication (IsRight publication)
  right-goes_on = record {
    more = λ made others key version past among right took. right (each-in (TookValue publication) made (λ change inside. all-in (TookValue publication) others change took (among change inside)));
    changed = λ made dot generation change value held rows past carried fine fits. changed-right made dot generation change value held rows past carried fine fits;
    merged = λ made judge site p key held incoming case decision dot past other is keeps counts one two took. merged-right judge site p key held incoming case decision dot past other is keeps counts (one took) (two took);
  }
