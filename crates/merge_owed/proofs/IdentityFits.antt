-- What a row's version has as identity value was taken as its row was made: changes and acts keep this.
use Rattle.std.specs.List.{list_any}
use Rattle.std.specs.Prelude.{All, Bool, List, None, Option, Some, [], cond, false, find, length, map, option_map, refl, slice_get, suc, true, unwrap_or, zero, ℕ, ℤ, ◌<◌, ◌==◌, ◌||◌, ◌≡◌, ◌∷◌}
use Rattle.std.specs.Option.{option_and_then}
use Rattle.std.proofs.Common.{arith, inl, inr, subst, sym}
use Rattle.std.proofs.lemmas.List.{length-map}
use Rattle.std.proofs.lemmas.List.Elements.{All-head, All-tail}
use Rattle.std.proofs.lemmas.Option.{slice_get_within}
use Rattle.merge_types.specs.declared.changes.Change.{Change}
use Rattle.merge_types.specs.declared.changes.Change.TheVariants.{Delete, Insert, Update}
use Rattle.merge_types.specs.declared.changes.Setting.{Setting}
use Rattle.merge_types.specs.declared.identifiers.Dot.{Dot}
use Rattle.merge_types.specs.declared.identifiers.RowId.{RowId}
use Rattle.merge_types.specs.declared.identifiers.SiteId.{SiteId}
use Rattle.merge_types.specs.declared.row_key.RowKey.{RowKey as Key}
use Rattle.merge_types.specs.declared.values.ColumnType.{ColumnType}
use Rattle.merge_types.specs.declared.values.Column.{Column}
use Rattle.merge_types.specs.declared.values.Value.{Value}
use Rattle.merge_units.specs.Cases.{case_by, is_conflict}
use Rattle.merge_units.specs.Changes.{cells_after, set_value}
use Rattle.merge_units.specs.Results.{case_body}
use Rattle.merge_units.specs.Version.{cells_of, has_news, is_live}
use Rattle.merge_units.specs.declared.case.Case.{Case}
use Rattle.merge_units.specs.declared.result.Decision.{Decision}
use Rattle.merge_units.specs.declared.result.Decision.TheVariants.{KeepPublisher}
use Rattle.merge_units.specs.declared.version.Body.{Body}
use Rattle.merge_units.specs.declared.version.Body.TheVariants.{Dead, Live}
use Rattle.merge_units.specs.declared.version.Version.{Version}
use Rattle.merge_schema.specs.Places.{article_at}
use Rattle.merge_schema.specs.Valid.{HasValidIdentity, IsValid, IsValidArticle, IsValidIdentity}
use Rattle.merge_schema.specs.declared.publication.Article.{Article}
use Rattle.merge_schema.specs.declared.publication.Identity.{Identity}
use Rattle.merge_schema.specs.declared.publication.Publication.{Publication}
use Rattle.merge_batch.specs.LocalChanges.{change_refusal, identity_column, is_insert, key_of, no_row, sets_identity, tracking_at, types_at, version_after}
use Rattle.merge_batch.specs.Uploads.{whole_number}
use Rattle.merge_batch.specs.declared.refusal.Refusal.TheVariants.{IdentityColumn}
use Rattle.merge_model.specs.Publisher.Acts.{Met, meeting_of}
use Rattle.merge_model.specs.History.{MadeChange, Past, has}
use Rattle.merge_model.specs.Judge.{PublisherJudge}
use Rattle.merge_model.specs.History.Pasts.{past_after}
use Rattle.merge_model.specs.Tables.Publications.{resolver_at, resolver_column}
use Rattle.merge_model.specs.Tables.{PublisherTables}
use Rattle.merge_model.proofs.Lists.Finding.{some_same}
use Rattle.merge_model.proofs.Lists.KeyLookUps.{key-itself}
use Rattle.merge_model.proofs.Runs.Refusals.{first-none}
use Rattle.merge_model.specs.History.Noting
use Rattle.merge_batch.proofs.Makers.{maker_of-made}
use Rattle.merge_laws.proofs.Accounts.AccountElements.{IsIn}
use Rattle.merge_laws.proofs.Received.Arrivals.{not-refused}
use Rattle.merge_laws.proofs.Numbered.Telling.{no-refusal}
use Rattle.merge_laws.proofs.Told.ToldRows.{HeldFits}
use Rattle.merge_owed.specs.Identity.{MadeWith, WasTaken}
use Rattle.merge_owed.proofs.BodyValues.{BodyFits, case-fits, inserted-fits, updated-fits}
use Rattle.merge_owed.proofs.Decided.{FateCounts}
use Rattle.merge_owed.proofs.MadeStays.{AreAmong}
use Rattle.merge_owed.proofs.VersionKept.{GoesOn, IsCarried}

-- One of the changes made the row.

pub taken-in : (made : List MadeChange) (change : MadeChange) (key : Key) (value : Option ℤ) → IsIn change made → MadeWith key value change → WasTaken made key value
taken-in [] change key value is with = absurd is
taken-in (c ∷ made) change key value (inl same) with = inl (subst (MadeWith key value) (sym same) with)
taken-in (c ∷ made) change key value (inr later) with = inr (taken-in made change key value later with)

pub taken-out : (C : Type 0) (made : List MadeChange) (key : Key) (value : Option ℤ) → WasTaken made key value → ((change : MadeChange) → IsIn change made → MadeWith key value change → C) → C
taken-out C [] key value taken each = absurd taken
taken-out C (c ∷ made) key value (inl with) each = each c (inl refl) with
taken-out C (c ∷ made) key value (inr later) each = taken-out C made key value later (λ change is with. each change (inr is) with)

taken-more : (made more : List MadeChange) (key : Key) (value : Option ℤ) → AreAmong made more → WasTaken made key value → WasTaken more key value
taken-more made more key value among taken = taken-out (WasTaken more key value) made key value taken (λ change is with. taken-in more change key value (among change is) with)

-- The fact: the columns are those of the article, and the value at the identity column was taken.
abbrev pub Took : List MadeChange → Key → Option Value → Type 0
Took made key value = WasTaken made key (whole_number value)

abbrev pub BodyTook : Publication → List MadeChange → Key → Body → Type 0
BodyTook publication made key body = BodyFits (Took made key) (tracking_at publication key.article) (length (types_at publication key.article)) (identity_column publication key.article) body

abbrev pub TookIts : Publication → List MadeChange → Key → Version → Past → Type 0
TookIts publication made key version past = BodyTook publication made key version.body

pub body-more : (publication : Publication) (made more : List MadeChange) (key : Key) (body : Body) → AreAmong made more → BodyTook publication made key body → BodyTook publication more key body
body-more publication made more key (Live cells) among fits = (fits.0, λ column is. taken-more made more key _ among (fits.1 column is))
body-more publication made more key (Dead top) among fits = tt

-- An identity column is a column of its article.

pub article-valid : (resolvers : ℕ) (all articles : List Article) (place : ℕ) (article : Article) → All (IsValidArticle resolvers all) articles → slice_get articles place ≡ Some article → IsValidArticle resolvers all article
article-valid resolvers all [] place article valid at = absurd cc
article-valid resolvers all (first ∷ articles) zero article valid at = subst (IsValidArticle resolvers all) (some_same first article at) (All-head (IsValidArticle resolvers all) first articles valid)
article-valid resolvers all (first ∷ articles) (suc place) article valid at = article-valid resolvers all articles place article (All-tail (IsValidArticle resolvers all) first articles valid) at

typed-within : (columns : List Column) (column : ℕ) (ty : ColumnType) (found : Option Column) → slice_get columns column ≡ found → option_map (λ (c : Column). c.ty) found ≡ Some ty → column < length columns
typed-within columns column ty None at is = absurd cc
typed-within columns column ty (Some c) at is = slice_get_within columns column c at

identity-within : (resolvers : ℕ) (all : List Article) (article : Article) (found : Option Identity) (column : ℕ) → article.identity ≡ found → IsValidArticle resolvers all article → option_map (λ (identity : Identity). identity.column) found ≡ Some column → column < length article.columns
identity-within resolvers all article None column at valid is = absurd cc
identity-within resolvers all article (Some identity) column at valid is =
    let same : identity.column ≡ column = some_same identity.column column is in
    let own : IsValidIdentity article.columns identity = subst (HasValidIdentity article.columns) at valid.valid_identity in
    subst (λ (k : ℕ). k < length article.columns) same (typed-within article.columns identity.column _ (slice_get article.columns identity.column) refl own.0)

found-within : (resolvers : ℕ) (publication : Publication) (place column : ℕ) (found : Option Article) → IsValid resolvers publication → article_at publication place ≡ found
    → option_map (λ (identity : Identity). identity.column) (option_and_then (λ (article : Article). article.identity) found) ≡ Some column
    → column < length (map (λ (c : Column). c.ty) (unwrap_or (option_map (λ (article : Article). article.columns) found) []))
found-within resolvers publication place column None valid at is = absurd cc
found-within resolvers publication place column (Some article) valid at is =
    let low = identity-within resolvers publication.articles article article.identity column refl (article-valid resolvers publication.articles publication.articles place article valid.valid_articles at) is in
    let same = length-map article.columns (λ (c : Column). c.ty) in
    omega (arith, low, same)

pub column-within : (resolvers : ℕ) (publication : Publication) → IsValid resolvers publication → (place column : ℕ) → identity_column publication place ≡ Some column → column < length (types_at publication place)
column-within resolvers publication valid place column is = found-within resolvers publication place column (article_at publication place) valid refl is

-- A local change.

head-unset : (column : ℕ) (setting : Setting) (settings : List Setting) (b : Bool) → (setting.column == column) ≡ b → (b || list_any (λ (s : Setting). s.column == column) settings) ≡ false
    → (list_any (λ (s : Setting). s.column == column) settings ≡ false → set_value settings column ≡ None) → option_map (λ (s : Setting). s.value) (let found : Option Setting = cond b (Some setting) (find (λ (s : Setting). s.column == column) settings) in found) ≡ None
head-unset column setting settings true is none rest = absurd cc
head-unset column setting settings false is none rest = rest none

unset : (column : ℕ) (settings : List Setting) → list_any (λ (s : Setting). s.column == column) settings ≡ false → set_value settings column ≡ None
unset column [] none = refl
unset column (setting ∷ settings) none = head-unset column setting settings (setting.column == column) refl none (unset column settings)

never-set : (settings : List Setting) (found : Option ℕ) (column : ℕ) → found ≡ Some column → sets_identity settings found ≡ None → set_value settings column ≡ None
never-set settings None column at none = absurd cc
never-set settings (Some place) column at none =
    let same : place ≡ column = some_same place column at in
    subst (λ (k : ℕ). set_value settings k ≡ None) same (unset place settings (not-refused (list_any (λ (s : Setting). s.column == place) settings) (IdentityColumn place) none))

live-updated : (publication : Publication) (made : List MadeChange) (dot : Dot) (article : ℕ) (row : RowId) (settings : List Setting) (body : Body) → is_live body ≡ true → sets_identity settings (identity_column publication article) ≡ None
    → (let key : Key = record { article = article; row = row } in BodyTook publication made key body → BodyTook publication made key (Live (cells_after (tracking_at publication article) dot settings (cells_of body))))
live-updated publication made dot article row settings (Dead top) lives none fits = absurd cc
live-updated publication made dot article row settings (Live cells) lives none fits =
    updated-fits (Took made (record { article = article; row = row })) (tracking_at publication article) (length (types_at publication article)) (identity_column publication article) dot settings cells
    (λ column is. never-set settings (identity_column publication article) column is none) fits

module _ (resolvers : ℕ) (publication : Publication) (valid : IsValid resolvers publication) (made : List MadeChange) where
  pub changed-took : (dot : Dot) (identity : Value) (change : Change) (held : Option Version) (rows : ℕ) (past : Past) → change_refusal publication dot change held rows ≡ None
      → (is_insert change ≡ true → WasTaken made (key_of dot change) (whole_number (Some identity))) → HeldFits (TookIts publication made) (key_of dot change) held past
      → HeldFits (TookIts publication made) (key_of dot change) (version_after publication dot identity change held) (past_after publication dot change past)
  changed-took dot identity (Insert article settings) held rows past fine taken fits =
      inserted-fits (Took made (key_of dot (Insert article settings))) (tracking_at publication article) (types_at publication article) (identity_column publication article) dot identity settings (column-within resolvers publication valid article) (taken refl)
  changed-took dot identity (Update article row settings) None rows past fine taken fits = tt
  changed-took dot identity (Update article row settings) (Some held) rows past fine taken fits =
      let first = first-none (no_row (Update article row settings) (Some held)) _ fine in
      let second = first-none (sets_identity settings (identity_column publication article)) _ first.1 in
      live-updated publication made dot article row settings held.body (no-refusal (is_live held.body) first.0) second.0 fits
  changed-took dot identity (Delete article row) None rows past fine taken fits = tt
  changed-took dot identity (Delete article row) (Some held) rows past fine taken fits = tt

-- A merge whose decision counts.
module _ (publication : Publication) (judge : PublisherJudge) (site : SiteId) (p : PublisherTables) (made : List MadeChange) where
  result-took : (key : Key) (held incoming : Version) (case : Case) (decision : Decision) (dot : Dot) (past other : Past) → case ≡ case_by (has past.known) (has other.known) held.body incoming.body → (is_conflict case ≡ false → decision ≡ KeepPublisher)
      → FateCounts publication judge site p key incoming (Met held case decision dot) → BodyTook publication made key held.body → BodyTook publication made key incoming.body → BodyTook publication made key (case_body dot decision case held.body incoming.body)
  result-took key held incoming case decision dot past other is keeps counts one two =
      let here : Dot → Bool = has past.known in
      let there : Dot → Bool = has other.known in
      subst (λ (c : Case). (is_conflict c ≡ false → decision ≡ KeepPublisher) → FateCounts publication judge site p key incoming (Met held c decision dot) → BodyTook publication made key (case_body dot decision c held.body incoming.body)) (sym is)
      (λ keeps counts. case-fits (Took made key) (meeting_of publication judge site p.latest key held incoming) (resolver_at publication key.article) (resolver_column publication key.article) (types_at publication key.article) (identity_column publication key.article)
      (tracking_at publication key.article) here there dot decision (has_news there held.body) (has_news here incoming.body) held.body incoming.body keeps counts one two) keeps counts

-- An insert makes the row that is named by its dot, and takes its value.
insert-taken : (publication : Publication) (dot : Dot) (generation : ℕ) (change : Change) (value : Value) (past : Past) (made : List MadeChange) → IsCarried dot → is_insert change ≡ true
    → WasTaken (Noting.made_change publication dot generation change value (key_of dot change) past ∷ made) (key_of dot change) (whole_number (Some value))
insert-taken publication dot generation (Insert article settings) value past made carried is =
    inl (record { same = key-itself (key_of dot (Insert article settings)); maker = maker_of-made _ dot.site.0 dot.number (record { site_fits = carried.site; from_one = carried.from_one; fits = carried.fits; same = refl }); took = refl })
insert-taken publication dot generation (Update article row settings) value past made carried is = absurd cc
insert-taken publication dot generation (Delete article row) value past made carried is = absurd cc

pub took-goes_on : (resolvers : ℕ) (publication : Publication) → IsValid resolvers publication → GoesOn publication (TookIts publication)
took-goes_on resolvers publication valid = record {
  more = λ made others key version past among fits. body-more publication made others key version.body among fits;
  changed = λ made dot generation change value held rows past carried fine fits. changed-took resolvers publication valid (Noting.made_change publication dot generation change value (key_of dot change) (past_after publication dot change past) ∷ made) dot value change held rows past fine
      (insert-taken publication dot generation change value (past_after publication dot change past) made carried) fits;
  merged = λ made judge site p key held incoming case decision dot past other is keeps counts one two. result-took publication judge site p made key held incoming case decision dot past other is keeps counts one two;
}
