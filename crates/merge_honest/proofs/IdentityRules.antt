-- The rule that an upload keeps by the identity values of its rows: each was granted to the row's maker, and is that of the row that the publisher holds. Rule 12.
use Rattle.std.specs.List.{AllByRecursion, list_any}
use Rattle.std.specs.Option.{option_and_then, option_map_or}
use Rattle.std.specs.Ordering.{int_eq}
use Rattle.std.specs.Prelude.{Bool, List, None, Option, Some, [], cond, count_by, false, is_some, option_map, refl, true, ℕ, ℤ, ◌&&◌, ◌+◌, ◌||◌, ◌≡◌, ◌≤◌, ◌∷◌}
use Rattle.std.proofs.Common.{ap, arith, inl, inr, subst, sym, ◌∙◌}
use Rattle.std.proofs.lemmas.Bool.Decides.{nat_tests}
use Rattle.std.proofs.lemmas.List.Sums.{sum_by-cons}
use Rattle.std.specs.Cmp.{signed_Decides}
use Rattle.merge_types.specs.declared.identifiers.Dot.{Dot}
use Rattle.merge_types.specs.declared.identifiers.SiteId.{SiteId}
use Rattle.merge_types.specs.declared.row_key.RowKey.{RowKey as Key}
use Rattle.merge_units.specs.declared.site_row.PublisherRow.{PublisherRow}
use Rattle.merge_units.specs.declared.version.Body.{Body}
use Rattle.merge_units.specs.declared.version.Body.TheVariants.{Dead, Live}
use Rattle.merge_units.specs.declared.version.Cell.{Cell}
use Rattle.merge_units.specs.declared.version.Version.{Version}
use Rattle.merge_ident.specs.Grants.{is_granted, is_in, is_of}
use Rattle.merge_ident.specs.declared.grants.Grant.{Grant}
use Rattle.merge_schema.specs.Places.{article_at}
use Rattle.merge_schema.specs.declared.publication.Article.{Article}
use Rattle.merge_schema.specs.declared.publication.Identity.{Identity}
use Rattle.merge_schema.specs.declared.publication.Publication.{Publication}
use Rattle.merge_batch.specs.Articles.{row_values}
use Rattle.merge_batch.specs.Makers.{maker_of}
use Rattle.merge_batch.specs.Uploads.{identity_at, identity_in, identity_is_right, identity_value, is_kept, was_granted_to}
use Rattle.merge_batch.specs.declared.request.Request.TheVariants as request
use Rattle.merge_batch.specs.declared.request.Upload.{Upload}
use Rattle.merge_batch.specs.declared.request.UploadItem.{UploadItem}
use Rattle.merge_model.specs.Publisher.Acts.{key_of_item}
use Rattle.merge_model.specs.History.{MadeChange, Past, past_at}
use Rattle.merge_model.specs.Tables.Keys.{row_at, same_key}
use Rattle.merge_model.specs.History.Model.{Model}
use Rattle.merge_model.specs.Failing.Runs.{model_behind}
use Rattle.merge_model.specs.Tables.{PublisherTables}
use Rattle.merge_model.specs.declared.letter.Message.TheVariants.{Asks}
use Rattle.merge_model.proofs.Lists.KeyLookUps.{keys-same}
use Rattle.merge_laws.specs.Facts.Identities.{OfEveryRuledModel, TakenWereGranted, gives_to, takes_at}
use Rattle.merge_laws.specs.Laws.{OfEveryValidRun}
use Rattle.merge_laws.proofs.Accounts.AccountElements.{IsIn, all-in}
use Rattle.merge_laws.proofs.Told.ToldLetters.{letter-fits}
use Rattle.merge_laws.proofs.Told.ToldRows.{HeldFits}
use Rattle.merge_laws.proofs.Told.ToldSites.{Every, publisher-begins}
use Rattle.merge_laws.proofs.Runs.ValidRules.{valid-rules}
use Rattle.merge_laws.proofs.Identities.IdentityCalls.{counts-cons}
use Rattle.merge_owed.specs.Identity.{HasIdentity, HasValue, MadeWith, TakenStands, ValueWasTaken, WasTaken}
use Rattle.merge_owed.proofs.IdentityFits.{taken-out}
use Rattle.merge_honest.specs.Delivered.{IsRequest, NoneIsRefusedFor, breaks}
use Rattle.merge_honest.proofs.Breaking.{follows-all}
use Rattle.merge_honest.proofs.Rules.{Known, ItemMeets, UploadsKeep, head-met, held_against, known-always, uploads-in}

-- What passes a test is counted, and what is counted passes.

one-more : (b : Bool) (n : ℕ) → b ≡ true → 1 ≤ cond b 1 0 + n
one-more true n is = omega arith
one-more false n is = absurd cc

some-counted : {X : Type 0} (test : X → Bool) (xs : List X) (x : X) → IsIn x xs → test x ≡ true → 1 ≤ count_by test xs
some-counted test [] x is passes = absurd is
some-counted test (y ∷ ys) x (inl same) passes = (let step = counts-cons test y ys in let first = one-more (test y) (count_by test ys) (ap test same ∙ passes) in omega (arith, step, first))
some-counted test (y ∷ ys) x (inr later) passes = (let step = counts-cons test y ys in let rest = some-counted test ys x later passes in omega (arith, step, rest))

any-first : (b o rest : Bool) (n : ℕ) → (b ≡ true → o ≡ true) → 1 ≤ cond b 1 0 + n → (1 ≤ n → rest ≡ true) → (o || rest) ≡ true
any-first true o rest n is some later = (let first : o ≡ true = is refl in grind (arith, first))
any-first false o rest n is some later = (let second : rest ≡ true = later (omega (arith, some)) in grind (arith, second))

any-counted : {X : Type 0} (test other : X → Bool) → ((x : X) → test x ≡ true → other x ≡ true) → (xs : List X) → 1 ≤ count_by test xs → list_any other xs ≡ true
any-counted test other more [] some = absurd (omega (arith, some))
any-counted test other more (x ∷ xs) some = any-first (test x) (other x) (list_any other xs) (count_by test xs) (more x) (let step = counts-cons test x xs in omega (arith, step, some)) (λ rest. any-counted test other more xs rest)

int-itself : (value : ℤ) → int_eq value value ≡ true
int-itself value = (signed_Decides value value).1 refl

-- Where there is an identity value the article has an identity column, and the row lives.

column-by : (found : Option Identity) (cells : List Cell) (value : ℤ) → identity_at found (row_values cells) ≡ Some value → is_some (option_map (λ (identity : Identity). identity.column) found) ≡ true
column-by None cells value is = absurd cc
column-by (Some identity) cells value is = refl

article-by : (found : Option Article) (cells : List Cell) (value : ℤ) → option_map_or (identity_in (Live cells)) found None ≡ Some value → is_some (option_map (λ (identity : Identity). identity.column) (option_and_then (λ (article : Article). article.identity) found)) ≡ true
article-by None cells value is = absurd cc
article-by (Some article) cells value is = column-by article.identity cells value is

dead-by : (found : Option Article) (top : Dot) → option_map_or (identity_in (Dead top)) found None ≡ None
dead-by None top = refl
dead-by (Some article) top = refl

record IsOf (publication : Publication) (made : List MadeChange) (key : Key) (value : ℤ) : Type 0 where
  identity : HasIdentity publication key
  taken : WasTaken made key (Some value)

body-of : (publication : Publication) (made : List MadeChange) (key : Key) (value : ℤ) (body : Body) → ValueWasTaken publication made key body → identity_value publication key.article body ≡ Some value → IsOf publication made key value
body-of publication made key value (Live cells) taken is =
    let has : HasIdentity publication key = article-by (article_at publication key.article) cells value is in
    record { identity = has; taken = subst (WasTaken made key) is (taken has) }
body-of publication made key value (Dead top) taken is = absurd (let none = dead-by (article_at publication key.article) top in let both : None ≡ Some value = sym none ∙ is in cc)

body-kept : (publication : Publication) (key : Key) (value : ℤ) (body : Body) → HasValue publication (Some value) key body → is_kept value (identity_value publication key.article body) ≡ true
body-kept publication key value (Live cells) is = subst (λ (found : Option ℤ). is_kept value found ≡ true) (sym is) (int-itself value)
body-kept publication key value (Dead top) is = subst (λ (found : Option ℤ). is_kept value found ≡ true) (sym (dead-by (article_at publication key.article) top)) refl

module _ (publication : Publication) (m : Model) (k : Known publication m) (granted : TakenWereGranted m) where
  abbrev made : List MadeChange
  made = m.history.made

  abbrev p : PublisherTables
  p = m.world.publisher

  -- Of a change that made a row and took a value.
  module _ (key : Key) (value : ℤ) (change : MadeChange) (inside : IsIn change made) (with : MadeWith key (Some value) change) where
    takes-it : (article : ℕ) → change.key.article ≡ article → takes_at change.dot.site.0 article value change ≡ true
    takes-it article same = (let took = with.took in let itself = int-itself value in grind (arith, nat_tests, same, took, itself))

    value-granted : is_granted key.article change.dot.site.0 value p.grants ≡ true
    value-granted = any-counted (gives_to change.dot.site.0 key.article value) (λ (grant : Grant). is_of key.article change.dot.site.0 grant && is_in value grant.range) (λ grant gives. grind (arith, nat_tests, gives)) p.grants
        (granted change.dot.site.0 key.article value (some-counted (takes_at change.dot.site.0 key.article value) made change inside (takes-it key.article (ap (λ (other : Key). other.article) (keys-same change.key key with.same)))))

    abbrev Stands : Key → Version → Past → Type 0
    Stands other version past = same_key change.key other ≡ true → HasValue publication change.identity other version.body

    stands : HasIdentity publication key → Every Stands m.world m.history
    stands has = (let same : change.key ≡ key = keys-same change.key key with.same in
        all-in (TakenStands publication m) made change k.stands inside (ap (λ (other : Key). maker_of other.row.0) same ∙ with.maker) (subst (HasIdentity publication) (sym same) has))

    row-kept : (row : Option PublisherRow) → HeldFits Stands key (option_map (λ (held : PublisherRow). held.version) row) (past_at m.history 0 key) → is_kept value (option_and_then (λ (held : PublisherRow). identity_value publication key.article held.version.body) row) ≡ true
    row-kept None fits = refl
    row-kept (Some row) fits = body-kept publication key value row.version.body (subst (λ (found : Option ℤ). HasValue publication found key row.version.body) with.took (fits with.same))

    value-kept : HasIdentity publication key → is_kept value (option_and_then (λ (held : PublisherRow). identity_value publication key.article held.version.body) (row_at p.rows key)) ≡ true
    value-kept has = row-kept (row_at p.rows key) ((publisher-begins Stands m.world m.history (stands has)).held key)

  -- Of an upload in the pool.
  module _ (number : ℕ) (site : SiteId) (u : Upload) (at : IsRequest m number site (request.Upload u)) where
    found-right : (item : UploadItem) → ValueWasTaken publication made (key_of_item item) item.version.body → (found : Option ℤ) → identity_value publication item.article item.version.body ≡ found
        → option_map_or (λ (value : ℤ). was_granted_to (held_against publication m number) item.article value (maker_of item.row.0) && is_kept value ((held_against publication m number).identity item.article item.row.0)) found true ≡ true
    found-right item taken None is = refl
    found-right item taken (Some value) is =
        let of : IsOf publication made (key_of_item item) value = body-of publication made (key_of_item item) value item.version.body taken is in
        taken-out ((was_granted_to (held_against publication m number) item.article value (maker_of item.row.0) && is_kept value ((held_against publication m number).identity item.article item.row.0)) ≡ true) made (key_of_item item) (Some value) of.taken (λ change inside with. (
        let granted : was_granted_to (held_against publication m number) item.article value (maker_of item.row.0) ≡ true =
        subst (λ (maker : Option Dot). was_granted_to (held_against publication m number) item.article value maker ≡ true) (sym with.maker) (value-granted (key_of_item item) value change inside with) in
        let kept : is_kept value ((held_against publication m number).identity item.article item.row.0) ≡ true = value-kept (key_of_item item) value change inside with of.identity in
        grind (arith, granted, kept)))

    items-taken : AllByRecursion (λ (item : UploadItem). ValueWasTaken publication made (key_of_item item) item.version.body) u.items
    items-taken = letter-fits (λ (key : Key) (version : Version) (past : Past). ValueWasTaken publication made key version.body) m.world m.history number (record { site = site; message = Asks (request.Upload u) }) at k.taken.letters

values-keep : (publication : Publication) (m : Model) → Known publication m → TakenWereGranted m → UploadsKeep 12 publication m
values-keep publication m k granted number site u at fine = (
  head-met 12 publication m number u refl,
  follows-all (λ (item : UploadItem). ValueWasTaken publication m.history.made (key_of_item item) item.version.body) (ItemMeets 12 publication m number u)
      (λ before item taken. (let is : identity_is_right publication (held_against publication m number) item ≡ true = found-right publication m k granted number site u at item taken (identity_value publication item.article item.version.body) refl in grind (arith, is))) None u.items (items-taken publication m k granted number site u at),
)

-- what inserts took was granted, in every run
pub no-value-misfits : OfEveryRuledModel TakenWereGranted → OfEveryValidRun (NoneIsRefusedFor (breaks 12))
no-value-misfits granted resolvers publication valid says tallies slips events =
    let m : Model = model_behind publication says tallies slips events in
    let k : Known publication m = known-always publication says tallies slips events (resolvers, valid) in
    uploads-in 12 refl refl publication says m k (values-keep publication m k (granted publication (valid-rules resolvers publication valid) says tallies slips events))
