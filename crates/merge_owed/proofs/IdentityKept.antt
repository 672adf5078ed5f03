-- Every list of events keeps that identity values were taken as their rows were made: the laws on them.
use Rattle.std.specs.Option.{option_and_then, option_map_or}
use Rattle.std.specs.Prelude.{List, None, Option, Some, [], is_some, option_map, refl, slice_get, true, false, ℕ, ℤ, ◌≡◌, ◌∷◌}
use Rattle.std.specs.List.{AllByRecursion}
use Rattle.std.proofs.Common.{ap, arith, inl, inr, subst, sym, ◌∙◌}
use Rattle.merge_types.specs.declared.identifiers.Dot.{Dot}
use Rattle.merge_types.specs.declared.row_key.RowKey.{RowKey as Key}
use Rattle.merge_units.specs.declared.version.Body.{Body}
use Rattle.merge_units.specs.declared.version.Body.TheVariants.{Dead, Live}
use Rattle.merge_units.specs.declared.version.Cell.{Cell}
use Rattle.merge_units.specs.declared.version.Version.{Version}
use Rattle.merge_schema.specs.declared.publication.Article.{Article}
use Rattle.merge_schema.specs.declared.publication.Identity.{Identity}
use Rattle.merge_schema.specs.declared.publication.Publication.{Publication}
use Rattle.merge_schema.specs.Places.{article_at}
use Rattle.merge_batch.specs.Articles.{row_values}
use Rattle.merge_batch.specs.LocalChanges.{identity_column}
use Rattle.merge_batch.specs.Makers.{maker_of}
use Rattle.merge_batch.specs.Uploads.{identity_at, identity_in, identity_value, whole_number}
use Rattle.merge_model.specs.History.{MadeChange, Past}
use Rattle.merge_model.specs.Tables.Keys.{same_key}
use Rattle.merge_model.specs.History.Model.{Model}
use Rattle.merge_model.specs.Failing.Runs.{model_after_actions, model_behind_actions}
use Rattle.merge_model.proofs.Lists.Finding.{some_same}
use Rattle.merge_model.proofs.Lists.KeyLookUps.{keys-same}
use Rattle.merge_laws.specs.Facts.Knowledge.{changes_of, same_dot}
use Rattle.merge_laws.specs.Laws.{OfEveryValidActions, OfEveryValidRun}
use Rattle.merge_laws.proofs.Accounts.AccountElements.{IsIn, all-in, each-in}
use Rattle.merge_laws.proofs.Known.ChangeDots.{AreDistinct, made-distinct}
use Rattle.merge_laws.proofs.Pasts.DotTests.{dot-itself}
use Rattle.merge_laws.proofs.Lineages.LineagesAlways.{Kept, ground}
use Rattle.merge_laws.proofs.Told.ToldSites.{Every}
use Rattle.merge_owed.specs.Identity.{HasIdentity, HasValue, IsMaker, TakenStands, TakenStandsForGood, TakenStandsForGoodByActions, ValueWasTaken, ValuesWereTaken, WasTaken}
use Rattle.merge_owed.proofs.IdentityFits.{BodyTook, TookIts, taken-out, took-goes_on}
use Rattle.merge_owed.proofs.MadeStays.{AreAmong, every-weaker}
use Rattle.merge_owed.proofs.VersionKept.{GoesOn, holds-after, holds-by-actions}
use Rattle.merge_laws.proofs.Runs.OfActions.{of-later-events, of-valid-runs}

-- The value at the identity column is the identity value.

identity-in : (cells : List Cell) (found : Option Identity) (column : ℕ) → option_map (λ (identity : Identity). identity.column) found ≡ Some column → identity_at found (row_values cells) ≡ whole_number (slice_get (row_values cells) column)
identity-in cells None column is = absurd cc
identity-in cells (Some identity) column is = ap (λ (k : ℕ). whole_number (slice_get (row_values cells) k)) (some_same identity.column column is)

value-in : (cells : List Cell) (found : Option Article) (column : ℕ) → option_map (λ (identity : Identity). identity.column) (option_and_then (λ (article : Article). article.identity) found) ≡ Some column
    → option_map_or (identity_in (Live cells)) found None ≡ whole_number (slice_get (row_values cells) column)
value-in cells None column is = absurd cc
value-in cells (Some article) column is = identity-in cells article.identity column is

column-took : (publication : Publication) (made : List MadeChange) (key : Key) (cells : List Cell) (found : Option ℕ) → identity_column publication key.article ≡ found → is_some found ≡ true → BodyTook publication made key (Live cells) → WasTaken made key (identity_value publication key.article (Live cells))
column-took publication made key cells None at some fits = absurd cc
column-took publication made key cells (Some column) at some fits = subst (WasTaken made key) (sym (value-in cells (article_at publication key.article) column at)) (fits.1 column at)

body-taken : (publication : Publication) (made : List MadeChange) (key : Key) (body : Body) → BodyTook publication made key body → ValueWasTaken publication made key body
body-taken publication made key (Live cells) fits = λ has. column-took publication made key cells (identity_column publication key.article) refl has fits
body-taken publication made key (Dead top) fits = tt

pub values-taken-by-actions : OfEveryValidActions ValuesWereTaken
values-taken-by-actions resolvers publication valid says tallies slips actions =
    let m : Model = model_behind_actions publication says tallies slips actions in
    every-weaker (TookIts publication m.history.made) (λ (key : Key) (version : Version) (past : Past). ValueWasTaken publication m.history.made key version.body)
    (λ key version past fits. body-taken publication m.history.made key version.body fits) m.world m.history (holds-by-actions publication (TookIts publication) (took-goes_on resolvers publication valid) says tallies slips actions (resolvers, valid)).1.0

pub values-taken : OfEveryValidRun ValuesWereTaken
values-taken = of-valid-runs ValuesWereTaken values-taken-by-actions

-- A row is made by one change.

distinct-same : (made : List MadeChange) (c d : MadeChange) → AreDistinct made → IsIn c made → IsIn d made → c.dot ≡ d.dot → c ≡ d
distinct-same [] c d distinct one other same = absurd one
distinct-same (x ∷ made) c d distinct (inl first) (inl second) same = sym first ∙ second
distinct-same (x ∷ made) c d distinct (inl first) (inr later) same =
    let apart : same_dot d.dot x.dot ≡ false = all-in (λ (y : MadeChange). same_dot y.dot x.dot ≡ false) made d distinct.0 later in
    let is : d.dot ≡ x.dot = sym same ∙ sym (ap (λ (y : MadeChange). y.dot) first) in
    absurd (let both = ap (λ (dot : Dot). same_dot dot x.dot) is in grind (arith, apart, both, dot-itself x.dot))
distinct-same (x ∷ made) c d distinct (inr later) (inl second) same =
    let apart : same_dot c.dot x.dot ≡ false = all-in (λ (y : MadeChange). same_dot y.dot x.dot ≡ false) made c distinct.0 later in
    let is : c.dot ≡ x.dot = same ∙ sym (ap (λ (y : MadeChange). y.dot) second) in
    absurd (let both = ap (λ (dot : Dot). same_dot dot x.dot) is in grind (arith, apart, both, dot-itself x.dot))
distinct-same (x ∷ made) c d distinct (inr one) (inr other) same = distinct-same made c d distinct.1 one other same

module _ (publication : Publication) (made : List MadeChange) (distinct : AreDistinct made) (change : MadeChange) (is : IsIn change made) (maker : IsMaker change) where
  one-value : (key : Key) (value : Option ℤ) → same_key change.key key ≡ true → WasTaken made key value → value ≡ change.identity
  one-value key value same taken = taken-out (value ≡ change.identity) made key value taken (λ other inside with. (
      let here : change.key ≡ key = keys-same change.key key same in
      let there : Some other.dot ≡ Some change.dot = sym with.maker ∙ ap (λ (k : Key). maker_of k.row.0) (sym here) ∙ maker in
      let one : other ≡ change = distinct-same made other change distinct inside is (some_same other.dot change.dot there) in
      sym with.took ∙ ap (λ (c : MadeChange). c.identity) one))

  body-stands : (key : Key) (body : Body) → HasIdentity publication change.key → ValueWasTaken publication made key body → same_key change.key key ≡ true → HasValue publication change.identity key body
  body-stands key (Live cells) has taken same = one-value key (identity_value publication key.article (Live cells)) same (taken (subst (HasIdentity publication) (keys-same change.key key same) has))
  body-stands key (Dead top) has taken same = tt

stands-in : (publication : Publication) (before : List MadeChange) (n : Model) → Kept publication n → Every (TookIts publication n.history.made) n.world n.history → AreAmong before n.history.made → (change : MadeChange) → IsIn change before → TakenStands publication n change
stands-in publication before n kept every among change is maker has =
    let distinct : AreDistinct n.history.made = made-distinct (changes_of n.world) n.history (ground publication n kept).known.numbered in
    every-weaker (TookIts publication n.history.made) (λ (key : Key) (version : Version) (past : Past). same_key change.key key ≡ true → HasValue publication change.identity key version.body)
    (λ key version past fits same. body-stands publication n.history.made distinct change (among change is) maker key version.body has (body-taken publication n.history.made key version.body fits) same) n.world n.history every

pub taken-stands-by-actions : OfEveryValidActions TakenStandsForGoodByActions
taken-stands-by-actions resolvers publication valid says tallies slips actions others more =
    let m : Model = model_behind_actions publication says tallies slips actions in
    let on : GoesOn publication (TookIts publication) = took-goes_on resolvers publication valid in
    let here = holds-by-actions publication (TookIts publication) on says tallies slips actions (resolvers, valid) in
    let n : Model = model_after_actions publication says m others more in
    let there = holds-after publication (TookIts publication) on m.history.made says m others more (here.0, (here.1.0, λ change is. is)) in
    each-in (TakenStands publication n) m.history.made (stands-in publication m.history.made n there.0 there.1.0 there.1.1)

-- so where events come afterwards
taken-stands-later : OfEveryValidActions TakenStandsForGood
taken-stands-later resolvers publication valid says tallies slips actions others more =
    let m : Model = model_behind_actions publication says tallies slips actions in
    of-later-events publication says m others more (λ (n : Model). AllByRecursion (TakenStands publication n) m.history.made) (taken-stands-by-actions resolvers publication valid says tallies slips actions others)

pub taken-stands : OfEveryValidRun TakenStandsForGood
taken-stands = of-valid-runs TakenStandsForGood taken-stands-later
