-- The identity value that an insert took is that of its row, wherever a version of the row lives, and for good.
use Rattle.std.specs.List.{AllByRecursion}
use Rattle.std.specs.Prelude.{List, Option, Some, [], is_some, true, ◌≡◌, ◌⊎◌, ◌∷◌, ℤ}
use Rattle.merge_types.specs.declared.row_key.RowKey.{RowKey as Key}
use Rattle.merge_units.specs.declared.version.Body.{Body}
use Rattle.merge_units.specs.declared.version.Body.TheVariants.{Dead, Live}
use Rattle.merge_units.specs.declared.version.Version.{Version}
use Rattle.merge_schema.specs.declared.publication.Publication.{Publication}
use Rattle.merge_batch.specs.LocalChanges.{identity_column}
use Rattle.merge_batch.specs.Makers.{maker_of}
use Rattle.merge_batch.specs.Uploads.{identity_value}
use Rattle.merge_model.specs.Failing.{Slips}
use Rattle.merge_model.specs.History.{MadeChange, Past}
use Rattle.merge_model.specs.Tables.Keys.{same_key}
use Rattle.merge_model.specs.History.Model.{Model}
use Rattle.merge_model.specs.Failing.Runs.{model_after, model_after_actions}
use Rattle.merge_model.specs.World.Steps.{Action}
use Rattle.merge_model.specs.World.{Saying}
use Rattle.merge_model.specs.declared.event.Event.{Event}
use Rattle.merge_laws.specs.Facts.LineagesStand.{EveryVersion}

-- the rows of the article have an identity value
abbrev pub HasIdentity : Publication → Key → Type 0
HasIdentity publication key = is_some (identity_column publication key.article) ≡ true

-- the change made the row: the row's identifier carries it
abbrev pub IsMaker : MadeChange → Type 0
IsMaker change = maker_of change.key.row.0 ≡ Some change.dot

-- a live version has this identity value. Of a deleted row nothing is said
abbrev pub HasValue : Publication → Option ℤ → Key → Body → Type 0
HasValue publication value key (Live cells) = identity_value publication key.article (Live cells) ≡ value
HasValue publication value key (Dead top) = Unit {0}

-- The value that the change took which made a row is that of each live version of the row: at every site, in every message that
-- is on its way, comes late or never, and in every conflict table.
abbrev pub TakenStands : Publication → Model → MadeChange → Type 0
TakenStands publication m change = IsMaker change → HasIdentity publication change.key
    → EveryVersion (λ (key : Key) (version : Version) (past : Past). same_key change.key key ≡ true → HasValue publication change.identity key version.body) m

-- So it is for good, whatever happens afterwards.
abbrev pub TakenStandsForGood : Publication → Saying → Model → Type 0
TakenStandsForGood publication says m = (slips : Slips) (events : List Event) → AllByRecursion (TakenStands publication (model_after publication says m slips events)) m.history.made

-- also where single actions come afterwards, in any order
abbrev pub TakenStandsForGoodByActions : Publication → Saying → Model → Type 0
TakenStandsForGoodByActions publication says m = (slips : Slips) (actions : List Action) → AllByRecursion (TakenStands publication (model_after_actions publication says m slips actions)) m.history.made

-- And each live version has a value that was taken so: one of the changes made its row, with this value.
pub record MadeWith (key : Key) (value : Option ℤ) (change : MadeChange) : Type 0 where
  pub same : same_key change.key key ≡ true
  pub maker : maker_of key.row.0 ≡ Some change.dot
  pub took : change.identity ≡ value

abbrev pub WasTaken : List MadeChange → Key → Option ℤ → Type 0
WasTaken [] key value = ⊥
WasTaken (change ∷ made) key value = MadeWith key value change ⊎ WasTaken made key value

abbrev pub ValueWasTaken : Publication → List MadeChange → Key → Body → Type 0
ValueWasTaken publication made key (Live cells) = HasIdentity publication key → WasTaken made key (identity_value publication key.article (Live cells))
ValueWasTaken publication made key (Dead top) = Unit {0}

abbrev pub ValuesWereTaken : Publication → Saying → Model → Type 0
ValuesWereTaken publication says m = EveryVersion (λ (key : Key) (version : Version) (past : Past). ValueWasTaken publication m.history.made key version.body) m
