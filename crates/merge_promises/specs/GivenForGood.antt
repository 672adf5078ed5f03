-- What a change or a decision gave stands for good: in each version of its row behind whatever happens afterwards, a cell that it set, and that
-- has it as top, has the values that it gave.
use Rattle.std.specs.List.{AllByRecursion}
use Rattle.std.specs.Prelude.{List, None, Ok, Option, Some, [], drop, length, take, true, ℕ, ◌+◌, ◌∷◌, ◌≡◌}
use Rattle.merge_types.specs.declared.changes.Change.{Change}
use Rattle.merge_types.specs.declared.changes.Change.TheVariants.{Delete, Insert, Update}
use Rattle.merge_types.specs.declared.changes.Setting.{Setting}
use Rattle.merge_types.specs.declared.changes.Tracking.{Tracking}
use Rattle.merge_types.specs.declared.changes.Tracking.TheVariants as tracking
use Rattle.merge_types.specs.declared.identifiers.Dot.{Dot}
use Rattle.merge_types.specs.declared.identifiers.RowId.{RowId}
use Rattle.merge_types.specs.declared.identifiers.SiteId.{SiteId}
use Rattle.merge_types.specs.declared.row_key.RowKey.{RowKey as Key}
use Rattle.merge_types.specs.declared.values.ColumnType.{ColumnType}
use Rattle.merge_types.specs.declared.values.Value.{Value}
use Rattle.merge_units.specs.Results.{taken}
use Rattle.merge_units.specs.Version.{cells_of}
use Rattle.merge_units.specs.declared.case.Case.{Case}
use Rattle.merge_units.specs.declared.case.Case.TheVariants as case
use Rattle.merge_units.specs.declared.case.Side.{Side}
use Rattle.merge_units.specs.declared.case.Side.TheVariants as side
use Rattle.merge_units.specs.declared.result.Decision.{Decision}
use Rattle.merge_units.specs.declared.result.Decision.TheVariants.{Custom}
use Rattle.merge_units.specs.declared.version.Body.{Body}
use Rattle.merge_units.specs.declared.version.Body.TheVariants.{Dead, Live}
use Rattle.merge_units.specs.declared.version.Cell.{Cell}
use Rattle.merge_units.specs.declared.version.Version.{Version}
use Rattle.merge_ident.specs.Holders.{Holder}
use Rattle.merge_schema.specs.declared.publication.Publication.{Publication}
use Rattle.merge_batch.specs.declared.request.Upload.{Upload}
use Rattle.merge_model.specs.Failing.{Slips}
use Rattle.merge_model.specs.Failing.Runs.{model_after_actions}
use Rattle.merge_model.specs.History.{Past}
use Rattle.merge_model.specs.History.Model.{Model, model_step}
use Rattle.merge_model.specs.Judge.ByHistory.{by_history}
use Rattle.merge_model.specs.Judge.{PublisherJudge}
use Rattle.merge_model.specs.Publisher.Acts.{Act, Fate, Met}
use Rattle.merge_model.specs.Publisher.PublisherLocal.{Drawn, draw_for_change, next_dot, version_at}
use Rattle.merge_model.specs.Publisher.PublisherUpload.{brings_news}
use Rattle.merge_model.specs.Subscriber.{subscriber_drawn, subscriber_next_dot, subscriber_version_at}
use Rattle.merge_model.specs.Tables.Changes.{key_of}
use Rattle.merge_model.specs.Tables.Keys.{same_key}
use Rattle.merge_model.specs.Tables.Publications.{identity_column, tracking_at, types_at}
use Rattle.merge_model.specs.Tables.{PublisherTables, SubscriberTables}
use Rattle.merge_model.specs.World.Steps.{Action, Deliver, Make}
use Rattle.merge_model.specs.World.{Saying, subscriber_at}
use Rattle.merge_model.specs.declared.outcome.Outcome.TheVariants.{Made, Posted}
use Rattle.merge_model.specs.declared.outcome.Outcome.{Outcome}
use Rattle.merge_laws.specs.Facts.LineagesStand.{EveryVersion}
use Rattle.merge_laws.specs.Laws.ActsOnce.{IsUpload}
use Rattle.merge_promises.specs.Given.{AreAsNamed, AreNewValues, IsNewValue, Names, acts_at}

-- Of an update, beside the cells that it found.

abbrev pub CellStands : Tracking → Dot → List Setting → ℕ → Cell → Cell → Type 0
CellStands tracking.Row dot settings place former there = there.top ≡ dot → AreAsNamed settings 0 former.values there.values
CellStands tracking.ByColumn dot settings place former there = (given : Value) → Names settings place given → there.top ≡ dot → there.values ≡ given ∷ []

abbrev pub CellsStand : Tracking → Dot → List Setting → ℕ → List Cell → List Cell → Type 0
CellsStand tracking dot settings place (former ∷ before) (there ∷ cells) = CellStands tracking dot settings place former there × CellsStand tracking dot settings (place + 1) before cells
CellsStand tracking dot settings place before cells = Unit {0}

abbrev pub BodyStands : Tracking → Dot → List Setting → Body → Body → Type 0
BodyStands tracking dot settings before (Live cells) = CellsStand tracking dot settings 0 (cells_of before) cells
BodyStands tracking dot settings before (Dead top) = Unit {0}

abbrev pub UpdateStands : Tracking → Dot → List Setting → Option Version → Body → Type 0
UpdateStands tracking dot settings (Some before) there = BodyStands tracking dot settings before.body there
UpdateStands tracking dot settings None there = Unit {0}

-- Of an insert.

pub record NewCellStands (identity : Option ℕ) (draw : Value) (settings : List Setting) (column : ℕ) (there : Cell) : Type 0 where
  pub value : Value
  pub alone : there.values ≡ value ∷ []
  pub given : IsNewValue identity draw settings column value

abbrev pub NewCellsStand : Dot → Option ℕ → Value → List Setting → ℕ → List ColumnType → List Cell → Type 0
NewCellsStand dot identity draw settings column (ty ∷ types) (there ∷ cells) = (there.top ≡ dot → NewCellStands identity draw settings column there) × NewCellsStand dot identity draw settings (column + 1) types cells
NewCellsStand dot identity draw settings column types cells = Unit {0}

abbrev pub OneNewCellStands : Dot → Option ℕ → Value → List Setting → List ColumnType → List Cell → Type 0
OneNewCellStands dot identity draw settings types (there ∷ cells) = there.top ≡ dot → AreNewValues identity draw settings 0 types there.values
OneNewCellStands dot identity draw settings types [] = Unit {0}

abbrev pub NewRowStands : Tracking → Dot → Option ℕ → Value → List Setting → List ColumnType → List Cell → Type 0
NewRowStands tracking.Row dot identity draw settings types cells = OneNewCellStands dot identity draw settings types cells
NewRowStands tracking.ByColumn dot identity draw settings types cells = NewCellsStand dot identity draw settings 0 types cells

abbrev pub InsertStands : Publication → Dot → Value → ℕ → List Setting → Body → Type 0
InsertStands publication dot draw article settings (Live cells) = NewRowStands (tracking_at publication article) dot (identity_column publication article) draw settings (types_at publication article) cells
InsertStands publication dot draw article settings (Dead top) = Unit {0}

-- a delete gives no values
abbrev pub GivenStands : Publication → Dot → Value → Change → Option Version → Body → Type 0
GivenStands publication dot draw (Insert article settings) held there = InsertStands publication dot draw article settings there
GivenStands publication dot draw (Update article row settings) held there = UpdateStands (tracking_at publication article) dot settings held there
GivenStands publication dot draw (Delete article row) held there = Unit {0}

-- In each version of the row: at the sites, in messages and in conflict tables.
abbrev pub ChangeStands : Publication → Dot → Value → Change → Option Version → Model → Type 0
ChangeStands publication dot draw change held later = EveryVersion (λ (key : Key) (there : Version) (past : Past). same_key (key_of dot change) key ≡ true → GivenStands publication dot draw change held there.body) later

-- So it is of a change that the publisher makes, and of one that a subscriber makes.

pub record StandsHere (publication : Publication) (says : Saying) (change : Change) (p : PublisherTables) (n : Model) : Type 0 where
  pub draw : Drawn
  pub draws : draw_for_change publication p change ≡ Ok draw
  pub stands : (slips : Slips) (actions : List Action) → ChangeStands publication (next_dot p) draw.value change (version_at p (key_of (next_dot p) change)) (model_after_actions publication says n slips actions)

abbrev pub GivenStandsHere : Publication → Saying → Model → Type 0
GivenStandsHere publication says m = (site : SiteId) (change : Change) (row : RowId) → site.0 ≡ 0
    → (let done : Model × Outcome = model_step publication says m (Make site change) in done.1 ≡ Made row → StandsHere publication says change m.world.publisher done.0)

pub record StandsThere (publication : Publication) (says : Saying) (change : Change) (s : SubscriberTables) (n : Model) : Type 0 where
  pub draw : Value × List (ℕ × Holder)
  pub draws : subscriber_drawn s change ≡ Ok draw
  pub stands : (slips : Slips) (actions : List Action) → ChangeStands publication (subscriber_next_dot s) draw.0 change (subscriber_version_at s (key_of (subscriber_next_dot s) change)) (model_after_actions publication says n slips actions)

abbrev pub GivenStandsThere : Publication → Saying → Model → Type 0
GivenStandsThere publication says m = (site : SiteId) (s : SubscriberTables) (change : Change) (row : RowId) → (site.0 ≡ 0 → ⊥) → subscriber_at m.world site ≡ Some s
    → (let done : Model × Outcome = model_step publication says m (Make site change) in done.1 ≡ Made row → StandsThere publication says change s done.0)

-- Of decided values, dealt out to the cells that conflict.

abbrev pub DealtStand : Dot → List Value → ℕ → List Side → List Cell → List Cell → List Cell → Type 0
DealtStand dot values before (s ∷ sides) (p ∷ ours) (i ∷ theirs) (there ∷ cells) =
    (s ≡ side.Both → there.top ≡ dot → there.values ≡ take (length p.values) (drop before values)) × DealtStand dot values (before + taken (Custom values) s p) sides ours theirs cells
DealtStand dot values before sides ours theirs cells = Unit {0}

abbrev pub DecidedStands : Dot → Decision → Case → Body → Body → Body → Type 0
DecidedStands dot (Custom values) (case.Conflict sides) ours theirs (Live cells) = DealtStand dot values 0 sides (cells_of ours) (cells_of theirs) cells
DecidedStands dot decision case ours theirs there = Unit {0}

abbrev pub FateStands : Key → Version → Fate → Model → Type 0
FateStands key incoming (Met held case decision dot) later =
    EveryVersion (λ (other : Key) (there : Version) (past : Past). same_key key other ≡ true → DecidedStands dot decision case held.body incoming.body there.body) later
FateStands key incoming fate later = Unit {0}

abbrev pub ActStands : Model → Act → Type 0
ActStands later act = FateStands act.key act.incoming act.fate later

-- So it is of each item of an upload that is not refused and brings news.
abbrev pub DecisionsStand : Publication → Saying → Model → Type 0
DecisionsStand publication says m = (number : ℕ) (site : SiteId) (u : Upload) (posted : ℕ) → IsUpload m number site u
    → (let judge : PublisherJudge = (by_history m.history).publisher number in
    let done : Model × Outcome = model_step publication says m (Deliver number) in
    done.1 ≡ Posted posted → brings_news judge u ≡ true → (slips : Slips) (actions : List Action) → AllByRecursion (ActStands (model_after_actions publication says done.0 slips actions)) (acts_at publication says judge u m.world))
