-- The values that changes and decisions give: what stands in the cells that they make, in the version that they leave. With the law that
-- cells of one top have one list of values for good (`ValuesStandForGood` of merge_owed) these are the values of every such cell.
use Rattle.std.specs.List.{AllByRecursion, zip}
use Rattle.std.specs.Prelude.{List, None, Ok, Option, Some, [], drop, filter_map, if◌then◌else◌, length, take, true, ℕ, ◌+◌, ◌∷◌, ◌≡◌, ◌⊎◌}
use Rattle.merge_types.specs.declared.changes.Change.{Change}
use Rattle.merge_types.specs.declared.changes.Change.TheVariants.{Delete, Insert, Update}
use Rattle.merge_types.specs.declared.changes.Setting.{Setting}
use Rattle.merge_types.specs.declared.changes.Tracking.{Tracking}
use Rattle.merge_types.specs.declared.changes.Tracking.TheVariants as tracking
use Rattle.merge_types.specs.declared.identifiers.Dot.{Dot}
use Rattle.merge_types.specs.declared.identifiers.RowId.{RowId}
use Rattle.merge_types.specs.declared.identifiers.SiteId.{SiteId}
use Rattle.merge_types.specs.declared.row_key.RowKey.{RowKey as Key}
use Rattle.merge_types.specs.declared.values.ColumnType.{ColumnType}
use Rattle.merge_types.specs.declared.values.Value.{Value}
use Rattle.merge_types.specs.declared.values.Value.TheVariants.{Null}
use Rattle.merge_units.specs.Cases.{is_conflict}
use Rattle.merge_units.specs.Results.{taken}
use Rattle.merge_units.specs.Version.{cells_of}
use Rattle.merge_units.specs.declared.case.Case.{Case}
use Rattle.merge_units.specs.declared.case.Case.TheVariants as case
use Rattle.merge_units.specs.declared.case.Side.{Side}
use Rattle.merge_units.specs.declared.case.Side.TheVariants as side
use Rattle.merge_units.specs.declared.result.Decision.{Decision}
use Rattle.merge_units.specs.declared.result.Decision.TheVariants.{Custom, KeepPublisher, TakeSubscriber}
use Rattle.merge_units.specs.declared.version.Body.{Body}
use Rattle.merge_units.specs.declared.version.Body.TheVariants.{Dead, Live}
use Rattle.merge_units.specs.declared.version.Cell.{Cell}
use Rattle.merge_units.specs.declared.version.Version.{Version}
use Rattle.merge_ident.specs.Holders.{Holder}
use Rattle.merge_resolve.specs.Questions.{question_asked}
use Rattle.merge_resolve.specs.declared.asking.Question.{Question}
use Rattle.merge_schema.specs.declared.publication.Publication.{Publication}
use Rattle.merge_batch.specs.declared.request.Request.TheVariants as request
use Rattle.merge_batch.specs.declared.request.Upload.{Upload}
use Rattle.merge_model.specs.Judge.{PublisherJudge}
use Rattle.merge_model.specs.Publisher.Acts.{Act, Fate, Met, New, Unknown, acts_of, asked_at, meeting_of}
use Rattle.merge_model.specs.Publisher.PublisherLocal.{Drawn, draw_for_change, next_dot, version_at}
use Rattle.merge_model.specs.Publisher.PublisherUpload.{brings_news}
use Rattle.merge_model.specs.Publisher.{at_moment}
use Rattle.merge_model.specs.Subscriber.{subscriber_drawn, subscriber_next_dot, subscriber_version_at}
use Rattle.merge_model.specs.Tables.Changes.{key_of}
use Rattle.merge_model.specs.Tables.Publications.{identity_column, tracking_at, types_at}
use Rattle.merge_model.specs.Tables.{PublisherTables, SubscriberTables}
use Rattle.merge_model.specs.World.Steps.{Deliver, Make, kept_decisions, step_by, upload_questions}
use Rattle.merge_model.specs.World.{Judges, Saying, World, letter_at, subscriber_at}
use Rattle.merge_model.specs.declared.letter.Message.TheVariants.{Asks}
use Rattle.merge_model.specs.declared.outcome.Outcome.TheVariants.{Made, Posted}
use Rattle.merge_model.specs.declared.outcome.Outcome.{Outcome}

-- What a change names.

-- the value of a column is that of the first setting of the column; where columns ascend there is no other
abbrev pub Names : List Setting → ℕ → Value → Type 0
Names [] column value = ⊥
Names (setting ∷ settings) column value = ((setting.column ≡ column) × (setting.value ≡ value)) ⊎ ((setting.column ≡ column → ⊥) × Names settings column value)

abbrev pub NamesNone : List Setting → ℕ → Type 0
NamesNone settings column = AllByRecursion (λ (setting : Setting). setting.column ≡ column → ⊥) settings

-- a column that is named has the named value behind the change, and each other one what it had
pub record IsAsNamed (settings : List Setting) (column : ℕ) (former value : Value) : Type 0 where
  pub named : (given : Value) → Names settings column given → value ≡ given
  pub others : NamesNone settings column → value ≡ former

-- What an update gives.

-- the values of a row beside those that stood there, from a column on
abbrev pub AreAsNamed : List Setting → ℕ → List Value → List Value → Type 0
AreAsNamed settings column [] [] = Unit {0}
AreAsNamed settings column (former ∷ before) (value ∷ values) = IsAsNamed settings column former value × AreAsNamed settings (column + 1) before values
AreAsNamed settings column before values = ⊥

-- with column tracking the cell of a named column has the named value alone, and the change as its top; each other cell is what it was
pub record IsColumnAfter (dot : Dot) (settings : List Setting) (column : ℕ) (former cell : Cell) : Type 0 where
  pub named : (given : Value) → Names settings column given → (cell.top ≡ dot) × (cell.values ≡ given ∷ [])
  pub others : NamesNone settings column → cell ≡ former
  -- so a cell that has the change as its top, and had not, has the value that the change names
  pub by_top : (former.top ≡ dot → ⊥) → cell.top ≡ dot → (given : Value) × (Names settings column given × (cell.values ≡ given ∷ []))

-- with row tracking the one cell has the change as its top
abbrev pub IsCellAfter : Tracking → Dot → List Setting → ℕ → Cell → Cell → Type 0
IsCellAfter tracking.Row dot settings place former cell = (cell.top ≡ dot) × AreAsNamed settings 0 former.values cell.values
IsCellAfter tracking.ByColumn dot settings place former cell = IsColumnAfter dot settings place former cell

abbrev pub AreCellsAfter : Tracking → Dot → List Setting → ℕ → List Cell → List Cell → Type 0
AreCellsAfter tracking dot settings place [] [] = Unit {0}
AreCellsAfter tracking dot settings place (former ∷ before) (cell ∷ cells) = IsCellAfter tracking dot settings place former cell × AreCellsAfter tracking dot settings (place + 1) before cells
AreCellsAfter tracking dot settings place before cells = ⊥

abbrev pub IsBodyAfter : Tracking → Dot → List Setting → Body → Body → Type 0
IsBodyAfter tracking dot settings (Live before) (Live cells) = AreCellsAfter tracking dot settings 0 before cells
IsBodyAfter tracking dot settings before body = ⊥

-- What an insert gives, which draws an identity value where its article has an identity column.

-- the identity column has the value that was drawn, each other one the named value, or Null
pub record IsNewValue (identity : Option ℕ) (draw : Value) (settings : List Setting) (column : ℕ) (value : Value) : Type 0 where
  pub own : identity ≡ Some column → value ≡ draw
  pub others : (identity ≡ Some column → ⊥) → IsAsNamed settings column Null value

-- with column tracking each column has a cell with its value alone
pub record IsNewCell (dot : Dot) (identity : Option ℕ) (draw : Value) (settings : List Setting) (column : ℕ) (cell : Cell) : Type 0 where
  pub top : cell.top ≡ dot
  pub value : Value
  pub alone : cell.values ≡ value ∷ []
  pub given : IsNewValue identity draw settings column value

abbrev pub AreNewValues : Option ℕ → Value → List Setting → ℕ → List ColumnType → List Value → Type 0
AreNewValues identity draw settings column [] [] = Unit {0}
AreNewValues identity draw settings column (ty ∷ types) (value ∷ values) = IsNewValue identity draw settings column value × AreNewValues identity draw settings (column + 1) types values
AreNewValues identity draw settings column types values = ⊥

abbrev pub AreNewCells : Dot → Option ℕ → Value → List Setting → ℕ → List ColumnType → List Cell → Type 0
AreNewCells dot identity draw settings column [] [] = Unit {0}
AreNewCells dot identity draw settings column (ty ∷ types) (cell ∷ cells) = IsNewCell dot identity draw settings column cell × AreNewCells dot identity draw settings (column + 1) types cells
AreNewCells dot identity draw settings column types cells = ⊥

-- with row tracking the one cell has a value for each column
abbrev pub IsOneNewCell : Dot → Option ℕ → Value → List Setting → List ColumnType → List Cell → Type 0
IsOneNewCell dot identity draw settings types (cell ∷ []) = (cell.top ≡ dot) × AreNewValues identity draw settings 0 types cell.values
IsOneNewCell dot identity draw settings types cells = ⊥

abbrev pub IsNewRow : Tracking → Dot → Option ℕ → Value → List Setting → List ColumnType → List Cell → Type 0
IsNewRow tracking.Row dot identity draw settings types cells = IsOneNewCell dot identity draw settings types cells
IsNewRow tracking.ByColumn dot identity draw settings types cells = AreNewCells dot identity draw settings 0 types cells

abbrev pub IsNewBody : Publication → Dot → Value → ℕ → List Setting → Body → Type 0
IsNewBody publication dot draw article settings (Live cells) = IsNewRow (tracking_at publication article) dot (identity_column publication article) draw settings (types_at publication article) cells
IsNewBody publication dot draw article settings (Dead top) = ⊥

-- What a change gives the version that is held, if any: the version behind it.

abbrev pub Inserts : Publication → Dot → Value → ℕ → List Setting → Option Version → Type 0
Inserts publication dot draw article settings (Some after) = IsNewBody publication dot draw article settings after.body
Inserts publication dot draw article settings None = ⊥

abbrev pub Updates : Tracking → Dot → List Setting → Option Version → Option Version → Type 0
Updates tracking dot settings (Some before) (Some after) = IsBodyAfter tracking dot settings before.body after.body
Updates tracking dot settings held after = ⊥

-- a deleted row has no values
abbrev pub Deletes : Dot → Option Version → Type 0
Deletes dot (Some after) = after.body ≡ Dead dot
Deletes dot None = ⊥

abbrev pub Gives : Publication → Dot → Value → Change → Option Version → Option Version → Type 0
Gives publication dot draw (Insert article settings) held after = Inserts publication dot draw article settings after
Gives publication dot draw (Update article row settings) held after = Updates (tracking_at publication article) dot settings held after
Gives publication dot draw (Delete article row) held after = Deletes dot after

-- of the row that the change makes or names
abbrev pub GivesRow : Publication → Dot → Value → Change → (Key → Option Version) → (Key → Option Version) → Type 0
GivesRow publication dot draw change found after = Gives publication dot draw change (found (key_of dot change)) (after (key_of dot change))

-- A change that a site makes gives its row what it says, with the identity value that it draws. So it is in any world, by whatever is decided.

pub record GivesHere (publication : Publication) (change : Change) (p q : PublisherTables) : Type 0 where
  pub draw : Drawn
  pub draws : draw_for_change publication p change ≡ Ok draw
  pub gives : GivesRow publication (next_dot p) draw.value change (version_at p) (version_at q)

abbrev pub PublisherGives : Type 0
PublisherGives = (publication : Publication) (says : Saying) (judges : Judges) (w : World) (site : SiteId) (change : Change) (row : RowId) → site.0 ≡ 0
    → (let done : World × Outcome = step_by publication says judges w (Make site change) in done.1 ≡ Made row → GivesHere publication change w.publisher done.0.publisher)

pub record GivesThere (publication : Publication) (change : Change) (s : SubscriberTables) (v : World) : Type 0 where
  pub after : SubscriberTables
  pub there : subscriber_at v s.site ≡ Some after
  pub draw : Value × List (ℕ × Holder)
  pub draws : subscriber_drawn s change ≡ Ok draw
  pub gives : GivesRow publication (subscriber_next_dot s) draw.0 change (subscriber_version_at s) (subscriber_version_at after)

abbrev pub SubscribersGive : Type 0
SubscribersGive = (publication : Publication) (says : Saying) (judges : Judges) (w : World) (site : SiteId) (s : SubscriberTables) (change : Change) (row : RowId) → (site.0 ≡ 0 → ⊥) → subscriber_at w site ≡ Some s
    → (let done : World × Outcome = step_by publication says judges w (Make site change) in done.1 ≡ Made row → GivesThere publication change s done.0)

-- What a decision gives.

-- A cell of a merge by its side. Where it conflicts it is the winner's, or has decided values: as many as the publisher's cell, behind those
-- of the conflicting cells before it.
abbrev pub IsDealt : Dot → Decision → ℕ → Side → Cell → Cell → Cell → Type 0
IsDealt dot decision before side.Neither ours theirs cell = cell ≡ ours
IsDealt dot decision before side.Publisher ours theirs cell = cell ≡ ours
IsDealt dot decision before side.Incoming ours theirs cell = cell ≡ theirs
IsDealt dot KeepPublisher before side.Both ours theirs cell = cell ≡ ours
IsDealt dot TakeSubscriber before side.Both ours theirs cell = cell ≡ theirs
IsDealt dot (Custom values) before side.Both ours theirs cell = (cell.top ≡ dot) × (cell.values ≡ take (length ours.values) (drop before values))

-- place by place, as many as both sides have
abbrev pub AreDealt : Dot → Decision → ℕ → List Side → List Cell → List Cell → List Cell → Type 0
AreDealt dot decision before (s ∷ sides) (p ∷ ours) (i ∷ theirs) (cell ∷ cells) = IsDealt dot decision before s p i cell × AreDealt dot decision (before + taken decision s p) sides ours theirs cells
AreDealt dot decision before (s ∷ sides) (p ∷ ours) (i ∷ theirs) [] = ⊥
AreDealt dot decision before sides ours theirs cells = length cells ≡ 0

abbrev pub IsMerged : Dot → Decision → List Side → Body → Body → Body → Type 0
IsMerged dot decision sides ours theirs (Live cells) = AreDealt dot decision 0 sides (cells_of ours) (cells_of theirs) cells
IsMerged dot decision sides ours theirs (Dead top) = ⊥

-- a change against a delete: one of both wins as a whole
abbrev pub IsWinner : Decision → Body → Body → Body → Type 0
IsWinner TakeSubscriber ours theirs body = body ≡ theirs
IsWinner decision ours theirs body = body ≡ ours

abbrev pub IsDecided : Dot → Decision → Case → Body → Body → Body → Type 0
IsDecided dot decision case.Nothing ours theirs body = body ≡ ours
IsDecided dot decision case.Take ours theirs body = body ≡ theirs
IsDecided dot decision case.Unite ours theirs body = body ≡ ours
IsDecided dot decision case.LifeConflict ours theirs body = IsWinner decision ours theirs body
IsDecided dot decision (case.Merge sides) ours theirs body = IsMerged dot decision sides ours theirs body
IsDecided dot decision (case.Conflict sides) ours theirs body = IsMerged dot decision sides ours theirs body

-- What an item that acts leaves of its row: a new row as it came, and of two versions that met what was decided.

abbrev pub MetGives : Version → Version → Case → Decision → Dot → Option Version → Type 0
MetGives held incoming case decision dot (Some after) = IsDecided dot decision case held.body incoming.body after.body
MetGives held incoming case decision dot None = ⊥

abbrev pub FateGives : Version → Fate → Option Version → Type 0
FateGives incoming New after = after ≡ Some incoming
FateGives incoming Unknown after = Unit {0}
FateGives incoming (Met held case decision dot) after = MetGives held incoming case decision dot after

abbrev pub ActGives : Act → Option Version → Type 0
ActGives act after = FateGives act.incoming act.fate after

abbrev pub AllGive : List Act → PublisherTables → Type 0
AllGive acts q = AllByRecursion (λ (act : Act). ActGives act (version_at q act.key)) acts

-- So does each item of an upload that is not refused and brings news, in any world, by whatever is decided.
abbrev pub acts_at : Publication → Saying → PublisherJudge → Upload → World → List Act
acts_at publication says judge m w = acts_of judge m (kept_decisions says w.tallies (upload_questions publication judge w.moment m w.publisher)) (at_moment w.moment w.publisher)

abbrev pub DecisionsGive : Type 0
DecisionsGive = (publication : Publication) (says : Saying) (judges : Judges) (w : World) (number : ℕ) (site : SiteId) (m : Upload) (posted : ℕ) → letter_at w number ≡ Some (record { site = site; message = Asks (request.Upload m) })
    → (let judge : PublisherJudge = judges.publisher number in
    let done : World × Outcome = step_by publication says judges w (Deliver number) in
    done.1 ≡ Posted posted → brings_news judge m ≡ true → AllGive (acts_at publication says judge m w) done.0.publisher)

-- The conflicts of the acts, in order: the question that each one asks, with what decides it.

abbrev pub decided_by : Publication → PublisherJudge → SiteId → PublisherTables → Key → Version → Fate → Option (Question × Decision)
decided_by publication judge site p key incoming New = None
decided_by publication judge site p key incoming Unknown = None
decided_by publication judge site p key incoming (Met held case decision dot) =
    if is_conflict case then Some (question_asked (meeting_of publication judge site p.latest key held incoming) (asked_at publication key.article) held.body incoming.body case, decision) else None

abbrev pub decided_in : Publication → PublisherJudge → SiteId → PublisherTables → Act → Option (Question × Decision)
decided_in publication judge site p act = decided_by publication judge site p act.key act.incoming act.fate

-- Each conflict is decided by what the resolver says that is asked about it, as it counts there.
abbrev pub DecisionsAreAnswers : Type 0
DecisionsAreAnswers = (publication : Publication) (says : Saying) (judge : PublisherJudge) (w : World) (m : Upload)
    → (let questions : List Question = upload_questions publication judge w.moment m w.publisher in
    filter_map (decided_in publication judge m.site (at_moment w.moment w.publisher)) (acts_at publication says judge m w) ≡ zip questions (kept_decisions says w.tallies questions))
