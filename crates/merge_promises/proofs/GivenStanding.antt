-- What a change gave stands, since cells of one top have one list of values for good.
use Rattle.std.specs.Prelude.{List, None, Option, Some, [], true, ℕ, ◌+◌, ◌∷◌, ◌≡◌}
use Rattle.std.proofs.Common.{subst, sym, ◌∙◌}
use Rattle.merge_types.specs.declared.changes.Change.{Change}
use Rattle.merge_types.specs.declared.changes.Change.TheVariants.{Delete, Insert, Update}
use Rattle.merge_types.specs.declared.changes.Setting.{Setting}
use Rattle.merge_types.specs.declared.changes.Tracking.{Tracking}
use Rattle.merge_types.specs.declared.changes.Tracking.TheVariants as tracking
use Rattle.merge_types.specs.declared.identifiers.Dot.{Dot}
use Rattle.merge_types.specs.declared.row_key.RowKey.{RowKey as Key}
use Rattle.merge_types.specs.declared.values.ColumnType.{ColumnType}
use Rattle.merge_types.specs.declared.values.Value.{Value}
use Rattle.merge_units.specs.declared.site_row.PublisherRow.{PublisherRow}
use Rattle.merge_units.specs.declared.site_row.SubscriberRow.{SubscriberRow}
use Rattle.merge_units.specs.declared.version.Body.{Body}
use Rattle.merge_units.specs.declared.version.Body.TheVariants.{Dead, Live}
use Rattle.merge_units.specs.declared.version.Cell.{Cell}
use Rattle.merge_units.specs.declared.version.Version.{Version}
use Rattle.merge_schema.specs.declared.publication.Publication.{Publication}
use Rattle.merge_model.specs.Failing.{Slips}
use Rattle.merge_model.specs.Failing.Runs.{model_after_actions, model_behind_actions}
use Rattle.merge_model.specs.History.{Past, past_at}
use Rattle.merge_model.specs.History.Model.{Model, model_step}
use Rattle.merge_model.specs.Judge.ByHistory.{by_history}
use Rattle.merge_model.specs.Publisher.PublisherLocal.{next_dot, version_at}
use Rattle.merge_model.specs.Subscriber.{subscriber_next_dot, subscriber_version_at}
use Rattle.merge_model.specs.Tables.Changes.{key_of}
use Rattle.merge_model.specs.Tables.Keys.{same_key}
use Rattle.merge_model.specs.Tables.Publications.{identity_column, tracking_at, types_at}
use Rattle.merge_model.specs.World.Steps.{Action, Make}
use Rattle.merge_model.specs.World.{Saying}
use Rattle.merge_laws.specs.Facts.LineagesStand.{EveryVersion}
use Rattle.merge_laws.specs.Laws.{OfEveryValidActions}
use Rattle.merge_laws.proofs.Told.ToldRows.{HeldFits, rows-found}
use Rattle.merge_owed.specs.Values.{BodiesAgree, CellsAgree, ValuesStandForGoodByActions}
use Rattle.merge_owed.proofs.MadeStays.{every-weaker}
use Rattle.merge_promises.proofs.GivenChanges.{publisher-gives, subscribers-give}
use Rattle.merge_promises.proofs.RunsGoOn.{holds-later}
use Rattle.merge_promises.specs.Given.{AreAsNamed, AreCellsAfter, AreNewCells, AreNewValues, Gives, GivesHere, GivesThere, IsBodyAfter, IsCellAfter, IsNewBody, IsNewRow, IsOneNewCell}
use Rattle.merge_promises.specs.GivenForGood.{BodyStands, CellStands, CellsStand, ChangeStands, GivenStands, GivenStandsHere, GivenStandsThere, InsertStands, NewCellsStand, NewRowStands, OneNewCellStands}

-- An update.

cell-stands : (tr : Tracking) (dot : Dot) (settings : List Setting) (place : ℕ) (former cell there : Cell) → IsCellAfter tr dot settings place former cell → (cell.top ≡ there.top → cell.values ≡ there.values) → CellStands tr dot settings place former there
cell-stands tracking.Row dot settings place former cell there after agree = λ top. subst (λ (values : List Value). AreAsNamed settings 0 former.values values) (agree (after.0 ∙ sym top)) after.1
cell-stands tracking.ByColumn dot settings place former cell there after agree = λ given names top. (let made = after.named given names in sym (agree (made.0 ∙ sym top)) ∙ made.1)

cells-stand : (tr : Tracking) (dot : Dot) (settings : List Setting) (place : ℕ) (before cells there : List Cell) → AreCellsAfter tr dot settings place before cells → CellsAgree cells there → CellsStand tr dot settings place before there
cells-stand tr dot settings place [] cells there after agree = tt
cells-stand tr dot settings place (former ∷ before) [] there after agree = absurd after
cells-stand tr dot settings place (former ∷ before) (cell ∷ cells) [] after agree = tt
cells-stand tr dot settings place (former ∷ before) (cell ∷ cells) (other ∷ there) after agree = (
  cell-stands tr dot settings place former cell other after.0 agree.0,
  cells-stand tr dot settings (place + 1) before cells there after.1 agree.1,
)

body-stands : (tr : Tracking) (dot : Dot) (settings : List Setting) (before body there : Body) → IsBodyAfter tr dot settings before body → BodiesAgree body there → BodyStands tr dot settings before there
body-stands tr dot settings (Live before) (Live cells) (Live there) after agree = cells-stand tr dot settings 0 before cells there after agree
body-stands tr dot settings (Live before) (Live cells) (Dead top) after agree = tt
body-stands tr dot settings (Live before) (Dead top) there after agree = absurd after
body-stands tr dot settings (Dead top) body there after agree = absurd after

-- An insert.

module _ (dot : Dot) (identity : Option ℕ) (draw : Value) (settings : List Setting) where
  new-cells-stand : (column : ℕ) (types : List ColumnType) (cells there : List Cell) → AreNewCells dot identity draw settings column types cells → CellsAgree cells there → NewCellsStand dot identity draw settings column types there
  new-cells-stand column [] cells there new agree = tt
  new-cells-stand column (ty ∷ types) [] there new agree = absurd new
  new-cells-stand column (ty ∷ types) (cell ∷ cells) [] new agree = tt
  new-cells-stand column (ty ∷ types) (cell ∷ cells) (other ∷ there) new agree = (
    (λ top. record { value = new.0.value; alone = sym (agree.0 (new.0.top ∙ sym top)) ∙ new.0.alone; given = new.0.given }),
    new-cells-stand (column + 1) types cells there new.1 agree.1,
  )

  one-cell-stands : (types : List ColumnType) (cells there : List Cell) → IsOneNewCell dot identity draw settings types cells → CellsAgree cells there → OneNewCellStands dot identity draw settings types there
  one-cell-stands types [] there new agree = absurd new
  one-cell-stands types (cell ∷ []) [] new agree = tt
  one-cell-stands types (cell ∷ []) (other ∷ there) new agree = λ top. subst (λ (values : List Value). AreNewValues identity draw settings 0 types values) (agree.0 (new.0 ∙ sym top)) new.1
  one-cell-stands types (cell ∷ next ∷ cells) there new agree = absurd new

  new-row-stands : (tr : Tracking) (types : List ColumnType) (cells there : List Cell) → IsNewRow tr dot identity draw settings types cells → CellsAgree cells there → NewRowStands tr dot identity draw settings types there
  new-row-stands tracking.Row types cells there new agree = one-cell-stands types cells there new agree
  new-row-stands tracking.ByColumn types cells there new agree = new-cells-stand 0 types cells there new agree

insert-stands : (publication : Publication) (dot : Dot) (draw : Value) (article : ℕ) (settings : List Setting) (body there : Body) → IsNewBody publication dot draw article settings body → BodiesAgree body there → InsertStands publication dot draw article settings there
insert-stands publication dot draw article settings (Live cells) (Live there) new agree = new-row-stands dot (identity_column publication article) draw settings (tracking_at publication article) (types_at publication article) cells there new agree
insert-stands publication dot draw article settings (Live cells) (Dead top) new agree = tt
insert-stands publication dot draw article settings (Dead top) there new agree = absurd new

-- A change.

given-stands : (publication : Publication) (dot : Dot) (draw : Value) (change : Change) (held : Option Version) (version : Version) (there : Body) → Gives publication dot draw change held (Some version) → BodiesAgree version.body there → GivenStands publication dot draw change held there
given-stands publication dot draw (Insert article settings) held version there gives agree = insert-stands publication dot draw article settings version.body there gives agree
given-stands publication dot draw (Update article row settings) None version there gives agree = tt
given-stands publication dot draw (Update article row settings) (Some before) version there gives agree = body-stands (tracking_at publication article) dot settings before.body version.body there gives agree
given-stands publication dot draw (Delete article row) held version there gives agree = tt

none-gives : (publication : Publication) (dot : Dot) (draw : Value) (change : Change) (held : Option Version) → Gives publication dot draw change held None → ⊥
none-gives publication dot draw (Insert article settings) held gives = gives
none-gives publication dot draw (Update article row settings) None gives = gives
none-gives publication dot draw (Update article row settings) (Some before) gives = gives
none-gives publication dot draw (Delete article row) held gives = gives

-- each version of a row behind has what a version now has of the same tops
abbrev pub Agrees : Model → Key → Version → Past → Type 0
Agrees later key version past = EveryVersion (λ (other : Key) (there : Version) (known : Past). same_key key other ≡ true → BodiesAgree version.body there.body) later

found-stands : (publication : Publication) (dot : Dot) (draw : Value) (change : Change) (held found : Option Version) (past : Past) (later : Model) → Gives publication dot draw change held found → HeldFits (Agrees later) (key_of dot change) found past
    → ChangeStands publication dot draw change held later
found-stands publication dot draw change held None past later gives fits = absurd (none-gives publication dot draw change held gives)
found-stands publication dot draw change held (Some version) past later gives fits =
    every-weaker (λ (other : Key) (there : Version) (known : Past). same_key (key_of dot change) other ≡ true → BodiesAgree version.body there.body)
    (λ (other : Key) (there : Version) (known : Past). same_key (key_of dot change) other ≡ true → GivenStands publication dot draw change held there.body)
    (λ other there known agree same. given-stands publication dot draw change held version there.body gives (agree same)) later.world later.history fits

module _ (publication : Publication) (says : Saying) (m : Model) (values : (others : Slips) (more : List Action) → ValuesStandForGoodByActions publication says (model_after_actions publication says m others more)) where
  stands-here : GivenStandsHere publication says m
  stands-here site change row own made =
      let n : Model = (model_step publication says m (Make site change)).0 in
      let key : Key = key_of (next_dot m.world.publisher) change in
      let g : GivesHere publication change m.world.publisher n.world.publisher = publisher-gives publication says (by_history m.history) m.world site change row own made in
      record {
        draw = g.draw;
        draws = g.draws;
        stands = λ slips actions. (let later : Model = model_after_actions publication says n slips actions in
            found-stands publication (next_dot m.world.publisher) g.draw.value change (version_at m.world.publisher key) (version_at n.world.publisher key) (past_at n.history 0 key) later g.gives
            (rows-found (λ (r : PublisherRow). r.version) (Agrees later) (past_at n.history 0) n.world.publisher.rows (values [] (Make site change ∷ []) slips actions).publisher key));
      }

  stands-there : GivenStandsThere publication says m
  stands-there site s change row other at made =
      let n : Model = (model_step publication says m (Make site change)).0 in
      let key : Key = key_of (subscriber_next_dot s) change in
      let g : GivesThere publication change s n.world = subscribers-give publication says (by_history m.history) m.world site s change row other at made in
      record {
        draw = g.draw;
        draws = g.draws;
        stands = λ slips actions. (let later : Model = model_after_actions publication says n slips actions in
            found-stands publication (subscriber_next_dot s) g.draw.0 change (subscriber_version_at s key) (subscriber_version_at g.after key) (past_at n.history s.site.0 key) later g.gives
            (rows-found (λ (r : SubscriberRow). r.version) (Agrees later) (past_at n.history s.site.0) g.after.rows ((values [] (Make site change ∷ []) slips actions).subscribers s.site.0 g.after g.there) key));
      }

pub given-here : OfEveryValidActions ValuesStandForGoodByActions → OfEveryValidActions GivenStandsHere
given-here law resolvers publication valid says tallies slips actions =
    stands-here publication says (model_behind_actions publication says tallies slips actions) (holds-later ValuesStandForGoodByActions law resolvers publication valid says tallies slips actions)

pub given-there : OfEveryValidActions ValuesStandForGoodByActions → OfEveryValidActions GivenStandsThere
given-there law resolvers publication valid says tallies slips actions =
    stands-there publication says (model_behind_actions publication says tallies slips actions) (holds-later ValuesStandForGoodByActions law resolvers publication valid says tallies slips actions)
