-- What a change or a decision made of a cell is what each version has there that has the change as top, now and later.
use Rattle.std.specs.Prelude.{List, true, ◌≡◌, ◌∷◌}
use Rattle.merge_types.specs.declared.row_key.RowKey.{RowKey as Key}
use Rattle.merge_units.specs.declared.version.Body.{Body}
use Rattle.merge_units.specs.declared.version.Body.TheVariants.{Live}
use Rattle.merge_units.specs.declared.version.Cell.{Cell}
use Rattle.merge_units.specs.declared.version.Version.{Version}
use Rattle.merge_schema.specs.declared.publication.Publication.{Publication}
use Rattle.merge_model.specs.Failing.{Slips}
use Rattle.merge_model.specs.History.{Past}
use Rattle.merge_model.specs.Tables.Keys.{same_key}
use Rattle.merge_model.specs.History.Model.{Model}
use Rattle.merge_model.specs.Failing.Runs.{model_after, model_after_actions}
use Rattle.merge_model.specs.World.Steps.{Action}
use Rattle.merge_model.specs.World.{Saying}
use Rattle.merge_model.specs.declared.event.Event.{Event}
use Rattle.merge_laws.specs.Facts.LineagesStand.{EveryVersion}

-- place by place, cells with one top have the same values
abbrev pub CellsAgree : List Cell → List Cell → Type 0
CellsAgree (one ∷ ours) (other ∷ theirs) = (one.top ≡ other.top → one.values ≡ other.values) × CellsAgree ours theirs
CellsAgree ours theirs = Unit {0}

abbrev pub BodiesAgree : Body → Body → Type 0
BodiesAgree (Live ours) (Live theirs) = CellsAgree ours theirs
BodiesAgree ours theirs = Unit {0}

-- Of each version now, and each version of its row behind whatever happens afterwards: at the sites, in messages and in conflict tables.
abbrev pub ValuesStandForGood : Publication → Saying → Model → Type 0
ValuesStandForGood publication says m = (slips : Slips) (events : List Event)
    → EveryVersion (λ (key : Key) (version : Version) (past : Past). EveryVersion (λ (other : Key) (there : Version) (known : Past). same_key key other ≡ true → BodiesAgree version.body there.body) (model_after publication says m slips events)) m

-- also where single actions come afterwards, in any order
abbrev pub ValuesStandForGoodByActions : Publication → Saying → Model → Type 0
ValuesStandForGoodByActions publication says m = (slips : Slips) (actions : List Action)
    → EveryVersion (λ (key : Key) (version : Version) (past : Past). EveryVersion (λ (other : Key) (there : Version) (known : Past). same_key key other ≡ true → BodiesAgree version.body there.body) (model_after_actions publication says m slips actions)) m
