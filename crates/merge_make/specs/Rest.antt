-- What is left of a script.
use Rattle.std.specs.Prelude.{List, drop}
use Rattle.merge_model.specs.declared.event.Event.{Event}
use Rattle.merge_make.specs.Script.{script}
use Rattle.merge_make.specs.declared.script.Script.{Script}

abbrev pub rest : Script → List Event
rest left = drop left.place (script left.customers)
