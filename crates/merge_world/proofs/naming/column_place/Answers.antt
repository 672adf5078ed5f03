use Rattle.merge_world.proofs.Namings.{column-found, column-unfound}
use Rattle.merge_world.proofs.naming.column_place.Goals as goal

pub returns-in_ok-as_byte-in-Some : goal.returns-in_ok-as_byte-in-Some
returns-in_ok-as_byte-in-Some c = column-found c.args.columns.now c.args.name.now c.in-Some.place c.in_ok-as_byte-in-Some.field-0 c.in-Some.ensures c.in_ok-as_byte-in-Some.ensures

pub returns-in-None : goal.returns-in-None
returns-in-None c = column-unfound c.args.columns.now c.args.name.now c.in-None.ensures
