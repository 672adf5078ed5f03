-- The first event of those that are left, or none is left.
use Rattle.std.proofs.Common.{arith, sym}
use Rattle.std.proofs.lemmas.Option.{slice_get_within}
use Rattle.merge_make.specs.Script.{script}
use Rattle.merge_make.specs.Steps.{event_of}
use Rattle.merge_make.proofs.Parts.{few-events, less-left, next-left, nothing-left}
use Rattle.merge_make.proofs.script.ScriptIterator.next.Goals as goal

pub overflow_add-self : goal.overflow_add-self
overflow_add-self c =
    let within = slice_get_within (script c.args.self.now.customers) c.args.self.now.place (event_of c.in-Some.step) (sym c.in-Some.ensures) in
    let few = few-events c.args.self.now.customers c.fits-self.0.1 in omega (arith, within, few)

pub returns-in-Some-clause-steps : goal.returns-in-Some-clause-steps
returns-in-Some-clause-steps c = next-left (script c.args.self.now.customers) c.args.self.now.place (event_of c.in-Some.step) c.in-Some.ensures

pub returns-in-Some-clause-goes : goal.returns-in-Some-clause-goes
returns-in-Some-clause-goes c = record { on = λ finite. (tt, finite, less-left (script c.args.self.now.customers) c.args.self.now.place (event_of c.in-Some.step) c.in-Some.ensures); keeps = tt; rests = λ finite. tt }

pub returns-in-None-clause-steps : goal.returns-in-None-clause-steps
returns-in-None-clause-steps c = let none = nothing-left (script c.args.self.now.customers) c.args.self.now.place c.in-None.ensures in (none, none)
