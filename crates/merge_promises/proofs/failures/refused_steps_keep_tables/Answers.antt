use Rattle.std.specs.Prelude.{refl}
use Rattle.merge_model.specs.Failing.{fails}
use Rattle.merge_model.specs.History.Model.{model}
use Rattle.merge_model.specs.World.Events.{machine}
use Rattle.merge_model.specs.World.{by_tables}
use Rattle.merge_promises.proofs.RefusedSteps.{asks-keeps, fails-asks, model-keeps}
use Rattle.merge_promises.proofs.failures.refused_steps_keep_tables.Goals as goal

pub returns-clause-machine : goal.returns-clause-machine
returns-clause-machine c publication says f action why is =
    fails-asks publication (machine publication says) (λ w act reason e. c.refusals_change_nothing.ensures.world publication says (by_tables w) w act reason e) (λ w. refl) f action why is

pub returns-clause-model : goal.returns-clause-model
returns-clause-model c publication says f action why is =
    fails-asks publication (model publication says) (λ m act reason e. c.refusals_change_nothing.ensures.history publication says m act reason e) (λ m. refl) f action why is

pub returns-clause-tables : goal.returns-clause-tables
returns-clause-tables c publication says f action why is =
    asks-keeps publication says f.world action (fails publication (machine publication says) f action).0.world (returns-clause-machine c publication says f action why is)

pub returns-clause-history : goal.returns-clause-history
returns-clause-history c publication says f action why is =
    model-keeps publication says f.world action (fails publication (model publication says) f action).0.world (returns-clause-model c publication says f action why is)
