use Rattle.merge_actions.proofs.PromisesOfActions.{machine-has-promises, promises-hold}
use Rattle.merge_actions.proofs.promised.promises_hold_of_actions.Goals as goal

pub returns-clause-model : goal.returns-clause-model
returns-clause-model c = promises-hold

pub returns-clause-machine : goal.returns-clause-machine
returns-clause-machine c = machine-has-promises
