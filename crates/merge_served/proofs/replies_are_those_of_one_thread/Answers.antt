use Rattle.merge_served.proofs.Told.{told-as-one}
use Rattle.merge_served.proofs.replies_are_those_of_one_thread.Goals as goal

pub returns : goal.returns
returns c = told-as-one
