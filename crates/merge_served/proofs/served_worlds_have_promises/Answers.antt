use Rattle.merge_served.proofs.Days.{served-have-promises}
use Rattle.merge_served.proofs.served_worlds_have_promises.Goals as goal

pub returns : goal.returns
returns c = served-have-promises
