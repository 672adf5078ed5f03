use Rattle.merge_served.proofs.Days.{journals-have-promises}
use Rattle.merge_served.proofs.served_journals_have_promises.Goals as goal

pub returns : goal.returns
returns c = journals-have-promises
