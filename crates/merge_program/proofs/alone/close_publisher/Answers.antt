-- The faults of the keeper that is given back are the site's.
use Rattle.merge_program.proofs.Sites.{publisher-few}
use Rattle.merge_program.proofs.alone.close_publisher.Goals as goal

pub returns-clause-few : goal.returns-clause-few
returns-clause-few g c = publisher-few _ c.args.sites.subscribers.items c.requires.alone _ c.into_keeper.ensures.faults _ _ c.keeper_back.ensures.counts
