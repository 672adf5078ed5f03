use Rattle.merge_keeper.proofs.FollowAll.{publisher_follows, subscriber_follows}
use Rattle.merge_keeper.proofs.laws.edits_follow.Goals as goal

pub returns-clause-publisher : goal.returns-clause-publisher
returns-clause-publisher c = publisher_follows

pub returns-clause-subscriber : goal.returns-clause-subscriber
returns-clause-subscriber c = subscriber_follows
