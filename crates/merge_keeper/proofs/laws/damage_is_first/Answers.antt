use Rattle.merge_keeper.specs.PublisherStart.{loading_of_publisher as publisher_loading}
use Rattle.merge_keeper.specs.SubscriberStart.{loading_of_subscriber as subscriber_loading}
use Rattle.merge_keeper.proofs.First.{first_is_named, named_is_first}
use Rattle.merge_keeper.proofs.laws.damage_is_first.Goals as goal

pub returns-clause-publisher : goal.returns-clause-publisher
returns-clause-publisher c p owns es t key = (first_is_named (publisher_loading p owns) es t key, named_is_first (publisher_loading p owns) es t key)

pub returns-clause-subscriber : goal.returns-clause-subscriber
returns-clause-subscriber c p es t key = (first_is_named (subscriber_loading p) es t key, named_is_first (subscriber_loading p) es t key)
