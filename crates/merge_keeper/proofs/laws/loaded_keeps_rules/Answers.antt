use Rattle.merge_keeper.proofs.PublisherBack as publisher
use Rattle.merge_keeper.proofs.SubscriberBack as subscriber
use Rattle.merge_keeper.proofs.laws.loaded_keeps_rules.Goals as goal

pub returns-clause-subscriber : goal.returns-clause-subscriber
returns-clause-subscriber c = subscriber.loaded_keeps

pub returns-clause-subscriber_order : goal.returns-clause-subscriber_order
returns-clause-subscriber_order c = subscriber.loaded_ordered

pub returns-clause-subscriber_site : goal.returns-clause-subscriber_site
returns-clause-subscriber_site c = subscriber.loaded_articles

pub returns-clause-publisher : goal.returns-clause-publisher
returns-clause-publisher c = publisher.loaded_keeps

pub returns-clause-publisher_order : goal.returns-clause-publisher_order
returns-clause-publisher_order c = publisher.loaded_ordered

pub returns-clause-publisher_articles : goal.returns-clause-publisher_articles
returns-clause-publisher_articles c = publisher.loaded_articles
