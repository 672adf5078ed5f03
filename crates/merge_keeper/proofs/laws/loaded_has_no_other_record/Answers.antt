use Rattle.merge_keeper.proofs.PublisherBack as publisher
use Rattle.merge_keeper.proofs.SubscriberBack as subscriber
use Rattle.merge_keeper.proofs.laws.loaded_has_no_other_record.Goals as goal

pub returns-clause-subscriber : goal.returns-clause-subscriber
returns-clause-subscriber c p site held e es t map_fits beginning h = (subscriber.loaded_back p site held e es t map_fits beginning h).records

pub returns-clause-publisher : goal.returns-clause-publisher
returns-clause-publisher c p held e es t map_fits beginning h = (publisher.loaded_back p held e es t map_fits beginning h).records
