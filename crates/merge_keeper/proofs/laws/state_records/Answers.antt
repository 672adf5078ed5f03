use Rattle.merge_record.proofs.Codecs.{are_records}
use Rattle.merge_keeper.proofs.StateCodecs.{conflict_is, publisher_state_is, subscriber_state_is}
use Rattle.merge_keeper.proofs.laws.state_records.Goals as goal

pub returns-clause-publisher : goal.returns-clause-publisher
returns-clause-publisher c = are_records _ _ _ publisher_state_is

pub returns-clause-subscriber : goal.returns-clause-subscriber
returns-clause-subscriber c = are_records _ _ _ subscriber_state_is

pub returns-clause-conflict : goal.returns-clause-conflict
returns-clause-conflict c = are_records _ _ _ conflict_is
