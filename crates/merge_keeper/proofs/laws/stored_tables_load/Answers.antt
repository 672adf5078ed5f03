use Rattle.merge_keeper.proofs.SubscriberLoad.{records_load}
use Rattle.merge_keeper.proofs.laws.stored_tables_load.Goals as goal

pub returns : goal.returns
returns c p held t h = records_load p held t h
