use Rattle.merge_keeper.proofs.PublisherLoad.{records_load}
use Rattle.merge_keeper.proofs.laws.publisher_stored_tables_load.Goals as goal

pub returns : goal.returns
returns c p held t h = records_load p held t h
