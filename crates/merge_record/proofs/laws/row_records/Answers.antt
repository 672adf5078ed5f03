use Rattle.merge_record.proofs.Codecs.{are_records}
use Rattle.merge_record.proofs.TableCodecs.{publisher_row_is, subscriber_row_is}
use Rattle.merge_record.proofs.laws.row_records.Goals as goal

pub returns-clause-publisher : goal.returns-clause-publisher
returns-clause-publisher c = are_records _ _ _ publisher_row_is

pub returns-clause-subscriber : goal.returns-clause-subscriber
returns-clause-subscriber c = are_records _ _ _ subscriber_row_is
