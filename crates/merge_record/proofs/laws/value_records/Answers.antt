use Rattle.merge_record.proofs.Codecs.{are_records}
use Rattle.merge_record.proofs.TableCodecs.{held_is, mapping_is, range_is, site_state_is}
use Rattle.merge_record.proofs.laws.value_records.Goals as goal

pub returns-clause-mapping : goal.returns-clause-mapping
returns-clause-mapping c = are_records _ _ _ mapping_is

pub returns-clause-granted : goal.returns-clause-granted
returns-clause-granted c = are_records _ _ _ range_is

pub returns-clause-held : goal.returns-clause-held
returns-clause-held c = are_records _ _ _ held_is

pub returns-clause-site : goal.returns-clause-site
returns-clause-site c = are_records _ _ _ site_state_is
