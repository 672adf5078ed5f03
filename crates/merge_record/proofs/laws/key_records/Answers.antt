use Rattle.merge_record.proofs.Codecs.{are_records}
use Rattle.merge_record.proofs.TableCodecs.{grant_key_is, num16, num64, num8, row_key_is, row_site_is}
use Rattle.merge_record.proofs.laws.key_records.Goals as goal

pub returns-clause-row : goal.returns-clause-row
returns-clause-row c = are_records _ _ _ row_key_is

pub returns-clause-mapping : goal.returns-clause-mapping
returns-clause-mapping c = are_records _ _ _ row_site_is

pub returns-clause-grant : goal.returns-clause-grant
returns-clause-grant c = are_records _ _ _ grant_key_is

pub returns-clause-article : goal.returns-clause-article
returns-clause-article c = are_records _ _ _ num8

pub returns-clause-site : goal.returns-clause-site
returns-clause-site c = are_records _ _ _ num16

pub returns-clause-number : goal.returns-clause-number
returns-clause-number c = are_records _ _ _ num64
