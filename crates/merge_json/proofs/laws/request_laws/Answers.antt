use Rattle.merge_json.proofs.SentForms.{one_request, sent_or_bad, one_bad_place}
use Rattle.merge_json.proofs.laws.request_laws.Goals as goal

pub returns-clause-one_request : goal.returns-clause-one_request
returns-clause-one_request c = one_request

pub returns-clause-sent_or_bad : goal.returns-clause-sent_or_bad
returns-clause-sent_or_bad c = sent_or_bad

pub returns-clause-one_bad_place : goal.returns-clause-one_bad_place
returns-clause-one_bad_place c = one_bad_place
