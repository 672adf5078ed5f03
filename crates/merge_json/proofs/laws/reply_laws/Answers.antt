use Rattle.merge_json.proofs.AnswerForms.{one_reply, answered_or_bad, one_bad_place}
use Rattle.merge_json.proofs.laws.reply_laws.Goals as goal

pub returns-clause-one_reply : goal.returns-clause-one_reply
returns-clause-one_reply c = one_reply

pub returns-clause-answered_or_bad : goal.returns-clause-answered_or_bad
returns-clause-answered_or_bad c = answered_or_bad

pub returns-clause-one_bad_place : goal.returns-clause-one_bad_place
returns-clause-one_bad_place c = one_bad_place
