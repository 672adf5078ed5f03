use Rattle.merge_json.proofs.DayTexts.{day_is, day_only}
use Rattle.merge_json.proofs.ToldRefusals.{told_sendable}
use Rattle.merge_json.proofs.laws.form_laws.Goals as goal

pub returns-clause-days : goal.returns-clause-days
returns-clause-days c = λ text day. (day_only text day, day_is text day)

pub returns-clause-refusals : goal.returns-clause-refusals
returns-clause-refusals c = told_sendable
