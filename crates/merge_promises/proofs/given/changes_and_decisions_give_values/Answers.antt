use Rattle.merge_promises.proofs.GivenAnswers.{decisions-are-answers}
use Rattle.merge_promises.proofs.GivenChanges.{publisher-gives, subscribers-give}
use Rattle.merge_promises.proofs.GivenDecisions.{decisions-give}
use Rattle.merge_promises.proofs.given.changes_and_decisions_give_values.Goals as goal

pub returns : goal.returns
returns c = record {
  publisher = publisher-gives;
  subscribers = subscribers-give;
  decisions = decisions-give;
  answers = decisions-are-answers;
}
