use Rattle.merge_honest.proofs.FewReasons.{first-reason, none-unexpected}
use Rattle.merge_honest.proofs.expected.requests_are_refused_for_little.Goals as goal

pub returns : goal.returns
returns c = record {
  few = none-unexpected c.identity_values_are_right.ensures;
  first = first-reason;
}
