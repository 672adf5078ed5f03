use Rattle.merge_laws.proofs.Runs.OfActions.{of-valid-runs}
use Rattle.merge_owed.specs.Forgotten.{PublisherTellsDone, SubscribersTellMade}
use Rattle.merge_owed.proofs.ReportsTell.{publisher-tells, subscribers-tell}
use Rattle.merge_owed.proofs.forgotten.reports_tell_what_has_acted.Goals as goal

pub returns : goal.returns
returns c = record {
  publisher = of-valid-runs PublisherTellsDone publisher-tells;
  subscribers = of-valid-runs SubscribersTellMade subscribers-tell;
}
