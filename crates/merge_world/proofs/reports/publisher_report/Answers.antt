use Rattle.merge_world.proofs.Rowwise.{publisher-counts}
use Rattle.merge_world.proofs.reports.publisher_report.Goals as goal

pub returns-in_ok-counts-in-Counts-clause-told : goal.returns-in_ok-counts-in-Counts-clause-told
returns-in_ok-counts-in-Counts-clause-told g c = publisher-counts c.publication.result.now _ c.args.report _ c.rows-in-Counts.result.now.rows c.in_ok-counts-in-Counts.field-0
    c.in_ok-counts-in-Counts.ensures c.publication.ensures c.rows-in-Counts.ensures.rows c.in-Counts.is
