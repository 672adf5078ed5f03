use Rattle.merge_world.proofs.Rowwise.{subscriber-counts}
use Rattle.merge_world.proofs.reports.subscriber_report.Goals as goal

pub returns-in_ok-counts-in-Counts-clause-told : goal.returns-in_ok-counts-in-Counts-clause-told
returns-in_ok-counts-in-Counts-clause-told g c = subscriber-counts c.args.publication.now c.args.report _ c.rows-in-Counts.result.now.rows c.in_ok-counts-in-Counts.field-0
    c.in_ok-counts-in-Counts.ensures c.rows-in-Counts.ensures.rows c.in-Counts.is
