use Rattle.std.proofs.Common.{rules}
use Rattle.merge_sub.proofs.LocalChanges.{check-refused}
use Rattle.merge_sub.proofs.subscriber.Subscriber.check_local.Goals as goal

pub returns-clause-err : goal.returns-clause-err
returns-clause-err c =
    check-refused _ _ c.self.view_is c.args.change.now c.check_change.result (search rules) c.in_ok-check_counters.ensures.ok
    _ c.version_for-held.ensures.version c.len.result (search rules) c.check_change.ensures.err
