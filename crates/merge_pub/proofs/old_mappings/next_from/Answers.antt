use Rattle.merge_pub.proofs.OldMappings.{next-none, next-onward, next-some}
use Rattle.merge_pub.proofs.old_mappings.next_from.Goals as goal

pub returns-in-Some-clause-next : goal.returns-in-Some-clause-next
returns-in-Some-clause-next c =
    next-some c.args.moved.now.rows c.range.result c.next.new.self (c.in-Some.entry.now, c.in-Some.field-0-1.now) c.is_ordered.ensures.rows c.args.site (c.range.ensures.between tt) c.in-Some.ensures.steps

pub returns-in-Some-clause-onward : goal.returns-in-Some-clause-onward
returns-in-Some-clause-onward c =
    next-onward c.args.moved.now.rows c.range.result c.next.new.self (c.in-Some.entry.now, c.in-Some.field-0-1.now) c.args.site (c.range.ensures.between tt) c.in-Some.ensures.steps

pub returns-in-None-clause-next : goal.returns-in-None-clause-next
returns-in-None-clause-next c = next-none c.args.moved.now.rows c.range.result c.is_ordered.ensures.rows c.args.site (c.range.ensures.between tt) c.in-None.ensures.steps.0
