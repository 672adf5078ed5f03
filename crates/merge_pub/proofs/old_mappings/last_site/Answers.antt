use Rattle.std.proofs.Common.{sym, ◌∙◌}
use Rattle.merge_pub.proofs.OldMappings.{last-is}
use Rattle.merge_pub.proofs.old_mappings.last_site.Goals as goal

pub returns-in-Some : goal.returns-in-Some
returns-in-Some c = last-is c.args.moved.now.rows c.next_back.new.self (c.in-Some.entry.now, c.in-Some.field-0-1.now) c.iter.ensures.ordered (sym c.iter.ensures.rows ∙ c.in-Some.ensures.steps)
