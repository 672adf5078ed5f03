use Rattle.merge_part.proofs.Settled.{settled_by}
use Rattle.merge_part.proofs.Values.{known_on}
use Rattle.merge_part.proofs.settling.settle_row.Goals as goal

pub returns-clause-ok : goal.returns-clause-ok
returns-clause-ok c =
    settled_by _ _ _ _ _ _ c.args.key c.in_ok-sites.sites _ _ c.in_ok-insert.ensures.rows c.in_ok-sites.ensures.marks (rw c.marks_at-before.ensures at c.union.ensures) (rw (c.as_slice.ensures, c.get-content.ensures) at c.in_ok-wait_by_marks.ensures.ok)

pub wait_by_marks-requires : goal.wait_by_marks-requires
wait_by_marks-requires c = record { reached = rw c.as_slice.ensures c.requires.reached }

pub returns-clause-known : goal.returns-clause-known
returns-clause-known c = known_on c.args.kept.now.rules.links c.requires.apart _ _ _ _ c.args.key (returns-clause-ok c).others c.sites_by_rule.new.memo.rows c.in_ok-sites.ensures.known

pub returns-clause-reached : goal.returns-clause-reached
returns-clause-reached c = rw c.as_slice.ensures at c.in_ok-wait_by_marks.ensures.reached
