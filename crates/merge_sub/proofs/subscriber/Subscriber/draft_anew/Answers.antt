use Rattle.std.proofs.Common.{rules}
use Rattle.merge_sub.proofs.Anewly.{anew-numbered, anew-rising}
use Rattle.merge_sub.proofs.Discarded.{anew-done}
use Rattle.merge_sub.proofs.subscriber.Subscriber.draft_anew.Goals as goal

pub draft_emptied-requires-clause-rising : goal.draft_emptied-requires-clause-rising
draft_emptied-requires-clause-rising c = anew-rising _ _ c.self.view_is c.rows.ensures.rising c.self.invariant _ _ _ c.in_ok-lost.ensures.lost

pub draft_emptied-requires-clause-numbered : goal.draft_emptied-requires-clause-numbered
draft_emptied-requires-clause-numbered c = anew-numbered _ _ c.self.view_is c.self.invariant _ _ _ c.in_ok-lost.ensures.lost

pub returns-clause-made : goal.returns-clause-made
returns-clause-made c =
    anew-done _ _ c.self.view_is c.args.now c.in_ok-check_counters.ensures.ok c.in_ok-items.ensures.ordered c.self.invariant c.later-latest.result c.later-latest.ensures
    c.in_ok-items.items (search rules) _ c.in_ok-lost.ensures.lost _ c.in_ok-draft_emptied.ensures.made _ (search rules)
