use Rattle.std.specs.Ordering.{nat_cmp}
use Rattle.std.proofs.Common.{rules}
use Rattle.merge_table.specs.Edits.{rows_after_all}
use Rattle.merge_sub.proofs.LocalChanges.{change-sound, local-made}
use Rattle.merge_sub.proofs.subscriber.Subscriber.draft_local.Goals as goal

pub draft_row-requires-clause-sound : goal.draft_row-requires-clause-sound
draft_row-requires-clause-sound c =
    change-sound _ _ c.self.view_is c.self.invariant c.args.change.now c.in_ok-identity.identity c.in_ok-identity.ensures.identity
    (rows_after_all nat_cmp c.args.self.now.held.rows c.in_ok-identity.held) c.in_ok-identity.ensures.ranged _ _ _ c.in_ok-key.ensures.row _ c.in_ok-check_local.ensures.closed c.in_ok-check_local.ensures.unfilled

pub returns-clause-made : goal.returns-clause-made
returns-clause-made c =
    local-made _ _ _ _ c.in_ok-check_local.ensures.ok c.in_ok-identity.identity (rows_after_all nat_cmp c.args.self.now.held.rows c.in_ok-identity.held) c.in_ok-identity.ensures.drawn
    _ _ _ c.in_ok-key.ensures.row c.later-latest.result (search rules) _ c.in_ok-draft.ensures.made
