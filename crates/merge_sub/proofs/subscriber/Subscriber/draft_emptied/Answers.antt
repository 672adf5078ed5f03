use Rattle.std.specs.Prelude.{◌+◌, None, Some, false, refl}
use Rattle.std.proofs.Common.{rules}
use Rattle.merge_sub.proofs.Anewly.{emptied-draft, emptied-ready}
use Rattle.merge_sub.proofs.Opened.{closing-goes-on, closing-last}
use Rattle.merge_sub.proofs.subscriber.Subscriber.draft_emptied.Goals as goal

pub prepare-requires-2-clause-sound : goal.prepare-requires-2-clause-sound
prepare-requires-2-clause-sound c =
    emptied-ready _ _ c.self.view_is c.self.invariant
    (record { publication = c.self.inside.publication; site = c.self.inside.site; state = c.self.inside.state; gens = c.prepare_close.new.self; rows = c.self.inside.rows; unsent = c.self.inside.unsent; conflicts = c.prepare.new.self; held = c.self.inside.held })
    (search rules) c.args.lost c.requires.numbered
    (record { state = record { changes = c.self.inside.state.changes; conflict_count = c.self.inside.state.conflict_count + c.len.result; latest = c.later.result; seq = c.self.inside.state.seq; outstanding = None; received = c.in_ok-last.last; watermark = 0; is_joined = false }; gens = c.in_ok-last.gens; done = Some c.in_ok-last.last; rows = c.in_ok-rows.rows; held = c.empty.result; conflicts = c.in_ok-conflicts.conflicts })
    c.len.result refl c.len.ensures c.in_ok-rows.ensures c.empty.ensures c.in_ok-conflicts.ensures.plan (closing-last c.self.inside.gens.book _ c.in_ok-last.gens c.in_ok-last.ensures.plan _ c.in_ok-last.ensures.last) (closing-goes-on _ _ c.self.view_is _ c.in_ok-last.gens c.requires.closed c.in_ok-last.ensures.plan) c.in_ok-index.index c.in_ok-index.ensures

pub returns-clause-made : goal.returns-clause-made
returns-clause-made c =
    emptied-draft _ _ c.self.view_is c.args.now c.args.lost c.in_ok-draft.draft.changes c.in_ok-last.gens c.in_ok-last.last c.in_ok-rows.rows c.in_ok-conflicts.conflicts (search rules)
    c.in_ok-last.ensures.plan _ c.in_ok-last.ensures.same c.in_ok-last.ensures.ready c.in_ok-last.ensures.last c.in_ok-rows.ensures c.in_ok-conflicts.ensures.plan
