use Rattle.std.specs.Prelude.{None, refl}
use Rattle.std.proofs.Common.{rules, ◌∙◌}
use Rattle.merge_sub.proofs.Granted.{held-fit}
use Rattle.merge_sub.proofs.Taken.{granted-draft, granted-ready}
use Rattle.merge_sub.proofs.subscriber.Subscriber.draft_ranged.Goals as goal

pub received_ranges-requires : goal.received_ranges-requires
received_ranges-requires c = held-fit _ _ c.self.view_is c.args.ranged.now c.requires.fits _ c.as_slice.ensures

pub prepare-requires-3-clause-sound : goal.prepare-requires-3-clause-sound
prepare-requires-3-clause-sound c =
    granted-ready _ _ c.self.view_is c.self.invariant
    (record { publication = c.self.inside.publication; site = c.self.inside.site; state = c.self.inside.state; gens = c.prepare.new.self; rows = c.self.inside.rows; unsent = c.self.inside.unsent; conflicts = c.prepare-2.new.self; held = c.self.inside.held })
    (search rules) c.args.state (record { changes = c.requires.changes; conflicts = c.requires.conflicts }) c.requires.received c.args.ranged.now c.requires.fits
    (record { state = c.args.state; gens = c.in_ok-gens.gens; done = None; rows = c.empty-2.result; held = c.in_ok-held.held; conflicts = c.in_ok-conflicts.conflicts })
    (record {
      own = refl;
      gens = c.in_ok-gens.ensures.plan;
      done = refl;
      rows = c.empty-2.ensures;
      held = search rules;
      conflicts = c.in_ok-conflicts.ensures.plan ∙ c.empty.ensures;
    })
    c.empty-3.result c.empty-3.ensures

pub returns-clause-made : goal.returns-clause-made
returns-clause-made c =
    granted-draft _ _ c.self.view_is c.args.state c.args.ranged.now c.requires.fits
    (record { state = c.args.state; gens = c.in_ok-gens.gens; done = None; rows = c.empty-2.result; held = c.in_ok-held.held; conflicts = c.in_ok-conflicts.conflicts })
    (record {
      own = refl;
      gens = c.in_ok-gens.ensures.plan;
      done = refl;
      rows = c.empty-2.ensures;
      held = search rules;
      conflicts = c.in_ok-conflicts.ensures.plan ∙ c.empty.ensures;
    })
    c.in_ok-draft.draft.changes c.in_ok-draft.ensures.changes
