use Rattle.std.specs.Prelude.{refl}
use Rattle.std.proofs.Common.{rules}
use Rattle.merge_sub.proofs.Ready.{settled-sound}
use Rattle.merge_sub.proofs.subscriber.Subscriber.settle.Goals as goal

pub invariant_of-self : goal.invariant_of-self
invariant_of-self c =
    settled-sound _ _ c.requires _ c.self.view_is
    (record { publication = c.self.inside.publication; site = c.self.inside.site; state = c.args.draft.changes.state; gens = c.forget.new.gens; rows = c.apply_and_sweep.new.self; unsent = c.settle.new.self; conflicts = c.settle-2.new.self; held = c.apply.new.self })
    (search rules) refl c.settle.ensures.entries
