use Rattle.merge_outside.proofs.Kept.{kept-push}
use Rattle.merge_outside.proofs.Places.{place-new}
use Rattle.merge_outside.specs.Slots.{is_slot}
use Rattle.merge_outside.proofs.slots.make_slot.Goals as goal

pub returns-in_ok-push-clause-room : goal.returns-in_ok-push-clause-room
returns-in_ok-push-clause-room g c =
    rw c.in_ok-push.ensures.items (place-new (is_slot c.args.site c.args.path.now) c.args.slots.now.items c.in_ok-slot.slot c.in_ok-slot.ensures.own)

pub returns-in_ok-push-clause-kept : goal.returns-in_ok-push-clause-kept
returns-in_ok-push-clause-kept g c s p =
    rw c.in_ok-push.ensures.items (kept-push c.args.slots.now.items c.in_ok-slot.slot c.in_ok-slot.ensures.empty s p)
