use Rattle.merge_part.proofs.Drafts.{places_pushed}
use Rattle.merge_part.proofs.draft.DraftRows.push.Goals as goal

pub invariant_of-self-2 : goal.invariant_of-self-2
invariant_of-self-2 c =
    rw (c.in_ok-push.ensures.items, c.put.ensures.rows, c.edit_to.ensures, c.in_ok-make_room.ensures.rows, c.as_slice-place.ensures.value)
    (places_pushed c.self.inside.edits.items c.self.inside.places.rows c.args.key c.args.content c.self.invariant)
