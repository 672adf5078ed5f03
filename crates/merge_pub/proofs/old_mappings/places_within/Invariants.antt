use Rattle.merge_steps.specs.OldSpans.{HasMoved}
use Rattle.merge_pub.proofs.OldMappings.{left_of}
use Rattle.merge_pub.proofs.old_mappings.places_within.Given as goal

abbrev pub invariant-loop-next : goal.invariant-loop-next
invariant-loop-next l = HasMoved l.moved.rows l.span l.next l.places.items

abbrev pub decreases-loop-next : goal.decreases-loop-next
decreases-loop-next l = left_of l.next
