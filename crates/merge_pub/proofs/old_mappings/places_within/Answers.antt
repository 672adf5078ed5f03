use Rattle.merge_pub.proofs.OldMappings.{fewer-left, places-begin, places-next}
use Rattle.merge_pub.proofs.old_mappings.places_within.Goals as goal

pub loop-next-init : goal.loop-next-init
loop-next-init c = places-begin c.args.moved.now.rows c.args.span c.next_from-next.result c.new-places.result.items c.next_from-next.ensures.next

pub loop-next-smaller : goal.loop-next-smaller
loop-next-smaller c = fewer-left c.in-Some.site c.loop-next.next c.next_behind-next.result c.in-Some.is c.next_behind-next.ensures.fits c.next_behind-next.ensures.onward

pub loop-next-preserved : goal.loop-next-preserved
loop-next-preserved c =
    places-next c.args.moved.now.rows c.args.span c.in-Some.site c.loop-next.next c.loop-next.places.items c.next_behind-next.result c.add_places.new.places.items c.in-Some.is c.loop-next.invariant c.next_behind-next.ensures.next
    c.in_ok-add_places.ensures
