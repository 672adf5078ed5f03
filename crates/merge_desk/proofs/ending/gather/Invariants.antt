use Rattle.std.proofs.Common.{length, ◌≡◌, ◌+◌}
use Rattle.std.specs.List.{sum_by}
use Rattle.std.specs.Vec.Iter.{into_iter_items, into_iter_len}
use Rattle.merge_desk.specs.Views.{AreToldInCalls, seat_call_parts, seat_calls, seat_fault_parts, seat_faults}
use Rattle.merge_desk.proofs.ending.gather.Given as goal

abbrev pub invariant-loop-seat : goal.invariant-loop-seat
invariant-loop-seat g l = (l.all.parts + sum_by seat_call_parts (into_iter_items l.seat-iterator) ≡ l.initial.all.parts + sum_by seat_call_parts l.fn.seats.items)
    × (l.all.amount + sum_by seat_calls (into_iter_items l.seat-iterator) ≡ l.initial.all.amount + sum_by seat_calls l.fn.seats.items)
    × (l.broken.parts + sum_by seat_fault_parts (into_iter_items l.seat-iterator) ≡ l.initial.broken.parts + sum_by seat_fault_parts l.fn.seats.items)
    × (l.broken.amount + sum_by seat_faults (into_iter_items l.seat-iterator) ≡ l.initial.broken.amount + sum_by seat_faults l.fn.seats.items)
    × (AreToldInCalls (into_iter_items l.seat-iterator) → AreToldInCalls l.fn.seats.items)
    × (into_iter_len l.seat-iterator ≡ length (into_iter_items l.seat-iterator))
