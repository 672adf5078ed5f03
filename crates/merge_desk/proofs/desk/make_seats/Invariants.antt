use Rattle.std.proofs.Common.{◌≡◌, ◌+◌, length, map}
use Rattle.std.specs.List.{sum_by}
use Rattle.merge_desk.specs.Views.{numbers_from, seat_call_parts, seat_calls, seat_fault_parts, seat_faults, seat_number}
use Rattle.merge_desk.proofs.desk.make_seats.Given as goal

abbrev pub invariant-loop-number : goal.invariant-loop-number
invariant-loop-number g l = (l.call_rest.parts + l.number ≡ l.fn.calls.parts + 1) × (l.fault_rest.parts + l.number ≡ l.fn.faults.parts + 1) × (l.call_rest.amount ≡ 0) × (l.fault_rest.amount ≡ 0)
    × (length l.made.items + 1 ≡ l.number) × (sum_by seat_calls l.made.items ≡ 0) × (sum_by seat_faults l.made.items ≡ 0)
    × (sum_by seat_call_parts l.made.items + 1 ≡ l.number) × (sum_by seat_fault_parts l.made.items + 1 ≡ l.number)
    × (map seat_number l.made.items ≡ numbers_from 1 (length l.made.items))
