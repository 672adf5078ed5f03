use Rattle.std.proofs.Common.{◌≡◌, ◌∙◌, ap, arith, length, rules}
use Rattle.merge_desk.specs.Views.{numbers_from, seat_call_parts, seat_calls, seat_fault_parts, seat_faults}
use Rattle.merge_desk.proofs.Numbers.{numbers-next}
use Rattle.merge_desk.proofs.Sums.{sum_next}
use Rattle.merge_desk.proofs.desk.make_seats.Goals as goal

pub loop-number-preserved : goal.loop-number-preserved
loop-number-preserved g c =
    let was = c.loop-number.invariant in
    let pushed = c.in_ok-push.ensures.items in
    let numbered = numbers-next c.loop-number.made.items c.push.new.self.items _ pushed was.9 was.4 in
    let calls = sum_next seat_calls 0 c.loop-number.made.items c.push.new.self.items _ pushed c.split_off.ensures.amount in
    let faults = sum_next seat_faults 0 c.loop-number.made.items c.push.new.self.items _ pushed c.split_off-in-loop-number.ensures.amount in
    let call_parts = sum_next seat_call_parts 1 c.loop-number.made.items c.push.new.self.items _ pushed c.split_off.ensures.parts in
    let fault_parts = sum_next seat_fault_parts 1 c.loop-number.made.items c.push.new.self.items _ pushed c.split_off-in-loop-number.ensures.parts in
    (search rules, search rules, search rules, search rules, search rules, omega (arith, calls, was.5), omega (arith, faults, was.6), omega (arith, call_parts, was.7), omega (arith, fault_parts, was.8), numbered)

pub returns-clause-numbers : goal.returns-clause-numbers
returns-clause-numbers g c =
    let was = c.loop-number.invariant in
    let size : length c.push-2.new.self.items ≡ c.args.seats = search rules in
    numbers-next c.loop-number.made.items c.push-2.new.self.items _ c.in_ok-push-2.ensures.items was.9 (search rules) ∙ ap (numbers_from 1) size
