-- The seats that are not gathered yet, and the shares of the others.
use Rattle.std.proofs.Common.{ap, arith, length, rules, sym, ◌+◌, ◌∙◌, ◌≡◌}
use Rattle.std.specs.Prelude.{vec_len}
use Rattle.std.specs.List.{sum_by}
use Rattle.std.specs.Vec.Iter.{into_iter_items, into_iter_len}
use Rattle.merge_desk.specs.Views.{seat_call_parts, seat_calls, seat_fault_parts, seat_faults}
use Rattle.merge_desk.proofs.Differing.{told-begins, told-gathered, told-taken}
use Rattle.merge_desk.proofs.Sums.{sum_taken}
use Rattle.merge_desk.proofs.ending.gather.Goals as goal

pub loop-seat-init : goal.loop-seat-init
loop-seat-init g c =
    let same : into_iter_items c.into_iter-seat-iterator.result ≡ c.args.seats.items = search rules in
    let left : into_iter_len c.into_iter-seat-iterator.result ≡ vec_len c.args.seats = search rules in
    let many : vec_len c.args.seats ≡ length c.args.seats.items = search rules in (
      ap (λ l. c.args.all.now.parts + sum_by seat_call_parts l) same,
      ap (λ l. c.args.all.now.amount + sum_by seat_calls l) same,
      ap (λ l. c.args.broken.now.parts + sum_by seat_fault_parts l) same,
      ap (λ l. c.args.broken.now.amount + sum_by seat_faults l) same,
      told-begins _ _ same,
      left ∙ many ∙ ap (λ l. length l) (sym same),
    )

pub loop-seat-preserved : goal.loop-seat-preserved
loop-seat-preserved g c =
    let was = c.loop-seat.invariant in
    let step = rw c.in-Some.is at c.next.ensures.steps in
    let fewer = step.1 in (
      sum_taken seat_call_parts _ _ c.in-Some.seat _ _ _ step.0 was.0 (search rules),
      sum_taken seat_calls _ _ c.in-Some.seat _ _ _ step.0 was.1 (search rules),
      sum_taken seat_fault_parts _ _ c.in-Some.seat _ _ _ step.0 was.2 (search rules),
      sum_taken seat_faults _ _ c.in-Some.seat _ _ _ step.0 was.3 (search rules),
      told-taken _ _ _ c.in-Some.seat step.0 c.into_shares-calls.ensures.few was.4,
      omega (arith, fewer, was.5, ap length step.0),
    )

pub returns-clause-told : goal.returns-clause-told
returns-clause-told g c =
    let none = rw c.in-None.is at c.next.ensures.steps in
    told-gathered _ _ (sym c.loop-seat.invariant.5 ∙ none.0) c.loop-seat.invariant.4
