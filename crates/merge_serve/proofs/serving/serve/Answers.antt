-- The numbers and the parts of the seats are those that were given.
use Rattle.merge_desk.specs.Views.{seat_call_parts, seat_fault_parts, seat_number}
use Rattle.merge_desk.proofs.Sums.{same_map_lent, same_sum_lent}
use Rattle.merge_serve.proofs.serving.serve.Goals as goal

pub returns-clause-numbers : goal.returns-clause-numbers
returns-clause-numbers g c = same_map_lent seat_number _ _ c.as_mut_slice.result.now _ c.as_mut_slice.ensures.len c.as_mut_slice.ensures.value c.serve_within-accepted.ensures.length (λ i d less. (c.serve_within-accepted.ensures.grown i d less).number)

pub returns-clause-calls : goal.returns-clause-calls
returns-clause-calls g c = same_sum_lent seat_call_parts _ _ c.as_mut_slice.result.now _ c.as_mut_slice.ensures.len c.as_mut_slice.ensures.value c.serve_within-accepted.ensures.length (λ i d less. (c.serve_within-accepted.ensures.grown i d less).call_parts)

pub returns-clause-faults : goal.returns-clause-faults
returns-clause-faults g c = same_sum_lent seat_fault_parts _ _ c.as_mut_slice.result.now _ c.as_mut_slice.ensures.len c.as_mut_slice.ensures.value c.serve_within-accepted.ensures.length (λ i d less. (c.serve_within-accepted.ensures.grown i d less).fault_parts)
