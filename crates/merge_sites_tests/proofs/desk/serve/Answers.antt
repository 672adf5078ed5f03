use Rattle.merge_desk.specs.Views.{seat_call_parts, seat_fault_parts}
use Rattle.merge_desk.proofs.Sums.{same_sum_lent}
use Rattle.merge_sites_tests.proofs.desk.serve.Goals as goal

pub returns-clause-calls : goal.returns-clause-calls
returns-clause-calls g c = same_sum_lent seat_call_parts _ _ c.as_mut_slice.result.now _ c.as_mut_slice.ensures.len c.as_mut_slice.ensures.value c.all.ensures.length (λ i d less. (c.all.ensures.parts i d less).0)

pub returns-clause-faults : goal.returns-clause-faults
returns-clause-faults g c = same_sum_lent seat_fault_parts _ _ c.as_mut_slice.result.now _ c.as_mut_slice.ensures.len c.as_mut_slice.ensures.value c.all.ensures.length (λ i d less. (c.all.ensures.parts i d less).1)
