-- The event with a place, and that its number fits.
use Rattle.std.proofs.Common.{arith, refl}
use Rattle.merge_make.proofs.Parts.{below-cancellations, below-clearings, below-moves, cancellation-at, clearing-at, credit-at, customer-at, move-at, of-part, order-at}
use Rattle.merge_make.proofs.part.Part.step.Goals as goal

pub overflow_mul-result : goal.overflow_mul-result
overflow_mul-result c = let few = below-clearings _ _ _ c.in-Clearings.is c.requires in let small = c.ranges.customers in omega (arith, few, small)

pub overflow_add-result : goal.overflow_add-result
overflow_add-result c = let few = below-clearings _ _ _ c.in-Clearings.is c.requires in let small = c.ranges.customers in omega (arith, few, small)

pub overflow_mul-result-in-Cancellations : goal.overflow_mul-result-in-Cancellations
overflow_mul-result-in-Cancellations c = let few = below-cancellations _ _ _ c.in-Cancellations.is c.requires in let small = c.ranges.customers in omega (arith, few, small)

pub overflow_add-result-in-Cancellations : goal.overflow_add-result-in-Cancellations
overflow_add-result-in-Cancellations c = let few = below-cancellations _ _ _ c.in-Cancellations.is c.requires in let small = c.ranges.customers in omega (arith, few, small)

pub overflow_add-result-in-Cancellations-2 : goal.overflow_add-result-in-Cancellations-2
overflow_add-result-in-Cancellations-2 c = let few = below-cancellations _ _ _ c.in-Cancellations.is c.requires in let small = c.ranges.customers in omega (arith, few, small)

pub overflow_mul-result-in-Moves : goal.overflow_mul-result-in-Moves
overflow_mul-result-in-Moves c = let few = below-moves _ _ _ c.in-Moves.is c.requires in let small = c.ranges.customers in omega (arith, few, small)

pub overflow_add-result-in-Moves : goal.overflow_add-result-in-Moves
overflow_add-result-in-Moves c = let few = below-moves _ _ _ c.in-Moves.is c.requires in let small = c.ranges.customers in omega (arith, few, small)

pub returns-in-Customers : goal.returns-in-Customers
returns-in-Customers c = of-part _ _ _ _ _ c.in-Customers.is c.requires (λ less. customer-at _ _ less)

pub returns-in-Orders : goal.returns-in-Orders
returns-in-Orders c = of-part _ _ _ _ _ c.in-Orders.is c.requires (λ less. order-at _ _ less)

pub returns-in-Credits : goal.returns-in-Credits
returns-in-Credits c = of-part _ _ _ _ _ c.in-Credits.is c.requires (λ less. credit-at _ _ less)

pub returns-in-Clearings : goal.returns-in-Clearings
returns-in-Clearings c = of-part _ _ _ _ _ c.in-Clearings.is c.requires (λ less. clearing-at _ _ _ less refl)

pub returns-in-Cancellations : goal.returns-in-Cancellations
returns-in-Cancellations c = of-part _ _ _ _ _ c.in-Cancellations.is c.requires (λ less. cancellation-at _ _ _ less refl)

pub returns-in-Moves : goal.returns-in-Moves
returns-in-Moves c = of-part _ _ _ _ _ c.in-Moves.is c.requires (λ less. move-at _ _ _ less refl)
