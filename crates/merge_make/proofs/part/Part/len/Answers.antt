use Rattle.merge_make.proofs.Parts.{count-cancellations, count-clearings, count-credits, count-customers, count-moves, count-orders, counted}
use Rattle.merge_make.proofs.part.Part.len.Goals as goal

pub returns-in-Customers : goal.returns-in-Customers
returns-in-Customers c = counted _ _ _ _ c.in-Customers.is (count-customers _)

pub returns-in-Orders : goal.returns-in-Orders
returns-in-Orders c = counted _ _ _ _ c.in-Orders.is (count-orders _)

pub returns-in-Credits : goal.returns-in-Credits
returns-in-Credits c = counted _ _ _ _ c.in-Credits.is (count-credits _)

pub returns-in-Clearings : goal.returns-in-Clearings
returns-in-Clearings c = counted _ _ _ _ c.in-Clearings.is (count-clearings _)

pub returns-in-Cancellations : goal.returns-in-Cancellations
returns-in-Cancellations c = counted _ _ _ _ c.in-Cancellations.is (count-cancellations _)

pub returns-in-Moves : goal.returns-in-Moves
returns-in-Moves c = counted _ _ _ _ c.in-Moves.is (count-moves _)
