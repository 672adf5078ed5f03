-- The events of the generated script, by the numbers of customers, orders and rows, counted from 1.
use Rattle.std.specs.Prelude.{List, [], codes, pos, ℕ, ◌%◌, ◌*◌, ◌++◌, ◌+◌, ◌/◌, ◌∷◌}
use Rattle.std.specs.Fmt.{decimal}
use Rattle.merge_types.specs.Rows.{row_number}
use Rattle.merge_types.specs.declared.identifiers.RowId.{RowId}
use Rattle.merge_types.specs.declared.identifiers.SiteId.{SiteId}
use Rattle.merge_types.specs.declared.values.Value.{Value}
use Rattle.merge_types.specs.declared.values.Value.TheVariants.{Int, Text}
use Rattle.merge_model.specs.declared.event.Event.{Event}
use Rattle.merge_model.specs.declared.event.Event.TheVariants as event
use Rattle.merge_model.specs.declared.event.NamedValue.{NamedValue}

abbrev pub site : ℕ → SiteId
site number = record { 0 = number }

abbrev pub publisher : SiteId
publisher = site 0

-- the row that the publisher makes with its change of this number
abbrev pub row : ℕ → RowId
row number = record { 0 = row_number 0 number }

abbrev pub set : List ℕ → Value → NamedValue
set column value = record { column = column; value = value }

-- a number's region, of which there are three: r0, r1 and r2
abbrev pub region : ℕ → Value
region number = Text (codes "r" ++ decimal (number % 3))

-- the publisher makes a row of two columns
abbrev pub event_of_insert : List ℕ → NamedValue → NamedValue → Event
event_of_insert article first second = event.Insert publisher article (first ∷ second ∷ [])

-- a customer, in the region of its number
abbrev pub customer : ℕ → Event
customer i = event_of_insert (codes "customer") (set (codes "id") (Int (pos i))) (set (codes "region") (region i))

-- an order, of which each customer has two: the first has the orders 1 and 2
abbrev pub order : ℕ → Event
order a = event_of_insert (codes "orders") (set (codes "id") (Int (pos a))) (set (codes "cust") (Int (pos ((a + 1) / 2))))

-- a site sets a column of a customer, whose row has the customer's number
abbrev pub event_of_update : SiteId → ℕ → List ℕ → Value → Event
event_of_update at i column value = event.Update at (codes "customer") (row i) (set column value ∷ [])

-- the site of a customer's region gives it credit
abbrev pub event_of_credit : ℕ → Event
event_of_credit i = event_of_update (site (i % 3 + 1)) i (codes "credit") (Int (pos i))

-- the publisher takes it back
abbrev pub event_of_clearing : ℕ → Event
event_of_clearing i = event_of_update publisher i (codes "credit") (Int (pos 0))

-- the customer goes to the next region
abbrev pub event_of_move : ℕ → Event
event_of_move i = event_of_update publisher i (codes "region") (region (i + 1))

abbrev pub event_of_delete : ℕ → Event
event_of_delete number = event.Delete publisher (codes "orders") (row number)

-- The second order of a customer goes. Orders are made behind so many customers.
abbrev pub event_of_cancel : (customers i : ℕ) → Event
event_of_cancel customers i = event_of_delete (customers + 2 * i)
