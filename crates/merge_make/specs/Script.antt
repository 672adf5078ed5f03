-- The generated script: its parts in their order.
use Rattle.std.specs.Prelude.{List, [], filter, map, ℕ, ◌%◌, ◌*◌, ◌==◌, ◌∷◌}
use Rattle.std.specs.List.{flat_map, range_with_len}
use Rattle.merge_model.specs.declared.event.Event.{Event}
use Rattle.merge_model.specs.declared.event.Event.TheVariants as event
use Rattle.merge_make.specs.Events.{customer, event_of_cancel, event_of_clearing, event_of_credit, event_of_move, order, site}
use Rattle.merge_make.specs.declared.part.Part.{Part}
use Rattle.merge_make.specs.declared.part.Part.TheVariants.{Cancellations, Clearings, Credits, Crossing, Customers, FirstSessions, LastSessions, Moves, Orders}

-- the numbers from 1 to n
abbrev pub numbers : ℕ → List ℕ
numbers n = range_with_len 1 n

-- those among them that a divisor divides
abbrev pub multiples : (divisor n : ℕ) → List ℕ
multiples divisor n = filter (λ i. i % divisor == 0) (numbers n)

abbrev pub session : ℕ → Event
session number = event.Sync (site number)

abbrev pub events_in : (customers : ℕ) → Part → List Event
events_in n Customers = map customer (numbers n)
events_in n Orders = map order (numbers (2 * n))
-- all customers and orders go to their sites
events_in n FirstSessions = session 1 ∷ session 2 ∷ session 3 ∷ []
events_in n Credits = map event_of_credit (numbers n)
-- each fourth customer has now two updates, at its site and at the publisher
events_in n Clearings = map event_of_clearing (multiples 4 n)
-- an upload that never comes, and sessions in which the updates meet
events_in n Crossing = event.SendUpload (site 1) ∷ session 1 ∷ session 2 ∷ session 3 ∷ session 1 ∷ session 2 ∷ []
events_in n Cancellations = map (event_of_cancel n) (multiples 5 n)
events_in n Moves = map event_of_move (multiples 7 n)
events_in n LastSessions =
    session 1 ∷ session 2 ∷ session 3
    ∷ event.Count (site 0) ∷ event.Count (site 1) ∷ event.Count (site 2) ∷ event.Count (site 3)
    ∷ event.Conflicts (site 0) ∷ []

abbrev pub parts : List Part
parts = Customers ∷ Orders ∷ FirstSessions ∷ Credits ∷ Clearings ∷ Crossing ∷ Cancellations ∷ Moves ∷ LastSessions ∷ []

-- the script for so many customers
abbrev pub script : (customers : ℕ) → List Event
script customers = flat_map (events_in customers) parts
