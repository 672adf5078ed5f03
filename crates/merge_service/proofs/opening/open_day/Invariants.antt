-- The ledgers are those of the blanks, and the opening is that of the publisher.
use Rattle.merge_service.proofs.opening.open_day.Given as goal

abbrev pub ghosts-hold_day-L-Ledger : goal.ghosts-hold_day-L-Ledger
ghosts-hold_day-L-Ledger g a = record { name = a.calls.name; parts = a.calls.parts }

abbrev pub ghosts-hold_day-M-Ledger : goal.ghosts-hold_day-M-Ledger
ghosts-hold_day-M-Ledger g a = record { name = a.faults.name; parts = a.faults.parts }

abbrev pub ghosts-hold_day-N-Ledger : goal.ghosts-hold_day-N-Ledger
ghosts-hold_day-N-Ledger g a = record { name = a.permits.name; parts = a.permits.parts }

abbrev pub ghosts-hold_day-O-Opening : goal.ghosts-hold_day-O-Opening
ghosts-hold_day-O-Opening g a =
    let v = g.P.DraftingPublisher.view a.publisher in
    record { publication = v.publication; tables = v.tables; says = v.says; count = v.faults }
