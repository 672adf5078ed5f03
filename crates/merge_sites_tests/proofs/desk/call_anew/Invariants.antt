-- The ledgers are those of the blanks, and the opening is that of the publisher.
use Rattle.merge_sites_tests.proofs.desk.call_anew.Given as goal

abbrev pub ghosts-call_each-L-Ledger : goal.ghosts-call_each-L-Ledger
ghosts-call_each-L-Ledger g a = record { name = a.calls.name; parts = a.calls.parts }

abbrev pub ghosts-call_each-M-Ledger : goal.ghosts-call_each-M-Ledger
ghosts-call_each-M-Ledger g a = record { name = a.faults.name; parts = a.faults.parts }

abbrev pub ghosts-call_each-N-Ledger : goal.ghosts-call_each-N-Ledger
ghosts-call_each-N-Ledger g a = record { name = a.permits.name; parts = a.permits.parts }

abbrev pub ghosts-call_each-O-Opening : goal.ghosts-call_each-O-Opening
ghosts-call_each-O-Opening g a =
    let v = g.P.DraftingPublisher.view a.publisher in
    record { publication = v.publication; tables = v.tables; says = v.says; count = v.faults }
