-- The ledgers are those of the blanks, and the opening is that of the publisher.
use Rattle.merge_sites_tests.proofs.serve.serve_day.Given as goal

abbrev pub ghosts-hold-L-Ledger : goal.ghosts-hold-L-Ledger
ghosts-hold-L-Ledger g a = record { name = a.calls.name; parts = a.calls.parts }

abbrev pub ghosts-hold-M-Ledger : goal.ghosts-hold-M-Ledger
ghosts-hold-M-Ledger g a = record { name = a.faults.name; parts = a.faults.parts }

abbrev pub ghosts-hold-N-Ledger : goal.ghosts-hold-N-Ledger
ghosts-hold-N-Ledger g a = record { name = a.permits.name; parts = a.permits.parts }

abbrev pub ghosts-hold-O-Opening : goal.ghosts-hold-O-Opening
ghosts-hold-O-Opening g a =
    let v = g.P.DraftingPublisher.view a.publisher in
    record { publication = v.publication; tables = v.tables; says = v.says; count = v.faults }
