-- The ledgers are those of the blanks, and the opening is that of the publisher.
use Rattle.merge_sites_tests.proofs.serve.try_twice.Given as goal

abbrev pub ghosts-serve_twice-L-Ledger : goal.ghosts-serve_twice-L-Ledger
ghosts-serve_twice-L-Ledger g a = record { name = a.calls.name; parts = a.calls.parts }

abbrev pub ghosts-serve_twice-M-Ledger : goal.ghosts-serve_twice-M-Ledger
ghosts-serve_twice-M-Ledger g a = record { name = a.faults.name; parts = a.faults.parts }

abbrev pub ghosts-serve_twice-N-Ledger : goal.ghosts-serve_twice-N-Ledger
ghosts-serve_twice-N-Ledger g a = record { name = a.permits.name; parts = a.permits.parts }

abbrev pub ghosts-serve_twice-O-Opening : goal.ghosts-serve_twice-O-Opening
ghosts-serve_twice-O-Opening g a =
    let v = g.P.DraftingPublisher.view a.publisher in
    record { publication = v.publication; tables = v.tables; says = v.says; count = v.faults }
