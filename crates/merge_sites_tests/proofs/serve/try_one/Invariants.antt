-- The ledgers are those of the blanks, and the opening is that of a publisher of nothing.
use Rattle.std.proofs.Common.{None}
use Rattle.merge_model.specs.Publisher.{empty_publisher}
use Rattle.merge_desk.specs.Replay.{no_publication}
use Rattle.merge_sites_tests.proofs.serve.try_one.Given as goal

abbrev pub ghosts-serve_one-L-Ledger : goal.ghosts-serve_one-L-Ledger
ghosts-serve_one-L-Ledger g a = record { name = a.calls.name; parts = a.calls.parts }

abbrev pub ghosts-serve_one-M-Ledger : goal.ghosts-serve_one-M-Ledger
ghosts-serve_one-M-Ledger g a = record { name = a.faults.name; parts = a.faults.parts }

abbrev pub ghosts-serve_one-N-Ledger : goal.ghosts-serve_one-N-Ledger
ghosts-serve_one-N-Ledger g a = record { name = a.permits.name; parts = a.permits.parts }

abbrev pub ghosts-serve_one-O-Opening : goal.ghosts-serve_one-O-Opening
ghosts-serve_one-O-Opening g a = record { publication = no_publication; tables = empty_publisher no_publication; says = λ place tally asked. None; count = 0 }
