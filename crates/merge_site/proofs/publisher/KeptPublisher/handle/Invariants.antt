-- The ledger of the blank.
use Rattle.merge_site.proofs.publisher.KeptPublisher.handle.Given as goal

abbrev pub ghosts-handle_in_ledger : goal.ghosts-handle_in_ledger
ghosts-handle_in_ledger g a = record { name = a.blank.name; parts = a.blank.parts }
