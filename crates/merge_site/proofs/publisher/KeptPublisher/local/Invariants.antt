-- The ledger of the blank.
use Rattle.merge_site.proofs.publisher.KeptPublisher.local.Given as goal

abbrev pub ghosts-local_in_ledger : goal.ghosts-local_in_ledger
ghosts-local_in_ledger g a = record { name = a.blank.name; parts = a.blank.parts }
