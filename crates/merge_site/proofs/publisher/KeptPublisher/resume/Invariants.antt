-- The ledger of the blank.
use Rattle.merge_site.proofs.publisher.KeptPublisher.resume.Given as goal

abbrev pub ghosts-restored : goal.ghosts-restored
ghosts-restored g a = record { name = a.blank.name; parts = a.blank.parts }
