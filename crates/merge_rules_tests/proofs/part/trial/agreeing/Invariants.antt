-- The ledger of the blank.
use Rattle.merge_rules_tests.proofs.part.trial.agreeing.Given as goal

abbrev pub ghosts-counted_agreeing : goal.ghosts-counted_agreeing
ghosts-counted_agreeing a = record { name = a.blank.name; parts = a.blank.parts }
