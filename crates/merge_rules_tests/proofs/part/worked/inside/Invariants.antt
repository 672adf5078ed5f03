-- The ledger of the blank.
use Rattle.merge_rules_tests.proofs.part.worked.inside.Given as goal

abbrev pub ghosts-filtered : goal.ghosts-filtered
ghosts-filtered a = record { name = a.blank.name; parts = a.blank.parts }
