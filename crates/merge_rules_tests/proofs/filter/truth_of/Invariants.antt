-- The ledger of the blank.
use Rattle.merge_rules_tests.proofs.filter.truth_of.Given as goal

abbrev pub ghosts-truth_counted : goal.ghosts-truth_counted
ghosts-truth_counted a = record { name = a.blank.name; parts = a.blank.parts }
