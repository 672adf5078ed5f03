-- The ledger of the blank.
use Rattle.merge_rules_tests.proofs.part.worked.chain_holds.Given as goal

abbrev pub ghosts-chain : goal.ghosts-chain
ghosts-chain a = record { name = a.blank.name; parts = a.blank.parts }
