-- The ledger of the blank.
use Rattle.merge_sites_tests.proofs.site.settling.counted.handled_anew.Given as goal

abbrev pub ghosts-handled : goal.ghosts-handled
ghosts-handled a = record { name = a.blank.name; parts = a.blank.parts }
