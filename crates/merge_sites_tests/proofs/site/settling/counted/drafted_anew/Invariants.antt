-- The ledger of the blank.
use Rattle.merge_sites_tests.proofs.site.settling.counted.drafted_anew.Given as goal

abbrev pub ghosts-drafted : goal.ghosts-drafted
ghosts-drafted a = record { name = a.blank.name; parts = a.blank.parts }
