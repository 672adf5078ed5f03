-- The lines that are left have the same last one as all, where the one before was kept.
use Rattle.std.proofs.Common.{[], length, ◌≡◌}
use Rattle.merge_script.specs.Lines.{lines_of}
use Rattle.merge_make.specs.Summary.{last_from}
use Rattle.merge_make.proofs.tally.last_line.Given as goal

abbrev pub invariant-loop-last : goal.invariant-loop-last
invariant-loop-last l = last_from l.last (lines_of l.rest) ≡ last_from [] (lines_of l.text)

abbrev pub decreases-loop-last : goal.decreases-loop-last
decreases-loop-last l = length l.rest
