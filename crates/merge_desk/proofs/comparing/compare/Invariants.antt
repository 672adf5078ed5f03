use Rattle.std.proofs.Common.{drop}
use Rattle.merge_desk.proofs.Matching.{Decides}
use Rattle.merge_desk.proofs.comparing.compare.Given as goal

abbrev pub invariant-loop-entry : goal.invariant-loop-entry
invariant-loop-entry l = Decides l.number l.told l.journal l.rest (drop l.entry-index l.journal)
