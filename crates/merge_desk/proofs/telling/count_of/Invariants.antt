use Rattle.std.specs.Prelude.{◌≡◌, count_by, take}
use Rattle.merge_desk.specs.Summary.{is_of}
use Rattle.merge_desk.proofs.telling.count_of.Given as goal

abbrev pub invariant-loop-entry : goal.invariant-loop-entry
invariant-loop-entry l = l.count ≡ count_by (is_of l.kind) (take l.entry-index l.journal)
