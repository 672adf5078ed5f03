use Rattle.std.specs.Prelude.{◌≡◌, ◌++◌, drop}
use Rattle.merge_site.specs.Lists.{closing_takes_by}
use Rattle.merge_site.proofs.lists.take_closings.Given as goal

abbrev pub invariant-loop-closing : goal.invariant-loop-closing
invariant-loop-closing l = l.edits ++ closing_takes_by l.forgets (drop l.closing-index l.closings) ≡ l.fn.edits ++ closing_takes_by l.forgets l.closings
