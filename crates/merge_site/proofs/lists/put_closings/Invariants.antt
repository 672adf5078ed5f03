use Rattle.std.specs.Prelude.{◌≡◌, ◌++◌, drop, map}
use Rattle.merge_site.specs.Lists.{closing_put}
use Rattle.merge_site.proofs.lists.put_closings.Given as goal

abbrev pub invariant-loop-closing : goal.invariant-loop-closing
invariant-loop-closing l = l.edits ++ map closing_put (drop l.closing-index l.closed) ≡ l.fn.edits ++ map closing_put l.closed
