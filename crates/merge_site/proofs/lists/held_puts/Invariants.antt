use Rattle.std.specs.Prelude.{◌≡◌, ◌++◌, drop}
use Rattle.merge_site.specs.Lists.{held_changes}
use Rattle.merge_site.proofs.lists.held_puts.Given as goal

abbrev pub invariant-loop-edit : goal.invariant-loop-edit
invariant-loop-edit l = held_changes l.puts ++ drop l.edit-index l.edits ≡ l.edits
