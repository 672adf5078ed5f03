use Rattle.std.specs.Prelude.{◌≡◌, ◌++◌, drop}
use Rattle.merge_site.proofs.copies.copies_of.Given as goal

abbrev pub invariant-loop-edit : goal.invariant-loop-edit
invariant-loop-edit g l = l.copies ++ drop l.edit-index l.edits ≡ l.edits
