use Rattle.std.proofs.Common.{◌≡◌, ◌++◌, take, map}
use Rattle.std.specs.List.{zip}
use Rattle.merge_table.specs.declared.edit.Edit.TheVariants.{Take}
use Rattle.merge_steps.specs.Rows as row
use Rattle.merge_steps.proofs.edits.mapping_edits.Given as goal

abbrev pub invariant-loop-place : goal.invariant-loop-place
invariant-loop-place l = l.edits.items ≡ map row.put_edit (zip l.told l.generations) ++ map Take (take l.place-index l.gone)
