use Rattle.std.specs.Prelude.{◌≡◌, map, take}
use Rattle.merge_table.specs.declared.edit.Edit.{Edit}
use Rattle.merge_table.specs.declared.edit.Edit.TheVariants.{Take}
use Rattle.merge_gens.specs.declared.index.IndexEntry.{IndexEntry}
use Rattle.merge_pub.proofs.old_rows.entry_takes.Given as goal

abbrev pub invariant-loop-entry : goal.invariant-loop-entry
invariant-loop-entry l = l.edits ≡ map (λ (entry : IndexEntry). (let edit : Edit IndexEntry (Unit {0}) = Take entry in edit)) (take l.entry-index l.gone)
