use Rattle.std.specs.Prelude.{length}
use Rattle.std.proofs.Common.{ap, rules, ◌∙◌}
use Rattle.std.proofs.lemmas.List.FromFn.{length-map-range_with_len}
use Rattle.merge_gens.specs.Filling.{generation_of}
use Rattle.merge_steps.proofs.step.work_out.Goals as goal

pub row_edits-requires : goal.row_edits-requires
row_edits-requires c = record { counts = ap length (c.deref.ensures.value ∙ c.in_ok-generations.ensures.generations) ∙ length-map-range_with_len (generation_of _) 0 _ ∙ search rules }
