use Rattle.std.specs.Prelude.{◌≡◌, count_by, take}
use Rattle.merge_desk.specs.Summary.{is_refusal}
use Rattle.merge_desk.proofs.telling.count_refused.Given as goal

abbrev pub invariant-loop-entry : goal.invariant-loop-entry
invariant-loop-entry l = l.count ≡ count_by is_refusal (take l.entry-index l.journal)
