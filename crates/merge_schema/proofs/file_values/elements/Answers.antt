use Rattle.merge_schema.proofs.Arrays.{elements_seen}
use Rattle.merge_schema.proofs.file_values.elements.Goals as goal

pub returns-in-Some : goal.returns-in-Some
returns-in-Some c = rw c.as_slice.ensures.value (elements_seen _ _ c.in-Some.ensures)
