use Rattle.std.proofs.Common.{append_assoc}
use Rattle.merge_program.proofs.notes.line_note.Goals as goal

pub returns : goal.returns
returns c = simp append_assoc (c.in_ok-format.ensures.ok)
