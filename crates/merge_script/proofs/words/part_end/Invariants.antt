-- No blank so far parts the text.
use Rattle.std.proofs.Common.{take, drop}
use Rattle.merge_script.proofs.WordParts.{GoesOn}
use Rattle.merge_script.proofs.words.part_end.Given as goal

abbrev pub invariant-loop-i : goal.invariant-loop-i
invariant-loop-i l = GoesOn l.text (take l.i l.text) l.place (drop l.i l.text)
