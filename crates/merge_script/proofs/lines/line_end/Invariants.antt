-- No byte so far ends it.
use Rattle.std.proofs.Common.{◌≡◌, ℕ, ◌<◌, get_or, false}
use Rattle.merge_script.specs.Lines.{is_line_feed}
use Rattle.merge_script.proofs.lines.line_end.Given as goal

abbrev pub invariant-loop-i : goal.invariant-loop-i
invariant-loop-i l = (k : ℕ) → k < l.i → is_line_feed (get_or l.text k 0) ≡ false
