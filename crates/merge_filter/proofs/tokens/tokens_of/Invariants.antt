use Rattle.std.proofs.Common.{◌≤◌, length}
use Rattle.merge_filter.specs.Words.{AreWords}
use Rattle.merge_filter.specs.Runs.{behind_blanks}
use Rattle.merge_filter.proofs.tokens.tokens_of.Given as goal

abbrev pub invariant-loop-rest : goal.invariant-loop-rest
invariant-loop-rest l = (length l.rest ≤ length l.text) × AreWords l.text (behind_blanks l.text) l.words.items l.places.items l.rest

abbrev pub decreases-loop-rest : goal.decreases-loop-rest
decreases-loop-rest l = length l.rest
