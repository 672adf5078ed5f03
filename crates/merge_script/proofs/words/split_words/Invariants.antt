-- The words so far and those of the rest.
use Rattle.std.proofs.Common.{◌≡◌, ◌++◌, map, length}
use Rattle.merge_script.specs.Words.{words_of}
use Rattle.merge_script.proofs.words.split_words.Given as goal

abbrev pub invariant-loop-rest : goal.invariant-loop-rest
invariant-loop-rest l = map (λ w. w.now) l.words.items ++ words_of l.rest ≡ words_of l.line

abbrev pub decreases-loop-rest : goal.decreases-loop-rest
decreases-loop-rest l = length l.rest
