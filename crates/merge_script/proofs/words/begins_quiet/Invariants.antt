-- The bytes so far are blanks.
use Rattle.std.proofs.Common.{◌≡◌, drop}
use Rattle.merge_script.specs.Words.{words_of}
use Rattle.merge_script.proofs.words.begins_quiet.Given as goal

abbrev pub invariant-loop-byte : goal.invariant-loop-byte
invariant-loop-byte l = words_of l.line ≡ words_of (drop l.byte-index l.line)
