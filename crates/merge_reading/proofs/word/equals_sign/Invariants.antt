-- no byte so far is the sign
use Rattle.std.proofs.Common.{◌≡◌, ℕ, ◌<◌, get_or, false}
use Rattle.merge_model.specs.Script.Reading.{is_equals_sign}
use Rattle.merge_reading.proofs.word.equals_sign.Given as goal

abbrev pub invariant-loop-at : goal.invariant-loop-at
invariant-loop-at l = (k : ℕ) → k < l.at → is_equals_sign (get_or l.word k 0) ≡ false
