-- what was read so far stands before what the words behind say
use Rattle.std.proofs.Common.{◌≡◌, ◌+◌, ◌<◌, ◌^◌, length, map}
use Rattle.merge_model.specs.Script.Reading.{settings_in}
use Rattle.merge_reading.proofs.Settings.{behind}
use Rattle.merge_reading.proofs.events.settings_in.Given as goal

abbrev pub invariant-loop-rest : goal.invariant-loop-rest
invariant-loop-rest l = record {
  said : settings_in l.number (map (λ w. w.now) l.words) ≡ behind l.settings (settings_in l.at (map (λ w. w.now) l.rest));
  fits : l.at + length l.rest < 2 ^ 64;
}

abbrev pub decreases-loop-rest : goal.decreases-loop-rest
decreases-loop-rest l = length l.rest
