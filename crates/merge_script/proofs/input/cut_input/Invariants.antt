-- The lines so far are in the publication.
use Rattle.std.proofs.Common.{◌≡◌, ◌≤◌, ◌-◌, ◌++◌, length, take, drop}
use Rattle.merge_script.specs.Input.{publication_of, script_of}
use Rattle.merge_script.proofs.input.cut_input.Given as goal

abbrev pub invariant-loop-at : goal.invariant-loop-at
invariant-loop-at l = record {
  within : l.at ≤ length l.input;
  publication : publication_of l.input ≡ take l.at l.input ++ publication_of (drop l.at l.input);
  script : script_of l.input ≡ script_of (drop l.at l.input);
}

abbrev pub decreases-loop-at : goal.decreases-loop-at
decreases-loop-at l = length l.input - l.at
