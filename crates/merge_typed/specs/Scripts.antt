-- What a script says is typed: what stands in its lines has bounds.
use Rattle.std.specs.Prelude.{List, length, ℕ, ◌^◌, ◌≤◌}
use Rattle.merge_model.specs.Script.Reading.{events_of}
use Rattle.merge_typed.specs.Outside.{EventsAreTyped}

-- of at most so many lines, each of which waits for less than that many seconds
abbrev pub ScriptsAreTyped : Type 0
ScriptsAreTyped = (lines : List (List ℕ)) → length lines ≤ 2 ^ 32 → EventsAreTyped (events_of lines)
