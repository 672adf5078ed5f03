-- What a script has that changes one site: the events of its lines, and why it ends before its last line.
use Rattle.std.specs.Prelude.{Bool, List, None, Option, Some, [], false, true, if◌then◌else◌, ℕ, ◌+◌, ◌==◌, ◌∷◌}
use Rattle.merge_types.specs.declared.identifiers.SiteId.{SiteId}
use Rattle.merge_model.specs.Script.Reading.{line_of}
use Rattle.merge_model.specs.declared.event.Event.{Event}
use Rattle.merge_model.specs.declared.event.Event.TheVariants as event
use Rattle.merge_model.specs.declared.event.Line.{Line}
use Rattle.merge_model.specs.declared.event.Line.TheVariants.{Quiet, Event as Does, NoEvent}
use Rattle.merge_command.specs.declared.stop.Stop.{Stop}
use Rattle.merge_command.specs.declared.stop.Stop.TheVariants as stop

-- Whether an event is one of a site that stands alone: a local change, a closing, a new beginning or a report of this site. The
-- publisher forgets what is old. Messages, sessions, waits, restarts and partitions are none.
abbrev pub is_taken : SiteId → Event → Bool
is_taken here (event.Insert site article values) = site.0 == here.0
is_taken here (event.Update site article row values) = site.0 == here.0
is_taken here (event.Delete site article row) = site.0 == here.0
is_taken here (event.Close site) = site.0 == here.0
is_taken here (event.Reinit site) = site.0 == here.0
is_taken here event.Purge = here.0 == 0
is_taken here (event.Show site article) = site.0 == here.0
is_taken here (event.Conflicts site) = site.0 == here.0
is_taken here (event.Ranges site) = site.0 == here.0
is_taken here (event.Generations site) = site.0 == here.0
is_taken here (event.Count site) = site.0 == here.0
is_taken here e = false

-- the event of a line before those of the lines behind it; a line that is no event, or none of the site, hides these
abbrev pub taken_by : SiteId → Line → List Event → List Event
taken_by here Quiet behind = behind
taken_by here (Does e) behind = if is_taken here e then e ∷ behind else []
taken_by here (NoEvent word) behind = []

-- the events of the lines before the first that is none of the site
abbrev pub taken_of : SiteId → List (List ℕ) → List Event
taken_of here [] = []
taken_of here (line ∷ lines) = taken_by here (line_of line) (taken_of here lines)

-- why a line ends the script, or what does behind it
abbrev pub halt_by : SiteId → ℕ → Line → Option Stop → Option Stop
halt_by here number Quiet behind = behind
halt_by here number (Does e) behind = if is_taken here e then behind else Some (stop.NotTaken number)
halt_by here number (NoEvent word) behind = Some (stop.NoEvent number word)

-- the first line that is no event, or none of the site, of lines that are counted from a number on
abbrev pub halt_from : SiteId → ℕ → List (List ℕ) → Option Stop
halt_from here number [] = None
halt_from here number (line ∷ lines) = halt_by here number (line_of line) (halt_from here (number + 1) lines)

abbrev pub halt_of : SiteId → List (List ℕ) → Option Stop
halt_of here lines = halt_from here 1 lines

-- whether a script ends for one of its lines
abbrev pub is_halt : Stop → Bool
is_halt (stop.NoEvent line word) = true
is_halt (stop.NotTaken line) = true
is_halt other = false
