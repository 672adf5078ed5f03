-- A door was opened for a day, or not.
use Rattle.std.proofs.Common.{Err, ap}
use Rattle.merge_service.proofs.Days.{counted-so, day-so, no-door}
use Rattle.merge_service.proofs.opening.open_day.Goals as goal

pub returns-in-Err-clause-day : goal.returns-in-Err-clause-day
returns-in-Err-clause-day g c = no-door _ _ _ c.args.workers c.args.requests (g.T.Doors.handed c.door.new.self) _ _ _ _ c.undoored.ensures (λ is. c.in-Err.ensures.failed (ap (λ f. Err f) is))

pub returns-clause-day : goal.returns-clause-day
returns-clause-day g c = day-so _ _ _ _ _ _ _ _ _ _ (counted-so _ _ _ _ c.in-Ok.ensures.kept c.door_back.ensures.count) _ _ c.ended.ensures _ c.door_back.ensures.handed c.hold_day-served.ensures
