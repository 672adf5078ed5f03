-- The event of each step. Steps count from 0, and events from 1.
use Rattle.std.specs.Prelude.{◌+◌}
use Rattle.merge_model.specs.declared.event.Event.{Event}
use Rattle.merge_model.specs.declared.event.Event.TheVariants as event
use Rattle.merge_make.specs.Events.{customer, event_of_clearing, event_of_credit, event_of_delete, event_of_move, order}
use Rattle.merge_make.specs.declared.step.Step.{Step}
use Rattle.merge_make.specs.declared.step.Step.TheVariants as step

abbrev pub event_of : Step → Event
event_of (step.Customer place) = customer (place + 1)
event_of (step.Order place) = order (place + 1)
event_of (step.Credit place) = event_of_credit (place + 1)
event_of (step.Clear place) = event_of_clearing (place + 1)
event_of (step.Cancel place) = event_of_delete (place + 1)
event_of (step.Move place) = event_of_move (place + 1)
event_of (step.Sync site) = event.Sync site
event_of (step.Upload site) = event.SendUpload site
event_of (step.Count site) = event.Count site
event_of (step.Conflicts site) = event.Conflicts site
