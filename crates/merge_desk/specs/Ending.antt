-- How a desk ends.
use Rattle.std.specs.List.{sum_by}
use Rattle.std.specs.Prelude.{List, length, ◌≡◌}
use Rattle.merge_schema.specs.declared.publication.Publication.{Publication}
use Rattle.merge_model.specs.Tables.{PublisherTables}
use Rattle.merge_model.specs.World.{Saying}
use Rattle.merge_desk.specs.Comparing.{FirstDiffering}
use Rattle.merge_desk.specs.Views.{AreToldInCalls, IsJournal, SeatView, seat_calls}
use Rattle.merge_desk.specs.declared.comparing.Difference.{Difference}
use Rattle.merge_desk.specs.declared.entry.Entry.{Entry}

-- This journal was kept, with an entry for each call that these seats made, and none was told more marks than it made calls. It has
-- something else than one of them was told: the difference is the first.
pub record IsDiffering (publication : Publication) (says : Saying) (opening : PublisherTables) (journal : List Entry) (now : PublisherTables) (seats : List SeatView) (d : Difference) : Type 0 where
  pub kept-journal : IsJournal publication says opening journal now
  pub calls : length journal ≡ sum_by seat_calls seats
  pub told : AreToldInCalls seats
  pub differ : FirstDiffering journal seats d.seat d.told d.kept
