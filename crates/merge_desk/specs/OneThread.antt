-- What one thread tells the seats of a desk.
use Rattle.std.specs.Prelude.{List, [], if◌then◌else◌, ℕ, ◌+◌, ◌==◌, ◌∷◌, ◌≡◌}
use Rattle.std.specs.List.{AllByRecursion}
use Rattle.merge_schema.specs.declared.publication.Publication.{Publication}
use Rattle.merge_model.specs.Tables.{PublisherTables}
use Rattle.merge_desk.specs.Marks.{mark_on}
use Rattle.merge_desk.specs.Replay.{answer_to}
use Rattle.merge_desk.specs.Views.{SeatView}
use Rattle.merge_desk.specs.declared.entry.Entry.{Entry}
use Rattle.merge_desk.specs.declared.mark.Mark.{Mark}

-- One thread answers the requests of a journal in their order, of which the first has this place, and tells a seat the marks of those that
-- it asked: of each request and of the reply.
abbrev pub told_from : Publication → PublisherTables → (place seat : ℕ) → List Entry → List Mark
told_from publication p place seat [] = []
told_from publication p place seat (e ∷ es) =
    let done = answer_to publication p e in
    let behind = told_from publication done.0 (place + 1) seat es in
    if e.seat == seat then mark_on place e.moment e.request done.1 ∷ behind else behind

-- each seat was told what one thread tells it since the opening
abbrev pub AllToldAsOne : Publication → (opening : PublisherTables) → List Entry → List SeatView → Type 0
AllToldAsOne publication opening journal seats = AllByRecursion (λ (s : SeatView). s.told ≡ told_from publication opening 1 s.number journal) seats
