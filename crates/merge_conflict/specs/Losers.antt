-- The rows that a decided conflict adds to the conflict table.
use Rattle.std.specs.Prelude.{ℕ, ◌+◌, List, [], ◌∷◌, if◌then◌else◌}
use Rattle.merge_types.specs.declared.identifiers.SiteId.{SiteId}
use Rattle.merge_types.specs.declared.changes.Tracking.{Tracking}
use Rattle.merge_types.specs.declared.changes.Tracking.TheVariants as tracking
use Rattle.merge_units.specs.declared.version.Version.{Version}
use Rattle.merge_units.specs.declared.result.Decision.{Decision}
use Rattle.merge_units.specs.declared.result.Decision.TheVariants.{KeepPublisher, TakeSubscriber, Custom}
use Rattle.merge_units.specs.Version.{is_live}
use Rattle.merge_conflict.specs.declared.kind.ConflictKind.{ConflictKind}
use Rattle.merge_conflict.specs.declared.kind.ConflictKind.TheVariants as kind
use Rattle.merge_conflict.specs.declared.losers.Conflict.{Conflict}
use Rattle.merge_conflict.specs.declared.row.ConflictRow.{ConflictRow}
use Rattle.merge_conflict.specs.declared.row.Verdict.{Verdict}
use Rattle.merge_conflict.specs.declared.row.Verdict.TheVariants as verdict

abbrev pub publisher_site : SiteId
publisher_site = record { 0 = 0 }

-- an update against an update
abbrev pub update_kind : Tracking → ConflictKind
update_kind tracking.Row = kind.RowUpdate
update_kind tracking.ByColumn = kind.ColumnUpdate

-- by the version that loses and the one that it met: a live version loses to a delete, and a delete to a live one
abbrev pub losing_kind : Tracking → Version → Version → ConflictKind
losing_kind tracking losing other =
    if is_live losing.body then (if is_live other.body then update_kind tracking else kind.DeleteWins) else kind.UpdateWins

-- the row of a losing version, which keeps it whole
abbrev pub losing_row : ℕ → Conflict → Version → ConflictKind → SiteId → Verdict → ConflictRow
losing_row number conflict losing kind from verdict = record {
  number = number;
  article = conflict.article;
  row = conflict.row;
  kind = kind;
  losing = losing;
  from = from;
  verdict = verdict;
  moment = conflict.moment;
}

-- what the publisher's version leaves where it loses, and what the incoming one does
abbrev pub our_row : ℕ → Conflict → Version → Version → Verdict → ConflictRow
our_row number conflict publisher incoming verdict = losing_row number conflict publisher (losing_kind conflict.tracking publisher incoming) publisher_site verdict

abbrev pub their_row : ℕ → Conflict → Version → Version → Verdict → ConflictRow
their_row number conflict publisher incoming verdict = losing_row number conflict incoming (losing_kind conflict.tracking incoming publisher) conflict.site verdict

-- where other values are decided both versions lose, the publisher's first
abbrev pub losing_rows : Conflict → Version → Version → Decision → List ConflictRow
losing_rows conflict publisher incoming KeepPublisher = their_row conflict.number conflict publisher incoming verdict.Publisher ∷ []
losing_rows conflict publisher incoming TakeSubscriber = our_row conflict.number conflict publisher incoming verdict.Subscriber ∷ []
losing_rows conflict publisher incoming (Custom values) =
    our_row conflict.number conflict publisher incoming verdict.Custom ∷ their_row (conflict.number + 1) conflict publisher incoming verdict.Custom ∷ []
