-- What the edits of a step's commit ask of its changes, and the parts of records that they are written from.
use Rattle.std.specs.Prelude.{List, [], ◌∷◌, Option, Some, None}
use Rattle.std.specs.List.{AllByRecursion}
use Rattle.merge_table.specs.declared.edit.Edit.{Edit}
use Rattle.merge_table.specs.declared.edit.Edit.TheVariants.{Put, Take}
use Rattle.merge_conflict.specs.Kinds.{number_of_kind}
use Rattle.merge_conflict.specs.declared.row.ConflictRow.{ConflictRow}
use Rattle.merge_record.specs.Rows.{IsShortPublisherRow, IsShortSubscriberRow}
use Rattle.merge_record.specs.Versions.{IsShortVersion}
use Rattle.merge_keeper.specs.Stored.{kind_of, outstanding_from, outstanding_number, outstanding_to, phase_number}
use Rattle.merge_keeper.specs.declared.states.ConflictHead.{ConflictHead}
use Rattle.merge_keeper.specs.declared.states.PublisherState.{PublisherState}
use Rattle.merge_keeper.specs.declared.states.SubscriberState.{SubscriberState}
use Rattle.merge_keeper.specs.declared.states.Talk.{Talk}
use Rattle.merge_types.specs.declared.identifiers.SiteId.{SiteId}
use Rattle.merge_keeper.specs.declared.stored.PublisherChanges.{PublisherChanges}
use Rattle.merge_keeper.specs.declared.stored.SubscriberChanges.{SubscriberChanges}

-- what is put has a record
abbrev pub IsShortEdit : {K V : Type 0} → (V → Type 0) → Edit K V → Type 0
IsShortEdit P (Put key value) = P value
IsShortEdit P (Take key) = Unit {0}

abbrev pub IsShortLoser : ConflictRow → Type 0
IsShortLoser row = IsShortVersion row.losing

-- counts and lengths of the rows that a step puts fit their fields
pub record ArePublisherShort (c : PublisherChanges) : Type 0 where
  pub rows : AllByRecursion (IsShortEdit IsShortPublisherRow) c.rows
  pub conflicts : AllByRecursion (IsShortEdit IsShortLoser) c.conflicts

pub record AreSubscriberShort (c : SubscriberChanges) : Type 0 where
  pub rows : AllByRecursion (IsShortEdit IsShortSubscriberRow) c.rows
  pub conflicts : AllByRecursion (IsShortEdit IsShortLoser) c.conflicts

-- what the record of a row of the conflict table begins with
abbrev pub head_of_row : ConflictRow → ConflictHead
head_of_row row = record { article = row.article; row = row.row; kind = number_of_kind row.kind; from = row.from; verdict = row.verdict; moment = row.moment }

-- where a subscriber stands with the publisher, as its state record has it
abbrev pub talk_of_changes : SubscriberChanges → Talk
talk_of_changes c = record { seq = c.seq; outstanding = outstanding_number c.outstanding; from = outstanding_from c.outstanding; to = outstanding_to c.outstanding; received = c.received; watermark = c.watermark; kind = kind_of c.outstanding; phase = phase_number c.is_joined }

-- what is there, as a list
abbrev pub list_of_option : {X : Type 0} → Option X → List X
list_of_option None = []
list_of_option (Some x) = x ∷ []

-- the state records after a step
abbrev pub publisher_state_of : PublisherChanges → PublisherState
publisher_state_of c = record { 0 = record { site = 0; changes = c.changes; last_closed = c.filling.last_closed; filled = c.filling.filled; conflicts = c.conflict_count; latest = c.latest.0 } }

abbrev pub subscriber_state_of : SiteId → SubscriberChanges → SubscriberState
subscriber_state_of site c = record {
  front = record { site = site.0; changes = c.changes; last_closed = c.filling.last_closed; filled = c.filling.filled; conflicts = c.conflict_count; latest = c.latest.0 };
  talk = talk_of_changes c;
}
