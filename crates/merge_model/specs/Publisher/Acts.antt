-- What an upload's items do that act, one after the other.
use Rattle.std.specs.Prelude.{Bool, List, None, Option, Some, [], false, filter, filter_map, if◌then◌else◌, length, not, ℕ, ◌++◌, ◌+◌, ◌==◌, ◌∷◌}
use Rattle.merge_types.specs.declared.identifiers.Dot.{Dot}
use Rattle.merge_types.specs.declared.identifiers.Moment.{Moment}
use Rattle.merge_types.specs.declared.identifiers.SiteId.{SiteId}
use Rattle.merge_types.specs.declared.row_key.RowKey.{RowKey as Key}
use Rattle.merge_units.specs.Cases.{case_by, is_conflict}
use Rattle.merge_units.specs.Results.{result_by}
use Rattle.merge_units.specs.Version.{new_tops}
use Rattle.merge_units.specs.declared.case.Case.{Case}
use Rattle.merge_units.specs.declared.result.Decision.{Decision}
use Rattle.merge_units.specs.declared.result.Decision.TheVariants.{Custom, KeepPublisher}
use Rattle.merge_units.specs.declared.site_row.PublisherRow.{PublisherRow}
use Rattle.merge_units.specs.declared.version.Version.{Version}
use Rattle.merge_conflict.specs.Losers.{losing_rows, publisher_site}
use Rattle.merge_conflict.specs.declared.kind.ConflictKind.TheVariants as kind
use Rattle.merge_conflict.specs.declared.losers.Conflict.{Conflict}
use Rattle.merge_conflict.specs.declared.row.ConflictRow.{ConflictRow}
use Rattle.merge_conflict.specs.declared.row.Verdict.TheVariants as verdict
use Rattle.merge_resolve.specs.Priorities.{greatest_priority, incoming_priority}
use Rattle.merge_resolve.specs.Questions.{Asked, question_asked}
use Rattle.merge_resolve.specs.declared.asking.Question.{Question}
use Rattle.merge_resolve.specs.declared.question.Meeting.{Meeting}
use Rattle.merge_schema.specs.declared.publication.Publication.{Publication}
use Rattle.merge_batch.specs.Makers.{maker_of}
use Rattle.merge_batch.specs.declared.request.Upload.{Upload}
use Rattle.merge_batch.specs.declared.request.UploadItem.{UploadItem}
use Rattle.merge_model.specs.Judge.{PublisherJudge}
use Rattle.merge_model.specs.Tables.Keys.{row_at}
use Rattle.merge_model.specs.Tables.Publications.{identity_column, resolver_at, resolver_column, tracking_at, types_at}
use Rattle.merge_model.specs.Tables.{PublisherTables}

abbrev pub key_of_item : UploadItem → Key
key_of_item item = record { article = item.article; row = item.row }

-- the items act whose generation has not acted
abbrev pub acting_items : PublisherJudge → Upload → List UploadItem
acting_items judge m = filter (λ (item : UploadItem). not (judge.has_acted m.site.0 item.generation)) m.items

-- What becomes of an item.
pub data Fate : Type 0 where
  -- the row is new
  New : Fate
  -- the row's tombstone was purged
  Unknown : Fate
  -- it meets the version that the publisher holds. A decision counts in a conflict alone, and decided values get the dot
  Met : (held : Version) → Case → Decision → Dot → Fate

pub record Act : Type 0 where
  pub key : Key
  pub incoming : Version
  pub fate : Fate

-- Questions to resolvers.

-- where, when and with which priorities a version meets the one that the publisher holds
abbrev pub meeting_of : Publication → PublisherJudge → SiteId → Moment → Key → Version → Version → Meeting
meeting_of publication judge site moment key held incoming = record {
  article = key.article;
  row = key.row;
  site = site;
  publisher_priority = greatest_priority publication (new_tops (judge.knows_there key incoming) held.body);
  incoming_priority = incoming_priority publication site.0;
  moment = moment;
}

-- what an article says of its conflicts
abbrev pub asked_at : Publication → ℕ → Asked
asked_at publication place = record {
  tracking = tracking_at publication place;
  resolver = resolver_at publication place;
  column = resolver_column publication place;
  types = types_at publication place;
  identity = identity_column publication place;
}

abbrev pub case_met : PublisherJudge → Key → Version → Version → Case
case_met judge key held incoming = case_by (judge.knows_here key held) (judge.knows_there key incoming) held.body incoming.body

abbrev pub question_on : Publication → PublisherJudge → SiteId → Moment → Key → Version → Option PublisherRow → Option Question
question_on publication judge site moment key incoming None = None
question_on publication judge site moment key incoming (Some held) =
    let case = case_met judge key held.version incoming in
    if is_conflict case
    then Some (question_asked (meeting_of publication judge site moment key held.version incoming) (asked_at publication key.article) held.version.body incoming.body case)
    else None

-- the questions of an upload, in the order of its items; a row stands in an upload once
abbrev pub question_of : Publication → PublisherJudge → SiteId → PublisherTables → UploadItem → Option Question
question_of publication judge site p item = question_on publication judge site p.latest (key_of_item item) item.version (row_at p.rows (key_of_item item))

abbrev pub questions_of : Publication → PublisherJudge → Upload → PublisherTables → List Question
questions_of publication judge m p = filter_map (question_of publication judge m.site p) (acting_items judge m)

-- The acts, with a list of what the decisions of the conflicts count as.

abbrev pub decision_for : Case → List Decision → Decision
decision_for case [] = KeepPublisher
decision_for case (decision ∷ decisions) = if is_conflict case then decision else KeepPublisher

-- a row is new where its maker is the uploader and the change that made it has not acted
abbrev pub is_new_row : PublisherJudge → SiteId → Key → Bool
is_new_row judge site key = elim (maker_of key.row.0) [
  | None ↦ false
  | Some dot ↦ if dot.site.0 == site.0 then judge.is_unmet site.0 dot.number else false
]

abbrev pub fate_by : PublisherJudge → SiteId → ℕ → List Decision → UploadItem → Option PublisherRow → Fate
fate_by judge site number decisions item None = if is_new_row judge site (key_of_item item) then New else Unknown
fate_by judge site number decisions item (Some held) =
    let case = case_met judge (key_of_item item) held.version item.version in
    Met held.version case (decision_for case decisions) (record { site = publisher_site; number = number })

abbrev pub act_of : PublisherJudge → SiteId → PublisherTables → ℕ → List Decision → UploadItem → Act
act_of judge site p number decisions item = record {
  key = key_of_item item;
  incoming = item.version;
  fate = fate_by judge site number decisions item (row_at p.rows (key_of_item item));
}

-- how many changes of the publisher a decision makes
abbrev pub decided_changes : Decision → ℕ
decided_changes (Custom values) = 1
decided_changes decision = 0

abbrev pub made_by : Fate → ℕ
made_by (Met held case decision dot) = decided_changes decision
made_by fate = 0

-- the decisions that are left behind an act
abbrev pub without_first : List Decision → List Decision
without_first [] = []
without_first (decision ∷ decisions) = decisions

abbrev pub left_by : Fate → List Decision → List Decision
left_by (Met held case decision dot) decisions = if is_conflict case then without_first decisions else decisions
left_by fate decisions = decisions

-- the publisher's next change has this number
abbrev pub acts_from : PublisherJudge → SiteId → PublisherTables → ℕ → List Decision → List UploadItem → List Act
acts_from judge site p number decisions [] = []
acts_from judge site p number decisions (item ∷ items) =
    let act = act_of judge site p number decisions item in
    act ∷ acts_from judge site p (number + made_by act.fate) (left_by act.fate decisions) items

abbrev pub acts_of : PublisherJudge → Upload → List Decision → PublisherTables → List Act
acts_of judge m decisions p = acts_from judge m.site p (p.changes + 1) decisions (acting_items judge m)

-- What the acts leave.

-- the version that a row gets
abbrev pub version_by : Version → Fate → Option Version
version_by incoming New = Some incoming
version_by incoming Unknown = None
version_by incoming (Met held case decision dot) = Some (result_by case held incoming decision dot)

abbrev pub version_of_act : Act → Option (Key × Version)
version_of_act act = elim (version_by act.incoming act.fate) [
  | None ↦ None
  | Some version ↦ Some (act.key, version)
]

abbrev pub versions_of : List Act → List (Key × Version)
versions_of acts = filter_map version_of_act acts

abbrev pub changes_by : List Act → ℕ
changes_by [] = 0
changes_by (act ∷ acts) = made_by act.fate + changes_by acts

-- the rows that an act adds to the conflict table, numbered from this on
abbrev pub purged_row : ℕ → SiteId → Moment → Act → ConflictRow
purged_row number site moment act = record {
  number = number;
  article = act.key.article;
  row = act.key.row;
  kind = kind.DeleteWins;
  losing = act.incoming;
  from = site;
  verdict = verdict.Purged;
  moment = moment;
}

-- a conflict of a row, by what its losing versions keep of it
abbrev pub conflict_of : Publication → SiteId → Moment → ℕ → Key → Conflict
conflict_of publication site moment number key = record {
  number = number;
  article = key.article;
  row = key.row;
  tracking = tracking_at publication key.article;
  site = site;
  moment = moment;
}

abbrev pub lost_by : Publication → SiteId → Moment → ℕ → Act → Fate → List ConflictRow
lost_by publication site moment number act New = []
lost_by publication site moment number act Unknown = purged_row number site moment act ∷ []
lost_by publication site moment number act (Met held case decision dot) =
    if is_conflict case then losing_rows (conflict_of publication site moment number act.key) held act.incoming decision else []

abbrev pub lost_from : Publication → SiteId → Moment → ℕ → List Act → List ConflictRow
lost_from publication site moment number [] = []
lost_from publication site moment number (act ∷ acts) =
    let rows = lost_by publication site moment number act act.fate in
    rows ++ lost_from publication site moment (number + length rows) acts
