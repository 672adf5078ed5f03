-- An upload by its parts: what its items are held against, and the tables after it.
use Rattle.std.specs.List.{AllByRecursion}
use Rattle.std.specs.Prelude.{List, Result, [], if◌then◌else◌, length, map, nat_lt, ℕ, ◌++◌, ◌<◌, ◌^◌, ◌≤◌}
use Rattle.merge_types.specs.declared.identifiers.Moment.{Moment}
use Rattle.merge_conflict.specs.Rising.{RiseAbove}
use Rattle.merge_conflict.specs.declared.row.ConflictRow.{ConflictRow}
use Rattle.merge_resolve.specs.Questions.{question_of as asked_of}
use Rattle.merge_resolve.specs.declared.case.ConflictCase.{ConflictCase}
use Rattle.merge_units.specs.declared.result.Decision.{Decision}
use Rattle.merge_schema.specs.declared.publication.Publication.{Publication}
use Rattle.merge_part.specs.Taking.{EachRowOnce}
use Rattle.merge_batch.specs.Known.{Known}
use Rattle.merge_batch.specs.declared.refusal.Refusal.{Refusal}
use Rattle.merge_batch.specs.declared.reply.Uploaded.{Uploaded}
use Rattle.merge_batch.specs.declared.request.Upload.{Upload}
use Rattle.merge_model.specs.Judge.ByNumbers.{by_numbers, received_by_number, received_number_by_number}
use Rattle.merge_model.specs.Publisher.Entries.{changed_by}
use Rattle.merge_model.specs.Judge.{PublisherJudge}
use Rattle.merge_model.specs.Publisher.{later}
use Rattle.merge_model.specs.Publisher.PublisherUpload.{upload}
use Rattle.merge_model.specs.World.Steps.{kept_decisions, upload_questions}
use Rattle.merge_model.specs.Tables.{PublisherTables}
use Rattle.merge_model.specs.World.{Saying}
use Rattle.merge_steps.specs.Keeps.{FitsHere}
use Rattle.merge_steps.specs.Step.{changing}
use Rattle.merge_steps.specs.Uploading.{known_of, sites_with}
use Rattle.merge_steps.specs.Working.{row_change}
use Rattle.merge_steps.specs.declared.acting.Acting.{Acting}
use Rattle.merge_steps.specs.declared.acting.Arrival.{Arrival}

-- the decisions on an upload's conflicts as they count, where each resolver says what it says and was asked so often before
abbrev pub decided_on : Publication → Saying → List ℕ → Moment → Upload → PublisherTables → List Decision
decided_on publication says tallies now m p = kept_decisions says tallies (upload_questions publication (by_numbers p) now m p)

-- what an upload does with these, and the questions of one that is not refused
abbrev pub upload_by : Publication → Saying → List ℕ → Moment → Upload → PublisherTables → Result (PublisherTables × Uploaded) Refusal
upload_by publication says tallies now m p = upload publication (by_numbers p) now m (decided_on publication says tallies now m p) p

abbrev pub asked_on : Publication → Moment → Upload → PublisherTables → List (ℕ × ConflictCase)
asked_on publication now m p = map asked_of (upload_questions publication (by_numbers p) now m p)

abbrev pub known_in : Publication → PublisherTables → Known
known_in publication p = known_of publication p.changes p.rows p.sites p.grants

abbrev pub arrival_of : Moment → Upload → PublisherTables → Arrival
arrival_of now m p = record {
  site = m.site;
  received = received_by_number p m.site.0;
  received_number = received_number_by_number p m.site.0;
  moment = later now p.latest;
}

-- no item has acted yet
abbrev pub none_acted : PublisherTables → Acting
none_acted p = record { versions = []; acted = []; lost = []; decisions = []; changes = p.changes; conflict_count = p.conflict_count }

-- what holds of all that the items did
pub record IsActed (publication : Publication) (p : PublisherTables) (acting : Acting) : Type 0 where
  pub fits : AllByRecursion (FitsHere publication acting.changes) acting.versions
  pub once : EachRowOnce (map row_change acting.versions)
  pub few : length acting.versions < 2 ^ 61
  pub changes : p.changes ≤ acting.changes
  pub conflicts : p.conflict_count ≤ acting.conflict_count
  pub rising : RiseAbove p.conflict_count acting.lost
  pub numbers : AllByRecursion (λ (row : ConflictRow). row.number ≤ acting.conflict_count) acting.lost

-- the tables with what the items did, but for rows, mappings and generations
abbrev pub with_acting : Arrival → Upload → Acting → PublisherTables → PublisherTables
with_acting arrival m acting p = record p {
  changes = acting.changes;
  conflict_count = acting.conflict_count;
  latest = arrival.moment;
  conflicts = p.conflicts ++ acting.lost;
  sites = sites_with arrival m p.sites;
}

abbrev pub acted_tables : Publication → PublisherJudge → Arrival → Upload → Acting → PublisherTables → PublisherTables
acted_tables publication judge arrival m acting p = changed_by publication judge (changing acting.versions acting.acted m.site.0) (with_acting arrival m acting p)

-- an upload whose generations have all acted changes nothing but the moment
unfoldable pub taken_tables : Publication → PublisherJudge → Arrival → Upload → Acting → PublisherTables → PublisherTables
taken_tables publication judge arrival m acting p = if nat_lt arrival.received m.to then acted_tables publication judge arrival m acting p else record p { latest = arrival.moment }
