-- What a publisher makes of a request, where the decisions on its conflicts are known.
use Rattle.std.specs.Prelude.{List, Result, [], ℕ}
use Rattle.merge_types.specs.declared.identifiers.Moment.{Moment}
use Rattle.merge_units.specs.declared.result.Decision.{Decision}
use Rattle.merge_schema.specs.declared.publication.Publication.{Publication}
use Rattle.merge_batch.specs.declared.refusal.Refusal.{Refusal}
use Rattle.merge_batch.specs.declared.reply.Reply.{Reply}
use Rattle.merge_batch.specs.declared.reply.Reply.TheVariants as reply
use Rattle.merge_batch.specs.declared.request.Request.{Request}
use Rattle.merge_batch.specs.declared.request.Request.TheVariants as request
use Rattle.merge_model.specs.Judge.ByNumbers.{by_numbers}
use Rattle.merge_model.specs.World.Calls.{as_reply}
use Rattle.merge_model.specs.Publisher.PublisherDownload.{download}
use Rattle.merge_model.specs.Publisher.PublisherJoin.{join}
use Rattle.merge_model.specs.Publisher.PublisherRanges.{ranges}
use Rattle.merge_model.specs.Publisher.PublisherUpload.{upload}
use Rattle.merge_model.specs.World.Steps.{kept_decisions, upload_questions}
use Rattle.merge_model.specs.Tables.{PublisherTables}
use Rattle.merge_model.specs.World.{Saying}

-- A publisher that holds its resolvers: its publication, its tables, how often its store failed, what each resolver says,
-- and how often each was asked.
pub record DraftingView : Type 0 where
  pub publication : Publication
  pub tables : PublisherTables
  pub faults : ℕ
  pub says : Saying
  pub tallies : List ℕ

-- what becomes of the tables by a request, and its reply, where the decisions on its conflicts count as these, in the order of its items
abbrev pub result_with_decisions : Publication → Moment → Request → List Decision → PublisherTables → Result (PublisherTables × Reply) Refusal
result_with_decisions publication now (request.Join m) decisions p = as_reply reply.Joined (join publication now m p)
result_with_decisions publication now (request.Upload m) decisions p = as_reply reply.Uploaded (upload publication (by_numbers p) now m decisions p)
result_with_decisions publication now (request.Ranges m) decisions p = as_reply reply.Ranged (ranges publication (by_numbers p) now m p)
result_with_decisions publication now (request.Download m) decisions p = as_reply reply.Downloaded (download publication (by_numbers p) now m p)

-- the decisions on the conflicts of a request, where each resolver says what it says and was asked so often before
abbrev pub decisions_on : Publication → Saying → List ℕ → Moment → Request → PublisherTables → List Decision
decisions_on publication says tallies now (request.Upload m) p = kept_decisions says tallies (upload_questions publication (by_numbers p) now m p)
decisions_on publication says tallies now m p = []
