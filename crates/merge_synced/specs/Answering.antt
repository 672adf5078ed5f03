-- The model's publisher behind a link: what it reads in the bytes of a request, what it makes of it, and the bytes that tell what
-- it answers.
use Rattle.std.specs.Prelude.{Err, List, Ok, Result, [], ℕ, ◌∷◌, ◌≡◌}
use Rattle.merge_types.specs.declared.identifiers.Moment.{Moment}
use Rattle.merge_resolve.specs.Asked.{tallies_after}
use Rattle.merge_resolve.specs.declared.case.ConflictCase.{ConflictCase}
use Rattle.merge_schema.specs.declared.publication.Publication.{Publication}
use Rattle.merge_batch.specs.Heads.{answered_kind}
use Rattle.merge_batch.specs.declared.refusal.Refusal.{Refusal}
use Rattle.merge_batch.specs.declared.reply.Reply.{Reply}
use Rattle.merge_batch.specs.declared.request.Request.{Request}
use Rattle.merge_json.specs.Messages.{IsAnswered, IsSent}
use Rattle.merge_wire.specs.Messages.{IsRequest, IsResponse}
use Rattle.merge_wire.specs.declared.message.Message.{Message}
use Rattle.merge_model.specs.Tables.{PublisherTables}
use Rattle.merge_model.specs.World.Calls.{questions_on, result_of_request}
use Rattle.merge_model.specs.World.{Saying, World}
use Rattle.merge_link.specs.declared.link.Exchange.{Exchange}
use Rattle.merge_desk.specs.Replay.{tables_and_reply}
use Rattle.merge_serve.specs.Answers.{reply_status}

-- bytes that are read as this request: they are a message over HTTP, whose path and body tell it
abbrev pub AreRead : List ℕ → Request → Type 0
AreRead bytes r = (m : Message) × IsRequest bytes m × IsSent m.path m.body r

-- bytes that tell this reply: they begin with a response of its status, whose body tells it
abbrev pub AreTold : List ℕ → Reply → Type 0
AreTold bytes r = (m : Message) × IsResponse bytes m × (m.status ≡ reply_status r) × IsAnswered (answered_kind r) m.body r

-- how a publisher stands: its tables, and how often each resolver was asked
pub record Serving : Type 0 where
  pub publisher : PublisherTables
  pub tallies : List ℕ

abbrev pub serving_in : World → Serving
serving_in w = record { publisher = w.publisher; tallies = w.tallies }

-- the questions of a request count where it is not refused
abbrev pub counted_by : Result (PublisherTables × Reply) Refusal → List (ℕ × ConflictCase) → List ℕ → List ℕ
counted_by (Ok done) questions tallies = tallies_after tallies questions
counted_by (Err why) questions tallies = tallies

-- All of it at one moment.
module _ (publication : Publication) (says : Saying) (now : Moment) where
  abbrev pub made_of : Request → Serving → Result (PublisherTables × Reply) Refusal
  made_of r p = result_of_request publication says p.tallies now r p.publisher

  -- the reply to a request, which may tell a refusal
  abbrev pub reply_by : Request → Serving → Reply
  reply_by r p = (tables_and_reply p.publisher (made_of r p)).1

  -- and how the publisher stands behind it
  abbrev pub behind : Request → Serving → Serving
  behind r p = record {
    publisher = (tables_and_reply p.publisher (made_of r p)).0;
    tallies = counted_by (made_of r p) (questions_on publication now r p.publisher) p.tallies;
  }

  -- the publisher answered in these exchanges, one after the other
  abbrev pub Answers : List Exchange → Serving → Serving → Type 0
  Answers [] old new = new ≡ old
  Answers (exchange ∷ exchanges) old new = (r : Request) × AreRead exchange.request r × AreTold exchange.response (reply_by r old) × Answers exchanges (behind r old) new
