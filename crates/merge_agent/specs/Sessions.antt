-- A session: its steps one after the other, each by what the subscriber's tables are and what was told, until it is done
-- or something is refused or fails.
use Rattle.std.specs.Prelude.{◌≡◌, ◌+◌, ◌++◌, ℕ, List, [], ◌∷◌, flat_map, if◌then◌else◌, nat_le, unwrap_or, Result, Ok, Err, Option, None, Some}
use Rattle.merge_types.specs.declared.identifiers.Moment.{Moment}
use Rattle.merge_schema.specs.declared.publication.Publication.{Publication}
use Rattle.merge_batch.specs.declared.reply.Downloaded.{Downloaded}
use Rattle.merge_batch.specs.declared.reply.Reply.{Reply}
use Rattle.merge_model.specs.World.Steps.{Sending, SendDownload, SendJoin, SendRanges, SendUpload}
use Rattle.merge_model.specs.Tables.{SubscriberTables}
use Rattle.merge_model.specs.declared.letter.Message.TheVariants.{Replies}
use Rattle.merge_world.specs.Messages.{request_of_sending}
use Rattle.merge_world.specs.Sessions.{brings_found, download_in, grants, one_if}
use Rattle.merge_link.specs.declared.link.Exchange.{Exchange}
use Rattle.merge_agent.specs.Meetings.{Meeting, Passes}
use Rattle.merge_agent.specs.Turns.{Break, Breaks, HasCauses, Takes, Turn, exchanges_in, moments_in}
use Rattle.merge_agent.specs.declared.fault.Done.{Done}
use Rattle.merge_agent.specs.declared.fault.SessionFault.{SessionFault}

-- What a session does next: it joins, uploads, asks for ranges, or downloads up to the last closed generation that the first
-- reply told; or it is over.
pub data Stage : Type 0 where
  Joins : Stage
  Uploads : Stage
  Asks : Stage
  Downloads : Option ℕ → Stage
  Over : Stage

-- a session under way: its site's tables, how many uploads were answered, and how many replies brought generations
pub record Session : Type 0 where
  pub stage : Stage
  pub tables : SubscriberTables
  pub uploads : ℕ
  pub downloads : ℕ

abbrev pub at : Stage → SubscriberTables → ℕ → ℕ → Session
at stage tables uploads downloads = record { stage = stage; tables = tables; uploads = uploads; downloads = downloads }

-- a site that has joined does not join again
abbrev pub session_at_start : SubscriberTables → Session
session_at_start s = at (if s.is_joined then Uploads else Joins) s 0 0

abbrev pub sending_in : Stage → Sending
sending_in Joins = SendJoin
sending_in Uploads = SendUpload
sending_in Asks = SendRanges
sending_in (Downloads target) = SendDownload
sending_in Over = SendDownload

-- where there is no message to make, the next stage comes
abbrev pub stage_behind : Stage → Stage
stage_behind Joins = Uploads
stage_behind Uploads = Asks
stage_behind Asks = Downloads None
stage_behind (Downloads target) = Over
stage_behind Over = Over

abbrev pub session_at_next_stage : Session → Session
session_at_next_stage s = record s { stage = stage_behind s.stage }

-- one join; uploads until there is none to make; requests for ranges until a reply has no grant; downloads until the ask
-- that was answered came from the target on
abbrev pub stage_to : Option ℕ → Option Downloaded → Stage
stage_to target None = Over
stage_to target (Some m) = let last = unwrap_or target m.last in if nat_le last m.from then Over else Downloads (Some last)

abbrev pub session_behind_reply : Session → SubscriberTables → Reply → Stage → Session
session_behind_reply s tables m Joins = record s { stage = Uploads; tables = tables }
session_behind_reply s tables m Uploads = record s { tables = tables; uploads = s.uploads + 1 }
session_behind_reply s tables m Asks = record s { stage = if grants (Some (Replies m)) then Asks else Downloads None; tables = tables }
session_behind_reply s tables m (Downloads target) = record s {
  stage = stage_to target (download_in (Some (Replies m)));
  tables = tables;
  downloads = s.downloads + one_if (brings_found (download_in (Some (Replies m))));
}
session_behind_reply s tables m Over = s

-- A step: there was no message to make at this moment, or a turn.
pub data Step : Type 0 where
  Skip : Moment → Step
  Take : Moment → Turn → Step

abbrev pub exchanges_of : Step → List Exchange
exchanges_of (Skip made) = []
exchanges_of (Take made turn) = turn.carried ∷ []

abbrev pub moments_of : Step → List Moment
moments_of (Skip made) = made ∷ []
moments_of (Take made turn) = made ∷ turn.now ∷ []

-- in a stage that is not over
abbrev pub IsUnderWay : Stage → Type 0
IsUnderWay Over = ⊥
IsUnderWay stage = Unit {0}

pub record Replied (publication : Publication) (address : List ℕ) (made : Moment) (turn : Turn) (s t : Session) : Type 0 where
  pub tables : SubscriberTables
  pub reply : Reply
  pub takes : Takes publication address (sending_in s.stage) made turn s.tables tables reply
  pub next : t ≡ session_behind_reply s tables reply s.stage

abbrev pub Does : Publication → List ℕ → Step → Session → Session → Type 0
Does publication address (Skip made) s t = (request_of_sending (sending_in s.stage) made s.tables ≡ Ok None) × (t ≡ session_at_next_stage s)
Does publication address (Take made turn) s t = Replied publication address made turn s t

-- steps one after the other
abbrev pub Follows : Publication → List ℕ → List Step → Session → Session → Type 0
Follows publication address [] s t = t ≡ s
Follows publication address (step ∷ steps) s t = (mid : Session) × IsUnderWay s.stage × Does publication address step s mid × Follows publication address steps mid t

-- so many steps led from one session to another
pub record Leads (address : List ℕ) (s t : Session) (old new : Meeting) : Type 0 where
  pub steps : List Step
  pub follows : Follows old.publication address steps s t
  pub tables : new.tables ≡ t.tables
  pub passes : Passes (flat_map exchanges_of steps) (flat_map moments_of steps) old new

-- and then a turn broke off
pub record Fails (address : List ℕ) (s : Session) (old new : Meeting) (why : SessionFault) : Type 0 where
  pub steps : List Step
  pub last : Session
  pub at : Break
  pub follows : Follows old.publication address steps s last
  pub under_way : IsUnderWay last.stage
  pub breaks : Breaks old.publication address (sending_in last.stage) last.tables new.tables at why
  pub passes : Passes (flat_map exchanges_of steps ++ exchanges_in at) (flat_map moments_of steps ++ moments_in at) old new
  pub causes : HasCauses old new why

-- a part of a session, which ends where `to` says
abbrev pub Goes : {A : Type 0} → List ℕ → Session → (A → Session) → Meeting → Meeting → Result A SessionFault → Type 0
Goes address s to old new (Ok x) = Leads address s (to x) old new
Goes address s to old new (Err why) = Fails address s old new why

-- a whole session, and what it answers
abbrev pub Syncs : List ℕ → Meeting → Meeting → Result Done SessionFault → Type 0
Syncs address old new (Ok done) = Leads address (session_at_start old.tables) (at Over new.tables done.uploads done.downloads) old new × (done.watermark ≡ new.tables.watermark)
Syncs address old new (Err why) = Fails address (session_at_start old.tables) old new why
