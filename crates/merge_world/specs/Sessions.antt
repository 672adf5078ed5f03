-- A session in parts: a message with its answer, and many of them one after the other.
use Rattle.std.specs.List.{last_or}
use Rattle.std.specs.Prelude.{Bool, List, None, Option, Some, false, if◌then◌else◌, length, map, nat_le, nat_lt, option_map, true, unwrap_or, ℕ, ◌+◌, ◌-◌, ◌≡◌}
use Rattle.merge_types.specs.declared.identifiers.SiteId.{SiteId}
use Rattle.merge_schema.specs.declared.publication.Publication.{Publication}
use Rattle.merge_batch.specs.declared.refusal.Refusal.{Refusal}
use Rattle.merge_batch.specs.declared.reply.Downloaded.{Downloaded}
use Rattle.merge_batch.specs.declared.reply.Reply.TheVariants as reply
use Rattle.merge_model.specs.Failing.{Faulty, Slips, faulty}
use Rattle.merge_model.specs.Failing.Reach.{Asks, Reaches, at, stepping}
use Rattle.merge_model.specs.World.Session.{Session, all_downloads, all_ranges, all_uploads, downloads_up_to, exchange, join_if_due, range_requests_up_to, session, uploads_up_to}
use Rattle.merge_model.specs.World.Steps.{Sending}
use Rattle.merge_model.specs.Tables.{SubscriberTables}
use Rattle.merge_model.specs.World.{Saying, World}
use Rattle.merge_model.specs.declared.letter.Letter.{Letter}
use Rattle.merge_model.specs.declared.letter.Message.{Message}
use Rattle.merge_model.specs.declared.letter.Message.TheVariants.{Replies}
use Rattle.merge_model.specs.declared.outcome.Outcome.{Outcome}
use Rattle.merge_world.specs.Views.{HandedView, Keeps, SitesView, world_of}
use Rattle.merge_world.specs.declared.exchange.Exchanged.{Exchanged}
use Rattle.merge_world.specs.declared.exchange.Exchanged.TheVariants.{Answered, Taken, Unanswered}
use Rattle.merge_world.specs.declared.exchange.Span.{Span}

-- a message of a site comes to the publisher
pub record Reports (site : SiteId) (sending : Sending) (old new : SitesView) (before after : HandedView) (outcome : Outcome) : Type 0 where
  pub asks : Asks old.publication before.says site sending (world_of old before.tallies) (world_of new after.tallies) outcome old.faults new.faults
  pub keeps : Keeps old new before after

abbrev pub Part : Type 0
Part = Session (Faulty World) → Session (Faulty World)

-- the last message that was made
abbrev pub last_in : List Letter → Option Message
last_in pool = last_or None (map (λ (letter : Letter). letter.message) pool)

-- the download that it replies to, where it does
abbrev pub download_in : Option Message → Option Downloaded
download_in (Some (Replies (reply.Downloaded m))) = Some m
download_in message = None

-- whether that brings generations
abbrev pub brings_found : Option Downloaded → Bool
brings_found None = false
brings_found (Some m) = nat_lt m.from m.to

-- whether it grants a range
abbrev pub grants : Option Message → Bool
grants (Some (Replies (reply.Ranged m))) = nat_lt 0 (length m.grants)
grants message = false

-- whether the site asked from the target on, or no download was answered
abbrev pub is_past : ℕ → Option Downloaded → Bool
is_past target None = true
is_past target (Some m) = nat_le target m.from

-- what is left behind the first answer
abbrev pub left_in : Option Downloaded → Option Span
left_in None = None
left_in (Some m) = if nat_le m.last m.from then None else Some (record { from = m.from; last = m.last })

abbrev pub one_if : Bool → ℕ
one_if flag = if flag then 1 else 0

-- of the tables of a subscriber, where there are some
abbrev pub joined_at : Option SubscriberTables → Bool
joined_at tables = unwrap_or (option_map (λ (s : SubscriberTables). s.is_joined) tables) true

abbrev pub unsent_at : Option SubscriberTables → ℕ
unsent_at tables = unwrap_or (option_map (λ (s : SubscriberTables). s.gens.filling.last_closed + 2 - s.received) tables) 0

abbrev pub watermark_at : Option SubscriberTables → ℕ
watermark_at tables = unwrap_or (option_map (λ (s : SubscriberTables). s.watermark) tables) 0

-- the parts of a session: each kind of message, and a loop of so many at most
pub data Stage : Type 0 where
  Joins : Stage
  AllUploads : Stage
  Uploads : ℕ → Stage
  AllRanges : Stage
  Ranges : ℕ → Stage
  AllDownloads : Stage
  Downloads : (most target : ℕ) → Stage

module _ (publication : Publication) (says : Saying) where
  -- how an answered message is counted
  abbrev pub Counts : Part → Bool → ℕ → ℕ → ℕ → ℕ → Type 0
  Counts counted is_bringing x y i j = (v : World) (slips : Slips) → brings_found (download_in (last_in v.pool)) ≡ is_bringing → counted (at publication says v x y None slips) ≡ at publication says v i j None slips

  -- A message is made, answered, and the answer comes, whatever is counted and whatever comes next.
  unfoldable pub Exchanges : SiteId → Sending → World → World → Exchanged → ℕ → ℕ → Type 0
  Exchanges site sending w v (Taken is_bringing) before after = (counted next : Part) (x y i j : ℕ) → Counts counted is_bringing x y i j
      → Reaches (λ slips. exchange (stepping publication says) site sending counted next (at publication says w x y None slips)) (λ slips. next (at publication says v i j None slips)) before after
  Exchanges site sending w v (Answered is_bringing stop) before after = (counted next : Part) (x y i j : ℕ) → Counts counted is_bringing x y i j
      → Reaches (λ slips. exchange (stepping publication says) site sending counted next (at publication says w x y None slips)) (at publication says v i j stop) before after
  Exchanges site sending w v (Unanswered stop) before after = (counted next : Part) (x y : ℕ)
      → Reaches (λ slips. exchange (stepping publication says) site sending counted next (at publication says w x y None slips)) (at publication says v x y stop) before after

  abbrev pub part_of : SiteId → Stage → Part
  part_of site Joins = join_if_due (stepping publication says) site
  part_of site AllUploads = all_uploads (stepping publication says) site
  part_of site (Uploads most) = uploads_up_to (stepping publication says) site most
  part_of site AllRanges = all_ranges (stepping publication says) site
  part_of site (Ranges most) = range_requests_up_to (stepping publication says) site most
  part_of site AllDownloads = all_downloads (stepping publication says) site
  part_of site (Downloads most target) = downloads_up_to (stepping publication says) site most target

  -- a part of a session that nothing ended before, with how many uploads and downloads were counted
  unfoldable pub Goes : SiteId → Stage → World → World → ℕ → ℕ → ℕ → ℕ → Option Refusal → ℕ → ℕ → Type 0
  Goes site stage w v x y i j stop before after = Reaches (λ slips. part_of site stage (at publication says w x y None slips)) (at publication says v i j stop) before after

  -- what was to be done there is what is left to do here
  unfoldable pub Leaves : SiteId → Stage → Stage → World → World → ℕ → ℕ → ℕ → ℕ → ℕ → ℕ → Type 0
  Leaves site stage left w v x y i j before after = Reaches (λ slips. part_of site stage (at publication says w x y None slips)) (λ slips. part_of site left (at publication says v i j None slips)) before after

  -- a whole session
  unfoldable pub Syncs : SiteId → World → World → ℕ → ℕ → Option Refusal → ℕ → ℕ → Type 0
  Syncs site w v uploads downloads stop before after = Reaches (λ slips. session (stepping publication says) site (faulty w slips)) (at publication says v uploads downloads stop) before after

pub record SitesExchange (site : SiteId) (sending : Sending) (old new : SitesView) (before after : HandedView) (exchanged : Exchanged) : Type 0 where
  pub goes : Exchanges old.publication before.says site sending (world_of old before.tallies) (world_of new after.tallies) exchanged old.faults new.faults
  pub keeps : Keeps old new before after

-- the same of sites with their resolvers
pub record SitesGo (site : SiteId) (stage : Stage) (old new : SitesView) (before after : HandedView) (x y i j : ℕ) (stop : Option Refusal) : Type 0 where
  pub goes : Goes old.publication before.says site stage (world_of old before.tallies) (world_of new after.tallies) x y i j stop old.faults new.faults
  pub keeps : Keeps old new before after

pub record Stands (site : SiteId) (stage left : Stage) (old new : SitesView) (before after : HandedView) (x y i j : ℕ) : Type 0 where
  pub leaves : Leaves old.publication before.says site stage left (world_of old before.tallies) (world_of new after.tallies) x y i j old.faults new.faults
  pub keeps : Keeps old new before after

pub record SitesSync (site : SiteId) (old new : SitesView) (before after : HandedView) (uploads downloads : ℕ) (stop : Option Refusal) : Type 0 where
  pub syncs : Syncs old.publication before.says site (world_of old before.tallies) (world_of new after.tallies) uploads downloads stop old.faults new.faults
  pub keeps : Keeps old new before after
