-- A session: one step after another, of whatever world takes the steps.
use Rattle.std.specs.List.{last_or}
use Rattle.std.specs.Prelude.{Bool, List, None, Option, Some, false, if◌then◌else◌, length, map, nat_le, nat_lt, option_map, suc, true, unwrap_or, zero, ℕ, ◌+◌, ◌-◌}
use Rattle.merge_types.specs.declared.identifiers.SiteId.{SiteId}
use Rattle.merge_batch.specs.declared.refusal.Refusal.{Refusal}
use Rattle.merge_batch.specs.declared.reply.Downloaded.{Downloaded}
use Rattle.merge_model.specs.World.Steps.{Action, Deliver, Send, SendDownload, SendJoin, SendRanges, SendUpload, Sending}
use Rattle.merge_model.specs.declared.outcome.Outcome.{Outcome}
use Rattle.merge_model.specs.declared.outcome.Outcome.TheVariants.{Posted, Refuses, Took}
use Rattle.merge_model.specs.Tables.{SubscriberTables}
use Rattle.merge_model.specs.Subscriber.Taking.{tables_after_reply}
use Rattle.merge_model.specs.World.{World, subscriber_at}
use Rattle.merge_model.specs.declared.letter.Letter.{Letter}
use Rattle.merge_model.specs.declared.letter.Message.{Message}
use Rattle.merge_model.specs.declared.letter.Message.TheVariants.{Replies}
use Rattle.merge_batch.specs.declared.reply.Reply.TheVariants as reply

-- a world of some kind that takes steps, and what can be seen of it
pub record Stepping (W : Type 0) : Type 0 where
  pub act : W → Action → W × Outcome
  pub look : W → World
  -- with other tallies
  pub retally : List ℕ → W → W

-- a session under way: how many uploads were answered, how many download replies came that bring generations, whether they acted or not, and the refusal that ended it
pub record Session (W : Type 0) : Type 0 where
  pub world : W
  pub uploads : ℕ
  pub downloads : ℕ
  pub stop : Option Refusal

module _ {W : Type 0} (stepping : Stepping W) (site : SiteId) where
  -- a message that was made comes to where it goes
  abbrev pub then_deliver : W × Outcome → W × Outcome
  then_deliver (w, Posted number) = stepping.act w (Deliver number)
  then_deliver (w, outcome) = (w, outcome)

  -- a message of the site comes to the publisher
  abbrev pub ask : Sending → W → W × Outcome
  ask sending w = then_deliver (stepping.act w (Send site sending))

  -- the reply comes to the site. The session goes on where it acted, and ends where something was refused
  abbrev pub session_after_reply : (Session W → Session W) → Session W → W × Outcome → Session W
  session_after_reply next s (w, Took taken) = next (record s { world = w })
  session_after_reply next s (w, Refuses refusal) = record s { world = w; stop = Some refusal }
  session_after_reply next s (w, outcome) = record s { world = w }

  -- an answer is counted before it comes to the site. The session is past this message where there was none to make
  abbrev pub answered_as : (Session W → Session W) → (Session W → Session W) → Session W → W × Outcome → Session W
  answered_as counted next s (w, Posted number) = session_after_reply next (counted (record s { world = w })) (stepping.act w (Deliver number))
  answered_as counted next s (w, Refuses refusal) = record s { world = w; stop = Some refusal }
  answered_as counted next s (w, outcome) = record s { world = w }

  abbrev pub exchange : Sending → (Session W → Session W) → (Session W → Session W) → Session W → Session W
  exchange sending counted next s = answered_as counted next s (ask sending s.world)

  abbrev pub as_it_is : Session W → Session W
  as_it_is s = s

  -- what goes on where nothing ended the session
  abbrev pub unless_stopped : (Session W → Session W) → Session W → Session W
  unless_stopped next s = elim s.stop [
    | Some refusal ↦ s
    | None ↦ next s
  ]

  abbrev pub tables_in : W → Option SubscriberTables
  tables_in w = subscriber_at (stepping.look w) site

  -- a site that is joining joins
  abbrev pub is_joined_in : W → Bool
  is_joined_in w = unwrap_or (option_map (λ (s : SubscriberTables). s.is_joined) (tables_in w)) true

  abbrev pub join_if_due : Session W → Session W
  join_if_due s = if is_joined_in s.world then s else exchange SendJoin as_it_is as_it_is s

  abbrev pub with_upload : Session W → Session W
  with_upload s = record s { uploads = s.uploads + 1 }

  -- uploads, until there is none to make. Each takes at least one generation
  abbrev pub uploads_up_to : ℕ → Session W → Session W
  uploads_up_to zero s = s
  uploads_up_to (suc n) s = exchange SendUpload with_upload (uploads_up_to n) s

  abbrev pub unsent_generations : W → ℕ
  unsent_generations w = unwrap_or (option_map (λ (s : SubscriberTables). s.gens.filling.last_closed + 2 - s.received) (tables_in w)) 0

  abbrev pub all_uploads : Session W → Session W
  all_uploads s = uploads_up_to (unsent_generations s.world) s

  -- range requests, until a reply has no grant
  abbrev pub last_message : W → Option Message
  last_message w = last_or None (map (λ (letter : Letter). letter.message) (stepping.look w).pool)

  abbrev pub has_grant : Option Message → Bool
  has_grant (Some (Replies (reply.Ranged m))) = nat_lt 0 (length m.grants)
  has_grant message = false

  -- A range that was granted and not heard of comes first. Then a site is granted at most two more of an article
  -- before it is not due.
  abbrev pub range_requests_up_to : ℕ → Session W → Session W
  range_requests_up_to zero s = s
  range_requests_up_to (suc n) s = exchange SendRanges as_it_is (λ (t : Session W). if has_grant (last_message t.world) then range_requests_up_to n t else t) s

  abbrev pub range_asks : W → ℕ
  range_asks w = length (stepping.look w).publisher.grants + 4

  abbrev pub all_ranges : Session W → Session W
  all_ranges s = range_requests_up_to (range_asks s.world) s

  -- Downloads: with the last closed generation that the first reply tells, the site asks until it asked from there.
  abbrev pub downloaded_in : Option Message → Option Downloaded
  downloaded_in (Some (Replies (reply.Downloaded m))) = Some m
  downloaded_in message = None

  abbrev pub brings_generations : Downloaded → Bool
  brings_generations m = nat_lt m.from m.to

  abbrev pub with_download : Downloaded → Session W → Session W
  with_download m s = record s { downloads = if brings_generations m then s.downloads + 1 else s.downloads }

  abbrev pub with_answer : Session W → Session W
  with_answer s = elim (downloaded_in (last_message s.world)) [
    | None ↦ s
    | Some m ↦ with_download m s
  ]

  abbrev pub after_download : (Downloaded → Session W → Session W) → Session W → Session W
  after_download next s = elim (downloaded_in (last_message s.world)) [
    | None ↦ s
    | Some m ↦ next m s
  ]

  abbrev pub downloads_up_to : ℕ → ℕ → Session W → Session W
  downloads_up_to zero target s = s
  downloads_up_to (suc n) target s = exchange SendDownload with_answer
      (after_download (λ (m : Downloaded) (t : Session W). if nat_le target m.from then t else downloads_up_to n target t)) s

  abbrev pub all_downloads : Session W → Session W
  all_downloads s = exchange SendDownload with_answer
      (after_download (λ (m : Downloaded) (t : Session W). if nat_le m.last m.from then t else downloads_up_to (m.last + 1 - m.from) m.last t)) s

  abbrev pub session : W → Session W
  session w = unless_stopped all_downloads (unless_stopped all_ranges (unless_stopped all_uploads (join_if_due (record {
    world = w;
    uploads = 0;
    downloads = 0;
    stop = None;
  }))))
