-- What a joined site takes for received has acted.
use Rattle.std.specs.Prelude.{◌≡◌, ◌≤◌, ℕ, true, false, Some}
use Rattle.std.specs.List.{AllByRecursion}
use Rattle.merge_types.specs.declared.identifiers.SiteId.{SiteId}
use Rattle.merge_batch.specs.declared.reply.Reply.TheVariants as reply
use Rattle.merge_batch.specs.declared.request.Outstanding.{Outstanding}
use Rattle.merge_batch.specs.declared.request.Outstanding.TheVariants as ask
use Rattle.merge_batch.specs.declared.request.Request.TheVariants as request
use Rattle.merge_model.specs.Judge.ByNumbers.{received_by_number}
use Rattle.merge_model.specs.Tables.Keys.{at_number}
use Rattle.merge_model.specs.Subscriber.{subscriber_last_closed}
use Rattle.merge_model.specs.Tables.{SubscriberTables}
use Rattle.merge_model.specs.World.{World}
use Rattle.merge_model.specs.declared.letter.Message.TheVariants.{Asks, Replies}
use Rattle.merge_model.specs.declared.letter.Letter.{Letter}
use Rattle.merge_model.specs.declared.letter.Message.{Message}
use Rattle.merge_laws.specs.Facts.Received.{joined_at}

-- of each subscriber, with the publisher's received generation of it and the number of its last join that acted
pub record StaysBehind (received joined : ℕ) (s : SubscriberTables) : Type 0 where
  pub behind : s.is_joined ≡ true → s.received ≤ received
  -- a site that is joining takes all that it closed for received, and has nothing under way but a join
  pub waits : s.is_joined ≡ false → s.received ≡ subscriber_last_closed s
  pub only_joins : (seq : ℕ) (sent : Outstanding) → s.is_joined ≡ false → s.outstanding ≡ Some (seq, sent) → sent ≡ ask.Join
  -- where that has acted, or a later one, the publisher has these generations
  pub answered : (seq : ℕ) → s.outstanding ≡ Some (seq, ask.Join) → seq ≤ joined → s.received ≤ received
  -- no join acted that was not made
  pub made : joined ≤ s.seq

-- a reply tells no generation that has not acted, and an ask names the site that it comes from
abbrev pub TellsActed : ℕ → SiteId → Message → Type 0
TellsActed received site (Replies (reply.Uploaded m)) = m.received ≤ received
TellsActed received site (Replies (reply.Downloaded m)) = m.received ≤ received
TellsActed received site (Asks (request.Download m)) = m.site ≡ site
TellsActed received site message = Unit {0}

pub record Behind (w : World) : Type 0 where
  pub subscribers : (n : ℕ) (s : SubscriberTables) → at_number w.subscribers n ≡ Some s → StaysBehind (received_by_number w.publisher n) (joined_at w.publisher (record { 0 = n })) s
  pub letters : AllByRecursion (λ (letter : Letter). TellsActed (received_by_number w.publisher letter.site.0) letter.site letter.message) w.pool
