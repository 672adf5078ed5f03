-- How far a site's generations have acted: the number that the publisher keeps is what Done says.
use Rattle.std.specs.Prelude.{◌≡◌, ◌≤◌, ◌<◌, ℕ, List, false, Option, Some, None, nat_le}
use Rattle.std.specs.List.{AllByRecursion}
use Rattle.merge_types.specs.declared.identifiers.SiteId.{SiteId}
use Rattle.merge_batch.specs.declared.request.Join.{Join}
use Rattle.merge_batch.specs.declared.request.Upload.{Upload}
use Rattle.merge_batch.specs.declared.request.Outstanding.{Outstanding}
use Rattle.merge_batch.specs.declared.request.Request.TheVariants as request
use Rattle.merge_batch.specs.declared.reply.Reply.TheVariants as reply
use Rattle.merge_model.specs.Tables.{PublisherTables, SubscriberTables}
use Rattle.merge_model.specs.Tables.Keys.{at_number}
use Rattle.merge_model.specs.Judge.ByNumbers.{received_by_number}
use Rattle.merge_model.specs.Publisher.{state_of}
use Rattle.merge_model.specs.Subscriber.{subscriber_last_closed}
use Rattle.merge_model.specs.World.{World}
use Rattle.merge_model.specs.declared.letter.Letter.{Letter}
use Rattle.merge_model.specs.declared.letter.Message.{Message}
use Rattle.merge_model.specs.declared.letter.Message.TheVariants.{Asks, Replies}
use Rattle.merge_model.specs.History.{History, is_done}

-- the number of a site's last join that acted
abbrev pub joined_at : PublisherTables → SiteId → ℕ
joined_at p site = (state_of p site).joined_at

-- A join that can still act was made by a site that is joining, which has closed no generation since.
abbrev pub JoinFits : ℕ → SiteId → Join → Option SubscriberTables → Type 0
JoinFits joined site m None = ⊥
JoinFits joined site m (Some s) = (m.site ≡ site) × (m.seq ≤ s.seq) × (joined < m.seq → (s.is_joined ≡ false) × (m.generation ≡ subscriber_last_closed s))

-- an upload has generations that the site has closed
abbrev pub UploadFits : SiteId → Upload → Option SubscriberTables → Type 0
UploadFits site m None = ⊥
UploadFits site m (Some s) = (m.site ≡ site) × (m.to ≤ subscriber_last_closed s)

-- a join that was answered has acted, or a later one has
abbrev pub MessageFits : ℕ → SiteId → Option SubscriberTables → Message → Type 0
MessageFits joined site found (Asks (request.Join m)) = JoinFits joined site m found
MessageFits joined site found (Asks (request.Upload m)) = UploadFits site m found
MessageFits joined site found (Asks m) = Unit {0}
MessageFits joined site found (Replies (reply.Joined m)) = m.seq ≤ joined
MessageFits joined site found (Replies m) = Unit {0}

abbrev pub LetterFits : List (ℕ × SubscriberTables) → PublisherTables → Letter → Type 0
LetterFits subscribers p letter = MessageFits (joined_at p letter.site) letter.site (at_number subscribers letter.site.0) letter.message

-- of each subscriber
pub record SubscriberFits (received n : ℕ) (s : SubscriberTables) : Type 0 where
  pub keyed : s.site.0 ≡ n
  -- a site that is joining has made no change since
  pub idle : s.is_joined ≡ false → s.gens.filling.filled ≡ 0
  pub own : s.received ≤ subscriber_last_closed s
  -- the outstanding message is the last one
  pub last : (seq : ℕ) (sent : Outstanding) → s.outstanding ≡ Some (seq, sent) → seq ≡ s.seq
  -- the publisher has taken no generation that is not closed
  pub taken : received ≤ subscriber_last_closed s

abbrev pub AllFit : List (ℕ × SubscriberTables) → PublisherTables → Type 0
AllFit subscribers p = (n : ℕ) (s : SubscriberTables) → at_number subscribers n ≡ Some s → SubscriberFits (received_by_number p n) n s

-- the generations that have acted are those up to the received one
abbrev pub DoneIsReceived : History → PublisherTables → Type 0
DoneIsReceived h p = (n generation : ℕ) → 1 ≤ generation → is_done h n generation ≡ nat_le generation (received_by_number p n)

pub record Received (w : World) (h : History) : Type 0 where
  pub subscribers : AllFit w.subscribers w.publisher
  pub letters : AllByRecursion (LetterFits w.subscribers w.publisher) w.pool
  pub done : DoneIsReceived h w.publisher
