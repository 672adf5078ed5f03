-- The numbers of changes that sites tell: each is that of the last change up to a generation.
use Rattle.std.specs.Prelude.{◌≡◌, ◌≤◌, ◌<◌, ◌+◌, ◌-◌, ◌&&◌, ℕ, List, [], ◌∷◌, Bool, false, if◌then◌else◌, max, nat_le, Option, Some, None}
use Rattle.std.specs.List.{AllByRecursion, fold}
use Rattle.merge_gens.specs.Book.{moment_of}
use Rattle.merge_batch.specs.declared.request.Join.{Join}
use Rattle.merge_batch.specs.declared.request.Upload.{Upload}
use Rattle.merge_batch.specs.declared.request.Outstanding.TheVariants as ask
use Rattle.merge_batch.specs.declared.request.Request.TheVariants as request
use Rattle.merge_model.specs.Tables.{SubscriberTables}
use Rattle.merge_model.specs.Tables.Keys.{at_number}
use Rattle.merge_model.specs.Judge.ByNumbers.{received_by_number, received_number_by_number}
use Rattle.merge_model.specs.Subscriber.{subscriber_last_closed}
use Rattle.merge_model.specs.World.{World}
use Rattle.merge_model.specs.declared.letter.Letter.{Letter}
use Rattle.merge_model.specs.declared.letter.Message.{Message}
use Rattle.merge_model.specs.declared.letter.Message.TheVariants.{Asks, Replies}
use Rattle.merge_model.specs.History.{History, MadeChange, is_done, made_at}

-- the greatest number of a change in the generations from 1 to this one, 0 where there is none
abbrev pub is_up_to : ℕ → MadeChange → Bool
is_up_to to change = nat_le 1 change.generation && nat_le change.generation to

abbrev pub last_of : ℕ → List MadeChange → ℕ
last_of to changes = fold (λ (most : ℕ) (change : MadeChange). if is_up_to to change then max most change.dot.number else most) 0 changes

-- of a site's changes
abbrev pub last_through : History → ℕ → ℕ → ℕ
last_through h site to = last_of to (made_at h site)

-- Changes as they were made, the last one first: this one and this generation come last. They are numbered from 1, and
-- none stands in an earlier generation than the one before it.
abbrev pub InOrder : ℕ → ℕ → List MadeChange → Type 0
InOrder number generation [] = number ≡ 0
InOrder number generation (change ∷ changes) = (change.dot.number ≡ number) × ((1 ≤ number) × ((change.generation ≤ generation) × ((1 ≤ change.generation) × InOrder (number - 1) change.generation changes)))

-- of each subscriber, with the changes that it made
pub record Tells (made : List MadeChange) (n : ℕ) (s : SubscriberTables) : Type 0 where
  -- only an invalid publication has a subscriber 0. It makes no change
  pub named : n ≡ 0 → (subscriber_last_closed s ≡ 0) × (s.gens.filling.filled ≡ 0)
  pub order : (n ≡ 0 → ⊥) → InOrder s.changes (subscriber_last_closed s + 1) made
  -- the last change stands in the open generation, where that has an entry, else in a closed one
  pub entered : (s.gens.filling.filled ≡ 0 → ⊥) → s.changes ≡ last_of (subscriber_last_closed s + 1) made
  pub idle : s.gens.filling.filled ≡ 0 → s.changes ≡ last_of (subscriber_last_closed s) made
  -- a closed generation that is not received keeps the number of the last change in it, and no other is kept
  pub keeps : (generation : ℕ) → s.received < generation → generation ≤ subscriber_last_closed s → moment_of s.gens.closings generation ≡ Some (last_of generation made)
  pub above : (generation : ℕ) → subscriber_last_closed s < generation → moment_of s.gens.closings generation ≡ None
  -- an upload that is under way ends no earlier than what is received
  pub sent : (seq from to : ℕ) → s.outstanding ≡ Some (seq, ask.Upload from to) → s.received ≤ to

-- a join tells how far its site had closed, and the last change up to there
abbrev pub JoinTells : List MadeChange → Join → Option SubscriberTables → Type 0
JoinTells made m None = ⊥
JoinTells made m (Some s) = (m.generation ≤ subscriber_last_closed s) × (m.number ≡ last_of m.generation made)

-- an upload of some generation tells the last change up to its last generation
abbrev pub UploadTells : List MadeChange → Upload → Option SubscriberTables → Type 0
UploadTells made m None = ⊥
UploadTells made m (Some s) = (m.to ≤ subscriber_last_closed s) × (m.from < m.to → m.through ≡ last_of m.to made)

abbrev pub MessageTells : List MadeChange → Option SubscriberTables → Message → Type 0
MessageTells made found (Asks (request.Join m)) = JoinTells made m found
MessageTells made found (Asks (request.Upload m)) = UploadTells made m found
MessageTells made found (Asks m) = Unit {0}
MessageTells made found (Replies m) = Unit {0}

abbrev pub LetterTells : History → List (ℕ × SubscriberTables) → Letter → Type 0
LetterTells h subscribers letter = MessageTells (made_at h letter.site.0) (at_number subscribers letter.site.0) letter.message

pub record Numbered (w : World) (h : History) : Type 0 where
  pub subscribers : (n : ℕ) (s : SubscriberTables) → at_number w.subscribers n ≡ Some s → Tells (made_at h n) n s
  pub letters : AllByRecursion (LetterTells h w.subscribers) w.pool
  -- the publisher's number of a site is that of the last change up to the received generation
  pub taken : (n : ℕ) → received_number_by_number w.publisher n ≡ last_through h n (received_by_number w.publisher n)
  -- a site that does not subscribe made nothing, and nothing was received of it
  pub unknown : (n : ℕ) → at_number w.subscribers n ≡ None → received_by_number w.publisher n ≡ 0
  pub strangers : (n : ℕ) → (n ≡ 0 → ⊥) → at_number w.subscribers n ≡ None → made_at h n ≡ []
  -- generations are numbered from 1
  pub first : (n : ℕ) → is_done h n 0 ≡ false
