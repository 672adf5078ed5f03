-- What every request in the pool has, since a subscriber made it: the invariant that carries the laws.
use Rattle.std.specs.List.{AllByRecursion}
use Rattle.std.specs.List.Sorted.{IsStrictlySortedBy}
use Rattle.std.specs.Prelude.{List, Some, is_some, length, map, true, ◌+◌, ◌<◌, ◌≡◌, ◌≤◌, ℕ}
use Rattle.merge_types.specs.Limits.{generation_limit, item_limit}
use Rattle.merge_types.specs.RowKeys.{key_cmp}
use Rattle.merge_types.specs.declared.identifiers.SiteId.{SiteId}
use Rattle.merge_schema.specs.Places.{is_subscription}
use Rattle.merge_schema.specs.declared.publication.Publication.{Publication}
use Rattle.merge_batch.specs.declared.reply.Downloaded.{Downloaded}
use Rattle.merge_batch.specs.declared.reply.Reply.TheVariants as reply
use Rattle.merge_batch.specs.declared.request.Join.{Join}
use Rattle.merge_batch.specs.declared.request.Request.TheVariants as request
use Rattle.merge_batch.specs.declared.request.Upload.{Upload}
use Rattle.merge_batch.specs.declared.request.UploadItem.{UploadItem}
use Rattle.merge_model.specs.Publisher.Acts.{key_of_item}
use Rattle.merge_model.specs.Judge.ByNumbers.{received_by_number}
use Rattle.merge_model.specs.Tables.Keys.{at_number}
use Rattle.merge_model.specs.Publisher.{last_closed}
use Rattle.merge_model.specs.Tables.{PublisherTables, SubscriberTables}
use Rattle.merge_model.specs.Subscriber.Taking.{key_of_download}
use Rattle.merge_model.specs.declared.letter.Letter.{Letter}
use Rattle.merge_model.specs.declared.letter.Message.{Message}
use Rattle.merge_model.specs.declared.letter.Message.TheVariants.{Asks, Replies}

-- the publisher remembers the site
abbrev pub IsRemembered : PublisherTables → ℕ → Type 0
IsRemembered p n = is_some (at_number p.sites n) ≡ true

-- a message tells the site that sent it, which subscribes
pub record IsSentBy (publication : Publication) (site told : SiteId) : Type 0 where
  pub same : told ≡ site
  pub subscribes : is_subscription publication site.0 ≡ true

-- an item stands in a generation behind the upload's first number and up to its last
abbrev pub StandsIn : Upload → UploadItem → Type 0
StandsIn m item = (m.from < item.generation) × (item.generation ≤ m.to)

-- messages are numbered from 1
pub record JoinIsWell (publication : Publication) (site : SiteId) (m : Join) : Type 0 where
  pub sender : IsSentBy publication site m.site
  pub numbered : 1 ≤ m.seq

-- how an upload is made, whatever it tells
pub record IsMadeWell (m : Upload) : Type 0 where
  pub few_generations : m.to ≤ m.from + generation_limit
  pub few_items : length m.items ≤ item_limit
  pub ascend : IsStrictlySortedBy key_cmp (map key_of_item m.items)
  pub stand : AllByRecursion (StandsIn m) m.items

-- where an upload begins has acted
pub record UploadIsWell (publication : Publication) (p : PublisherTables) (site : SiteId) (m : Upload) : Type 0 where
  pub sender : IsSentBy publication site m.site
  pub remembered : IsRemembered p site.0
  pub begins : m.from ≤ received_by_number p site.0
  pub made : IsMadeWell m

-- where an ask begins has closed
pub record AskIsWell (publication : Publication) (p : PublisherTables) (site told : SiteId) (from : ℕ) : Type 0 where
  pub sender : IsSentBy publication site told
  pub remembered : IsRemembered p site.0
  pub begins : from ≤ last_closed p

-- how a reply to a download is made: it goes on to a closed generation where there is one behind, by few generations and few items, one
-- for each row in order
pub record ReplyIsMadeWell (d : Downloaded) : Type 0 where
  pub onward : d.from ≤ d.to
  pub closed : d.to ≤ d.last
  pub goes : d.from < d.last → d.from < d.to
  pub few_generations : d.to ≤ d.from + generation_limit
  pub few_items : length d.items ≤ item_limit
  pub ascend : IsStrictlySortedBy key_cmp (map key_of_download d.items)

-- and the last generation that it tells has closed
pub record ReplyIsWell (p : PublisherTables) (m : Downloaded) : Type 0 where
  pub last : m.last ≤ last_closed p
  pub made : ReplyIsMadeWell m

-- a join may be the first that the publisher hears of a site; who hears of a join that acted is remembered
abbrev pub IsWell : Publication → PublisherTables → SiteId → Message → Type 0
IsWell publication p site (Asks (request.Join m)) = JoinIsWell publication site m
IsWell publication p site (Asks (request.Upload m)) = UploadIsWell publication p site m
IsWell publication p site (Asks (request.Ranges m)) = AskIsWell publication p site m.site 0
IsWell publication p site (Asks (request.Download m)) = AskIsWell publication p site m.site m.from
IsWell publication p site (Replies (reply.Joined m)) = IsRemembered p site.0
IsWell publication p site (Replies (reply.Downloaded m)) = ReplyIsWell p m
IsWell publication p site (Replies m) = Unit {0}

-- a subscriber subscribes, and where it has joined the publisher remembers it
pub record IsKnown (publication : Publication) (p : PublisherTables) (n : ℕ) (s : SubscriberTables) : Type 0 where
  pub subscribes : is_subscription publication n ≡ true
  pub remembered : s.is_joined ≡ true → IsRemembered p n

pub record SentWell (publication : Publication) (p : PublisherTables) (subscribers : List (ℕ × SubscriberTables)) (pool : List Letter) : Type 0 where
  pub known : (n : ℕ) (s : SubscriberTables) → at_number subscribers n ≡ Some s → IsKnown publication p n s
  pub letters : AllByRecursion (λ (letter : Letter). IsWell publication p letter.site letter.message) pool
