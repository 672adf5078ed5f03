-- A session of a subscriber that starts at its store, with a link and a clock that were just opened.
use Rattle.std.specs.Prelude.{IfSome, List, Ok, Option, Result, Some, [], false, min, true, ℕ, ◌+◌, ◌-◌, ◌^◌, ◌≡◌, ◌⊎◌}
use Rattle.merge_types.specs.declared.identifiers.SiteId.{SiteId}
use Rattle.merge_schema.specs.Places.{is_subscription}
use Rattle.merge_schema.specs.declared.publication.Publication.{Publication}
use Rattle.merge_batch.specs.declared.refusal.Refusal.{Refusal}
use Rattle.merge_batch.specs.declared.refusal.Refusal.TheVariants as refusal
use Rattle.merge_ports.specs.Entries.{Map}
use Rattle.merge_ports.specs.Faults.{Rose}
use Rattle.merge_link.specs.Moments.{Moments}
use Rattle.merge_link.specs.declared.link.Exchange.{Exchange}
use Rattle.merge_model.specs.Publisher.{new_holders}
use Rattle.merge_keeper.specs.SubscriberStart.{subscriber_loaded}
use Rattle.merge_site.specs.Kept.{IsKept}
use Rattle.merge_site.specs.Loading.{IsDamage, IsRead}
use Rattle.merge_site.specs.Subscribers.{records_of, subscriber_stored}
use Rattle.merge_agent.specs.Meetings.{Meeting}
use Rattle.merge_agent.specs.Sessions.{Syncs}
use Rattle.merge_agent.specs.declared.fault.Done.{Done}
use Rattle.merge_agent.specs.declared.fault.SessionFault.{SessionFault}
use Rattle.merge_sync.specs.declared.stop.Stop.{Stop}
use Rattle.merge_sync.specs.declared.stop.Stop.TheVariants.{Damaged, NoMemory, StoreFault, UnknownSite}

-- What is told around a session, each part where it is told: before it the store, the responses and the moments that are to come, and
-- what the link carried that was given back last, and its address; and behind it the store, and what such a link carried, and its
-- address. And how often stores and links had failed by then.
pub record Around : Type 0 where
  pub stored : Option Map
  pub responses : Option (List (List ℕ))
  pub moments : Option Moments
  pub was_carried : Option (List Exchange)
  pub was_peer : Option (List ℕ)
  pub stores : ℕ
  pub links : ℕ
  pub kept : Option Map
  pub carried : Option (List Exchange)
  pub peer : Option (List ℕ)
  pub stores_after : ℕ
  pub links_after : ℕ

-- a subscriber of a site that is a subscription has the tables to which its store loads, and meets a link that was asked nothing and a
-- clock that gave nothing
pub record Begins (publication : Publication) (site : SiteId) (around : Around) (m : Meeting) : Type 0 where
  pub published : m.publication ≡ publication
  pub subscribes : is_subscription publication site.0 ≡ true
  pub here : m.tables.site ≡ site
  pub read : IsRead (subscriber_loaded publication site (new_holders publication)) around.stored (Ok (subscriber_stored m.tables))
  pub faults : m.faults ≡ 0
  pub links : m.links ≡ 0
  pub coming : m.coming ≡ around.responses
  pub unasked : IfSome m.exchanges (λ exchanges. exchanges ≡ [])
  pub moments : m.moments ≡ around.moments

-- the store has the records of the tables, what the link carried is told, and the faults of both are counted; the greatest number of 64
-- bits stays
pub record Leaves (around : Around) (m : Meeting) : Type 0 where
  pub kept : IsKept (records_of m.tables) around.kept
  pub carried : around.carried ≡ m.exchanges
  pub stores : around.stores_after ≡ min (around.stores + m.faults) (2 ^ 64 - 1)
  pub links : around.links_after ≡ min (around.links + m.links) (2 ^ 64 - 1)

-- a session was held so, over a link to the address, and this came of it
pub record SessionIsHeld (address : List ℕ) (publication : Publication) (site : SiteId) (around : Around) (result : Result Done SessionFault) : Type 0 where
  pub began : Meeting
  pub ended : Meeting
  pub begins : Begins publication site around began
  pub syncs : Syncs address began ended result
  pub leaves : Leaves around ended
  pub reached : around.peer ≡ Some address

-- the first record of the store that has no reading or breaks a rule
abbrev pub IsDamagedAs : Publication → SiteId → Option Map → Refusal → Type 0
IsDamagedAs publication site stored why = IsDamage (subscriber_loaded publication site (new_holders publication)) stored why

-- why a subscriber did not start: its site is no subscription; its store could not be opened or read, which is counted, or is damaged; or
-- memory was wanting
abbrev pub IsUnstarted : Publication → SiteId → Stop → (stored : Option Map) → (before after : ℕ) → Type 0
IsUnstarted publication site UnknownSite stored before after = is_subscription publication site.0 ≡ false
IsUnstarted publication site StoreFault stored before after = Rose before after
IsUnstarted publication site (Damaged table key) stored before after = IsDamagedAs publication site stored (refusal.Damaged table key)
IsUnstarted publication site NoMemory stored before after = Unit {0}
IsUnstarted publication site other stored before after = ⊥

-- no session was held: the store is told as before, and the link was one to the address, and carried nothing
pub record LinkCarriesNothing (address : List ℕ) (around : Around) : Type 0 where
  pub same : around.kept ≡ around.stored
  pub unasked : IfSome around.carried (λ exchanges. exchanges ≡ [])
  pub reached : around.peer ≡ Some address

-- no link was given back
pub record NoLinkIsGiven (around : Around) : Type 0 where
  pub uncarried : around.carried ≡ around.was_carried
  pub unreached : around.peer ≡ around.was_peer

-- no session was held, and there may have been no link: the store is told as before, and no link was given back
abbrev pub NoSessionIsHeld : (address : List ℕ) → Around → Type 0
NoSessionIsHeld address around = ((around.kept ≡ around.stored) × NoLinkIsGiven around) ⊎ LinkCarriesNothing address around
