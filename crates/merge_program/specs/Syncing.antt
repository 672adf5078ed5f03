-- What a run writes and leaves whose subscriber meets its publisher, and why it ends.
use Rattle.std.specs.Prelude.{List, Option, Result, ℕ, ◌≡◌, ◌⊎◌}
use Rattle.merge_schema.specs.declared.publication.Publication.{Publication}
use Rattle.merge_sync.specs.Ends.{Ends}
use Rattle.merge_sync.specs.Stores.{Around}
use Rattle.merge_sync.specs.declared.stop.Stop.{Stop}
use Rattle.merge_program.specs.declared.command.Place.{Place}
use Rattle.merge_program.specs.declared.ending.Ending.{Ending}
use Rattle.merge_program.specs.declared.ending.Ending.TheVariants.{NoEvent, NoMemory, NotTaken, ReadFault, Refused, TooLong, UnknownArticle, UnknownSite, Usage}
use Rattle.merge_program.specs.Files.{HasSubscription, IsUnsubscribed}
use Rattle.merge_program.specs.Stopping.{synced_by}
use Rattle.merge_program.specs.Visits.{IsIdle, Visit}

-- what is told around a session at a place
abbrev pub around_of : Place → Visit → Around
around_of place v = record {
  stored = v.stored place.site place.store;
  responses = v.offers.responses;
  moments = v.offers.moments;
  was_carried = v.offers.exchanges;
  was_peer = v.offers.peer;
  stores = v.old.stores;
  links = v.old.links;
  kept = v.kept place.site place.store;
  carried = v.behind.exchanges;
  peer = v.behind.peer;
  stores_after = v.new.stores;
  links_after = v.new.links;
}

-- The run ended as a session of the subscriber did, which started at its store, or did not start.
pub record SessionEnds (ending : Ending) (publication : Publication) (place : Place) (address : List ℕ) (v : Visit) : Type 0 where
  pub synced : Result Unit Stop
  pub ending_is : ending ≡ synced_by synced
  pub ends : Ends address publication place.site (around_of place v) v.was v.written v.writes v.refused synced

-- why a run ended whose file was read, and whose site is a subscription
abbrev pub SubscribedEnds : Ending → Place → (address : List ℕ) → (resolvers : ℕ) → Visit → Type 0
SubscribedEnds ending place address resolvers v =
    (publication : Publication) × HasSubscription (v.offers.texts place.publication) resolvers place.site publication × SessionEnds ending publication place address v

-- why a run ended before its site was started
abbrev pub UnsubscribedEnds : Ending → Place → (resolvers : ℕ) → Visit → Type 0
UnsubscribedEnds ending place resolvers v = IsUnsubscribed ending (v.offers.texts place.publication) resolvers place.site v.old.texts v.new.texts × IsIdle v

-- why a run of `sync` ended
abbrev pub SyncEnds : Ending → Place → (address : List ℕ) → (resolvers : ℕ) → Visit → Type 0
SyncEnds Usage place address resolvers v = ⊥
SyncEnds (NotTaken line) place address resolvers v = ⊥
SyncEnds (NoEvent line word) place address resolvers v = ⊥
SyncEnds UnknownArticle place address resolvers v = ⊥
SyncEnds (Refused fault) place address resolvers v = UnsubscribedEnds (Refused fault) place resolvers v
SyncEnds ReadFault place address resolvers v = UnsubscribedEnds ReadFault place resolvers v
SyncEnds TooLong place address resolvers v = UnsubscribedEnds TooLong place resolvers v
SyncEnds UnknownSite place address resolvers v = UnsubscribedEnds UnknownSite place resolvers v
SyncEnds NoMemory place address resolvers v = IsIdle v ⊎ SubscribedEnds NoMemory place address resolvers v
SyncEnds other place address resolvers v = SubscribedEnds other place address resolvers v
