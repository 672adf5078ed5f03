-- The sites of a publication at the stores of an outside.
use Rattle.std.specs.List.{AllByRecursion}
use Rattle.std.specs.Prelude.{Bool, List, None, Option, [], map, min, true, ℕ, ◌+◌, ◌-◌, ◌^◌, ◌≡◌, ◌≤◌}
use Rattle.merge_types.specs.declared.identifiers.SiteId.{SiteId}
use Rattle.merge_ports.specs.Entries.{Map}
use Rattle.merge_ports.specs.Faults.{Rose}
use Rattle.merge_schema.specs.declared.publication.Publication.{Publication}
use Rattle.merge_schema.specs.declared.publication.Subscription.{Subscription}
use Rattle.merge_model.specs.Tables.Publications.{by_site}
use Rattle.merge_model.specs.Subscriber.{empty_subscriber}
use Rattle.merge_site.specs.Beginning.{IsEmptyStore, IsFirstKey}
use Rattle.merge_world.specs.Views.{PublisherView, SubscriberView}
use Rattle.merge_program.specs.declared.ending.Ending.{Ending}
use Rattle.merge_program.specs.declared.ending.Ending.TheVariants.{Damaged, NoMemory, StoreFault}

-- a count rose by so much at least; the greatest number of 64 bits stays
abbrev pub RoseBy : (faults before after : ℕ) → Type 0
RoseBy faults before after = min (before + faults) (2 ^ 64 - 1) ≤ after

-- a site but for what its store tells
abbrev pub untold_publisher : PublisherView → PublisherView
untold_publisher p = record p { told = None }

abbrev pub untold_subscriber : SubscriberView → SubscriberView
untold_subscriber s = record s { told = None }

-- subscribers that have done nothing
abbrev pub fresh_subscriber : Publication → SiteId → SubscriberView
fresh_subscriber publication site = record { publication = publication; tables = empty_subscriber publication site; faults = 0; told = None }

abbrev pub fresh_at : Publication → ℕ × Subscription → SubscriberView
fresh_at publication entry = fresh_subscriber publication entry.1.site

abbrev pub fresh_subscribers : Publication → List SubscriberView
fresh_subscribers publication = map (fresh_at publication) (by_site publication)

-- the outside has room for the keepers of these sites
abbrev pub AreRooms : (SiteId → List ℕ → Type 0) → List ℕ → List ℕ → Type 0
AreRooms room path sites = AllByRecursion (λ (site : ℕ). room (record { 0 = site }) path) sites

-- what is told of the stores at the empty path, which are those of `play` and `make`
abbrev pub at_no_path : (SiteId → List ℕ → Option Map) → SiteId → Option Map
at_no_path told site = told site []

-- Of some sites, the store of each has no entry, where it is told.
abbrev pub AreEmptyStores : (among : SiteId → Bool) → (stored : SiteId → Option Map) → Type 0
AreEmptyStores among stored = (site : SiteId) → among site ≡ true → IsEmptyStore (stored site)

-- Of some sites, the store of one begins with an entry of this key, where it is told.
abbrev pub HasFirstKey : (among : SiteId → Bool) → (stored : SiteId → Option Map) → (table : ℕ) → (key : List ℕ) → Type 0
HasFirstKey among stored table key = (site : SiteId) × (among site ≡ true) × IsFirstKey (record { table = table; key = key }) (stored site)

-- Why a site that has done nothing does not start: its store cannot be opened or read, it has an entry, or memory was wanting. How many
-- faults of stores there were is counted.
abbrev pub IsUnstartedAt : Ending → (told : Option Map) → (before after : ℕ) → Type 0
IsUnstartedAt StoreFault told before after = Rose before after
IsUnstartedAt (Damaged table key) told before after = RoseBy 0 before after × IsFirstKey (record { table = table; key = key }) told
IsUnstartedAt NoMemory told before after = RoseBy 0 before after
IsUnstartedAt other told before after = ⊥

-- the same of some sites, of which one does not start
abbrev pub IsUnstarted : (among : SiteId → Bool) → (stored : SiteId → Option Map) → Ending → (before after : ℕ) → Type 0
IsUnstarted among stored StoreFault before after = Rose before after
IsUnstarted among stored (Damaged table key) before after = RoseBy 0 before after × HasFirstKey among stored table key
IsUnstarted among stored NoMemory before after = RoseBy 0 before after
IsUnstarted among stored other before after = ⊥
