-- What is seen of a site, and of all sites with the messages between them.
use Rattle.std.specs.Prelude.{Bool, List, Option, Result, get_or, length, map, sum_by, ℕ, ◌+◌, ◌<◌, ◌≡◌}
use Rattle.merge_types.specs.declared.identifiers.Moment.{Moment}
use Rattle.merge_types.specs.declared.identifiers.SiteId.{SiteId}
use Rattle.merge_ports.specs.Entries.{Map}
use Rattle.merge_resolve.specs.Asked.{says_at}
use Rattle.merge_schema.specs.declared.publication.Publication.{Publication}
use Rattle.merge_batch.specs.declared.refusal.Refusal.{Refusal}
use Rattle.merge_model.specs.World.Calls.{Called}
use Rattle.merge_model.specs.Tables.Keys.{at_number}
use Rattle.merge_model.specs.Failing.Reach.{Acts}
use Rattle.merge_model.specs.World.Steps.{Action}
use Rattle.merge_model.specs.Tables.{PublisherTables, SubscriberTables}
use Rattle.merge_model.specs.World.{Saying, World}
use Rattle.merge_model.specs.declared.letter.Letter.{Letter}
use Rattle.merge_model.specs.declared.outcome.Outcome.{Outcome}
use Rattle.merge_units.specs.declared.result.Decision.{Decision}
use Rattle.merge_resolve.specs.declared.case.ConflictCase.{ConflictCase}

-- a publisher: its publication, its tables, how many of its commits failed, and what its store tells that it holds
pub record PublisherView : Type 0 where
  pub publication : Publication
  pub tables : PublisherTables
  pub faults : ℕ
  pub told : Option Map

pub record SubscriberView : Type 0 where
  pub publication : Publication
  pub tables : SubscriberTables
  pub faults : ℕ
  pub told : Option Map

-- a call of a site: `by` is what it makes by the definitions, and `commits` says with which answers that is a commit
abbrev pub PublisherCall : {A : Type 0} → Result (PublisherTables × A) Refusal → (A → Bool) → PublisherView → PublisherView → Result A Refusal → Type 0
PublisherCall by commits old new result = Called by commits old.tables new.tables old.faults new.faults result

abbrev pub SubscriberCall : {A : Type 0} → Result (SubscriberTables × A) Refusal → (A → Bool) → SubscriberView → SubscriberView → Result A Refusal → Type 0
SubscriberCall by commits old new result = Called by commits old.tables new.tables old.faults new.faults result

-- All sites: their tables, the messages, the moment, and how many commits failed.
pub record SitesView : Type 0 where
  pub publication : Publication
  pub publisher : PublisherTables
  pub subscribers : List (ℕ × SubscriberTables)
  pub pool : List Letter
  pub moment : Moment
  pub faults : ℕ
  -- of the subscribers, in their order
  pub sites : List ℕ
  pub publications : List Publication

-- what resolvers say that were handed in, and how often they were asked
pub record HandedView : Type 0 where
  pub says : Saying
  pub tallies : List ℕ

abbrev pub site_of : SubscriberView → ℕ
site_of s = s.tables.site.0

abbrev pub entry_of : SubscriberView → ℕ × SubscriberTables
entry_of s = (s.tables.site.0, s.tables)

abbrev pub faults_of : SubscriberView → ℕ
faults_of s = s.faults

abbrev pub publication_of : SubscriberView → Publication
publication_of s = s.publication

-- by the publisher, the subscribers, the messages and the moment
abbrev pub sites_view : PublisherView → List SubscriberView → List Letter → Moment → SitesView
sites_view p ss pool moment = record {
  publication = p.publication;
  publisher = p.tables;
  subscribers = map entry_of ss;
  pool = pool;
  moment = moment;
  faults = p.faults + sum_by faults_of ss;
  sites = map site_of ss;
  publications = map publication_of ss;
}

abbrev pub handed_view : {R : Type 0} → (R → ℕ → ConflictCase → Decision) → (R → ℕ) → List R → HandedView
handed_view says tally resolvers = record { says = says_at says resolvers; tallies = map tally resolvers }

-- the world of the model, with resolvers that were asked so often
abbrev pub world_of : SitesView → List ℕ → World
world_of v tallies = record {
  publisher = v.publisher;
  subscribers = v.subscribers;
  pool = v.pool;
  moment = v.moment;
  tallies = tallies;
}

-- all sites are of one publication, and the subscribers stand in the order of their sites
pub record IsOrdered (v : SitesView) : Type 0 where
  pub ascending : (i j : ℕ) → i < j → j < length v.sites → get_or v.sites i 0 < get_or v.sites j 0
  pub same : (i : ℕ) → i < length v.publications → get_or v.publications i v.publication ≡ v.publication

-- the same sites, of the same publication, at the same moment
pub record Stays (old new : SitesView) : Type 0 where
  pub publication : new.publication ≡ old.publication
  pub sites : new.sites ≡ old.sites
  pub publications : new.publications ≡ old.publications
  pub moment : new.moment ≡ old.moment

-- an action was made or failed that asks no resolver
pub record Does (action : Action) (old new : SitesView) (outcome : Outcome) : Type 0 where
  pub acts : (says : Saying) (tallies : List ℕ) → Acts old.publication says action (world_of old tallies) (world_of new tallies) outcome old.faults new.faults
  pub stays : Stays old new

-- the same sites and the same resolvers, which may have been asked since
pub record Keeps (old new : SitesView) (before after : HandedView) : Type 0 where
  pub stays : Stays old new
  pub says : after.says ≡ before.says

-- an action that may ask resolvers
pub record Moves (action : Action) (old new : SitesView) (before after : HandedView) (outcome : Outcome) : Type 0 where
  pub acts : Acts old.publication before.says action (world_of old before.tallies) (world_of new after.tallies) outcome old.faults new.faults
  pub keeps : Keeps old new before after

-- the tables of the subscriber of a site
abbrev pub tables_at : SitesView → SiteId → Option SubscriberTables
tables_at v site = at_number v.subscribers site.0
