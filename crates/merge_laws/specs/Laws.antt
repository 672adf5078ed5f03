-- What holds after every list of events, and after every list of actions.
-- The room holds what contracts state of runs: all of it must be read to trust them.
pub mod ActsOnce
pub mod Bounds
pub mod Deciding
pub mod Effects
pub mod LastLines
pub mod Leavings
pub mod RestsOn
pub mod Rounds
pub mod Promised
use Rattle.std.specs.Prelude.{true, ◌≡◌, ◌≤◌, ◌<◌, ℕ, List, Some}
use Rattle.merge_schema.specs.Valid.{IsValid}
use Rattle.merge_schema.specs.declared.publication.Publication.{Publication}
use Rattle.merge_model.specs.Failing.{Slips}
use Rattle.merge_model.specs.Failing.Runs.{model_behind, model_behind_actions}
use Rattle.merge_model.specs.World.Steps.{Action}
use Rattle.merge_model.specs.declared.event.Event.{Event}
use Rattle.merge_types.specs.declared.identifiers.SiteId.{SiteId}
use Rattle.merge_gens.specs.Book.{moment_of}
use Rattle.merge_batch.specs.declared.request.Upload.{Upload}
use Rattle.merge_batch.specs.declared.request.Request.TheVariants as request
use Rattle.merge_model.specs.Judge.ByNumbers.{received_by_number, received_number_by_number, has_acted_by_number, is_gap_by_number, is_unmet_by_number}
use Rattle.merge_model.specs.Judge.ByHistory.{received_by_done, received_number_by_done, has_acted_by_done, is_gap_by_done, is_unmet_by_done}
use Rattle.merge_model.specs.Laws.Bridge.{SubscriberDecidesAlike}
use Rattle.merge_model.specs.Tables.Keys.{at_number}
use Rattle.merge_model.specs.Tables.{SubscriberTables}
use Rattle.merge_model.specs.Subscriber.{subscriber_last_closed}
use Rattle.merge_model.specs.World.{Saying, letter_at}
use Rattle.merge_model.specs.declared.letter.Message.TheVariants.{Asks}
use Rattle.merge_model.specs.History.Model.{Model}
use Rattle.merge_laws.specs.Facts.Lineages.{LineagesAreMade}
use Rattle.merge_laws.specs.Facts.Numbered.{last_through}

-- what a model is after some events, whatever they were
abbrev pub OfEveryModel : (Model → Type 0) → Type 0
OfEveryModel Holds = (publication : Publication) (says : Saying) (tallies : List ℕ) (slips : Slips) (events : List Event) → Holds (model_behind publication says tallies slips events)

-- the same of what depends on the publication
abbrev pub OfEveryRun : (Publication → Model → Type 0) → Type 0
OfEveryRun Holds = (publication : Publication) (says : Saying) (tallies : List ℕ) (slips : Slips) (events : List Event) → Holds publication (model_behind publication says tallies slips events)

-- and on how conflicts are decided
abbrev pub OfEveryDecidedRun : (Publication → Saying → Model → Type 0) → Type 0
OfEveryDecidedRun Holds = (publication : Publication) (says : Saying) (tallies : List ℕ) (slips : Slips) (events : List Event) → Holds publication says (model_behind publication says tallies slips events)

-- The same of publications that a file can say: their sites have the numbers 1 to 63, each once.
abbrev pub OfEveryValidRun : (Publication → Saying → Model → Type 0) → Type 0
OfEveryValidRun Holds = (resolvers : ℕ) (publication : Publication) → IsValid resolvers publication → (says : Saying) (tallies : List ℕ) (slips : Slips) (events : List Event)
    → Holds publication says (model_behind publication says tallies slips events)

-- And of every list of actions, in any order: what sites meet that are served, where no script has events. A list of events is one.
abbrev pub OfEveryActions : (Publication → Saying → Model → Type 0) → Type 0
OfEveryActions Holds = (publication : Publication) (says : Saying) (tallies : List ℕ) (slips : Slips) (actions : List Action) → Holds publication says (model_behind_actions publication says tallies slips actions)

abbrev pub OfEveryValidActions : (Publication → Saying → Model → Type 0) → Type 0
OfEveryValidActions Holds = (resolvers : ℕ) (publication : Publication) → IsValid resolvers publication → (says : Saying) (tallies : List ℕ) (slips : Slips) (actions : List Action)
    → Holds publication says (model_behind_actions publication says tallies slips actions)

-- and of every model, however it came about
abbrev pub OfEach : (Publication → Model → Type 0) → Type 0
OfEach Holds = (publication : Publication) (m : Model) → Holds publication m

-- The publisher keeps of a site one number; the history keeps the set of its generations that have acted.
-- They say the same: which is the last one, which have acted, and whether a batch would leave a gap.
abbrev pub ReceivedIsDone : Model → Type 0
ReceivedIsDone m = (site : ℕ) → received_by_number m.world.publisher site ≡ received_by_done m.history site

abbrev pub ActedIsDone : Model → Type 0
ActedIsDone m = (site generation : ℕ) → 1 ≤ generation → has_acted_by_number m.world.publisher site generation ≡ has_acted_by_done m.history site generation

abbrev pub GapIsDone : Model → Type 0
GapIsDone m = (site from : ℕ) → is_gap_by_number m.world.publisher site from ≡ is_gap_by_done m.history site from

-- A site never takes as received, nor does the publisher, a generation that the site has not closed.
abbrev pub TakesOnlyClosed : Model → Type 0
TakesOnlyClosed m = (site : ℕ) (s : SubscriberTables) → at_number m.world.subscribers site ≡ Some s → (s.received ≤ subscriber_last_closed s) × (received_by_number m.world.publisher site ≤ subscriber_last_closed s)

-- The publisher's number of a site's last change is the greatest number of a change in the generations that have acted.
abbrev pub ReceivedNumberIsDone : Model → Type 0
ReceivedNumberIsDone m = (site : ℕ) → received_number_by_number m.world.publisher site ≡ received_number_by_done m.history site

-- So a change has not acted just where its number is greater.
abbrev pub UnmetIsDone : Model → Type 0
UnmetIsDone m = (site number : ℕ) → 1 ≤ number → is_unmet_by_number m.world.publisher site number ≡ is_unmet_by_done m.history site number

-- A subscriber keeps of each closed generation that is not received the greatest number of a change up to it, and so does an upload tell that of its last generation.
abbrev pub ClosingsKeepTheLast : Model → Type 0
ClosingsKeepTheLast m = (site generation : ℕ) (s : SubscriberTables) → at_number m.world.subscribers site ≡ Some s → s.received < generation → generation ≤ subscriber_last_closed s → moment_of s.gens.closings generation ≡ Some (last_through m.history site generation)

abbrev pub UploadsTellTheLast : Model → Type 0
UploadsTellTheLast m = (number : ℕ) (site : SiteId) (u : Upload) → letter_at m.world number ≡ Some (record { site = site; message = Asks (request.Upload u) }) → u.from < u.to → u.through ≡ last_through m.history site.0 u.to

-- A subscriber decides alike by what it keeps with its rows and by the changes that it made.
abbrev pub SubscribersDecideAlike : Model → Type 0
SubscribersDecideAlike m = (s : SubscriberTables) → 1 ≤ s.site.0 → at_number m.world.subscribers s.site.0 ≡ Some s → SubscriberDecidesAlike m s

-- Every lineage, of a row, in a message or of a version that lost, has its sites in order, and knows of none a change that it did not make.
abbrev pub KnowsOnlyMade : Model → Type 0
KnowsOnlyMade m = LineagesAreMade m.world

-- A site that has joined takes no generation for received that has not acted.
abbrev pub JoinedTakesActed : Model → Type 0
JoinedTakesActed m = (site generation : ℕ) (s : SubscriberTables) → at_number m.world.subscribers site ≡ Some s → s.is_joined ≡ true → 1 ≤ generation → generation ≤ s.received → has_acted_by_done m.history site generation ≡ true
