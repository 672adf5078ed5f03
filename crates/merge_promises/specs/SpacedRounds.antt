-- Rounds beside which other things happen. Every subscriber has sent all that it changed, each at a place of its own of a list of actions; behind
-- it every one has taken all that the publisher has, again each at a place of its own. In between come reports, waits, closings, purges, messages
-- that are made, are delivered late, again or never, and sessions that break off, and any step may fail. Only no site changes a row, and none is
-- made anew.
use Rattle.std.specs.List.{AllByRecursion}
use Rattle.std.specs.Prelude.{Bool, List, Some, [], false, true, ◌++◌, ◌≡◌}
use Rattle.merge_types.specs.declared.identifiers.SiteId.{SiteId}
use Rattle.merge_schema.specs.declared.publication.Publication.{Publication}
use Rattle.merge_model.specs.Failing.{Faulty, Slips, faulty}
use Rattle.merge_model.specs.History.Model.{Model}
use Rattle.merge_model.specs.Judge.ByHistory.{by_made}
use Rattle.merge_model.specs.Laws.Promises.{IsSettled, is_expired_at}
use Rattle.merge_model.specs.Publisher.{last_closed}
use Rattle.merge_model.specs.Subscriber.Sending.{unsent_rows}
use Rattle.merge_model.specs.Tables.{SubscriberTables}
use Rattle.merge_model.specs.World.Steps.{Action, Make, MakeAnew}
use Rattle.merge_model.specs.World.{Saying, subscriber_at}
use Rattle.merge_laws.specs.Laws.Effects.{behind_actions}

-- no site changes a row, and none is made anew
abbrev pub is_other : Action → Bool
is_other (Make site change) = false
is_other (MakeAnew site) = false
is_other action = true

abbrev pub AreOther : List Action → Type 0
AreOther actions = AllByRecursion (λ (action : Action). is_other action ≡ true) actions

-- So it is at some place of the actions.
pub record Meanwhile (publication : Publication) (says : Saying) (Holds : Model → Type 0) (f : Faulty Model) (actions : List Action) : Type 0 where
  pub before : List Action
  pub later : List Action
  pub parts : actions ≡ before ++ later
  pub holds : Holds (behind_actions publication says f before).world

-- the site has joined, and has nothing to send
pub record HasSent (site : SiteId) (m : Model) : Type 0 where
  pub tables : SubscriberTables
  pub here : subscriber_at m.world site ≡ Some tables
  pub joined : tables.is_joined ≡ true
  pub nothing : unsent_rows (by_made m.history tables.site) tables ≡ []

-- the site holds every generation of the publisher, whose open one is empty
pub record HasTaken (site : SiteId) (m : Model) : Type 0 where
  pub tables : SubscriberTables
  pub here : subscriber_at m.world site ≡ Some tables
  pub all_held : tables.watermark ≡ last_closed m.world.publisher
  pub none_open : m.world.publisher.gens.filling.filled ≡ 0

-- each subscriber at a place of its own
abbrev pub EachMeanwhile : Publication → Saying → (SiteId → Model → Type 0) → Faulty Model → List Action → Type 0
EachMeanwhile publication says Holds f actions = (s : SubscriberTables) → subscriber_at f.world.world s.site ≡ Some s → Meanwhile publication says (Holds s.site) f actions

-- Then each is settled that is not expired.
abbrev pub SpacedRoundsSettle : Publication → Saying → Model → Type 0
SpacedRoundsSettle publication says m = (slips : Slips) (first second : List Action) → AreOther first → AreOther second
    → EachMeanwhile publication says HasSent (faulty m slips) first
    → (let sent : Faulty Model = behind_actions publication says (faulty m slips) first in let done : Faulty Model = behind_actions publication says sent second in
    EachMeanwhile publication says HasTaken sent second
    → (s : SubscriberTables) → subscriber_at done.world.world s.site ≡ Some s → is_expired_at publication done.world.world s.site ≡ false → IsSettled publication done.world s)
