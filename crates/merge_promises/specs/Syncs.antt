-- Two rounds of sessions: every subscriber has a session that nothing refuses, and then every one has another. Of the plain model,
-- in which no step fails, and of one in which steps may; and a round of uploads and downloads in such a one.
use Rattle.std.specs.Prelude.{List, None, Some, [], true, ◌∷◌, ◌≡◌}
use Rattle.merge_types.specs.declared.identifiers.SiteId.{SiteId}
use Rattle.merge_schema.specs.declared.publication.Publication.{Publication}
use Rattle.merge_model.specs.Failing.{Faulty, Slips, faulty, faulty_stepping}
use Rattle.merge_model.specs.History.Model.{Model, model}
use Rattle.merge_model.specs.Laws.Promises.{IsSettled}
use Rattle.merge_model.specs.Tables.{SubscriberTables}
use Rattle.merge_model.specs.World.Session.{Session, all_downloads, all_uploads, session}
use Rattle.merge_model.specs.World.{Saying, subscriber_at}
use Rattle.merge_laws.specs.Laws.Rounds.{HasSubscribers}

-- a session of a site from here
abbrev pub session_of : Publication → Saying → SiteId → Model → Session Model
session_of publication says site m = session (model publication says) site m

-- a subscriber, whether or not it has joined, has a session that nothing refuses
pub record Syncs (publication : Publication) (says : Saying) (site : SiteId) (m : Model) : Type 0 where
  pub tables : SubscriberTables
  pub here : subscriber_at m.world site ≡ Some tables
  pub ended : (session_of publication says site m).stop ≡ None

-- These sites have one, one after the other and nothing else between, and leave this model.
abbrev pub AllSync : Publication → Saying → List SiteId → Model → Model → Type 0
AllSync publication says [] m k = m ≡ k
AllSync publication says (site ∷ sites) m k = Syncs publication says site m × AllSync publication says sites (session_of publication says site m).world k

-- When every subscriber has had a session, and then every one another, each is settled.
abbrev pub TwoRoundsSettle : Publication → Saying → Model → Type 0
TwoRoundsSettle publication says m = (first second : List SiteId) (between done : Model) → HasSubscribers m first → HasSubscribers between second
    → AllSync publication says first m between → AllSync publication says second between done
    → (s : SubscriberTables) → subscriber_at done.world s.site ≡ Some s → IsSettled publication done s

-- The same where steps may fail: what counts is a session that nothing refused.

abbrev pub synced_failing : Publication → Saying → SiteId → Faulty Model → Session (Faulty Model)
synced_failing publication says site f = session (faulty_stepping publication (model publication says)) site f

pub record SyncsFailing (publication : Publication) (says : Saying) (site : SiteId) (f : Faulty Model) : Type 0 where
  pub tables : SubscriberTables
  pub here : subscriber_at f.world.world site ≡ Some tables
  pub ended : (synced_failing publication says site f).stop ≡ None

abbrev pub AllSyncFailing : Publication → Saying → List SiteId → Faulty Model → Faulty Model → Type 0
AllSyncFailing publication says [] f g = f ≡ g
AllSyncFailing publication says (site ∷ sites) f g = SyncsFailing publication says site f × AllSyncFailing publication says sites (synced_failing publication says site f).world g

-- Whichever steps are to fail behind the model, two rounds of such sessions settle all sites.
abbrev pub FailingTwoRoundsSettle : Publication → Saying → Model → Type 0
FailingTwoRoundsSettle publication says m = (slips : Slips) (first second : List SiteId) (between done : Faulty Model) → HasSubscribers m first → HasSubscribers between.world second
    → AllSyncFailing publication says first (faulty m slips) between → AllSyncFailing publication says second between done
    → (s : SubscriberTables) → subscriber_at done.world.world s.site ≡ Some s → IsSettled publication done.world s

-- A round in which steps may fail: every subscriber completes an upload, and then every one a download. The parts of sessions are those of
-- the plain model, and one is completed where nothing was refused.

abbrev pub new_failing_session : Faulty Model → Session (Faulty Model)
new_failing_session f = record { world = f; uploads = 0; downloads = 0; stop = None }

abbrev pub uploaded_failing : Publication → Saying → SiteId → Faulty Model → Session (Faulty Model)
uploaded_failing publication says site f = all_uploads (faulty_stepping publication (model publication says)) site (new_failing_session f)

abbrev pub downloaded_failing : Publication → Saying → SiteId → Faulty Model → Session (Faulty Model)
downloaded_failing publication says site f = all_downloads (faulty_stepping publication (model publication says)) site (new_failing_session f)

pub record CompletesFailing (part : SiteId → Faulty Model → Session (Faulty Model)) (site : SiteId) (f : Faulty Model) : Type 0 where
  pub tables : SubscriberTables
  pub here : subscriber_at f.world.world site ≡ Some tables
  pub joined : tables.is_joined ≡ true
  pub ended : (part site f).stop ≡ None

abbrev pub AllCompleteFailing : (SiteId → Faulty Model → Session (Faulty Model)) → List SiteId → Faulty Model → Faulty Model → Type 0
AllCompleteFailing part [] f g = f ≡ g
AllCompleteFailing part (site ∷ sites) f g = CompletesFailing part site f × AllCompleteFailing part sites (part site f).world g

abbrev pub FailingRoundSettles : Publication → Saying → Model → Type 0
FailingRoundSettles publication says m = (slips : Slips) (uploading downloading : List SiteId) (sent done : Faulty Model) → HasSubscribers m uploading → HasSubscribers sent.world downloading
    → AllCompleteFailing (uploaded_failing publication says) uploading (faulty m slips) sent → AllCompleteFailing (downloaded_failing publication says) downloading sent done
    → (s : SubscriberTables) → subscriber_at done.world.world s.site ≡ Some s → IsSettled publication done.world s
