-- A round: every subscriber uploads, and then every subscriber downloads.
use Rattle.std.specs.Prelude.{◌≡◌, ◌==◌, Bool, List, [], ◌∷◌, None, Some, true}
use Rattle.std.specs.List.{list_any}
use Rattle.merge_types.specs.declared.identifiers.SiteId.{SiteId}
use Rattle.merge_schema.specs.declared.publication.Publication.{Publication}
use Rattle.merge_model.specs.History.Model.{Model, model}
use Rattle.merge_model.specs.Laws.Promises.{IsSettled}
use Rattle.merge_model.specs.World.Session.{Session, all_downloads, all_uploads}
use Rattle.merge_model.specs.Tables.{SubscriberTables}
use Rattle.merge_model.specs.World.{Saying, subscriber_at}

-- a part of a session from here
abbrev pub new_session : Model → Session Model
new_session m = record { world = m; uploads = 0; downloads = 0; stop = None }

abbrev pub uploaded_by : Publication → Saying → SiteId → Model → Session Model
uploaded_by publication says site m = all_uploads (model publication says) site (new_session m)

abbrev pub downloaded_by : Publication → Saying → SiteId → Model → Session Model
downloaded_by publication says site m = all_downloads (model publication says) site (new_session m)

-- a subscriber that has joined completes a part: nothing is refused
pub record Completes (part : SiteId → Model → Session Model) (site : SiteId) (m : Model) : Type 0 where
  pub tables : SubscriberTables
  pub here : subscriber_at m.world site ≡ Some tables
  pub joined : tables.is_joined ≡ true
  pub ended : (part site m).stop ≡ None

-- These sites complete it, one after the other and nothing else between, and leave this model.
abbrev pub AllComplete : (SiteId → Model → Session Model) → List SiteId → Model → Model → Type 0
AllComplete part [] m k = m ≡ k
AllComplete part (site ∷ sites) m k = Completes part site m × AllComplete part sites (part site m).world k

abbrev pub is_among : SiteId → List SiteId → Bool
is_among site sites = list_any (λ (other : SiteId). other.0 == site.0) sites

-- each subscriber is among them
abbrev pub HasSubscribers : Model → List SiteId → Type 0
HasSubscribers m sites = (s : SubscriberTables) → subscriber_at m.world s.site ≡ Some s → is_among s.site sites ≡ true

-- When every subscriber has completed an upload, and then every one a download, each is settled.
abbrev pub RoundSettles : Publication → Saying → Model → Type 0
RoundSettles publication says m = (uploading downloading : List SiteId) (sent done : Model) → HasSubscribers m uploading → HasSubscribers sent downloading
    → AllComplete (uploaded_by publication says) uploading m sent → AllComplete (downloaded_by publication says) downloading sent done
    → (s : SubscriberTables) → subscriber_at done.world s.site ≡ Some s → IsSettled publication done s
