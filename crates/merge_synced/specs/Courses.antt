-- What is left of a session of the model that is under way.
use Rattle.std.specs.Prelude.{None, Some, ℕ}
use Rattle.merge_types.specs.declared.identifiers.SiteId.{SiteId}
use Rattle.merge_schema.specs.declared.publication.Publication.{Publication}
use Rattle.merge_model.specs.World.Events.{machine}
use Rattle.merge_model.specs.World.Session.{Session as ModelSession, all_downloads, all_ranges, all_uploads, as_it_is, downloads_up_to, exchange, range_requests_up_to, unless_stopped, uploads_up_to}
use Rattle.merge_model.specs.World.Steps.{SendJoin}
use Rattle.merge_model.specs.World.{Saying, World}
use Rattle.merge_agent.specs.Sessions.{Asks, Downloads, Joins, Over, Stage, Uploads}

-- What it is at, with its bounds: it joins; it uploads at most so often; it asks for ranges at most so often; it makes its first
-- download; it downloads at most so often, up to a target; or it is done.
pub data Course : Type 0 where
  Joining : Course
  Uploading : (count : ℕ) → Course
  Asking : (count : ℕ) → Course
  Fetching : Course
  Downloading : (count target : ℕ) → Course
  Done : Course

-- the stage of the agent's session
abbrev pub stage_of : Course → Stage
stage_of Joining = Joins
stage_of (Uploading count) = Uploads
stage_of (Asking count) = Asks
stage_of Fetching = Downloads None
stage_of (Downloading count target) = Downloads (Some target)
stage_of Done = Over

-- it counted so many uploads and downloads, and nothing was refused
abbrev pub session_with_counts : World → ℕ → ℕ → ModelSession World
session_with_counts v uploads downloads = record { world = v; uploads = uploads; downloads = downloads; stop = None }

module _ (publication : Publication) (says : Saying) (site : SiteId) where
  -- what comes where the ranges, the uploads and the join are past
  abbrev pub past_ranges : ModelSession World → ModelSession World
  past_ranges x = unless_stopped (machine publication says) site (all_downloads (machine publication says) site) x

  abbrev pub past_uploads : ModelSession World → ModelSession World
  past_uploads x = past_ranges (unless_stopped (machine publication says) site (all_ranges (machine publication says) site) x)

  abbrev pub past_join : ModelSession World → ModelSession World
  past_join x = past_uploads (unless_stopped (machine publication says) site (all_uploads (machine publication says) site) x)

  -- where it ends that is at this
  abbrev pub left_of : Course → ModelSession World → ModelSession World
  left_of Joining x = past_join (exchange (machine publication says) site SendJoin (as_it_is (machine publication says) site) (as_it_is (machine publication says) site) x)
  left_of (Uploading count) x = past_uploads (uploads_up_to (machine publication says) site count x)
  left_of (Asking count) x = past_ranges (range_requests_up_to (machine publication says) site count x)
  left_of Fetching x = all_downloads (machine publication says) site x
  left_of (Downloading count target) x = downloads_up_to (machine publication says) site count target x
  left_of Done x = x
