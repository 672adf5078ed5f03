-- Which deleted rows and which mappings a purge drops: those that each joined site has passed that is not expired. And none of these rows
-- is made again.
use Rattle.std.specs.Prelude.{None, Some, false, is_some, true, ◌<◌, ◌≡◌, ◌≤◌, ◌⊎◌, ℕ}
use Rattle.merge_types.specs.declared.identifiers.Dot.{Dot}
use Rattle.merge_types.specs.declared.identifiers.SiteId.{SiteId}
use Rattle.merge_types.specs.declared.row_key.RowKey.{RowKey as Key}
use Rattle.merge_units.specs.declared.site_row.PublisherRow.{PublisherRow}
use Rattle.merge_gens.specs.declared.moves.Mapping.{Mapping}
use Rattle.merge_gens.specs.declared.moves.RowSite.{RowSite}
use Rattle.merge_schema.specs.declared.publication.Publication.{Publication}
use Rattle.merge_model.specs.History.{is_accepted}
use Rattle.merge_model.specs.History.Model.{Model}
use Rattle.merge_model.specs.Judge.ByNumbers.{received_by_number}
use Rattle.merge_model.specs.Laws.Promises.{base_of, is_expired_at, watermark_of}
use Rattle.merge_model.specs.Publisher.Acts.{is_new_row}
use Rattle.merge_model.specs.Publisher.PublisherDownload.{inside_keys}
use Rattle.merge_model.specs.Publisher.PublisherPurge.{is_old_left, is_old_tombstone, purge}
use Rattle.merge_model.specs.Tables.Keys.{has_key, row_at}
use Rattle.merge_model.specs.Tables.{SubscriberTables}
use Rattle.merge_model.specs.World.{subscriber_at}
use Rattle.merge_laws.specs.Facts.Knowledge.{is_made}
use Rattle.merge_laws.specs.Facts.Settled.{changed_of, held_at, made_in, touched_at}
use Rattle.merge_laws.specs.Laws.Effects.{history_judge}
use Rattle.merge_owed.specs.Forgotten.{going_over}
use Rattle.merge_owed.specs.Mappings.{kept_at}

-- No upload of a subscriber makes the row, whichever letter of the pool it is: where the row is not held, an item of it is passed over.
abbrev pub IsNeverNew : Model → Key → Type 0
IsNeverNew m key = (site : SiteId) (number : ℕ) → 1 ≤ site.0 → is_new_row (history_judge m number) site key ≡ false

-- So it is of each row of which the publisher accepted a change. Where the publisher lacks the row, a purge took it.
abbrev pub AcceptedAreNeverNew : Model → Type 0
AcceptedAreNeverNew m = (key : Key) (dot : Dot) → is_made m.history.made key dot ≡ true → is_accepted m.history dot ≡ true → IsNeverNew m key

-- the site made a change of the row that the publisher has not taken
abbrev pub IsUnsent : Model → SubscriberTables → Key → Type 0
IsUnsent m s key = received_by_number m.world.publisher s.site.0 < changed_of (made_in m.history.made s.site.0) key

-- The site is still to be told that the row left: the row was touched for it above its watermark. Behind a purge that comes now it
-- was touched there too.
pub record IsStillTold (publication : Publication) (m : Model) (s : SubscriberTables) (key : Key) : Type 0 where
  pub above : s.watermark < touched_at publication m.world.publisher s.site key
  pub stays : touched_at publication (purge publication m.world.moment m.world.publisher).0 s.site key ≡ touched_at publication m.world.publisher s.site key

-- A site has passed a deleted row.
pub record HasPassed (publication : Publication) (m : Model) (s : SubscriberTables) (key : Key) (row : PublisherRow) : Type 0 where
  -- it asked for what lies above the generation in which the row changed last, or that had closed as the site last joined with no row
  pub asked : (row.changed ≤ watermark_of m.world s.site) ⊎ (row.changed ≤ base_of m.history s.site)
  -- the watermark that the publisher has of it is no more than its own
  pub marked : watermark_of m.world s.site ≤ s.watermark
  -- It holds no such row, unless it changed the row and the publisher has not taken the change, or is still to be told.
  pub gone : (held_at s key ≡ None) ⊎ (IsUnsent m s key ⊎ IsStillTold publication m s key)

-- Each deleted row that a purge would drop that came now, each joined site has passed that is not expired.
abbrev pub TombstonesArePassed : Publication → Model → Type 0
TombstonesArePassed publication m = (key : Key) (row : PublisherRow) (s : SubscriberTables) → row_at m.world.publisher.rows key ≡ Some row → is_old_tombstone publication (going_over m) (key, row) ≡ true
    → subscriber_at m.world s.site ≡ Some s → s.is_joined ≡ true → is_expired_at publication m.world s.site ≡ false → HasPassed publication m s key row

-- A site has passed a mapping, which says that a row left a partition.
pub record HasPassedLeaving (publication : Publication) (m : Model) (s : SubscriberTables) (key : Key) (move : Mapping) : Type 0 where
  -- it asked for what lies above the generation in which the row left, or that had closed as the site last joined with no row
  pub asked : (move.generation ≤ watermark_of m.world s.site) ⊎ (move.generation ≤ base_of m.history s.site)
  pub marked : watermark_of m.world s.site ≤ s.watermark
  -- Where the row is outside of its partition it holds no such row, unless it changed the row and the publisher has not taken the change,
  -- or is still to be told.
  pub gone : has_key (inside_keys publication s.site m.world.publisher) key ≡ false → (held_at s key ≡ None) ⊎ (IsUnsent m s key ⊎ IsStillTold publication m s key)

-- Each mapping that a purge would drop that came now, each joined site has passed that is not expired: so it is owed to none, nor to the one whose
-- partition the row left.
abbrev pub LeavingsArePassed : Publication → Model → Type 0
LeavingsArePassed publication m = (place : RowSite) (move : Mapping) (s : SubscriberTables) → kept_at m.world.publisher place ≡ Some move → is_old_left publication (going_over m) (place, move) ≡ true
    → subscriber_at m.world s.site ≡ Some s → s.is_joined ≡ true → is_expired_at publication m.world s.site ≡ false → HasPassedLeaving publication m s place.key move

-- And no row that the publisher holds is made by what any site still sends of it, also where it was deleted and a purge drops it.
abbrev pub HeldAreNeverNew : Model → Type 0
HeldAreNeverNew m = (key : Key) → is_some (row_at m.world.publisher.rows key) ≡ true → IsNeverNew m key
