-- What is told of rows that left a partition, and what is forgotten of it.
use Rattle.std.specs.Prelude.{◌≡◌, ◌<◌, ◌==◌, ◌&&◌, ◌||◌, ℕ, Some, true, false, []}
use Rattle.std.specs.List.{AllByRecursion}
use Rattle.merge_types.specs.declared.identifiers.SiteId.{SiteId}
use Rattle.merge_types.specs.declared.row_key.RowKey.{RowKey as Key}
use Rattle.merge_gens.specs.declared.moves.MoveKind.{MoveKind}
use Rattle.merge_gens.specs.declared.moves.MoveKind.TheVariants.{Left}
use Rattle.merge_gens.specs.declared.moves.RowSite.{RowSite}
use Rattle.merge_schema.specs.Valid.{IsValid}
use Rattle.merge_schema.specs.declared.publication.Publication.{Publication}
use Rattle.merge_batch.specs.declared.request.Join.{Join}
use Rattle.merge_batch.specs.declared.request.Request.TheVariants as request
use Rattle.merge_model.specs.Publisher.Entries.{Changing, changed_by, changing_entries}
use Rattle.merge_model.specs.Judge.{PublisherJudge}
use Rattle.merge_model.specs.Tables.Keys.{has_key}
use Rattle.merge_model.specs.History.Model.{Model}
use Rattle.merge_model.specs.Laws.Promises.{is_expired_at}
use Rattle.merge_model.specs.Publisher.PublisherDownload.{inside_keys}
use Rattle.merge_model.specs.Publisher.PublisherJoin.{join_acts, tables_after_join}
use Rattle.merge_model.specs.Publisher.PublisherPurge.{purge}
use Rattle.merge_model.specs.Tables.{PublisherTables, SubscriberTables}
use Rattle.merge_model.specs.World.{letter_at, subscriber_at}
use Rattle.merge_model.specs.declared.letter.Message.TheVariants.{Asks}
use Rattle.merge_laws.specs.Facts.Settled.{owed_at, touched_at}

-- A step tells that a row left a site's partition only where it is outside afterwards, and was inside before or an item of the
-- site's own upload acted on it. The lines of a step, and its mappings, are made of these moves.
pub record LeavesHere (publication : Publication) (changing : Changing) (before after : PublisherTables) (place : RowSite) : Type 0 where
  pub outside : has_key (inside_keys publication (record { 0 = place.site }) after) place.key ≡ false
  pub seen : (has_key (inside_keys publication (record { 0 = place.site }) before) place.key || ((place.site == changing.uploader) && has_key changing.acted place.key)) ≡ true

abbrev pub LeavingsAreSeen : Type 0
LeavingsAreSeen = (resolvers : ℕ) (publication : Publication) → IsValid resolvers publication → (judge : PublisherJudge) (changing : Changing) (p : PublisherTables)
    → AllByRecursion (λ (entry : (RowSite × MoveKind) × ℕ). entry.0.1 ≡ Left → LeavesHere publication changing p (changed_by publication judge changing p) entry.0.0) (changing_entries publication judge changing p).moved

-- What is owed to a site is a row that was touched for it above the site's watermark. It stays so, in the same generation and with
-- the same version, or none.
pub record StaysOwed (publication : Publication) (before after : PublisherTables) (site : SiteId) (key : Key) : Type 0 where
  pub touched : touched_at publication after site key ≡ touched_at publication before site key
  pub owed : owed_at publication after site key ≡ owed_at publication before site key

-- A purge that came now would take nothing that is owed to a joined site that is not expired.
abbrev pub PurgesTakeNothingOwed : Publication → Model → Type 0
PurgesTakeNothingOwed publication m = (s : SubscriberTables) (key : Key) → subscriber_at m.world s.site ≡ Some s → s.is_joined ≡ true → is_expired_at publication m.world s.site ≡ false
    → s.watermark < touched_at publication m.world.publisher s.site key → StaysOwed publication m.world.publisher (purge publication m.world.moment m.world.publisher).0 s.site key

-- A join that acts forgets what left the partition of its own site alone, and this site holds no row.
abbrev pub JoinsTakeNothingOwed : Publication → Model → Type 0
JoinsTakeNothingOwed publication m = (number : ℕ) (site : SiteId) (j : Join) → letter_at m.world number ≡ Some (record { site = site; message = Asks (request.Join j) }) → join_acts j m.world.publisher ≡ true
    → (s : SubscriberTables) (key : Key) → subscriber_at m.world s.site ≡ Some s
    → ((s.site.0 ≡ j.site.0) → s.rows ≡ []) × ((s.site.0 ≡ j.site.0 → ⊥) → StaysOwed publication m.world.publisher (tables_after_join j m.world.publisher) s.site key)
