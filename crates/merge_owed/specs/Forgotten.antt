-- What a purge and a join forget, and the numbers in reports: read from the tables they are what the history's last lines, the
-- generations that have acted and the changes that were made say.
use Rattle.std.specs.List.{list_any}
use Rattle.std.specs.Option.{option_map_or}
use Rattle.std.specs.Prelude.{Bool, List, Some, [], count_by, false, flat_map, length, map, not, ◌&&◌, ◌==◌, ◌≡◌, ◌≤◌, ℕ}
use Rattle.merge_types.specs.declared.identifiers.SiteId.{SiteId}
use Rattle.merge_types.specs.declared.row_key.RowKey.{RowKey as Key}
use Rattle.merge_units.specs.Version.{is_live}
use Rattle.merge_units.specs.declared.site_row.PublisherRow.{PublisherRow}
use Rattle.merge_gens.specs.declared.closings.Closing.{Closing}
use Rattle.merge_gens.specs.declared.moves.Mapping.{Mapping}
use Rattle.merge_gens.specs.declared.moves.RowSite.{RowSite}
use Rattle.merge_gens.specs.declared.sites.SiteState.{SiteState}
use Rattle.merge_schema.specs.declared.publication.Publication.{Publication}
use Rattle.merge_model.specs.Judge.ByHistory.{by_made, by_past, last_change, received_by_done, received_number_by_done, seen_by_accepted}
use Rattle.merge_model.specs.World.Events.{happens}
use Rattle.merge_model.specs.Failing.{Slips, fails, faulty, faulty_stepping}
use Rattle.merge_model.specs.History.{History}
use Rattle.merge_model.specs.Tables.Keys.{at_number, at_row_site, row_at, same_key}
use Rattle.merge_model.specs.History.Model.{Model, model}
use Rattle.merge_model.specs.History.Noting.{gone_for, left_rows, old_left, site_of_subscription}
use Rattle.merge_model.specs.Tables.Publications.{by_site}
use Rattle.merge_model.specs.Publisher.{at_moment}
use Rattle.merge_model.specs.Publisher.PublisherJoin.{is_left_of}
use Rattle.merge_model.specs.Publisher.PublisherPurge.{is_old, is_old_left, is_old_tombstone}
use Rattle.merge_model.specs.World.Reports.{unsent_count}
use Rattle.merge_model.specs.Subscriber.Sending.{unsent_rows}
use Rattle.merge_model.specs.Laws.SlipLaws.{is_slip, refused_for, shows_refusal}
use Rattle.merge_model.specs.World.Steps.{Forget}
use Rattle.merge_model.specs.Tables.{PublisherTables, SubscriberTables}
use Rattle.merge_model.specs.World.{Saying}
use Rattle.merge_model.specs.declared.answer.Answer.{Answer}
use Rattle.merge_model.specs.declared.answer.Answer.TheVariants.{Purged}
use Rattle.merge_model.specs.declared.event.Event.TheVariants as event
use Rattle.merge_model.specs.declared.outcome.Forgotten.{Forgotten}
use Rattle.merge_model.specs.declared.outcome.Outcome.{Outcome}
use Rattle.merge_model.specs.declared.outcome.Outcome.TheVariants.{Forgot}

-- whether the mapping that is kept of a row and a site passes a test
abbrev pub is_kept_with : (RowSite × Mapping → Bool) → PublisherTables → RowSite → Bool
is_kept_with test p place = option_map_or (λ (move : Mapping). test (place, move)) (at_row_site p.mappings place) false

abbrev pub has_place : List RowSite → RowSite → Bool
has_place places place = list_any (λ (other : RowSite). same_key place.key other.key && (other.site == place.site)) places

-- the publisher as it goes over what is old
abbrev pub going_over : Model → PublisherTables
going_over m = at_moment m.world.moment m.world.publisher

-- A join forgets the mappings of just those rows of which the last line for its site says that they left.
abbrev pub JoinsForgetByLines : Model → Type 0
JoinsForgetByLines m = (site : SiteId) (place : RowSite) → is_kept_with (is_left_of site) m.world.publisher place ≡ has_place (map (gone_for site) (left_rows (by_past m.history []) site)) place

-- A purge forgets just the mappings of rows and sites of which the last line says that the row left, in an old generation,
abbrev pub lines_past : Publication → Model → List RowSite
lines_past publication m = flat_map (old_left publication (by_past m.history []) (going_over m)) (map site_of_subscription (by_site publication))

abbrev pub PurgesForgetByLines : Publication → Saying → Model → Type 0
PurgesForgetByLines publication says m = (place : RowSite) → is_kept_with (is_old_left publication (going_over m)) (going_over m) place ≡ has_place (lines_past publication m) place

-- and just the deleted rows of which the last line that says that they changed stands in an old generation.
abbrev pub is_old_by_lines : Publication → Model → Key × PublisherRow → Bool
is_old_by_lines publication m row = not (is_live row.1.version.body) && option_map_or (is_old publication (going_over m)) (last_change m.history row.0) false

abbrev pub TombstonesAreOldByLines : Publication → Saying → Model → Type 0
TombstonesAreOldByLines publication says m = (key : Key) (row : PublisherRow) → row_at m.world.publisher.rows key ≡ Some row → is_old_tombstone publication (going_over m) (key, row) ≡ is_old_by_lines publication m (key, row)

-- So the counts that a purge answers are the numbers of what is forgotten: of the rows that are old by their lines, of the rows and
-- sites, each once, whose last line tells so, and of the closed generations that are kept and old.
abbrev pub forgotten_by_lines : Publication → Model → Forgotten
forgotten_by_lines publication m = record {
  tombstones = count_by (is_old_by_lines publication m) m.world.publisher.rows;
  mappings = length (lines_past publication m);
  generations = count_by (λ (closing : Closing). is_old publication (going_over m) closing.generation) m.world.publisher.gens.closings;
}

-- Unless the step fails, these are what comes of it, and what the event is answered.
abbrev pub PurgesCountByLines : Publication → Saying → Model → Type 0
PurgesCountByLines publication says m = (slips : Slips)
    → (let outcome : Outcome = (fails publication (model publication says) (faulty m slips) Forget).1 in refused_for is_slip outcome ≡ false → outcome ≡ Forgot (forgotten_by_lines publication m))

abbrev pub answer_of_counts : Forgotten → Answer
answer_of_counts counts = Purged counts.tombstones counts.mappings counts.generations

abbrev pub PurgesAnswerByLines : Publication → Saying → Model → Type 0
PurgesAnswerByLines publication says m = (slips : Slips)
    → (let answer : Answer = (happens publication (faulty_stepping publication (model publication says)) (faulty m slips) event.Purge).1 in shows_refusal is_slip answer ≡ false → answer ≡ answer_of_counts (forgotten_by_lines publication m))

-- What the publisher tells of a site: how far its generations have acted, the last of its changes that did, and the last that was met.
pub record TellsOfSite (h : History) (site : ℕ) (state : SiteState) : Type 0 where
  pub received : state.received ≡ received_by_done h site
  pub number : state.received_number ≡ received_number_by_done h site
  pub seen : 1 ≤ site → state.seen ≡ seen_by_accepted h site

abbrev pub PublisherTellsDone : Publication → Saying → Model → Type 0
PublisherTellsDone publication says m = (site : ℕ) (state : SiteState) → at_number m.world.publisher.sites site ≡ Some state → TellsOfSite m.history site state

-- What a subscriber tells: how many rows it changed that are not received.
abbrev pub SubscribersTellMade : Publication → Saying → Model → Type 0
SubscribersTellMade publication says m = (n : ℕ) (s : SubscriberTables) → at_number m.world.subscribers n ≡ Some s → unsent_count s ≡ length (unsent_rows (by_made m.history s.site) s)
