-- What is promised of every world with its history.
use Rattle.std.specs.List.{list_all, list_any, zip}
use Rattle.std.specs.Option.{option_map_or}
use Rattle.std.specs.Prelude.{All, Bool, List, None, Option, Some, [], count_by, false, filter, filter_map, if◌then◌else◌, map, nat_le, not, option_map, slice_get, true, unwrap_or, ℕ, ℤ, ◌&&◌, ◌==◌, ◌||◌, ◌∷◌, ◌≡◌, ◌≤◌}
use Rattle.std.specs.Ordering.{int_eq}
use Rattle.merge_types.specs.declared.identifiers.Dot.{Dot}
use Rattle.merge_types.specs.declared.identifiers.SiteId.{SiteId}
use Rattle.merge_lineage.specs.Lineage.{knows}
use Rattle.merge_units.specs.Version.{is_live}
use Rattle.merge_units.specs.declared.version.Version.{Version}
use Rattle.merge_gens.specs.Retention.{is_expired}
use Rattle.merge_gens.specs.declared.sites.SiteState.{SiteState}
use Rattle.merge_ident.specs.Grants.{AreDisjoint}
use Rattle.merge_conflict.specs.declared.row.ConflictRow.{ConflictRow}
use Rattle.merge_schema.specs.declared.publication.Publication.{Publication}
use Rattle.merge_batch.specs.declared.reply.Act.{Act as Order}
use Rattle.merge_batch.specs.declared.reply.DownloadItem.{DownloadItem}
use Rattle.merge_batch.specs.declared.request.Download.{Download}
use Rattle.merge_batch.specs.declared.request.Upload.{Upload}
use Rattle.merge_batch.specs.declared.request.UploadItem.{UploadItem}
use Rattle.merge_model.specs.Publisher.Acts.{key_of_item}
use Rattle.merge_model.specs.Judge.ByHistory.{by_made, by_past, has_left_by_line, is_unsent_by_made}
use Rattle.merge_model.specs.Judge.ByNumbers.{received_number_by_number}
use Rattle.merge_model.specs.History.{Chains, History, MadeChange, OfCells, OfDead, Past, has, is_accepted, past_at, past_in, pasts_with}
use Rattle.merge_model.specs.Tables.Keys.{at_number, has_key, same_key}
use Rattle.merge_model.specs.History.Model.{Model, model}
use Rattle.merge_model.specs.History.Noting.{new_generations}
use Rattle.merge_model.specs.Publisher.{at_moment, last_closed, state_of}
use Rattle.merge_model.specs.Publisher.PublisherDownload.{inside_keys, reply_to}
use Rattle.merge_model.specs.Publisher.PublisherPurge.{is_old}
use Rattle.merge_model.specs.Subscriber.Sending.{unsent_rows}
use Rattle.merge_model.specs.World.Session.{Session, session}
use Rattle.merge_types.specs.declared.row_key.RowKey.{RowKey as Key}
use Rattle.merge_units.specs.declared.site_row.PublisherRow.{PublisherRow}
use Rattle.merge_units.specs.declared.site_row.SubscriberRow.{SubscriberRow}
use Rattle.merge_model.specs.Tables.{PublisherTables, SubscriberTables}
use Rattle.merge_model.specs.Subscriber.Taking.{key_of_download}
use Rattle.merge_model.specs.World.{Saying, World, letter_at, subscriber_at}
use Rattle.merge_model.specs.declared.letter.Message.TheVariants.{Asks, Replies}
use Rattle.merge_model.specs.declared.letter.Letter.{Letter}
use Rattle.merge_model.specs.declared.letter.Message.{Message}
use Rattle.merge_batch.specs.declared.reply.Act.TheVariants as order
use Rattle.merge_batch.specs.declared.reply.Reply.TheVariants as reply
use Rattle.merge_batch.specs.declared.request.Request.TheVariants as request

-- Where a change stands in a row: in a cell, or in the row as a whole.
pub data Place : Type 0 where
  InCell : (place : ℕ) → Place
  InRow : Place

-- whether a body descends from a change at a place. A deleted row descends from it wherever it stood
abbrev pub descends : Chains → Place → Dot → Bool
descends (OfCells chains) (InCell place) dot = has (unwrap_or (slice_get chains place) []) dot
descends (OfCells chains) InRow dot = false
descends (OfDead chain) place dot = has chain dot

-- the places that a change made
abbrev pub places_of : MadeChange → List Place
places_of change = if change.deletes then InRow ∷ [] else map (λ (cell : ℕ). InCell cell) change.cells

-- No change that was made is lost. A change is kept at a place

-- in the publisher's row,
abbrev pub is_kept_here : History → MadeChange → Place → Bool
is_kept_here h change place = descends (past_at h 0 change.key).chains place change.dot

-- in a version of a conflict table,
abbrev pub is_kept_as_lost : History → MadeChange → Place → Bool
is_kept_as_lost h change place = list_any (λ (lost : ℕ × (Key × Past)). same_key lost.1.0 change.key && descends lost.1.1.chains place change.dot) h.lost

-- in its own site's row, as long as that is unsent,
abbrev pub received_at : World → SiteId → ℕ
received_at w site = unwrap_or (option_map (λ (s : SubscriberTables). s.received) (subscriber_at w site)) 0

abbrev pub is_kept_unsent : Model → MadeChange → Place → Bool
is_kept_unsent m change place =
    is_unsent_by_made m.history change.dot.site (received_at m.world change.dot.site) change.key
    && descends (past_at m.history change.dot.site.0 change.key).chains place change.dot

-- or the row's tombstone was purged.
abbrev pub is_kept : Model → MadeChange → Place → Bool
is_kept m change place =
    is_kept_here m.history change place
    || is_kept_as_lost m.history change place
    || is_kept_unsent m change place
    || has_key m.history.purged change.key

abbrev pub is_accounted : Model → MadeChange → Bool
is_accounted m change = list_all (is_kept m change) (places_of change)

abbrev pub AllAccounted : Model → Type 0
AllAccounted m = All (λ (change : MadeChange). is_accounted m change ≡ true) m.history.made

-- A settled site holds exactly its partition.

abbrev pub is_expired_at : Publication → World → SiteId → Bool
is_expired_at publication w site = option_map_or (λ (state : SiteState). is_expired (record { 0 = state.last_sync }) w.moment publication.retention_days) (at_number w.publisher.sites site.0) true

-- the site has joined, is not expired, has nothing unsent, and holds every generation of the publisher, whose open one is empty
pub record IsSettled (publication : Publication) (m : Model) (s : SubscriberTables) : Type 0 where
  pub is_here : subscriber_at m.world s.site ≡ Some s
  pub joined : s.is_joined ≡ true
  pub in_time : is_expired_at publication m.world s.site ≡ false
  pub nothing_unsent : unsent_rows (by_made m.history s.site) s ≡ []
  pub all_held : s.watermark ≡ last_closed m.world.publisher
  pub none_open : m.world.publisher.gens.filling.filled ≡ 0

-- live rows with their versions
abbrev pub live_version : Key × Version → Option (Key × Version)
live_version row = if is_live row.1.body then Some row else None

abbrev pub versions_held : SubscriberTables → List (Key × Version)
versions_held s = filter_map live_version (map (λ (row : Key × SubscriberRow). (row.0, row.1.version)) s.rows)

abbrev pub version_if_in : List Key → Key × PublisherRow → Option (Key × Version)
version_if_in inside row = if has_key inside row.0 then Some (row.0, row.1.version) else None

-- the rows of the site's partition, as the publisher has them
abbrev pub versions_owed : Publication → World → SiteId → List (Key × Version)
versions_owed publication w site = filter_map (version_if_in (inside_keys publication site w.publisher)) w.publisher.rows

abbrev pub HoldsPartition : Publication → Model → SubscriberTables → Type 0
HoldsPartition publication m s = versions_held s ≡ versions_owed publication m.world s.site

abbrev pub SettledHoldsPartition : Publication → Model → Type 0
SettledHoldsPartition publication m = (s : SubscriberTables) → IsSettled publication m s → HoldsPartition publication m s

-- Lineages decide as histories do.

-- a change that is given up: it is not accepted, and its site has gone on past it, so that no version that knows it can act any more
abbrev pub is_given_up : PublisherTables → History → Dot → Bool
is_given_up p h dot = not (is_accepted h dot) && nat_le dot.number (received_number_by_number p dot.site.0)

-- a lineage stands for what a version of a row knows: of each change of the row that was not given up
abbrev pub StandsFor : Model → Key → List Dot → Past → Type 0
StandsFor m key lineage past = All (λ (change : MadeChange). same_key change.key key ≡ true → is_given_up m.world.publisher m.history change.dot ≡ false → has past.known change.dot ≡ knows lineage change.dot) m.history.made

-- Every lineage stands for what its version knows:
abbrev pub RowsStand : Model → ℕ → List (Key × Version) → Type 0
RowsStand m site rows = All (λ (row : Key × Version). StandsFor m row.0 row.1.lineage (past_at m.history site row.0)) rows

-- that of each row at the publisher and at a subscriber,
abbrev pub publisher_versions : World → List (Key × Version)
publisher_versions w = map (λ (row : Key × PublisherRow). (row.0, row.1.version)) w.publisher.rows

abbrev pub subscriber_versions : SubscriberTables → List (Key × Version)
subscriber_versions s = map (λ (row : Key × SubscriberRow). (row.0, row.1.version)) s.rows

-- that of each version in a message,
abbrev pub put_lineage : DownloadItem → Option (Key × List Dot)
put_lineage item = elim item.act [
  | order.Put lineage live ↦ Some (key_of_download item, lineage)
  | order.RemoveDeleted ↦ None
  | order.RemoveLeft ↦ None
]

abbrev pub lineages_in : Message → List (Key × List Dot)
lineages_in (Asks (request.Upload m)) = map (λ (item : UploadItem). (key_of_item item, item.version.lineage)) m.items
lineages_in (Replies (reply.Downloaded m)) = filter_map put_lineage m.items
lineages_in message = []

abbrev pub LetterStands : Model → ℕ → Letter → Type 0
LetterStands m number letter = All (λ (entry : Key × List Dot). StandsFor m entry.0 entry.1 (past_in (pasts_with m.history number) entry.0)) (lineages_in letter.message)

-- and that of each row of a conflict table. The history has the pasts of these rows, in their order
abbrev pub lost_at : History → ℕ → List (Key × Past)
lost_at h site = map (λ (lost : ℕ × (Key × Past)). lost.1) (filter (λ (lost : ℕ × (Key × Past)). lost.0 == site) h.lost)

abbrev pub key_of_conflict : ConflictRow → Key
key_of_conflict row = record { article = row.article; row = row.row }

pub record TableStands (m : Model) (site : ℕ) (rows : List ConflictRow) : Type 0 where
  pub same_rows : map key_of_conflict rows ≡ map (λ (lost : Key × Past). lost.0) (lost_at m.history site)
  pub stand : All (λ (pair : ConflictRow × (Key × Past)). StandsFor m pair.1.0 pair.0.losing.lineage pair.1.1) (zip rows (lost_at m.history site))

pub record AllStand (m : Model) : Type 0 where
  pub publisher : RowsStand m 0 (publisher_versions m.world)
  pub subscribers : (s : SubscriberTables) → subscriber_at m.world s.site ≡ Some s → RowsStand m s.site.0 (subscriber_versions s)
  pub letters : (number : ℕ) (letter : Letter) → letter_at m.world number ≡ Some letter → LetterStands m number letter
  pub lost : TableStands m 0 m.world.publisher.conflicts
  pub discarded : (s : SubscriberTables) → subscriber_at m.world s.site ≡ Some s → TableStands m s.site.0 s.conflicts

-- No generation acts twice: each of a site's generations comes once among those that have acted.
abbrev pub is_generation_of : ℕ → ℕ → ℕ × ℕ → Bool
is_generation_of site generation entry = (entry.0 == site) && (entry.1 == generation)

abbrev pub NoneActsTwice : Model → Type 0
NoneActsTwice m = (site generation : ℕ) → count_by (is_generation_of site generation) m.history.done ≤ 1

-- the generations of an upload that act
abbrev pub acting_generations : History → Upload → List ℕ
acting_generations h m = new_generations h m.site.0 m.from m.to

-- Identity ranges never overlap.
abbrev pub RangesApart : Model → Type 0
RangesApart m = AreDisjoint m.world.publisher.grants

-- nor do two inserts of an article take one value
abbrev pub is_value : ℤ → Option ℤ → Bool
is_value value None = false
is_value value (Some taken) = int_eq value taken

abbrev pub takes : ℕ → ℤ → MadeChange → Bool
takes article value change = (change.key.article == article) && is_value value change.identity

abbrev pub IdentitiesApart : Model → Type 0
IdentitiesApart m = (article : ℕ) (value : ℤ) → count_by (takes article value) m.history.made ≤ 1

-- A purge takes nothing that a live site still needs: a generation that no joined and unexpired site may still ask for.
abbrev pub watermark_of : World → SiteId → ℕ
watermark_of w site = (state_of w.publisher site).watermark

abbrev pub base_of : History → SiteId → ℕ
base_of h site = unwrap_or (at_number h.bases site.0) 0

pub record IsPast (m : Model) (site : SiteId) (generation : ℕ) : Type 0 where
  pub reached : nat_le generation (watermark_of m.world site) || nat_le generation (base_of m.history site) ≡ true

-- what a purge takes now stands in old generations
abbrev pub OldIsPast : Publication → Model → Type 0
OldIsPast publication m = (site : SiteId) (generation : ℕ) → is_expired_at publication m.world site ≡ false
    → is_old publication (at_moment m.world.moment m.world.publisher) generation ≡ true → IsPast m site generation

-- Downloads stay in the partition: a reply puts a row only where it is in the site's partition now, and removes one only where
-- the last line of it for the site says that it left.
abbrev pub is_put : Order → Bool
is_put (order.Put lineage live) = true
is_put order.RemoveDeleted = false
is_put order.RemoveLeft = false

abbrev pub stays_inside : Publication → Model → SiteId → DownloadItem → Bool
stays_inside publication m site item =
    if is_put item.act then has_key (inside_keys publication site m.world.publisher) (key_of_download item)
    else has_left_by_line m.history (key_of_download item) site.0

abbrev pub RepliesStayInside : Publication → Model → Type 0
RepliesStayInside publication m = (ask : Download) → list_all (stays_inside publication m ask.site) (reply_to publication (by_past m.history []) ask m.world.publisher).items ≡ true

-- A finished session leaves its site settled.
abbrev pub SessionSettles : Publication → Saying → Model → Type 0
SessionSettles publication says m = (s t : SubscriberTables) → subscriber_at m.world s.site ≡ Some s
    → (let done : Session Model = session (model publication says) s.site m in done.stop ≡ None → subscriber_at done.world.world s.site ≡ Some t → IsSettled publication done.world t)
