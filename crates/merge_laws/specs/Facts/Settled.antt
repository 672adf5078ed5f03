-- A settled site holds its partition: what every list of events keeps of sites, of the publisher and of the messages between them.
use Rattle.std.specs.Prelude.{◌≡◌, ◌≤◌, ◌<◌, ◌==◌, ◌+◌, ◌&&◌, max, ℕ, List, [], ◌∷◌, Bool, true, false, Option, Some, None, if◌then◌else◌, IfSome, filter, option_map, unwrap_or}
use Rattle.std.specs.List.{AllByRecursion, list_any}
use Rattle.std.specs.Option.{option_map_or}
use Rattle.merge_types.specs.declared.identifiers.SiteId.{SiteId}
use Rattle.merge_units.specs.Version.{is_live}
use Rattle.merge_units.specs.declared.version.Body.TheVariants.{Live}
use Rattle.merge_units.specs.declared.version.Version.{Version}
use Rattle.merge_gens.specs.Retention.{is_expired}
use Rattle.merge_gens.specs.declared.filling.Filling.{Filling}
use Rattle.merge_gens.specs.declared.sites.SiteState.{SiteState}
use Rattle.merge_schema.specs.declared.publication.Publication.{Publication}
use Rattle.merge_batch.specs.declared.reply.Act.{Act as Order}
use Rattle.merge_batch.specs.declared.reply.Act.TheVariants as order
use Rattle.merge_batch.specs.declared.reply.DownloadItem.{DownloadItem}
use Rattle.merge_batch.specs.declared.reply.Downloaded.{Downloaded}
use Rattle.merge_batch.specs.declared.reply.Reply.TheVariants as reply
use Rattle.merge_batch.specs.declared.request.Outstanding.TheVariants as ask
use Rattle.merge_batch.specs.declared.request.Request.TheVariants as request
use Rattle.merge_batch.specs.declared.request.Upload.{Upload}
use Rattle.merge_batch.specs.declared.request.UploadItem.{UploadItem}
use Rattle.merge_model.specs.Publisher.Acts.{key_of_item}
use Rattle.merge_model.specs.Judge.ByNumbers.{changed_in, mapping_at, received_by_number, touch_by_mapping}
use Rattle.merge_model.specs.History.{History, MadeChange}
use Rattle.merge_model.specs.Tables.Keys.{at_number, has_key, same_key}
use Rattle.merge_model.specs.Laws.Promises.{base_of}
use Rattle.merge_model.specs.Publisher.{last_closed}
use Rattle.merge_model.specs.Publisher.PublisherDownload.{inside_keys}
use Rattle.merge_model.specs.Publisher.PublisherLocal.{version_at}
use Rattle.merge_model.specs.Subscriber.{subscriber_version_at}
use Rattle.merge_types.specs.declared.row_key.RowKey.{RowKey as Key}
use Rattle.merge_gens.specs.declared.moves.Mapping.{Mapping}
use Rattle.merge_model.specs.Tables.{PublisherTables, SubscriberTables}
use Rattle.merge_model.specs.Subscriber.Taking.{key_of_download}
use Rattle.merge_model.specs.World.{World}
use Rattle.merge_model.specs.declared.letter.Message.TheVariants.{Asks, Replies}
use Rattle.merge_model.specs.declared.letter.Letter.{Letter}
use Rattle.merge_model.specs.declared.letter.Message.{Message}

-- What it speaks of, row by row.

abbrev pub live_only : Option Version → Option Version
live_only None = None
live_only (Some version) = if is_live version.body then Some version else None

-- what a site holds of a row
abbrev pub held_at : SubscriberTables → Key → Option Version
held_at s key = live_only (subscriber_version_at s key)

-- what it is to hold
abbrev pub owed_at : Publication → PublisherTables → SiteId → Key → Option Version
owed_at publication p site key = if has_key (inside_keys publication site p) key then version_at p key else None

-- the generation in which the row was touched for the site, 0 where it never was
abbrev pub touched_at : Publication → PublisherTables → SiteId → Key → ℕ
touched_at publication p site key = unwrap_or (touch_by_mapping p key site.0 (has_key (inside_keys publication site p) key)) 0

-- Of the changes of a site, the last one first: the generation of the last change of the row, 0 where it made none.
abbrev pub changed_of : List MadeChange → Key → ℕ
changed_of [] key = 0
changed_of (change ∷ changes) key = if same_key key change.key then max change.generation (changed_of changes key) else changed_of changes key

abbrev pub made_in : List MadeChange → ℕ → List MadeChange
made_in made n = filter (λ (change : MadeChange). change.dot.site.0 == n) made

-- whether the publisher holds the site for expired at the greatest moment that it was given
abbrev pub is_expired_by : Publication → PublisherTables → ℕ → Bool
is_expired_by publication p n = option_map_or (λ (state : SiteState). is_expired (record { 0 = state.last_sync }) p.latest publication.retention_days) (at_number p.sites n) true

-- What the publisher holds of a site, and the history of the site's changes.
pub record SiteView : Type 0 where
  pub is_expired : Bool
  -- the site's last generation that has acted
  pub received : ℕ
  -- the publisher's last closed generation
  pub closed : ℕ
  pub touched : Key → ℕ
  pub owed : Key → Option Version
  pub changed : Key → ℕ

abbrev pub site_view : Publication → PublisherTables → List MadeChange → ℕ → SiteView
site_view publication p made n = record {
  is_expired = is_expired_by publication p n;
  received = received_by_number p n;
  closed = last_closed p;
  touched = touched_at publication p (record { 0 = n });
  owed = owed_at publication p (record { 0 = n });
  changed = changed_of made;
}

-- A site.
pub record SiteHolds (v : SiteView) (s : SubscriberTables) : Type 0 where
  -- a row that was not touched above the watermark, and that the site did not change since the publisher took its changes, is as it is to be
  pub equal : v.is_expired ≡ false → s.is_joined ≡ true → (key : Key) → v.changed key ≤ v.received → v.touched key ≤ s.watermark → held_at s key ≡ v.owed key
  -- a site that is joining has nothing
  pub empty : s.is_joined ≡ false → s.rows ≡ []
  pub unmarked : s.is_joined ≡ false → s.watermark ≡ 0
  -- it takes for held no more than has closed
  pub marks : s.watermark ≤ v.closed

-- The publisher, for a site.

-- the last generation that was used: the open one, or the one before where that is empty
abbrev pub last_used : Filling → ℕ
last_used filling = if filling.filled == 0 then filling.last_closed else filling.last_closed + 1

pub record TouchedInOrder (publication : Publication) (p : PublisherTables) (base : ℕ) (site : SiteId) : Type 0 where
  -- what is in the partition was touched
  pub live : (key : Key) → has_key (inside_keys publication site p) key ≡ true → 1 ≤ touched_at publication p site key
  -- none is touched behind the open generation, nor in it where it is empty
  pub below : (key : Key) → touched_at publication p site key ≤ last_closed p + 1
  pub unused : p.gens.filling.filled ≡ 0 → (key : Key) → touched_at publication p site key ≤ last_closed p
  -- nor did it change or move there, also where that is no touch now: a row that comes into the partition brings the generation of its last change
  pub changes : (key : Key) → unwrap_or (changed_in p key) 0 ≤ last_used p.gens.filling
  pub moves : (key : Key) → unwrap_or (option_map (λ (mapping : Mapping). mapping.generation) (mapping_at p key site.0)) 0 ≤ last_used p.gens.filling
  -- a row that left is told of since the site joined
  pub left : (key : Key) → has_key (inside_keys publication site p) key ≡ false → 1 ≤ touched_at publication p site key → base < touched_at publication p site key
  pub bases : base ≤ last_closed p

-- The messages that can still act.

-- an upload has each row of which the site's last change lies in its generations
abbrev pub has_item : List UploadItem → Key → ℕ → Bool
has_item items key generation = list_any (λ (item : UploadItem). same_key key (key_of_item item) && (item.generation == generation)) items

pub record SendsChanged (changed : Key → ℕ) (m : Upload) : Type 0 where
  pub items : (key : Key) → m.from < changed key → changed key ≤ m.to → has_item m.items key (changed key) ≡ true

-- what a reply says of a row: the last item of it counts
abbrev pub said_over : Option Order → Bool → Order → Option Order
said_over (Some later) here order = Some later
said_over None here order = if here then Some order else None

abbrev pub said_of : List DownloadItem → Key → Option Order
said_of [] key = None
said_of (item ∷ items) key = said_over (said_of items key) (same_key key (key_of_download item)) item.act

-- what is held of a row after it
abbrev pub held_by : Order → Option Version
held_by (order.Put lineage live) = Some (record { lineage = lineage; body = Live live })
held_by order.RemoveDeleted = None
held_by order.RemoveLeft = None

-- the reply to the outstanding ask is true of the publisher as it is now
pub record ReplyFits (v : SiteView) (m : Downloaded) : Type 0 where
  -- each row that was touched in its interval is in it, as it is to be held now
  pub now : (key : Key) → m.from < v.touched key → v.touched key ≤ m.to → option_map held_by (said_of m.items key) ≡ Some (v.owed key)
  -- no other row but one that was touched since
  pub only : (key : Key) (item : Order) → said_of m.items key ≡ Some item → m.from < v.touched key
  -- a change of the site that was taken since the reply was made is told behind it
  pub later : (key : Key) → m.received < v.changed key → v.changed key ≤ v.received → m.to < v.touched key

pub record ReplyHolds (v : SiteView) (s : SubscriberTables) (m : Downloaded) : Type 0 where
  -- no reply was made to a message that the site did not make
  pub made : m.seq ≤ s.seq
  pub up : m.from ≤ m.to
  pub to : m.to ≤ v.closed
  pub fits : v.is_expired ≡ false → s.is_joined ≡ true → s.outstanding ≡ Some (m.seq, ask.Download m.from) → ReplyFits v m

abbrev pub MessageSettles : SiteView → SubscriberTables → Message → Type 0
MessageSettles v s (Asks (request.Upload m)) = SendsChanged v.changed m
MessageSettles v s (Asks m) = Unit {0}
MessageSettles v s (Replies (reply.Downloaded m)) = ReplyHolds v s m
MessageSettles v s (Replies m) = Unit {0}

abbrev pub LetterSettles : Publication → PublisherTables → List MadeChange → List (ℕ × SubscriberTables) → Letter → Type 0
LetterSettles publication p made subscribers letter =
    IfSome (at_number subscribers letter.site.0) (λ s. MessageSettles (site_view publication p (made_in made letter.site.0) letter.site.0) s letter.message)

pub record SitesSettle (publication : Publication) (p : PublisherTables) (made : List MadeChange) (subscribers : List (ℕ × SubscriberTables)) (pool : List Letter) : Type 0 where
  pub sites : (n : ℕ) → IfSome (at_number subscribers n) (SiteHolds (site_view publication p (made_in made n) n))
  pub letters : AllByRecursion (LetterSettles publication p made subscribers) pool

-- Beside these stand Received, Numbered, Unsent, Behind, Watermarks, LastLines and InStep.
abbrev pub OfSites : Publication → World → History → Type 0
OfSites publication w h = SitesSettle publication w.publisher h.made w.subscribers w.pool

abbrev pub OfPublisher : Publication → World → History → Type 0
OfPublisher publication w h = (n : ℕ) → IfSome (at_number w.subscribers n) (λ s. TouchedInOrder publication w.publisher (base_of h s.site) s.site)

pub record Settled (publication : Publication) (w : World) (h : History) : Type 0 where
  pub sites : OfSites publication w h
  pub publisher : OfPublisher publication w h
