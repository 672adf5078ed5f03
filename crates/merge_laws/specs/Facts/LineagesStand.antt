-- Lineages stand for what versions know: the statement, and the invariant that is to carry it.
use Rattle.std.specs.Prelude.{◌≡◌, ◌≤◌, ◌<◌, ◌==◌, ◌&&◌, ◌||◌, ℕ, List, [], Bool, true, false, not, Some, filter, is_some, nat_le, nat_lt}
use Rattle.std.specs.List.{AllByRecursion, AllZip, list_any}
use Rattle.merge_types.specs.declared.identifiers.Dot.{Dot}
use Rattle.merge_units.specs.declared.version.Version.{Version}
use Rattle.merge_units.specs.declared.version.Body.TheVariants.{Live}
use Rattle.merge_conflict.specs.declared.row.ConflictRow.{ConflictRow}
use Rattle.merge_batch.specs.Makers.{maker_of}
use Rattle.merge_batch.specs.declared.reply.Act.{Act as Order}
use Rattle.merge_batch.specs.declared.reply.Act.TheVariants as order
use Rattle.merge_batch.specs.declared.reply.DownloadItem.{DownloadItem}
use Rattle.merge_batch.specs.declared.reply.Reply.TheVariants as reply
use Rattle.merge_batch.specs.declared.request.Request.TheVariants as request
use Rattle.merge_batch.specs.declared.request.Upload.{Upload}
use Rattle.merge_batch.specs.declared.request.UploadItem.{UploadItem}
use Rattle.merge_model.specs.Publisher.Acts.{key_of_item}
use Rattle.merge_model.specs.History.{History, MadeChange, Past, has, is_accepted, is_done, past_at, past_in}
use Rattle.merge_model.specs.Tables.Keys.{at_number, row_at, same_key}
use Rattle.merge_model.specs.History.Model.{Model}
use Rattle.merge_model.specs.Laws.Promises.{is_given_up}
use Rattle.merge_types.specs.declared.row_key.RowKey.{RowKey as Key}
use Rattle.merge_units.specs.declared.site_row.PublisherRow.{PublisherRow}
use Rattle.merge_units.specs.declared.site_row.SubscriberRow.{SubscriberRow}
use Rattle.merge_model.specs.Tables.{SubscriberTables}
use Rattle.merge_model.specs.Subscriber.Taking.{key_of_download}
use Rattle.merge_model.specs.declared.letter.Message.TheVariants.{Asks, Replies}
use Rattle.merge_model.specs.declared.letter.Letter.{Letter}
use Rattle.merge_model.specs.declared.letter.Message.{Message}
use Rattle.merge_laws.specs.Facts.Knowledge.{Knowledge}
use Rattle.merge_laws.specs.Facts.Received.{joined_at}
use Rattle.merge_laws.specs.Facts.Standing.{IsKnownLater, StandsFor, Told}

-- the changes that are not given up
abbrev pub counts_in : Model → MadeChange → Bool
counts_in m change = not (is_given_up m.world.publisher m.history change.dot)

-- Every version with its past: those that sites hold, those in letters, and those in conflict tables.

abbrev pub lost_at : History → ℕ → List (ℕ × (Key × Past))
lost_at h site = filter (λ (entry : ℕ × (Key × Past)). entry.0 == site) h.lost

abbrev pub OfOrder : (Key → Version → Past → Type 0) → Key → Past → Order → Type 0
OfOrder P key past (order.Put lineage live) = P key (record { lineage = lineage; body = Live live }) past
OfOrder P key past order.RemoveDeleted = Unit {0}
OfOrder P key past order.RemoveLeft = Unit {0}

abbrev pub OfMessage : (Key → Version → Past → Type 0) → List (Key × Past) → Message → Type 0
OfMessage P pasts (Asks (request.Upload m)) = AllByRecursion (λ (item : UploadItem). P (key_of_item item) item.version (past_in pasts (key_of_item item))) m.items
OfMessage P pasts (Replies (reply.Downloaded m)) = AllByRecursion (λ (item : DownloadItem). OfOrder P (key_of_download item) (past_in pasts (key_of_download item)) item.act) m.items
OfMessage P pasts message = Unit {0}

pub record EveryVersion (P : Key → Version → Past → Type 0) (m : Model) : Type 0 where
  pub publisher : AllByRecursion (λ (row : Key × PublisherRow). P row.0 row.1.version (past_at m.history 0 row.0)) m.world.publisher.rows
  pub subscribers : (n : ℕ) (s : SubscriberTables) → at_number m.world.subscribers n ≡ Some s → AllByRecursion (λ (row : Key × SubscriberRow). P row.0 row.1.version (past_at m.history n row.0)) s.rows
  pub letters : AllZip (λ (letter : Letter) (pasts : List (Key × Past)). OfMessage P pasts letter.message) m.world.pool m.history.letters
  pub conflicts : AllZip (λ (row : ConflictRow) (lost : ℕ × (Key × Past)). P lost.1.0 row.losing lost.1.1) m.world.publisher.conflicts (lost_at m.history 0)
  pub discards : (n : ℕ) (s : SubscriberTables) → at_number m.world.subscribers n ≡ Some s → AllZip (λ (row : ConflictRow) (lost : ℕ × (Key × Past)). P lost.1.0 row.losing lost.1.1) s.conflicts (lost_at m.history n)

-- The statement.
abbrev pub LineagesStand : Model → Type 0
LineagesStand m = EveryVersion (λ (key : Key) (version : Version) (past : Past). StandsFor m.history.made (counts_in m) key version.lineage past.known) m

-- The invariant, its first part: of every version, whatever was given up.
abbrev pub AllTold : Model → Type 0
AllTold m = EveryVersion (λ (key : Key) (version : Version) (past : Past). Told version past.known) m

-- Its second part: what is known of a site's own changes. Each speaks of the changes that are not given up.

-- of the changes of a row that pass a test
abbrev pub KnowsAll : Model → Key → (MadeChange → Bool) → List Dot → Type 0
KnowsAll m key test known = AllByRecursion (λ (change : MadeChange). same_key key change.key ≡ true → test change ≡ true → counts_in m change ≡ true → has known change.dot ≡ true) m.history.made

abbrev pub is_of : ℕ → MadeChange → Bool
is_of site change = change.dot.site.0 == site

abbrev pub can_act : Model → Upload → Bool
can_act m upload = nat_lt (joined_at m.world.publisher upload.site) upload.seq

-- the change stands in an upload's item of its row
abbrev pub is_sent : List (Key × Past) → List UploadItem → MadeChange → Bool
is_sent pasts items change = list_any (λ (item : UploadItem). same_key (key_of_item item) change.key && nat_le change.generation item.generation && has (past_in pasts change.key).known change.dot) items

abbrev pub UploadSends : Model → List (Key × Past) → Message → Type 0
UploadSends m pasts (Asks (request.Upload upload)) = can_act m upload ≡ true
    → AllByRecursion (λ (change : MadeChange). is_of upload.site.0 change ≡ true → upload.from < change.generation → change.generation ≤ upload.to → counts_in m change ≡ true → is_sent pasts upload.items change ≡ true) m.history.made
UploadSends m pasts message = Unit {0}

abbrev pub ReplyAnswers : Model → ℕ → List (Key × Past) → Message → Type 0
ReplyAnswers m site pasts (Replies (reply.Downloaded reply)) =
    AllByRecursion (λ (item : DownloadItem). OfOrder (λ (key : Key) (version : Version) (past : Past). KnowsAll m key (λ (change : MadeChange). is_of site change && nat_le change.generation reply.received) past.known)
    (key_of_download item) (past_in pasts (key_of_download item)) item.act) reply.items
ReplyAnswers m site pasts message = Unit {0}

-- all that other sites made and that is known is accepted
abbrev pub OthersAccepted : History → ℕ → List Dot → Type 0
OthersAccepted h site known = (dot : Dot) → has known dot ≡ true → (dot.site.0 ≡ site → ⊥) → is_accepted h dot ≡ true

-- an upload that can act has nothing that is given up
abbrev pub UploadCounts : Model → List (Key × Past) → Message → Type 0
UploadCounts m pasts (Asks (request.Upload upload)) = can_act m upload ≡ true
    → AllByRecursion (λ (item : UploadItem). (dot : Dot) → has (past_in pasts (key_of_item item)).known dot ≡ true → is_given_up m.world.publisher m.history dot ≡ false) upload.items
UploadCounts m pasts message = Unit {0}

-- Who knows which of a site's changes,
pub record OwnKnown (m : Model) : Type 0 where
  -- a change knew all earlier changes of its site on its row, where it was made
  pub making : AllByRecursion (IsKnownLater m.history.made (counts_in m)) m.history.made
  -- a subscriber's version of a row knows all that the site made of it
  pub own : (n : ℕ) (s : SubscriberTables) (key : Key) → 1 ≤ n → at_number m.world.subscribers n ≡ Some s → is_some (row_at s.rows key) ≡ true → KnowsAll m key (is_of n) (past_at m.history n key).known
  -- the publisher's version of a row knows all that the publisher made of it, and all that has acted
  pub acted : (key : Key) → is_some (row_at m.world.publisher.rows key) ≡ true → KnowsAll m key (λ (change : MadeChange). is_of 0 change || is_done m.history change.dot.site.0 change.generation) (past_at m.history 0 key).known
  pub uploads : AllZip (λ (letter : Letter) (pasts : List (Key × Past)). UploadSends m pasts letter.message) m.world.pool m.history.letters
  pub replies : AllZip (λ (letter : Letter) (pasts : List (Key × Past)). ReplyAnswers m letter.site.0 pasts letter.message) m.world.pool m.history.letters

-- and what is accepted, given up or has acted of what is known.
pub record KnownCounts (m : Model) : Type 0 where
  -- what the publisher's versions know is accepted, and so is what a subscriber's know of other sites
  pub here : (key : Key) → OthersAccepted m.history 0 (past_at m.history 0 key).known
  pub there : (n : ℕ) (key : Key) → 1 ≤ n → OthersAccepted m.history n (past_at m.history n key).known
  -- nothing is given up that a site holds or that can act
  pub holds : (n : ℕ) (key : Key) (dot : Dot) → 1 ≤ n → has (past_at m.history n key).known dot ≡ true → is_given_up m.world.publisher m.history dot ≡ false
  pub counts : AllZip (λ (letter : Letter) (pasts : List (Key × Past)). UploadCounts m pasts letter.message) m.world.pool m.history.letters
  -- a site that is joining holds nothing, and has sent nothing since the join that waits
  pub joining : (n : ℕ) (s : SubscriberTables) → at_number m.world.subscribers n ≡ Some s → s.is_joined ≡ false → s.rows ≡ []
  -- the change that made a row is known to whoever knows any change of it, and has acted where it is accepted
  pub makers : AllByRecursion (λ (change : MadeChange). (maker : Dot) → maker_of change.key.row.0 ≡ Some maker → has change.past.known maker ≡ true) m.history.made
  pub inserts : AllByRecursion (λ (change : MadeChange). maker_of change.key.row.0 ≡ Some change.dot → is_accepted m.history change.dot ≡ true → (change.dot.site.0 ≡ 0 → ⊥) → is_done m.history change.dot.site.0 change.generation ≡ true) m.history.made

pub record Owns (m : Model) : Type 0 where
  pub known : OwnKnown m
  pub counts : KnownCounts m

-- Where the invariant holds, every lineage stands for what its version knows.
abbrev pub StandsByInvariant : Type 0
StandsByInvariant = (m : Model) → Knowledge m.history → AllTold m → Owns m → LineagesStand m
