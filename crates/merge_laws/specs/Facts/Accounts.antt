-- No change is lost: the invariant that carries it.
use Rattle.std.specs.Prelude.{◌≡◌, ◌≤◌, ◌<◌, ◌==◌, ◌&&◌, ◌||◌, ◌⊎◌, ℕ, List, [], ◌∷◌, Bool, true, false, not, Option, Some, None, length, nat_le, option_map, unwrap_or}
use Rattle.std.specs.List.{AllByRecursion, AllZip, list_any}
use Rattle.std.specs.List.Sorted.{IsStrictlySortedBy}
use Rattle.std.specs.Map.{keys_of}
use Rattle.merge_types.specs.declared.identifiers.Dot.{Dot}
use Rattle.merge_units.specs.declared.version.Body.{Body}
use Rattle.merge_units.specs.declared.version.Body.TheVariants.{Dead, Live}
use Rattle.merge_units.specs.declared.version.Cell.{Cell}
use Rattle.merge_units.specs.declared.version.Version.{Version}
use Rattle.merge_schema.specs.declared.publication.Publication.{Publication}
use Rattle.merge_batch.specs.declared.request.Request.TheVariants as request
use Rattle.merge_model.specs.History.{Chains, History, MadeChange, OfCells, OfDead, Past, has, is_done, past_at, past_in, pasts_at}
use Rattle.merge_types.specs.RowKeys.{key_cmp}
use Rattle.merge_model.specs.Tables.Keys.{at_number, has_key, same_key}
use Rattle.merge_model.specs.History.Pasts.{cell_count}
use Rattle.merge_model.specs.Laws.Promises.{InCell, InRow, Place, descends}
use Rattle.merge_model.specs.Publisher.PublisherLocal.{version_at}
use Rattle.merge_model.specs.Subscriber.{subscriber_version_at}
use Rattle.merge_types.specs.declared.row_key.RowKey.{RowKey as Key}
use Rattle.merge_model.specs.Tables.{SubscriberTables}
use Rattle.merge_model.specs.World.{World}
use Rattle.merge_model.specs.declared.letter.Message.TheVariants.{Asks}
use Rattle.merge_model.specs.declared.letter.Letter.{Letter}
use Rattle.merge_model.specs.declared.letter.Message.{Message}
use Rattle.merge_laws.specs.Facts.Knowledge.{same_dot}
use Rattle.merge_laws.specs.Facts.LetterNumbers.{AreNamed}
use Rattle.merge_laws.specs.Facts.LineagesStand.{OfMessage, is_of, is_sent}

-- What a change did.

-- whether a change made a place: a delete made the row as a whole, another change the cells that it set
abbrev pub makes : MadeChange → Place → Bool
makes change InRow = change.deletes
makes change (InCell place) = not change.deletes && list_any (λ (cell : ℕ). cell == place) change.cells

-- whether a change of a row was made, with this dot, that made the place
abbrev pub is_made_at : List MadeChange → Key → Dot → Place → Bool
is_made_at made key dot place = list_any (λ (change : MadeChange). same_dot change.dot dot && (same_key change.key key && makes change place)) made

-- whether a change was made, with this dot, that is no delete
abbrev pub is_set : List MadeChange → Dot → Bool
is_set made dot = list_any (λ (change : MadeChange). same_dot change.dot dot && not change.deletes) made

-- Where a change is kept that a version knows and does not descend from: in a conflict table, of whatever site, or its row was purged.
abbrev pub is_lost_at : List (ℕ × (Key × Past)) → Key → Place → Dot → Bool
is_lost_at lost key place dot = list_any (λ (entry : ℕ × (Key × Past)). same_key entry.1.0 key && descends entry.1.1.chains place dot) lost

abbrev pub is_kept_elsewhere : List (ℕ × (Key × Past)) → List Key → Key → Place → Dot → Bool
is_kept_elsewhere lost purged key place dot = is_lost_at lost key place dot || has_key purged key

-- A version, by its body and its chains.

-- the change that made a cell or deleted the row was made, and knew what the chain has
abbrev pub ChainIsRooted : List MadeChange → Dot → List Dot → Type 0
ChainIsRooted [] top chain = ⊥
ChainIsRooted (change ∷ made) top chain = ((same_dot change.dot top ≡ true) × ((dot : Dot) → has chain dot ≡ true → has change.past.known dot ≡ true)) ⊎ ChainIsRooted made top chain

-- a cell: its chain has no delete besides
pub record CellGrown (made : List MadeChange) (cell : Cell) (chain : List Dot) : Type 0 where
  pub rooted : ChainIsRooted made cell.top chain
  pub set : (dot : Dot) → has chain dot ≡ true → is_set made dot ≡ true

-- Every version that is held or on its way has a chain for each cell of its body, and as many cells as its article has. A deleted
-- row descends from its delete.
abbrev pub Grown : ℕ → List MadeChange → Key → Body → Chains → Type 0
Grown cells made key (Live body) (OfCells chains) = (length chains ≡ cells) × AllZip (CellGrown made) body chains
Grown cells made key (Dead top) (OfDead chain) = (has chain top ≡ true) × (is_made_at made key top InRow ≡ true)
Grown cells made key body chains = ⊥

-- A row that its own site deleted descends from what its delete knew, and from no other delete. At the publisher two deleted
-- versions may have been united.
pub record DeletedOnce (made : List MadeChange) (top : Dot) (chain : List Dot) : Type 0 where
  pub rooted : ChainIsRooted made top chain
  pub once : (dot : Dot) → has chain dot ≡ true → (same_dot top dot || is_set made dot) ≡ true

abbrev pub IsNotUnited : List MadeChange → Body → Chains → Type 0
IsNotUnited made (Dead top) (OfDead chain) = DeletedOnce made top chain
IsNotUnited made body chains = Unit {0}

abbrev pub GrownAlone : ℕ → List MadeChange → Key → Body → Chains → Type 0
GrownAlone cells made key body chains = Grown cells made key body chains × IsNotUnited made body chains

-- What a version knows, with what the publisher's version of its row comes from.

-- each change that it knows is in its chains, or kept elsewhere
abbrev pub Holds : List MadeChange → List (ℕ × (Key × Past)) → List Key → Key → Past → Type 0
Holds made lost purged key past = (dot : Dot) (place : Place) → is_made_at made key dot place ≡ true → has past.known dot ≡ true → (descends past.chains place dot || is_kept_elsewhere lost purged key place dot) ≡ true

-- a delete that is known is past where it is not why the row is deleted
abbrev pub is_past : Past → Dot → Bool
is_past past dot = has past.known dot && not (descends past.chains InRow dot)

-- each delete that it knows is why the row is deleted in it, or is past at the publisher
abbrev pub Ends : List MadeChange → List Key → Past → Key → Past → Type 0
Ends made purged here key past = (dot : Dot) → is_made_at made key dot InRow ≡ true → has past.known dot ≡ true → (descends past.chains InRow dot || (is_past here dot || has_key purged key)) ≡ true

pub record Traced (made : List MadeChange) (lost : List (ℕ × (Key × Past))) (purged : List Key) (here : Past) (key : Key) (past : Past) : Type 0 where
  pub holds : Holds made lost purged key past
  pub ends : Ends made purged here key past

abbrev pub IsTraced : History → Key → Past → Type 0
IsTraced h key past = Traced h.made h.lost h.purged (past_at h 0 key) key past

-- The sites.

-- an upload has an item of each row that its site changed in its generations, which knows the change
abbrev pub SendsAll : List MadeChange → List (Key × Past) → Message → Type 0
SendsAll made pasts (Asks (request.Upload upload)) =
    AllByRecursion (λ (change : MadeChange). is_of upload.site.0 change ≡ true → upload.from < change.generation → change.generation ≤ upload.to → is_sent pasts upload.items change ≡ true) made
SendsAll made pasts message = Unit {0}

-- what a site takes for received
abbrev pub received_of : List (ℕ × SubscriberTables) → ℕ → ℕ
received_of sites n = unwrap_or (option_map (λ (s : SubscriberTables). s.received) (at_number sites n)) 0

-- a change that is the publisher's, that has acted, or that its site takes for received
abbrev pub is_settled : List (ℕ × SubscriberTables) → History → MadeChange → Bool
is_settled sites h change = (change.dot.site.0 == 0) || (is_done h change.dot.site.0 change.generation || nat_le change.generation (received_of sites change.dot.site.0))

-- it is known to the publisher's version, or kept elsewhere at each place that it made
abbrev pub IsSafe : History → MadeChange → Type 0
IsSafe h change = (place : Place) → makes change place ≡ true → (has (past_at h 0 change.key).known change.dot || is_kept_elsewhere h.lost h.purged change.key place change.dot) ≡ true

-- The invariant, by what the publisher holds of each row, the sites, the pool and the history.
pub record Accounts (publication : Publication) (found : Key → Option Version) (sites : List (ℕ × SubscriberTables)) (pool : List Letter) (h : History) : Type 0 where
  -- of each row that the publisher holds, and that a site holds
  pub publisher : (key : Key) (version : Version) → found key ≡ Some version → Grown (cell_count publication key.article) h.made key version.body (past_at h 0 key).chains
  pub subscribers : (n : ℕ) (s : SubscriberTables) (key : Key) (version : Version) → at_number sites n ≡ Some s → subscriber_version_at s key ≡ Some version
      → GrownAlone (cell_count publication key.article) h.made key version.body (past_at h n key).chains
  -- of each version in a letter
  pub letters : AllZip (λ (letter : Letter) (pasts : List (Key × Past)). OfMessage (λ (key : Key) (version : Version) (past : Past). GrownAlone (cell_count publication key.article) h.made key version.body past.chains) pasts letter.message) pool h.letters
  -- a row that the publisher does not hold knows nothing there
  pub absent : (key : Key) → found key ≡ None → (dot : Dot) → has (past_at h 0 key).known dot ≡ false
  -- the pasts of each site's rows ascend
  pub sorted : (site : ℕ) → IsStrictlySortedBy key_cmp (keys_of (pasts_at h site))
  -- subscribers have numbers that identifiers of rows can have
  pub named : AreNamed sites
  -- what sites and letters know is held, and deletes that they know are past
  pub held : (site : ℕ) (key : Key) → IsTraced h key (past_at h site key)
  pub sent : AllByRecursion (λ (pasts : List (Key × Past)). (key : Key) → IsTraced h key (past_in pasts key)) h.letters
  -- a site knows what it made and does not take for received
  pub unsent : (n : ℕ) (s : SubscriberTables) → at_number sites n ≡ Some s → AllByRecursion (λ (change : MadeChange). is_of n change ≡ true → s.received < change.generation → has (past_at h n change.key).known change.dot ≡ true) h.made
  pub uploads : AllZip (λ (letter : Letter) (pasts : List (Key × Past)). SendsAll h.made pasts letter.message) pool h.letters
  -- a change that has acted, or that its site takes for received, is safe
  pub settled : AllByRecursion (λ (change : MadeChange). is_settled sites h change ≡ true → IsSafe h change) h.made

abbrev pub OfAccounts : Publication → World → History → Type 0
OfAccounts publication w h = Accounts publication (version_at w.publisher) w.subscribers w.pool h
