-- What is accepted of what is known, with all that keeps it so.
use Rattle.std.specs.Prelude.{◌≡◌, ◌≤◌, ℕ, List, [], true, false, Some}
use Rattle.std.specs.List.{AllByRecursion, AllZip}
use Rattle.merge_types.specs.declared.identifiers.Dot.{Dot}
use Rattle.merge_batch.specs.Makers.{maker_of}
use Rattle.merge_batch.specs.declared.reply.Reply.TheVariants as reply
use Rattle.merge_batch.specs.declared.request.Request.TheVariants as request
use Rattle.merge_batch.specs.declared.request.UploadItem.{UploadItem}
use Rattle.merge_model.specs.Publisher.Acts.{key_of_item}
use Rattle.merge_model.specs.History.{History, MadeChange, Past, has, pasts_at}
use Rattle.merge_model.specs.Tables.Keys.{at_number, same_key}
use Rattle.merge_types.specs.declared.row_key.RowKey.{RowKey as Key}
use Rattle.merge_model.specs.Tables.{SubscriberTables}
use Rattle.merge_model.specs.World.{World}
use Rattle.merge_model.specs.declared.letter.Message.TheVariants.{Asks, Replies}
use Rattle.merge_model.specs.declared.letter.Letter.{Letter}
use Rattle.merge_model.specs.declared.letter.Message.{Message}
use Rattle.merge_laws.specs.Facts.Knowledge.{was_made}
use Rattle.merge_laws.specs.Invariants.KnownMakers.{KnownMakers}
use Rattle.merge_laws.specs.Invariants.LetterOrder.{LetterOrder}
use Rattle.merge_laws.specs.Facts.LineagesStand.{KnownCounts, OthersAccepted}

-- of what a letter's versions know: an upload's those of its site, a reply's those of the publisher
abbrev pub SendsAccepted : History → List (Key × Past) → Message → Type 0
SendsAccepted h pasts (Asks (request.Upload m)) = AllByRecursion (λ (row : Key × Past). OthersAccepted h m.site.0 row.1.known) pasts
SendsAccepted h pasts (Replies (reply.Downloaded m)) = AllByRecursion (λ (row : Key × Past). OthersAccepted h 0 row.1.known) pasts
SendsAccepted h pasts message = Unit {0}

-- where an upload's site made a row, that change stands in a generation up to the upload's last one
abbrev pub IsUpTo : ℕ → ℕ → Key → MadeChange → Type 0
IsUpTo site to key change = same_key key change.key ≡ true → maker_of change.key.row.0 ≡ Some change.dot → change.dot.site.0 ≡ site → change.generation ≤ to

abbrev pub SendsInserts : List MadeChange → Message → Type 0
SendsInserts made (Asks (request.Upload m)) = AllByRecursion (λ (item : UploadItem). AllByRecursion (IsUpTo m.site.0 m.to (key_of_item item)) made) m.items
SendsInserts made message = Unit {0}

pub record Accepted (w : World) (h : History) : Type 0 where
  pub counts : KnownCounts (record { world = w; history = h })
  -- a site that is joining has no row's past
  pub bare : (n : ℕ) (s : SubscriberTables) → at_number w.subscribers n ≡ Some s → s.is_joined ≡ false → pasts_at h n ≡ []
  pub sent : AllZip (λ (letter : Letter) (pasts : List (Key × Past)). SendsAccepted h pasts letter.message) w.pool h.letters
  -- what is accepted was made
  pub made : (dot : Dot) → has h.accepted dot ≡ true → was_made h.made dot ≡ true
  pub inserts : AllByRecursion (λ (letter : Letter). SendsInserts h.made letter.message) w.pool

-- the whole invariant
pub record AllAccepted (w : World) (h : History) : Type 0 where
  pub order : LetterOrder w
  pub makers : KnownMakers w h
  pub accepted : Accepted w h
