-- Two facts of every version give a third, and tops are of changes that were made.
use Rattle.std.specs.List.{AllByRecursion, AllZip}
use Rattle.std.specs.Prelude.{Bool, List, [], false, nat_lt, refl, true, ◌&&◌, ◌==◌, ◌≡◌, ◌≤◌, ◌∷◌, ℕ}
use Rattle.std.proofs.Common.{arith, subst}
use Rattle.std.proofs.lemmas.Bool.Decides.{nat_tests}
use Rattle.merge_types.specs.declared.identifiers.Dot.{Dot}
use Rattle.merge_types.specs.declared.row_key.RowKey.{RowKey as Key}
use Rattle.merge_units.specs.Version.{tops_of}
use Rattle.merge_units.specs.declared.site_row.PublisherRow.{PublisherRow}
use Rattle.merge_units.specs.declared.site_row.SubscriberRow.{SubscriberRow}
use Rattle.merge_units.specs.declared.version.Body.TheVariants.{Live}
use Rattle.merge_units.specs.declared.version.Version.{Version}
use Rattle.merge_conflict.specs.declared.row.ConflictRow.{ConflictRow}
use Rattle.merge_batch.specs.declared.reply.Act.{Act as Order}
use Rattle.merge_batch.specs.declared.reply.Act.TheVariants as order
use Rattle.merge_batch.specs.declared.reply.DownloadItem.{DownloadItem}
use Rattle.merge_batch.specs.declared.reply.Reply.TheVariants as reply
use Rattle.merge_batch.specs.declared.request.Request.TheVariants as request
use Rattle.merge_batch.specs.declared.request.UploadItem.{UploadItem}
use Rattle.merge_model.specs.Publisher.Acts.{key_of_item}
use Rattle.merge_model.specs.History.{History, MadeChange, Past, has, past_at, past_in}
use Rattle.merge_model.specs.History.Model.{Model}
use Rattle.merge_model.specs.Subscriber.Taking.{key_of_download}
use Rattle.merge_model.specs.World.{World}
use Rattle.merge_model.specs.declared.letter.Letter.{Letter}
use Rattle.merge_model.specs.declared.letter.Message.TheVariants.{Asks, Replies}
use Rattle.merge_model.specs.declared.letter.Message.{Message}
use Rattle.merge_model.proofs.Lists.Finding.{all-weaker}
use Rattle.merge_model.proofs.Lists.{all-both, all-filter, zip-second}
use Rattle.merge_laws.specs.Facts.Knowledge.{AllKnow, AreNumbered, Knowledge, Knows, RowKnows, is_made}
use Rattle.merge_laws.specs.Facts.LineagesStand.{AllTold, EveryVersion, OfMessage, OfOrder, lost_at}
use Rattle.merge_laws.specs.Facts.Standing.{Told}
use Rattle.merge_laws.proofs.Known.KnownRows.{held-knows, past-knows}
use Rattle.merge_laws.proofs.Makers.MakerChanges.{made-below}
use Rattle.merge_laws.proofs.Told.ToldSites.{Every}

zip-both : {X Y : Type 0} (R S T : X → Y → Type 0) → ((x : X) (y : Y) → R x y → S x y → T x y) → (xs : List X) (ys : List Y) → AllZip R xs ys → AllZip S xs ys → AllZip T xs ys
zip-both R S T both [] [] one other = tt
zip-both R S T both [] (y ∷ ys) one other = absurd one
zip-both R S T both (x ∷ xs) [] one other = absurd one
zip-both R S T both (x ∷ xs) (y ∷ ys) one other = (both x y one.0 other.0, zip-both R S T both xs ys one.1 other.1)

module _ (P Q R : Key → Version → Past → Type 0) (both : (key : Key) (version : Version) (past : Past) → P key version past → Q key version past → R key version past) where
  order-both : (key : Key) (past : Past) (o : Order) → OfOrder P key past o → OfOrder Q key past o → OfOrder R key past o
  order-both key past (order.Put lineage live) one other = both key (record { lineage = lineage; body = Live live }) past one other
  order-both key past order.RemoveDeleted one other = tt
  order-both key past order.RemoveLeft one other = tt

  message-both : (pasts : List (Key × Past)) (message : Message) → OfMessage P pasts message → OfMessage Q pasts message → OfMessage R pasts message
  message-both pasts (Asks (request.Upload m)) one other =
      all-both (λ (item : UploadItem). P (key_of_item item) item.version (past_in pasts (key_of_item item))) (λ (item : UploadItem). Q (key_of_item item) item.version (past_in pasts (key_of_item item))) (λ (item : UploadItem). R (key_of_item item) item.version (past_in pasts (key_of_item item)))
      (λ item p q. both (key_of_item item) item.version (past_in pasts (key_of_item item)) p q) m.items one other
  message-both pasts (Replies (reply.Downloaded m)) one other =
      all-both (λ (item : DownloadItem). OfOrder P (key_of_download item) (past_in pasts (key_of_download item)) item.act) (λ (item : DownloadItem). OfOrder Q (key_of_download item) (past_in pasts (key_of_download item)) item.act)
      (λ (item : DownloadItem). OfOrder R (key_of_download item) (past_in pasts (key_of_download item)) item.act) (λ item p q. order-both (key_of_download item) (past_in pasts (key_of_download item)) item.act p q) m.items one other
  message-both pasts (Asks (request.Join m)) one other = tt
  message-both pasts (Asks (request.Ranges m)) one other = tt
  message-both pasts (Asks (request.Download m)) one other = tt
  message-both pasts (Replies (reply.Joined m)) one other = tt
  message-both pasts (Replies (reply.Uploaded m)) one other = tt
  message-both pasts (Replies (reply.Ranged m)) one other = tt
  message-both pasts (Replies (reply.Refused number values)) one other = tt

  lost-both : (rows : List ConflictRow) (lost : List (ℕ × (Key × Past))) → AllZip (λ (row : ConflictRow) (entry : ℕ × (Key × Past)). P entry.1.0 row.losing entry.1.1) rows lost → AllZip (λ (row : ConflictRow) (entry : ℕ × (Key × Past)). Q entry.1.0 row.losing entry.1.1) rows lost
      → AllZip (λ (row : ConflictRow) (entry : ℕ × (Key × Past)). R entry.1.0 row.losing entry.1.1) rows lost
  lost-both rows lost one other = zip-both (λ (row : ConflictRow) (entry : ℕ × (Key × Past)). P entry.1.0 row.losing entry.1.1) (λ (row : ConflictRow) (entry : ℕ × (Key × Past)). Q entry.1.0 row.losing entry.1.1) (λ (row : ConflictRow) (entry : ℕ × (Key × Past)). R entry.1.0 row.losing entry.1.1)
      (λ row entry p q. both entry.1.0 row.losing entry.1.1 p q) rows lost one other

  pub every-both : (w : World) (h : History) → Every P w h → Every Q w h → Every R w h
  every-both w h one other = record {
    publisher = all-both (λ (row : Key × PublisherRow). P row.0 row.1.version (past_at h 0 row.0)) (λ (row : Key × PublisherRow). Q row.0 row.1.version (past_at h 0 row.0)) (λ (row : Key × PublisherRow). R row.0 row.1.version (past_at h 0 row.0))
        (λ row p q. both row.0 row.1.version (past_at h 0 row.0) p q) w.publisher.rows one.publisher other.publisher;
    subscribers = λ n s at. all-both (λ (row : Key × SubscriberRow). P row.0 row.1.version (past_at h n row.0)) (λ (row : Key × SubscriberRow). Q row.0 row.1.version (past_at h n row.0)) (λ (row : Key × SubscriberRow). R row.0 row.1.version (past_at h n row.0))
        (λ row p q. both row.0 row.1.version (past_at h n row.0) p q) s.rows (one.subscribers n s at) (other.subscribers n s at);
    letters = zip-both (λ (letter : Letter) (pasts : List (Key × Past)). OfMessage P pasts letter.message) (λ (letter : Letter) (pasts : List (Key × Past)). OfMessage Q pasts letter.message) (λ (letter : Letter) (pasts : List (Key × Past)). OfMessage R pasts letter.message)
        (λ letter pasts p q. message-both pasts letter.message p q) w.pool h.letters one.letters other.letters;
    conflicts = lost-both w.publisher.conflicts (lost_at h 0) one.conflicts other.conflicts;
    discards = λ n s at. lost-both s.conflicts (lost_at h n) (one.discards n s at) (other.discards n s at);
  }

-- Tops are of changes of the row that were made.

abbrev pub TopsMade : List MadeChange → Key → Version → Past → Type 0
TopsMade made key version past = AllByRecursion (λ (top : Dot). is_made made key top ≡ true) (tops_of version.body)

abbrev IsTold : Key → Version → Past → Type 0
IsTold key version past = Told version past.known

told-made : (made : List MadeChange) (key : Key) (version : Version) (past : Past) → Knows made key past.known → IsTold key version past → TopsMade made key version past
told-made made key version past knows told = all-weaker (λ (top : Dot). has past.known top ≡ true) (λ (top : Dot). is_made made key top ≡ true) (λ top known. knows.made_here top known) (tops_of version.body) told.tops

module _ (made : List MadeChange) where
  order-made : (key : Key) (past : Past) (o : Order) → Knows made key past.known → OfOrder IsTold key past o → OfOrder (TopsMade made) key past o
  order-made key past (order.Put lineage live) knows told = told-made made key (record { lineage = lineage; body = Live live }) past knows told
  order-made key past order.RemoveDeleted knows told = tt
  order-made key past order.RemoveLeft knows told = tt

  message-made : (pasts : List (Key × Past)) (message : Message) → AllKnow made pasts → OfMessage IsTold pasts message → OfMessage (TopsMade made) pasts message
  message-made pasts (Asks (request.Upload m)) all told =
      all-weaker (λ (item : UploadItem). IsTold (key_of_item item) item.version (past_in pasts (key_of_item item))) (λ (item : UploadItem). TopsMade made (key_of_item item) item.version (past_in pasts (key_of_item item)))
      (λ item is. told-made made (key_of_item item) item.version (past_in pasts (key_of_item item)) (past-knows made (key_of_item item) pasts all) is) m.items told
  message-made pasts (Replies (reply.Downloaded m)) all told =
      all-weaker (λ (item : DownloadItem). OfOrder IsTold (key_of_download item) (past_in pasts (key_of_download item)) item.act) (λ (item : DownloadItem). OfOrder (TopsMade made) (key_of_download item) (past_in pasts (key_of_download item)) item.act)
      (λ item is. order-made (key_of_download item) (past_in pasts (key_of_download item)) item.act (past-knows made (key_of_download item) pasts all) is) m.items told
  message-made pasts (Asks (request.Join m)) all told = tt
  message-made pasts (Asks (request.Ranges m)) all told = tt
  message-made pasts (Asks (request.Download m)) all told = tt
  message-made pasts (Replies (reply.Joined m)) all told = tt
  message-made pasts (Replies (reply.Uploaded m)) all told = tt
  message-made pasts (Replies (reply.Ranged m)) all told = tt
  message-made pasts (Replies (reply.Refused number values)) all told = tt

  lost-made : (rows : List ConflictRow) (lost : List (ℕ × (Key × Past))) → AllByRecursion (λ (entry : ℕ × (Key × Past)). RowKnows made entry.1) lost → AllZip (λ (row : ConflictRow) (entry : ℕ × (Key × Past)). IsTold entry.1.0 row.losing entry.1.1) rows lost
      → AllZip (λ (row : ConflictRow) (entry : ℕ × (Key × Past)). TopsMade made entry.1.0 row.losing entry.1.1) rows lost
  lost-made rows lost all told = zip-second (λ (row : ConflictRow) (entry : ℕ × (Key × Past)). IsTold entry.1.0 row.losing entry.1.1) (λ (row : ConflictRow) (entry : ℕ × (Key × Past)). TopsMade made entry.1.0 row.losing entry.1.1) (λ (entry : ℕ × (Key × Past)). RowKnows made entry.1)
      (λ row entry knows is. told-made made entry.1.0 row.losing entry.1.1 knows is) rows lost all told

pub tops-made : (m : Model) → Knowledge m.history → AllTold m → EveryVersion (TopsMade m.history.made) m
tops-made m k e =
    let made : List MadeChange = m.history.made in
    let known : (n : ℕ) → AllByRecursion (λ (entry : ℕ × (Key × Past)). RowKnows made entry.1) (lost_at m.history n) = λ n. all-filter (λ (entry : ℕ × (Key × Past)). RowKnows made entry.1) (λ (entry : ℕ × (Key × Past)). entry.0 == n) m.history.lost k.lost in record {
      publisher = all-weaker (λ (row : Key × PublisherRow). IsTold row.0 row.1.version (past_at m.history 0 row.0)) (λ (row : Key × PublisherRow). TopsMade made row.0 row.1.version (past_at m.history 0 row.0))
          (λ row is. told-made made row.0 row.1.version (past_at m.history 0 row.0) (held-knows m.history 0 row.0 k) is) m.world.publisher.rows e.publisher;
      subscribers = λ n s at. all-weaker (λ (row : Key × SubscriberRow). IsTold row.0 row.1.version (past_at m.history n row.0)) (λ (row : Key × SubscriberRow). TopsMade made row.0 row.1.version (past_at m.history n row.0))
          (λ row is. told-made made row.0 row.1.version (past_at m.history n row.0) (held-knows m.history n row.0 k) is) s.rows (e.subscribers n s at);
      letters = zip-second (λ (letter : Letter) (pasts : List (Key × Past)). OfMessage IsTold pasts letter.message) (λ (letter : Letter) (pasts : List (Key × Past)). OfMessage (TopsMade made) pasts letter.message) (AllKnow made)
          (λ letter pasts all is. message-made made pasts letter.message all is) m.world.pool m.history.letters k.sent e.letters;
      conflicts = lost-made made m.world.publisher.conflicts (lost_at m.history 0) (known 0) e.conflicts;
      discards = λ n s at. lost-made made s.conflicts (lost_at m.history n) (known n) (e.discards n s at);
    }

-- A change of a site behind those that it counts.

abbrev pub is_later : ℕ → ℕ → Dot → Bool
is_later site count dot = (dot.site.0 == site) && nat_lt count dot.number

not-later : (count : ℕ → ℕ) (n : ℕ) (dot : Dot) (b : Bool) → (dot.site.0 == n) ≡ b → dot.number ≤ count dot.site.0 → is_later n (count n) dot ≡ false
not-later count n dot true is low =
    let same : dot.site.0 ≡ n = grind (arith, nat_tests, is) in
    let below : dot.number ≤ count n = subst (λ (k : ℕ). dot.number ≤ count k) same low in grind (arith, nat_tests, below)
not-later count n dot false is low = grind (arith, is)

-- what was made is not later
pub made-before : (count : ℕ → ℕ) (h : History) (n : ℕ) (key : Key) (dot : Dot) → AreNumbered count h → is_made h.made key dot ≡ true → is_later n (count n) dot ≡ false
made-before count h n key dot numbered is = not-later count n dot (dot.site.0 == n) refl (made-below count h key dot numbered is)
