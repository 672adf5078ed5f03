-- Where lineages stand and conflict tables agree with what was lost, every lineage stands as it is promised.
use Rattle.std.specs.Prelude.{◌≡◌, ◌==◌, ℕ, List, [], ◌∷◌, All, true, false, Option, Some, None, filter, filter_map, map, not}
use Rattle.std.specs.List.{AllByRecursion, AllZip, zip}
use Rattle.std.proofs.Common.{sym, ap}
use Rattle.std.proofs.lemmas.List.Elements.{All-from_recursion}
use Rattle.merge_types.specs.declared.identifiers.Dot.{Dot}
use Rattle.merge_units.specs.declared.version.Version.{Version}
use Rattle.merge_conflict.specs.declared.row.ConflictRow.{ConflictRow}
use Rattle.merge_batch.specs.declared.reply.Act.{Act as Order}
use Rattle.merge_batch.specs.declared.reply.Act.TheVariants as order
use Rattle.merge_batch.specs.declared.reply.DownloadItem.{DownloadItem}
use Rattle.merge_batch.specs.declared.reply.Reply.TheVariants as reply
use Rattle.merge_batch.specs.declared.request.Request.TheVariants as request
use Rattle.merge_batch.specs.declared.request.UploadItem.{UploadItem}
use Rattle.merge_model.specs.Publisher.Acts.{key_of_item}
use Rattle.merge_model.specs.History.{MadeChange, Past, has, past_at, past_in, pasts_with}
use Rattle.merge_model.specs.Tables.Keys.{same_key}
use Rattle.merge_model.specs.History.Model.{Model}
use Rattle.merge_model.specs.Laws.Promises.{AllStand, lineages_in, lost_at, put_lineage}
use Rattle.merge_model.specs.Laws.Promises.{StandsFor as IsStandIn, is_given_up}
use Rattle.merge_types.specs.declared.row_key.RowKey.{RowKey as Key}
use Rattle.merge_units.specs.declared.site_row.PublisherRow.{PublisherRow}
use Rattle.merge_units.specs.declared.site_row.SubscriberRow.{SubscriberRow}
use Rattle.merge_model.specs.Subscriber.Taking.{key_of_download}
use Rattle.merge_model.specs.declared.letter.Message.TheVariants.{Asks, Replies}
use Rattle.merge_model.specs.declared.letter.Message.{Message}
use Rattle.merge_lineage.specs.Lineage.{knows}
use Rattle.merge_laws.specs.Facts.LineagesStand.{LineagesStand, OfMessage, OfOrder, counts_in}
use Rattle.merge_laws.specs.Facts.Standing.{StandsAt, StandsFor}
use Rattle.merge_laws.specs.Invariants.TablesAgree.{TablesAgree}
use Rattle.merge_model.proofs.Lists.Finding.{all-weaker}
use Rattle.merge_model.proofs.Lists.KeyLookUps.{keys-turned}
use Rattle.merge_model.proofs.Lists.{OfSome, all-filter_map, all-map}
use Rattle.merge_laws.proofs.Told.ToldLetters.{letter-fits}

-- what is said of each item of a list that is made of another
each-mapped : {X Y : Type 0} (P : X → Type 0) (Q : Y → Type 0) (f : X → Y) → ((x : X) → P x → Q (f x)) → (xs : List X) → AllByRecursion P xs → All Q (map f xs)
each-mapped P Q f each xs all = All-from_recursion Q (map f xs) (all-map P Q f each xs all)

-- and of two lists that go together
zipped : {X Y Z : Type 0} (R : X → Y → Type 0) (Q : X × Z → Type 0) (f : Y → Z) → ((x : X) (y : Y) → R x y → Q (x, f y)) → (xs : List X) (ys : List Y) → AllZip R xs ys → AllByRecursion Q (zip xs (map f ys))
zipped R Q f each [] ys all = tt
zipped R Q f each (x ∷ xs) [] all = tt
zipped R Q f each (x ∷ xs) (y ∷ ys) all = (each x y all.0, zipped R Q f each xs ys all.1)

module _ (m : Model) where
  abbrev Fact : Key → Version → Past → Type 0
  Fact key version past = StandsFor m.history.made (counts_in m) key version.lineage past.known

  abbrev StandsPromised : Key → List Dot → Past → MadeChange → Type 0
  StandsPromised key lineage past change = same_key change.key key ≡ true → is_given_up m.world.publisher m.history change.dot ≡ false → has past.known change.dot ≡ knows lineage change.dot

  -- A lineage.
  stands : (key : Key) (lineage : List Dot) (past : Past) → StandsFor m.history.made (counts_in m) key lineage past.known → IsStandIn m key lineage past
  stands key lineage past all = All-from_recursion (StandsPromised key lineage past) m.history.made
      (all-weaker (StandsAt key lineage past.known (counts_in m)) (StandsPromised key lineage past) (λ change here same kept. sym (here (keys-turned change.key key same) (ap not kept))) m.history.made all)

  -- A message.
  abbrev EntryStands : List (Key × Past) → Key × List Dot → Type 0
  EntryStands pasts entry = IsStandIn m entry.0 entry.1 (past_in pasts entry.0)

  abbrev order_lineage : Key → Order → Option (Key × List Dot)
  order_lineage key o = elim o [
    | order.Put lineage live ↦ Some (key, lineage)
    | order.RemoveDeleted ↦ None
    | order.RemoveLeft ↦ None
  ]

  order-stands : (pasts : List (Key × Past)) (key : Key) (o : Order) → OfOrder Fact key (past_in pasts key) o → OfSome (EntryStands pasts) (order_lineage key o)
  order-stands pasts key (order.Put lineage live) fits = stands key lineage (past_in pasts key) fits
  order-stands pasts key order.RemoveDeleted fits = tt
  order-stands pasts key order.RemoveLeft fits = tt

  none-stand : (pasts : List (Key × Past)) → All (EntryStands pasts) []
  none-stand pasts = All-from_recursion (EntryStands pasts) [] tt

  message-stands : (pasts : List (Key × Past)) (message : Message) → OfMessage Fact pasts message → All (EntryStands pasts) (lineages_in message)
  message-stands pasts (Asks (request.Upload u)) fits = each-mapped (λ (item : UploadItem). Fact (key_of_item item) item.version (past_in pasts (key_of_item item))) (EntryStands pasts) (λ (item : UploadItem). (key_of_item item, item.version.lineage))
      (λ item here. stands (key_of_item item) item.version.lineage (past_in pasts (key_of_item item)) here) u.items fits
  message-stands pasts (Replies (reply.Downloaded d)) fits = All-from_recursion (EntryStands pasts) (filter_map put_lineage d.items)
      (all-filter_map (λ (item : DownloadItem). OfOrder Fact (key_of_download item) (past_in pasts (key_of_download item)) item.act) (EntryStands pasts) put_lineage
      (λ item here. order-stands pasts (key_of_download item) item.act here) d.items fits)
  message-stands pasts (Asks (request.Join j)) fits = none-stand pasts
  message-stands pasts (Asks (request.Ranges r)) fits = none-stand pasts
  message-stands pasts (Asks (request.Download d)) fits = none-stand pasts
  message-stands pasts (Replies (reply.Joined j)) fits = none-stand pasts
  message-stands pasts (Replies (reply.Uploaded u)) fits = none-stand pasts
  message-stands pasts (Replies (reply.Ranged r)) fits = none-stand pasts
  message-stands pasts (Replies (reply.Refused code values)) fits = none-stand pasts

  -- A conflict table.
  abbrev LostStands : ConflictRow → ℕ × (Key × Past) → Type 0
  LostStands row lost = Fact lost.1.0 row.losing lost.1.1

  abbrev PairStands : ConflictRow × (Key × Past) → Type 0
  PairStands pair = IsStandIn m pair.1.0 pair.0.losing.lineage pair.1.1

  table-stands : (site : ℕ) (rows : List ConflictRow) → AllZip LostStands rows (filter (λ (entry : ℕ × (Key × Past)). entry.0 == site) m.history.lost) → All PairStands (zip rows (lost_at m.history site))
  table-stands site rows all =
      let lost : List (ℕ × (Key × Past)) = filter (λ (entry : ℕ × (Key × Past)). entry.0 == site) m.history.lost in
      All-from_recursion PairStands (zip rows (lost_at m.history site))
      (zipped LostStands PairStands (λ (entry : ℕ × (Key × Past)). entry.1) (λ row entry here. stands entry.1.0 row.losing.lineage entry.1.1 here) rows lost all)

  abbrev RowStands : ℕ → Key × Version → Type 0
  RowStands site row = IsStandIn m row.0 row.1.lineage (past_at m.history site row.0)

  pub all-stand : LineagesStand m → TablesAgree m.world m.history → AllStand m
  all-stand l agree = record {
    publisher = each-mapped (λ (row : Key × PublisherRow). Fact row.0 row.1.version (past_at m.history 0 row.0)) (RowStands 0) (λ (row : Key × PublisherRow). (row.0, row.1.version))
        (λ row here. stands row.0 row.1.version.lineage (past_at m.history 0 row.0) here) m.world.publisher.rows l.publisher;
    subscribers = λ s at. each-mapped (λ (row : Key × SubscriberRow). Fact row.0 row.1.version (past_at m.history s.site.0 row.0)) (RowStands s.site.0) (λ (row : Key × SubscriberRow). (row.0, row.1.version))
        (λ row here. stands row.0 row.1.version.lineage (past_at m.history s.site.0 row.0) here) s.rows (l.subscribers s.site.0 s at);
    letters = λ number letter at. message-stands (pasts_with m.history number) letter.message (letter-fits Fact m.world m.history number letter at l.letters);
    lost = record { same_rows = agree.publisher; stand = table-stands 0 m.world.publisher.conflicts l.conflicts };
    discarded = λ s at. record { same_rows = agree.subscribers s.site.0 s at; stand = table-stands s.site.0 s.conflicts (l.discards s.site.0 s at) };
  }
