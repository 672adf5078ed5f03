-- What replies, making anew, purges and letters note keeps what is known.
use Rattle.std.specs.Prelude.{◌+◌, ℕ, List, [], ◌∷◌, Bool, true, false, map, flat_map, if◌then◌else◌}
use Rattle.std.specs.List.{fold}
use Rattle.merge_types.specs.declared.identifiers.SiteId.{SiteId}
use Rattle.merge_units.specs.declared.version.Version.{Version}
use Rattle.merge_schema.specs.declared.publication.Publication.{Publication}
use Rattle.merge_batch.specs.declared.reply.Act.{Act as Order}
use Rattle.merge_batch.specs.declared.reply.Act.TheVariants as order
use Rattle.merge_batch.specs.declared.reply.DownloadItem.{DownloadItem}
use Rattle.merge_batch.specs.declared.reply.Reply.{Reply}
use Rattle.merge_batch.specs.declared.reply.Reply.TheVariants as reply
use Rattle.merge_batch.specs.declared.request.Join.{Join}
use Rattle.merge_model.specs.History.{History, Line, Past, past_at, past_in}
use Rattle.merge_model.specs.Judge.{PublisherJudge, SubscriberJudge}
use Rattle.merge_model.specs.Tables.Keys.{put_number}
use Rattle.merge_model.specs.History.Model.{pasts_in, with_letter}
use Rattle.merge_model.specs.Tables.Publications.{by_site}
use Rattle.merge_model.specs.Publisher.{last_closed}
use Rattle.merge_model.specs.Subscriber.Reinit.{discarded_versions}
use Rattle.merge_types.specs.declared.row_key.RowKey.{RowKey as Key}
use Rattle.merge_model.specs.Tables.{PublisherTables, SubscriberTables}
use Rattle.merge_model.specs.Subscriber.Taking.{key_of_download}
use Rattle.merge_model.specs.declared.letter.Letter.{Letter}
use Rattle.merge_model.specs.History.Noting
use Rattle.merge_laws.specs.Facts.Knowledge.{AllKnow, Known}
use Rattle.merge_model.proofs.Lists.Finding.{all-more}
use Rattle.merge_laws.proofs.Known.KnownNotes.{Reached, dropped-known, lines-known, lost-known, others-known, past-known}
use Rattle.merge_laws.proofs.Known.KnownRows.{held-knows, message-knows, past-knows, put-sites}
use Rattle.merge_laws.proofs.Walking.{join_noted}

module _ (count : ℕ → ℕ) where
  -- Replies.

  if-reached : (incoming : List (Key × Past)) (b : Bool) (x y : History) → Reached count incoming x → Reached count incoming y → Reached count incoming (if b then x else y)
  if-reached incoming true x y one other = one
  if-reached incoming false x y one other = other

  order-reached : (site : ℕ) (incoming : List (Key × Past)) (key : Key) (o : Order) (h : History) → Reached count incoming h → Reached count incoming (Noting.with_order_past site incoming key o h)
  order-reached site incoming key (order.Put lineage live) h r = (past-known count h site key (past_in incoming key) (past-knows h.made key incoming r.1) r.0, r.1)
  order-reached site incoming key order.RemoveDeleted h r = (dropped-known count h site key r.0, r.1)
  order-reached site incoming key order.RemoveLeft h r = (dropped-known count h site key r.0, r.1)

  items-reached : (judge : SubscriberJudge) (received site : ℕ) (incoming : List (Key × Past)) (items : List DownloadItem) (h : History) → Reached count incoming h → Reached count incoming (fold (Noting.with_item_past judge received site incoming) h items)
  items-reached judge received site incoming [] h r = r
  items-reached judge received site incoming (item ∷ items) h r = items-reached judge received site incoming items (Noting.with_item_past judge received site incoming h item)
      (if-reached incoming (judge.is_unsent received (key_of_download item)) h (Noting.with_order_past site incoming (key_of_download item) item.act h) r (order-reached site incoming (key_of_download item) item.act h r))

  pub reply-known : (judge : SubscriberJudge) (site : SiteId) (incoming : List (Key × Past)) (m : Reply) (h : History) → Reached count incoming h → Known count (Noting.noted_reply judge site incoming m h)
  reply-known judge site incoming (reply.Downloaded m) h r = (items-reached judge m.received site.0 incoming m.items h r).0
  reply-known judge site incoming (reply.Joined m) h r = r.0
  reply-known judge site incoming (reply.Uploaded m) h r = r.0
  reply-known judge site incoming (reply.Ranged m) h r = r.0
  reply-known judge site incoming (reply.Refused number values) h r = r.0

  -- Making anew.

  discarded-known : (site : SiteId) (rows : List (Key × Version)) (h : History) → Known count h → Known count (fold (Noting.with_discarded site) h rows)
  discarded-known site [] h k = k
  discarded-known site (row ∷ rows) h k = discarded-known site rows (Noting.with_discarded site h row) (lost-known count h site.0 row.0 (past_at h site.0 row.0) (held-knows h site.0 row.0 k.knowledge) k)

  emptied-known : (site : ℕ) (h : History) → Known count h → Known count (record h { pasts = put_number h.pasts site [] })
  emptied-known site h k = record {
    numbered = k.numbered;
    knowledge = record { held = put-sites h.made site [] h.pasts tt k.knowledge.held; sent = k.knowledge.sent; lost = k.knowledge.lost; making = k.knowledge.making };
  }

  pub anew-known : (judge : SubscriberJudge) (s : SubscriberTables) (h : History) → Known count h → Known count (Noting.noted_anew judge s h)
  anew-known judge s h k = emptied-known s.site.0 (fold (Noting.with_discarded s.site) h (discarded_versions judge s)) (discarded-known s.site (discarded_versions judge s) h k)

  -- Purges and joins.

  purged-known : (keys : List Key) (h : History) → Known count h → Known count (fold Noting.with_purged h keys)
  purged-known [] h k = k
  purged-known (key ∷ keys) h k =
      purged-known keys (Noting.with_purged h key) (dropped-known count (record h { purged = key ∷ h.purged }) 0 key (others-known count h h.done h.accepted (key ∷ h.purged) h.bases k))

  pub purge-known : (publication : Publication) (judge : PublisherJudge) (p : PublisherTables) (h : History) → Known count h → Known count (Noting.noted_purge publication judge p h)
  purge-known publication judge p h k =
      let rows : List Key = Noting.old_tombstones publication p in
      let lines : List Line = map (Noting.gone_line (last_closed p + 1)) (flat_map (Noting.old_left publication judge p) (map Noting.site_of_subscription (by_site publication))) in
      lines-known count lines (fold Noting.with_purged h rows) (purged-known rows h k)

  pub join-known : (judge : PublisherJudge) (m : Join) (p : PublisherTables) (h : History) → Known count h → Known count (join_noted judge m p h)
  join-known judge m p h k =
      let done : History = Noting.with_done m.site.0 0 m.generation h in
      let based : History = record done { bases = put_number h.bases m.site.0 (last_closed p) } in
      lines-known count (map (Noting.gone_line (last_closed p + 1)) (map (Noting.gone_for m.site) (Noting.left_rows judge m.site))) based (others-known count h done.done h.accepted h.purged based.bases k)

  -- Letters.

  pub letter-known : (letter : Letter) (h : History) → Known count h → Known count (with_letter letter h)
  letter-known letter h k = record {
    numbered = k.numbered;
    knowledge = record {
      held = k.knowledge.held;
      sent = all-more (AllKnow h.made) h.letters (pasts_in h letter.site letter.message) k.knowledge.sent (message-knows h letter.site letter.message k.knowledge);
      lost = k.knowledge.lost;
      making = k.knowledge.making;
    };
  }
