-- Each way that a step can go keeps that all versions and changes of a row know the change that made it.
use Rattle.std.specs.Prelude.{◌≡◌, ◌++◌, ◌+◌, ℕ, List, [], ◌∷◌, Some, refl, filter, map}
use Rattle.std.proofs.Common.{arith}
use Rattle.merge_units.specs.declared.version.Version.{Version}
use Rattle.merge_schema.specs.declared.publication.Publication.{Publication}
use Rattle.merge_batch.specs.declared.reply.Downloaded.{Downloaded}
use Rattle.merge_batch.specs.declared.reply.Reply.{Reply}
use Rattle.merge_batch.specs.declared.reply.Reply.TheVariants as reply
use Rattle.merge_batch.specs.declared.request.Download.{Download}
use Rattle.merge_batch.specs.declared.request.Outstanding.TheVariants as ask
use Rattle.merge_batch.specs.declared.request.Request.TheVariants as request
use Rattle.merge_batch.specs.declared.request.Upload.{Upload}
use Rattle.merge_batch.specs.declared.request.UploadItem.{UploadItem}
use Rattle.merge_types.specs.declared.identifiers.SiteId.{SiteId}
use Rattle.merge_model.specs.Publisher.Acts.{key_of_item}
use Rattle.merge_model.specs.Judge.ByHistory.{by_made, by_past, changed_between_by_made}
use Rattle.merge_model.specs.History.{History, Past, no_history, pasts_at, pasts_with}
use Rattle.merge_model.specs.Judge.{PublisherJudge, SubscriberJudge}
use Rattle.merge_model.specs.History.Model.{past_of_item, with_letter}
use Rattle.merge_model.specs.History.Noting
use Rattle.merge_model.specs.Publisher.{tables_after_close}
use Rattle.merge_model.specs.Publisher.PublisherDownload.{TouchedRow, is_between, reply_to, tables_after_download, touched_rows}
use Rattle.merge_model.specs.Publisher.PublisherJoin.{join_taken}
use Rattle.merge_model.specs.Publisher.PublisherRanges.{plans, reply_to_ranges, with_grants}
use Rattle.merge_model.specs.Publisher.PublisherUpload.{taken_in}
use Rattle.merge_model.specs.Subscriber.Sending.{join_of, upload_sent, want_of, with_message}
use Rattle.merge_model.specs.Subscriber.{subscriber_at_moment, subscriber_closed}
use Rattle.merge_types.specs.declared.row_key.RowKey.{RowKey as Key}
use Rattle.merge_model.specs.Tables.{PublisherTables, SubscriberTables}
use Rattle.merge_model.specs.Subscriber.Taking.{tables_after_reply}
use Rattle.merge_model.specs.World.{Saying, World, empty_world, subscriber_at, with_publisher, with_subscriber}
use Rattle.merge_model.specs.declared.letter.Message.TheVariants.{Asks, Replies}
use Rattle.merge_model.specs.declared.letter.Message.{Message}
use Rattle.merge_laws.proofs.Runs.Tallied.{makers-tallied}
use Rattle.merge_laws.specs.Invariants.KnownMakers.{HeldKnow, KnownMakers, KnowsMaker}
use Rattle.merge_model.proofs.Lists.Finding.{found-named}
use Rattle.merge_laws.proofs.Runs.Ground.{Ground}
use Rattle.merge_laws.proofs.Makers.KnownMakers.{anew-makers, none-ascends, own-makers, post-makers, publisher-makers, purge-makers, sub-makers, subscriber-makers}
use Rattle.merge_laws.proofs.Letters.LetterPasts.{items-sent, orders-sent}
use Rattle.merge_laws.proofs.Makers.MakerSites.{above-know, items-know, orders-know}
use Rattle.merge_laws.proofs.Makers.MakerUploads.{join-makers, reply-makers, upload-makers}
use Rattle.merge_laws.proofs.Received.Models.{begins-with}
use Rattle.merge_laws.proofs.Walking.{StepsKeep, acts_in, comes, here, join_noted, told_by, uploaded_world}

module _ (publication : Publication) (says : Saying) where
  -- a subscriber keeps its rows
  stays : (w : World) (h : History) (s t : SubscriberTables) → KnownMakers w h → subscriber_at w s.site ≡ Some s → t.site.0 ≡ s.site.0 → (HeldKnow s.rows (pasts_at h s.site.0) → HeldKnow t.rows (pasts_at h s.site.0)) → KnownMakers (with_subscriber t w) h
  stays w h s t i at site rows = subscriber-makers w h s t at site rows i

  upload-sends : (w : World) (h : History) (s : SubscriberTables) → KnownMakers w h → subscriber_at w s.site ≡ Some s
      → (let made : SubscriberTables × Upload = upload_sent (by_made h s.site) (subscriber_closed (subscriber_at_moment w.moment s)) in
      KnownMakers (record (with_subscriber made.0 w) { pool = w.pool ++ record { site = s.site; message = Asks (request.Upload made.1) } ∷ [] }) (record h { letters = h.letters ++ map (past_of_item (pasts_at h s.site.0)) made.1.items ∷ [] }))
  upload-sends w h s i at =
      let c : SubscriberTables = subscriber_closed (subscriber_at_moment w.moment s) in
      let made : SubscriberTables × Upload = upload_sent (by_made h s.site) c in
      post-makers (with_subscriber made.0 w) h s.site (Asks (request.Upload made.1))
      (items-sent (λ (item : UploadItem) (past : Past). KnowsMaker (key_of_item item) past.known) (pasts_at h s.site.0) made.1.items (items-know c (pasts_at h s.site.0) (changed_between_by_made h s.site c.received made.1.to) (i.there s.site.0 s at)))
      (stays w h s made.0 i at refl (λ know. know))

  reply-sends : (w : World) (h : History) (number : ℕ) (site : SiteId) (m : Download) → KnownMakers w h
      → (let judge : PublisherJudge = by_past h (pasts_with h number) in let message : Message = Replies (reply.Downloaded (reply_to publication judge m (tables_after_download m (here w)))) in
      KnownMakers (record (with_publisher (tables_after_download m (here w)) w) { pool = w.pool ++ record { site = site; message = message } ∷ [] }) (with_letter (record { site = site; message = message }) h))
  reply-sends w h number site m i =
      let judge : PublisherJudge = by_past h (pasts_with h number) in
      let q : PublisherTables = tables_after_download m (here w) in
      let sent : Downloaded = reply_to publication judge m q in
      let rows : List TouchedRow = filter (is_between m.from sent.to) (touched_rows publication judge m.site q) in
      post-makers (with_publisher q w) h site (Replies (reply.Downloaded sent)) (orders-sent (λ (key : Key) (version : Version) (past : Past). KnowsMaker key past.known) (pasts_at h 0) sent.items (orders-know q (pasts_at h 0) rows i.here))
      (publisher-makers w h q refl i)

  replied : (w : World) (h : History) (s : SubscriberTables) (number : ℕ) (m : Reply) → Ground publication w h → KnownMakers w h → subscriber_at w s.site ≡ Some s → comes w number s.site (Replies m)
      → (let judge : SubscriberJudge = by_made h s.site in KnownMakers (with_subscriber (tables_after_reply judge w.moment m s) w) (Noting.noted_reply judge s.site (pasts_with h number) m h))
  replied w h s number (reply.Joined m) g i at came = stays w h s (tables_after_reply (by_made h s.site) w.moment (reply.Joined m) s) i at refl (λ know. know)
  replied w h s number (reply.Uploaded m) g i at came = stays w h s (tables_after_reply (by_made h s.site) w.moment (reply.Uploaded m) s) i at refl (λ know. above-know m.received s.rows (pasts_at h s.site.0) know)
  replied w h s number (reply.Ranged m) g i at came = stays w h s (tables_after_reply (by_made h s.site) w.moment (reply.Ranged m) s) i at refl (λ know. know)
  replied w h s number (reply.Downloaded m) g i at came = reply-makers publication w h s number m g i at came
  replied w h s number (reply.Refused code values) g i at came = stays w h s (tables_after_reply (by_made h s.site) w.moment (reply.Refused code values) s) i at refl (λ know. know)

  pub makers-keep : StepsKeep publication says (Ground publication) KnownMakers
  makers-keep = record {
    moment = λ w h now g i. record { sorted = i.sorted; makers = i.makers; firsts = i.firsts; here = i.here; there = i.there; letters = i.letters };
    own_change = λ w h change d g i fine is. own-makers publication (by_past h (pasts_with h 0)) w h change d g i fine;
    own_closing = λ w h g i. publisher-makers w h (tables_after_close (here w)) refl i;
    forgetting = λ w h g i. purge-makers publication (by_past h (pasts_with h 0)) w h g i;
    same = λ w h s g i at. stays w h s s i at refl (λ know. know);
    subscriber_change = λ w h s change d g i at named fine is. sub-makers publication w h s change d g i at named fine;
    subscriber_closing = λ w h s g i at. stays w h s (subscriber_closed (subscriber_at_moment w.moment s)) i at refl (λ know. know);
    anew = λ w h s g i at. anew-makers w h s (found-named w.subscribers s.site.0 s g.none at) i at;
    sends_join = λ w h s g i at joining. post-makers (with_subscriber (with_message ask.Join s) w) h s.site (Asks (request.Join (join_of s))) tt (stays w h s (with_message ask.Join s) i at refl (λ know. know));
    sends_upload = λ w h s g i at fine. upload-sends w h s i at;
    sends_ranges = λ w h s g i at fine. post-makers (with_subscriber (with_message ask.Ranges s) w) h s.site (Asks (request.Ranges (record { site = s.site; seq = s.seq + 1; wants = map want_of s.held }))) tt (stays w h s (with_message ask.Ranges s) i at refl (λ know. know));
    sends_ask = λ w h s g i at fine. post-makers (with_subscriber (with_message (ask.Download s.watermark) s) w) h s.site (Asks (request.Download (record { site = s.site; seq = s.seq + 1; from = s.watermark }))) tt
        (stays w h s (with_message (ask.Download s.watermark) s) i at refl (λ know. know));
    joins = λ w h number m g i at fine acts. (let judge : PublisherJudge = by_past h (pasts_with h number) in
        post-makers (with_publisher (join_taken m (here w)) w) (join_noted judge m w.publisher h) m.site (Replies (reply.Joined (record { seq = m.seq }))) tt (join-makers judge w h m i));
    joins_again = λ w h number m g i at acts. post-makers (with_publisher (here w) w) h m.site (Replies (reply.Joined (record { seq = m.seq }))) tt (publisher-makers w h (here w) refl i);
    uploads = λ w h number m g i at fine news. (
        let judge : PublisherJudge = by_past h (pasts_with h number) in
        let q : PublisherTables = taken_in publication judge m (acts_in publication says judge m w) (here w) in
        let k : History = Noting.with_acts_noted publication judge m (acts_in publication says judge m w) (pasts_with h number) (here w) h in
        post-makers (uploaded_world publication says judge m q w) k m.site (Replies (reply.Uploaded (told_by judge m))) tt
        (makers-tallied (with_publisher q w) (uploaded_world publication says judge m q w).tallies k (upload-makers publication says w h number m g i at)));
    uploads_again = λ w h number m g i at none. (let judge : PublisherJudge = by_past h (pasts_with h number) in
        post-makers (uploaded_world publication says judge m (here w) w) h m.site (Replies (reply.Uploaded (told_by judge m))) tt
        (makers-tallied (with_publisher (here w) w) (uploaded_world publication says judge m (here w) w).tallies h (publisher-makers w h (here w) refl i)));
    answers_ranges = λ w h site m g i. (let q : PublisherTables = with_grants (plans publication m w.publisher) (here w) in
        post-makers (with_publisher q w) h site (Replies (reply.Ranged (reply_to_ranges m (plans publication m w.publisher)))) tt (publisher-makers w h q refl i));
    answers_ask = λ w h number site m g i at fine. reply-sends w h number site m i;
    replies = λ w h s number m sent g i at there out none. replied w h s number m g i at there;
  }

pub makers-begin : (publication : Publication) (tallies : List ℕ) → KnownMakers (empty_world publication tallies) no_history
makers-begin publication tallies = record {
  sorted = λ n. none-ascends;
  makers = tt;
  firsts = tt;
  here = λ key is. absurd (grind (arith, is));
  there = λ n s at. begins-with publication (λ (k : ℕ) (t : SubscriberTables). HeldKnow t.rows []) (λ k site keyed key is. absurd (grind (arith, is))) n s at;
  letters = tt;
}
