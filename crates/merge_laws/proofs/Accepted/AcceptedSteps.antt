-- Every step keeps what is accepted of what is known, given what is known of own changes.
use Rattle.std.specs.Prelude.{◌≡◌, ◌+◌, ℕ, List, [], false, Some, map, refl}
use Rattle.std.proofs.Common.{arith}
use Rattle.merge_schema.specs.declared.publication.Publication.{Publication}
use Rattle.merge_batch.specs.declared.reply.Reply.TheVariants as reply
use Rattle.merge_batch.specs.declared.request.Outstanding.TheVariants as ask
use Rattle.merge_batch.specs.declared.request.Request.TheVariants as request
use Rattle.merge_model.specs.Judge.ByHistory.{by_past}
use Rattle.merge_model.specs.History.{History, no_history, pasts_with}
use Rattle.merge_model.specs.Judge.{PublisherJudge}
use Rattle.merge_model.specs.History.Model.{Model, empty_model, model_step}
use Rattle.merge_model.specs.History.Noting
use Rattle.merge_model.specs.Publisher.{tables_after_close}
use Rattle.merge_model.specs.Publisher.PublisherJoin.{join_taken}
use Rattle.merge_model.specs.Publisher.PublisherRanges.{plans, reply_to_ranges, with_grants}
use Rattle.merge_model.specs.Publisher.PublisherUpload.{taken_in}
use Rattle.merge_model.specs.Subscriber.Sending.{join_of, want_of, with_message}
use Rattle.merge_model.specs.World.Steps.{Action}
use Rattle.merge_model.specs.Subscriber.{subscriber_at_moment, subscriber_closed}
use Rattle.merge_model.specs.Tables.{PublisherTables, SubscriberTables}
use Rattle.merge_model.specs.World.{Saying, World, empty_world, subscriber_at, with_publisher, with_subscriber}
use Rattle.merge_model.specs.declared.letter.Message.TheVariants.{Asks, Replies}
use Rattle.merge_laws.specs.Invariants.Accepted.{Accepted, AllAccepted}
use Rattle.merge_laws.specs.Invariants.KnownMakers.{KnownMakers}
use Rattle.merge_laws.specs.Invariants.LetterOrder.{LetterOrder}
use Rattle.merge_laws.specs.Facts.LineagesStand.{KnownCounts, OwnKnown}
use Rattle.merge_laws.specs.Facts.Received.{Received}
use Rattle.merge_laws.proofs.Accepted.AcceptedChanges.{anew-accepts, own-accepts, purge-accepts, sub-accepts}
use Rattle.merge_laws.proofs.Accepted.AcceptedJoins.{join-accepts}
use Rattle.merge_laws.proofs.Accepted.AcceptedParts.{moment-accepted, post-accepted, publisher-accepted, subscriber-accepted, tallies-accepted}
use Rattle.merge_laws.proofs.Accepted.AcceptedReplies.{reply-accepts}
use Rattle.merge_laws.proofs.Accepted.AcceptedSendings.{ask-answered, upload-posted}
use Rattle.merge_laws.proofs.Accepted.AcceptedUploads.{upload-accepted}
use Rattle.merge_laws.proofs.Runs.Ground.{Ground}
use Rattle.merge_laws.proofs.Letters.LetterOrder.{order-begins, order-keeps}
use Rattle.merge_laws.proofs.Makers.MakerSteps.{makers-begin, makers-keep}
use Rattle.merge_laws.proofs.Received.Models.{begins-with}
use Rattle.merge_laws.proofs.Received.Publishing.{same-sites}
use Rattle.merge_laws.proofs.Walking.{StepsKeep, acts_in, here, join_noted, step-keeps, told_by, uploaded_world}

module _ (publication : Publication) (says : Saying) where
  abbrev pub OfOwn : World → History → Type 0
  OfOwn w h = Ground publication w h × OwnKnown (record { world = w; history = h })

  abbrev OfOrder : World → History → Type 0
  OfOrder w h = LetterOrder w

  -- a subscriber that stays as joined as it was, with its rows
  stays : (w : World) (h : History) (s t : SubscriberTables) → AllAccepted w h → subscriber_at w s.site ≡ Some s → t.site.0 ≡ s.site.0 → (t.is_joined ≡ false → (s.is_joined ≡ false) × (s.rows ≡ [] → t.rows ≡ [])) → Accepted (with_subscriber t w) h
  stays w h s t a at site waits = subscriber-accepted w h s t at site waits a.accepted

  pub counts-keep : StepsKeep publication says OfOwn AllAccepted
  counts-keep =
      let order : StepsKeep publication says Received OfOrder = order-keeps publication says in
      let makers : StepsKeep publication says (Ground publication) KnownMakers = makers-keep publication says in
      record {
        moment = λ w h now b a. record { order = order.moment w h now b.0.received a.order; makers = makers.moment w h now b.0 a.makers; accepted = moment-accepted w h now a.accepted };
        own_change = λ w h change d b a fine is. record {
          order = order.own_change w h change d b.0.received a.order fine is;
          makers = makers.own_change w h change d b.0 a.makers fine is;
          accepted = own-accepts publication (by_past h (pasts_with h 0)) w h change d b.0 a.makers a.accepted fine;
        };
        own_closing = λ w h b a. record {
          order = order.own_closing w h b.0.received a.order;
          makers = makers.own_closing w h b.0 a.makers;
          accepted = publisher-accepted w h (tables_after_close (here w)) (same-sites w.publisher (tables_after_close (here w)) refl) a.accepted;
        };
        forgetting = λ w h b a. record {
          order = order.forgetting w h b.0.received a.order;
          makers = makers.forgetting w h b.0 a.makers;
          accepted = purge-accepts publication (by_past h (pasts_with h 0)) w h b.0 a.makers a.accepted;
        };
        same = λ w h s b a at. record { order = order.same w h s b.0.received a.order at; makers = makers.same w h s b.0 a.makers at; accepted = stays w h s s a at refl (λ waits. (waits, λ bare. bare)) };
        subscriber_change = λ w h s change d b a at named fine is. record {
          order = order.subscriber_change w h s change d b.0.received a.order at named fine is;
          makers = makers.subscriber_change w h s change d b.0 a.makers at named fine is;
          accepted = sub-accepts publication w h s change d b.0 a.makers a.accepted at named fine;
        };
        subscriber_closing = λ w h s b a at. record {
          order = order.subscriber_closing w h s b.0.received a.order at;
          makers = makers.subscriber_closing w h s b.0 a.makers at;
          accepted = stays w h s (subscriber_closed (subscriber_at_moment w.moment s)) a at refl (λ waits. (waits, λ bare. bare));
        };
        anew = λ w h s b a at. record { order = order.anew w h s b.0.received a.order at; makers = makers.anew w h s b.0 a.makers at; accepted = anew-accepts w h s a.accepted at };
        sends_join = λ w h s b a at joining. record {
          order = order.sends_join w h s b.0.received a.order at joining;
          makers = makers.sends_join w h s b.0 a.makers at joining;
          accepted = post-accepted (with_subscriber (with_message ask.Join s) w) h s.site (Asks (request.Join (join_of s))) tt tt tt (stays w h s (with_message ask.Join s) a at refl (λ waits. (waits, λ bare. bare)));
        };
        sends_upload = λ w h s b a at fine. record {
          order = order.sends_upload w h s b.0.received a.order at fine;
          makers = makers.sends_upload w h s b.0 a.makers at fine;
          accepted = upload-posted publication w h s b.0 a.makers a.accepted at;
        };
        sends_ranges = λ w h s b a at fine. record {
          order = order.sends_ranges w h s b.0.received a.order at fine;
          makers = makers.sends_ranges w h s b.0 a.makers at fine;
          accepted = post-accepted (with_subscriber (with_message ask.Ranges s) w) h s.site (Asks (request.Ranges (record { site = s.site; seq = s.seq + 1; wants = map want_of s.held }))) tt tt tt (stays w h s (with_message ask.Ranges s) a at refl (λ waits. (waits, λ bare. bare)));
        };
        sends_ask = λ w h s b a at fine. record {
          order = order.sends_ask w h s b.0.received a.order at fine;
          makers = makers.sends_ask w h s b.0 a.makers at fine;
          accepted = post-accepted (with_subscriber (with_message (ask.Download s.watermark) s) w) h s.site (Asks (request.Download (record { site = s.site; seq = s.seq + 1; from = s.watermark }))) tt tt tt
              (stays w h s (with_message (ask.Download s.watermark) s) a at refl (λ waits. (waits, λ bare. bare)));
        };
        joins = λ w h number m b a at fine acts. record {
          order = order.joins w h number m b.0.received a.order at fine acts;
          makers = makers.joins w h number m b.0 a.makers at fine acts;
          accepted = (let judge : PublisherJudge = by_past h (pasts_with h number) in
              post-accepted (with_publisher (join_taken m (here w)) w) (join_noted judge m w.publisher h) m.site (Replies (reply.Joined (record { seq = m.seq }))) tt tt tt (join-accepts publication judge w h number m b.0 a.order a.accepted at acts));
        };
        joins_again = λ w h number m b a at acts. record {
          order = order.joins_again w h number m b.0.received a.order at acts;
          makers = makers.joins_again w h number m b.0 a.makers at acts;
          accepted = post-accepted (with_publisher (here w) w) h m.site (Replies (reply.Joined (record { seq = m.seq }))) tt tt tt (publisher-accepted w h (here w) (same-sites w.publisher (here w) refl) a.accepted);
        };
        uploads = λ w h number m b a at fine news. record {
          order = order.uploads w h number m b.0.received a.order at fine news;
          makers = makers.uploads w h number m b.0 a.makers at fine news;
          accepted = (
              let judge : PublisherJudge = by_past h (pasts_with h number) in
              let q : PublisherTables = taken_in publication judge m (acts_in publication says judge m w) (here w) in
              let k : History = Noting.with_acts_noted publication judge m (acts_in publication says judge m w) (pasts_with h number) (here w) h in
              post-accepted (uploaded_world publication says judge m q w) k m.site (Replies (reply.Uploaded (told_by judge m))) tt tt tt
              (tallies-accepted (with_publisher q w) k (uploaded_world publication says judge m q w).tallies (upload-accepted publication says w h number m b.0 b.1 a.makers a.accepted at fine news)));
        };
        uploads_again = λ w h number m b a at none. record {
          order = order.uploads_again w h number m b.0.received a.order at none;
          makers = makers.uploads_again w h number m b.0 a.makers at none;
          accepted = (let judge : PublisherJudge = by_past h (pasts_with h number) in
              post-accepted (uploaded_world publication says judge m (here w) w) h m.site (Replies (reply.Uploaded (told_by judge m))) tt tt tt
              (tallies-accepted (with_publisher (here w) w) h (uploaded_world publication says judge m (here w) w).tallies (publisher-accepted w h (here w) (same-sites w.publisher (here w) refl) a.accepted)));
        };
        answers_ranges = λ w h site m b a. record {
          order = order.answers_ranges w h site m b.0.received a.order;
          makers = makers.answers_ranges w h site m b.0 a.makers;
          accepted = (let q : PublisherTables = with_grants (plans publication m w.publisher) (here w) in
              post-accepted (with_publisher q w) h site (Replies (reply.Ranged (reply_to_ranges m (plans publication m w.publisher)))) tt tt tt (publisher-accepted w h q (same-sites w.publisher q refl) a.accepted));
        };
        answers_ask = λ w h number site m b a at fine. record {
          order = order.answers_ask w h number site m b.0.received a.order at fine;
          makers = makers.answers_ask w h number site m b.0 a.makers at fine;
          accepted = ask-answered publication w h number site m a.accepted;
        };
        replies = λ w h s number m sent b a at there out none. record {
          order = order.replies w h s number m sent b.0.received a.order at there out none;
          makers = makers.replies w h s number m sent b.0 a.makers at there out none;
          accepted = reply-accepts publication w h s number m sent b.0 a.makers a.accepted at there out none;
        };
      }

-- How it begins.

pub counts-begin : (publication : Publication) (tallies : List ℕ) → KnownCounts (empty_model publication tallies)
counts-begin publication tallies = record {
  here = λ key dot is other. absurd (grind (arith, is));
  there = λ n key low dot is other. absurd (grind (arith, is));
  holds = λ n key dot low is. absurd (grind (arith, is));
  counts = tt;
  joining = λ n s at. begins-with publication (λ (k : ℕ) (t : SubscriberTables). t.is_joined ≡ false → t.rows ≡ []) (λ k site keyed none. refl) n s at;
  makers = tt;
  inserts = tt;
}

accepted-begins : (publication : Publication) (tallies : List ℕ) → Accepted (empty_world publication tallies) no_history
accepted-begins publication tallies = record {
  counts = counts-begin publication tallies;
  bare = λ n s at none. refl;
  sent = tt;
  made = λ dot is. absurd (grind (arith, is));
  inserts = tt;
}

pub all-begin : (publication : Publication) (tallies : List ℕ) → AllAccepted (empty_world publication tallies) no_history
all-begin publication tallies = record { order = order-begins publication tallies; makers = makers-begin publication tallies; accepted = accepted-begins publication tallies }

-- One step, where what is known of own changes holds before it.
pub accepted-step : (publication : Publication) (says : Saying) (m : Model) (action : Action) → Ground publication m.world m.history → OwnKnown m → AllAccepted m.world m.history → (let n : Model = (model_step publication says m action).0 in AllAccepted n.world n.history)
accepted-step publication says m action g own a = step-keeps publication says (OfOwn publication says) AllAccepted (λ w h b. b.0.received) (counts-keep publication says) m action (g, own) a
