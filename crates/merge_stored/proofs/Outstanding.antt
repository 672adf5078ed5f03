-- The message that is outstanding at a subscriber.
use Rattle.std.specs.Prelude.{List, None, Option, Some, length, refl, ℕ, ◌+◌, ◌≡◌, ◌≤◌}
use Rattle.std.proofs.Common.{arith, subst, sym}
use Rattle.std.proofs.lemmas.Bool.Decides.{nat_tests}
use Rattle.merge_types.specs.declared.identifiers.Moment.{Moment}
use Rattle.merge_types.specs.declared.row_key.RowKey.{RowKey as Key}
use Rattle.merge_units.specs.declared.version.Version.{Version}
use Rattle.merge_gens.specs.Filling as fill
use Rattle.merge_gens.specs.declared.filling.Filling.{Filling}
use Rattle.merge_ident.specs.Holders.{Holder}
use Rattle.merge_schema.specs.Valid.{IsValid}
use Rattle.merge_schema.specs.declared.publication.Publication.{Publication}
use Rattle.merge_batch.specs.declared.reply.Reply.{Reply}
use Rattle.merge_batch.specs.declared.reply.Reply.TheVariants as reply
use Rattle.merge_batch.specs.declared.request.Outstanding.{Outstanding}
use Rattle.merge_batch.specs.declared.request.Outstanding.TheVariants as ask
use Rattle.merge_model.specs.Judge.ByHistory.{by_made}
use Rattle.merge_model.specs.Tables.Changes.{key_of, version_after}
use Rattle.merge_model.specs.Failing.{Slips}
use Rattle.merge_model.specs.History.{History}
use Rattle.merge_model.specs.Judge.{SubscriberJudge}
use Rattle.merge_model.specs.Tables.Keys.{at_number, put_number}
use Rattle.merge_model.specs.Subscriber.Reinit.{result_of_reinit}
use Rattle.merge_model.specs.Failing.Runs.{model_behind}
use Rattle.merge_model.specs.Subscriber.Sending.{upload_end, upload_sent, with_message}
use Rattle.merge_model.specs.Subscriber.{subscriber_at_moment, subscriber_closed, subscriber_last_closed, subscriber_next_dot, subscriber_version_at, with_version_if}
use Rattle.merge_model.specs.Tables.{SubscriberTables}
use Rattle.merge_model.specs.Subscriber.Taking.{tables_after_reply}
use Rattle.merge_model.specs.World.{Saying, World}
use Rattle.merge_model.specs.declared.event.Event.{Event}
use Rattle.merge_laws.proofs.Runs.Ground.{Ground, grounded-always}
use Rattle.merge_laws.proofs.Received.Models.{begins-with}
use Rattle.merge_laws.proofs.Unsent.UnsentKept.{reply-site, version-site}
use Rattle.merge_laws.proofs.Walking.{StepsKeep, step-keeps}
use Rattle.merge_honest.proofs.Batches.{batch-holds}
use Rattle.merge_honest.proofs.PutFound.{put-each}
use Rattle.merge_stored.specs.States.{EndsBy, OutstandingFits, SentFits}

ends-later : (last later : ℕ) (sent : Outstanding) → last ≤ later → EndsBy last sent → EndsBy later sent
ends-later last later (ask.Upload from to) up ends = ((let low = ends.0 in omega (arith, low, up)), (let low = ends.1 in omega (arith, low, up)))
ends-later last later ask.Join up ends = tt
ends-later last later ask.Ranges up ends = tt
ends-later last later (ask.Download from) up ends = tt

sent-later : (last later : ℕ) (found : Option (ℕ × Outstanding)) → last ≤ later → SentFits last found → SentFits later found
sent-later last later None up fits = tt
sent-later last later (Some p) up fits = (fits.0, ends-later last later p.1 up fits.1)

-- the same message, and more closed generations
later-fits : (s t : SubscriberTables) → t.outstanding ≡ s.outstanding → subscriber_last_closed s ≤ subscriber_last_closed t → OutstandingFits s → OutstandingFits t
later-fits s t same up fits = subst (λ (found : Option (ℕ × Outstanding)). SentFits (subscriber_last_closed t) found) (sym same) (sent-later (subscriber_last_closed s) (subscriber_last_closed t) s.outstanding up fits)

pub closed-up : (filling : Filling) → filling.last_closed ≤ (fill.filling_after_close filling).last_closed
closed-up filling = grind (arith, nat_tests)

new-fits : (s : SubscriberTables) (sent : Outstanding) → EndsBy (subscriber_last_closed s) sent → OutstandingFits (with_message sent s)
new-fits s sent ends = (omega arith, ends)

upload-fits : (judge : SubscriberJudge) (now : Moment) (s : SubscriberTables) → s.received ≤ subscriber_last_closed s → OutstandingFits (upload_sent judge (subscriber_closed (subscriber_at_moment now s))).0
upload-fits judge now s own =
    let c : SubscriberTables = subscriber_closed (subscriber_at_moment now s) in
    let up : subscriber_last_closed s ≤ subscriber_last_closed c = closed-up s.gens.filling in
    let begins : c.received ≤ subscriber_last_closed c = omega (arith, own, up) in
    let ends : upload_end judge c ≤ subscriber_last_closed c = batch-holds (λ (k : ℕ). k ≤ subscriber_last_closed c) (λ (to : ℕ). length (judge.changed_between c.received to)) c.received (subscriber_last_closed c) begins (λ k above within low is. low) in
    new-fits c (ask.Upload c.received (upload_end judge c)) (begins, ends)

change-fits : (key : Key) (found : Option Version) (now : Moment) (held : List (ℕ × Holder)) (s : SubscriberTables) → OutstandingFits s → (let u : SubscriberTables = record (subscriber_at_moment now s) { changes = s.changes + 1; held = held } in OutstandingFits (with_version_if key found u))
change-fits key None now held s fits = fits
change-fits key (Some version) now held s fits = (let u : SubscriberTables = record (subscriber_at_moment now s) { changes = s.changes + 1; held = held } in later-fits s (with_version_if key (Some version) u) refl (omega arith) fits)

taken-fits : (judge : SubscriberJudge) (now : Moment) (m : Reply) (s : SubscriberTables) → OutstandingFits (tables_after_reply judge now m s)
taken-fits judge now (reply.Joined m) s = tt
taken-fits judge now (reply.Uploaded m) s = tt
taken-fits judge now (reply.Ranged m) s = tt
taken-fits judge now (reply.Downloaded m) s = tt
taken-fits judge now (reply.Refused number values) s = tt

abbrev OfSent : World → History → Type 0
OfSent w h = (n : ℕ) (s : SubscriberTables) → at_number w.subscribers n ≡ Some s → OutstandingFits s

module _ (publication : Publication) (says : Saying) where
  on : (w : World) (s t : SubscriberTables) → t.site.0 ≡ s.site.0 → OutstandingFits t → ((n : ℕ) (x : SubscriberTables) → at_number w.subscribers n ≡ Some x → OutstandingFits x) → (n : ℕ) (x : SubscriberTables) → at_number (put_number w.subscribers t.site.0 t) n ≡ Some x → OutstandingFits x
  on w s t same new all = put-each (λ (n : ℕ) (x : SubscriberTables). OutstandingFits x) w.subscribers s t same new all

  sent-keep : StepsKeep publication says (Ground publication) OfSent
  sent-keep = record {
    moment = λ w h now g p. p;
    own_change = λ w h change d g p fine is. p;
    own_closing = λ w h g p. p;
    forgetting = λ w h g p. p;
    same = λ w h s g p at. on w s s refl (p s.site.0 s at) p;
    subscriber_change = λ w h s change d g p at named fine is. (
        let key : Key = key_of (subscriber_next_dot s) change in
        let found : Option Version = version_after publication (subscriber_next_dot s) d.0 change (subscriber_version_at s key) in
        let u : SubscriberTables = record (subscriber_at_moment w.moment s) { changes = s.changes + 1; held = d.1 } in
        on w s (with_version_if key found u) (version-site key found u) (change-fits key found w.moment d.1 s (p s.site.0 s at)) p);
    subscriber_closing = λ w h s g p at. on w s (subscriber_closed (subscriber_at_moment w.moment s)) refl (later-fits s (subscriber_closed (subscriber_at_moment w.moment s)) refl (closed-up s.gens.filling) (p s.site.0 s at)) p;
    anew = λ w h s g p at. on w s (result_of_reinit (by_made h s.site) (subscriber_at_moment w.moment s)).0 refl tt p;
    sends_join = λ w h s g p at joining. on w s (with_message ask.Join s) refl (new-fits s ask.Join tt) p;
    sends_upload = λ w h s g p at fine. on w s (upload_sent (by_made h s.site) (subscriber_closed (subscriber_at_moment w.moment s))).0 refl (upload-fits (by_made h s.site) w.moment s (g.received.subscribers s.site.0 s at).own) p;
    sends_ranges = λ w h s g p at fine. on w s (with_message ask.Ranges s) refl (new-fits s ask.Ranges tt) p;
    sends_ask = λ w h s g p at fine. on w s (with_message (ask.Download s.watermark) s) refl (new-fits s (ask.Download s.watermark) tt) p;
    joins = λ w h number m g p at fine acts. p;
    joins_again = λ w h number m g p at acts. p;
    uploads = λ w h number m g p at fine news. p;
    uploads_again = λ w h number m g p at none. p;
    answers_ranges = λ w h site m g p. p;
    answers_ask = λ w h number site m g p at fine. p;
    replies = λ w h s number m sent g p at there out none. on w s (tables_after_reply (by_made h s.site) w.moment m s) (reply-site (by_made h s.site) w.moment m s) (taken-fits (by_made h s.site) w.moment m s) p;
  }

  pub outstanding-fits : (tallies : List ℕ) (slips : Slips) (events : List Event) → (resolvers : ℕ) × IsValid resolvers publication → OfSent (model_behind publication says tallies slips events).world (model_behind publication says tallies slips events).history
  outstanding-fits tallies slips events valid = (grounded-always publication says tallies slips events valid OfSent
      (λ m action g p. step-keeps publication says (Ground publication) OfSent (λ w h ground. ground.received) sent-keep m action g p)
      (λ w h others p. p) (λ n s at. begins-with publication (λ (k : ℕ) (t : SubscriberTables). OutstandingFits t) (λ k site keyed. tt) n s at)).1
