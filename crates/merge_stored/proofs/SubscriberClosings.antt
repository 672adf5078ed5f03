-- A subscriber keeps the closed generations above the received one, each once.
use Rattle.std.specs.Prelude.{List, None, Option, Some, nat_lt, refl, filter, ℕ, ◌+◌, ◌≡◌, ◌≤◌}
use Rattle.std.proofs.Common.{arith}
use Rattle.merge_types.specs.declared.identifiers.Moment.{Moment}
use Rattle.merge_types.specs.declared.row_key.RowKey.{RowKey as Key}
use Rattle.merge_units.specs.declared.version.Version.{Version}
use Rattle.merge_gens.specs.Filling as fill
use Rattle.merge_gens.specs.declared.closings.Closing.{Closing}
use Rattle.merge_ident.specs.Holders.{Holder}
use Rattle.merge_schema.specs.Valid.{IsValid}
use Rattle.merge_schema.specs.declared.publication.Publication.{Publication}
use Rattle.merge_batch.specs.declared.reply.Reply.{Reply}
use Rattle.merge_batch.specs.declared.reply.Reply.TheVariants as reply
use Rattle.merge_batch.specs.declared.request.Outstanding.{Outstanding}
use Rattle.merge_batch.specs.declared.request.Outstanding.TheVariants as ask
use Rattle.merge_keeper.specs.SubscriberRules.{Run}
use Rattle.merge_model.specs.Judge.ByHistory.{by_made}
use Rattle.merge_model.specs.Tables.Changes.{key_of, version_after}
use Rattle.merge_model.specs.Failing.{Slips}
use Rattle.merge_model.specs.World.Faults.{reply_fault}
use Rattle.merge_model.specs.History.{History}
use Rattle.merge_model.specs.Judge.{SubscriberJudge}
use Rattle.merge_model.specs.Tables.Keys.{at_number, put_number}
use Rattle.merge_model.specs.Subscriber.Reinit.{result_of_reinit}
use Rattle.merge_model.specs.Failing.Runs.{model_behind}
use Rattle.merge_model.specs.Subscriber.Sending.{upload_sent, with_message}
use Rattle.merge_model.specs.Subscriber.{subscriber_at_moment, subscriber_closed, subscriber_last_closed, subscriber_next_dot, subscriber_version_at, with_version_if}
use Rattle.merge_model.specs.Tables.{SubscriberTables}
use Rattle.merge_model.specs.Subscriber.Taking.{seq_of, tables_after_reply}
use Rattle.merge_model.specs.World.{Saying, World}
use Rattle.merge_model.specs.declared.event.Event.{Event}
use Rattle.merge_laws.proofs.Runs.Ground.{Ground, grounded-always}
use Rattle.merge_laws.proofs.Received.Models.{begins-with}
use Rattle.merge_laws.proofs.Received.Replying.{downloaded-bound, downloaded-least, uploaded-bound, uploaded-least}
use Rattle.merge_laws.proofs.Unsent.UnsentKept.{reply-site, version-site}
use Rattle.merge_laws.proofs.Walking.{StepsKeep, step-keeps}
use Rattle.merge_honest.proofs.PutFound.{put-each}
use Rattle.merge_stored.proofs.ClosingLists.{run-forgotten, run-moved}
use Rattle.merge_stored.proofs.Outstanding.{closed-up}

abbrev pub ClosingsRun : SubscriberTables → Type 0
ClosingsRun s = Run (subscriber_last_closed s) (s.received + 1) s.gens.closings

closed-run : (now : Moment) (s : SubscriberTables) → ClosingsRun s → ClosingsRun (subscriber_closed (subscriber_at_moment now s))
closed-run now s run = run-moved (subscriber_last_closed s) (fill.filling_after_close s.gens.filling).last_closed (s.received + 1) (record { 0 = s.changes }) s.gens.closings (closed-up s.gens.filling) run

change-run : (key : Key) (found : Option Version) (now : Moment) (held : List (ℕ × Holder)) (s : SubscriberTables) → ClosingsRun s → (let u : SubscriberTables = record (subscriber_at_moment now s) { changes = s.changes + 1; held = held } in ClosingsRun (with_version_if key found u))
change-run key None now held s run = run
change-run key (Some version) now held s run = run-moved (subscriber_last_closed s) (fill.filled_by s.gens.filling 1).last_closed (s.received + 1) (record { 0 = s.changes + 1 }) s.gens.closings (omega arith) run

received-run : (s : SubscriberTables) (received : ℕ) → s.received ≤ received → received ≤ subscriber_last_closed s → ClosingsRun s → Run (subscriber_last_closed s) (received + 1) (filter (λ (c : Closing). nat_lt received c.generation) s.gens.closings)
received-run s received low up run = run-forgotten (subscriber_last_closed s) (s.received + 1) received s.gens.closings (omega (arith, low)) up run

reply-run : (publication : Publication) (judge : SubscriberJudge) (now : Moment) (sent : Outstanding) (m : Reply) (s : SubscriberTables) → reply_fault publication sent m s ≡ None → s.outstanding ≡ Some (seq_of m, sent)
    → ((seq from to : ℕ) → s.outstanding ≡ Some (seq, ask.Upload from to) → s.received ≤ to) → ClosingsRun s → ClosingsRun (tables_after_reply judge now m s)
reply-run publication judge now sent (reply.Joined m) s none out knows run = run
reply-run publication judge now sent (reply.Uploaded m) s none out knows run = received-run s m.received (uploaded-least publication sent m s m.seq none out knows) (uploaded-bound publication sent m s none) run
reply-run publication judge now sent (reply.Ranged m) s none out knows run = run
reply-run publication judge now sent (reply.Downloaded m) s none out knows run = received-run s m.received (downloaded-least publication sent m s none) (downloaded-bound publication sent m s none) run
reply-run publication judge now sent (reply.Refused number values) s none out knows run = run

abbrev OfClosings : World → History → Type 0
OfClosings w h = (n : ℕ) (s : SubscriberTables) → at_number w.subscribers n ≡ Some s → ClosingsRun s

module _ (publication : Publication) (says : Saying) where
  on : (w : World) (s t : SubscriberTables) → t.site.0 ≡ s.site.0 → ClosingsRun t → ((n : ℕ) (x : SubscriberTables) → at_number w.subscribers n ≡ Some x → ClosingsRun x) → (n : ℕ) (x : SubscriberTables) → at_number (put_number w.subscribers t.site.0 t) n ≡ Some x → ClosingsRun x
  on w s t same new all = put-each (λ (n : ℕ) (x : SubscriberTables). ClosingsRun x) w.subscribers s t same new all

  closings-keep : StepsKeep publication says (Ground publication) OfClosings
  closings-keep = record {
    moment = λ w h now g p. p;
    own_change = λ w h change d g p fine is. p;
    own_closing = λ w h g p. p;
    forgetting = λ w h g p. p;
    same = λ w h s g p at. on w s s refl (p s.site.0 s at) p;
    subscriber_change = λ w h s change d g p at named fine is. (
        let key : Key = key_of (subscriber_next_dot s) change in
        let found : Option Version = version_after publication (subscriber_next_dot s) d.0 change (subscriber_version_at s key) in
        let u : SubscriberTables = record (subscriber_at_moment w.moment s) { changes = s.changes + 1; held = d.1 } in
        on w s (with_version_if key found u) (version-site key found u) (change-run key found w.moment d.1 s (p s.site.0 s at)) p);
    subscriber_closing = λ w h s g p at. on w s (subscriber_closed (subscriber_at_moment w.moment s)) refl (closed-run w.moment s (p s.site.0 s at)) p;
    anew = λ w h s g p at. on w s (result_of_reinit (by_made h s.site) (subscriber_at_moment w.moment s)).0 refl refl p;
    sends_join = λ w h s g p at joining. on w s (with_message ask.Join s) refl (p s.site.0 s at) p;
    sends_upload = λ w h s g p at fine. on w s (upload_sent (by_made h s.site) (subscriber_closed (subscriber_at_moment w.moment s))).0 refl (closed-run w.moment s (p s.site.0 s at)) p;
    sends_ranges = λ w h s g p at fine. on w s (with_message ask.Ranges s) refl (p s.site.0 s at) p;
    sends_ask = λ w h s g p at fine. on w s (with_message (ask.Download s.watermark) s) refl (p s.site.0 s at) p;
    joins = λ w h number m g p at fine acts. p;
    joins_again = λ w h number m g p at acts. p;
    uploads = λ w h number m g p at fine news. p;
    uploads_again = λ w h number m g p at none. p;
    answers_ranges = λ w h site m g p. p;
    answers_ask = λ w h number site m g p at fine. p;
    replies = λ w h s number m sent g p at there out none. on w s (tables_after_reply (by_made h s.site) w.moment m s) (reply-site (by_made h s.site) w.moment m s)
        (reply-run publication (by_made h s.site) w.moment sent m s none out (g.numbered.subscribers s.site.0 s at).sent (p s.site.0 s at)) p;
  }

  pub closings-run : (tallies : List ℕ) (slips : Slips) (events : List Event) → (resolvers : ℕ) × IsValid resolvers publication → OfClosings (model_behind publication says tallies slips events).world (model_behind publication says tallies slips events).history
  closings-run tallies slips events valid = (grounded-always publication says tallies slips events valid OfClosings
      (λ m action g p. step-keeps publication says (Ground publication) OfClosings (λ w h ground. ground.received) closings-keep m action g p)
      (λ w h others p. p) (λ n s at. begins-with publication (λ (k : ℕ) (t : SubscriberTables). ClosingsRun t) (λ k site keyed. refl) n s at)).1
