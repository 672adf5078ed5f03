-- A subscriber's calls ask of its changes only from the received generation on, so that they are alike by its rows and by its changes.
use Rattle.std.specs.Prelude.{◌≡◌, ◌==◌, ℕ, List, Bool, true, false, Option, Some, None, Result, Ok, refl, if◌then◌else◌}
use Rattle.std.proofs.Common.{arith, ap}
use Rattle.merge_types.specs.declared.identifiers.Moment.{Moment}
use Rattle.merge_schema.specs.declared.publication.Publication.{Publication}
use Rattle.merge_batch.specs.declared.refusal.Refusal.{Refusal}
use Rattle.merge_batch.specs.declared.reply.Reply.{Reply}
use Rattle.merge_batch.specs.declared.reply.Reply.TheVariants as reply
use Rattle.merge_batch.specs.declared.request.Outstanding.{Outstanding}
use Rattle.merge_batch.specs.declared.request.Request.TheVariants as request
use Rattle.merge_batch.specs.declared.request.Upload.{Upload}
use Rattle.merge_model.specs.Laws.Bridge.{SubscriberDecidesAlike}
use Rattle.merge_model.specs.Judge.ByHistory.{by_history, by_made}
use Rattle.merge_model.specs.Judge.ByNumbers.{by_rows, changed_between_by_rows, is_unsent_by_rows}
use Rattle.merge_model.specs.World.Faults.{reply_fault}
use Rattle.merge_model.specs.Judge.{SubscriberJudge}
use Rattle.merge_model.specs.History.Model.{Model}
use Rattle.merge_model.specs.Tables.Refusals.{counter_end, unless}
use Rattle.merge_model.specs.Subscriber.Reinit.{result_of_reinit}
use Rattle.merge_model.specs.Subscriber.Sending.{sending_refusal, upload_made}
use Rattle.merge_model.specs.World.Steps.{SendDownload, SendJoin, SendRanges, SendUpload, Sending, deliver_reply, make_anew, post_if_made, send_from, unless_refused}
use Rattle.merge_model.specs.declared.outcome.Outcome.TheVariants.{Discards, Took}
use Rattle.merge_model.specs.Subscriber.{subscriber_at_moment, subscriber_counters}
use Rattle.merge_types.specs.declared.row_key.RowKey.{RowKey as Key}
use Rattle.merge_model.specs.Tables.{SubscriberTables}
use Rattle.merge_model.specs.Subscriber.Taking.{met_by, seq_of, tables_after_reply, take_reply}
use Rattle.merge_model.specs.declared.outcome.Taken.TheVariants.{Acted, Missed}
use Rattle.merge_model.specs.declared.outcome.Taken.{Taken}
use Rattle.merge_model.specs.World.{World, by_tables, with_subscriber}
use Rattle.merge_laws.proofs.Received.Replying.{downloaded-least}

abbrev deciding : (ℕ → ℕ → List (Key × ℕ)) → (ℕ → Key → Bool) → SubscriberJudge
deciding changed unsent = record { changed_between = changed; is_unsent = unsent }

fault-same : (fault : Option Refusal) (a b : SubscriberTables) → (fault ≡ None → a ≡ b) → (let done : Result (SubscriberTables × Taken) Refusal = unless fault (a, Acted) in done) ≡ unless fault (b, Acted)
fault-same (Some why) a b same = refl
fault-same None a b same = ap (λ (t : SubscriberTables). (let done : Result (SubscriberTables × Taken) Refusal = Ok (t, Acted) in done)) (same refl)

if-same : {A : Type 0} (b : Bool) (x y z : A) → x ≡ y → (if b then x else z) ≡ (if b then y else z)
if-same true x y z same = same
if-same false x y z same = refl

module _ (m : Model) (s : SubscriberTables) (alike : SubscriberDecidesAlike m s) where
  abbrev by_both : (ℕ → List (Key × ℕ)) → SubscriberJudge
  by_both changed = deciding (λ (from to : ℕ). changed to) (is_unsent_by_rows s)

  abbrev by_unsent : (Key → Bool) → SubscriberJudge
  by_unsent unsent = deciding (changed_between_by_rows s) (λ (received : ℕ) (key : Key). unsent key)

  upload-same : (now : Moment) → upload_made (by_rows s) now s ≡ upload_made (by_made m.history s.site) now s
  upload-same now = ap (λ (changed : ℕ → List (Key × ℕ)). upload_made (by_both changed) now s) (λ i to. alike.changed_between s.received to (omega arith) i)

  anew-same : (now : Moment) → result_of_reinit (by_rows s) (subscriber_at_moment now s) ≡ result_of_reinit (by_made m.history s.site) (subscriber_at_moment now s)
  anew-same now = ap (λ (unsent : Key → Bool). result_of_reinit (by_unsent unsent) (subscriber_at_moment now s)) (λ i key. alike.is_unsent s.received key (omega arith) i)

  taken-same : (publication : Publication) (now : Moment) (sent : Outstanding) (r : Reply) → reply_fault publication sent r s ≡ None → tables_after_reply (by_rows s) now r s ≡ tables_after_reply (by_made m.history s.site) now r s
  taken-same publication now sent (reply.Joined r) none = refl
  taken-same publication now sent (reply.Uploaded r) none = refl
  taken-same publication now sent (reply.Ranged r) none = refl
  taken-same publication now sent (reply.Downloaded r) none = ap (λ (unsent : Key → Bool). tables_after_reply (by_unsent unsent) now (reply.Downloaded r) s) (λ i key. alike.is_unsent r.received key (downloaded-least publication sent r s none) i)
  taken-same publication now sent (reply.Refused number values) none = refl

  met-same : (publication : Publication) (now : Moment) (r : Reply) (found : Option (ℕ × Outstanding)) → met_by publication (by_rows s) now r s found ≡ met_by publication (by_made m.history s.site) now r s found
  met-same publication now r None = refl
  met-same publication now r (Some sent) = if-same (sent.0 == seq_of r) (unless (reply_fault publication sent.1 r s) (tables_after_reply (by_rows s) now r s, Acted)) (unless (reply_fault publication sent.1 r s) (tables_after_reply (by_made m.history s.site) now r s, Acted))
      (Ok (s, Missed (seq_of r) sent.0)) (fault-same (reply_fault publication sent.1 r s) (tables_after_reply (by_rows s) now r s) (tables_after_reply (by_made m.history s.site) now r s) (λ none. taken-same publication now sent.1 r none))

  take-same : (publication : Publication) (now : Moment) (r : Reply) → take_reply publication (by_rows s) now r s ≡ take_reply publication (by_made m.history s.site) now r s
  take-same publication now (reply.Joined r) = met-same publication now (reply.Joined r) s.outstanding
  take-same publication now (reply.Uploaded r) = met-same publication now (reply.Uploaded r) s.outstanding
  take-same publication now (reply.Ranged r) = met-same publication now (reply.Ranged r) s.outstanding
  take-same publication now (reply.Downloaded r) = met-same publication now (reply.Downloaded r) s.outstanding
  take-same publication now (reply.Refused number values) = refl

  -- as steps of the world
  pub send-alike : (w : World) (sending : Sending) → send_from (by_tables w) sending w s ≡ send_from (by_history m.history) sending w s
  send-alike w SendJoin = refl
  send-alike w SendUpload = ap (λ (made : Option (SubscriberTables × Upload)). unless_refused w (unless (sending_refusal s) made) (post_if_made s.site (λ (u : Upload). request.Upload u) w)) (upload-same w.moment)
  send-alike w SendRanges = refl
  send-alike w SendDownload = refl

  pub reply-alike : (publication : Publication) (w : World) (r : Reply) → deliver_reply publication (by_tables w) r w s ≡ deliver_reply publication (by_history m.history) r w s
  reply-alike publication w r = ap (λ (done : Result (SubscriberTables × Taken) Refusal). unless_refused w done (λ (d : SubscriberTables × Taken). (with_subscriber d.0 w, Took d.1))) (take-same publication w.moment r)

  pub anew-alike : (w : World) → make_anew (by_tables w) w s ≡ make_anew (by_history m.history) w s
  anew-alike w = ap (λ (done : SubscriberTables × ℕ). unless_refused w (unless (counter_end (subscriber_counters s)) done) (λ (d : SubscriberTables × ℕ). (with_subscriber d.0 w, Discards d.1))) (anew-same w.moment)
