-- Numbers of messages never fall as a reply is taken.
use Rattle.std.proofs.Common.{◌≡◌, ◌≤◌, subst}
use Rattle.std.specs.Prelude.{IfOk, Result, Ok, Err}
use Rattle.merge_types.specs.declared.identifiers.Moment.{Moment}
use Rattle.merge_schema.specs.declared.publication.Publication.{Publication}
use Rattle.merge_batch.specs.declared.refusal.Refusal.{Refusal}
use Rattle.merge_batch.specs.declared.reply.Reply.{Reply}
use Rattle.merge_batch.specs.declared.reply.Reply.TheVariants as reply
use Rattle.merge_model.specs.Judge.ByNumbers.{by_rows}
use Rattle.merge_model.specs.Laws.{SubscriberRises}
use Rattle.merge_model.specs.Tables.{SubscriberTables}
use Rattle.merge_model.specs.Subscriber.Taking.{take_reply}
use Rattle.merge_model.specs.declared.outcome.Taken.{Taken}
use Rattle.merge_model.specs.declared.outcome.Taken.TheVariants.{Acted, Missed}
use Rattle.merge_model.proofs.Subscribers.{subscriber_numbers_rise}
use Rattle.merge_agent.specs.Turns.{reply_taken, taken_as, taken_by}
use Rattle.merge_agent.specs.declared.answer.Told.{Told}
use Rattle.merge_agent.specs.declared.answer.Told.TheVariants.{Replied, Spoiled, Declined}
use Rattle.merge_agent.specs.declared.fault.SessionFault.{SessionFault}

rises-as : (m : Reply) (s : SubscriberTables) (r : Result (SubscriberTables × Taken) Refusal) → IfOk r (λ done. SubscriberRises s done.0) → IfOk (taken_as m r) (λ done. s.seq ≤ done.0.seq)
rises-as m s (Ok (t, Acted)) h = h.seq_rises
rises-as m s (Ok (t, Missed seq outstanding)) h = tt
rises-as m s (Err why) h = tt

reply-rises : (p : Publication) (now : Moment) (m : Reply) (s : SubscriberTables) → IfOk (reply_taken p now m s) (λ done. s.seq ≤ done.0.seq)
reply-rises p now (reply.Joined m) s = rises-as (reply.Joined m) s (take_reply p (by_rows s) now (reply.Joined m) s) (subscriber_numbers_rise.by_reply p (by_rows s) now (reply.Joined m) s)
reply-rises p now (reply.Uploaded m) s = rises-as (reply.Uploaded m) s (take_reply p (by_rows s) now (reply.Uploaded m) s) (subscriber_numbers_rise.by_reply p (by_rows s) now (reply.Uploaded m) s)
reply-rises p now (reply.Ranged m) s = rises-as (reply.Ranged m) s (take_reply p (by_rows s) now (reply.Ranged m) s) (subscriber_numbers_rise.by_reply p (by_rows s) now (reply.Ranged m) s)
reply-rises p now (reply.Downloaded m) s = rises-as (reply.Downloaded m) s (take_reply p (by_rows s) now (reply.Downloaded m) s) (subscriber_numbers_rise.by_reply p (by_rows s) now (reply.Downloaded m) s)
reply-rises p now (reply.Refused number values) s = tt

told-rises : (p : Publication) (now : Moment) (told : Told) (s : SubscriberTables) → IfOk (taken_by p now told s) (λ done. s.seq ≤ done.0.seq)
told-rises p now (Replied m) s = reply-rises p now m s
told-rises p now (Spoiled place) s = tt
told-rises p now (Declined number) s = tt

pub taken-rises : (p : Publication) (now : Moment) (told : Told) (s t : SubscriberTables) (m : Reply) → taken_by p now told s ≡ Ok (t, m) → s.seq ≤ t.seq
taken-rises p now told s t m e = subst (λ (r : Result (SubscriberTables × Reply) SessionFault). IfOk r (λ done. s.seq ≤ done.0.seq)) e (told-rises p now told s)
