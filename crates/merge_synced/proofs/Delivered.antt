-- A request that lies in the pool comes to the publisher, whatever becomes of its reply.
use Rattle.std.specs.Prelude.{Err, Ok, Result, Some, length, refl, ◌+◌, ◌≡◌}
use Rattle.std.proofs.Common.{subst, sym}
use Rattle.merge_types.specs.declared.identifiers.SiteId.{SiteId}
use Rattle.merge_resolve.specs.Asked.{tallies_after}
use Rattle.merge_schema.specs.declared.publication.Publication.{Publication}
use Rattle.merge_batch.specs.declared.refusal.Refusal.{Refusal}
use Rattle.merge_batch.specs.declared.reply.Reply.{Reply}
use Rattle.merge_batch.specs.declared.request.Request.{Request}
use Rattle.merge_model.specs.Tables.{PublisherTables, SubscriberTables}
use Rattle.merge_model.specs.World.Calls.{questions_on, result_of_request}
use Rattle.merge_model.specs.World.Events.{machine}
use Rattle.merge_model.specs.World.Steps.{Deliver, Sending}
use Rattle.merge_model.specs.World.{Saying, World, subscriber_at}
use Rattle.merge_model.specs.declared.letter.Message.TheVariants.{Asks}
use Rattle.merge_model.specs.declared.outcome.Outcome.{Outcome}
use Rattle.merge_model.specs.declared.outcome.Outcome.TheVariants.{Posted, Refuses}
use Rattle.merge_world.specs.Messages.{request_of_sending}
use Rattle.merge_desk.specs.Replay.{tables_and_reply}
use Rattle.merge_synced.specs.Answering.{behind, counted_by, serving_in}
use Rattle.merge_synced.specs.Cut.{Stands}
use Rattle.merge_synced.proofs.Steps.{answer-is, comes, refusal-is, replied_world, request-there, sent-has, sent_world}

module _ (publication : Publication) (says : Saying) (site : SiteId) (sending : Sending) (w : World) (s sent : SubscriberTables) (q : Request) (here : subscriber_at w site ≡ Some s) (own : s.site ≡ site)
    (made : request_of_sending sending w.moment s ≡ Ok (Some (sent, q))) (keyed : sent.site ≡ site) where
  abbrev delivered : World × Outcome
  delivered = (machine publication says).act (sent_world site sent q w) (Deliver (length w.pool + 1))

  -- by what the publisher makes of it
  taken-by : (done : Result (PublisherTables × Reply) Refusal) → result_of_request publication says w.tallies w.moment q w.publisher ≡ done
      → Stands site sent (record { publisher = (tables_and_reply w.publisher done).0; tallies = counted_by done (questions_on publication w.moment q w.publisher) w.tallies }) delivered.0
  taken-by (Ok (p, r)) answer =
      subst (λ (x : World × Outcome). Stands site sent (record { publisher = p; tallies = tallies_after w.tallies (questions_on publication w.moment q w.publisher) }) x.0)
      (sym (comes publication says (length w.pool + 1) (sent_world site sent q w) (record { site = site; message = Asks q })
      (replied_world publication site q p r (sent_world site sent q w), Posted (length (sent_world site sent q w).pool + 1))
      (request-there publication says site sending w s sent q here own made) (answer-is publication says site q (sent_world site sent q w) p r answer)))
      (record { tables = sent-has site sent q w keyed; serving = refl })
  taken-by (Err why) answer =
      subst (λ (x : World × Outcome). Stands site sent (record { publisher = w.publisher; tallies = w.tallies }) x.0)
      (sym (comes publication says (length w.pool + 1) (sent_world site sent q w) (record { site = site; message = Asks q })
      (sent_world site sent q w, Refuses why)
      (request-there publication says site sending w s sent q here own made) (refusal-is publication says site q (sent_world site sent q w) why answer)))
      (record { tables = sent-has site sent q w keyed; serving = refl })

  pub taken-there : Stands site sent (behind publication says w.moment q (serving_in w)) delivered.0
  taken-there = taken-by (result_of_request publication says w.tallies w.moment q w.publisher) refl
