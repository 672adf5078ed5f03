-- A turn of a session of the agent that met the model's publisher, by what each of both made.
use Rattle.std.specs.Prelude.{Err, List, Ok, Result, Some, refl, ℕ, ◌≡◌}
use Rattle.std.proofs.Common.{subst, sym}
use Rattle.merge_types.specs.declared.identifiers.Moment.{Moment}
use Rattle.merge_resolve.specs.Asked.{tallies_after}
use Rattle.merge_schema.specs.declared.publication.Publication.{Publication}
use Rattle.merge_batch.specs.Heads.{answered_kind, kind_of}
use Rattle.merge_batch.specs.declared.refusal.Refusal.{Refusal}
use Rattle.merge_batch.specs.declared.reply.Reply.{Reply}
use Rattle.merge_batch.specs.declared.reply.Reply.TheVariants as reply
use Rattle.merge_batch.specs.declared.request.Kind.{Kind}
use Rattle.merge_batch.specs.declared.request.Kind.TheVariants as kind
use Rattle.merge_batch.specs.declared.request.Request.{Request}
use Rattle.merge_batch.specs.declared.request.Request.TheVariants as request
use Rattle.merge_json.specs.Limits.{IsShortRequest}
use Rattle.merge_model.specs.Judge.ByNumbers.{by_rows}
use Rattle.merge_model.specs.Subscriber.Taking.{take_reply}
use Rattle.merge_model.specs.Tables.{PublisherTables, SubscriberTables}
use Rattle.merge_model.specs.World.Calls.{questions_on, result_of_request}
use Rattle.merge_model.specs.World.Steps.{Sending}
use Rattle.merge_model.specs.World.{Saying}
use Rattle.merge_model.specs.declared.outcome.Taken.TheVariants.{Acted}
use Rattle.merge_world.specs.Messages.{request_of_sending}
use Rattle.merge_wire.specs.Written.{IsVisible}
use Rattle.merge_agent.specs.Texts.{IsReadable, request_text}
use Rattle.merge_agent.specs.Turns.{Takes, Turn, taken_by}
use Rattle.merge_agent.specs.declared.answer.Told.{Told}
use Rattle.merge_agent.specs.declared.answer.Told.TheVariants.{Replied}
use Rattle.merge_desk.specs.Replay.{reply_of_refusal as told_as, tables_and_reply}
use Rattle.merge_synced.specs.Answering.{AreRead, AreTold, Serving, behind, counted_by, made_of, reply_by}
use Rattle.merge_synced.proofs.Made.{answers-kind}
use Rattle.merge_synced.proofs.Telling.{Fits, one-read, one-told, refused-fits, refused-stops, replied-acts}
use Rattle.merge_synced.proofs.Written.{requests-are-read}

-- The site made a request, the publisher answered it, and the reply acted.
pub record Turned (publication : Publication) (says : Saying) (now : Moment) (sending : Sending) (s new : SubscriberTables) (r : Reply) (p q : Serving) : Type 0 where
  pub sent : SubscriberTables
  pub request : Request
  pub after : PublisherTables
  pub made : request_of_sending sending now s ≡ Ok (Some (sent, request))
  pub answer : result_of_request publication says p.tallies now request p.publisher ≡ Ok (after, r)
  pub taken : take_reply publication (by_rows sent) now r sent ≡ Ok (new, Acted)
  pub tables : q.publisher ≡ after
  pub tallies : q.tallies ≡ tallies_after p.tallies (questions_on publication now request p.publisher)

pub kind-fits : (asked : Kind) (r : Reply) → asked ≡ answered_kind r → Fits asked r
kind-fits asked (reply.Joined m) is = is
kind-fits asked (reply.Uploaded m) is = is
kind-fits asked (reply.Ranged m) is = is
kind-fits asked (reply.Downloaded m) is = is
kind-fits asked (reply.Refused number values) is = tt

-- no message asks for a refusal
pub asks-reply : (q : Request) → kind_of q ≡ kind.Refused → ⊥
asks-reply (request.Join m) e = absurd cc
asks-reply (request.Upload m) e = absurd cc
asks-reply (request.Ranges m) e = absurd cc
asks-reply (request.Download m) e = absurd cc

module _ (publication : Publication) (says : Saying) (now : Moment) (address : List ℕ) (visible : IsVisible address) where
  -- what the request is that was read
  pub same-read : (bytes : List ℕ) (q r : Request) → bytes ≡ request_text address q → IsReadable q → IsShortRequest q → AreRead bytes r → r ≡ q
  same-read bytes q r text readable short read = one-read (request_text address q) r q (subst (λ (x : List ℕ). AreRead x r) text read) (requests-are-read address q visible readable.sent_as (readable.fits short))

  turned-by : (sending : Sending) (turn : Turn) (s sent new : SubscriberTables) (request : Request) (told : Told) (other : Reply) (p : Serving) (done : Result (PublisherTables × Reply) Refusal)
      → request_of_sending sending now s ≡ Ok (Some (sent, request)) → result_of_request publication says p.tallies now request p.publisher ≡ done → AreTold turn.carried.response (tables_and_reply p.publisher done).1
      → ((r : Reply) → Fits (kind_of request) r → AreTold turn.carried.response r → told ≡ Replied r)
      → taken_by publication now told sent ≡ Ok (new, other)
      → Turned publication says now sending s new other p (record { publisher = (tables_and_reply p.publisher done).0; tallies = counted_by done (questions_on publication now request p.publisher) p.tallies })
  turned-by sending turn s sent new request told other p (Err why) made handling tells is taken =
      let said = is (told_as why) (refused-fits (kind_of request) why) tells in
      absurd (refused-stops publication now why other sent new (subst (λ (t : Told). taken_by publication now t sent ≡ Ok (new, other)) said taken))
  turned-by sending turn s sent new request told other p (Ok (after, r)) made handling tells is taken =
      let said = is r (kind-fits (kind_of request) r (answers-kind publication says p.tallies now p.publisher after r request handling)) tells in
      let acts = replied-acts publication now r other sent new (subst (λ (t : Told). taken_by publication now t sent ≡ Ok (new, other)) said taken) in
      subst (λ (x : Reply). Turned publication says now sending s new x p (record { publisher = after; tallies = tallies_after p.tallies (questions_on publication now request p.publisher) })) acts.1
      (record { sent = sent; request = request; after = after; made = made; answer = handling; taken = acts.0; tables = refl; tallies = refl })

  pub turned : (sending : Sending) (made : Moment) (turn : Turn) (s new : SubscriberTables) (m : Reply) (p : Serving) (r : Request) → made ≡ now → turn.now ≡ now → Takes publication address sending made turn s new m
      → ((sent : SubscriberTables) (q : Request) → request_of_sending sending now s ≡ Ok (Some (sent, q)) → IsShortRequest q)
      → AreRead turn.carried.request r → AreTold turn.carried.response (reply_by publication says now r p)
      → Turned publication says now sending s new m p (behind publication says now r p)
  turned sending made turn s new m p r at then takes short read tells =
      let q : Request = takes.meets.request in
      let asked : request_of_sending sending now s ≡ Ok (Some (takes.sent, q)) = subst (λ (x : Moment). request_of_sending sending x s ≡ Ok (Some (takes.sent, q))) at takes.meets.is_made in
      let same : r ≡ q = same-read turn.carried.request q r takes.meets.text takes.meets.readable (short takes.sent q asked) read in
      subst (λ (x : Request). Turned publication says now sending s new m p (behind publication says now x p)) (sym same)
      (turned-by sending turn s takes.sent new q takes.told m p (made_of publication says now q p) asked refl
      (subst (λ (x : Request). AreTold turn.carried.response (reply_by publication says now x p)) same tells)
      (λ x fits is. one-told (kind_of q) turn.carried.response x takes.told fits is takes.meets.tells)
      (subst (λ (x : Moment). taken_by publication x takes.told takes.sent ≡ Ok (new, m)) then takes.taken))
