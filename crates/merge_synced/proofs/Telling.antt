-- Bytes are read as one request, and tell one reply.
use Rattle.std.specs.Prelude.{Err, List, None, Ok, Option, Result, Some, [], option_map, refl, unwrap_or, ℕ, ◌++◌, ◌≡◌}
use Rattle.std.proofs.Common.{ap, append-nil, inl, inr, subst, sym}
use Rattle.merge_types.specs.declared.identifiers.Moment.{Moment}
use Rattle.merge_schema.specs.declared.publication.Publication.{Publication}
use Rattle.merge_batch.specs.Heads.{answered_kind}
use Rattle.merge_batch.specs.Refusals.{number_of, told_fields}
use Rattle.merge_batch.specs.declared.refusal.Refusal.{Refusal}
use Rattle.merge_batch.specs.declared.reply.Reply.{Reply}
use Rattle.merge_batch.specs.declared.reply.Reply.TheVariants as reply
use Rattle.merge_batch.specs.declared.request.Kind.{Kind}
use Rattle.merge_batch.specs.declared.request.Kind.TheVariants as kind
use Rattle.merge_batch.specs.declared.request.Outstanding.{Outstanding}
use Rattle.merge_batch.specs.declared.request.Request.{Request}
use Rattle.merge_json.specs.Messages.{IsAnswered, IsSent}
use Rattle.merge_json.proofs.AnswerForms.{answered_or_bad, one_reply}
use Rattle.merge_json.proofs.SentForms.{one_request}
use Rattle.merge_wire.specs.declared.message.Message.{Message}
use Rattle.merge_wire.proofs.NoFault.{response_at_no_fault}
use Rattle.merge_wire.proofs.OneMessage.{one_request as one_message, one_response}
use Rattle.merge_model.specs.Judge.ByNumbers.{by_rows}
use Rattle.merge_model.specs.Subscriber.Taking.{met_by, seq_of, tables_after_reply, take_reply}
use Rattle.merge_model.specs.Tables.Refusals.{unless}
use Rattle.merge_model.specs.Tables.{SubscriberTables}
use Rattle.merge_model.specs.World.Faults.{reply_fault}
use Rattle.merge_model.specs.declared.outcome.Taken.{Taken}
use Rattle.merge_model.specs.declared.outcome.Taken.TheVariants.{Acted, Missed}
use Rattle.merge_agent.specs.Answers.{Tells, TellsBody, TellsBy, form_of}
use Rattle.merge_agent.specs.Faults.{fault_of, refused_as, with_fault}
use Rattle.merge_agent.specs.Turns.{reply_taken, taken_as}
use Rattle.merge_agent.specs.declared.answer.Told.{Told}
use Rattle.merge_agent.specs.declared.answer.Told.TheVariants.{Declined, Replied, Spoiled}
use Rattle.merge_agent.specs.declared.fault.SessionFault.{SessionFault}
use Rattle.merge_desk.specs.Replay.{reply_of_refusal as told_as}
use Rattle.merge_serve.specs.Answers.{reply_status}
use Rattle.merge_synced.specs.Answering.{AreRead, AreTold}
use Rattle.merge_synced.proofs.Made.{met-numbered}

pub one-read : (bytes : List ℕ) (r q : Request) → AreRead bytes r → AreRead bytes q → r ≡ q
one-read bytes r q a b =
    let whole : bytes ≡ bytes ++ [] = sym (append-nil bytes) in
    let same : a.0 ≡ b.0 = one_message bytes bytes bytes [] [] a.0 b.0 whole whole a.1 b.1 in
    one_request b.0.path b.0.body r q (subst (λ (m : Message). IsSent m.path m.body r) same a.2) b.2

-- what is asked for by a kind, or a refusal
abbrev pub Fits : Kind → Reply → Type 0
Fits asked (reply.Refused number values) = Unit {0}
Fits asked r = asked ≡ answered_kind r

body-tells : (asked : Kind) (body : List ℕ) (r : Reply) (told : Told) → IsAnswered asked body r → TellsBody asked body told → told ≡ Replied r
body-tells asked body r (Replied other) is tells = (let same : other ≡ r = one_reply asked body other r tells is in ap (λ (x : Reply). (let t : Told = Replied x in t)) same)
body-tells asked body r (Spoiled place) is tells = absurd (answered_or_bad asked body r place is tells)
body-tells asked body r (Declined number) is tells = absurd tells

status-tells : (asked : Kind) (body : List ℕ) (r : Reply) (told : Told) → Fits asked r → IsAnswered (answered_kind r) body r → TellsBy (form_of asked (reply_status r)) body told → told ≡ Replied r
status-tells asked body (reply.Joined m) told fits is tells = body-tells kind.Join body (reply.Joined m) told is (subst (λ (k : Kind). TellsBody k body told) fits tells)
status-tells asked body (reply.Uploaded m) told fits is tells = body-tells kind.Upload body (reply.Uploaded m) told is (subst (λ (k : Kind). TellsBody k body told) fits tells)
status-tells asked body (reply.Ranged m) told fits is tells = body-tells kind.Ranges body (reply.Ranged m) told is (subst (λ (k : Kind). TellsBody k body told) fits tells)
status-tells asked body (reply.Downloaded m) told fits is tells = body-tells kind.Download body (reply.Downloaded m) told is (subst (λ (k : Kind). TellsBody k body told) fits tells)
status-tells asked body (reply.Refused number values) told fits is tells = body-tells kind.Refused body (reply.Refused number values) told is tells

pub one-told : (asked : Kind) (bytes : List ℕ) (r : Reply) (told : Told) → Fits asked r → AreTold bytes r → Tells asked bytes told → told ≡ Replied r
unfolding Tells
one-told asked bytes r told fits is (inl tells) =
    let same : tells.0 ≡ is.0 = one_response bytes tells.0 is.0 tells.1 is.1 in
    let there : TellsBy (form_of asked is.0.status) is.0.body told = subst (λ (m : Message). TellsBy (form_of asked m.status) m.body told) same tells.2 in
    status-tells asked is.0.body r told fits is.3 (subst (λ (status : ℕ). TellsBy (form_of asked status) is.0.body told) is.2 there)
one-told asked bytes r told fits is (inr tells) = absurd (tells.1 (response_at_no_fault bytes is.0 tells.0 is.1 tells.2))

-- A refusal is told as a refused reply.
refused-by : (number : ℕ) (fields : Option (List ℕ)) → unwrap_or (option_map (λ (x : List ℕ). (let r : Reply = reply.Refused number x in r)) fields) (reply.Refused number []) ≡ reply.Refused number (unwrap_or fields [])
refused-by number None = refl
refused-by number (Some fields) = refl

pub refused-as : (why : Refusal) → told_as why ≡ reply.Refused (number_of why) (unwrap_or (told_fields why) [])
refused-as why = refused-by (number_of why) (told_fields why)

pub refused-fits : (asked : Kind) (why : Refusal) → Fits asked (told_as why)
refused-fits asked why = subst (λ (r : Reply). Fits asked r) (sym (refused-as why)) tt

-- What a session takes acts, and is no refusal.

taken-acts : (m other : Reply) (new : SubscriberTables) (done : Result (SubscriberTables × Taken) Refusal) → taken_as m done ≡ Ok (new, other) → (done ≡ Ok (new, Acted)) × (m ≡ other)
taken-acts m other new (Ok (s, Acted)) e =
    let pair : (let both : SubscriberTables × Reply = (s, m) in both) ≡ (new, other) = cc in (
      ap (λ (both : SubscriberTables × Reply). (let done : Result (SubscriberTables × Taken) Refusal = Ok (both.0, Acted) in done)) pair,
      ap (λ (both : SubscriberTables × Reply). both.1) pair,
    )
taken-acts m other new (Ok (s, Missed seq outstanding)) e = absurd cc
taken-acts m other new (Err why) e = absurd cc

pub replied-acts : (publication : Publication) (now : Moment) (r other : Reply) (s new : SubscriberTables) → reply_taken publication now r s ≡ Ok (new, other) → (take_reply publication (by_rows s) now r s ≡ Ok (new, Acted)) × (r ≡ other)
replied-acts publication now (reply.Refused number values) other s new e = absurd (never (refused_as number values) e)
  where
    never : (why : SessionFault) → (let done : Result (SubscriberTables × Reply) SessionFault = Err why in done) ≡ Ok (new, other) → ⊥
    never why is = absurd cc
replied-acts publication now (reply.Joined m) other s new e = taken-acts (reply.Joined m) other new (take_reply publication (by_rows s) now (reply.Joined m) s) e
replied-acts publication now (reply.Uploaded m) other s new e = taken-acts (reply.Uploaded m) other new (take_reply publication (by_rows s) now (reply.Uploaded m) s) e
replied-acts publication now (reply.Ranged m) other s new e = taken-acts (reply.Ranged m) other new (take_reply publication (by_rows s) now (reply.Ranged m) s) e
replied-acts publication now (reply.Downloaded m) other s new e = taken-acts (reply.Downloaded m) other new (take_reply publication (by_rows s) now (reply.Downloaded m) s) e

pub refused-stops : (publication : Publication) (now : Moment) (why : Refusal) (other : Reply) (s new : SubscriberTables) → reply_taken publication now (told_as why) s ≡ Ok (new, other) → ⊥
refused-stops publication now why other s new e = never (refused_as (number_of why) (unwrap_or (told_fields why) [])) (subst (λ (r : Reply). reply_taken publication now r s ≡ Ok (new, other)) (refused-as why) e)
  where
    never : (fault : SessionFault) → (let done : Result (SubscriberTables × Reply) SessionFault = Err fault in done) ≡ Ok (new, other) → ⊥
    never fault is = absurd cc

-- What the site refuses, as the session tells it.

pub record Refusing {A : Type 0} (done : Result A Refusal) (why : SessionFault) : Type 0 where
  pub refusal : Refusal
  pub is : done ≡ Err refusal
  pub fault : fault_of refusal ≡ why

pub refusing : {A : Type 0} (done : Result A Refusal) (why : SessionFault) → with_fault done ≡ Err why → Refusing done why
refusing (Ok made) why e = absurd cc
refusing (Err refusal) why e = record { refusal = refusal; is = refl; fault = cc }

-- A reply that has the number of the outstanding message is taken or refused.

acted-or : (m : Reply) (why : SessionFault) (fault : Option Refusal) (a : SubscriberTables) → taken_as m (unless fault (a, Acted)) ≡ Err why → Refusing {A = SubscriberTables × Taken} (unless fault (a, Acted)) why
acted-or m why None a e = absurd cc
acted-or m why (Some refusal) a e = record { refusal = refusal; is = refl; fault = cc }

met-or : (publication : Publication) (now : Moment) (m : Reply) (s : SubscriberTables) (why : SessionFault) (number : ℕ) (message : Outstanding) → s.outstanding ≡ Some (number, message) → number ≡ seq_of m
    → taken_as m (met_by publication (by_rows s) now m s s.outstanding) ≡ Err why → Refusing (met_by publication (by_rows s) now m s s.outstanding) why
met-or publication now m s why number message out same e =
    let is = met-numbered publication (by_rows s) now m s number message out same in
    subst (λ (done : Result (SubscriberTables × Taken) Refusal). Refusing done why) (sym is)
    (acted-or m why (reply_fault publication message m s) (tables_after_reply (by_rows s) now m s) (subst (λ (done : Result (SubscriberTables × Taken) Refusal). taken_as m done ≡ Err why) is e))

pub reply-refused : (publication : Publication) (now : Moment) (asked : Kind) (m : Reply) (s : SubscriberTables) (why : SessionFault) (number : ℕ) (message : Outstanding) → s.outstanding ≡ Some (number, message) → number ≡ seq_of m → asked ≡ answered_kind m → (asked ≡ kind.Refused → ⊥)
    → reply_taken publication now m s ≡ Err why → Refusing (take_reply publication (by_rows s) now m s) why
reply-refused publication now asked (reply.Joined m) s why number message out same is some e = met-or publication now (reply.Joined m) s why number message out same e
reply-refused publication now asked (reply.Uploaded m) s why number message out same is some e = met-or publication now (reply.Uploaded m) s why number message out same e
reply-refused publication now asked (reply.Ranged m) s why number message out same is some e = met-or publication now (reply.Ranged m) s why number message out same e
reply-refused publication now asked (reply.Downloaded m) s why number message out same is some e = met-or publication now (reply.Downloaded m) s why number message out same e
reply-refused publication now asked (reply.Refused n values) s why number message out same is some e = absurd (some is)
