-- What the definitions refuse is never a fault of a store, of the link or of memory.
use Rattle.std.proofs.Common.{◌≡◌, ℕ, ◌+◌, max, List, [], ◌∷◌, refl, sym, subst, inl, inr}
use Rattle.std.specs.Prelude.{Bool, true, false, IfSome, IfErr, Option, None, Some, Result, Ok, Err, ◌==◌, ◌⊎◌, not, nat_le, if◌then◌else◌}
use Rattle.merge_types.specs.declared.identifiers.Moment.{Moment}
use Rattle.merge_types.specs.Limits.{counter_limit}
use Rattle.merge_schema.specs.declared.publication.Publication.{Publication}
use Rattle.merge_batch.specs.Replies.{broken_by_reply}
use Rattle.merge_batch.specs.declared.refusal.Refusal.{Refusal}
use Rattle.merge_batch.specs.declared.refusal.Refusal.TheVariants as refusal
use Rattle.merge_batch.specs.declared.reply.Reply.{Reply}
use Rattle.merge_batch.specs.declared.reply.Reply.TheVariants as reply
use Rattle.merge_batch.specs.declared.request.Download.{Download}
use Rattle.merge_batch.specs.declared.request.Outstanding.{Outstanding}
use Rattle.merge_batch.specs.declared.request.Outstanding.TheVariants as outstanding
use Rattle.merge_batch.specs.declared.request.Request.{Request}
use Rattle.merge_batch.specs.declared.request.Request.TheVariants as request
use Rattle.merge_batch.specs.declared.rules.BrokenRule.{BrokenRule}
use Rattle.merge_model.specs.Judge.ByNumbers.{by_rows}
use Rattle.merge_model.specs.World.Faults.{heard_by, reply_fault, standing_of}
use Rattle.merge_model.specs.World.Faults.{fault_of as refusal_of}
use Rattle.merge_model.specs.Judge.{SubscriberJudge}
use Rattle.merge_model.specs.Tables.Refusals.{counter_end, first_refusal, refused_if, unless}
use Rattle.merge_model.specs.Subscriber.Sending.{join_made, make_ask, make_join, make_ranges, make_upload, ranges_made, sending_refusal, upload_made, with_message}
use Rattle.merge_model.specs.World.Steps.{SendDownload, SendJoin, SendRanges, SendUpload, Sending}
use Rattle.merge_model.specs.Subscriber.{is_joining, subscriber_counters, subscriber_last_closed}
use Rattle.merge_model.specs.Tables.{SubscriberTables}
use Rattle.merge_model.specs.Subscriber.Taking.{met_by, seq_of, tables_after_reply, take_reply}
use Rattle.merge_model.specs.declared.outcome.Taken.{Taken}
use Rattle.merge_model.specs.declared.outcome.Taken.TheVariants.{Acted, Missed}
use Rattle.merge_world.specs.Messages.{as_request, request_of_sending, some_if_made}
use Rattle.merge_agent.specs.Faults.{expired_as, fault_of}
use Rattle.merge_agent.specs.Turns.{reply_taken, taken_as, taken_by}
use Rattle.merge_agent.specs.declared.answer.Told.{Told}
use Rattle.merge_agent.specs.declared.answer.Told.TheVariants.{Replied, Spoiled, Declined}
use Rattle.merge_agent.specs.declared.fault.SessionFault.{SessionFault}
use Rattle.merge_agent.specs.declared.fault.SessionFault.TheVariants as fault

-- what is no fault of a part that may fail
abbrev pub IsTold : SessionFault → Type 0
IsTold fault.LinkFault = ⊥
IsTold fault.StoreFault = ⊥
IsTold fault.NoMemory = ⊥
IsTold why = Unit {0}

-- A message is refused to a site that is joining, or at the end of a counter.

abbrev IsOwn : Refusal → Type 0
IsOwn why = (why ≡ refusal.Joining) ⊎ ((value : ℕ) × (why ≡ refusal.CounterEnd value))

own-told : (why : Refusal) → IsOwn why → IsTold (fault_of why)
own-told why (inl joining) = subst (λ (r : Refusal). IsTold (fault_of r)) (sym joining) tt
own-told why (inr (value, end)) = subst (λ (r : Refusal). IsTold (fault_of r)) (sym end) tt

if-own : (b : Bool) (why : Refusal) → IsOwn why → IfSome (refused_if b why) IsOwn
if-own true why own = own
if-own false why own = tt

first-own : (x y : Option Refusal) → IfSome x IsOwn → IfSome y IsOwn → IfSome (first_refusal (x ∷ y ∷ [])) IsOwn
first-own (Some why) y p q = p
first-own None (Some why) p q = q
first-own None None p q = tt

end-own : (s : SubscriberTables) → IfSome (counter_end (subscriber_counters s)) IsOwn
end-own s = let greatest : ℕ = max (max (max (max 0 s.changes) (subscriber_last_closed s)) s.seq) s.conflict_count in if-own (nat_le counter_limit greatest) (refusal.CounterEnd greatest) (inr (greatest, refl))

sending-own : (s : SubscriberTables) → IfSome (sending_refusal s) IsOwn
sending-own s = first-own (is_joining s) (counter_end (subscriber_counters s)) (if-own (not s.is_joined) refusal.Joining (inl refl)) (end-own s)

unless-own : {A : Type 0} (refusal : Option Refusal) (made : A) → IfSome refusal IsOwn → IfErr (unless refusal made) IsOwn
unless-own (Some why) made own = own
unless-own None made own = tt

as-own : {T A : Type 0} (message : A → Request) (by : Result (Option (T × A)) Refusal) → IfErr by IsOwn → IfErr (as_request message by) IsOwn
as-own message (Ok made) own = tt
as-own message (Err why) own = own

always-own : {T A : Type 0} (by : Result (T × A) Refusal) → IfErr by IsOwn → IfErr (some_if_made by) IsOwn
always-own (Ok made) own = tt
always-own (Err why) own = own

ask-own : (s : SubscriberTables) → IfErr (make_ask s) IsOwn
ask-own s = let m : Download = record { site = s.site; seq = s.seq + 1; from = s.watermark } in unless-own (sending_refusal s) (with_message (outstanding.Download s.watermark) s, m) (sending-own s)

requested-own : (sending : Sending) (now : Moment) (s : SubscriberTables) → IfErr (request_of_sending sending now s) IsOwn
requested-own SendJoin now s = as-own request.Join (make_join s) (unless-own (counter_end (subscriber_counters s)) (join_made s) (end-own s))
requested-own SendUpload now s = as-own request.Upload (make_upload (by_rows s) now s) (unless-own (sending_refusal s) (upload_made (by_rows s) now s) (sending-own s))
requested-own SendRanges now s = as-own request.Ranges (make_ranges s) (unless-own (sending_refusal s) (ranges_made s) (sending-own s))
requested-own SendDownload now s = as-own request.Download (some_if_made (make_ask s)) (always-own (make_ask s) (ask-own s))

pub requested-told : (sending : Sending) (now : Moment) (s : SubscriberTables) (why : Refusal) → request_of_sending sending now s ≡ Err why → IsTold (fault_of why)
requested-told sending now s why e = own-told why (subst (λ (r : Result (Option (SubscriberTables × Request)) Refusal). IfErr r IsOwn) e (requested-own sending now s))

-- A reply is refused that does not fit.

abbrev IsMisfit : Refusal → Type 0
IsMisfit why = (item : ℕ) × (rule : ℕ) × (why ≡ refusal.BadBatch item rule)

misfit-told : (why : Refusal) → IsMisfit why → IsTold (fault_of why)
misfit-told why (item, rule, misfit) = subst (λ (r : Refusal). IsTold (fault_of r)) (sym misfit) tt

rule-misfit : (broken : Option BrokenRule) → IfSome (refusal_of broken) IsMisfit
rule-misfit None = tt
rule-misfit (Some broken) = (broken.item, broken.rule, refl)

unless-misfit : {A : Type 0} (refusal : Option Refusal) (made : A) → IfSome refusal IsMisfit → IfErr (unless refusal made) IsMisfit
unless-misfit (Some why) made misfit = misfit
unless-misfit None made misfit = tt

if-misfit : {A : Type 0} (b : Bool) (x y : Result A Refusal) → IfErr x IsMisfit → IfErr y IsMisfit → IfErr (if b then x else y) IsMisfit
if-misfit true x y p q = p
if-misfit false x y p q = q

met-misfit : (p : Publication) (judge : SubscriberJudge) (now : Moment) (m : Reply) (s : SubscriberTables) (found : Option (ℕ × Outstanding)) → IfErr (met_by p judge now m s found) IsMisfit
met-misfit p judge now m s None = tt
met-misfit p judge now m s (Some sent) =
    if-misfit (sent.0 == seq_of m) (unless (reply_fault p sent.1 m s) (tables_after_reply judge now m s, Acted)) (Ok (s, Missed (seq_of m) sent.0))
    (unless-misfit (reply_fault p sent.1 m s) (tables_after_reply judge now m s, Acted) (rule-misfit (broken_by_reply p (standing_of s) (heard_by s) sent.1 m))) tt

as-told : (m : Reply) (by : Result (SubscriberTables × Taken) Refusal) → IfErr by IsMisfit → IfErr (taken_as m by) IsTold
as-told m (Ok (t, Acted)) misfit = tt
as-told m (Ok (t, Missed seq outstanding)) misfit = tt
as-told m (Err why) misfit = misfit-told why misfit

expired-told : (number : ℕ) (values : List ℕ) → IsTold (expired_as number values)
expired-told number [] = tt
expired-told number (a ∷ []) = tt
expired-told number (a ∷ b ∷ []) = tt
expired-told number (a ∷ b ∷ c ∷ values) = tt

refused-told : (number : ℕ) (values : List ℕ) (b : Bool) → IsTold (if b then expired_as number values else fault.Refused number)
refused-told number values true = expired-told number values
refused-told number values false = tt

reply-told : (p : Publication) (now : Moment) (m : Reply) (s : SubscriberTables) → IfErr (reply_taken p now m s) IsTold
reply-told p now (reply.Joined m) s = as-told (reply.Joined m) (take_reply p (by_rows s) now (reply.Joined m) s) (met-misfit p (by_rows s) now (reply.Joined m) s s.outstanding)
reply-told p now (reply.Uploaded m) s = as-told (reply.Uploaded m) (take_reply p (by_rows s) now (reply.Uploaded m) s) (met-misfit p (by_rows s) now (reply.Uploaded m) s s.outstanding)
reply-told p now (reply.Ranged m) s = as-told (reply.Ranged m) (take_reply p (by_rows s) now (reply.Ranged m) s) (met-misfit p (by_rows s) now (reply.Ranged m) s s.outstanding)
reply-told p now (reply.Downloaded m) s = as-told (reply.Downloaded m) (take_reply p (by_rows s) now (reply.Downloaded m) s) (met-misfit p (by_rows s) now (reply.Downloaded m) s s.outstanding)
reply-told p now (reply.Refused number values) s = refused-told number values (number == 2)

told-told : (p : Publication) (now : Moment) (told : Told) (s : SubscriberTables) → IfErr (taken_by p now told s) IsTold
told-told p now (Replied m) s = reply-told p now m s
told-told p now (Spoiled place) s = tt
told-told p now (Declined number) s = tt

pub taken-told : (p : Publication) (now : Moment) (told : Told) (s : SubscriberTables) (why : SessionFault) → taken_by p now told s ≡ Err why → IsTold why
taken-told p now told s why e = subst (λ (r : Result (SubscriberTables × Reply) SessionFault). IfErr r IsTold) e (told-told p now told s)
