-- Every step keeps counters below the limit, but for one step.
use Rattle.std.specs.List.{fold}
use Rattle.std.specs.Prelude.{Bool, Err, IfOk, List, None, Ok, Option, Result, Some, [], false, if◌then◌else◌, map, max, nat_le, refl, true, ℕ, ◌%◌, ◌/◌, ◌+◌, ◌<◌, ◌==◌, ◌≡◌, ◌≤◌, ◌∷◌}
use Rattle.std.proofs.Common.{arith}
use Rattle.std.proofs.lemmas.Bool.Decides.{nat_tests}
use Rattle.merge_types.specs.Limits.{counter_limit, entry_limit}
use Rattle.merge_types.specs.declared.changes.Change.{Change}
use Rattle.merge_types.specs.declared.identifiers.Moment.{Moment}
use Rattle.merge_types.specs.declared.identifiers.RowId.{RowId}
use Rattle.merge_types.specs.declared.row_key.RowKey.{RowKey as Key}
use Rattle.merge_types.specs.declared.values.Value.{Value}
use Rattle.merge_units.specs.declared.version.Version.{Version}
use Rattle.merge_gens.specs.Filling as fill
use Rattle.merge_gens.specs.declared.filling.Filling.{Filling}
use Rattle.merge_ident.specs.Holders.{Holder}
use Rattle.merge_schema.specs.declared.publication.Publication.{Publication}
use Rattle.merge_batch.specs.declared.refusal.Refusal.{Refusal}
use Rattle.merge_batch.specs.declared.reply.Reply.{Reply}
use Rattle.merge_batch.specs.declared.reply.Reply.TheVariants as reply
use Rattle.merge_batch.specs.declared.request.Join.{Join}
use Rattle.merge_batch.specs.declared.request.Outstanding.{Outstanding}
use Rattle.merge_batch.specs.declared.request.Outstanding.TheVariants as ask
use Rattle.merge_batch.specs.declared.request.RangeAsk.{RangeAsk}
use Rattle.merge_batch.specs.declared.request.Upload.{Upload}
use Rattle.merge_model.specs.Tables.Changes.{key_of, version_after}
use Rattle.merge_model.specs.World.Faults.{reply_fault}
use Rattle.merge_model.specs.Judge.{SubscriberJudge}
use Rattle.merge_model.specs.Publisher.{counters, last_closed}
use Rattle.merge_model.specs.Tables.Refusals.{counter_end, unless}
use Rattle.merge_model.specs.Subscriber.Reinit.{result_of_reinit}
use Rattle.merge_model.specs.Subscriber.Sending.{join_made, join_of, ranges_made, sending_refusal, unsent_rows, upload_made, upload_sent, want_of, with_message}
use Rattle.merge_model.specs.Subscriber.{is_joining, subscriber_at_moment, subscriber_closed, subscriber_counters, subscriber_drawn, subscriber_last_closed, subscriber_local_refusal, subscriber_made_locally, subscriber_next_dot, subscriber_version_at, with_version_if}
use Rattle.merge_model.specs.Tables.{PublisherTables, SubscriberTables}
use Rattle.merge_model.specs.Subscriber.Taking.{met_by, seq_of, tables_after_reply, take_reply}
use Rattle.merge_model.specs.declared.outcome.Taken.{Taken}
use Rattle.merge_model.specs.declared.outcome.Taken.TheVariants.{Acted, Missed}
use Rattle.merge_model.proofs.Runs.Refusals.{first-none}
use Rattle.merge_honest.specs.Bounded.{IsBounded}
use Rattle.merge_honest.proofs.CallWalk.{CallsKeep, OfMade}

-- Where nothing refuses, each counter is below the limit.

greatest-of : (most : ℕ) (counters : List ℕ) → most ≤ fold max most counters
greatest-of most [] = omega arith
greatest-of most (counter ∷ counters) =
    let first : most ≤ max most counter = grind (arith, nat_tests) in
    let rest = greatest-of (max most counter) counters in
    omega (arith, first, rest)

abbrev AllBelow : List ℕ → Type 0
AllBelow [] = Unit {0}
AllBelow (counter ∷ counters) = (counter < counter_limit) × AllBelow counters

all-below : (most : ℕ) (counters : List ℕ) → fold max most counters < counter_limit → AllBelow counters
all-below most [] low = tt
all-below most (counter ∷ counters) low =
    let first : counter ≤ max most counter = grind (arith, nat_tests) in
    let rest = greatest-of (max most counter) counters in
    (omega (arith, first, rest, low), all-below (max most counter) counters low)

end-none : (greatest : ℕ) (b : Bool) → nat_le counter_limit greatest ≡ b → b ≡ false → greatest < counter_limit
end-none greatest b is low = grind (arith, nat_tests, is, low)

counters-low : (counters : List ℕ) → counter_end counters ≡ None → AllBelow counters
counters-low counters none = all-below 0 counters (grind (arith, nat_tests, none))

pub record AreLow (s : SubscriberTables) : Type 0 where
  pub changes : s.changes < counter_limit
  pub closed : subscriber_last_closed s < counter_limit
  pub seq : s.seq < counter_limit

pub sub-low : (s : SubscriberTables) → counter_end (subscriber_counters s) ≡ None → AreLow s
sub-low s none = let low = counters-low (subscriber_counters s) none in record { changes = low.0; closed = low.1.0; seq = low.1.1.0 }

pub publisher-low : (p : PublisherTables) → counter_end (counters p) ≡ None → (p.changes < counter_limit) × (last_closed p < counter_limit)
publisher-low p none = let low = counters-low (counters p) none in (low.0, low.1.0)

-- Closing, and entries.

pub closed-up : (filling : Filling) → (fill.filling_after_close filling).last_closed ≤ filling.last_closed + 1
closed-up filling = grind (arith, nat_tests)

pub closed-unfilled : (filling : Filling) → (fill.filling_after_close filling).filled < entry_limit
closed-unfilled filling = grind (arith, nat_tests)

entered-up : (last filled : ℕ) → filled < entry_limit → last + (filled + 1) / entry_limit ≤ last + 1
entered-up last filled low = omega (arith, low)

entered-unfilled : (filled : ℕ) → (filled + 1) % entry_limit < entry_limit
entered-unfilled filled = omega arith

closing-bounded : (now : Moment) (s : SubscriberTables) → AreLow s → IsBounded s → IsBounded (subscriber_closed (subscriber_at_moment now s))
closing-bounded now s low b = record {
  changes = b.changes;
  closed = (let up = closed-up s.gens.filling in let below = low.closed in omega (arith, up, below));
  seq = b.seq;
  unfilled = closed-unfilled s.gens.filling;
}

message-bounded : (sent : Outstanding) (c : SubscriberTables) → c.seq < counter_limit → IsBounded c → IsBounded (with_message sent c)
message-bounded sent c low b = record { changes = b.changes; closed = b.closed; seq = omega (arith, low); unfilled = b.unfilled }

-- A local change.

version-bounded : (key : Key) (found : Option Version) (now : Moment) (held : List (ℕ × Holder)) (s : SubscriberTables) → AreLow s → IsBounded s
    → (let u : SubscriberTables = record (subscriber_at_moment now s) { changes = s.changes + 1; held = held } in IsBounded (with_version_if key found u))
version-bounded key None now held s low b = record { changes = (let c = low.changes in omega (arith, c)); closed = b.closed; seq = b.seq; unfilled = b.unfilled }
version-bounded key (Some version) now held s low b = record {
  changes = (let c = low.changes in omega (arith, c));
  closed = (let up = entered-up (subscriber_last_closed s) s.gens.filling.filled b.unfilled in let below = low.closed in omega (arith, up, below));
  seq = b.seq;
  unfilled = entered-unfilled s.gens.filling.filled;
}

made-bounded : (publication : Publication) (now : Moment) (change : Change) (s : SubscriberTables) (d : Value × List (ℕ × Holder)) → AreLow s → IsBounded s → IsBounded (subscriber_made_locally publication change d (subscriber_at_moment now s)).0
made-bounded publication now change s d low b = let key : Key = key_of (subscriber_next_dot s) change in version-bounded key (version_after publication (subscriber_next_dot s) d.0 change (subscriber_version_at s key)) now d.1 s low b

drawn-bounded : (publication : Publication) (now : Moment) (change : Change) (s : SubscriberTables) (draw : Result (Value × List (ℕ × Holder)) Refusal) → AreLow s → IsBounded s
    → (let done : Result (SubscriberTables × RowId) Refusal = elim draw [ Err refusal ↦ Err refusal | Ok d ↦ Ok (subscriber_made_locally publication change d (subscriber_at_moment now s)) ] in IfOk done (λ a. IsBounded a.0))
drawn-bounded publication now change s (Err refusal) low b = tt
drawn-bounded publication now change s (Ok d) low b = made-bounded publication now change s d low b

local-bounded : (publication : Publication) (now : Moment) (change : Change) (s : SubscriberTables) (refusal : Option Refusal) → subscriber_local_refusal publication change s ≡ refusal → IsBounded s
    → (let done : Result (SubscriberTables × RowId) Refusal = elim refusal [
      | Some why ↦ Err why
      | None ↦ elim (subscriber_drawn s change) [ Err why ↦ Err why | Ok d ↦ Ok (subscriber_made_locally publication change d (subscriber_at_moment now s)) ]
    ] in IfOk done (λ a. IsBounded a.0))
local-bounded publication now change s (Some why) is b = tt
local-bounded publication now change s None is b =
    let joins = first-none (is_joining s) _ is in
    let counters = first-none (counter_end (subscriber_counters s)) _ joins.1 in
    drawn-bounded publication now change s (subscriber_drawn s change) (sub-low s counters.0) b

-- Other calls.

unless-bounded : {A : Type 0} (s : SubscriberTables) (refusal : Option Refusal) (t : SubscriberTables) (a : A) → (refusal ≡ None → IsBounded t) → (let done : Result (SubscriberTables × A) Refusal = unless refusal (t, a) in IfOk done (λ x. IsBounded x.0))
unless-bounded s (Some why) t a each = tt
unless-bounded s None t a each = each refl

sending-low : (s : SubscriberTables) → sending_refusal s ≡ None → AreLow s
sending-low s none =
    let joins = first-none (is_joining s) _ none in
    let counters = first-none (counter_end (subscriber_counters s)) _ joins.1 in
    sub-low s counters.0

unless-made : {A : Type 0} (refusal : Option Refusal) (made : Option (SubscriberTables × A)) → (refusal ≡ None → OfMade IsBounded made) → (let done : Result (Option (SubscriberTables × A)) Refusal = unless refusal made in IfOk done (λ x. OfMade IsBounded x))
unless-made (Some why) made each = tt
unless-made None made each = each refl

join-by : (s : SubscriberTables) (b : Bool) → AreLow s → IsBounded s → (let made : Option (SubscriberTables × Join) = if b then None else Some (with_message ask.Join s, join_of s) in OfMade IsBounded made)
join-by s true low b = tt
join-by s false low b = message-bounded ask.Join s low.seq b

upload-by : (judge : SubscriberJudge) (now : Moment) (s : SubscriberTables) (rows : List (Key × ℕ)) → AreLow s → IsBounded s
    → (let made : Option (SubscriberTables × Upload) = elim rows [ [] ↦ None | row ∷ rest ↦ Some (upload_sent judge (subscriber_closed (subscriber_at_moment now s))) ] in OfMade IsBounded made)
upload-by judge now s [] low b = tt
upload-by judge now s (row ∷ rest) low b = message-bounded _ (subscriber_closed (subscriber_at_moment now s)) low.seq (closing-bounded now s low b)

ranges-by : (s : SubscriberTables) (held : List (ℕ × Holder)) → AreLow s → IsBounded s
    → (let made : Option (SubscriberTables × RangeAsk) = elim held [ [] ↦ None | entry ∷ entries ↦ Some (with_message ask.Ranges s, record { site = s.site; seq = s.seq + 1; wants = map want_of s.held }) ] in OfMade IsBounded made)
ranges-by s [] low b = tt
ranges-by s (entry ∷ entries) low b = message-bounded ask.Ranges s low.seq b

anew-bounded : (judge : SubscriberJudge) (now : Moment) (s : SubscriberTables) → AreLow s → IsBounded s → IsBounded (result_of_reinit judge (subscriber_at_moment now s)).0
anew-bounded judge now s low b = record {
  changes = b.changes;
  closed = (let up = closed-up s.gens.filling in let below = low.closed in omega (arith, up, below));
  seq = b.seq;
  unfilled = closed-unfilled s.gens.filling;
}

-- A reply moves no counter.

taken-bounded : (judge : SubscriberJudge) (now : Moment) (m : Reply) (s : SubscriberTables) → IsBounded s → IsBounded (tables_after_reply judge now m s)
taken-bounded judge now (reply.Joined m) s b = record { changes = b.changes; closed = b.closed; seq = b.seq; unfilled = b.unfilled }
taken-bounded judge now (reply.Uploaded m) s b = record { changes = b.changes; closed = b.closed; seq = b.seq; unfilled = b.unfilled }
taken-bounded judge now (reply.Ranged m) s b = record { changes = b.changes; closed = b.closed; seq = b.seq; unfilled = b.unfilled }
taken-bounded judge now (reply.Downloaded m) s b = record { changes = b.changes; closed = b.closed; seq = b.seq; unfilled = b.unfilled }
taken-bounded judge now (reply.Refused number values) s b = record { changes = b.changes; closed = b.closed; seq = b.seq; unfilled = b.unfilled }

met-bounded : (publication : Publication) (judge : SubscriberJudge) (now : Moment) (m : Reply) (s : SubscriberTables) (found : Option (ℕ × Outstanding)) → IsBounded s → IfOk (met_by publication judge now m s found) (λ a. IsBounded a.0)
met-bounded publication judge now m s None b = b
met-bounded publication judge now m s (Some sent) b = elim (sent.0 == seq_of m) as (λ (same : Bool). (let done : Result (SubscriberTables × Taken) Refusal = if same then unless (reply_fault publication sent.1 m s) (tables_after_reply judge now m s, Acted) else Ok (s, Missed (seq_of m) sent.0) in IfOk done (λ a. IsBounded a.0))) [
  | true ↦ unless-bounded s (reply_fault publication sent.1 m s) (tables_after_reply judge now m s) Acted (λ none. taken-bounded judge now m s b)
  | false ↦ b
]

reply-bounded : (publication : Publication) (judge : SubscriberJudge) (now : Moment) (m : Reply) (s : SubscriberTables) → IsBounded s → IfOk (take_reply publication judge now m s) (λ a. IsBounded a.0)
reply-bounded publication judge now (reply.Joined m) s b = met-bounded publication judge now (reply.Joined m) s s.outstanding b
reply-bounded publication judge now (reply.Uploaded m) s b = met-bounded publication judge now (reply.Uploaded m) s s.outstanding b
reply-bounded publication judge now (reply.Ranged m) s b = met-bounded publication judge now (reply.Ranged m) s s.outstanding b
reply-bounded publication judge now (reply.Downloaded m) s b = met-bounded publication judge now (reply.Downloaded m) s s.outstanding b
reply-bounded publication judge now (reply.Refused number values) s b = b

pub calls-bounded : (publication : Publication) → CallsKeep publication IsBounded
calls-bounded publication = record {
  of_local = λ now change s b. local-bounded publication now change s (subscriber_local_refusal publication change s) refl b;
  of_close = λ now s b. unless-bounded s (counter_end (subscriber_counters s)) (subscriber_closed (subscriber_at_moment now s)) _ (λ none. closing-bounded now s (sub-low s none) b);
  of_join = λ s b. unless-made (counter_end (subscriber_counters s)) (join_made s) (λ none. join-by s s.is_joined (sub-low s none) b);
  of_upload = λ judge now s b. unless-made (sending_refusal s) (upload_made judge now s) (λ none. upload-by judge now s (unsent_rows judge s) (sending-low s none) b);
  of_ranges = λ s b. unless-made (sending_refusal s) (ranges_made s) (λ none. ranges-by s s.held (sending-low s none) b);
  of_ask = λ s b. unless-bounded s (sending_refusal s) (with_message (ask.Download s.watermark) s) _ (λ none. message-bounded (ask.Download s.watermark) s (sending-low s none).seq b);
  of_reply = λ judge now m s b. reply-bounded publication judge now m s b;
  of_anew = λ judge now s b. unless-bounded s (counter_end (subscriber_counters s)) (result_of_reinit judge (subscriber_at_moment now s)).0 _ (λ none. anew-bounded judge now s (sub-low s none) b);
}
