-- A reply that a subscriber takes keeps what the numbers say.
use Rattle.std.specs.Prelude.{◌≡◌, ◌≤◌, ◌==◌, ℕ, Bool, true, false, Option, Some, None, Result, Ok, refl, if◌then◌else◌, IfOk}
use Rattle.std.proofs.Common.{arith}
use Rattle.std.proofs.lemmas.Bool.Decides.{nat_tests}
use Rattle.merge_types.specs.declared.identifiers.Moment.{Moment}
use Rattle.merge_batch.specs.declared.refusal.Refusal.{Refusal}
use Rattle.merge_batch.specs.declared.request.Outstanding.{Outstanding}
use Rattle.merge_batch.specs.declared.request.Outstanding.TheVariants as ask
use Rattle.merge_batch.specs.declared.reply.Reply.{Reply}
use Rattle.merge_batch.specs.declared.reply.Reply.TheVariants as reply
use Rattle.merge_batch.specs.declared.reply.Uploaded.{Uploaded}
use Rattle.merge_batch.specs.declared.reply.Downloaded.{Downloaded}
use Rattle.merge_batch.specs.Replies.{broken_by_reply}
use Rattle.merge_schema.specs.declared.publication.Publication.{Publication}
use Rattle.merge_model.specs.Tables.{SubscriberTables}
use Rattle.merge_model.specs.Tables.Refusals.{unless}
use Rattle.merge_model.specs.Judge.{SubscriberJudge}
use Rattle.merge_model.specs.World.Faults.{reply_fault}
use Rattle.merge_model.specs.Subscriber.{subscriber_last_closed}
use Rattle.merge_model.specs.Subscriber.Taking.{tables_after_reply, take_reply, met_by, seq_of}
use Rattle.merge_model.specs.declared.outcome.Taken.{Taken}
use Rattle.merge_model.specs.declared.outcome.Taken.TheVariants.{Acted, Missed}
use Rattle.merge_model.specs.declared.letter.Message.TheVariants.{Replies}
use Rattle.merge_laws.specs.Facts.Received.{MessageFits, SubscriberFits}
use Rattle.merge_laws.proofs.Received.Subscribing.{Goes}

-- a reply that fits tells of no generation that the site has not closed
pub uploaded-bound : (publication : Publication) (sent : Outstanding) (m : Uploaded) (s : SubscriberTables) → reply_fault publication sent (reply.Uploaded m) s ≡ None → m.received ≤ subscriber_last_closed s
unfolding broken_by_reply
uploaded-bound publication (ask.Upload from to) m s e = grind (arith, nat_tests, e)
uploaded-bound publication ask.Join m s e = absurd (grind (arith, e))
uploaded-bound publication ask.Ranges m s e = absurd (grind (arith, e))
uploaded-bound publication (ask.Download from) m s e = absurd (grind (arith, e))

pub downloaded-bound : (publication : Publication) (sent : Outstanding) (m : Downloaded) (s : SubscriberTables) → reply_fault publication sent (reply.Downloaded m) s ≡ None → m.received ≤ subscriber_last_closed s
unfolding broken_by_reply
downloaded-bound publication (ask.Download from) m s e = grind (arith, nat_tests, e)
downloaded-bound publication ask.Join m s e = absurd (grind (arith, e))
downloaded-bound publication ask.Ranges m s e = absurd (grind (arith, e))
downloaded-bound publication (ask.Upload from to) m s e = absurd (grind (arith, e))

-- nor less than the site knows, where it knows no more than what it sent
uploaded-reaches : (publication : Publication) (from to : ℕ) (m : Uploaded) (s : SubscriberTables) → reply_fault publication (ask.Upload from to) (reply.Uploaded m) s ≡ None → to ≤ m.received
unfolding broken_by_reply
uploaded-reaches publication from to m s e = grind (arith, nat_tests, e)

pub uploaded-least : (publication : Publication) (sent : Outstanding) (m : Uploaded) (s : SubscriberTables) (seq : ℕ) → reply_fault publication sent (reply.Uploaded m) s ≡ None → s.outstanding ≡ Some (seq, sent)
    → ((other from to : ℕ) → s.outstanding ≡ Some (other, ask.Upload from to) → s.received ≤ to) → s.received ≤ m.received
unfolding broken_by_reply
uploaded-least publication (ask.Upload from to) m s seq e out knows = let reaches = uploaded-reaches publication from to m s e in let least = knows seq from to out in omega (arith, reaches, least)
uploaded-least publication ask.Join m s seq e out knows = absurd (grind (arith, e))
uploaded-least publication ask.Ranges m s seq e out knows = absurd (grind (arith, e))
uploaded-least publication (ask.Download from) m s seq e out knows = absurd (grind (arith, e))

pub downloaded-least : (publication : Publication) (sent : Outstanding) (m : Downloaded) (s : SubscriberTables) → reply_fault publication sent (reply.Downloaded m) s ≡ None → s.received ≤ m.received
unfolding broken_by_reply
downloaded-least publication (ask.Download from) m s e = grind (arith, nat_tests, e)
downloaded-least publication ask.Join m s e = absurd (grind (arith, e))
downloaded-least publication ask.Ranges m s e = absurd (grind (arith, e))
downloaded-least publication (ask.Upload from to) m s e = absurd (grind (arith, e))

-- nothing happens
stays : (received joined : ℕ) (s : SubscriberTables) → SubscriberFits received s.site.0 s → Goes received joined s s
stays received joined s f = record { same_site = refl; seq = omega arith; closed = omega arith; fits = f; waits = λ site m fits later. fits.2 later }

-- what a reply that acts leaves, by how far it tells of the site's generations
taken-goes : (publication : Publication) (received joined : ℕ) (judge : SubscriberJudge) (now : Moment) (sent : Outstanding) (m : Reply) (s : SubscriberTables) → MessageFits joined s.site (Some s) (Replies m) → s.seq ≡ seq_of m
    → reply_fault publication sent m s ≡ None → SubscriberFits received s.site.0 s → Goes received joined s (tables_after_reply judge now m s)
taken-goes publication received joined judge now sent (reply.Joined m) s fits same none f = record {
  same_site = refl;
  seq = omega arith;
  closed = omega arith;
  fits = record { keyed = refl; idle = λ joining. absurd (grind (arith, joining)); own = f.own; last = λ q o e. absurd (grind (arith, e)); taken = f.taken };
  waits = λ site j waits later. absurd (omega (arith, fits, same, waits.1, later));
}
taken-goes publication received joined judge now sent (reply.Uploaded m) s fits same none f = record {
  same_site = refl;
  seq = omega arith;
  closed = omega arith;
  fits = record { keyed = refl; idle = f.idle; own = uploaded-bound publication sent m s none; last = λ q o e. absurd (grind (arith, e)); taken = f.taken };
  waits = λ site j waits later. waits.2 later;
}
taken-goes publication received joined judge now sent (reply.Ranged m) s fits same none f = record {
  same_site = refl;
  seq = omega arith;
  closed = omega arith;
  fits = record { keyed = refl; idle = f.idle; own = f.own; last = λ q o e. absurd (grind (arith, e)); taken = f.taken };
  waits = λ site j waits later. waits.2 later;
}
taken-goes publication received joined judge now sent (reply.Downloaded m) s fits same none f = record {
  same_site = refl;
  seq = omega arith;
  closed = omega arith;
  fits = record { keyed = refl; idle = f.idle; own = downloaded-bound publication sent m s none; last = λ q o e. absurd (grind (arith, e)); taken = f.taken };
  waits = λ site j waits later. waits.2 later;
}
taken-goes publication received joined judge now sent (reply.Refused number values) s fits same none f = record {
  same_site = refl;
  seq = omega arith;
  closed = omega arith;
  fits = record { keyed = refl; idle = f.idle; own = f.own; last = λ q o e. absurd (grind (arith, e)); taken = f.taken };
  waits = λ site j waits later. waits.2 later;
}

-- a reply that comes
unless-goes : (received joined : ℕ) (s t : SubscriberTables) (fault : Option Refusal) → (fault ≡ None → Goes received joined s t) → IfOk (let done : Result (SubscriberTables × Taken) Refusal = unless fault (t, Acted) in done) (λ done. Goes received joined s done.0)
unless-goes received joined s t (Some why) goes = tt
unless-goes received joined s t None goes = goes refl

if-goes : (received joined : ℕ) (s : SubscriberTables) (b : Bool) (x y : Result (SubscriberTables × Taken) Refusal) → (b ≡ true → IfOk x (λ done. Goes received joined s done.0)) → IfOk y (λ done. Goes received joined s done.0) → IfOk (if b then x else y) (λ done. Goes received joined s done.0)
if-goes received joined s true x y first second = first refl
if-goes received joined s false x y first second = second

met-goes : (publication : Publication) (received joined : ℕ) (judge : SubscriberJudge) (now : Moment) (m : Reply) (s : SubscriberTables) (found : Option (ℕ × Outstanding)) → s.outstanding ≡ found → MessageFits joined s.site (Some s) (Replies m)
    → SubscriberFits received s.site.0 s → IfOk (met_by publication judge now m s found) (λ done. Goes received joined s done.0)
met-goes publication received joined judge now m s None is fits f = stays received joined s f
met-goes publication received joined judge now m s (Some sent) is fits f =
    if-goes received joined s (sent.0 == seq_of m) (unless (reply_fault publication sent.1 m s) (tables_after_reply judge now m s, Acted)) (Ok (s, Missed (seq_of m) sent.0))
    (λ same. unless-goes received joined s (tables_after_reply judge now m s) (reply_fault publication sent.1 m s)
    (λ none. taken-goes publication received joined judge now sent.1 m s fits (grind (arith, nat_tests, f.last sent.0 sent.1 is, same)) none f))
    (stays received joined s f)

pub reply-goes : (publication : Publication) (received joined : ℕ) (judge : SubscriberJudge) (now : Moment) (m : Reply) (s : SubscriberTables) → MessageFits joined s.site (Some s) (Replies m)
    → SubscriberFits received s.site.0 s → IfOk (take_reply publication judge now m s) (λ done. Goes received joined s done.0)
reply-goes publication received joined judge now (reply.Joined m) s fits f = met-goes publication received joined judge now (reply.Joined m) s s.outstanding refl fits f
reply-goes publication received joined judge now (reply.Uploaded m) s fits f = met-goes publication received joined judge now (reply.Uploaded m) s s.outstanding refl fits f
reply-goes publication received joined judge now (reply.Ranged m) s fits f = met-goes publication received joined judge now (reply.Ranged m) s s.outstanding refl fits f
reply-goes publication received joined judge now (reply.Downloaded m) s fits f = met-goes publication received joined judge now (reply.Downloaded m) s s.outstanding refl fits f
reply-goes publication received joined judge now (reply.Refused number values) s fits f = stays received joined s f
