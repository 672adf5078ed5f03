-- Every step keeps what is known of own changes.
use Rattle.std.specs.Prelude.{◌+◌, ℕ, List, refl, map}
use Rattle.std.proofs.Common.{arith}
use Rattle.merge_schema.specs.Valid.{IsValid}
use Rattle.merge_schema.specs.declared.publication.Publication.{Publication}
use Rattle.merge_batch.specs.declared.reply.Reply.TheVariants as reply
use Rattle.merge_batch.specs.declared.request.Outstanding.TheVariants as ask
use Rattle.merge_batch.specs.declared.request.Request.TheVariants as request
use Rattle.merge_model.specs.Judge.ByHistory.{by_past}
use Rattle.merge_model.specs.History.{pasts_with}
use Rattle.merge_model.specs.Judge.{PublisherJudge}
use Rattle.merge_model.specs.History.Model.{Model, empty_model, model_step}
use Rattle.merge_model.specs.Publisher.{tables_after_close}
use Rattle.merge_model.specs.Publisher.PublisherRanges.{plans, with_grants}
use Rattle.merge_model.specs.Subscriber.Sending.{join_of, want_of, with_message}
use Rattle.merge_model.specs.World.Steps.{Action}
use Rattle.merge_model.specs.Subscriber.{subscriber_at_moment, subscriber_closed}
use Rattle.merge_model.specs.Tables.{PublisherTables, SubscriberTables}
use Rattle.merge_model.specs.World.{Saying, World, with_publisher, with_subscriber}
use Rattle.merge_model.specs.declared.letter.Message.TheVariants.{Asks, Replies}
use Rattle.merge_laws.specs.Invariants.Accepting.{AcceptsWell}
use Rattle.merge_laws.specs.Facts.LetterNumbers.{LettersAreNamed}
use Rattle.merge_laws.specs.Facts.LineagesStand.{KnownCounts, OwnKnown}
use Rattle.merge_model.proofs.Lists.Finding.{found-named}
use Rattle.merge_laws.proofs.Runs.Ground.{Ground, ground-begins, ground-step}
use Rattle.merge_laws.proofs.Letters.LetterNumbers.{named-begins, named-keeps}
use Rattle.merge_laws.proofs.Own.OwnAccepted.{Counted}
use Rattle.merge_laws.proofs.Own.OwnAcceptedSteps.{accepting-begins, accepting-keeps}
use Rattle.merge_laws.proofs.Own.OwnBase.{Base}
use Rattle.merge_laws.proofs.Own.OwnChanges.{own-kept, sub-kept}
use Rattle.merge_laws.proofs.Own.OwnDone.{whole}
use Rattle.merge_laws.proofs.Own.OwnJoins.{join-kept, purge-kept}
use Rattle.merge_laws.proofs.Own.OwnParts.{OwnRest, Rest}
use Rattle.merge_laws.proofs.Own.OwnQuiet.{posted, quiet, stays-here}
use Rattle.merge_laws.proofs.Own.OwnReplies.{anew-kept, reply-kept}
use Rattle.merge_laws.proofs.Own.OwnSending.{ask-answered, upload-sent}
use Rattle.merge_laws.proofs.Own.OwnUploads.{upload-kept}
use Rattle.merge_laws.proofs.Walking.{StepsKeep, here, step-keeps, told_by, uploaded_world}

pub own-keeps : (publication : Publication) (says : Saying) → StepsKeep publication says (Base publication) Rest
own-keeps publication says = record {
  moment = λ w h now b p. quiet w h w.publisher w.tallies now h.done h.lines h.bases (λ c is. is) (λ site. omega arith) p;
  own_change = λ w h change d b p fine is. own-kept publication w h change d b p fine;
  own_closing = λ w h b p. quiet w h (tables_after_close (here w)) w.tallies w.moment h.done h.lines h.bases (λ c is. is) (λ site. omega arith) p;
  forgetting = λ w h b p. purge-kept publication w h (by_past h (pasts_with h 0)) p;
  same = λ w h s b p at. stays-here w h s s at refl refl p;
  subscriber_change = λ w h s change d b p at named fine is. sub-kept publication w h s change d b p at named fine;
  subscriber_closing = λ w h s b p at. stays-here w h s (subscriber_closed (subscriber_at_moment w.moment s)) at refl refl p;
  anew = λ w h s b p at. anew-kept w h s at p;
  sends_join = λ w h s b p at joining. (let t : SubscriberTables = with_message ask.Join s in posted (with_subscriber t w) h s.site (Asks (request.Join (join_of s))) tt tt (stays-here w h s t at refl refl p));
  sends_upload = λ w h s b p at fine. upload-sent publication w h s b p at (found-named w.subscribers s.site.0 s b.0.0.none at);
  sends_ranges = λ w h s b p at fine. (let t : SubscriberTables = with_message ask.Ranges s in
      posted (with_subscriber t w) h s.site (Asks (request.Ranges (record { site = s.site; seq = s.seq + 1; wants = map want_of s.held }))) tt tt (stays-here w h s t at refl refl p));
  sends_ask = λ w h s b p at fine. (let t : SubscriberTables = with_message (ask.Download s.watermark) s in
      posted (with_subscriber t w) h s.site (Asks (request.Download (record { site = s.site; seq = s.seq + 1; from = s.watermark }))) tt tt (stays-here w h s t at refl refl p));
  joins = λ w h number m b p at fine acts. join-kept publication w h number m b.0.0 p at acts;
  joins_again = λ w h number m b p at acts. posted (with_publisher (here w) w) h m.site (Replies (reply.Joined (record { seq = m.seq }))) tt tt
      (quiet w h (here w) w.tallies w.moment h.done h.lines h.bases (λ c is. is) (λ site. omega arith) p);
  uploads = λ w h number m b p at fine news. upload-kept publication says w h number m b p at fine news;
  uploads_again = λ w h number m b p at none. (let judge : PublisherJudge = by_past h (pasts_with h number) in let v : World = uploaded_world publication says judge m (here w) w in
      posted v h m.site (Replies (reply.Uploaded (told_by judge m))) tt tt (quiet w h (here w) v.tallies w.moment h.done h.lines h.bases (λ c is. is) (λ site. omega arith) p));
  answers_ranges = λ w h site m b p. (let q : PublisherTables = with_grants (plans publication m w.publisher) (here w) in
      posted (with_publisher q w) h site _ tt tt (quiet w h q w.tallies w.moment h.done h.lines h.bases (λ c is. is) (λ site. omega arith) p));
  answers_ask = λ w h number site m b p at fine. ask-answered publication w h number site m b p at;
  replies = λ w h s number m sent b p at there out none. reply-kept publication w h s number m b p at (found-named w.subscribers s.site.0 s b.0.0.none at) there;
}

-- The whole: what has acted is what is accepted and counts.

-- what is known of a model besides
abbrev pub Grounded : Publication → Model → Type 0
Grounded publication m = Ground publication m.world m.history × (AcceptsWell m.world m.history × LettersAreNamed m.world m.history)

-- what a step keeps of it, whatever is proved of what counts
pub grounded-step : (publication : Publication) (says : Saying) (m : Model) (action : Action) → Grounded publication m → KnownCounts m → Grounded publication (model_step publication says m action).0
grounded-step publication says m action k counts = (
  ground-step publication says m action k.0,
  (
    step-keeps publication says (Counted publication) AcceptsWell (λ w h b. b.0.received) (accepting-keeps publication says) m action (k.0, counts) k.1.0,
    step-keeps publication says (Ground publication) LettersAreNamed (λ w h g. g.received) (named-keeps publication says) m action k.0 k.1.1,
  ),
)

pub own-step : (publication : Publication) (says : Saying) (m : Model) (action : Action) → Grounded publication m → KnownCounts m → OwnKnown m → OwnKnown (model_step publication says m action).0
own-step publication says m action k counts own =
    let n : Model = (model_step publication says m action).0 in
    let after : Grounded publication n = grounded-step publication says m action k counts in
    let rest : OwnRest n = step-keeps publication says (Base publication) Rest (λ w h b. b.0.0.received) (own-keeps publication says) m action ((k.0, counts), k.1)
    (record { making = own.making; own = own.own; uploads = own.uploads; replies = own.replies }) in
    whole publication n.world n.history after.0 after.1.0 rest

-- How it begins.

pub own-begins : (publication : Publication) (tallies : List ℕ) → OwnKnown (empty_model publication tallies)
own-begins publication tallies = record {
  making = tt;
  own = λ n s key low at held. tt;
  acted = λ key there. absurd (grind (arith, there));
  uploads = tt;
  replies = tt;
}

pub grounded-begins : (publication : Publication) (says : Saying) (tallies : List ℕ) → (resolvers : ℕ) × IsValid resolvers publication → Grounded publication (empty_model publication tallies)
grounded-begins publication says tallies valid = (ground-begins publication says tallies valid, (accepting-begins publication tallies, named-begins publication tallies valid))
