-- That no reply is refused: one that acts fits the outstanding message, and another is passed over.
use Rattle.std.specs.Prelude.{Bool, Err, None, Ok, Option, Result, Some, false, if◌then◌else◌, refl, true, ℕ, ◌==◌, ◌≡◌}
use Rattle.std.proofs.Common.{ap, arith, sym, ◌∙◌}
use Rattle.std.proofs.lemmas.Bool.Decides.{nat_tests}
use Rattle.merge_types.specs.declared.identifiers.SiteId.{SiteId}
use Rattle.merge_schema.specs.declared.publication.Publication.{Publication}
use Rattle.merge_batch.specs.declared.refusal.Refusal.{Refusal}
use Rattle.merge_batch.specs.declared.refusal.Refusal.TheVariants.{UnknownSite}
use Rattle.merge_batch.specs.declared.reply.Reply.{Reply}
use Rattle.merge_batch.specs.declared.reply.Reply.TheVariants as reply
use Rattle.merge_batch.specs.declared.request.Outstanding.{Outstanding}
use Rattle.merge_model.specs.Judge.ByHistory.{by_history, by_made}
use Rattle.merge_model.specs.World.Faults.{reply_fault}
use Rattle.merge_model.specs.Judge.{SubscriberJudge}
use Rattle.merge_model.specs.History.Model.{Model}
use Rattle.merge_model.specs.Tables.Refusals.{unless}
use Rattle.merge_model.specs.Failing.Runs.{model_behind}
use Rattle.merge_model.specs.World.Steps.{deliver_letter, deliver_reply, unless_refused}
use Rattle.merge_model.specs.Tables.{SubscriberTables}
use Rattle.merge_model.specs.Subscriber.Taking.{met_by, seq_of, tables_after_reply, take_reply}
use Rattle.merge_model.specs.World.{Saying, World, subscriber_at, with_subscriber}
use Rattle.merge_model.specs.declared.letter.Letter.{Letter}
use Rattle.merge_model.specs.declared.letter.Message.TheVariants.{Replies}
use Rattle.merge_model.specs.declared.outcome.Outcome.{Outcome}
use Rattle.merge_model.specs.declared.outcome.Outcome.TheVariants.{NoLetter, Refuses, Took}
use Rattle.merge_model.specs.declared.outcome.Taken.{Taken}
use Rattle.merge_model.specs.declared.outcome.Taken.TheVariants.{Acted, Missed}
use Rattle.merge_laws.specs.Laws.ActsOnce.{step_of_delivery}
use Rattle.merge_laws.specs.Laws.{OfEveryValidRun}
use Rattle.merge_honest.specs.Answered.{MessageAnswers}
use Rattle.merge_honest.specs.Replied.{IsReply, NoReplyIsRefused, RepliesFit}
use Rattle.merge_honest.proofs.DownloadRules.{download-fits}
use Rattle.merge_honest.proofs.PutRows.{puts-fit}
use Rattle.merge_honest.proofs.RemovedRows.{removals-fit}
use Rattle.merge_honest.proofs.ReplyRules.{answered-here, reply-fits}
use Rattle.merge_honest.proofs.Rules.{Known, known-always}

-- One that acts fits.

pub replies-fit : OfEveryValidRun RepliesFit
replies-fit resolvers publication valid says tallies slips events number site (reply.Joined u) s sent at there out =
    reply-fits publication (model_behind publication says tallies slips events) (known-always publication says tallies slips events (resolvers, valid)) number site (reply.Joined u) at s sent there out refl
replies-fit resolvers publication valid says tallies slips events number site (reply.Uploaded u) s sent at there out =
    reply-fits publication (model_behind publication says tallies slips events) (known-always publication says tallies slips events (resolvers, valid)) number site (reply.Uploaded u) at s sent there out refl
replies-fit resolvers publication valid says tallies slips events number site (reply.Ranged u) s sent at there out =
    reply-fits publication (model_behind publication says tallies slips events) (known-always publication says tallies slips events (resolvers, valid)) number site (reply.Ranged u) at s sent there out refl
replies-fit resolvers publication valid says tallies slips events number site (reply.Downloaded d) s sent at there out =
    download-fits publication (model_behind publication says tallies slips events) (known-always publication says tallies slips events (resolvers, valid)) number site d at s sent there out
    (puts-fit resolvers publication valid says tallies slips events number site d s at there) (removals-fit resolvers publication valid says tallies slips events number site d s at there)
replies-fit resolvers publication valid says tallies slips events number site (reply.Refused code values) s sent at there out =
    reply-fits publication (model_behind publication says tallies slips events) (known-always publication says tallies slips events (resolvers, valid)) number site (reply.Refused code values) at s sent there out refl

-- So a delivery is not refused.

abbrev Fits : Publication → Model → SiteId → Reply → Type 0
Fits publication m site r = (s : SubscriberTables) (sent : Outstanding) → subscriber_at m.world site ≡ Some s → s.outstanding ≡ Some (seq_of r, sent) → reply_fault publication sent r s ≡ None

module _ (publication : Publication) (m : Model) (site : SiteId) (r : Reply) (fits : Fits publication m site r) where
  abbrev NotRefused : World × Outcome → Type 0
  NotRefused done = (why : Refusal) → done.1 ≡ Refuses why → ⊥

  taken-not : (s : SubscriberTables) (done : Result (SubscriberTables × Taken) Refusal) → ((why : Refusal) → done ≡ Err why → ⊥) → NotRefused (unless_refused m.world done (λ (made : SubscriberTables × Taken). (with_subscriber made.0 m.world, Took made.1)))
  taken-not s (Ok made) each why e = absurd cc
  taken-not s (Err other) each why e = absurd (each other refl)

  acts-not : (s : SubscriberTables) (fault : Option Refusal) → fault ≡ None → (why : Refusal) → (let done : Result (SubscriberTables × Taken) Refusal = unless fault (s, Acted) in done) ≡ Err why → ⊥
  acts-not s None none why e = cc
  acts-not s (Some other) none why e = cc

  numbered-not : (s t : SubscriberTables) (seq : ℕ) (b : Bool) (fault : Option Refusal) → (b ≡ true → fault ≡ None) → (why : Refusal) → (let done : Result (SubscriberTables × Taken) Refusal = if b then unless fault (t, Acted) else Ok (s, Missed (seq_of r) seq) in done) ≡ Err why → ⊥
  numbered-not s t seq true fault none why e = acts-not t fault (none refl) why e
  numbered-not s t seq false fault none why e = cc

  met-not : (s : SubscriberTables) (judge : SubscriberJudge) (found : Option (ℕ × Outstanding)) → subscriber_at m.world site ≡ Some s → s.outstanding ≡ found → (why : Refusal) → met_by publication judge m.world.moment r s found ≡ Err why → ⊥
  met-not s judge None there out why e = cc
  met-not s judge (Some sent) there out why e = numbered-not s (tables_after_reply judge m.world.moment r s) sent.0 (sent.0 == seq_of r) (reply_fault publication sent.1 r s)
      (λ same. (let is : sent.0 ≡ seq_of r = grind (arith, nat_tests, same) in
      fits s sent.1 there (out ∙ ap (λ (n : ℕ). (let found : Option (ℕ × Outstanding) = Some (n, sent.1) in found)) is))) why e

take-not : (publication : Publication) (m : Model) (site : SiteId) (r : Reply) → Fits publication m site r → (s : SubscriberTables) (judge : SubscriberJudge) → subscriber_at m.world site ≡ Some s
    → (why : Refusal) → take_reply publication judge m.world.moment r s ≡ Err why → ⊥
take-not publication m site (reply.Joined u) fits s judge there why e = met-not publication m site (reply.Joined u) fits s judge s.outstanding there refl why e
take-not publication m site (reply.Uploaded u) fits s judge there why e = met-not publication m site (reply.Uploaded u) fits s judge s.outstanding there refl why e
take-not publication m site (reply.Ranged u) fits s judge there why e = met-not publication m site (reply.Ranged u) fits s judge s.outstanding there refl why e
take-not publication m site (reply.Downloaded u) fits s judge there why e = met-not publication m site (reply.Downloaded u) fits s judge s.outstanding there refl why e
take-not publication m site (reply.Refused code values) fits s judge there why e = absurd cc

found-not : (publication : Publication) (m : Model) (site : SiteId) (r : Reply) → Fits publication m site r → (found : Option SubscriberTables) → subscriber_at m.world site ≡ found → MessageAnswers found (Replies r)
    → (why : Refusal) → (let done : World × Outcome = elim found [ None ↦ (m.world, Refuses (UnknownSite site)) | Some s ↦ deliver_reply publication (by_history m.history) r m.world s ] in done.1) ≡ Refuses why → ⊥
found-not publication m site r fits None there is why e = absurd is
found-not publication m site r fits (Some s) there is why e =
    taken-not publication m site r fits s (take_reply publication (by_made m.history s.site) m.world.moment r s) (take-not publication m site r fits s (by_made m.history s.site) there) why e

pub deliver-not : (publication : Publication) (says : Saying) (m : Model) → Known publication m → (number : ℕ) (site : SiteId) (r : Reply) → IsReply m number site r → Fits publication m site r → (why : Refusal) → (step_of_delivery publication says m number).1 ≡ Refuses why → ⊥
deliver-not publication says m k number site r at fits why e =
    let w : World = m.world in
    let is : (step_of_delivery publication says m number).1 ≡ (let done : World × Outcome = elim (subscriber_at w site) [ None ↦ (w, Refuses (UnknownSite site)) | Some s ↦ deliver_reply publication (by_history m.history) r w s ] in done.1) =
    ap (λ (found : Option Letter). (let done : World × Outcome = elim found [ None ↦ (w, NoLetter) | Some letter ↦ deliver_letter publication says (by_history m.history) number w letter ] in done.1)) at in
    found-not publication m site r fits (subscriber_at w site) refl (answered-here publication m k number site r at).0 why (sym is ∙ e)

pub no-reply-refused : OfEveryValidRun NoReplyIsRefused
no-reply-refused resolvers publication valid says tallies slips events number site r why at e =
    deliver-not publication says (model_behind publication says tallies slips events) (known-always publication says tallies slips events (resolvers, valid)) number site r at
    (λ s sent there out. replies-fit resolvers publication valid says tallies slips events number site r s sent at there out) why e
