-- A step that is refused changes nothing.
use Rattle.std.specs.Prelude.{◌≡◌, ℕ, Bool, true, false, Option, Some, None, Result, Ok, Err, refl, ◌==◌, if◌then◌else◌}
use Rattle.std.proofs.Common.{arith}
use Rattle.std.proofs.lemmas.Bool.Decides.{nat_tests}
use Rattle.merge_types.specs.declared.identifiers.RowId.{RowId}
use Rattle.merge_batch.specs.declared.refusal.Refusal.TheVariants.{UnknownSite}
use Rattle.merge_batch.specs.declared.request.Join.{Join}
use Rattle.merge_batch.specs.declared.request.Upload.{Upload}
use Rattle.merge_batch.specs.declared.request.RangeAsk.{RangeAsk}
use Rattle.merge_batch.specs.declared.request.Download.{Download}
use Rattle.merge_batch.specs.declared.request.Request.TheVariants as request
use Rattle.merge_batch.specs.declared.reply.Reply.{Reply}
use Rattle.merge_batch.specs.declared.reply.Reply.TheVariants as reply
use Rattle.merge_batch.specs.declared.reply.Joined.{Joined}
use Rattle.merge_batch.specs.declared.reply.Uploaded.{Uploaded}
use Rattle.merge_batch.specs.declared.reply.Ranged.{Ranged}
use Rattle.merge_batch.specs.declared.reply.Downloaded.{Downloaded}
use Rattle.merge_model.specs.Judge.{PublisherJudge}
use Rattle.merge_model.specs.Publisher.PublisherJoin.{join}
use Rattle.merge_model.specs.Publisher.PublisherUpload.{upload}
use Rattle.merge_model.specs.Publisher.PublisherRanges.{ranges}
use Rattle.merge_model.specs.Publisher.PublisherDownload.{download}
use Rattle.merge_model.specs.Subscriber.Taking.{take_reply}
use Rattle.merge_model.specs.declared.outcome.Taken.{Taken}
use Rattle.merge_model.specs.Subscriber.Sending.{make_join, make_upload, make_ranges, make_ask}
use Rattle.merge_model.specs.Tables.{PublisherTables, SubscriberTables}
use Rattle.merge_model.specs.Publisher.PublisherLocal.{local}
use Rattle.merge_model.specs.Subscriber.{subscriber_local}
use Rattle.merge_model.specs.World.{World, Judges, Saying, letter_at, subscriber_at, with_publisher, with_subscriber}
use Rattle.merge_model.specs.declared.letter.Message.{Message}
use Rattle.merge_model.specs.declared.letter.Message.TheVariants.{Asks, Replies}
use Rattle.merge_model.specs.declared.letter.Letter.{Letter}
use Rattle.merge_model.specs.World.Steps.{Action, Pass, Make, CloseAt, Send, Deliver, MakeAnew, Forget, Look, post_reply, after_upload, kept_decisions, upload_questions, deliver_request, deliver_reply, deliver_letter, Sending, SendJoin, SendUpload, SendRanges, SendDownload, post, post_if_made, send_from, unless_refused, step_by, at_subscriber, make_at, make_at_publisher, make_at_subscriber}
use Rattle.merge_model.specs.declared.outcome.Outcome.{Outcome}
use Rattle.merge_model.specs.declared.outcome.Outcome.TheVariants.{Refuses, Made, Took, NoLetter}
use Rattle.merge_types.specs.declared.identifiers.SiteId.{SiteId}
use Rattle.merge_types.specs.declared.changes.Change.{Change}
use Rattle.merge_batch.specs.declared.refusal.Refusal.{Refusal}
use Rattle.merge_batch.specs.declared.request.Request.{Request}
use Rattle.merge_schema.specs.declared.publication.Publication.{Publication}

-- a step that is refused leaves the world
abbrev pub LeavesIfRefused : World → World × Outcome → Type 0
LeavesIfRefused w done = (refusal : Refusal) → done.1 ≡ Refuses refusal → done.0 ≡ w

pub unless_refused-leaves : {A : Type 0} (w : World) (done : Result A Refusal) (act : A → World × Outcome) → ((a : A) → LeavesIfRefused w (act a)) → LeavesIfRefused w (unless_refused w done act)
unless_refused-leaves w (Err why) act each refusal e = refl
unless_refused-leaves w (Ok a) act each refusal e = each a refusal e

if-leaves : (w : World) (b : Bool) (x y : World × Outcome) → LeavesIfRefused w x → LeavesIfRefused w y → LeavesIfRefused w (if b then x else y)
if-leaves w true x y first second = first
if-leaves w false x y first second = second

some-leaves : (w : World) (site : SiteId) (found : Option SubscriberTables) (act : SubscriberTables → World × Outcome) → ((s : SubscriberTables) → LeavesIfRefused w (act s))
    → LeavesIfRefused w (elim found [ None ↦ (w, Refuses (UnknownSite site)) | Some s ↦ act s ])
some-leaves w site None act each refusal e = refl
some-leaves w site (Some s) act each refusal e = each s refusal e

at_subscriber-leaves : (site : SiteId) (w : World) (act : SubscriberTables → World × Outcome) → ((s : SubscriberTables) → LeavesIfRefused w (act s)) → LeavesIfRefused w (at_subscriber site w act)
at_subscriber-leaves site w act each = some-leaves w site (subscriber_at w site) act each

make-leaves : (publication : Publication) (judges : Judges) (site : SiteId) (change : Change) (w : World) → LeavesIfRefused w (make_at publication judges site change w)
make-leaves publication judges site change w =
    if-leaves w (site.0 == 0) (make_at_publisher publication judges change w) (at_subscriber site w (make_at_subscriber publication change w))
    (unless_refused-leaves w (local publication (judges.publisher 0) w.moment change w.publisher) (λ (done : PublisherTables × RowId). (with_publisher done.0 w, Made done.1)) (λ done refusal e. grind (arith)))
    (at_subscriber-leaves site w (make_at_subscriber publication change w) (λ s. unless_refused-leaves w (subscriber_local publication w.moment change s) (λ (done : SubscriberTables × RowId). (with_subscriber done.0 w, Made done.1)) (λ done refusal e. grind (arith))))

posted-leaves : {A : Type 0} (site : SiteId) (message : A → Request) (w : World) (made : Option (SubscriberTables × A)) → LeavesIfRefused w (post_if_made site message w made)
posted-leaves site message w None refusal e = refl
posted-leaves site message w (Some made) refusal e = grind (arith)

send-leaves : (judges : Judges) (sending : Sending) (w : World) (s : SubscriberTables) → LeavesIfRefused w (send_from judges sending w s)
send-leaves judges SendJoin w s = unless_refused-leaves w (make_join s) (post_if_made s.site (λ (m : Join). request.Join m) w) (posted-leaves s.site (λ (m : Join). request.Join m) w)
send-leaves judges SendUpload w s = unless_refused-leaves w (make_upload (judges.subscriber s.site s) w.moment s) (post_if_made s.site (λ (m : Upload). request.Upload m) w) (posted-leaves s.site (λ (m : Upload). request.Upload m) w)
send-leaves judges SendRanges w s = unless_refused-leaves w (make_ranges s) (post_if_made s.site (λ (m : RangeAsk). request.Ranges m) w) (posted-leaves s.site (λ (m : RangeAsk). request.Ranges m) w)
send-leaves judges SendDownload w s = unless_refused-leaves w (make_ask s)
    (λ (made : SubscriberTables × Download). post s.site (Asks (request.Download made.1)) (with_subscriber made.0 w))
    (λ made refusal e. grind (arith))

answered-leaves : {A : Type 0} (site : SiteId) (message : A → Reply) (w : World) (done : Result (PublisherTables × A) Refusal) → LeavesIfRefused w (post_reply site message w done)
answered-leaves {A = A} site message w done = unless_refused-leaves w done
    (λ (made : PublisherTables × A). post site (Replies (message made.1)) (with_publisher made.0 w))
    (λ made refusal e. grind (arith))

upload-leaves : (publication : Publication) (says : Saying) (judge : PublisherJudge) (site : SiteId) (m : Upload) (w : World) (done : Result (PublisherTables × Uploaded) Refusal) → LeavesIfRefused w (after_upload publication says judge site m w done)
upload-leaves publication says judge site m w (Err why) refusal e = refl
upload-leaves publication says judge site m w (Ok made) refusal e = grind (arith)

request-leaves : (publication : Publication) (says : Saying) (judge : PublisherJudge) (site : SiteId) (m : Request) (w : World) → LeavesIfRefused w (deliver_request publication says judge site m w)
request-leaves publication says judge site (request.Join m) w = answered-leaves site (λ (made : Joined). reply.Joined made) w (join publication w.moment m w.publisher)
request-leaves publication says judge site (request.Upload m) w = upload-leaves publication says judge site m w
    (upload publication judge w.moment m (kept_decisions says w.tallies (upload_questions publication judge w.moment m w.publisher)) w.publisher)
request-leaves publication says judge site (request.Ranges m) w = answered-leaves site (λ (made : Ranged). reply.Ranged made) w (ranges publication judge w.moment m w.publisher)
request-leaves publication says judge site (request.Download m) w = answered-leaves site (λ (made : Downloaded). reply.Downloaded made) w (download publication judge w.moment m w.publisher)

reply-leaves : (publication : Publication) (judges : Judges) (m : Reply) (w : World) (s : SubscriberTables) → LeavesIfRefused w (deliver_reply publication judges m w s)
reply-leaves publication judges m w s = unless_refused-leaves w (take_reply publication (judges.subscriber s.site s) w.moment m s)
    (λ (done : SubscriberTables × Taken). (with_subscriber done.0 w, Took done.1))
    (λ done refusal e. grind (arith))

message-leaves : (publication : Publication) (says : Saying) (judges : Judges) (number : ℕ) (w : World) (site : SiteId) (message : Message) → LeavesIfRefused w (deliver_letter publication says judges number w (record { site = site; message = message }))
message-leaves publication says judges number w site (Asks m) = request-leaves publication says (judges.publisher number) site m w
message-leaves publication says judges number w site (Replies m) = at_subscriber-leaves site w (deliver_reply publication judges m w) (reply-leaves publication judges m w)

found-leaves : (publication : Publication) (says : Saying) (judges : Judges) (number : ℕ) (w : World) (found : Option Letter)
    → LeavesIfRefused w (elim found [ None ↦ (w, NoLetter) | Some letter ↦ deliver_letter publication says judges number w letter ])
found-leaves publication says judges number w None refusal e = refl
found-leaves publication says judges number w (Some letter) refusal e = message-leaves publication says judges number w letter.site letter.message refusal e

pub step_by-leaves : (publication : Publication) (says : Saying) (judges : Judges) (w : World) (action : Action) → LeavesIfRefused w (step_by publication says judges w action)
step_by-leaves publication says judges w (Pass seconds) refusal e = grind (arith)
step_by-leaves publication says judges w (Make site change) refusal e = make-leaves publication judges site change w refusal e
step_by-leaves publication says judges w (CloseAt site) refusal e = grind (arith, nat_tests)
step_by-leaves publication says judges w (Send site sending) refusal e = at_subscriber-leaves site w (send_from judges sending w) (send-leaves judges sending w) refusal e
step_by-leaves publication says judges w (Deliver number) refusal e = found-leaves publication says judges number w (letter_at w number) refusal e
step_by-leaves publication says judges w (MakeAnew site) refusal e = grind (arith, nat_tests)
step_by-leaves publication says judges w Forget refusal e = grind (arith)
step_by-leaves publication says judges w Look refusal e = grind (arith)
