-- A session in which steps may fail ends with that, or is the one in which none does.
use Rattle.std.specs.List.{list_any}
use Rattle.std.specs.Prelude.{Bool, List, None, Option, Some, [], false, refl, true, ℕ, ◌≡◌, ◌||◌, ◌∷◌, if◌then◌else◌}
use Rattle.std.proofs.Common.{ap, arith, inl, inr, subst, sym, ◌∙◌}
use Rattle.merge_types.specs.declared.identifiers.SiteId.{SiteId}
use Rattle.merge_schema.specs.Places.{is_subscription}
use Rattle.merge_schema.specs.declared.publication.Publication.{Publication}
use Rattle.merge_batch.specs.declared.refusal.Refusal.{Refusal}
use Rattle.merge_batch.specs.declared.refusal.Refusal.TheVariants.{UnknownSite}
use Rattle.merge_model.specs.World.Events.{after, answered_look, answered_sync, answers, happens, session_answer, watermark_in}
use Rattle.merge_model.specs.Failing.{Faulty, Slips, faulty, faulty_stepping}
use Rattle.merge_model.specs.History.Model.{Model, model}
use Rattle.merge_model.specs.Laws.Promises.{IsSettled}
use Rattle.merge_model.specs.Failing.Runs.{model_behind}
use Rattle.merge_model.specs.World.Session.{Session, Stepping, session}
use Rattle.merge_model.specs.Laws.SlipLaws.{is_slip, shows_refusal}
use Rattle.merge_model.specs.Tables.{SubscriberTables}
use Rattle.merge_model.specs.World.{Saying, subscriber_at}
use Rattle.merge_model.specs.declared.answer.Answer.{Answer}
use Rattle.merge_model.specs.declared.answer.Answer.TheVariants.{Done, Refused, Stopped}
use Rattle.merge_model.specs.declared.event.Event.TheVariants as event
use Rattle.merge_model.proofs.Failing.NoSlips.{failures-show}
use Rattle.merge_laws.specs.Laws.{OfEveryValidRun}
use Rattle.merge_laws.proofs.Sessions.SessionLaw.{sessions-settle}
use Rattle.merge_honest.specs.Finished.{EndsBy, EndsOrFails, FailingSessionFinishes, FailingSessionSettles, SessionFinishes}
use Rattle.merge_honest.proofs.SentWell.{Whole, sent-well-always}

-- What a session is answered tells what ended it.

stop_of : Answer → Option (Option Refusal)
stop_of (Done uploads downloads watermark) = Some None
stop_of (Stopped uploads downloads refusal) = Some (Some refusal)
stop_of answer = None

abbrev slips_by : Option Refusal → Bool
slips_by None = false
slips_by (Some refusal) = is_slip refusal

answer-stop : (uploads downloads watermark : ℕ) (stop : Option Refusal) → (let answer : Answer = elim stop [ None ↦ Done uploads downloads watermark | Some refusal ↦ Stopped uploads downloads refusal ] in stop_of answer ≡ Some stop)
unfolding stop_of
answer-stop uploads downloads watermark None = refl
answer-stop uploads downloads watermark (Some refusal) = refl

answer-shown : (uploads downloads watermark : ℕ) (stop : Option Refusal) (b : Bool) → slips_by stop ≡ b → (let answer : Answer = elim stop [ None ↦ Done uploads downloads watermark | Some refusal ↦ Stopped uploads downloads refusal ] in shows_refusal is_slip answer ≡ b)
answer-shown uploads downloads watermark None b is = is
answer-shown uploads downloads watermark (Some refusal) b is = is

some-same : (a b : Option Refusal) → Some a ≡ Some b → a ≡ b
some-same a b e = cc

if-there : {A : Type 0} (b : Bool) (x y : A) → b ≡ true → (if b then x else y) ≡ x
if-there true x y is = refl
if-there false x y is = absurd cc

-- the answer to a session's event, and the world behind it
module _ {W : Type 0} (publication : Publication) (stepping : Stepping W) (site : SiteId) (subscribes : is_subscription publication site.0 ≡ true) where
  abbrev watermark : Session W → ℕ
  watermark s = watermark_in publication stepping site s.world

  syncs : (w : W) → happens publication stepping w (event.Sync site) ≡ answered_sync publication stepping site w
  syncs w = if-there (is_subscription publication site.0) (answered_sync publication stepping site w) (answered_look publication stepping (λ (v : W). Refused (UnknownSite site)) w) subscribes

  sync-answers : (w : W) → answers publication stepping w (event.Sync site ∷ []) ≡ session_answer publication stepping site (session stepping site w) ∷ []
  sync-answers w = ap (λ (done : W × Answer). done.1 ∷ []) (syncs w)

  sync-after : (w : W) → after publication stepping w (event.Sync site ∷ []) ≡ (session stepping site w).world
  sync-after w = ap (λ (done : W × Answer). done.0) (syncs w)

  session-stop : (s : Session W) → stop_of (session_answer publication stepping site s) ≡ Some s.stop
  session-stop s = answer-stop s.uploads s.downloads (watermark s) s.stop

module _ (publication : Publication) (says : Saying) (m : Model) (slips : Slips) (site : SiteId) (subscribes : is_subscription publication site.0 ≡ true) where
  abbrev fails : Stepping (Faulty Model)
  fails = faulty_stepping publication (model publication says)

  abbrev failed : Session (Faulty Model)
  failed = session fails site (faulty m slips)

  abbrev plain : Session Model
  plain = session (model publication says) site m

  pub record IsPlain : Type 0 where
    pub world : failed.world.world ≡ plain.world
    pub stop : failed.stop ≡ plain.stop

  none-shown : slips_by failed.stop ≡ false → list_any (shows_refusal is_slip) (answers publication fails (faulty m slips) (event.Sync site ∷ [])) ≡ false
  none-shown none =
      let here : shows_refusal is_slip (session_answer publication fails site failed) ≡ false = answer-shown failed.uploads failed.downloads (watermark publication fails site subscribes failed) failed.stop false none in
      ap (λ (told : List Answer). list_any (shows_refusal is_slip) told) (sync-answers publication fails site subscribes (faulty m slips)) ∙ (let all : (shows_refusal is_slip (session_answer publication fails site failed) || false) ≡ false = grind (arith, here) in all)

  first : List Answer → Option (Option Refusal)
  first [] = None
  first (answer ∷ answers) = stop_of answer

  pub is-plain : slips_by failed.stop ≡ false → IsPlain
  unfolding first
  is-plain none =
      let both = failures-show publication (model publication says) m slips (event.Sync site ∷ []) (none-shown none) in
      let same : session_answer publication fails site failed ∷ [] ≡ session_answer publication (model publication says) site plain ∷ [] =
      sym (sync-answers publication fails site subscribes (faulty m slips)) ∙ both.0 ∙ sync-answers publication (model publication says) site subscribes m in
      let stops : stop_of (session_answer publication fails site failed) ≡ stop_of (session_answer publication (model publication says) site plain) = ap first same in
      record {
        world = sym (ap (λ (f : Faulty Model). f.world) (sync-after publication fails site subscribes (faulty m slips))) ∙ both.1 ∙ sync-after publication (model publication says) site subscribes m;
        stop = some-same failed.stop plain.stop (sym (session-stop publication fails site subscribes failed) ∙ stops ∙ session-stop publication (model publication says) site subscribes plain);
      }

-- So it ends as that does, or with a step that failed.

ends-by : (k : Model) (site : SiteId) (stop : Option Refusal) → slips_by stop ≡ true → EndsOrFails k site stop
ends-by k site None is = tt
ends-by k site (Some why) is = inr is

ends-too : (k : Model) (site : SiteId) (stop : Option Refusal) → EndsBy k site stop → EndsOrFails k site stop
ends-too k site None ends = tt
ends-too k site (Some why) ends = inl ends

finishes-by : (publication : Publication) (says : Saying) (m : Model) (slips : Slips) (site : SiteId) → is_subscription publication site.0 ≡ true
    → (let plain : Session Model = session (model publication says) site m in EndsBy plain.world site plain.stop) → (let failed : Session (Faulty Model) = session (faulty_stepping publication (model publication says)) site (faulty m slips) in
    (b : Bool) → slips_by failed.stop ≡ b → EndsOrFails failed.world.world site failed.stop)
finishes-by publication says m slips site subscribes ends true is =
    let failed : Session (Faulty Model) = session (faulty_stepping publication (model publication says)) site (faulty m slips) in ends-by failed.world.world site failed.stop is
finishes-by publication says m slips site subscribes ends false none =
    let failed : Session (Faulty Model) = session (faulty_stepping publication (model publication says)) site (faulty m slips) in
    let same = is-plain publication says m slips site subscribes none in
    ends-too failed.world.world site failed.stop (subst (λ (k : Model). EndsBy k site failed.stop) (sym same.world) (subst (λ (stop : Option Refusal). EndsBy (session (model publication says) site m).world site stop) (sym same.stop) ends))

known-subscribes : (publication : Publication) (m : Model) → Whole publication m → (s : SubscriberTables) → subscriber_at m.world s.site ≡ Some s → is_subscription publication s.site.0 ≡ true
known-subscribes publication m whole s here = (whole.1.known s.site.0 s here).subscribes

pub failing-finish : OfEveryValidRun SessionFinishes → OfEveryValidRun FailingSessionFinishes
failing-finish plain resolvers publication valid says tallies events_slips events slips s here begins =
    let m : Model = model_behind publication says tallies events_slips events in
    let failed : Session (Faulty Model) = session (faulty_stepping publication (model publication says)) s.site (faulty m slips) in
    finishes-by publication says m slips s.site (known-subscribes publication m (sent-well-always publication says tallies events_slips events (resolvers, valid)) s here)
    (plain resolvers publication valid says tallies events_slips events s here begins) (slips_by failed.stop) refl

none-slips : (stop : Option Refusal) → stop ≡ None → slips_by stop ≡ false
none-slips None none = refl
none-slips (Some why) none = absurd cc

pub failing-settle : OfEveryValidRun FailingSessionSettles
failing-settle resolvers publication valid says tallies events_slips events slips s t here ended there =
    let m : Model = model_behind publication says tallies events_slips events in
    let failed : Session (Faulty Model) = session (faulty_stepping publication (model publication says)) s.site (faulty m slips) in
    let same = is-plain publication says m slips s.site (known-subscribes publication m (sent-well-always publication says tallies events_slips events (resolvers, valid)) s here) (none-slips failed.stop ended) in
    subst (λ (k : Model). IsSettled publication k t) (sym same.world)
    (sessions-settle publication says tallies events_slips events s t here (sym same.stop ∙ ended) (ap (λ (k : Model). subscriber_at k.world s.site) (sym same.world) ∙ there))
