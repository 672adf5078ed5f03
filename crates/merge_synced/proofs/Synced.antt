-- A session over a link that met the model's publisher is the model's session.
use Rattle.std.specs.Prelude.{Bool, Err, List, None, Ok, Option, Result, Some, false, if◌then◌else◌, length, option_map, refl, true, unwrap_or, ℕ, ◌+◌, ◌≡◌}
use Rattle.std.proofs.Common.{ap, inl, inr, subst, sym, ◌∙◌, ◌⊎◌}
use Rattle.merge_types.specs.declared.identifiers.Moment.{Moment}
use Rattle.merge_resolve.specs.Asked.{tallies_after}
use Rattle.merge_schema.specs.declared.publication.Publication.{Publication}
use Rattle.merge_batch.specs.Heads.{kind_of, seq_of}
use Rattle.merge_batch.specs.declared.refusal.Refusal.{Refusal}
use Rattle.merge_batch.specs.declared.reply.Reply.{Reply}
use Rattle.merge_batch.specs.declared.request.Request.{Request}
use Rattle.merge_json.specs.Limits.{IsShortRequest}
use Rattle.merge_model.specs.Failing.Runs.{world_behind_actions}
use Rattle.merge_model.specs.Judge.ByNumbers.{by_rows}
use Rattle.merge_model.specs.Subscriber.Taking.{take_reply}
use Rattle.merge_model.specs.Tables.{PublisherTables, SubscriberTables}
use Rattle.merge_model.specs.World.Calls.{questions_on, result_of_request}
use Rattle.merge_model.specs.World.Events.{machine}
use Rattle.merge_model.specs.World.Session.{Session as ModelSession, as_it_is, exchange, is_joined_in, session, unsent_generations}
use Rattle.merge_model.specs.World.Steps.{Deliver, SendJoin}
use Rattle.merge_model.specs.World.{Saying, World, subscriber_at}
use Rattle.merge_world.specs.Messages.{request_of_sending}
use Rattle.merge_laws.proofs.Lineages.LineagesAlways.{actions-same}
use Rattle.merge_owed.proofs.HeldThresholds.{AreThresholds, thresholds-by-actions}
use Rattle.merge_agent.specs.Answers.{Tells}
use Rattle.merge_agent.specs.Faults.{with_fault}
use Rattle.merge_agent.specs.Sessions.{IsUnderWay, Joins, Over, Session, Stage, Step, Uploads, at, sending_in, session_at_start, session_behind_reply as counted}
use Rattle.merge_agent.specs.Turns.{HasMessage, IsLeft, Turn, Untakes, reply_taken, taken_by}
use Rattle.merge_agent.specs.declared.answer.Told.{Told}
use Rattle.merge_agent.specs.declared.answer.Told.TheVariants.{Replied}
use Rattle.merge_agent.specs.declared.fault.SessionFault.{SessionFault}
use Rattle.merge_agent.specs.declared.fault.SessionFault.TheVariants as fault
use Rattle.merge_desk.specs.Replay.{reply_of_refusal as told_as, tables_and_reply}
use Rattle.merge_synced.specs.Answering.{AreTold, Serving, behind, counted_by, made_of, serving_in}
use Rattle.merge_synced.specs.Synced.{DoneIsTheModels, IsRefused, IsUntaken, Met, OfEveryValidWorld, RefusedIsTheModels, SiteStops, StandsAs, UnmadeIsTheModels, UntakenIsTheModels, WouldAct}
use Rattle.merge_synced.specs.Courses.{Asking, Course, Done, Downloading, Fetching, Joining, Uploading, session_with_counts, stage_of}
use Rattle.merge_synced.specs.Cut.{CutIsAPart, IsCut, PassesBy, Stands, StepsAreAPart}
use Rattle.merge_synced.proofs.Courses.{Enough, Onward, after_join, refuse-on, rest, sends-begin, unmade-on, untaken-on}
use Rattle.merge_synced.proofs.Delivered.{taken-there}
use Rattle.merge_synced.proofs.Led.{led}
use Rattle.merge_synced.proofs.Made.{Outstands, answers-kind, answers-number, outstands, sent-site}
use Rattle.merge_synced.proofs.ShortRequests.{made-short}
use Rattle.merge_synced.proofs.Stands.{IsBehind, behind-by-actions, behind-short}
use Rattle.merge_synced.proofs.Steps.{replied_world, request-there, send-is, sent-has, sent_world}
use Rattle.merge_synced.proofs.Telling.{Refusing, one-told, refused-fits, refused-stops, refusing, replied-acts, reply-refused}
use Rattle.merge_synced.proofs.Turns.{asks-reply, kind-fits, same-read}

-- only a session that is over stands at its end
ended : (c : Course) → Over ≡ stage_of c → c ≡ Done
ended Joining e = absurd cc
ended (Uploading count) e = absurd cc
ended (Asking count) e = absurd cc
ended Fetching e = absurd cc
ended (Downloading count target) e = absurd cc
ended Done e = refl

module _ (publication : Publication) (says : Saying) (w : World) (s : SubscriberTables) (here : subscriber_at w s.site ≡ Some s) (behind-actions : IsBehind publication w) (thresholds : AreThresholds s.held) where
  -- where a session begins
  record Begins : Type 0 where
    pub course : Course
    pub stage : (session_at_start s).stage ≡ stage_of course
    pub enough : Enough publication s.site course w s
    pub same : session (machine publication says) s.site w ≡ rest publication says s.site w.moment course (session_with_counts w 0 0)

  joined-is : is_joined_in (machine publication says) s.site w ≡ s.is_joined
  joined-is = ap (λ (found : Option SubscriberTables). unwrap_or (option_map (λ (x : SubscriberTables). x.is_joined) found) true) here

  begins-by : (b : Bool) → s.is_joined ≡ b → Begins
  begins-by true is = record {
    course = Uploading (unsent_generations (machine publication says) s.site w);
    stage = ap (λ (b : Bool). (let x : Stage = if b then Uploads else Joins in x)) is;
    enough = sends-begin publication says s.site w.moment w s here thresholds;
    same = ap (λ (b : Bool). after_join publication says s.site w.moment (if b then session_with_counts w 0 0 else exchange (machine publication says) s.site SendJoin (as_it_is (machine publication says) s.site) (as_it_is (machine publication says) s.site) (session_with_counts w 0 0))) (joined-is ∙ is);
  }
  begins-by false is = record {
    course = Joining;
    stage = ap (λ (b : Bool). (let x : Stage = if b then Uploads else Joins in x)) is;
    enough = thresholds;
    same = ap (λ (b : Bool). after_join publication says s.site w.moment (if b then session_with_counts w 0 0 else exchange (machine publication says) s.site SendJoin (as_it_is (machine publication says) s.site) (as_it_is (machine publication says) s.site) (session_with_counts w 0 0))) (joined-is ∙ is);
  }

  begins : Begins
  begins = begins-by s.is_joined refl

  -- and where the steps lead
  goes : (address : List ℕ) (steps : List Step) (last : Session) (p : Serving) → Met publication says w address s steps last p → Onward publication says s.site w.moment begins.course w 0 0 last p
  goes address steps last p met = led publication says s.site w.moment address met.visible steps begins.course w (session_at_start s) last p begins.stage (record { here = here; own = refl; moment = refl; behind = behind-actions }) begins.enough met.follows met.now met.answers

  -- what a site makes behind them is within the limits of the product
  short-made : (last : Session) (t : SubscriberTables) (p : Serving) (q : Request) → Onward publication says s.site w.moment begins.course w 0 0 last p → request_of_sending (sending_in last.stage) w.moment last.tables ≡ Ok (Some (t, q)) → IsShortRequest q
  short-made last t p q o made = made-short (sending_in last.stage) w.moment last.tables t q (behind-short publication o.world s.site last.tables o.here.behind o.here.here) made

  stands : (t : SubscriberTables) (i j : ℕ) (stop : Option Refusal) (p : Serving) (v : World) (done : ModelSession World) → done ≡ record { world = v; uploads = i; downloads = j; stop = stop } → subscriber_at v s.site ≡ Some t → serving_in v ≡ p
      → StandsAs s.site t i j stop p done
  stands t i j stop p v done is tables serving = subst (λ (x : ModelSession World). StandsAs s.site t i j stop p x) (sym is) (record { stopped = refl; uploaded = refl; downloaded = refl; tables = tables; serving = serving })

  done-stands : (address : List ℕ) (t : SubscriberTables) (steps : List Step) (i j : ℕ) (p : Serving) → Met publication says w address s steps (at Over t i j) p → StandsAs s.site t i j None p (session (machine publication says) s.site w)
  done-stands address t steps i j p met =
      let o : Onward publication says s.site w.moment begins.course w 0 0 (at Over t i j) p = goes address steps (at Over t i j) p met in
      stands t i j None p o.world (session (machine publication says) s.site w)
      (begins.same ∙ o.same ∙ ap (λ (c : Course). rest publication says s.site w.moment c (session_with_counts o.world i j)) (ended o.course o.stage))
      o.here.here o.serving

  -- The model's session passes where the steps lead.

  passes-by : (last : Session) (p : Serving) (o : Onward publication says s.site w.moment begins.course w 0 0 last p) → PassesBy publication says s.site w last p o.world
  passes-by last p o = record {
    course = o.course;
    stage = o.stage;
    stands = record { tables = o.here.here; serving = o.serving };
    moment = o.here.moment;
    same = begins.same ∙ o.same;
  }

  steps-pass : (address : List ℕ) (steps : List Step) (last : Session) (p : Serving) → Met publication says w address s steps last p → (v : World) × PassesBy publication says s.site w last p v
  steps-pass address steps last p met =
      let o : Onward publication says s.site w.moment begins.course w 0 0 last p = goes address steps last p met in
      (o.world, passes-by last p o)

  -- there it sends the message that had no response
  cut-stands : (address : List ℕ) (steps : List Step) (last : Session) (p : Serving) (t : SubscriberTables) (q : Request) → Met publication says w address s steps last p → request_of_sending (sending_in last.stage) w.moment last.tables ≡ Ok (Some (t, q))
      → IsCut publication says s.site w last p t q
  cut-stands address steps last p t q met made =
      let o : Onward publication says s.site w.moment begins.course w 0 0 last p = goes address steps last p met in
      let made_there : request_of_sending (sending_in last.stage) o.world.moment last.tables ≡ Ok (Some (t, q)) =
      subst (λ (x : Moment). request_of_sending (sending_in last.stage) x last.tables ≡ Ok (Some (t, q))) (sym o.here.moment) made in
      let keyed : t.site ≡ s.site = sent-site (sending_in last.stage) w.moment last.tables t q made ∙ o.here.own in
      let told : World = ((machine publication says).act (sent_world s.site t q o.world) (Deliver (length o.world.pool + 1))).0 in
      record {
        before = o.world;
        passes = passes-by last p o;
        sent = sent_world s.site t q o.world;
        number = length o.world.pool + 1;
        sends = send-is publication says s.site (sending_in last.stage) o.world last.tables t q o.here.here o.here.own made_there;
        letter = request-there publication says s.site (sending_in last.stage) o.world last.tables t q o.here.here o.here.own made_there;
        untaken = record { tables = sent-has s.site t q o.world keyed; serving = o.serving };
        taken = subst (λ (x : Serving). Stands s.site t (behind publication says w.moment q x) told) o.serving
            (subst (λ (x : Moment). Stands s.site t (behind publication says x q (serving_in o.world)) told) o.here.moment
            (taken-there publication says s.site (sending_in last.stage) o.world last.tables t q o.here.here o.here.own made_there keyed));
      }

  -- the request of the turn that was refused
  refused-stands : (address : List ℕ) (t : SubscriberTables) (steps : List Step) (last : Session) (p : Serving) (turn : Turn) (refusal : Refusal) (why : SessionFault) → Met publication says w address s steps last p → IsRefused publication says w address last p t turn refusal why
      → StandsAs s.site t last.uploads last.downloads (Some refusal) p (session (machine publication says) s.site w)
  refused-stands address t steps last p turn refusal why met r =
      let o : Onward publication says s.site w.moment begins.course w 0 0 last p = goes address steps last p met in
      let breaks : Untakes publication address (sending_in last.stage) w.moment turn last.tables t why = r.breaks in
      let q : Request = breaks.request in
      let same : r.request ≡ q = same-read publication says w.moment address met.visible turn.carried.request q r.request breaks.text breaks.readable (short-made last t p q o breaks.is_made) r.read in
      let refused : result_of_request publication says o.world.tallies w.moment q o.world.publisher ≡ Err refusal =
      subst (λ (x : Serving). made_of publication says w.moment q x ≡ Err refusal) (sym o.serving) (subst (λ (x : Request). made_of publication says w.moment x p ≡ Err refusal) same r.refused) in
      let made : request_of_sending (sending_in (stage_of o.course)) w.moment last.tables ≡ Ok (Some (t, q)) = subst (λ (x : Stage). request_of_sending (sending_in x) w.moment last.tables ≡ Ok (Some (t, q))) o.stage breaks.is_made in
      stands t last.uploads last.downloads (Some refusal) p (sent_world s.site t q o.world) (session (machine publication says) s.site w)
      (begins.same ∙ o.same ∙ refuse-on publication says s.site w.moment o.world last.tables t q last.uploads last.downloads refusal o.here refused o.course o.enough (subst IsUnderWay o.stage r.under_way) made)
      (sent-has s.site t q o.world (sent-site (sending_in (stage_of o.course)) w.moment last.tables t q made ∙ o.here.own)) o.serving

  -- The site refuses to make its next message.

  unmade-stands : (address : List ℕ) (steps : List Step) (last : Session) (p : Serving) (refusal : Refusal) → Met publication says w address s steps last p → IsUnderWay last.stage → request_of_sending (sending_in last.stage) w.moment last.tables ≡ Err refusal
      → StandsAs s.site last.tables last.uploads last.downloads (Some refusal) p (session (machine publication says) s.site w)
  unmade-stands address steps last p refusal met going refused =
      let o : Onward publication says s.site w.moment begins.course w 0 0 last p = goes address steps last p met in
      stands last.tables last.uploads last.downloads (Some refusal) p o.world (session (machine publication says) s.site w)
      (begins.same ∙ o.same ∙ unmade-on publication says s.site w.moment o.world last.tables last.uploads last.downloads refusal o.here o.course o.enough (subst IsUnderWay o.stage going)
      (subst (λ (x : Stage). request_of_sending (sending_in x) w.moment last.tables ≡ Err refusal) o.stage refused))
      o.here.here o.serving

  unmade-by : (address : List ℕ) (t : SubscriberTables) (steps : List Step) (last : Session) (p : Serving) (why : SessionFault) → Met publication says w address s steps last p → IsUnderWay last.stage → t ≡ last.tables
      → (with_fault (request_of_sending (sending_in last.stage) w.moment last.tables) ≡ Err why) ⊎ ((why ≡ fault.NoMemory) ⊎ (why ≡ fault.StoreFault) × HasMessage (sending_in last.stage) w.moment last.tables)
      → SiteStops publication says w s.site t last.uploads last.downloads p why ⊎ ((why ≡ fault.NoMemory) ⊎ (why ≡ fault.StoreFault) × HasMessage (sending_in last.stage) w.moment last.tables)
  unmade-by address t steps last p why met going same (inr failed) = inr failed
  unmade-by address t steps last p why met going same (inl told) =
      let r : Refusing (request_of_sending (sending_in last.stage) w.moment last.tables) why = refusing (request_of_sending (sending_in last.stage) w.moment last.tables) why told in
      inl (record {
        refusal = r.refusal;
        fault = r.fault;
        stands = subst (λ (x : SubscriberTables). StandsAs s.site x last.uploads last.downloads (Some r.refusal) p (session (machine publication says) s.site w)) (sym same) (unmade-stands address steps last p r.refusal met going r.is);
      })

  -- The site refuses the reply of a turn.
  module _ (address : List ℕ) (t : SubscriberTables) (steps : List Step) (last : Session) (p : Serving) (turn : Turn) (r : Reply) (why : SessionFault) (met : Met publication says w address s steps last p) (u : IsUntaken publication says w address last p t turn r why) where
    onward : Onward publication says s.site w.moment begins.course w 0 0 last p
    onward = goes address steps last p met

    breaks : Untakes publication address (sending_in last.stage) w.moment turn last.tables t why
    breaks = u.breaks

    -- the request that the publisher read is the one that was made
    same-request : u.request ≡ breaks.request
    same-request = same-read publication says w.moment address met.visible turn.carried.request breaks.request u.request breaks.text breaks.readable (short-made last t p breaks.request onward breaks.is_made) u.read

    answer : result_of_request publication says p.tallies w.moment breaks.request p.publisher ≡ Ok (u.after, r)
    answer = subst (λ (x : Request). made_of publication says w.moment x p ≡ Ok (u.after, r)) same-request u.made

    answer-here : result_of_request publication says onward.world.tallies w.moment breaks.request onward.world.publisher ≡ Ok (u.after, r)
    answer-here = subst (λ (x : Serving). made_of publication says w.moment breaks.request x ≡ Ok (u.after, r)) (sym onward.serving) answer

    made : request_of_sending (sending_in (stage_of onward.course)) w.moment last.tables ≡ Ok (Some (t, breaks.request))
    made = subst (λ (x : Stage). request_of_sending (sending_in x) w.moment last.tables ≡ Ok (Some (t, breaks.request))) onward.stage breaks.is_made

    keyed : t.site ≡ s.site
    keyed = sent-site (sending_in (stage_of onward.course)) w.moment last.tables t breaks.request made ∙ onward.here.own

    served : serving_in (replied_world publication s.site breaks.request u.after r (sent_world s.site t breaks.request onward.world)) ≡ behind publication says w.moment u.request p
    served =
        ap (λ (x : Moment). (let q : Serving = record { publisher = u.after; tallies = tallies_after onward.world.tallies (questions_on publication x breaks.request onward.world.publisher) } in q)) onward.here.moment
        ∙ ap (λ (x : Serving). (let q : Serving = record { publisher = u.after; tallies = tallies_after x.tallies (questions_on publication w.moment breaks.request x.publisher) } in q)) onward.serving
        ∙ sym (ap (λ (x : Result (PublisherTables × Reply) Refusal). (let q : Serving = record { publisher = (tables_and_reply p.publisher x).0; tallies = counted_by x (questions_on publication w.moment breaks.request p.publisher) p.tallies } in q)) answer)
        ∙ ap (λ (x : Request). behind publication says w.moment x p) (sym same-request)

    untaken-stands : (refusal : Refusal) → take_reply publication (by_rows t) w.moment r t ≡ Err refusal
        → StandsAs s.site t (counted last t r last.stage).uploads (counted last t r last.stage).downloads (Some refusal) (behind publication says w.moment u.request p) (session (machine publication says) s.site w)
    untaken-stands refusal untaken =
        let told : World = replied_world publication s.site breaks.request u.after r (sent_world s.site t breaks.request onward.world) in
        stands t (counted last t r last.stage).uploads (counted last t r last.stage).downloads (Some refusal) (behind publication says w.moment u.request p) told (session (machine publication says) s.site w)
        (begins.same ∙ onward.same
        ∙ subst (λ (x : Stage). rest publication says s.site w.moment onward.course (session_with_counts onward.world last.uploads last.downloads) ≡ record { world = told; uploads = (counted (at x last.tables last.uploads last.downloads) t r x).uploads; downloads = (counted (at x last.tables last.uploads last.downloads) t r x).downloads; stop = Some refusal }) (sym onward.stage)
        (untaken-on publication says s.site w.moment onward.world last.tables t breaks.request u.after r last.uploads last.downloads refusal onward.here keyed answer-here untaken onward.course onward.enough (subst IsUnderWay onward.stage u.under_way) made))
        (sent-has s.site t breaks.request onward.world keyed) served

    -- what the response tells is that reply
    told-reply : (told : Told) → Tells (kind_of breaks.request) turn.carried.response told → told ≡ Replied r
    told-reply told tells = one-told (kind_of breaks.request) turn.carried.response r told (kind-fits (kind_of breaks.request) r (answers-kind publication says p.tallies w.moment p.publisher u.after r breaks.request answer)) u.told tells

    abbrev Stops : Type 0
    Stops = SiteStops publication says w s.site t (counted last t r last.stage).uploads (counted last t r last.stage).downloads (behind publication says w.moment u.request p) why

    -- the site did not take it
    left-by : (told : Told) → told ≡ Replied r → IsLeft (taken_by publication turn.now told t) why → Stops ⊎ ((why ≡ fault.NoMemory) ⊎ (why ≡ fault.StoreFault) × WouldAct publication w.moment r t)
    left-by told is (inl e) =
        let out : Outstands t breaks.request = outstands (sending_in last.stage) w.moment last.tables t breaks.request breaks.is_made in
        let refused : Refusing (take_reply publication (by_rows t) w.moment r t) why = reply-refused publication w.moment (kind_of breaks.request) r t why (seq_of breaks.request) out.message out.here
        (answers-number publication says p.tallies w.moment p.publisher u.after r breaks.request answer)
        (answers-kind publication says p.tallies w.moment p.publisher u.after r breaks.request answer) (asks-reply breaks.request)
        (subst (λ (x : Moment). reply_taken publication x r t ≡ Err why) u.now (subst (λ (x : Told). taken_by publication turn.now x t ≡ Err why) is e)) in
        inl (record { refusal = refused.refusal; fault = refused.fault; stands = untaken-stands refused.refusal refused.is })
    left-by told is (inr (store, done)) =
        let here : reply_taken publication w.moment r t ≡ Ok (done.0.0, done.0.1) =
        subst (λ (x : Moment). reply_taken publication x r t ≡ Ok (done.0.0, done.0.1)) u.now (subst (λ (x : Told). taken_by publication turn.now x t ≡ Ok (done.0.0, done.0.1)) is done.1) in
        let acts : WouldAct publication w.moment r t = (done.0.0, (replied-acts publication w.moment r done.0.1 t done.0.0 here).0) in
        inr (inr (store, acts))

    untaken-by : (why ≡ fault.NoMemory) ⊎ ((told : Told) × Tells (kind_of breaks.request) turn.carried.response told × IsLeft (taken_by publication turn.now told t) why)
        → Stops ⊎ ((why ≡ fault.NoMemory) ⊎ (why ≡ fault.StoreFault) × WouldAct publication w.moment r t)
    untaken-by (inl memory) = inr (inl memory)
    untaken-by (inr tells) = left-by tells.0 (told-reply tells.0 tells.1) tells.2

    pub untaken-here : Stops ⊎ ((why ≡ fault.NoMemory) ⊎ (why ≡ fault.StoreFault) × WouldAct publication w.moment r t)
    untaken-here = untaken-by breaks.by

-- what the fault of the session tells
told-stops : (publication : Publication) (address : List ℕ) (last : Session) (t : SubscriberTables) (now : Moment) (turn : Turn) (refusal : Refusal) (why : SessionFault) → Untakes publication address (sending_in last.stage) now turn last.tables t why
    → AreTold turn.carried.response (told_as refusal) → (why ≡ fault.NoMemory) ⊎ (taken_by publication turn.now (Replied (told_as refusal)) t ≡ Err why)
told-stops publication address last t now turn refusal why breaks is = tells-by breaks.by
  where
    left-by : IsLeft (taken_by publication turn.now (Replied (told_as refusal)) t) why → taken_by publication turn.now (Replied (told_as refusal)) t ≡ Err why
    left-by (inl e) = e
    left-by (inr (store, done)) = absurd (refused-stops publication turn.now refusal done.0.1 t done.0.0 done.1)

    tells-by : (why ≡ fault.NoMemory) ⊎ ((told : Told) × Tells (kind_of breaks.request) turn.carried.response told × IsLeft (taken_by publication turn.now told t) why) → (why ≡ fault.NoMemory) ⊎ (taken_by publication turn.now (Replied (told_as refusal)) t ≡ Err why)
    tells-by (inl memory) = inl memory
    tells-by (inr tells) =
        inr (left-by (subst (λ (x : Told). IsLeft (taken_by publication turn.now x t) why) (one-told (kind_of breaks.request) turn.carried.response (told_as refusal) tells.0 (refused-fits (kind_of breaks.request) refusal) is tells.1) tells.2))

-- In a world behind actions ranges are due as the publication says.
has-thresholds : OfEveryValidWorld (λ publication says w. (s : SubscriberTables) → subscriber_at w s.site ≡ Some s → AreThresholds s.held)
has-thresholds resolvers publication valid says tallies slips actions s here =
    thresholds-by-actions publication says tallies slips actions (resolvers, valid) s.site.0 s
    (subst (λ (x : World). subscriber_at x s.site ≡ Some s) (actions-same publication (resolvers, valid) says tallies slips actions).1 here)

pub done-is : OfEveryValidWorld DoneIsTheModels
done-is resolvers publication valid says tallies slips actions address s t steps uploads downloads p met =
    let w : World = world_behind_actions publication says tallies slips actions in
    done-stands publication says w s met.here (behind-by-actions publication says tallies slips actions (resolvers, valid)) (has-thresholds resolvers publication valid says tallies slips actions s met.here) address t steps uploads downloads p met

pub refused-is : OfEveryValidWorld RefusedIsTheModels
refused-is resolvers publication valid says tallies slips actions address s t steps last p turn refusal why met r =
    let w : World = world_behind_actions publication says tallies slips actions in (
      refused-stands publication says w s met.here (behind-by-actions publication says tallies slips actions (resolvers, valid)) (has-thresholds resolvers publication valid says tallies slips actions s met.here) address t steps last p turn refusal why met r,
      told-stops publication address last t w.moment turn refusal why r.breaks r.told,
    )

pub unmade-is : OfEveryValidWorld UnmadeIsTheModels
unmade-is resolvers publication valid says tallies slips actions address s t steps last p why met going breaks =
    let w : World = world_behind_actions publication says tallies slips actions in
    unmade-by publication says w s met.here (behind-by-actions publication says tallies slips actions (resolvers, valid)) (has-thresholds resolvers publication valid says tallies slips actions s met.here) address t steps last p why met going breaks.0 breaks.1

pub untaken-is : OfEveryValidWorld UntakenIsTheModels
untaken-is resolvers publication valid says tallies slips actions address s t steps last p turn r why met u =
    let w : World = world_behind_actions publication says tallies slips actions in
    untaken-here publication says w s met.here (behind-by-actions publication says tallies slips actions (resolvers, valid)) (has-thresholds resolvers publication valid says tallies slips actions s met.here) address t steps last p turn r why met u

pub steps-are : OfEveryValidWorld StepsAreAPart
steps-are resolvers publication valid says tallies slips actions address s steps last p met =
    let w : World = world_behind_actions publication says tallies slips actions in
    steps-pass publication says w s met.here (behind-by-actions publication says tallies slips actions (resolvers, valid)) (has-thresholds resolvers publication valid says tallies slips actions s met.here) address steps last p met

pub cut-is : OfEveryValidWorld CutIsAPart
cut-is resolvers publication valid says tallies slips actions address s t steps last p why met going breaks =
    let w : World = world_behind_actions publication says tallies slips actions in (
      breaks.0.0,
      breaks.0.1,
      cut-stands publication says w s met.here (behind-by-actions publication says tallies slips actions (resolvers, valid)) (has-thresholds resolvers publication valid says tallies slips actions s met.here) address steps last p t breaks.0.0 met breaks.0.1,
    )
