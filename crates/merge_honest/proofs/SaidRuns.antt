-- What every step keeps that an event says is kept by every list of events, in which steps may fail: as of all steps, but a local
-- change is of an article that there is.
use Rattle.std.specs.Prelude.{Bool, Err, IfOk, List, None, Ok, Option, Result, Some, [], false, if◌then◌else◌, is_some, nat_le, refl, slice_get, suc, take, true, zero, ℕ, ◌+◌, ◌-◌, ◌≡◌, ◌≤◌, ◌∷◌}
use Rattle.std.proofs.Common.{ap, arith, subst, sym, ◌∙◌}
use Rattle.merge_types.specs.declared.changes.Change.{Change}
use Rattle.merge_types.specs.declared.changes.Change.TheVariants.{Delete, Insert, Update}
use Rattle.merge_types.specs.declared.changes.Setting.{Setting}
use Rattle.merge_types.specs.declared.identifiers.RowId.{RowId}
use Rattle.merge_types.specs.declared.identifiers.SiteId.{SiteId}
use Rattle.merge_resolve.specs.Asked.{tallies_after}
use Rattle.merge_schema.specs.Places.{is_subscription}
use Rattle.merge_schema.specs.declared.publication.Article.{Article}
use Rattle.merge_schema.specs.declared.publication.Publication.{Publication}
use Rattle.merge_batch.specs.Articles.{has_article}
use Rattle.merge_batch.specs.LocalChanges.{article_of}
use Rattle.merge_batch.specs.declared.refusal.Refusal.{Refusal}
use Rattle.merge_batch.specs.declared.refusal.Refusal.TheVariants.{UnknownName, UnknownSite}
use Rattle.merge_batch.specs.declared.reply.Downloaded.{Downloaded}
use Rattle.merge_model.specs.World.Events.{after, answered_action, answered_change, answered_look, answered_sync, happens, is_site, where_site, where_subscriber}
use Rattle.merge_model.specs.Failing.{Faulty, Slip, Slips, acting_with, fails, faulty_stepping, is_allowed, questions_by, slip_if}
use Rattle.merge_model.specs.Laws.{is_report}
use Rattle.merge_model.specs.Script.Literals.{same}
use Rattle.merge_model.specs.World.Naming.{and_then, article_by, delete_by, insert_by, place_from, settings_by, update_by}
use Rattle.merge_model.specs.Tables.Publications.{columns_at}
use Rattle.merge_model.specs.World.Session.{Session, Stepping, after_download, all_downloads, all_ranges, all_uploads, answered_as, as_it_is, ask, downloaded_in, downloads_up_to, exchange, has_grant, is_joined_in, join_if_due, last_message, range_asks, range_requests_up_to, session, session_after_reply, then_deliver, unless_stopped, unsent_generations, uploads_up_to, with_answer, with_download, with_upload}
use Rattle.merge_model.specs.World.Steps.{Action, CloseAt, Deliver, Forget, Look, Make, MakeAnew, Pass, Send, SendDownload, SendJoin, SendRanges, SendUpload, Sending}
use Rattle.merge_model.specs.declared.answer.Answer.{Answer}
use Rattle.merge_model.specs.declared.answer.Answer.TheVariants.{Refused}
use Rattle.merge_model.specs.declared.event.Event.{Event}
use Rattle.merge_model.specs.declared.event.Event.TheVariants as event
use Rattle.merge_model.specs.declared.event.NamedValue.{NamedValue}
use Rattle.merge_model.specs.declared.outcome.Outcome.{Outcome}
use Rattle.merge_model.specs.declared.outcome.Outcome.TheVariants.{Posted, Refuses, Took}
use Rattle.merge_model.proofs.Runs.Reports.{looking-leaves, report-looks}

-- a step that an event can say
abbrev pub IsSaid : Publication → Action → Type 0
IsSaid publication (Make site change) = has_article publication (article_of change) ≡ true
IsSaid publication action = Unit {0}

-- Names become places of articles that there are.

placed-by : (b : Bool) (place n : ℕ) (rest : Option ℕ) (P : ℕ → Type 0) → P n → (rest ≡ Some place → P place) → (if b then Some n else rest) ≡ Some place → P place
placed-by true place n rest P here later is = (let alike : n ≡ place = cc in subst P alike here)
placed-by false place n rest P here later is = later is

place-within : (test : Article → Bool) (n : ℕ) (articles : List Article) (place : ℕ) → place_from n test articles ≡ Some place → (n ≤ place) × (is_some (slice_get articles (place - n)) ≡ true)
place-within test n [] place is = absurd cc
place-within test n (article ∷ articles) place is =
    placed-by (test article) place n (place_from (n + 1) test articles) (λ (p : ℕ). (n ≤ p) × (is_some (slice_get (article ∷ articles) (p - n)) ≡ true))
    (omega arith, (let none : n - n ≡ 0 = omega arith in ap (λ (k : ℕ). is_some (slice_get (article ∷ articles) k)) none))
    (λ later. (let rest = place-within test (n + 1) articles place later in let low = rest.0 in
    (omega (arith, low), ap (λ (k : ℕ). is_some (slice_get (article ∷ articles) k)) (let next : place - n ≡ suc (place - (n + 1)) = omega (arith, low) in next) ∙ rest.1))) is

found-article : (publication : Publication) (found : Option ℕ) (name : List ℕ) → ((place : ℕ) → found ≡ Some place → has_article publication place ≡ true)
    → (let named : Result ℕ (List ℕ) = elim found [ None ↦ Err name | Some place ↦ Ok place ] in IfOk named (λ article. has_article publication article ≡ true))
found-article publication None name has = tt
found-article publication (Some place) name has = has place refl

article-said : (publication : Publication) (name : List ℕ) → IfOk (article_by publication name) (λ article. has_article publication article ≡ true)
article-said publication name = found-article publication (place_from 0 (λ (article : Article). same article.name name) publication.articles) name
    (λ place is. (let within = place-within (λ (article : Article). same article.name name) 0 publication.articles place is in ap (λ (k : ℕ). is_some (slice_get publication.articles k)) (let alike : place ≡ place - 0 = omega arith in alike) ∙ within.1))

then-said : {A B : Type 0} (P : A → Type 0) (Q : B → Type 0) (first : Result A (List ℕ)) (next : A → Result B (List ℕ)) → IfOk first P → ((a : A) → P a → IfOk (next a) Q) → IfOk (and_then first next) Q
then-said P Q (Ok a) next is more = more a is
then-said P Q (Err name) next is more = tt

any-said : {A : Type 0} (first : Result A (List ℕ)) → IfOk first (λ a. Unit {0})
any-said (Ok a) = tt
any-said (Err name) = tt

insert-said : (publication : Publication) (site : SiteId) (name : List ℕ) (values : List NamedValue) → IfOk (insert_by publication name values) (λ change. IsSaid publication (Make site change))
insert-said publication site name values =
    then-said (λ (article : ℕ). has_article publication article ≡ true) (λ (change : Change). IsSaid publication (Make site change)) (article_by publication name) _ (article-said publication name)
    (λ article has. then-said (λ (settings : List Setting). Unit {0}) (λ (change : Change). IsSaid publication (Make site change)) (settings_by (columns_at publication article) values) (λ (settings : List Setting). Ok (Insert article settings)) (any-said (settings_by (columns_at publication article) values)) (λ settings any. has))

update-said : (publication : Publication) (site : SiteId) (name : List ℕ) (row : RowId) (values : List NamedValue) → IfOk (update_by publication name row values) (λ change. IsSaid publication (Make site change))
update-said publication site name row values =
    then-said (λ (article : ℕ). has_article publication article ≡ true) (λ (change : Change). IsSaid publication (Make site change)) (article_by publication name) _ (article-said publication name)
    (λ article has. then-said (λ (settings : List Setting). Unit {0}) (λ (change : Change). IsSaid publication (Make site change)) (settings_by (columns_at publication article) values) (λ (settings : List Setting). Ok (Update article row settings)) (any-said (settings_by (columns_at publication article) values)) (λ settings any. has))

delete-said : (publication : Publication) (site : SiteId) (name : List ℕ) (row : RowId) → IfOk (delete_by publication name row) (λ change. IsSaid publication (Make site change))
delete-said publication site name row =
    then-said (λ (article : ℕ). has_article publication article ≡ true) (λ (change : Change). IsSaid publication (Make site change)) (article_by publication name) (λ (article : ℕ). Ok (Delete article row)) (article-said publication name) (λ article has. has)

-- Sessions, events, and events whose steps may fail.

module _ {W : Type 0} (publication : Publication) (stepping : Stepping W) (P : W → Type 0) (of_act : (w : W) (action : Action) → IsSaid publication action → P w → P (stepping.act w action).0) where
  module _ (site : SiteId) where
    then_deliver-keeps : (made : W × Outcome) → P made.0 → P (then_deliver stepping site made).0
    then_deliver-keeps (w, Posted number) h = of_act w (Deliver number) tt h
    then_deliver-keeps (w, outcome) h = h

    ask-keeps : (sending : Sending) (w : W) → P w → P (ask stepping site sending w).0
    ask-keeps sending w h = then_deliver-keeps (stepping.act w (Send site sending)) (of_act w (Send site sending) tt h)

    -- a part of a session keeps it
    abbrev Keeps : (Session W → Session W) → Type 0
    Keeps next = (t : Session W) → P t.world → P (next t).world

    arrived-keeps : (next : Session W → Session W) (s : Session W) (made : W × Outcome) → Keeps next → P made.0 → P (session_after_reply stepping site next s made).world
    arrived-keeps next s (w, Took taken) more h = more (record s { world = w }) h
    arrived-keeps next s (w, Refuses refusal) more h = h
    arrived-keeps next s (w, outcome) more h = h

    answered_as-keeps : (counted next : Session W → Session W) (s : Session W) (made : W × Outcome) → ((t : Session W) → (counted t).world ≡ t.world) → Keeps next → P made.0 → P (answered_as stepping site counted next s made).world
    answered_as-keeps counted next s (w, Posted number) counts more h = arrived-keeps next (counted (record s { world = w })) (stepping.act w (Deliver number)) more (of_act w (Deliver number) tt h)
    answered_as-keeps counted next s (w, Refuses refusal) counts more h = h
    answered_as-keeps counted next s (w, outcome) counts more h = h

    exchange-keeps : (sending : Sending) (counted next : Session W → Session W) (s : Session W) → ((t : Session W) → (counted t).world ≡ t.world) → Keeps next → P s.world → P (exchange stepping site sending counted next s).world
    exchange-keeps sending counted next s counts more h = answered_as-keeps counted next s (ask stepping site sending s.world) counts more (ask-keeps sending s.world h)

    unless_stopped-keeps : (next : Session W → Session W) (s : Session W) → ((t : Session W) → P t.world → P (next t).world) → P s.world → P (unless_stopped stepping site next s).world
    unless_stopped-keeps next s more h = elim s.stop as (λ (stop : Option Refusal). (let t : Session W = elim stop [ Some refusal ↦ s | None ↦ next s ] in P t.world)) [
      | Some refusal ↦ h
      | None ↦ more s h
    ]

    if-keeps : (b : Bool) (x y : Session W) → P x.world → P y.world → P (if b then x else y).world
    if-keeps true x y first second = first
    if-keeps false x y first second = second

    joining-keeps : (s : Session W) → P s.world → P (join_if_due stepping site s).world
    joining-keeps s h = if-keeps (is_joined_in stepping site s.world) s (exchange stepping site SendJoin (as_it_is stepping site) (as_it_is stepping site) s) h
        (exchange-keeps SendJoin (as_it_is stepping site) (as_it_is stepping site) s (λ t. refl) (λ t k. k) h)

    uploading-keeps : (n : ℕ) (s : Session W) → P s.world → P (uploads_up_to stepping site n s).world
    uploading-keeps zero s h = h
    uploading-keeps (suc n) s h = exchange-keeps SendUpload (with_upload stepping site) (uploads_up_to stepping site n) s (λ t. refl) (uploading-keeps n) h

    asking-keeps : (n : ℕ) (s : Session W) → P s.world → P (range_requests_up_to stepping site n s).world
    asking-keeps zero s h = h
    asking-keeps (suc n) s h = exchange-keeps SendRanges (as_it_is stepping site) (λ (t : Session W). if has_grant stepping site (last_message stepping site t.world) then range_requests_up_to stepping site n t else t) s (λ t. refl)
        (λ t k. if-keeps (has_grant stepping site (last_message stepping site t.world)) (range_requests_up_to stepping site n t) t (asking-keeps n t k) k) h

    with_answer-stays : (s : Session W) → (with_answer stepping site s).world ≡ s.world
    with_answer-stays s = of (downloaded_in stepping site (last_message stepping site s.world))
      where
        of : (found : Option Downloaded) → (let t : Session W = elim found [ None ↦ s | Some m ↦ with_download stepping site m s ] in t.world) ≡ s.world
        of None = refl
        of (Some m) = refl

    after_download-keeps : (next : Downloaded → Session W → Session W) (s : Session W) → ((m : Downloaded) → Keeps (next m)) → P s.world → P (after_download stepping site next s).world
    after_download-keeps next s more h = elim (downloaded_in stepping site (last_message stepping site s.world))
        as (λ (found : Option Downloaded). (let t : Session W = elim found [ None ↦ s | Some m ↦ next m s ] in P t.world)) [
          | None ↦ h
          | Some m ↦ more m s h
        ]

    -- a download, and what goes on by its reply
    download-keeps : (next : Downloaded → Session W → Session W) (s : Session W) → ((m : Downloaded) → Keeps (next m)) → P s.world → P (exchange stepping site SendDownload (with_answer stepping site) (after_download stepping site next) s).world
    download-keeps next s more h = exchange-keeps SendDownload (with_answer stepping site) (after_download stepping site next) s with_answer-stays (λ t k. after_download-keeps next t more k) h

    downloading-keeps : (n target : ℕ) (s : Session W) → P s.world → P (downloads_up_to stepping site n target s).world
    downloading-keeps zero target s h = h
    downloading-keeps (suc n) target s h = download-keeps (λ (m : Downloaded) (t : Session W). if nat_le target m.from then t else downloads_up_to stepping site n target t) s
        (λ m u j. if-keeps (nat_le target m.from) u (downloads_up_to stepping site n target u) j (downloading-keeps n target u j)) h

    downloads-keep : (s : Session W) → P s.world → P (all_downloads stepping site s).world
    downloads-keep s h = download-keeps (λ (m : Downloaded) (t : Session W). if nat_le m.last m.from then t else downloads_up_to stepping site (m.last + 1 - m.from) m.last t) s
        (λ m u j. if-keeps (nat_le m.last m.from) u (downloads_up_to stepping site (m.last + 1 - m.from) m.last u) j (downloading-keeps (m.last + 1 - m.from) m.last u j)) h

    start_of : W → Session W
    start_of w = record {
      world = w;
      uploads = 0;
      downloads = 0;
      stop = None;
    }

    session-said : (w : W) → P w → P (session stepping site w).world
    session-said w h =
        let joined : Session W = join_if_due stepping site (record { world = w; uploads = 0; downloads = 0; stop = None }) in
        let sent : Session W = unless_stopped stepping site (all_uploads stepping site) joined in
        let ranged : Session W = unless_stopped stepping site (all_ranges stepping site) sent in
        unless_stopped-keeps (all_downloads stepping site) ranged downloads-keep
        (unless_stopped-keeps (all_ranges stepping site) sent (λ s k. asking-keeps (range_asks stepping site s.world) s k)
        (unless_stopped-keeps (all_uploads stepping site) joined (λ s k. uploading-keeps (unsent_generations stepping site s.world) s k)
        (joining-keeps (record { world = w; uploads = 0; downloads = 0; stop = None }) h)))

module _ {W : Type 0} (publication : Publication) (stepping : Stepping W) (P : W → Type 0) (of_act : (w : W) (action : Action) → IsSaid publication action → P w → P (stepping.act w action).0) where
  answer-keeps : (b : Bool) (x y : W × Answer) → P x.0 → P y.0 → P (if b then x else y).0
  answer-keeps true x y first second = first
  answer-keeps false x y first second = second

  looking-keeps : (w : W) (answer : W → Answer) → P w → P (answered_look publication stepping answer w).0
  looking-keeps w answer h = subst (λ (v : W). P v) (sym (looking-leaves publication stepping answer w)) (of_act w Look tt h)

  site-keeps : (site : SiteId) (w : W) (next : W → W × Answer) → P (next w).0 → P w → P (where_site publication stepping site w next).0
  site-keeps site w next keeps h = answer-keeps (is_site publication site) (next w) (answered_look publication stepping (λ (v : W). Refused (UnknownSite site)) w) keeps (looking-keeps w (λ (v : W). Refused (UnknownSite site)) h)

  subscriber-keeps : (site : SiteId) (w : W) (next : W → W × Answer) → P (next w).0 → P w → P (where_subscriber publication stepping site w next).0
  subscriber-keeps site w next keeps h = answer-keeps (is_subscription publication site.0) (next w) (answered_look publication stepping (λ (v : W). Refused (UnknownSite site)) w) keeps (looking-keeps w (λ (v : W). Refused (UnknownSite site)) h)

  changing-keeps : (site : SiteId) (w : W) (named : Result Change (List ℕ)) → IfOk named (λ change. IsSaid publication (Make site change)) → P w → P (answered_change publication stepping site w named).0
  changing-keeps site w (Err name) said h = looking-keeps w (λ (v : W). Refused (UnknownName name)) h
  changing-keeps site w (Ok change) said h = of_act w (Make site change) said h

  report-keeps : (w : W) (e : Event) → is_report e ≡ true → P w → P (happens publication stepping w e).0
  report-keeps w e is h = subst (λ (v : W). P v) (sym (report-looks publication stepping w e is)) (of_act w Look tt h)

  event-keeps : (w : W) (e : Event) → P w → P (happens publication stepping w e).0
  event-keeps w (event.Wait seconds) h = of_act w (Pass seconds) tt h
  event-keeps w (event.Insert site article values) h = site-keeps site w (λ (v : W). answered_change publication stepping site v (insert_by publication article values)) (changing-keeps site w (insert_by publication article values) (insert-said publication site article values) h) h
  event-keeps w (event.Update site article row values) h = site-keeps site w (λ (v : W). answered_change publication stepping site v (update_by publication article row values)) (changing-keeps site w (update_by publication article row values) (update-said publication site article row values) h) h
  event-keeps w (event.Delete site article row) h = site-keeps site w (λ (v : W). answered_change publication stepping site v (delete_by publication article row)) (changing-keeps site w (delete_by publication article row) (delete-said publication site article row) h) h
  event-keeps w (event.Close site) h = site-keeps site w (answered_action publication stepping 0 (CloseAt site)) (of_act w (CloseAt site) tt h) h
  event-keeps w (event.Sync site) h = subscriber-keeps site w (answered_sync publication stepping site) (session-said publication stepping P of_act site w h) h
  event-keeps w (event.SendJoin site) h = subscriber-keeps site w (answered_action publication stepping 0 (Send site SendJoin)) (of_act w (Send site SendJoin) tt h) h
  event-keeps w (event.SendUpload site) h = subscriber-keeps site w (answered_action publication stepping 0 (Send site SendUpload)) (of_act w (Send site SendUpload) tt h) h
  event-keeps w (event.SendRanges site) h = subscriber-keeps site w (answered_action publication stepping 0 (Send site SendRanges)) (of_act w (Send site SendRanges) tt h) h
  event-keeps w (event.SendDownload site) h = subscriber-keeps site w (answered_action publication stepping 0 (Send site SendDownload)) (of_act w (Send site SendDownload) tt h) h
  event-keeps w (event.Deliver number) h = of_act w (Deliver number) tt h
  event-keeps w (event.Reinit site) h = subscriber-keeps site w (answered_action publication stepping 0 (MakeAnew site)) (of_act w (MakeAnew site) tt h) h
  event-keeps w event.Purge h = of_act w Forget tt h
  event-keeps w (event.Restart site) h = report-keeps w (event.Restart site) refl h
  event-keeps w (event.Show site article) h = report-keeps w (event.Show site article) refl h
  event-keeps w (event.Partition site) h = report-keeps w (event.Partition site) refl h
  event-keeps w (event.Conflicts site) h = report-keeps w (event.Conflicts site) refl h
  event-keeps w (event.Ranges site) h = report-keeps w (event.Ranges site) refl h
  event-keeps w (event.Generations site) h = report-keeps w (event.Generations site) refl h
  event-keeps w (event.Count site) h = report-keeps w (event.Count site) refl h

  events-said : (events : List Event) (w : W) → P w → P (after publication stepping w events)
  events-said [] w h = h
  events-said (e ∷ events) w h = events-said events (happens publication stepping w e).0 (event-keeps w e h)

module _ {W : Type 0} (publication : Publication) (stepping : Stepping W) (P : W → Type 0) (of_act : (w : W) (action : Action) → IsSaid publication action → P w → P (stepping.act w action).0) (of_tallies : (w : W) (tallies : List ℕ) → P w → P (stepping.retally tallies w)) where
  slip-keeps : (allowed : Bool) (slips : Slips) (slip : Slip) (action : Action) (w : W) (done : W × Outcome) → P w → P done.0 → P (slip_if publication stepping allowed slips slip action w done).0.world
  slip-keeps true slips slip action w done before after = of_tallies w (tallies_after (stepping.look w).tallies (take slip.asked (questions_by publication (stepping.look w) action done.1))) before
  slip-keeps false slips slip action w done before after = after

  acting-keeps : (slips : Slips) (action : Action) (w : W) (done : W × Outcome) → P w → P done.0 → P (acting_with publication stepping slips action w done).0.world
  acting-keeps [] action w done before after = after
  acting-keeps (None ∷ slips) action w done before after = after
  acting-keeps (Some slip ∷ slips) action w done before after = slip-keeps (is_allowed publication (stepping.look w) action slip done.1) slips slip action w done before after

  fails-keep : (f : Faulty W) (action : Action) → IsSaid publication action → P f.world → P (fails publication stepping f action).0.world
  fails-keep f (Pass seconds) said h = of_act f.world (Pass seconds) said h
  fails-keep f (Make site change) said h = acting-keeps f.slips (Make site change) f.world (stepping.act f.world (Make site change)) h (of_act f.world (Make site change) said h)
  fails-keep f (CloseAt site) said h = acting-keeps f.slips (CloseAt site) f.world (stepping.act f.world (CloseAt site)) h (of_act f.world (CloseAt site) said h)
  fails-keep f (Send site sending) said h = acting-keeps f.slips (Send site sending) f.world (stepping.act f.world (Send site sending)) h (of_act f.world (Send site sending) said h)
  fails-keep f (Deliver number) said h = acting-keeps f.slips (Deliver number) f.world (stepping.act f.world (Deliver number)) h (of_act f.world (Deliver number) said h)
  fails-keep f (MakeAnew site) said h = acting-keeps f.slips (MakeAnew site) f.world (stepping.act f.world (MakeAnew site)) h (of_act f.world (MakeAnew site) said h)
  fails-keep f Forget said h = acting-keeps f.slips Forget f.world (stepping.act f.world Forget) h (of_act f.world Forget said h)
  fails-keep f Look said h = acting-keeps f.slips Look f.world (stepping.act f.world Look) h (of_act f.world Look said h)

  pub runs-said : (events : List Event) (f : Faulty W) → P f.world → P (after publication (faulty_stepping publication stepping) f events).world
  runs-said events f h = events-said publication (faulty_stepping publication stepping) (λ (g : Faulty W). P g.world) fails-keep events f h
