-- From actions to events.
use Rattle.std.proofs.Common.{◌≡◌, ◌≤◌, ◌+◌, [], ℕ, Bool, true, false, List, Option, Some, None, Result, if◌then◌else◌, refl, ap, sym, subst, ◌∙◌, add-zero}
use Rattle.merge_types.specs.declared.identifiers.Moment.{Moment}
use Rattle.merge_types.specs.declared.identifiers.SiteId.{SiteId}
use Rattle.merge_schema.specs.declared.publication.Publication.{Publication}
use Rattle.merge_schema.specs.Places.{is_subscription}
use Rattle.merge_batch.specs.declared.refusal.Refusal.{Refusal}
use Rattle.merge_batch.specs.declared.refusal.Refusal.TheVariants.{NoMemory, UnknownSite}
use Rattle.merge_model.specs.World.Events.{answered_action, answered_by, answered_look, answered_sync, answered_unless_refused, happens, is_site, outcome_answer, session_answer, where_site, where_subscriber}
use Rattle.merge_model.specs.Failing.{Faulty, Slips, faulty}
use Rattle.merge_model.specs.Failing.Reach.{Acts, Reaches, at, stepping, with_outcome}
use Rattle.merge_model.specs.World.Steps.{Action, CloseAt, Deliver, Forget, Look, MakeAnew, Send, SendDownload, SendJoin, SendRanges, SendUpload}
use Rattle.merge_model.specs.World.{Saying, World}
use Rattle.merge_model.specs.declared.letter.Letter.{Letter}
use Rattle.merge_model.specs.declared.answer.Answer.{Answer}
use Rattle.merge_model.specs.declared.answer.Answer.TheVariants.{Done, Now, Refused, Stopped}
use Rattle.merge_model.specs.declared.event.Event.{Event}
use Rattle.merge_model.specs.declared.event.Event.TheVariants as event
use Rattle.merge_model.specs.declared.outcome.Outcome.{Outcome}
use Rattle.merge_model.specs.declared.outcome.Outcome.TheVariants.{Passed, Refuses}
use Rattle.merge_model.proofs.Failing.Calling.{made, wants}
use Rattle.merge_model.proofs.Failing.Reached.{same-start, under}
use Rattle.merge_model.proofs.Failing.ReachedEvents.{synced, waiting}
use Rattle.merge_world.proofs.Doing.{same-count}
use Rattle.merge_world.proofs.Locals.{stays-same}
use Rattle.merge_world.specs.Happenings.{Comes, Happened, Proceeds, seconds_of, send_event}
use Rattle.merge_world.specs.Messages.{sending_of}
use Rattle.merge_world.specs.Sessions.{SitesSync, Syncs, watermark_at}
use Rattle.merge_world.specs.Views.{Does, HandedView, Moves, PublisherView, SitesView, Stays, SubscriberView, sites_view, tables_at, world_of}
use Rattle.merge_world.specs.declared.sending.Sending.{Sending as Told}
use Rattle.merge_world.specs.declared.sending.Sending.TheVariants as told

-- An event that is one action, by what is answered to its outcome.
module _ (p : Publication) (says : Saying) (e : Event) (action : Action) (answer : Outcome → Answer)
    (is : (w : Faulty World) → happens p (stepping p says) w e ≡ answered_by p (stepping p says) answer ((stepping p says).act w action)) where
  pub acted : (w v : World) (outcome : Outcome) (a b : ℕ) → Acts p says action w v outcome a b → Comes p says w e v (answer outcome) a b
  unfolding Acts Comes
  acted w v outcome a b acts = same-start (λ l. happens p (stepping p says) (faulty w l) e) (λ l. answered_by p (stepping p says) answer ((stepping p says).act (faulty w l) action)) (λ l. (faulty v l, answer outcome)) a b
      (λ l. is (faulty w l)) (under (answered_by p (stepping p says) answer) (λ l. (stepping p says).act (faulty w l) action) (with_outcome p says v outcome) a b acts)

-- An event that looks and changes nothing.
module _ (p : Publication) (says : Saying) (e : Event) (answer : Faulty World → Answer) (w : World) (said : Answer) (same : (l : Slips) → answer (faulty w l) ≡ said)
    (is : (l : Slips) → happens p (stepping p says) (faulty w l) e ≡ answered_look p (stepping p says) answer (faulty w l)) where
  by-look : (v : World) (outcome : Outcome) (told : Answer) → ((l : Slips) → answered_unless_refused p (stepping p says) answer (faulty v l, outcome) ≡ (faulty v l, told)) → (a b : ℕ) → Acts p says Look w v outcome a b → Comes p says w e v told a b
  unfolding Acts Comes
  by-look v outcome told tells a b acts = same-start (λ l. happens p (stepping p says) (faulty w l) e) (λ l. answered_look p (stepping p says) answer (faulty w l)) (λ l. (faulty v l, told)) a b is
      (same-end-here v outcome told tells a b acts)
    where
      same-end-here : (v : World) (outcome : Outcome) (told : Answer) → ((l : Slips) → answered_unless_refused p (stepping p says) answer (faulty v l, outcome) ≡ (faulty v l, told)) → (a b : ℕ) → Reaches (λ l. (stepping p says).act (faulty w l) Look) (with_outcome p says v outcome) a b
          → Reaches (λ l. answered_look p (stepping p says) answer (faulty w l)) (λ l. (faulty v l, told)) a b
      same-end-here v outcome told tells a b r = record {
        slips = r.slips;
        goes = λ rest. ap (answered_unless_refused p (stepping p says) answer) (r.goes rest) ∙ tells rest;
        few = r.few;
      }

  pub looks : (a b : ℕ) → a ≤ b → Comes p says w e w said a b
  looks a b le = by-look w Passed said (λ l. ap (λ (x : Answer). (faulty w l, x)) (same l)) a b (made p says Look refl w w Passed a b le refl)

  pub looking-wants : (a b : ℕ) → a ≤ b → Comes p says w e w (Refused NoMemory) a b
  looking-wants a b le = by-look w (Refuses NoMemory) (Refused NoMemory) (λ l. refl) a b (wants p says Look refl w w 0 a b le refl)

-- The same of all sites, with their resolvers.

pub does-happen-as : (e : Event) (action : Action) (answer : Outcome → Answer) (u v : SitesView) (outcome : Outcome) → seconds_of e ≡ 0
    → ((says : Saying) (w : Faulty World) → happens u.publication (stepping u.publication says) w e ≡ answered_by u.publication (stepping u.publication says) answer ((stepping u.publication says).act w action))
    → Does action u v outcome → (h : HandedView) → Happened e u v h h (answer outcome)
does-happen-as e action answer u v outcome none is does h = record {
  comes = acted u.publication h.says e action answer (is h.says) (world_of u h.tallies) (world_of v h.tallies) outcome u.faults v.faults (does.acts h.says h.tallies);
  publication = does.stays.publication;
  sites = does.stays.sites;
  publications = does.stays.publications;
  says = refl;
  moment = let same = does.stays.moment in rw none (ap (λ (m : Moment). m.0) same ∙ sym (add-zero u.moment.0));
}

pub does-happen : (e : Event) (action : Action) (n : ℕ) (u v : SitesView) (outcome : Outcome) → seconds_of e ≡ 0
    → ((says : Saying) (w : Faulty World) → happens u.publication (stepping u.publication says) w e ≡ answered_action u.publication (stepping u.publication says) n action w)
    → Does action u v outcome → (h : HandedView) → Happened e u v h h (outcome_answer n outcome)
does-happen e action n u v outcome none is does h = does-happen-as e action (outcome_answer n) u v outcome none is does h

pub moves-happen : (e : Event) (action : Action) (n : ℕ) (u v : SitesView) (g h : HandedView) (outcome : Outcome) → seconds_of e ≡ 0
    → ((w : Faulty World) → happens u.publication (stepping u.publication g.says) w e ≡ answered_action u.publication (stepping u.publication g.says) n action w)
    → Moves action u v g h outcome → Happened e u v g h (outcome_answer n outcome)
moves-happen e action n u v g h outcome none is moves = record {
  comes = acted u.publication g.says e action (outcome_answer n) is (world_of u g.tallies) (world_of v h.tallies) outcome u.faults v.faults moves.acts;
  publication = moves.keeps.stays.publication;
  sites = moves.keeps.stays.sites;
  publications = moves.keeps.stays.publications;
  says = moves.keeps.says;
  moment = let same = moves.keeps.stays.moment in rw none (ap (λ (m : Moment). m.0) same ∙ sym (add-zero u.moment.0));
}

-- an event that looks at sites, and says of them what it says of any such world
module _ (e : Event) (u : SitesView) (said : Answer) (none : seconds_of e ≡ 0) (answer : Saying → Faulty World → Answer)
    (same : (says : Saying) (tallies : List ℕ) (l : Slips) → answer says (faulty (world_of u tallies) l) ≡ said)
    (is : (says : Saying) (tallies : List ℕ) (l : Slips) → happens u.publication (stepping u.publication says) (faulty (world_of u tallies) l) e ≡ answered_look u.publication (stepping u.publication says) (answer says) (faulty (world_of u tallies) l)) where
  -- their tables stay as they are
  module _ (v : SitesView) (unchanged : (tallies : List ℕ) → world_of v tallies ≡ world_of u tallies) (le : u.faults ≤ v.faults) (stays : Stays u v) (h : HandedView) where
    comes-so : (told : Answer) → Comes u.publication h.says (world_of u h.tallies) e (world_of u h.tallies) told u.faults v.faults → Happened e u v h h told
    comes-so told comes = record {
      comes = subst (λ (w : World). Comes u.publication h.says (world_of u h.tallies) e w told u.faults v.faults) (sym (unchanged h.tallies)) comes;
      publication = stays.publication;
      sites = stays.sites;
      publications = stays.publications;
      says = refl;
      moment = let at = stays.moment in rw none (ap (λ (m : Moment). m.0) at ∙ sym (add-zero u.moment.0));
    }

    pub looks-on : Happened e u v h h said
    looks-on = comes-so said (looks u.publication h.says e (answer h.says) (world_of u h.tallies) said (same h.says h.tallies) (is h.says h.tallies) u.faults v.faults le)

    -- memory is wanting for its answer
    pub wants-on : Happened e u v h h (Refused NoMemory)
    wants-on = comes-so (Refused NoMemory) (looking-wants u.publication h.says e (answer h.says) (world_of u h.tallies) said (same h.says h.tallies) (is h.says h.tallies) u.faults v.faults le)

  -- nothing at all changes
  pub looks-happen : (h : HandedView) → Happened e u u h h said
  looks-happen h = looks-on u (λ tallies. refl) (same-count u.faults) (stays-same u) h

  pub looks-want : (h : HandedView) → Happened e u u h h (Refused NoMemory)
  looks-want h = wants-on u (λ tallies. refl) (same-count u.faults) (stays-same u) h

-- a site that there is not
pub unknown-site : (e : Event) (v : SitesView) (site : SiteId) → seconds_of e ≡ 0
    → ((says : Saying) (tallies : List ℕ) (l : Slips) → happens v.publication (stepping v.publication says) (faulty (world_of v tallies) l) e
    ≡ answered_look v.publication (stepping v.publication says) (λ (w : Faulty World). Refused (UnknownSite site)) (faulty (world_of v tallies) l))
    → (h : HandedView) → Happened e v v h h (Refused (UnknownSite site))
unknown-site e v site none is h = looks-happen e v (Refused (UnknownSite site)) none (λ says w. Refused (UnknownSite site)) (λ says tallies l. refl) is h

-- A session.
sync-comes : (p : Publication) (says : Saying) (site : SiteId) (w v : World) (x y : ℕ) (stop : Option Refusal) (a b : ℕ) → is_subscription p site.0 ≡ true → Syncs p says site w v x y stop a b
    → Comes p says w (event.Sync site) v (session_answer p (stepping p says) site (at p says v x y stop [])) a b
unfolding Comes Syncs
sync-comes p says site w v x y stop a b is r = synced p says site w v x y stop a b is r

module _ (site : SiteId) (u v : SitesView) (g h : HandedView) (x y : ℕ) (is : is_subscription u.publication site.0 ≡ true) where
  abbrev told-so : Option Refusal → Answer
  told-so None = Done x y (watermark_at (tables_at v site))
  told-so (Some refusal) = Stopped x y refusal

  told-as : (stop : Option Refusal) → session_answer u.publication (stepping u.publication g.says) site (at u.publication g.says (world_of v h.tallies) x y stop []) ≡ told-so stop
  told-as None = refl
  told-as (Some refusal) = refl

  pub sync-happens : (stop : Option Refusal) → SitesSync site u v g h x y stop → Happened (event.Sync site) u v g h (told-so stop)
  sync-happens stop synced = record {
    comes = subst (λ (a : Answer). Comes u.publication g.says (world_of u g.tallies) (event.Sync site) (world_of v h.tallies) a u.faults v.faults) (told-as stop)
        (sync-comes u.publication g.says site (world_of u g.tallies) (world_of v h.tallies) x y stop u.faults v.faults is synced.syncs);
    publication = synced.keeps.stays.publication;
    sites = synced.keeps.stays.sites;
    publications = synced.keeps.stays.publications;
    says = synced.keeps.says;
    moment = let same = synced.keeps.stays.moment in ap (λ (m : Moment). m.0) same ∙ sym (add-zero u.moment.0);
  }

-- Events of a site that there must be.
abbrev pub where-if : (p : Publication) (says : Saying) (site : SiteId) (w : Faulty World) → (Faulty World → Faulty World × Answer) → Bool → Faulty World × Answer
where-if p says site w next there = if there then next w else answered_look p (stepping p says) (λ (v : Faulty World). Refused (UnknownSite site)) w

module _ (e : Event) (site : SiteId) (action : Action) (u : SitesView) (none : seconds_of e ≡ 0) where
  -- one that is no publisher
  module _ (same : (says : Saying) (w : Faulty World) → happens u.publication (stepping u.publication says) w e ≡ where_subscriber u.publication (stepping u.publication says) site w (answered_action u.publication (stepping u.publication says) 0 action)) where
    pub subscriber-acts : is_subscription u.publication site.0 ≡ true → (v : SitesView) (outcome : Outcome) → Does action u v outcome → (h : HandedView) → Happened e u v h h (outcome_answer 0 outcome)
    subscriber-acts is v outcome does h = does-happen e action 0 u v outcome none
        (λ says w. same says w ∙ ap (where-if u.publication says site w (answered_action u.publication (stepping u.publication says) 0 action)) is) does h

    pub no-subscriber : is_subscription u.publication site.0 ≡ false → (h : HandedView) → Happened e u u h h (Refused (UnknownSite site))
    no-subscriber is h = unknown-site e u site none
        (λ says tallies l. same says (faulty (world_of u tallies) l) ∙ ap (where-if u.publication says site (faulty (world_of u tallies) l) (answered_action u.publication (stepping u.publication says) 0 action)) is) h

  -- any
  module _ (same : (says : Saying) (w : Faulty World) → happens u.publication (stepping u.publication says) w e ≡ where_site u.publication (stepping u.publication says) site w (answered_action u.publication (stepping u.publication says) 0 action)) where
    pub site-acts : is_site u.publication site ≡ true → (v : SitesView) (outcome : Outcome) → Does action u v outcome → (h : HandedView) → Happened e u v h h (outcome_answer 0 outcome)
    site-acts is v outcome does h = does-happen e action 0 u v outcome none
        (λ says w. same says w ∙ ap (where-if u.publication says site w (answered_action u.publication (stepping u.publication says) 0 action)) is) does h

    pub no-site : is_site u.publication site ≡ false → (h : HandedView) → Happened e u u h h (Refused (UnknownSite site))
    no-site is h = unknown-site e u site none
        (λ says tallies l. same says (faulty (world_of u tallies) l) ∙ ap (where-if u.publication says site (faulty (world_of u tallies) l) (answered_action u.publication (stepping u.publication says) 0 action)) is) h

pub so-answered : (e : Event) (u v : SitesView) (g h : HandedView) (answer answer' : Answer) → answer ≡ answer' → Happened e u v g h answer' → Happened e u v g h answer
so-answered e u v g h answer answer' same happened = subst (λ (a : Answer). Happened e u v g h a) (sym same) happened

-- the event in other words
pub event-so : (e e' : Event) (u v : SitesView) (g h : HandedView) (answer : Answer) → e ≡ e' → Happened e' u v g h answer → Happened e u v g h answer
event-so e e' u v g h answer same happened = subst (λ (x : Event). Happened x u v g h answer) (sym same) happened

pub proceeds-so : (e e' : Event) (u v : SitesView) (g h : HandedView) (result : Result Answer Refusal) → e ≡ e' → Proceeds e' u v g h result → Proceeds e u v g h result
proceeds-so e e' u v g h result same proceeds = subst (λ (x : Event). Proceeds x u v g h result) (sym same) proceeds

pub so-refused : (e : Event) (u : SitesView) (h : HandedView) (site : SiteId) (why : Refusal) → why ≡ UnknownSite site → Happened e u u h h (Refused (UnknownSite site)) → Happened e u u h h (Refused why)
so-refused e u h site why same happened = subst (λ (r : Refusal). Happened e u u h h (Refused r)) (sym same) happened

-- The events by name.
module _ (site : SiteId) (u : SitesView) where
  pub send-happens : (sending : Told) → is_subscription u.publication site.0 ≡ true → (v : SitesView) (outcome : Outcome) → Does (Send site (sending_of sending)) u v outcome → (h : HandedView)
      → Happened (send_event sending site) u v h h (outcome_answer 0 outcome)
  send-happens told.Join is v outcome does h = subscriber-acts (event.SendJoin site) site (Send site SendJoin) u refl (λ says w. refl) is v outcome does h
  send-happens told.Upload is v outcome does h = subscriber-acts (event.SendUpload site) site (Send site SendUpload) u refl (λ says w. refl) is v outcome does h
  send-happens told.Ranges is v outcome does h = subscriber-acts (event.SendRanges site) site (Send site SendRanges) u refl (λ says w. refl) is v outcome does h
  send-happens told.Download is v outcome does h = subscriber-acts (event.SendDownload site) site (Send site SendDownload) u refl (λ says w. refl) is v outcome does h

  pub send-refused : (sending : Told) → is_subscription u.publication site.0 ≡ false → (h : HandedView) → Happened (send_event sending site) u u h h (Refused (UnknownSite site))
  send-refused told.Join is h = no-subscriber (event.SendJoin site) site (Send site SendJoin) u refl (λ says w. refl) is h
  send-refused told.Upload is h = no-subscriber (event.SendUpload site) site (Send site SendUpload) u refl (λ says w. refl) is h
  send-refused told.Ranges is h = no-subscriber (event.SendRanges site) site (Send site SendRanges) u refl (λ says w. refl) is h
  send-refused told.Download is h = no-subscriber (event.SendDownload site) site (Send site SendDownload) u refl (λ says w. refl) is h

  pub reinit-happens : is_subscription u.publication site.0 ≡ true → (v : SitesView) (outcome : Outcome) → Does (MakeAnew site) u v outcome → (h : HandedView) → Happened (event.Reinit site) u v h h (outcome_answer 0 outcome)
  reinit-happens is v outcome does h = subscriber-acts (event.Reinit site) site (MakeAnew site) u refl (λ says w. refl) is v outcome does h

  pub reinit-refused : is_subscription u.publication site.0 ≡ false → (h : HandedView) → Happened (event.Reinit site) u u h h (Refused (UnknownSite site))
  reinit-refused is h = no-subscriber (event.Reinit site) site (MakeAnew site) u refl (λ says w. refl) is h

  pub close-happens : is_site u.publication site ≡ true → (v : SitesView) (outcome : Outcome) → Does (CloseAt site) u v outcome → (h : HandedView) → Happened (event.Close site) u v h h (outcome_answer 0 outcome)
  close-happens is v outcome does h = site-acts (event.Close site) site (CloseAt site) u refl (λ says w. refl) is v outcome does h

  pub close-refused : is_site u.publication site ≡ false → (h : HandedView) → Happened (event.Close site) u u h h (Refused (UnknownSite site))
  close-refused is h = no-site (event.Close site) site (CloseAt site) u refl (λ says w. refl) is h

  abbrev sync-if : (says : Saying) → Faulty World → Bool → Faulty World × Answer
  sync-if says w there = if there then answered_sync u.publication (stepping u.publication says) site w else answered_look u.publication (stepping u.publication says) (λ (v : Faulty World). Refused (UnknownSite site)) w

  pub sync-refused : is_subscription u.publication site.0 ≡ false → (h : HandedView) → Happened (event.Sync site) u u h h (Refused (UnknownSite site))
  sync-refused is h = unknown-site (event.Sync site) u site refl (λ says tallies l. ap (sync-if says (faulty (world_of u tallies) l)) is) h

pub purge-happens : (u v : SitesView) (outcome : Outcome) → Does Forget u v outcome → (h : HandedView) → Happened event.Purge u v h h (outcome_answer 0 outcome)
purge-happens u v outcome does h = does-happen event.Purge Forget 0 u v outcome refl (λ says w. refl) does h

pub deliver-happens : (number : ℕ) (u v : SitesView) (g h : HandedView) (outcome : Outcome) → Moves (Deliver number) u v g h outcome → Happened (event.Deliver number) u v g h (outcome_answer number outcome)
deliver-happens number u v g h outcome moves = moves-happen (event.Deliver number) (Deliver number) number u v g h outcome refl (λ w. refl) moves

-- the passing of time
wait-comes : (p : Publication) (says : Saying) (seconds : ℕ) (w : World) (a : ℕ) → Comes p says w (event.Wait seconds) (record w { moment = record { 0 = w.moment.0 + seconds } }) (Now (w.moment.0 + seconds)) a a
unfolding Comes
wait-comes p says seconds w a = waiting p says seconds w a

pub wait-happens : (p : PublisherView) (ss : List SubscriberView) (pool : List Letter) (moment : Moment) (seconds : ℕ) (h : HandedView)
    → Happened (event.Wait seconds) (sites_view p ss pool moment) (sites_view p ss pool (record { 0 = moment.0 + seconds })) h h (Now (moment.0 + seconds))
wait-happens p ss pool moment seconds h = record {
  comes = wait-comes p.publication h.says seconds (world_of (sites_view p ss pool moment) h.tallies) (sites_view p ss pool moment).faults;
  publication = refl;
  sites = refl;
  publications = refl;
  says = refl;
  moment = refl;
}
