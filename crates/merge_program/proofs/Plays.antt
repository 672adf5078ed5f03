-- How a run ends whose script is played on sites that have done nothing.
use Rattle.std.proofs.Common.{Err, List, None, Ok, Option, Result, Some, [], arith, false, inl, inr, refl, subst, sym, ◌+◌, ◌∙◌, ◌∷◌, ◌≡◌, ◌≤◌, ℕ, count_by}
use Rattle.std.specs.List.{list_any}
use Rattle.std.specs.Prelude.{OnOk}
use Rattle.merge_types.specs.declared.identifiers.SiteId.{SiteId}
use Rattle.merge_ports.specs.Entries.{Map}
use Rattle.merge_ports.specs.Faults.{Rose}
use Rattle.merge_schema.specs.Valid.{IsValid}
use Rattle.merge_schema.specs.declared.publication.Publication.{Publication}
use Rattle.merge_batch.specs.declared.refusal.Refusal.{Refusal}
use Rattle.merge_batch.specs.declared.refusal.Refusal.TheVariants as refusal
use Rattle.merge_model.specs.Failing.Reach.{is_store_fault}
use Rattle.merge_model.specs.Failing.Runs.{model_behind}
use Rattle.merge_model.specs.Laws.SlipLaws.{FailuresShow, is_slip, shows_refusal}
use Rattle.merge_model.specs.Script.Reading.{events_of, fault_of}
use Rattle.merge_model.specs.World.{empty_world}
use Rattle.merge_model.specs.World.Events.{is_site}
use Rattle.merge_model.specs.declared.answer.Answer.{Answer}
use Rattle.merge_model.specs.declared.event.Event.{Event}
use Rattle.merge_model.specs.declared.event.Event.TheVariants.{Restart}
use Rattle.merge_typed.specs.Outside.{EventsAreTyped}
use Rattle.merge_stored.specs.TypedRuns.{OfEveryValidTypedRun, StoresLoad}
use Rattle.merge_world.specs.Playing.{AllHappened}
use Rattle.merge_world.specs.Restarts.{IsLost}
use Rattle.merge_world.specs.Views.{HandedView, SitesView, world_of}
use Rattle.merge_world.proofs.Playings.{played-runs}
use Rattle.merge_promises.specs.Promises.{OfEveryRunPromised}
use Rattle.merge_play.specs.Played.{Played, PlayedInPart, PlayedToRestart}
use Rattle.merge_play.specs.declared.stop.Stop.{Stop}
use Rattle.merge_play.specs.declared.stop.Stop.TheVariants as stop
use Rattle.merge_program.specs.declared.ending.Ending.{Ending}
use Rattle.merge_program.specs.declared.ending.Ending.TheVariants.{BadReply, Damaged, Declined, Done, Expired, LinkFault, NoEvent, NoMemory, NotTaken, ReadFault, Refused, StoreFault, TooLong, UnknownArticle, UnknownSite, Usage, WriteFault}
use Rattle.merge_program.specs.Endings.{stopped_by}
use Rattle.merge_program.specs.Stopping.{played_by}
use Rattle.merge_program.specs.Fresh.{fresh_view}
use Rattle.merge_program.specs.Headline.{AnsweredInPart, AnsweredToRestart, IsRun, PlayEnds, RunIsWritten, Sides}
use Rattle.merge_program.specs.Sited.{IsDamageAt, LoadsAt}
use Rattle.merge_program.specs.Stores.{AreEmptyStores, IsUnstarted, RoseBy, at_no_path}
use Rattle.merge_program.proofs.Fresh.{fresh-world}
use Rattle.merge_program.proofs.Loads.{front-typed, loads-at}
use Rattle.merge_program.proofs.Rises.{rose-less, rose-one}

module _ (promises : OfEveryRunPromised) (shows : FailuresShow)
    (publication : Publication) (valid : (resolvers : ℕ) × IsValid resolvers publication) (handed : HandedView) (n before after : ℕ) (rose : RoseBy n before after) where
  -- a run, behind which stores failed so often more
  run-and : (events : List Event) (new : SitesView) (behind : HandedView) (said : List Answer) → AllHappened events (fresh_view publication) new handed behind said → (lost : ℕ) → new.faults + lost ≤ n
      → (run : IsRun publication handed events said before after) × RoseBy (count_by is_store_fault run.slips + lost) before after
  run-and events new behind said all lost le =
      let ran = played-runs events (fresh_view publication) new handed behind said all (fresh-world publication handed.tallies) in
      let few = ran.3 in (
        record {
          slips = ran.0;
          said = ran.1;
          few = rose-less (count_by is_store_fault ran.0) n before after (omega (arith, few, le)) rose;
          promised = promises valid.0 publication valid.1 handed.says handed.tallies ran.0 events;
          plain = λ none. sym (shows publication handed.says (empty_world publication handed.tallies) ran.0 events (subst (λ (l : List Answer). list_any (shows_refusal is_slip) l ≡ false) (sym ran.1) none)).0 ∙ ran.1;
        },
        rose-less (count_by is_store_fault ran.0 + lost) n before after (omega (arith, few, le)) rose,
      )

  pub run-of : (events : List Event) (new : SitesView) (behind : HandedView) (said : List Answer) → AllHappened events (fresh_view publication) new handed behind said → new.faults ≤ n
      → IsRun publication handed events said before after
  run-of events new behind said all le = (run-and events new behind said all 0 (omega (arith, le))).0

  module _ (lines : List (List ℕ)) (was written : Option (List ℕ)) where
    abbrev sides : Sides
    sides = record { was = was; written = written; before = before; after = after }

    answered : (new : SitesView) (behind : HandedView) → new.faults ≤ n → Played lines (fresh_view publication) new handed behind was written → RunIsWritten publication handed lines sides
    answered new behind le p = record { answers = p.answers; run = run-of (events_of lines) new behind p.answers p.happened le; bytes = p.bytes }

    pub in-part : (old new : SitesView) (behind : HandedView) → old ≡ fresh_view publication → new.faults ≤ n → PlayedInPart lines old new handed behind was written → AnsweredInPart publication handed lines sides
    in-part old new behind fresh le part = let p : PlayedInPart lines (fresh_view publication) new handed behind was written = subst (λ (v : SitesView). PlayedInPart lines v new handed behind was written) fresh part in record {
      events = p.events;
      more = p.more;
      split = p.split;
      answers = p.answers;
      run = let few = p.few in run-of p.events p.last behind p.answers p.happened (omega (arith, few, le));
      whole = p.whole;
      rest = p.rest;
      parts = p.parts;
      one = p.one;
      count = p.count;
      enough = p.enough;
      bytes = p.bytes;
    }

    to-restart : (why : Refusal) (p : PlayedToRestart lines (fresh_view publication) handed why n was written) (lost : ℕ) → p.last.faults + lost ≤ n → (cut : AnsweredToRestart publication handed lines sides lost) × (cut.site ≡ p.site)
    to-restart why p lost le =
        let ran = run-and p.events p.last p.behind p.answers p.happened lost le in (
          record {
            events = p.events;
            site = p.site;
            more = p.more;
            split = p.split;
            known = p.known;
            answers = p.answers;
            run = ran.0;
            behind = ran.1;
            bytes = p.bytes;
          },
          refl,
        )

    -- what is left of the tables at a restart loads
    there-loads : OfEveryValidTypedRun StoresLoad → (why : Refusal) (p : PlayedToRestart lines (fresh_view publication) handed why n was written) (new : SitesView) → ((tallies : List ℕ) → world_of new tallies ≡ world_of p.last tallies)
        → EventsAreTyped (events_of lines) → LoadsAt publication p.site new
    there-loads loads why p new same events =
        let ran = played-runs p.events (fresh_view publication) p.last handed p.behind p.answers p.happened (fresh-world publication handed.tallies) in
        let promised = promises valid.0 publication valid.1 handed.says handed.tallies ran.0 p.events in
        let typed : EventsAreTyped p.events = front-typed p.events (Restart p.site ∷ p.more) (subst (λ (es : List Event). EventsAreTyped es) p.split events) in
        loads-at publication p.site new p.behind.tallies (model_behind publication handed.says handed.tallies ran.0 p.events) (sym promised.tables ∙ (ran.2 ∙ sym (same p.behind.tallies)))
        (loads valid.0 publication valid.1 handed.says handed.tallies ran.0 p.events typed)

    module _ (loads : OfEveryValidTypedRun StoresLoad) (events : EventsAreTyped (events_of lines)) (stored kept : SiteId → Option Map) (empty : AreEmptyStores (is_site publication) stored)
        (IsDamaged : SiteId → ℕ → List ℕ → Type 0) (new : SitesView)
        (damaged : (site : SiteId) (table : ℕ) (key : List ℕ) → IsDamaged site table key → IsDamageAt publication site (kept site) table key × (LoadsAt publication site new → kept site ≡ None)) (writes refused : ℕ) where
      abbrev Ends : Ending → Type 0
      Ends ending = PlayEnds ending publication handed lines sides stored kept writes refused

      -- a restart to which the lines were played, what is damaged there, and that the tables are those before it
      abbrev Cut : SitesView → ℕ → Refusal → Type 0
      Cut first faults why = (cut : PlayedToRestart lines first handed why faults was written) × ((table : ℕ) (key : List ℕ) → why ≡ refusal.Damaged table key → IsDamaged cut.site table key) × ((tallies : List ℕ) → world_of new tallies ≡ world_of cut.last tallies)

      lost-ends : (why : Refusal) (c : Cut (fresh_view publication) n why) → IsLost why c.0.last.faults n → Ends (stopped_by why)
      lost-ends why c (inl (is, le)) = subst (λ (w : Refusal). Ends (stopped_by w)) (sym is) (inr (to-restart why c.0 1 le).0, rose-one n before after (omega (arith, le)) rose)
      lost-ends why c (inr ((table, key, is), le)) =
          let cut = to-restart why c.0 0 (omega (arith, le)) in
          let there = damaged c.0.site table key (c.1 table key is) in
          subst (λ (w : Refusal). Ends (stopped_by w)) (sym is)
          (inr (
            cut.0,
            subst (λ (site : SiteId). IsDamageAt publication site (kept site) table key) (sym cut.1) there.0,
            subst (λ (site : SiteId). kept site ≡ None) (sym cut.1) (there.1 (there-loads loads why c.0 new c.2 events)),
          ))

      module _ (old : SitesView) (behind : HandedView) (fresh : old ≡ fresh_view publication) (le : new.faults ≤ n) (ge : n ≤ new.faults) where
        whole : Played lines old new handed behind was written → RunIsWritten publication handed lines sides
        whole p = answered new behind le (subst (λ (v : SitesView). Played lines v new handed behind was written) fresh p)

        ends-by : (r : Result Unit Stop) → OnOk r (fault_of lines ≡ None) → OnOk r (Played lines old new handed behind was written)
            → ((line word : ℕ) → r ≡ Err (stop.NoEvent line word) → fault_of lines ≡ Some (line, word))
            → ((line word : ℕ) → r ≡ Err (stop.NoEvent line word) → Played lines old new handed behind was written)
            → (r ≡ Err stop.WriteFault → Rose writes refused)
            → ((why : Refusal) → r ≡ Err (stop.Ended why) → Cut old new.faults why)
            → Ends (played_by r)
        ends-by (Ok done) none played no_event upto write restart = (none, empty, whole played)
        ends-by (Err (stop.NoEvent line word)) none played no_event upto write restart = (no_event line word refl, empty, whole (upto line word refl))
        ends-by (Err stop.WriteFault) none played no_event upto write restart = write refl
        ends-by (Err (stop.Ended why)) none played no_event upto write restart =
            let same : new.faults ≡ n = omega (arith, le, ge) in
            let cut : Cut (fresh_view publication) n why = subst (λ (v : SitesView). Cut v n why) fresh (subst (λ (m : ℕ). Cut old m why) same (restart why refl)) in
            lost-ends why cut cut.0.lost
        ends-by (Err stop.NoMemory) none played no_event upto write restart = tt

        pub play-ends : (ending : Ending) (r : Result Unit Stop) → ending ≡ played_by r → OnOk r (fault_of lines ≡ None) → OnOk r (Played lines old new handed behind was written)
            → ((line word : ℕ) → r ≡ Err (stop.NoEvent line word) → fault_of lines ≡ Some (line, word))
            → ((line word : ℕ) → r ≡ Err (stop.NoEvent line word) → Played lines old new handed behind was written)
            → (r ≡ Err stop.WriteFault → Rose writes refused)
            → ((why : Refusal) → r ≡ Err (stop.Ended why) → Cut old new.faults why)
            → Ends ending
        play-ends ending r is none played no_event upto write restart = subst Ends (sym is) (ends-by r none played no_event upto write restart)

-- of the same publication, from the same count
pub part-of : (p q : Publication) → q ≡ p → (a b : ℕ) → b ≡ a → (handed : HandedView) (lines : List (List ℕ)) (was written : Option (List ℕ)) (after : ℕ)
    → AnsweredInPart q handed lines (record { was = was; written = written; before = b; after = after }) → AnsweredInPart p handed lines (record { was = was; written = written; before = a; after = after })
part-of p q is a b same handed lines was written after part =
    subst (λ (n : ℕ). AnsweredInPart p handed lines (record { was = was; written = written; before = n; after = after })) same
    (subst (λ (x : Publication). AnsweredInPart x handed lines (record { was = was; written = written; before = b; after = after })) is part)

pub ends-of : (ending : Ending) (p q : Publication) → q ≡ p → (a b : ℕ) → b ≡ a → (path : List ℕ) → path ≡ [] → (handed : HandedView) (lines : List (List ℕ)) (was written : Option (List ℕ)) (after : ℕ) (stored : SiteId → Option Map) (told : SiteId → List ℕ → Option Map)
    (writes refused : ℕ) → PlayEnds ending q handed lines (record { was = was; written = written; before = b; after = after }) stored (λ (s : SiteId). told s path) writes refused
    → PlayEnds ending p handed lines (record { was = was; written = written; before = a; after = after }) stored (at_no_path told) writes refused
ends-of ending p q is a b same path none handed lines was written after stored told writes refused ends =
    subst (λ (l : List ℕ). PlayEnds ending p handed lines (record { was = was; written = written; before = a; after = after }) stored (λ (s : SiteId). told s l) writes refused) none
    (subst (λ (n : ℕ). PlayEnds ending p handed lines (record { was = was; written = written; before = n; after = after }) stored (λ (s : SiteId). told s path) writes refused) same
    (subst (λ (x : Publication). PlayEnds ending x handed lines (record { was = was; written = written; before = b; after = after }) stored (λ (s : SiteId). told s path) writes refused) is ends))

-- at the empty path
pub empty-of : (p q : Publication) → q ≡ p → (path : List ℕ) → path ≡ [] → (told : SiteId → List ℕ → Option Map) → AreEmptyStores (is_site p) (λ (s : SiteId). told s path) → AreEmptyStores (is_site q) (at_no_path told)
empty-of p q is path none told empty =
    subst (λ (x : Publication). AreEmptyStores (is_site x) (at_no_path told)) (sym is) (subst (λ (l : List ℕ). AreEmptyStores (is_site p) (λ (s : SiteId). told s l)) none empty)

pub unstarted-of : (p q : Publication) → q ≡ p → (path : List ℕ) → path ≡ [] → (told : SiteId → List ℕ → Option Map) (ending : Ending) (before after : ℕ) → IsUnstarted (is_site p) (λ (s : SiteId). told s path) ending before after
    → IsUnstarted (is_site q) (at_no_path told) ending before after
unstarted-of p q is path none told ending before after unstarted =
    subst (λ (x : Publication). IsUnstarted (is_site x) (at_no_path told) ending before after) (sym is)
    (subst (λ (l : List ℕ). IsUnstarted (is_site p) (λ (s : SiteId). told s l) ending before after) none unstarted)

-- sites that did not start wrote nothing
module _ (publication : Publication) (handed : HandedView) (lines : List (List ℕ)) (was written : Option (List ℕ)) (before after : ℕ) (stored kept : SiteId → Option Map) (writes refused : ℕ) where
  pub unstarted-ends : (ending : Ending) → IsUnstarted (is_site publication) stored ending before after → written ≡ was → PlayEnds ending publication handed lines (record { was = was; written = written; before = before; after = after }) stored kept writes refused
  unstarted-ends StoreFault rose same = (inl same, rose)
  unstarted-ends (Damaged table key) first same = inl (same, first.1)
  unstarted-ends NoMemory rose same = tt
  unstarted-ends Done u same = absurd u
  unstarted-ends Usage u same = absurd u
  unstarted-ends (NotTaken line) u same = absurd u
  unstarted-ends (Refused fault) u same = absurd u
  unstarted-ends (NoEvent line word) u same = absurd u
  unstarted-ends ReadFault u same = absurd u
  unstarted-ends WriteFault u same = absurd u
  unstarted-ends UnknownSite u same = absurd u
  unstarted-ends UnknownArticle u same = absurd u
  unstarted-ends TooLong u same = absurd u
  unstarted-ends LinkFault u same = absurd u
  unstarted-ends (Expired last_sync now) u same = absurd u
  unstarted-ends (BadReply place) u same = absurd u
  unstarted-ends (Declined number) u same = absurd u
