-- A session that was held at a store, and one that was not.
use Rattle.std.proofs.Common.{Err, List, Ok, Option, Result, Some, [], ap, arith, inl, inr, min, refl, subst, sym, true, ℕ, ◌+◌, ◌-◌, ◌^◌, ◌∙◌, ◌≡◌, ◌≤◌}
use Rattle.std.specs.Prelude.{IfSome}
use Rattle.merge_types.specs.declared.identifiers.SiteId.{SiteId}
use Rattle.merge_schema.specs.Places.{is_subscription}
use Rattle.merge_schema.specs.declared.publication.Publication.{Publication}
use Rattle.merge_ports.specs.Entries.{Map}
use Rattle.merge_ports.specs.Faults.{Rose}
use Rattle.merge_ports.specs.Opened.{with_faults}
use Rattle.merge_ports.specs.declared.outside.Counts.{Counts}
use Rattle.merge_link.specs.Moments.{Moments}
use Rattle.merge_link.specs.declared.link.Exchange.{Exchange}
use Rattle.merge_outside.specs.Offers.{with_link_faults}
use Rattle.merge_keeper.specs.SubscriberStart.{subscriber_loaded}
use Rattle.merge_model.specs.Publisher.{new_holders}
use Rattle.merge_world.specs.Views.{SubscriberView}
use Rattle.merge_site.specs.Kept.{IsKept}
use Rattle.merge_site.specs.Loading.{IsRead}
use Rattle.merge_site.specs.Subscribers.{records_of, subscriber_stored}
use Rattle.merge_agent.specs.Meetings.{meeting}
use Rattle.merge_agent.specs.Sessions.{Syncs}
use Rattle.merge_agent.specs.declared.fault.Done.{Done}
use Rattle.merge_agent.specs.declared.fault.SessionFault.{SessionFault}
use Rattle.merge_agent.specs.declared.fault.SessionFault.TheVariants as session
use Rattle.merge_sync.specs.Ends.{Meets, SessionStops}
use Rattle.merge_sync.specs.Stops.{met_by}
use Rattle.merge_sync.specs.Stores.{Around, Begins, IsUnstarted, SessionIsHeld}
use Rattle.merge_sync.specs.declared.stop.Stop.{Stop}
use Rattle.merge_sync.specs.declared.stop.Stop.TheVariants as stop

module _ (address : List ℕ) (publication : Publication) (site : SiteId) (around : Around) where
  abbrev HeldSo : Result Done SessionFault → Type 0
  HeldSo r = SessionIsHeld address publication site around r

  -- faults of the link, and of the store, in a session

  rose-links : HeldSo (Err session.LinkFault) → Rose around.links around.links_after
  rose-links h =
      let rose : Rose h.began.links h.ended.links = h.syncs.causes.link refl in
      omega (arith, h.leaves.links, rose, h.begins.links)

  rose-stores : HeldSo (Err session.StoreFault) → Rose around.stores around.stores_after
  rose-stores h =
      let rose : h.began.faults + 1 ≤ h.ended.faults = h.syncs.causes.store refl in
      omega (arith, h.leaves.stores, rose, h.begins.faults)

  meets-by : (r : Result Done SessionFault) → HeldSo r → Meets address publication site around (met_by r)
  meets-by (Ok done) h = h
  meets-by (Err session.LinkFault) h = (rose-links h, h)
  meets-by (Err session.StoreFault) h = (rose-stores h, inr h)
  meets-by (Err (session.Expired last_sync now)) h = h
  meets-by (Err (session.BadReply place)) h = h
  meets-by (Err (session.Refused number)) h = h
  meets-by (Err session.NoMemory) h = inr h

  -- a session was held, and its keeper and its link were given back
  pub meets : (r : Result Done SessionFault) (result : Result Done Stop) → result ≡ met_by r → HeldSo r → Meets address publication site around result
  meets r result is h = subst (λ (m : Result Done Stop). Meets address publication site around m) (sym is) (meets-by r h)

  module _ (own : Publication) (copied : own ≡ publication) where
    pub begins : (s : SubscriberView) (coming : Option (List (List ℕ))) (exchanges : Option (List Exchange)) (links : ℕ) (moments : Option Moments)
        → is_subscription own site.0 ≡ true → IsRead (subscriber_loaded own site (new_holders own)) around.stored (Ok (subscriber_stored s.tables)) → s.tables.site ≡ site → s.publication ≡ own → s.faults ≡ 0
        → coming ≡ around.responses → IfSome exchanges (λ (e : List Exchange). e ≡ []) → links ≡ 0 → moments ≡ around.moments
        → Begins publication site around (meeting s coming exchanges links moments)
    begins s coming exchanges links moments known read here is_published unfailed responses unasked fresh clock = record {
      published = is_published ∙ copied;
      subscribes = subst (λ (p : Publication). is_subscription p site.0 ≡ true) copied known;
      here = here;
      read = subst (λ (p : Publication). IsRead (subscriber_loaded p site (new_holders p)) around.stored (Ok (subscriber_stored s.tables))) copied read;
      faults = unfailed;
      links = fresh;
      coming = responses;
      unasked = unasked;
      moments = clock;
    }

    -- no session was held, and the link was given back
    undone-by : (s : Stop) → IsUnstarted publication site s around.stored around.stores around.stores_after → around.kept ≡ around.stored → IfSome around.carried (λ (e : List Exchange). e ≡ []) → around.peer ≡ Some address → SessionStops address publication site around s
    undone-by stop.UnknownSite p same unasked reached = (p, record { same = same; unasked = unasked; reached = reached })
    undone-by stop.StoreFault p same unasked reached = (p, inl (record { same = same; unasked = unasked; reached = reached }))
    undone-by (stop.Damaged table key) p same unasked reached = (p, record { same = same; unasked = unasked; reached = reached })
    undone-by stop.NoMemory p same unasked reached = inl (inr (record { same = same; unasked = unasked; reached = reached }))
    undone-by other p same unasked reached = absurd p

    pub undone-so : (s : Stop) (stored : Option Map) → stored ≡ around.stored → (before after : ℕ) → before ≡ around.stores → after ≡ around.stores_after → IsUnstarted own site s stored before after
        → around.kept ≡ stored → (exchanges : Option (List Exchange)) → around.carried ≡ exchanges → IfSome exchanges (λ (e : List Exchange). e ≡ []) → around.peer ≡ Some address
        → SessionStops address publication site around s
    undone-so s stored told before after first last p same exchanges carried unasked reached = undone-by s
        (subst (λ (q : Publication). IsUnstarted q site s around.stored around.stores around.stores_after) copied
        (subst (λ (n : ℕ). IsUnstarted own site s around.stored around.stores n) last
        (subst (λ (n : ℕ). IsUnstarted own site s around.stored n after) first
        (subst (λ (o : Option Map). IsUnstarted own site s o before after) told p))))
        (same ∙ told)
        (subst (λ (o : Option (List Exchange)). IfSome o (λ (e : List Exchange). e ≡ [])) (sym carried) unasked)
        reached

    -- a session was held, by what was told of each part
    pub held : (began ended : SubscriberView) (co cn : Option (List (List ℕ))) (xo xn : Option (List Exchange)) (lo ln : ℕ) (mo mn : Option Moments) (told : Option Map) → told ≡ around.stored
        → is_subscription own site.0 ≡ true → IsRead (subscriber_loaded own site (new_holders own)) told (Ok (subscriber_stored began.tables)) → began.tables.site ≡ site → began.publication ≡ own → began.faults ≡ 0
        → co ≡ around.responses → IfSome xo (λ (e : List Exchange). e ≡ []) → lo ≡ 0 → mo ≡ around.moments
        → (r : Result Done SessionFault) → Syncs address (meeting began co xo lo mo) (meeting ended cn xn ln mn) r
        → (kept : Option Map) → around.kept ≡ kept → IsKept (records_of ended.tables) kept → around.carried ≡ xn → around.peer ≡ Some address
        → around.stores_after ≡ min (around.stores + ended.faults) (2 ^ 64 - 1) → around.links_after ≡ min (around.links + ln) (2 ^ 64 - 1)
        → HeldSo r
    held began ended co cn xo xn lo ln mo mn told is known read here published unfailed responses unasked fresh clock r syncs kept given has carried reached stores links = record {
      began = meeting began co xo lo mo;
      ended = meeting ended cn xn ln mn;
      begins = begins began co xo lo mo known (subst (λ (o : Option Map). IsRead (subscriber_loaded own site (new_holders own)) o (Ok (subscriber_stored began.tables))) is read) here published unfailed responses unasked fresh clock;
      syncs = syncs;
      leaves = record { kept = subst (IsKept (records_of ended.tables)) (sym given) has; carried = carried; stores = stores; links = links };
      reached = reached;
    }

-- The counts of an outside from which a keeper and a link came, and to which both were given back.
module _ (old opened back new : Counts) (links : ℕ) (fourth : new ≡ with_link_faults links back) where
  pub links-counted : (kept : ℕ) → back ≡ with_faults kept opened → opened.links ≡ old.links → new.links ≡ min (old.links + links) (2 ^ 64 - 1)
  links-counted kept third first =
      let last : new.links ≡ min (back.links + links) (2 ^ 64 - 1) = ap (λ (c : Counts). c.links) fourth in
      let before : back.links ≡ opened.links = ap (λ (c : Counts). c.links) third in
      omega (arith, last, before, first)

  pub stores-counted : (kept faults : ℕ) → back ≡ with_faults kept opened → kept ≡ faults → opened.stores ≡ old.stores → new.stores ≡ min (old.stores + faults) (2 ^ 64 - 1)
  stores-counted kept faults third same first =
      let last : new.stores ≡ back.stores = ap (λ (c : Counts). c.stores) fourth in
      let before : back.stores ≡ min (opened.stores + kept) (2 ^ 64 - 1) = ap (λ (c : Counts). c.stores) third in
      omega (arith, last, before, first, same)
