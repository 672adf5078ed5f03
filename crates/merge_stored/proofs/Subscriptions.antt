-- What the publisher remembers of the sites that joined is within the limits, after every list of events.
use Rattle.std.specs.List.{AllByRecursion, list_all}
use Rattle.std.specs.Ordering.{nat_cmp}
use Rattle.std.specs.Prelude.{Bool, Err, IfOk, List, None, Ok, Option, Result, Some, [], cond, false, if◌then◌else◌, map, max, nat_lt, not, refl, true, unwrap_or, ℕ, ◌+◌, ◌<◌, ◌==◌, ◌^◌, ◌≡◌, ◌≤◌, ◌∷◌}
use Rattle.std.proofs.Common.{arith, subst, sym}
use Rattle.std.proofs.lemmas.Bool.Decides.{nat_tests}
use Rattle.std.proofs.lemmas.List.Elements.{recursion_from_All}
use Rattle.merge_types.specs.Limits.{number_limit}
use Rattle.merge_types.specs.declared.changes.Change.{Change}
use Rattle.merge_types.specs.declared.identifiers.Dot.{Dot}
use Rattle.merge_types.specs.declared.identifiers.Moment.{Moment}
use Rattle.merge_types.specs.declared.identifiers.RowId.{RowId}
use Rattle.merge_types.specs.declared.identifiers.SiteId.{SiteId}
use Rattle.merge_lineage.specs.Lineage.{number_of}
use Rattle.merge_units.specs.declared.result.Decision.{Decision}
use Rattle.merge_gens.specs.Filling as fill
use Rattle.merge_gens.specs.declared.filling.Filling.{Filling}
use Rattle.merge_gens.specs.declared.sites.SiteState.{SiteState}
use Rattle.merge_schema.specs.Places.{is_subscription}
use Rattle.merge_schema.specs.Valid.{IsValid}
use Rattle.merge_schema.specs.declared.publication.Publication.{Publication}
use Rattle.merge_batch.specs.Asks.{broken_by_join, join_numbers_fit}
use Rattle.merge_batch.specs.Laws.{IsValidItem, IsValidUpload}
use Rattle.merge_batch.specs.Lineages.{is_pair}
use Rattle.merge_batch.specs.Uploads.{lineage_fits}
use Rattle.merge_batch.specs.declared.refusal.Refusal.{Refusal}
use Rattle.merge_batch.specs.declared.refusal.Refusal.TheVariants.{Stale, UnknownSite, WrongWatermark}
use Rattle.merge_batch.specs.declared.request.Download.{Download}
use Rattle.merge_batch.specs.declared.request.Join.{Join}
use Rattle.merge_batch.specs.declared.request.Upload.{Upload}
use Rattle.merge_batch.specs.declared.request.UploadItem.{UploadItem}
use Rattle.merge_keeper.specs.PublisherStart.{site_is_sound}
use Rattle.merge_model.specs.Publisher.Acts.{Act, act_of, acting_items, acts_from, acts_of, left_by, made_by}
use Rattle.merge_model.specs.Judge.ByHistory.{by_history}
use Rattle.merge_model.specs.Failing.{Slips}
use Rattle.merge_model.specs.World.Faults.{join_fault, known_by}
use Rattle.merge_model.specs.History.{History}
use Rattle.merge_model.specs.Judge.{PublisherJudge}
use Rattle.merge_model.specs.Tables.Keys.{at_number, put_number}
use Rattle.merge_model.specs.History.Model.{Model}
use Rattle.merge_model.specs.Publisher.{at_moment, counters, last_closed, no_state, site_refusal, state_of, tables_after_close, unknown_site}
use Rattle.merge_model.specs.Publisher.PublisherDownload.{download_refusal, state_after_download, tables_after_download}
use Rattle.merge_model.specs.Publisher.PublisherJoin.{join_acts, join_refusal, join_taken, joined_state, tables_after_join}
use Rattle.merge_model.specs.Publisher.PublisherLocal.{Drawn, draw_for_change, local_refusal, made_locally}
use Rattle.merge_model.specs.Publisher.PublisherRanges.{plans, ranges_refusal, with_grants}
use Rattle.merge_model.specs.Publisher.PublisherUpload.{brings_news, seen_in, state_seeing, tables_after_upload, taken_in, upload_refusal, with_taken}
use Rattle.merge_model.specs.Tables.Refusals.{counter_end, refused_if, unless}
use Rattle.merge_model.specs.Failing.Runs.{model_behind}
use Rattle.merge_model.specs.Tables.{PublisherTables}
use Rattle.merge_model.specs.World.{Saying, World}
use Rattle.merge_model.specs.declared.event.Event.{Event}
use Rattle.merge_model.proofs.Entries.EntryLists.{all-put}
use Rattle.merge_model.proofs.Lists.Finding.{all-weaker}
use Rattle.merge_model.proofs.Lists.{all-both, all-filter, all-map}
use Rattle.merge_model.proofs.Runs.Refusals.{first-none}
use Rattle.merge_laws.specs.Laws.{OfEveryValidRun}
use Rattle.merge_laws.proofs.Received.Arrivals.{not-refused}
use Rattle.merge_laws.proofs.Runs.Ground.{grounded-always}
use Rattle.merge_honest.proofs.BoundedAlways.{bounded-always}
use Rattle.merge_stored.specs.Subscriptions.{SiteLoads, SitesLoad}
use Rattle.merge_stored.proofs.Outstanding.{closed-up}
use Rattle.merge_stored.proofs.PublisherCalls.{PublisherCallsKeep, publisher-step}
use Rattle.merge_stored.proofs.PublisherConflicts.{UploadPassed, upload-passed}
use Rattle.merge_stored.proofs.Sites.{subscription-low}
use Rattle.merge_stored.proofs.States.{closed-low, counter-is, fits-64}

-- the numbers of a site
pub record StateFits (last : ℕ) (state : SiteState) : Type 0 where
  pub joined : state.joined_at < number_limit
  pub received : state.received < number_limit
  pub number : state.received_number < number_limit
  pub seen : state.seen < number_limit
  pub watermark : state.watermark ≤ last

-- Lineages that fit have numbers below the limit.

number-by : (b : Bool) (site : ℕ) (dot : Dot) (rest : Option ℕ) → dot.number < number_limit → unwrap_or rest 0 < number_limit → (let found : Option ℕ = if b then Some dot.number else rest in unwrap_or found 0) < number_limit
number-by true site dot rest here more = here
number-by false site dot rest here more = more

numbers-low : (publication : Publication) (lineage : List Dot) (site : ℕ) → list_all (is_pair publication) lineage ≡ true → number_of lineage site < number_limit
numbers-low publication [] site all = omega arith
numbers-low publication (dot ∷ lineage) site all =
    let here : is_pair publication dot ≡ true = grind (arith, all) in
    let low : dot.number < number_limit = grind (arith, nat_tests, here) in
    let rest = numbers-low publication lineage site (grind (arith, all)) in
    number-by (dot.site.0 == site) site dot _ low rest

abbrev LineageLow : Act → Type 0
LineageLow act = (site : ℕ) → number_of act.incoming.lineage site < number_limit

pub item-low : (publication : Publication) (m : Upload) (item : UploadItem) → lineage_fits publication m item ≡ true → (site : ℕ) → number_of item.version.lineage site < number_limit
item-low publication m item fits site = (let well : list_all (is_pair publication) item.version.lineage ≡ true = grind (arith, fits) in numbers-low publication item.version.lineage site well)

acts-low : (judge : PublisherJudge) (site : SiteId) (p : PublisherTables) (number : ℕ) (decisions : List Decision) (items : List UploadItem) → AllByRecursion (λ (item : UploadItem). (n : ℕ) → number_of item.version.lineage n < number_limit) items → AllByRecursion LineageLow (acts_from judge site p number decisions items)
acts-low judge site p number decisions [] all = tt
acts-low judge site p number decisions (item ∷ items) all =
    let act : Act = act_of judge site p number decisions item in
    (all.0, acts-low judge site p (number + made_by act.fate) (left_by act.fate decisions) items all.1)

seen-low : (acts : List Act) (site seen : ℕ) → seen < number_limit → AllByRecursion LineageLow acts → seen_in acts site seen < number_limit
seen-low [] site seen low all = low
seen-low (act ∷ acts) site seen low all = seen-low acts site (max seen (number_of act.incoming.lineage site)) (let here = all.0 site in grind (arith, nat_tests, low, here)) all.1

-- The walk.

module _ (publication : Publication) where
  abbrev pub SiteIs : ℕ → ℕ × SiteState → Type 0
  SiteIs last site = (is_subscription publication site.0 ≡ true) × StateFits last site.1

  abbrev pub S : PublisherTables → Type 0
  S p = AllByRecursion (SiteIs (last_closed p)) p.sites

  later-state : (last later : ℕ) (state : SiteState) → last ≤ later → StateFits last state → StateFits later state
  later-state last later state up f = record { joined = f.joined; received = f.received; number = f.number; seen = f.seen; watermark = (let low = f.watermark in omega (arith, low, up)) }

  later-on : (p q : PublisherTables) → q.sites ≡ p.sites → last_closed p ≤ last_closed q → S p → S q
  later-on p q same up all = subst (λ (sites : List (ℕ × SiteState)). AllByRecursion (SiteIs (last_closed q)) sites) (sym same)
      (all-weaker (SiteIs (last_closed p)) (SiteIs (last_closed q)) (λ site is. (is.0, later-state (last_closed p) (last_closed q) site.1 up is.1)) p.sites all)

  entered-up : (filling : Filling) (count : ℕ) → filling.last_closed ≤ (fill.filled_by filling count).last_closed
  entered-up filling count = omega arith

  -- the state of a site, that of none where it never joined
  found-by : (b : Bool) (last : ℕ) (state : SiteState) (rest : Option SiteState) → StateFits last state → StateFits last (unwrap_or rest no_state) → StateFits last (let found : Option SiteState = cond b (Some state) rest in unwrap_or found no_state)
  found-by true last state rest here more = here
  found-by false last state rest here more = more

  state-fits : (last : ℕ) (sites : List (ℕ × SiteState)) (site : ℕ) → AllByRecursion (SiteIs last) sites → StateFits last (unwrap_or (at_number sites site) no_state)
  state-fits last [] site all = record { joined = omega arith; received = omega arith; number = omega arith; seen = omega arith; watermark = omega arith }
  state-fits last (entry ∷ sites) site all = found-by _ last entry.1 (at_number sites site) all.0.1 (state-fits last sites site all.1)

  put-on : (last : ℕ) (sites : List (ℕ × SiteState)) (site : SiteId) (state : SiteState) → is_subscription publication site.0 ≡ true → StateFits last state → AllByRecursion (SiteIs last) sites → AllByRecursion (SiteIs last) (put_number sites site.0 state)
  put-on last sites site state subscribes fits all = all-put (SiteIs last) nat_cmp site.0 state (λ q same. (subst (λ (n : ℕ). is_subscription publication n ≡ true) (let is : site.0 ≡ q = grind (arith, nat_tests, same) in is) subscribes, fits)) (subscribes, fits) sites all

  unless-on : {A : Type 0} (refusal : Option Refusal) (q : PublisherTables) (a : A) → (refusal ≡ None → S q) → (let done : Result (PublisherTables × A) Refusal = unless refusal (q, a) in IfOk done (λ x. S x.0))
  unless-on (Some why) q a is = tt
  unless-on None q a is = is refl

  drawn-on : (judge : PublisherJudge) (now : Moment) (change : Change) (p : PublisherTables) (draw : Result Drawn Refusal) → S p
      → (let done : Result (PublisherTables × RowId) Refusal = elim draw [ Err refusal ↦ Err refusal | Ok d ↦ Ok (made_locally publication judge change d (at_moment now p)) ] in IfOk done (λ x. S x.0))
  drawn-on judge now change p (Err refusal) all = tt
  drawn-on judge now change p (Ok d) all = later-on p (made_locally publication judge change d (at_moment now p)).0 refl (entered-up p.gens.filling _) all

  local-on : (judge : PublisherJudge) (now : Moment) (change : Change) (p : PublisherTables) (found : Option Refusal) → S p
      → (let done : Result (PublisherTables × RowId) Refusal = elim found [ Some refusal ↦ Err refusal | None ↦ elim (draw_for_change publication p change) [ Err refusal ↦ Err refusal | Ok d ↦ Ok (made_locally publication judge change d (at_moment now p)) ] ] in IfOk done (λ x. S x.0))
  local-on judge now change p (Some refusal) all = tt
  local-on judge now change p None all = drawn-on judge now change p (draw_for_change publication p change) all

  -- an upload
  seen-on : (last : ℕ) (acts : List Act) → AllByRecursion LineageLow acts → (site : ℕ × SiteState) → SiteIs last site → SiteIs last (state_seeing acts site)
  seen-on last acts low site is = (is.0, record { joined = is.1.joined; received = is.1.received; number = is.1.number; seen = seen-low acts site.0 site.1.seen is.1.seen low; watermark = is.1.watermark })

  taken-by : (last : ℕ) (m : Upload) (b : Bool) (site : ℕ × SiteState) → m.to < number_limit → m.through < number_limit → SiteIs last site → SiteIs last (if b then (site.0, record site.1 { received = m.to; received_number = m.through }) else site)
  taken-by last m true site to through is = (is.0, record { joined = is.1.joined; received = to; number = through; seen = is.1.seen; watermark = is.1.watermark })
  taken-by last m false site to through is = is

  taken-on : (judge : PublisherJudge) (m : Upload) (decisions : List Decision) (p : PublisherTables) → m.to < number_limit → m.through < number_limit → AllByRecursion LineageLow (acts_of judge m decisions p) → S p → S (taken_in publication judge m (acts_of judge m decisions p) p)
  taken-on judge m decisions p to through low all =
      let acts : List Act = acts_of judge m decisions p in
      let q : PublisherTables = taken_in publication judge m acts p in
      let seen = all-map (SiteIs (last_closed p)) (SiteIs (last_closed p)) (state_seeing acts) (seen-on (last_closed p) acts low) p.sites all in
      let took = all-map (SiteIs (last_closed p)) (SiteIs (last_closed p)) (λ (site : ℕ × SiteState). if site.0 == m.site.0 then (site.0, record site.1 { received = m.to; received_number = m.through }) else site)
      (λ site is. taken-by (last_closed p) m (site.0 == m.site.0) site to through is) (map (state_seeing acts) p.sites) seen in
      all-weaker (SiteIs (last_closed p)) (SiteIs (last_closed q)) (λ site is. (is.0, later-state (last_closed p) (last_closed q) site.1 (entered-up p.gens.filling _) is.1)) (with_taken m (map (state_seeing acts) p.sites)) took

  news-on : (judge : PublisherJudge) (m : Upload) (decisions : List Decision) (p : PublisherTables) (b : Bool) → m.to < number_limit → m.through < number_limit → AllByRecursion LineageLow (acts_of judge m decisions p) → S p → S (if b then taken_in publication judge m (acts_of judge m decisions p) p else p)
  news-on judge m decisions p true to through low all = taken-on judge m decisions p to through low all
  news-on judge m decisions p false to through low all = all

  upload-on : (judge : PublisherJudge) (now : Moment) (m : Upload) (decisions : List Decision) (p : PublisherTables) → upload_refusal publication judge now m p ≡ None → S p → S (tables_after_upload publication judge m decisions (at_moment now p))
  upload-on judge now m decisions p fine all =
      let passed : UploadPassed publication judge m p = upload-passed publication judge now m p fine in
      let valid : IsValidUpload publication (known_by publication judge p) m = passed.valid in
      let items = all-weaker (IsValidItem publication (known_by publication judge p) m) (λ (item : UploadItem). (n : ℕ) → number_of item.version.lineage n < number_limit) (λ item is. item-low publication m item is.lineage) m.items
      (recursion_from_All (IsValidItem publication (known_by publication judge p) m) m.items valid.items) in
      news-on judge m decisions (at_moment now p) (brings_news judge m) valid.to_fits valid.through_fits
      (acts-low judge m.site (at_moment now p) _ decisions (acting_items judge m) (all-filter (λ (item : UploadItem). (n : ℕ) → number_of item.version.lineage n < number_limit) (λ (item : UploadItem). not (judge.has_acted m.site.0 item.generation)) m.items items)) all

  -- a join
  join-numbers : (m : Join) → join_fault m ≡ None → join_numbers_fit m ≡ true
  unfolding broken_by_join
  join-numbers m none = grind (arith, none)

  site-subscribes : (site : SiteId) → unknown_site publication site ≡ None → is_subscription publication site.0 ≡ true
  site-subscribes site none = grind (arith, not-refused (not (is_subscription publication site.0)) (UnknownSite site) none)

  join-fits : (m : Join) (now : Moment) (last : ℕ) (state : SiteState) → join_numbers_fit m ≡ true → StateFits last state → StateFits last (joined_state m now state)
  join-fits m now last state fits f = record {
    joined = grind (arith, nat_tests, fits);
    received = grind (arith, nat_tests, fits);
    number = grind (arith, nat_tests, fits);
    seen = (let low = f.seen in let number : m.number < number_limit = grind (arith, nat_tests, fits) in grind (arith, nat_tests, low, number));
    watermark = omega arith;
  }

  joined-on : (m : Join) (p : PublisherTables) (b : Bool) → is_subscription publication m.site.0 ≡ true → join_numbers_fit m ≡ true → S p → S (if b then join_taken m p else p)
  joined-on m p true subscribes fits all = put-on (last_closed p) p.sites m.site (joined_state m p.latest (state_of p m.site)) subscribes (join-fits m p.latest (last_closed p) (state_of p m.site) fits (state-fits (last_closed p) p.sites m.site.0 all)) all
  joined-on m p false subscribes fits all = all

  join-on : (now : Moment) (m : Join) (p : PublisherTables) → join_refusal publication m p ≡ None → S p → S (tables_after_join m (at_moment now p))
  join-on now m p fine all =
      let known = first-none (unknown_site publication m.site) _ fine in
      let stale = first-none (refused_if (nat_lt m.seq (state_of p m.site).joined_at) (Stale m.seq (state_of p m.site).joined_at)) _ known.1 in
      let fault = first-none (join_fault m) _ stale.1 in
      joined-on m (at_moment now p) (join_acts m (at_moment now p)) (site-subscribes m.site known.0) (join-numbers m fault.0) all

  -- an ask
  synced-fits : (m : Download) (p : PublisherTables) (last : ℕ) (state : SiteState) → m.from ≤ last → StateFits last state → StateFits last (state_after_download m p state)
  synced-fits m p last state up f = record { joined = f.joined; received = f.received; number = f.number; seen = f.seen; watermark = (let low = f.watermark in grind (arith, nat_tests, low, up)) }

  ask-on : (now : Moment) (m : Download) (p : PublisherTables) → download_refusal publication now m p ≡ None → S p → S (tables_after_download m (at_moment now p))
  ask-on now m p fine all =
      let passed = first-none (site_refusal publication m.site m.seq now p) _ fine in
      let known = first-none (unknown_site publication m.site) _ passed.0 in
      let mark = first-none (refused_if (nat_lt (last_closed p) m.from) (WrongWatermark m.from (last_closed p))) _ passed.1 in
      let low : nat_lt (last_closed p) m.from ≡ false = not-refused (nat_lt (last_closed p) m.from) (WrongWatermark m.from (last_closed p)) mark.0 in
      let up : m.from ≤ last_closed p = grind (arith, nat_tests, low) in
      let q : PublisherTables = at_moment now p in
      let put = put-on (last_closed p) p.sites m.site (state_after_download m q (state_of q m.site)) (site-subscribes m.site known.0) (synced-fits m q (last_closed p) (state_of q m.site) up (state-fits (last_closed p) p.sites m.site.0 all)) all in
      all-weaker (SiteIs (last_closed p)) (SiteIs (last_closed (tables_after_download m q))) (λ site is. (is.0, later-state (last_closed p) (last_closed (tables_after_download m q)) site.1 (closed-up p.gens.filling) is.1)) (put_number p.sites m.site.0 (state_after_download m q (state_of q m.site))) put

  pub sites-keep : PublisherCallsKeep publication S
  sites-keep = record {
    of_local = λ judge now change p all. local-on judge now change p (local_refusal publication change p) all;
    of_close = λ now p all. unless-on (counter_end (counters p)) (tables_after_close (at_moment now p)) _ (λ fine. later-on p (tables_after_close (at_moment now p)) refl (closed-up p.gens.filling) all);
    of_join = λ now m p all. unless-on (join_refusal publication m p) (tables_after_join m (at_moment now p)) _ (λ fine. join-on now m p fine all);
    of_upload = λ judge now m decisions p all. unless-on (upload_refusal publication judge now m p) (tables_after_upload publication judge m decisions (at_moment now p)) _ (λ fine. upload-on judge now m decisions p fine all);
    of_ranges = λ judge now m p all. unless-on (ranges_refusal publication judge now m p) (with_grants (plans publication m p) (at_moment now p)) _ (λ fine. all);
    of_ask = λ judge now m p all. unless-on (download_refusal publication now m p) (tables_after_download m (at_moment now p)) _ (λ fine. ask-on now m p fine all);
    of_purge = λ now p all. all;
  }

  pub sites-kept : (says : Saying) (tallies : List ℕ) (slips : Slips) (events : List Event) → (resolvers : ℕ) × IsValid resolvers publication → S (model_behind publication says tallies slips events).world.publisher
  sites-kept says tallies slips events valid =
      (grounded-always publication says tallies slips events valid (λ (w : World) (h : History). S w.publisher) (λ m action g all. publisher-step publication S m.world all sites-keep says (by_history m.history) action)
      (λ w h others all. all) tt).1

  site-sound : (last : ℕ) (site : ℕ × SiteState) → SiteIs last site → site_is_sound publication last site.0 site.1 ≡ true
  unfolding site_is_sound
  site-sound last site is =
      let zero = is.0 in
      let one = counter-is site.1.joined_at is.1.joined in
      let two = counter-is site.1.received is.1.received in
      let three = counter-is site.1.received_number is.1.number in
      let four = counter-is site.1.seen is.1.seen in
      let five = is.1.watermark in
      grind (arith, nat_tests, zero, one, two, three, four, five)

  pub site-loads : (resolvers : ℕ) → IsValid resolvers publication → (p : PublisherTables) (site : ℕ × SiteState) → last_closed p < number_limit → site.1.last_sync < 2 ^ 64 → SiteIs (last_closed p) site → SiteLoads publication p site
  site-loads resolvers valid p site closed sync is = (
    (let low = subscription-low resolvers publication valid site.0 is.0 in omega (arith, low)),
    (fits-64 site.1.joined_at is.1.joined, (fits-64 site.1.received is.1.received, (fits-64 site.1.received_number is.1.number, (fits-64 site.1.seen is.1.seen, ((let low = is.1.watermark in omega (arith, low, closed)), sync))))),
    site-sound (last_closed p) site is,
  )

pub sites-load : OfEveryValidRun SitesLoad
sites-load resolvers publication valid says tallies slips events typed =
    let m : Model = model_behind publication says tallies slips events in
    let p : PublisherTables = m.world.publisher in
    let closed = closed-low p (bounded-always publication says tallies slips events (resolvers, valid)).publisher in
    all-both (SiteIs publication (last_closed p)) (λ (site : ℕ × SiteState). site.1.last_sync < 2 ^ 64) (SiteLoads publication p) (λ site is sync. site-loads publication resolvers valid p site closed sync is) p.sites
    (sites-kept publication says tallies slips events (resolvers, valid)) typed.sites
