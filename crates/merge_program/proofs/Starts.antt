-- Why sites that have done nothing do not start, and what is told of the stores of those that do.
use Rattle.std.proofs.Common.{Bool, Err, List, Option, Result, [], ap, append-nil, arith, inl, inr, map, min, refl, subst, sym, true, ℕ, ◌+◌, ◌++◌, ◌-◌, ◌<◌, ◌==◌, ◌^◌, ◌∙◌, ◌∷◌, ◌≡◌, ◌≤◌}
use Rattle.std.specs.List.{AllByRecursion, fold, list_any}
use Rattle.std.specs.Map.{keys_of}
use Rattle.std.specs.Ordering.{nat_cmp}
use Rattle.std.specs.List.Sorted.{IsStrictlySortedBy}
use Rattle.std.specs.declared.cmp.Ordering.TheVariants.{Less}
use Rattle.std.proofs.lemmas.Bool.Decides.{nat_tests}
use Rattle.std.proofs.lemmas.List.Elements.{recursion_from_All}
use Rattle.std.proofs.lemmas.Map.Keys.{sorted_head, sorted_tail}
use Rattle.merge_types.specs.declared.identifiers.SiteId.{SiteId}
use Rattle.merge_ports.specs.Entries.{Map}
use Rattle.merge_ports.specs.Opened.{HasStoreCause, SameElsewhere, with_faults}
use Rattle.merge_ports.specs.declared.outside.Counts.{Counts}
use Rattle.merge_ports.specs.declared.outside.OpenFault.{OpenFault}
use Rattle.merge_ports.specs.declared.outside.OpenFault.TheVariants as opening
use Rattle.merge_batch.specs.declared.refusal.Refusal.{Refusal}
use Rattle.merge_schema.specs.Places.{is_subscription}
use Rattle.merge_schema.specs.Valid.{IsValid, IsValidSubscription}
use Rattle.merge_schema.specs.declared.publication.Publication.{Publication}
use Rattle.merge_schema.specs.declared.publication.Subscription.{Subscription}
use Rattle.merge_model.specs.Tables.Keys.{put_number}
use Rattle.merge_model.specs.Tables.Publications.{by_site}
use Rattle.merge_model.specs.World.Events.{is_site}
use Rattle.merge_model.proofs.Entries.EntryLists.{all-put}
use Rattle.merge_model.proofs.Entries.StepParts.{found-any, site-stands}
use Rattle.merge_model.proofs.Lists.{all-append, any-leads, each-found}
use Rattle.merge_model.proofs.Lists.Finding.{all-weaker}
use Rattle.merge_model.proofs.Lists.SitesInOrder.{AreKeyed, sites-ascend, sites-keyed}
use Rattle.merge_model.proofs.Lists.Tests.{either, number-itself, numbers-same, or-second}
use Rattle.merge_site.specs.Beginning.{IsEmptyStore, IsFirstKey, StartsNot}
use Rattle.merge_world.specs.Views.{SubscriberView, site_of}
use Rattle.merge_program.specs.declared.ending.Ending.{Ending}
use Rattle.merge_program.specs.declared.ending.Ending.TheVariants.{Damaged, NoMemory, StoreFault}
use Rattle.merge_program.specs.Endings.{ending_of_opening, stopped_by}
use Rattle.merge_program.specs.Stores.{AreEmptyStores, AreRooms, IsUnstarted, IsUnstartedAt, RoseBy, fresh_at, fresh_subscribers, untold_subscriber}
use Rattle.merge_program.proofs.Fresh.{fresh-sites}
use Rattle.merge_program.proofs.Rises.{rose-less, rose-one}
use Rattle.merge_program.proofs.Untold.{map-untold}

-- One site.

module _ (told : Option Map) where
  -- its store was not opened
  unopened-by : {K : Type 0} (old new : Counts) (fault : OpenFault) (r : Result K OpenFault) → r ≡ Err fault → HasStoreCause old new r → IsUnstartedAt (ending_of_opening fault) told old.stores new.stores
  unopened-by old new opening.Failed r is cause = cause.failed is
  unopened-by old new opening.NoMemory r is cause = let kept = cause.starved is in omega (arith, kept)

  pub unopened-at : {K : Type 0} (old new : Counts) (fault : OpenFault) (ending : Ending) → ending ≡ ending_of_opening fault → (r : Result K OpenFault) → r ≡ Err fault → HasStoreCause old new r → IsUnstartedAt ending told old.stores new.stores
  unopened-at old new fault ending is r was cause = subst (λ (e : Ending). IsUnstartedAt e told old.stores new.stores) (sym is) (unopened-by old new fault r was cause)

  -- it was opened, and could not be read or has an entry; or memory was wanting
  module _ (first count : ℕ) (none : first ≡ 0) (old mid new : Counts) (opened : mid.stores ≡ old.stores) (back : new ≡ with_faults count mid) where
    rose : RoseBy count old.stores new.stores
    rose = let stores : new.stores ≡ min (mid.stores + count) (2 ^ 64 - 1) = ap (λ (c : Counts). c.stores) back in omega (arith, opened, stores)

    abbrev By : Refusal → Type 0
    By why = IsUnstartedAt (stopped_by why) told old.stores new.stores

    stopped-as : (why : Refusal) → StartsNot why told first count → By why
    stopped-as why (inl (inl (is, still))) = subst (λ (w : Refusal). By w) (sym is) (rose-less 0 count old.stores new.stores (omega arith) rose)
    stopped-as why (inl (inr (is, more))) = subst (λ (w : Refusal). By w) (sym is) (rose-one count old.stores new.stores (omega (arith, more)) rose)
    stopped-as why (inr (still, (key, is, begins))) = subst (λ (w : Refusal). By w) (sym is) (rose-less 0 count old.stores new.stores (omega arith) rose, begins)

    pub stopped-at : (kept : Option Map) → kept ≡ told → (why : Refusal) → StartsNot why kept first count → (ending : Ending) → ending ≡ stopped_by why → IsUnstartedAt ending told old.stores new.stores
    stopped-at kept same why not ending is =
        subst (λ (e : Ending). IsUnstartedAt e told old.stores new.stores) (sym is) (stopped-as why (subst (λ (o : Option Map). StartsNot why o first count) same not))

-- One of some sites.

module _ (among : SiteId → Bool) (were : SiteId → Option Map) where
  one-by : (site : SiteId) → among site ≡ true → (ending : Ending) (before after : ℕ) → IsUnstartedAt ending (were site) before after → IsUnstarted among were ending before after
  one-by site known StoreFault before after p = p
  one-by site known (Damaged table key) before after p = (p.0, (site, known, p.1))
  one-by site known NoMemory before after p = p
  one-by site known other before after p = p

  -- a site whose store is told as at first, since when no fault was counted
  pub unstarted-one : (site : SiteId) → among site ≡ true → (told : Option Map) → told ≡ were site → (before mid after : ℕ) → mid ≡ before → (ending : Ending) → IsUnstartedAt ending told mid after → IsUnstarted among were ending before after
  unstarted-one site known told same before mid after kept ending p =
      one-by site known ending before after (subst (λ (n : ℕ). IsUnstartedAt ending (were site) n after) kept (subst (λ (o : Option Map). IsUnstartedAt ending o mid after) same p))

  pub unstarted-wants : (before after : ℕ) → after ≡ before → IsUnstarted among were NoMemory before after
  unstarted-wants before after kept = omega (arith, kept)

-- of more sites, behind which more faults were counted
module _ (one all : SiteId → Bool) (told were : SiteId → Option Map) (each : (site : SiteId) → one site ≡ true → (all site ≡ true) × (told site ≡ were site)) where
  widely : (ending : Ending) (before mid faults after : ℕ) → RoseBy faults mid after → IsUnstarted one told ending before mid → IsUnstarted all were ending before after
  widely StoreFault before mid faults after more p = omega (arith, more, p)
  widely (Damaged table key) before mid faults after more p =
      let rose = p.0 in
      let h = p.1 in
      let e = each h.0 h.1 in (omega (arith, more, rose), (h.0, e.0, subst (λ (o : Option Map). IsFirstKey (record { table = table; key = key }) o) e.1 h.2))
  widely NoMemory before mid faults after more p = omega (arith, more, p)
  widely other before mid faults after more p = p

  pub unstarted-widely : (ending : Ending) (first before mid faults after : ℕ) → before ≡ first → RoseBy faults mid after → IsUnstarted one told ending before mid → IsUnstarted all were ending first after
  unstarted-widely ending first before mid faults after kept more p = widely ending first mid faults after more (subst (λ (n : ℕ). IsUnstarted one told ending n mid) kept p)

-- Subscriptions by their sites.

module _ (publication : Publication) where
  subscribed-put : (subscriptions : List Subscription) (es : List (ℕ × Subscription)) → AllByRecursion (λ (s : Subscription). is_subscription publication s.site.0 ≡ true) subscriptions
      → AllByRecursion (λ (e : ℕ × Subscription). is_subscription publication e.1.site.0 ≡ true) es
      → AllByRecursion (λ (e : ℕ × Subscription). is_subscription publication e.1.site.0 ≡ true) (fold (λ (others : List (ℕ × Subscription)) (s : Subscription). put_number others s.site.0 s) es subscriptions)
  subscribed-put [] es all before = before
  subscribed-put (s ∷ subscriptions) es all before =
      subscribed-put subscriptions (put_number es s.site.0 s) all.1 (all-put (λ (e : ℕ × Subscription). is_subscription publication e.1.site.0 ≡ true) nat_cmp s.site.0 s (λ q same. all.0) all.0 es before)

  subscribed : AllByRecursion (λ (e : ℕ × Subscription). is_subscription publication e.1.site.0 ≡ true) (by_site publication)
  subscribed = subscribed-put publication.subscriptions []
      (all-weaker (λ (s : Subscription). (test : Subscription → Bool) → test s ≡ true → list_any test publication.subscriptions ≡ true) (λ (s : Subscription). is_subscription publication s.site.0 ≡ true)
      (λ s found. found (λ (x : Subscription). x.site.0 == s.site.0) (number-itself s.site.0)) publication.subscriptions (each-found publication.subscriptions))
      tt

  -- the publisher is none of them
  high : (subscriptions : List Subscription) (site : ℕ) → AllByRecursion (λ (s : Subscription). IsValidSubscription s) subscriptions → list_any (λ (s : Subscription). s.site.0 == site) subscriptions ≡ true → 1 ≤ site
  high subscriptions site valid some = any-leads (λ (s : Subscription). s.site.0 == site) (1 ≤ site) subscriptions
      (all-weaker (λ (s : Subscription). IsValidSubscription s) (λ (s : Subscription). (s.site.0 == site) ≡ true → 1 ≤ site)
      (λ s v is. (let low : 1 ≤ s.site.0 = v.valid_site.0 in let same : s.site.0 ≡ site = numbers-same s.site.0 site is in omega (arith, low, same))) subscriptions valid)
      some

  other-site : (resolvers : ℕ) × IsValid resolvers publication → (site : SiteId) → is_subscription publication site.0 ≡ true → site ≡ record { 0 = 0 } → ⊥
  other-site valid site subscribes is =
      let low : 1 ≤ site.0 = high publication.subscriptions site.0 (recursion_from_All (λ (s : Subscription). IsValidSubscription s) publication.subscriptions valid.1.valid_subscriptions) subscribes in
      let zero : site.0 ≡ 0 = ap (λ (s : SiteId). s.0) is in omega (arith, low, zero)

  -- what is told of their stores stays, while the publisher's is opened
  pub beside : (resolvers : ℕ) × IsValid resolvers publication → (path : List ℕ) (old new : SiteId → List ℕ → Option Map) → SameElsewhere (record { 0 = 0 }) path old new
      → (site : SiteId) → is_subscription publication site.0 ≡ true → (is_site publication site ≡ true) × (new site path ≡ old site path)
  beside valid path old new others site subscribes =
      (or-second (site.0 == 0) (is_subscription publication site.0) subscribes, others site path (λ both. other-site valid site subscribes both.0))

  -- all stores are empty, where that of the publisher is and those of the subscriptions
  pub all-empty : (were told : SiteId → Option Map) → ((site : SiteId) → is_subscription publication site.0 ≡ true → (is_site publication site ≡ true) × (told site ≡ were site))
      → IsEmptyStore (were (record { 0 = 0 })) → AreEmptyStores (λ (site : SiteId). is_subscription publication site.0) told → AreEmptyStores (is_site publication) were
  all-empty were told each first others = λ site known. either (IsEmptyStore (were site)) (site.0 == 0) (is_subscription publication site.0) known
      (λ is. (let zero : 0 ≡ site.0 = sym (numbers-same site.0 0 is) in subst (λ (n : ℕ). IsEmptyStore (were (record { 0 = n }))) zero first))
      (λ subscribes. subst (λ (o : Option Map). IsEmptyStore o) (each site subscribes).1 (others site subscribes))

-- Subscribers that are started one after the other.

-- a site to come is a subscription, and its store is told as at first
abbrev pub IsToCome : Publication → (path : List ℕ) → (were told : SiteId → List ℕ → Option Map) → ℕ × Subscription → Type 0
IsToCome publication path were told e = (is_subscription publication e.1.site.0 ≡ true) × (told e.1.site path ≡ were e.1.site path)

-- Sites were started, whose stores were empty, and the others are to come in their order.
pub record Starting (publication : Publication) (path : List ℕ) (were told : SiteId → List ℕ → Option Map) (started : List ℕ) (rest : List (ℕ × Subscription)) : Type 0 where
  pub empty : AllByRecursion (λ (site : ℕ). IsEmptyStore (were (record { 0 = site }) path)) started
  pub keyed : AreKeyed rest
  pub ascend : IsStrictlySortedBy nat_cmp (keys_of rest)
  pub to_come : AllByRecursion (IsToCome publication path were told) rest

module _ (publication : Publication) (path : List ℕ) where
  -- before the first
  pub none-fresh : (views : List SubscriberView) → views ≡ [] → (rest : List (ℕ × Subscription)) → rest ≡ by_site publication → map untold_subscriber views ++ map (fresh_at publication) rest ≡ fresh_subscribers publication
  none-fresh views none rest is = ap (λ (l : List SubscriberView). map untold_subscriber l ++ map (fresh_at publication) rest) none ∙ ap (λ (es : List (ℕ × Subscription)). map (fresh_at publication) es) is

  pub no-rooms : (room : SiteId → List ℕ → Type 0) (views : List SubscriberView) → views ≡ [] → AreRooms room path (map site_of views)
  no-rooms room views none = subst (λ (l : List SubscriberView). AreRooms room path (map site_of l)) (sym none) tt

  pub none-started : (told : SiteId → List ℕ → Option Map) (views : List SubscriberView) → views ≡ [] → (rest : List (ℕ × Subscription)) → rest ≡ by_site publication → Starting publication path told told (map site_of views) rest
  none-started told views none rest is =
      subst (λ (l : List SubscriberView). Starting publication path told told (map site_of l) rest) (sym none)
      (subst (λ (es : List (ℕ × Subscription)). Starting publication path told told [] es) (sym is) (record {
        empty = tt;
        keyed = sites-keyed publication;
        ascend = sites-ascend publication;
        to_come = all-weaker (λ (e : ℕ × Subscription). is_subscription publication e.1.site.0 ≡ true) (IsToCome publication path told told) (λ e known. (known, refl)) (by_site publication) (subscribed publication);
      }))

  module _ (were old next : SiteId → List ℕ → Option Map) (e : ℕ × Subscription) (others : SameElsewhere e.1.site path old next) where
    -- those behind it are other sites
    later : e.1.site.0 ≡ e.0 → (es : List (ℕ × Subscription)) → AllByRecursion (λ (k : ℕ). nat_cmp e.0 k ≡ Less) (keys_of es) → AreKeyed es → AllByRecursion (IsToCome publication path were old) es
        → AllByRecursion (IsToCome publication path were next) es
    later here [] above keyed all = tt
    later here (f ∷ es) above keyed all =
        let less : nat_cmp e.0 f.0 ≡ Less = above.0 in
        let below : e.0 < f.0 = grind (arith, nat_tests, less) in
        let there : f.1.site.0 ≡ f.0 = keyed.0 in (
          (all.0.0, others f.1.site path (λ both. (let same : f.1.site.0 ≡ e.1.site.0 = ap (λ (s : SiteId). s.0) both.0 in omega (arith, below, there, here, same))) ∙ all.0.1),
          later here es above.1 keyed.1 all.1,
        )

    next-started : (started : List ℕ) (rest : List (ℕ × Subscription)) → IsEmptyStore (old e.1.site path) → Starting publication path were old started (e ∷ rest) → Starting publication path were next (started ++ e.1.site.0 ∷ []) rest
    next-started started rest here s = record {
      empty = all-append (λ (site : ℕ). IsEmptyStore (were (record { 0 = site }) path)) started (e.1.site.0 ∷ []) s.empty (subst (λ (o : Option Map). IsEmptyStore o) s.to_come.0.1 here, tt);
      keyed = s.keyed.1;
      ascend = sorted_tail nat_cmp e.0 (keys_of rest) s.ascend;
      to_come = later s.keyed.0 rest (sorted_head nat_cmp e.0 (keys_of rest) s.ascend) s.keyed.1 s.to_come.1;
    }

    sites-more : (views : List SubscriberView) (s : SubscriberView) → map site_of (views ++ s ∷ []) ≡ map site_of views ++ site_of s ∷ []
    sites-more [] s = refl
    sites-more (v ∷ views) s = ap (λ (l : List ℕ). site_of v ∷ l) (sites-more views s)

    pub one-started : (views held now : List SubscriberView) (s : SubscriberView) → held ≡ views → now ≡ held ++ s ∷ [] → untold_subscriber s ≡ fresh_at publication e → (left rest : List (ℕ × Subscription)) → left ≡ e ∷ rest → IsEmptyStore (old e.1.site path)
        → Starting publication path were old (map site_of views) left → Starting publication path were next (map site_of now) rest
    one-started views held now s same put fresh left rest is here so_far =
        let one : map site_of now ≡ map site_of views ++ site_of s ∷ [] = rw (put, same) (sites-more views s) in
        let sites : map site_of now ≡ map site_of views ++ e.1.site.0 ∷ [] = one ∙ ap (λ (x : SubscriberView). map site_of views ++ site_of x ∷ []) fresh in
        subst (λ (l : List ℕ). Starting publication path were next l rest) (sym sites)
        (next-started (map site_of views) rest here (subst (λ (l : List (ℕ × Subscription)). Starting publication path were old (map site_of views) l) is so_far))

  -- the next does not start
  pub next-unstarted : (were told : SiteId → List ℕ → Option Map) (started : List ℕ) (e : ℕ × Subscription) (left rest : List (ℕ × Subscription)) → left ≡ e ∷ rest → Starting publication path were told started left
      → (before mid after : ℕ) → mid ≡ before → (ending : Ending) → IsUnstartedAt ending (told e.1.site path) mid after
      → IsUnstarted (λ (s : SiteId). is_subscription publication s.0) (λ (s : SiteId). were s path) ending before after
  next-unstarted were told started e left rest is so_far before mid after kept ending p =
      let s : Starting publication path were told started (e ∷ rest) = subst (λ (l : List (ℕ × Subscription)). Starting publication path were told started l) is so_far in
      unstarted-one (λ (x : SiteId). is_subscription publication x.0) (λ (x : SiteId). were x path) e.1.site s.to_come.0.0 (told e.1.site path) s.to_come.0.1 before mid after kept ending p

  -- all were started
  each-empty : (were : SiteId → List ℕ → Option Map) (site : SiteId) (es : List (ℕ × Subscription)) → AllByRecursion (λ (n : ℕ). IsEmptyStore (were (record { 0 = n }) path)) (keys_of es)
      → AllByRecursion (λ (e : ℕ × Subscription). (e.0 == site.0) ≡ true → IsEmptyStore (were site path)) es
  each-empty were site [] all = tt
  each-empty were site (e ∷ es) all = ((λ is. subst (λ (n : ℕ). IsEmptyStore (were (record { 0 = n }) path)) (numbers-same e.0 site.0 is) all.0), each-empty were site es all.1)

  pub all-fresh : (views : List SubscriberView) (rest : List (ℕ × Subscription)) → rest ≡ [] → map untold_subscriber views ++ map (fresh_at publication) rest ≡ fresh_subscribers publication → map untold_subscriber views ≡ fresh_subscribers publication
  all-fresh views rest none so_far =
      sym (append-nil (map untold_subscriber views)) ∙ subst (λ (l : List (ℕ × Subscription)). map untold_subscriber views ++ map (fresh_at publication) l ≡ fresh_subscribers publication) none so_far

  pub all-started : (were told : SiteId → List ℕ → Option Map) (views : List SubscriberView) (rest : List (ℕ × Subscription)) → rest ≡ [] → map untold_subscriber views ++ map (fresh_at publication) rest ≡ fresh_subscribers publication
      → Starting publication path were told (map site_of views) rest → AreEmptyStores (λ (s : SiteId). is_subscription publication s.0) (λ (s : SiteId). were s path)
  all-started were told views rest none so_far s = λ site subscribes.
      let fresh : map untold_subscriber views ≡ fresh_subscribers publication = all-fresh views rest none so_far in
      let sites : map site_of views ≡ keys_of (by_site publication) = sym (map-untold site_of (λ s. refl) views) ∙ (ap (λ (l : List SubscriberView). map site_of l) fresh ∙ fresh-sites publication) in
      any-leads (λ (e : ℕ × Subscription). e.0 == site.0) (IsEmptyStore (were site path)) (by_site publication)
      (each-empty were site (by_site publication) (subst (λ (l : List ℕ). AllByRecursion (λ (n : ℕ). IsEmptyStore (were (record { 0 = n }) path)) l) sites s.empty))
      (site-stands publication site.0 (found-any (λ (x : Subscription). x.site.0 == site.0) publication.subscriptions ∙ subscribes))
