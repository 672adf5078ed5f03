-- Stores are told as the keepers that were given back tell them.
use Rattle.std.proofs.Common.{Bool, List, Ok, Option, Some, [], ap, append_assoc, arith, eq-eqb, false, get_or, inl, inr, length, map, ne_eqb, refl, subst, suc, sym, true, zero, ℕ, ◌++◌, ◌<◌, ◌≤◌, ◌∙◌, ◌∷◌, ◌≡◌, ◌≢◌, ◌⊎◌}
use Rattle.std.specs.Prelude.{Contains, None}
use Rattle.std.specs.List.{AllByRecursion}
use Rattle.std.proofs.lemmas.List.{append-nil, map-id}
use Rattle.std.proofs.lemmas.List.Elements.{All-contains, All-from_recursion, Contains-push_cases}
use Rattle.merge_types.specs.declared.identifiers.Moment.{Moment}
use Rattle.merge_types.specs.declared.identifiers.SiteId.{SiteId}
use Rattle.merge_ports.specs.Entries.{Map}
use Rattle.merge_schema.specs.declared.publication.Publication.{Publication}
use Rattle.merge_keeper.specs.PublisherStart.{publisher_loaded}
use Rattle.merge_keeper.specs.Stored.{publisher_records, subscriber_records}
use Rattle.merge_keeper.specs.SubscriberStart.{subscriber_loaded}
use Rattle.merge_model.specs.Publisher.{new_holders}
use Rattle.merge_model.specs.Tables.Keys.{at_number}
use Rattle.merge_model.specs.declared.letter.Letter.{Letter}
use Rattle.merge_model.proofs.Lists.Places.{found-in-place}
use Rattle.merge_site.specs.Damages.{IsPublisherDamage, IsSubscriberDamage}
use Rattle.merge_site.specs.Publishers.{publisher_stored}
use Rattle.merge_site.specs.Subscribers.{subscriber_stored}
use Rattle.merge_world.specs.Restarts.{IsDamagedAt}
use Rattle.merge_world.specs.Views.{PublisherView, SubscriberView, entry_of, site_of, sites_view}
use Rattle.merge_program.specs.GivenBack.{AreToldBack, AscendAbove}
use Rattle.merge_program.specs.Sited.{IsDamageAs, IsDamageAt, LoadsAs, LoadsAt}
use Rattle.merge_program.proofs.Sites.{damage-at, publisher-damage-at}

-- The keepers up to the rest are given back: the publisher's, and those of these subscribers, whose sites are not above this number.
pub record Back (told : SiteId → List ℕ → Option Map) (path : List ℕ) (first : Option Map) (all rest : List SubscriberView) : Type 0 where
  pub front : List SubscriberView
  pub parts : all ≡ front ++ rest
  pub low : ℕ
  pub above : AscendAbove low (map site_of rest)
  pub publisher : told (record { 0 = 0 }) path ≡ first
  pub before : (s : SubscriberView) → Contains front s → (s.tables.site.0 ≤ low) × (told s.tables.site path ≡ s.told)

pub begins-back : (told : SiteId → List ℕ → Option Map) (path : List ℕ) (first : Option Map) (all rest : List SubscriberView) → rest ≡ all → told (record { 0 = 0 }) path ≡ first → AscendAbove 0 (map site_of all) → Back told path first all rest
begins-back told path first all rest is here ascend = subst (λ (l : List SubscriberView). Back told path first all l) (sym is) (record {
  front = [];
  parts = refl;
  low = 0;
  above = ascend;
  publisher = here;
  before = λ s there. let lt : there.0 < 0 = there.1 in absurd (omega (arith, lt));
})

-- The keeper of one subscriber more is given back.
module _ (old new : SiteId → List ℕ → Option Map) (path : List ℕ) (first : Option Map) (all rest : List SubscriberView) (s : SubscriberView) (site : SiteId) (own : site ≡ s.tables.site) (here : new site path ≡ s.told)
    (others : (t : SiteId) (q : List ℕ) → ((t ≡ site) × (q ≡ path) → ⊥) → new t q ≡ old t q) (b : Back old path first all (s ∷ rest)) where
  apart : (t : SiteId) → t.0 ≤ b.low → (t ≡ site) × (path ≡ path) → ⊥
  apart t le both =
      let same : t.0 ≡ s.tables.site.0 = ap (λ (x : SiteId). x.0) (both.0 ∙ own) in
      let lt : b.low < s.tables.site.0 = b.above.0 in omega (arith, le, lt, same)

  zero-low : (n : ℕ) → 0 ≤ n
  zero-low n = omega arith

  own-told : new s.tables.site path ≡ s.told
  own-told = subst (λ (x : SiteId). new x path ≡ s.told) own here

  itself : (s.tables.site.0 ≤ s.tables.site.0) × (new s.tables.site path ≡ s.told)
  itself = (omega arith, own-told)

  placed : (t : SubscriberView) → Contains b.front t ⊎ (s ≡ t) → (t.tables.site.0 ≤ s.tables.site.0) × (new t.tables.site path ≡ t.told)
  placed t (inl in-front) =
      let g = b.before t in-front in
      let le = g.0 in
      let lt : b.low < s.tables.site.0 = b.above.0 in (omega (arith, le, lt), others t.tables.site path (apart t.tables.site le) ∙ g.1)
  placed t (inr same) = subst (λ (x : SubscriberView). (x.tables.site.0 ≤ s.tables.site.0) × (new x.tables.site path ≡ x.told)) same itself

  one-more : Back new path first all rest
  one-more = record {
    front = b.front ++ s ∷ [];
    parts = rw append_assoc b.parts;
    low = s.tables.site.0;
    above = b.above.1;
    publisher = others (record { 0 = 0 }) path (apart (record { 0 = 0 }) (zero-low b.low)) ∙ b.publisher;
    before = λ t there. placed t (Contains-push_cases b.front s t there);
  }

pub more-back : (old new : SiteId → List ℕ → Option Map) (path : List ℕ) (first : Option Map) (all left rest : List SubscriberView) (s : SubscriberView) → left ≡ s ∷ rest → (site : SiteId) → site ≡ s.tables.site → new site path ≡ s.told
    → ((t : SiteId) (q : List ℕ) → ((t ≡ site) × (q ≡ path) → ⊥) → new t q ≡ old t q) → Back old path first all left → Back new path first all rest
more-back old new path first all left rest s is site own here others so_far =
    one-more old new path first all rest s site own here others (subst (λ (l : List SubscriberView). Back old path first all l) is so_far)

pub all-back : (told : SiteId → List ℕ → Option Map) (path : List ℕ) (p : PublisherView) (all rest : List SubscriberView) → length rest ≡ 0 → Back told path p.told all rest → AreToldBack told path p all
all-back told path p all (s ∷ rest) none b = absurd (omega (arith, none))
all-back told path p all [] none b =
    let whole : all ≡ b.front = b.parts ∙ append-nil b.front in record {
      publisher = b.publisher;
      subscribers = λ s there. (b.before s (subst (λ (l : List SubscriberView). Contains l s) whole there)).1;
    }

-- Each subscriber's site is above the number.
all-above : (bound low : ℕ) → bound ≤ low → (ss : List SubscriberView) → AscendAbove low (map site_of ss) → AllByRecursion (λ (s : SubscriberView). bound < s.tables.site.0) ss
all-above bound low le [] ascend = tt
all-above bound low le (s ∷ ss) ascend = let lt = ascend.0 in (omega (arith, le, lt), all-above bound s.tables.site.0 (omega (arith, le, lt)) ss ascend.1)

one-above : (ss : List SubscriberView) → AscendAbove 0 (map site_of ss) → (s : SubscriberView) → Contains ss s → 0 < s.tables.site.0
one-above ss ascend s there = All-contains (λ (x : SubscriberView). 0 < x.tables.site.0) ss s (All-from_recursion (λ (x : SubscriberView). 0 < x.tables.site.0) ss (all-above 0 0 (omega arith) ss ascend)) there

-- Sites that ascend are found by their numbers.

above-low : (low : ℕ) (ss : List SubscriberView) → AscendAbove low (map site_of ss) → (k : ℕ) (d : SubscriberView) → k < length ss → low < (get_or ss k d).tables.site.0
above-low low [] ascend k d lt = absurd (omega (arith, lt))
above-low low (s ∷ ss) ascend zero d lt = ascend.0
above-low low (s ∷ ss) ascend (suc k) d lt =
    let first = ascend.0 in
    let rest = above-low s.tables.site.0 ss ascend.1 k d (omega (arith, lt)) in omega (arith, first, rest)

before-it : (low : ℕ) (ss : List SubscriberView) → AscendAbove low (map site_of ss) → (j k : ℕ) (d : SubscriberView) → j < k → k < length ss → (get_or ss j d).tables.site.0 < (get_or ss k d).tables.site.0
before-it low [] ascend j k d less lt = absurd (omega (arith, lt))
before-it low (s ∷ ss) ascend j zero d less lt = absurd (omega (arith, less))
before-it low (s ∷ ss) ascend zero (suc k) d less lt = above-low s.tables.site.0 ss ascend.1 k d (omega (arith, lt))
before-it low (s ∷ ss) ascend (suc j) (suc k) d less lt = before-it s.tables.site.0 ss ascend.1 j k d (omega (arith, less)) (omega (arith, lt))

found-by-site : (ss : List SubscriberView) → AscendAbove 0 (map site_of ss) → (s : SubscriberView) → Contains ss s → at_number (map entry_of ss) s.tables.site.0 ≡ Some s.tables
found-by-site ss ascend s there =
    subst (λ (x : SubscriberView). at_number (map entry_of ss) x.tables.site.0 ≡ Some x.tables) there.2
    (found-in-place (λ (x : SubscriberView). x.tables) ss there.0 s there.1 (λ j less. before-it 0 ss ascend j there.0 s less there.1))

-- a record that is damaged at a site is so in the store that is told of it
module _ (publication : Publication) (p : PublisherView) (ss : List SubscriberView) (own : p.publication ≡ publication) (alike : (s : SubscriberView) → Contains ss s → s.publication ≡ publication) (ascend : AscendAbove 0 (map site_of ss))
    (told : SiteId → List ℕ → Option Map) (path : List ℕ) (back : AreToldBack told path p ss) (site : SiteId) (table : ℕ) (key : List ℕ) where
  at-publisher : site.0 ≡ 0 → IsPublisherDamage p table key → IsDamageAt publication site (told site path) table key
  at-publisher first damage =
      let here : (let x : SiteId = record { 0 = 0 } in x) ≡ site = ap (λ (n : ℕ). (let x : SiteId = record { 0 = n } in x)) (sym first) in
      publisher-damage-at site first publication (told site path) table key
      (subst (λ (x : SiteId). IsDamageAs true publication site (told x path) table key) here
      (subst (λ (m : Option Map). IsDamageAs true publication site m table key) (sym back.publisher)
      (subst (λ (q : Publication). IsDamageAs true q site p.told table key) own damage.damage)))

  at-subscriber : (s : SubscriberView) → Contains ss s → s.tables.site.0 ≡ site.0 → IsSubscriberDamage s table key → IsDamageAt publication site (told site path) table key
  at-subscriber s there number damage =
      let here : s.tables.site ≡ site = ap (λ (n : ℕ). (let x : SiteId = record { 0 = n } in x)) number in
      let low : 0 < s.tables.site.0 = one-above ss ascend s there in
      damage-at site (λ first. omega (arith, low, number, first)) publication (told site path) table key
      (subst (λ (x : SiteId). IsDamageAs false publication x (told x path) table key) here
      (subst (λ (m : Option Map). IsDamageAs false publication s.tables.site m table key) (sym (back.subscribers s there))
      (subst (λ (q : Publication). IsDamageAs false q s.tables.site s.told table key) (alike s there) damage.damage)))

  by-site : ((site.0 ≡ 0) × IsPublisherDamage p table key) ⊎ ((s : SubscriberView) × Contains ss s × (s.tables.site.0 ≡ site.0) × IsSubscriberDamage s table key) → IsDamageAt publication site (told site path) table key
  by-site (inl (first, damage)) = at-publisher first damage
  by-site (inr (s, there, number, damage)) = at-subscriber s there number damage

  -- where the records of its tables load, none is told of it
  untold-publisher : (pool : List Letter) (moment : Moment) → site.0 ≡ 0 → IsPublisherDamage p table key → LoadsAt publication site (sites_view p (map (λ (s : SubscriberView). s) ss) pool moment) → told site path ≡ None
  untold-publisher pool moment first damage loads =
      let here : (let x : SiteId = record { 0 = 0 } in x) ≡ site = ap (λ (n : ℕ). (let x : SiteId = record { 0 = n } in x)) (sym first) in
      let load : LoadsAs true publication site (sites_view p (map (λ (s : SubscriberView). s) ss) pool moment) =
      subst (λ (b : Bool). LoadsAs b publication site (sites_view p (map (λ (s : SubscriberView). s) ss) pool moment)) (eq-eqb site.0 0 first) loads in
      subst (λ (x : SiteId). told x path ≡ None) here
      (back.publisher
      ∙ damage.untold (subst (λ (q : Publication). publisher_loaded q (new_holders q) (publisher_records (publisher_stored p.tables)) ≡ Ok (publisher_stored p.tables)) (sym own) load))

  untold-subscriber : (pool : List Letter) (moment : Moment) (s : SubscriberView) → Contains ss s → s.tables.site.0 ≡ site.0 → IsSubscriberDamage s table key → LoadsAt publication site (sites_view p (map (λ (t : SubscriberView). t) ss) pool moment) → told site path ≡ None
  untold-subscriber pool moment s there number damage loads =
      let here : s.tables.site ≡ site = ap (λ (n : ℕ). (let x : SiteId = record { 0 = n } in x)) number in
      let low : 0 < s.tables.site.0 = one-above ss ascend s there in
      let load : LoadsAs false publication site (sites_view p (map (λ (t : SubscriberView). t) ss) pool moment) =
      subst (λ (b : Bool). LoadsAs b publication site (sites_view p (map (λ (t : SubscriberView). t) ss) pool moment)) (ne_eqb site.0 0 (λ first. omega (arith, low, number, first))) loads in
      let found : at_number (map entry_of (map (λ (t : SubscriberView). t) ss)) site.0 ≡ Some s.tables =
      ap (λ (l : List SubscriberView). at_number (map entry_of l) site.0) (map-id ss) ∙ (ap (λ (n : ℕ). at_number (map entry_of ss) n) (sym number) ∙ found-by-site ss ascend s there) in
      subst (λ (x : SiteId). told x path ≡ None) here
      (back.subscribers s there
      ∙ damage.untold (subst (λ (q : Publication). subscriber_loaded q s.tables.site (new_holders q) (subscriber_records (subscriber_stored s.tables)) ≡ Ok (subscriber_stored s.tables)) (sym (alike s there)) (load s.tables found)))

  untold-by-site : (pool : List Letter) (moment : Moment) → ((site.0 ≡ 0) × IsPublisherDamage p table key) ⊎ ((s : SubscriberView) × Contains ss s × (s.tables.site.0 ≡ site.0) × IsSubscriberDamage s table key)
      → LoadsAt publication site (sites_view p (map (λ (s : SubscriberView). s) ss) pool moment) → told site path ≡ None
  untold-by-site pool moment (inl (first, damage)) loads = untold-publisher pool moment first damage loads
  untold-by-site pool moment (inr (s, there, number, damage)) loads = untold-subscriber pool moment s there number damage loads

  pub untold-told : (pool : List Letter) (moment : Moment) → IsDamagedAt IsPublisherDamage IsSubscriberDamage (λ (s : SubscriberView). s.tables.site.0) p ss site table key
      → LoadsAt publication site (sites_view p (map (λ (s : SubscriberView). s) ss) pool moment) → told site path ≡ None
  untold-told pool moment d loads = untold-by-site pool moment d.damage loads

  pub damage-told : IsDamagedAt IsPublisherDamage IsSubscriberDamage (λ (s : SubscriberView). s.tables.site.0) p ss site table key → IsDamageAt publication site (told site path) table key
  damage-told d = by-site d.damage
