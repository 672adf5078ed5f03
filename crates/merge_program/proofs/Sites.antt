-- One site at its store, while all others are elsewhere.
use Rattle.std.proofs.Common.{Bool, List, Ok, Option, Some, [], ap, arith, eq-eqb, false, get_or, length, map, min, ne_eqb, refl, subst, suc, sum_by, sym, true, zero, ℕ, ◌+◌, ◌++◌, ◌-◌, ◌==◌, ◌^◌, ◌||◌, ◌∙◌, ◌∷◌, ◌≡◌, ◌≢◌}
use Rattle.std.proofs.lemmas.List.{length-append, length-map}
use Rattle.std.proofs.lemmas.List.Sums.{sum_by-cons}
use Rattle.merge_types.specs.declared.identifiers.SiteId.{SiteId}
use Rattle.merge_ports.specs.Entries.{Map}
use Rattle.merge_ports.specs.Opened.{with_faults}
use Rattle.merge_ports.specs.declared.outside.Counts.{Counts}
use Rattle.merge_schema.specs.Places.{is_subscription}
use Rattle.merge_schema.specs.declared.publication.Publication.{Publication}
use Rattle.merge_keeper.specs.PublisherStart.{publisher_loaded}
use Rattle.merge_keeper.specs.SubscriberStart.{subscriber_loaded}
use Rattle.merge_model.specs.World.Events.{is_site}
use Rattle.merge_model.specs.Tables.Keys.{at_number}
use Rattle.merge_model.specs.Publisher.{new_holders}
use Rattle.merge_model.specs.Tables.{SubscriberTables}
use Rattle.merge_model.specs.declared.letter.Letter.{Letter}
use Rattle.merge_model.proofs.Lists.Finding.{at_put_same}
use Rattle.merge_site.specs.Kept.{IsKept}
use Rattle.merge_site.specs.Loading.{IsRead}
use Rattle.merge_site.specs.Publishers.{publisher_stored, records_of as publisher_records}
use Rattle.merge_site.specs.Subscribers.{records_of, subscriber_stored}
use Rattle.merge_command.specs.Alone.{fresh_publisher, subscriber_view_alone}
use Rattle.merge_world.specs.Views.{IsOrdered, PublisherView, SitesView, SubscriberView, entry_of, faults_of, site_of, sites_view}
use Rattle.merge_program.specs.Sited.{IsDamageAs, IsDamageAt, IsKeptAs, IsKeptAt, IsReadAs, IsReadAt, PublisherRead, SubscriberKept, SubscriberRead, begin, publisher_alone}
use Rattle.merge_program.specs.Stores.{RoseBy}

abbrev these : List SubscriberView → List SubscriberView
these ss = map (λ (s : SubscriberView). s) ss

-- Sites that were opened.

same-publisher : (publication : Publication) (p : PublisherView) → p.publication ≡ publication → p.faults ≡ 0 → sites_view p [] [] begin ≡ publisher_alone publication p.tables
same-publisher publication p same none = ap (λ (q : PublisherView). sites_view q [] [] begin) (is-published ∙ is-unfailed)
  where
    is-published : p ≡ record p { publication = publication }
    is-published = ap (λ (q : Publication). record p { publication = q }) same

    is-unfailed : record p { publication = publication } ≡ record { publication = publication; tables = p.tables; faults = 0; told = p.told }
    is-unfailed = ap (λ (n : ℕ). record { publication = publication; tables = p.tables; faults = n; told = p.told }) none

pub publisher-read : (publication : Publication) (told : Option Map) (p : PublisherView) (ss : List SubscriberView) (pool : List Letter) → ss ≡ [] → pool ≡ []
    → IsRead (publisher_loaded publication (new_holders publication)) told (Ok (publisher_stored p.tables)) → p.publication ≡ publication → p.faults ≡ 0 → PublisherRead publication told (sites_view p (these ss) pool begin)
publisher-read publication told p ss pool none empty read same unfailed =
    subst (λ (l : List Letter). PublisherRead publication told (sites_view p (these ss) l begin)) (sym empty)
    (subst (λ (l : List SubscriberView). PublisherRead publication told (sites_view p (these l) [] begin)) (sym none)
    (record { tables = p.tables; read = read; seen = same-publisher publication p same unfailed }))

same-subscriber : (publication : Publication) (s : SubscriberView) → s.publication ≡ publication → s.faults ≡ 0 → sites_view (fresh_publisher publication) (s ∷ []) [] begin ≡ subscriber_view_alone publication s.tables 0 begin
same-subscriber publication s same none = ap (λ (t : SubscriberView). sites_view (fresh_publisher publication) (t ∷ []) [] begin) (is-published ∙ is-unfailed)
  where
    is-published : s ≡ record s { publication = publication }
    is-published = ap (λ (q : Publication). record s { publication = q }) same

    is-unfailed : record s { publication = publication } ≡ record { publication = publication; tables = s.tables; faults = 0; told = s.told }
    is-unfailed = ap (λ (n : ℕ). record { publication = publication; tables = s.tables; faults = n; told = s.told }) none

subscriber-read : (publication elsewhere : Publication) (site : SiteId) (told : Option Map) (s : SubscriberView) (ss : List SubscriberView) (pool : List Letter) → elsewhere ≡ publication → ss ≡ s ∷ [] → pool ≡ []
    → IsRead (subscriber_loaded publication site (new_holders publication)) told (Ok (subscriber_stored s.tables)) → s.tables.site ≡ site → s.publication ≡ publication → s.faults ≡ 0
    → SubscriberRead publication site told (sites_view (fresh_publisher elsewhere) (these ss) pool begin)
subscriber-read publication elsewhere site told s ss pool where_ one empty read here same unfailed =
    subst (λ (l : List Letter). SubscriberRead publication site told (sites_view (fresh_publisher elsewhere) (these ss) l begin)) (sym empty)
    (subst (λ (l : List SubscriberView). SubscriberRead publication site told (sites_view (fresh_publisher elsewhere) (these l) [] begin)) (sym one)
    (subst (λ (q : Publication). SubscriberRead publication site told (sites_view (fresh_publisher q) (s ∷ []) [] begin)) (sym where_)
    (record { tables = s.tables; here = here; read = read; seen = same-subscriber publication s same unfailed })))

-- the same, of a copy of the publication
pub subscriber-read-of : (publication elsewhere own : Publication) (site : SiteId) (told : Option Map) (s : SubscriberView) (ss : List SubscriberView) (pool : List Letter) → elsewhere ≡ publication → own ≡ publication → ss ≡ s ∷ [] → pool ≡ []
    → IsRead (subscriber_loaded own site (new_holders own)) told (Ok (subscriber_stored s.tables)) → s.tables.site ≡ site → s.publication ≡ own → s.faults ≡ 0
    → SubscriberRead publication site told (sites_view (fresh_publisher elsewhere) (these ss) pool begin)
subscriber-read-of publication elsewhere own site told s ss pool where_ copied one empty read here same unfailed =
    subscriber-read publication elsewhere site told s ss pool where_ one empty (subst (λ (q : Publication). IsRead (subscriber_loaded q site (new_holders q)) told (Ok (subscriber_stored s.tables))) copied read) here (same ∙ copied) unfailed

-- They are in their order.

one-publication : (publication : Publication) (i : ℕ) → get_or (publication ∷ []) i publication ≡ publication
one-publication publication zero = refl
one-publication publication (suc i) = refl

pub publisher-ordered : (publication : Publication) (told : Option Map) (v : SitesView) → PublisherRead publication told v → IsOrdered v
publisher-ordered publication told v r = subst (λ (x : SitesView). IsOrdered x) (sym r.seen) (record {
  ascending = λ i j less in_list. absurd (omega (arith, in_list));
  same = λ i in_list. absurd (omega (arith, in_list));
})

pub subscriber-ordered : (publication : Publication) (site : SiteId) (told : Option Map) (v : SitesView) → SubscriberRead publication site told v → IsOrdered v
subscriber-ordered publication site told v r = subst (λ (x : SitesView). IsOrdered x) (sym r.seen) (record {
  ascending = λ i j less in_list. absurd (omega (arith, less, in_list));
  same = λ i in_list. one-publication publication i;
})

pub publisher-sites : (publication : Publication) (told : Option Map) (v : SitesView) (sites : List ℕ) → PublisherRead publication told v → sites ≡ v.sites → sites ≡ []
publisher-sites publication told v sites r same = same ∙ ap (λ (x : SitesView). x.sites) r.seen

pub subscriber-sites : (publication : Publication) (site : SiteId) (told : Option Map) (v : SitesView) (sites : List ℕ) → SubscriberRead publication site told v → sites ≡ v.sites → sites ≡ site.0 ∷ []
subscriber-sites publication site told v sites r same = same ∙ (ap (λ (x : SitesView). x.sites) r.seen ∙ ap (λ (s : SiteId). s.0 ∷ []) r.here)

pub publisher-of : (publication : Publication) (told : Option Map) (v : SitesView) → PublisherRead publication told v → v.publication ≡ publication
publisher-of publication told v r = ap (λ (x : SitesView). x.publication) r.seen

pub subscriber-of : (publication : Publication) (site : SiteId) (told : Option Map) (v : SitesView) → SubscriberRead publication site told v → v.publication ≡ publication
subscriber-of publication site told v r = ap (λ (x : SitesView). x.publication) r.seen

-- Keepers that are given back.

no-faults : (ss : List SubscriberView) → map site_of (these ss) ≡ [] → sum_by faults_of (these ss) ≡ 0
no-faults [] none = refl
no-faults (s ∷ ss) none = absurd (cc none)

pub publisher-few : (faults : ℕ) (ss : List SubscriberView) → map site_of (these ss) ≡ [] → (kept : ℕ) → kept ≡ faults → (before after : Counts) → after ≡ with_faults kept before
    → RoseBy (faults + sum_by faults_of (these ss)) before.stores after.stores
publisher-few faults ss none kept same before after risen =
    let unfailed : sum_by faults_of (these ss) ≡ 0 = no-faults ss none in
    let stores : after.stores ≡ min (before.stores + kept) (2 ^ 64 - 1) = ap (λ (c : Counts). c.stores) risen in
    omega (arith, unfailed, stores, same)

-- the only one of a list is the last
only : (rest : List SubscriberView) (s : SubscriberView) (n : ℕ) → map site_of (these (rest ++ s ∷ [])) ≡ n ∷ [] → rest ≡ []
only [] s n one = refl
only (r ∷ rest) s n one =
    let many : length (map site_of (these (rest ++ s ∷ []))) ≡ 0 = ap (λ (l : List ℕ). length l) (behind (map site_of (these (rest ++ s ∷ []))) one) in
    absurd (omega (arith, many, length-map (these (rest ++ s ∷ [])) site_of, length-map (rest ++ s ∷ []) (λ (x : SubscriberView). x), length-append rest (s ∷ [])))
  where
    behind : (l : List ℕ) → r.tables.site.0 ∷ l ≡ n ∷ [] → l ≡ []
    behind l is = cc is

pub one-left : (ss rest : List SubscriberView) (s : SubscriberView) (n : ℕ) → ss ≡ rest ++ s ∷ [] → map site_of (these ss) ≡ n ∷ [] → ss ≡ s ∷ []
one-left ss rest s n is one = is ∙ ap (λ (l : List SubscriberView). l ++ s ∷ []) (only rest s n (subst (λ (l : List SubscriberView). map site_of (these l) ≡ n ∷ []) is one))

pub subscriber-few : (s : SubscriberView) (ss : List SubscriberView) → ss ≡ s ∷ [] → (faults : ℕ) → faults ≡ 0 + sum_by faults_of (these ss) → (kept : ℕ) → kept ≡ s.faults → (before after : Counts) → after ≡ with_faults kept before
    → RoseBy faults before.stores after.stores
subscriber-few s ss one faults failed kept same before after risen =
    let sum : sum_by faults_of (these ss) ≡ s.faults + sum_by faults_of [] = ap (λ (l : List SubscriberView). sum_by faults_of (these l)) one ∙ sum_by-cons faults_of s [] in
    let stores : after.stores ≡ min (before.stores + kept) (2 ^ 64 - 1) = ap (λ (c : Counts). c.stores) risen in
    omega (arith, failed, sum, stores, same)

found : (n : ℕ) (t : SubscriberTables) → at_number ((n, t) ∷ []) n ≡ Some t
found n t = at_put_same n t []

pub subscriber-kept : (site : SiteId) (s : SubscriberView) (ss : List SubscriberView) → ss ≡ s ∷ [] → map site_of (these ss) ≡ site.0 ∷ [] → (v : SitesView) → v.subscribers ≡ map entry_of (these ss) → (told now : Option Map) → now ≡ told → IsKept (records_of s.tables) told
    → SubscriberKept site v now
subscriber-kept site s ss one sites v seen told now same kept =
    let number : s.tables.site.0 ≡ site.0 = first (subst (λ (l : List SubscriberView). map site_of (these l) ≡ site.0 ∷ []) one sites) in record {
      tables = s.tables;
      here = ap (λ (l : List (ℕ × SubscriberTables)). at_number l site.0) seen ∙ subst (λ (l : List SubscriberView). at_number (map entry_of (these l)) site.0 ≡ Some s.tables) (sym one) (subst (λ (n : ℕ). at_number ((n, s.tables) ∷ []) site.0 ≡ Some s.tables) (sym number) (found site.0 s.tables));
      kept = subst (IsKept (records_of s.tables)) (sym same) kept;
    }
  where
    first : s.tables.site.0 ∷ [] ≡ site.0 ∷ [] → s.tables.site.0 ≡ site.0
    first is = cc is

-- The publisher's site.

module _ (site : SiteId) (publisher : site.0 ≡ 0) where
  own : (site.0 == 0) ≡ true
  own = eq-eqb site.0 0 publisher

  pub publisher-read-at : (publication : Publication) (told : Option Map) (v : SitesView) → PublisherRead publication told v → IsReadAt publication site told v
  publisher-read-at publication told v r = subst (λ (b : Bool). IsReadAs b publication site told v) (sym own) r

  pub publisher-kept-at : (v : SitesView) (told : Option Map) → IsKept (publisher_records v.publisher) told → IsKeptAt site v told
  publisher-kept-at v told k = subst (λ (b : Bool). IsKeptAs b site v told) (sym own) k

  pub publisher-damage-at : (publication : Publication) (told : Option Map) (table : ℕ) (key : List ℕ) → IsDamageAs true publication site told table key → IsDamageAt publication site told table key
  publisher-damage-at publication told table key d = subst (λ (b : Bool). IsDamageAs b publication site told table key) (sym own) d

-- A site that is not the publisher.

module _ (site : SiteId) (other : site.0 ≢ 0) where
  apart : (site.0 == 0) ≡ false
  apart = ne_eqb site.0 0 other

  pub subscribes : (publication : Publication) → is_site publication site ≡ true → is_subscription publication site.0 ≡ true
  subscribes publication known = subst (λ (b : Bool). (b || is_subscription publication site.0) ≡ true) apart known

  pub read-at : (publication : Publication) (told : Option Map) (v : SitesView) → SubscriberRead publication site told v → IsReadAt publication site told v
  read-at publication told v r = subst (λ (b : Bool). IsReadAs b publication site told v) (sym apart) r

  pub kept-at : (v : SitesView) (told : Option Map) → SubscriberKept site v told → IsKeptAt site v told
  kept-at v told k = subst (λ (b : Bool). IsKeptAs b site v told) (sym apart) k

  pub damage-at : (publication : Publication) (told : Option Map) (table : ℕ) (key : List ℕ) → IsDamageAs false publication site told table key → IsDamageAt publication site told table key
  damage-at publication told table key d = subst (λ (b : Bool). IsDamageAs b publication site told table key) (sym apart) d
