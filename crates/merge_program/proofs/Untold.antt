-- Sites that have done nothing, but for what their stores tell.
use Rattle.std.proofs.Common.{List, [], ap, arith, get_or, length, map, refl, subst, suc, sum_by, sym, zero, ℕ, ◌<◌, ◌+◌, ◌∙◌, ◌∷◌, ◌≡◌, ◌≤◌}
use Rattle.std.specs.Prelude.{Contains}
use Rattle.std.specs.List.{AllByRecursion, fold}
use Rattle.std.specs.Ordering.{nat_cmp}
use Rattle.std.proofs.lemmas.List.{map-id}
use Rattle.std.proofs.lemmas.List.Elements.{All-contains, All-from_recursion, recursion_from_All}
use Rattle.std.proofs.lemmas.List.Sums.{sum_by-cons}
use Rattle.merge_types.specs.declared.identifiers.Moment.{Moment}
use Rattle.merge_schema.specs.Valid.{IsValid, IsValidSubscription}
use Rattle.merge_schema.specs.declared.publication.Publication.{Publication}
use Rattle.merge_schema.specs.declared.publication.Subscription.{Subscription}
use Rattle.merge_model.specs.Tables.Keys.{put_number}
use Rattle.merge_model.specs.Tables.Publications.{by_site}
use Rattle.merge_model.specs.Tables.{SubscriberTables}
use Rattle.merge_model.specs.declared.letter.Letter.{Letter}
use Rattle.merge_model.proofs.Entries.EntryLists.{all-put}
use Rattle.merge_world.specs.Views.{PublisherView, SitesView, SubscriberView, entry_of, faults_of, publication_of, site_of, sites_view}
use Rattle.merge_program.specs.Fresh.{fresh_view}
use Rattle.merge_program.specs.GivenBack.{AscendAbove}
use Rattle.merge_command.specs.Alone.{fresh_publisher}
use Rattle.merge_program.specs.Stores.{fresh_at, fresh_subscribers, untold_publisher, untold_subscriber}
use Rattle.merge_program.proofs.Fresh.{fresh-ordered}

-- What does not read it is the same.

pub map-untold : {Y : Type 0} (f : SubscriberView → Y) → ((s : SubscriberView) → f (untold_subscriber s) ≡ f s) → (ss : List SubscriberView) → map f (map untold_subscriber ss) ≡ map f ss
map-untold {Y} f same [] = refl
map-untold {Y} f same (s ∷ ss) = ap (λ (y : Y). y ∷ map f (map untold_subscriber ss)) (same s) ∙ ap (λ (l : List Y). f s ∷ l) (map-untold f same ss)

sum-untold : (ss : List SubscriberView) → sum_by faults_of (map untold_subscriber ss) ≡ sum_by faults_of ss
sum-untold [] = refl
sum-untold (s ∷ ss) = sum_by-cons faults_of (untold_subscriber s) (map untold_subscriber ss) ∙ (ap (λ (n : ℕ). s.faults + n) (sum-untold ss) ∙ sym (sum_by-cons faults_of s ss))

module _ (p : PublisherView) (moment : Moment) where
  abbrev seen : List (ℕ × SubscriberTables) → ℕ → List ℕ → List Publication → SitesView
  seen subscribers faults sites publications = record {
    publication = p.publication;
    publisher = p.tables;
    subscribers = subscribers;
    pool = [];
    moment = moment;
    faults = p.faults + faults;
    sites = sites;
    publications = publications;
  }

  same-view : (ss : List SubscriberView) → sites_view (untold_publisher p) (map untold_subscriber ss) [] moment ≡ sites_view p ss [] moment
  same-view ss =
      let us : List SubscriberView = map untold_subscriber ss in
      ap (λ (l : List (ℕ × SubscriberTables)). seen l (sum_by faults_of us) (map site_of us) (map publication_of us)) (map-untold entry_of (λ s. refl) ss)
      ∙ (ap (λ (n : ℕ). seen (map entry_of ss) n (map site_of us) (map publication_of us)) (sum-untold ss)
      ∙ (ap (λ (l : List ℕ). seen (map entry_of ss) (sum_by faults_of ss) l (map publication_of us)) (map-untold site_of (λ s. refl) ss)
      ∙ ap (λ (l : List Publication). seen (map entry_of ss) (sum_by faults_of ss) (map site_of ss) l) (map-untold publication_of (λ s. refl) ss)))

-- seen together they are those that have done nothing
pub untold-view : (publication : Publication) (p : PublisherView) (ss : List SubscriberView) (pool : List Letter) → untold_publisher p ≡ fresh_publisher publication → map untold_subscriber ss ≡ fresh_subscribers publication → pool ≡ []
    → sites_view p (map (λ (s : SubscriberView). s) ss) pool (record { 0 = 0 }) ≡ fresh_view publication
untold-view publication p ss pool publisher subscribers none =
    ap (λ (l : List SubscriberView). sites_view p l pool (record { 0 = 0 })) (map-id ss)
    ∙ (ap (λ (l : List Letter). sites_view p ss l (record { 0 = 0 })) none
    ∙ (sym (same-view p (record { 0 = 0 }) ss)
    ∙ (ap (λ (q : PublisherView). sites_view q (map untold_subscriber ss) [] (record { 0 = 0 })) publisher
    ∙ ap (λ (l : List SubscriberView). sites_view (fresh_publisher publication) l [] (record { 0 = 0 })) subscribers)))

-- of their own publication
module _ (publication : Publication) (p : PublisherView) (publisher : untold_publisher p ≡ fresh_publisher publication) where
  pub own-publication : p.publication ≡ publication
  own-publication = ap (λ (q : PublisherView). q.publication) publisher

  pub own-publisher : untold_publisher p ≡ fresh_publisher p.publication
  own-publisher = subst (λ (q : Publication). untold_publisher p ≡ fresh_publisher q) (sym own-publication) publisher

  pub own-subscribers : (ss : List SubscriberView) → map untold_subscriber ss ≡ fresh_subscribers publication → map untold_subscriber ss ≡ fresh_subscribers p.publication
  own-subscribers ss subscribers = subst (λ (q : Publication). map untold_subscriber ss ≡ fresh_subscribers q) (sym own-publication) subscribers

  pub own-valid : (resolvers : ℕ) × IsValid resolvers publication → (resolvers : ℕ) × IsValid resolvers p.publication
  own-valid valid = subst (λ (q : Publication). (resolvers : ℕ) × IsValid resolvers q) (sym own-publication) valid

-- Sites of a publication that a file can say ascend from above 0.

abbrev AreLow : List (ℕ × Subscription) → Type 0
AreLow es = AllByRecursion (λ (e : ℕ × Subscription). 0 < e.1.site.0) es

low-all : (subscriptions : List Subscription) (es : List (ℕ × Subscription)) → AllByRecursion (λ (s : Subscription). IsValidSubscription s) subscriptions → AreLow es
    → AreLow (fold (λ (others : List (ℕ × Subscription)) (s : Subscription). put_number others s.site.0 s) es subscriptions)
low-all [] es valid low = low
low-all (s ∷ subscriptions) es valid low =
    let within : 1 ≤ s.site.0 = valid.0.valid_site.0 in
    let own : 0 < s.site.0 = omega (arith, within) in
    low-all subscriptions (put_number es s.site.0 s) valid.1 (all-put (λ (e : ℕ × Subscription). 0 < e.1.site.0) nat_cmp s.site.0 s (λ q same. own) own es low)

low-sites : (publication : Publication) (es : List (ℕ × Subscription)) → AreLow es → (i : ℕ) → i < length (map site_of (map (fresh_at publication) es)) → 0 < get_or (map site_of (map (fresh_at publication) es)) i 0
low-sites publication [] low i lt = absurd (omega (arith, lt))
low-sites publication (e ∷ es) low zero lt = low.0
low-sites publication (e ∷ es) low (suc i) lt = low-sites publication es low.1 i (omega (arith, lt))

pairs-ascend : (low : ℕ) (ks : List ℕ) → ((i : ℕ) → i < length ks → low < get_or ks i 0) → ((i j : ℕ) → i < j → j < length ks → get_or ks i 0 < get_or ks j 0) → AscendAbove low ks
pairs-ascend low [] above pairs = tt
pairs-ascend low (k ∷ ks) above pairs = (above zero (omega arith), pairs-ascend k ks (λ i lt. pairs zero (suc i) (omega arith) (omega (arith, lt))) (λ i j lt within. pairs (suc i) (suc j) (omega (arith, lt)) (omega (arith, within))))

fresh-ascend : (publication : Publication) → (resolvers : ℕ) × IsValid resolvers publication → AscendAbove 0 (map site_of (fresh_subscribers publication))
fresh-ascend publication valid =
    let low : AreLow (by_site publication) = low-all publication.subscriptions [] (recursion_from_All (λ (s : Subscription). IsValidSubscription s) publication.subscriptions valid.1.valid_subscriptions) tt in
    pairs-ascend 0 (map site_of (fresh_subscribers publication)) (low-sites publication (by_site publication) low) (fresh-ordered publication).ascending

fresh-alike : (publication : Publication) (es : List (ℕ × Subscription)) → AllByRecursion (λ (q : Publication). q ≡ publication) (map publication_of (map (fresh_at publication) es))
fresh-alike publication [] = tt
fresh-alike publication (e ∷ es) = (refl, fresh-alike publication es)

of-each : {X Y : Type 0} (f : X → Y) (P : Y → Type 0) (xs : List X) → AllByRecursion P (map f xs) → AllByRecursion (λ (x : X). P (f x)) xs
of-each f P [] all = tt
of-each f P (x ∷ xs) all = (all.0, of-each f P xs all.1)

-- Behind a script the sites are the same.
module _ (publication : Publication) (ss new : List SubscriberView) (subscribers : map untold_subscriber ss ≡ fresh_subscribers publication) where
  same-as : {Y : Type 0} (f : SubscriberView → Y) → ((s : SubscriberView) → f (untold_subscriber s) ≡ f s) → map f (map (λ (s : SubscriberView). s) new) ≡ map f (map (λ (s : SubscriberView). s) ss) → map f new ≡ map f (fresh_subscribers publication)
  same-as f untelling stays =
      ap (map f) (sym (map-id new)) ∙ (stays ∙ (ap (map f) (map-id ss) ∙ (sym (map-untold f untelling ss) ∙ ap (map f) subscribers)))

  pub still-ascend : (resolvers : ℕ) × IsValid resolvers publication → map site_of (map (λ (s : SubscriberView). s) new) ≡ map site_of (map (λ (s : SubscriberView). s) ss) → AscendAbove 0 (map site_of new)
  still-ascend valid stays = subst (λ (l : List ℕ). AscendAbove 0 l) (sym (same-as site_of (λ s. refl) stays)) (fresh-ascend publication valid)

  pub still-alike : map publication_of (map (λ (s : SubscriberView). s) new) ≡ map publication_of (map (λ (s : SubscriberView). s) ss) → (s : SubscriberView) → Contains new s → s.publication ≡ publication
  still-alike alike s there =
      let all : AllByRecursion (λ (q : Publication). q ≡ publication) (map publication_of new) =
      subst (λ (l : List Publication). AllByRecursion (λ (q : Publication). q ≡ publication) l) (sym (same-as publication_of (λ t. refl) alike)) (fresh-alike publication (by_site publication)) in
      All-contains (λ (t : SubscriberView). t.publication ≡ publication) new s
      (All-from_recursion (λ (t : SubscriberView). t.publication ≡ publication) new (of-each publication_of (λ (q : Publication). q ≡ publication) new all)) there
