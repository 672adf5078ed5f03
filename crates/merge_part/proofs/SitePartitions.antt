-- Marks and partitions, site by site.
use Rattle.std.proofs.Common.{◌≡◌, ◌⊎◌, inl, inr, ℕ, zero, suc, Bool, true, false, not, cond, List, [], ◌∷◌, Option, Some, None, refl, sym, ap, ◌∙◌, arith, unwrap_or}
use Rattle.std.specs.Prelude.{◌==◌, ◌↔◌, find}
use Rattle.std.specs.Option.{option_map}
use Rattle.std.specs.List.{Contains, slice_get}
use Rattle.std.specs.List.Sorted.{IsStrictlySortedBy}
use Rattle.std.specs.Map.{keys_of}
use Rattle.std.specs.BTreeMap.{is_at}
use Rattle.std.proofs.lemmas.Bool.Decides.{nat_tests}
use Rattle.std.proofs.lemmas.Map.Views.{Contains-from_lookup, lookup-from_Contains}
use Rattle.std.specs.Cmp.{eq_by_cmp_equiv}
use Rattle.std.proofs.lemmas.Map.Keys.{IsDistinct-from_sorted}
use Rattle.merge_types.specs.declared.identifiers.RowId.{RowId}
use Rattle.merge_types.specs.declared.identifiers.SiteId.{SiteId}
use Rattle.merge_schema.specs.declared.publication.Publication.{Publication}
use Rattle.merge_schema.specs.declared.publication.Subscription.{Subscription}
use Rattle.merge_schema.specs.Partition.{LiveRow, is_in, is_in_at, is_in_where, host_of}
use Rattle.merge_types.specs.declared.row_key.RowKey.{RowKey}
use Rattle.merge_part.specs.declared.sites.Sites.{Sites}
use Rattle.merge_part.specs.declared.content.Content.{Content}
use Rattle.merge_part.specs.declared.change.Move.{Move}
use Rattle.merge_part.specs.declared.link.Rules.{Rules}
use Rattle.merge_types.specs.RowKeys.{key_cmp}
use Rattle.merge_part.specs.Draft.{found, marks_of, marks_in}
use Rattle.merge_part.specs.Live.{live_of, live_rows}
use Rattle.merge_gens.specs.Moves.{is_left}
use Rattle.merge_part.specs.Moves.{all_moves}
use Rattle.merge_part.specs.Rule.{Meets}
use Rattle.merge_schema.specs.ValidityLaws.{SitesAreDistinct}
use Rattle.merge_part.specs.Rules.{AreRules, AreFiltered}
use Rattle.merge_part.specs.Sites.{has_site}
use Rattle.merge_part.specs.Subscribers.{is_site, IsPlaceOf}
use Rattle.merge_part.proofs.Drafts.{key_total}
use Rattle.merge_part.proofs.Kept.{same_key}
use Rattle.merge_part.proofs.InPartition.{marked_is_in, is_in_marked}
use Rattle.merge_part.proofs.MoveLists.{key_of_move, MovesBy, from_all, to_all, to_moves}

same_bool : (a b : Bool) → (a ≡ true → b ≡ true) → (b ≡ true → a ≡ true) → a ≡ b
same_bool true b to from = sym (to refl)
same_bool false true to from = from refl
same_bool false false to from = refl

-- the subscriber that the site is, if it is one
pub record Found (publication : Publication) (site : SiteId) : Type 0 where
  pub place : ℕ
  pub subscription : Subscription
  pub stands : slice_get publication.subscriptions place ≡ Some subscription
  pub site_is : subscription.site ≡ site
  pub host_is : host_of publication site ≡ Some subscription.host

site_test : (subscription : Subscription) (site : SiteId) → (subscription.site.0 == site.0) ≡ true → subscription.site ≡ site
site_test subscription site h = let f : ℕ → SiteId = λ n. record { 0 = n } in let n : subscription.site.0 ≡ site.0 = grind (arith, nat_tests) in ap f n

test_site : (subscription : Subscription) (site : SiteId) → subscription.site ≡ site → (subscription.site.0 == site.0) ≡ true
test_site subscription site h = let n : subscription.site.0 ≡ site.0 = ap (λ (s : SiteId). s.0) h in grind (arith, nat_tests)

find_place_step : (test : Subscription → Bool) (next : Subscription) (subscriptions : List Subscription) (subscription : Subscription)
    → (find test subscriptions ≡ Some subscription → (place : ℕ) × (slice_get subscriptions place ≡ Some subscription) × (test subscription ≡ true))
    → (b : Bool) → test next ≡ b → cond b (Some next) (find test subscriptions) ≡ Some subscription → (place : ℕ) × (slice_get (next ∷ subscriptions) place ≡ Some subscription) × (test subscription ≡ true)
find_place_step test next subscriptions subscription ih true passes h = let same : next ≡ subscription = cc in (0, h, ap test (sym same) ∙ passes)
find_place_step test next subscriptions subscription ih false passes h = let more = ih h in (suc more.0, more.1, more.2)

find_some_step : (test : Subscription → Bool) (next : Subscription) (subscriptions : List Subscription) → (first : Subscription) × (find test subscriptions ≡ Some first)
    → (b : Bool) → test next ≡ b → (first : Subscription) × (find test (next ∷ subscriptions) ≡ Some first)
find_some_step test next subscriptions more true passes = (next, ap (λ b. cond b (Some next) (find test subscriptions)) passes)
find_some_step test next subscriptions more false passes = (more.0, ap (λ b. cond b (Some next) (find test subscriptions)) passes ∙ more.1)

-- what a search finds stands somewhere and passes
find_place : (test : Subscription → Bool) (subscriptions : List Subscription) (subscription : Subscription) → find test subscriptions ≡ Some subscription
    → (place : ℕ) × (slice_get subscriptions place ≡ Some subscription) × (test subscription ≡ true)
find_place test [] subscription h = absurd cc
find_place test (next ∷ subscriptions) subscription h = find_place_step test next subscriptions subscription (find_place test subscriptions subscription) (test next) refl h

-- and where one passes, a search finds one
find_some : (test : Subscription → Bool) (subscriptions : List Subscription) (place : ℕ) (subscription : Subscription) → slice_get subscriptions place ≡ Some subscription → test subscription ≡ true
    → (first : Subscription) × (find test subscriptions ≡ Some first)
find_some test [] place subscription is passes = absurd cc
find_some test (next ∷ subscriptions) zero subscription is passes =
    let same : next ≡ subscription = cc in
    (next, ap (λ b. cond b (Some next) (find test subscriptions)) (ap test same ∙ passes))
find_some test (next ∷ subscriptions) (suc place) subscription is passes = find_some_step test next subscriptions (find_some test subscriptions place subscription is passes) (test next) refl

module _ (publication : Publication) where
  -- a subscriber is found by its site
  pub found_at : SitesAreDistinct publication → (place : ℕ) (subscription : Subscription) → slice_get publication.subscriptions place ≡ Some subscription → Found publication subscription.site
  found_at distinct place subscription is =
      let first = find_some (is_site subscription.site) publication.subscriptions place subscription is (test_site subscription subscription.site refl) in
      let stands = find_place (is_site subscription.site) publication.subscriptions first.0 first.1 in
      let one_place : stands.0 ≡ place = distinct stands.0 place first.0 subscription stands.1 is (site_test first.0 subscription.site stands.2) in
      let same : Some first.0 ≡ Some subscription = sym stands.1 ∙ ap (slice_get publication.subscriptions) one_place ∙ is in
      record {
        place = place;
        subscription = subscription;
        stands = is;
        site_is = refl;
        host_is = ap (option_map (λ (s : Subscription). s.host)) (first.1 ∙ same);
      }

  found_if_by : (site : SiteId) (found_one : Option Subscription) → find (is_site site) publication.subscriptions ≡ found_one → (host_of publication site ≡ None) ⊎ Found publication site
  found_if_by site None is = inl (ap (option_map (λ (s : Subscription). s.host)) is)
  found_if_by site (Some subscription) is =
      let stands = find_place (is_site site) publication.subscriptions subscription is in
      inr (record {
        place = stands.0;
        subscription = subscription;
        stands = stands.1;
        site_is = site_test subscription site stands.2;
        host_is = ap (option_map (λ (s : Subscription). s.host)) is;
      })

  -- a site subscribes, or has no host
  pub found_if : (site : SiteId) → (host_of publication site ≡ None) ⊎ Found publication site
  found_if site = found_if_by site (find (is_site site) publication.subscriptions) refl

  module _ (rules : Rules) (are : AreRules publication rules) (rows : List (RowKey × Content)) (sorted : IsStrictlySortedBy key_cmp (keys_of rows)) (marks : RowKey → Sites)
      (met : (key : RowKey) → Meets rules.links (found rows) marks key) (filtered : AreFiltered publication (found rows)) where
    -- a site's partition has the rows that are marked for it
    pub in_by_marks : (site : SiteId) (at : Found publication site) (key : RowKey) → is_in_at publication site (live_rows (live_of rows)) key.article key.row ≡ has_site (marks key) at.place
    in_by_marks site at key =
        ap (λ host. is_in_where host publication (live_rows (live_of rows)) key.article key.row) at.host_is
        ∙ sym (same_bool (has_site (marks key) at.place) (is_in publication at.subscription.host (live_rows (live_of rows)) key.article key.row)
        (marked_is_in publication rows sorted marks rules.links are.links_are met filtered at.place at.subscription at.stands are.evaluation.0 are.evaluation.1 key)
        (is_in_marked publication rows sorted marks rules.links are.links_are met filtered at.place at.subscription at.stands key))

  pub none_in : (site : SiteId) → host_of publication site ≡ None → (live : List LiveRow) (article : ℕ) (row : RowId) → is_in_at publication site live article row ≡ false
  none_in site none live article row = ap (λ host. is_in_where host publication live article row) none

  not_twice : (b : Bool) → b ≡ false → not b ≡ false → true ≡ false
  not_twice true h n = h
  not_twice false h n = n

  not_same : (b : Bool) → b ≡ not b → true ≡ false
  not_same true h = h
  not_same false h = sym h

  module _ (rules : Rules) (are : AreRules publication rules) (held drafted : List (RowKey × Sites)) (ordered : IsStrictlySortedBy key_cmp (keys_of drafted))
      (rows rows' : List (RowKey × Content)) (sorted : IsStrictlySortedBy key_cmp (keys_of rows)) (sorted' : IsStrictlySortedBy key_cmp (keys_of rows'))
      (met : (key : RowKey) → Meets rules.links (found rows) (marks_of held) key) (filtered : AreFiltered publication (found rows))
      (met' : (key : RowKey) → Meets rules.links (found rows') (marks_in held drafted) key) (filtered' : AreFiltered publication (found rows')) where
    abbrev Differs : Move → Type 0
    Differs one =
        (is_in_at publication one.site (live_rows (live_of rows)) one.article one.row ≡ is_left one.kind) × (is_in_at publication one.site (live_rows (live_of rows')) one.article one.row ≡ not (is_left one.kind))

    moved_differs : (one : Move) → MovesBy publication.subscriptions (marks_of held) drafted one → Differs one
    unfolding found_at
    moved_differs one by =
        let key = key_of_move one in
        let place_is : by.at.number ≡ by.at.place = omega (arith, by.at.number_is) in
        let at = found_at are.sites by.at.place by.at.subscription by.at.stands in
        let drafted_is : found drafted key ≡ Some by.sites = lookup-from_Contains {eq = λ a b. is_at (key_cmp a) b} (eq_by_cmp_equiv key_total) key by.sites drafted (IsDistinct-from_sorted key_cmp (keys_of drafted) ordered) by.among in
        let then_marks : marks_in held drafted key ≡ by.sites = ap (λ o. unwrap_or o (marks_of held key)) drafted_is in
        let before : is_in_at publication by.at.subscription.site (live_rows (live_of rows)) one.article one.row ≡ is_left one.kind
        = in_by_marks rules are rows sorted (marks_of held) met filtered by.at.subscription.site at key ∙ ap (has_site (marks_of held key)) (sym place_is) ∙ by.at.is.was in
        let after : is_in_at publication by.at.subscription.site (live_rows (live_of rows')) one.article one.row ≡ not (is_left one.kind)
        = in_by_marks rules are rows' sorted' (marks_in held drafted) met' filtered' by.at.subscription.site at key ∙ ap (λ s. has_site s by.at.place) then_marks ∙ ap (has_site by.sites) (sym place_is) ∙ by.at.is.then_is in (
          ap (λ s. is_in_at publication s (live_rows (live_of rows)) one.article one.row) (sym by.at.is.site_is) ∙ before,
          ap (λ s. is_in_at publication s (live_rows (live_of rows')) one.article one.row) (sym by.at.is.site_is) ∙ after,
        )

    moved_by : (one : Move) → Differs one → (at : Found publication one.site) → (sites : Option Sites) → found drafted (key_of_move one) ≡ sites → Contains (all_moves publication.subscriptions (marks_of held) drafted) one
    moved_by one differs at None is =
        let key = key_of_move one in
        let same : marks_in held drafted key ≡ marks_of held key = ap (λ o. unwrap_or o (marks_of held key)) is in
        let bad : true ≡ false = not_same (is_left one.kind)
        (sym differs.0 ∙ in_by_marks rules are rows sorted (marks_of held) met filtered one.site at key ∙ ap (λ s. has_site s at.place) (sym same)
        ∙ sym (in_by_marks rules are rows' sorted' (marks_in held drafted) met' filtered' one.site at key) ∙ differs.1) in
        absurd cc
    moved_by one differs at (Some sites) is =
        let key = key_of_move one in
        let then_marks : marks_in held drafted key ≡ sites = ap (λ o. unwrap_or o (marks_of held key)) is in
        let among : Contains drafted (key, sites) = Contains-from_lookup {eq = λ a b. is_at (key_cmp a) b} same_key key sites drafted is in
        let was : has_site (marks_of held key) at.place ≡ is_left one.kind = sym (in_by_marks rules are rows sorted (marks_of held) met filtered one.site at key) ∙ differs.0 in
        let then_is : has_site sites at.place ≡ not (is_left one.kind)
        = ap (λ s. has_site s at.place) (sym then_marks) ∙ sym (in_by_marks rules are rows' sorted' (marks_in held drafted) met' filtered' one.site at key) ∙ differs.1 in
        to_all publication.subscriptions (marks_of held) drafted one sites among
        (to_moves key 0 publication.subscriptions (marks_of held key) sites one at.place at.subscription at.stands at.place (omega arith) (record { row_is = refl; site_is = at.site_is; was = was; then_is = then_is }))

    differs_moved : (one : Move) → Differs one → Contains (all_moves publication.subscriptions (marks_of held) drafted) one
    differs_moved one differs =
        elim (found_if one.site) [
          | inl none ↦
              let bad : true ≡ false = not_twice (is_left one.kind)
              (sym differs.0 ∙ none_in one.site none (live_rows (live_of rows)) one.article one.row) (sym differs.1 ∙ none_in one.site none (live_rows (live_of rows')) one.article one.row) in
              absurd cc
          | inr at ↦ moved_by one differs at (found drafted (key_of_move one)) refl
        ]

    -- the moves by marks are the differences of the partitions
    pub moves_differ : (one : Move) → Contains (all_moves publication.subscriptions (marks_of held) drafted) one ↔ Differs one
    moves_differ one = (λ there. moved_differs one (from_all publication.subscriptions (marks_of held) drafted one there), differs_moved one)

-- the subscriber that was searched for
pub place_found : (publication : Publication) (site : SiteId) (place : ℕ) → IsPlaceOf publication.subscriptions site place → (at : Found publication site) × (at.place ≡ place)
place_found publication site place is = (
  record {
    place = place;
    subscription = is.subscription;
    stands = is.stands;
    site_is = site_test is.subscription site (find_place (is_site site) publication.subscriptions is.subscription is.first).2;
    host_is = ap (option_map (λ (s : Subscription). s.host)) is.first;
  },
  refl,
)
