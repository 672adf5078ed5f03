-- What follows from a publication's validity.
use Rattle.std.proofs.Common.{◌≡◌, ◌≢◌, ℕ, ◌<◌, ◌⊎◌, inl, inr, List, length, map, slice_get, Some, sym, ap, subst, ◌∙◌, arith}
use Rattle.std.specs.List.{AllPairs}
use Rattle.std.proofs.Math.ListN.{get_or-map}
use Rattle.std.proofs.lemmas.List.{length-map}
use Rattle.std.proofs.lemmas.Option.{get_or_from_slice_get, slice_get_within}
use Rattle.merge_types.specs.declared.identifiers.SiteId.{SiteId}
use Rattle.merge_schema.specs.declared.publication.Publication.{Publication}
use Rattle.merge_schema.specs.declared.publication.Subscription.{Subscription}
use Rattle.merge_schema.specs.Valid.{IsValid}
use Rattle.merge_schema.specs.ValidityLaws.{FiltersFit, SitesAreDistinct}

pub filters_fit : (resolvers : ℕ) (publication : Publication) → IsValid resolvers publication → FiltersFit publication
filters_fit resolvers publication valid = λ k d less. (valid.valid_articles k d less).filter_fits

module _ {X : Type 0} (number : X → ℕ) (xs : List X) (distinct : AllPairs (λ (a b : ℕ). a ≢ b) (map number xs)) where
  ordered : (i j : ℕ) (x y : X) → slice_get xs i ≡ Some x → slice_get xs j ≡ Some y → i < j → number x ≢ number y
  ordered i j x y at_i at_j less same =
      let inside : j < length (map number xs) = subst (λ (n : ℕ). j < n) (sym (length-map xs number)) (slice_get_within xs j y at_j) in
      distinct i j (number x) less inside
      (get_or-map number xs i x ∙ ap number (get_or_from_slice_get xs i x x at_i) ∙ same ∙ sym (ap number (get_or_from_slice_get xs j y x at_j)) ∙ sym (get_or-map number xs j x))

  cases : (i j : ℕ) → (i ≡ j) ⊎ ((i < j) ⊎ (j < i))
  cases i j = grind arith

  -- where no number stands twice, what has the same number stands at the same place
  place_of : (i j : ℕ) (x y : X) → slice_get xs i ≡ Some x → slice_get xs j ≡ Some y → number x ≡ number y → i ≡ j
  place_of i j x y at_i at_j same = elim (cases i j) [
    | inl equal ↦ equal
    | inr apart ↦ elim apart [
      | inl below ↦ absurd (ordered i j x y at_i at_j below same)
      | inr above ↦ absurd (ordered j i y x at_j at_i above (sym same))
    ]
  ]

pub sites_are_distinct : (resolvers : ℕ) (publication : Publication) → IsValid resolvers publication → SitesAreDistinct publication
sites_are_distinct resolvers publication valid = λ one other first second at_one at_other same.
    place_of (λ (subscription : Subscription). subscription.site.0) publication.subscriptions valid.distinct_sites one other first second at_one at_other (ap (λ (site : SiteId). site.0) same)
