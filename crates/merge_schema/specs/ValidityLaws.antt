-- What follows from a publication's validity.
use Rattle.std.specs.Prelude.{◌≡◌, ℕ, length, slice_get, All, Some}
use Rattle.merge_schema.specs.declared.publication.Article.{Article}
use Rattle.merge_schema.specs.declared.publication.Publication.{Publication}
use Rattle.merge_schema.specs.declared.publication.Subscription.{Subscription}
use Rattle.merge_schema.specs.Valid.{FilterFits, IsValid}

-- each filter asks for columns that there are
abbrev pub FiltersFit : Publication → Type 0
FiltersFit publication = All (λ (article : Article). FilterFits article.filter (length article.columns)) publication.articles

-- no two subscriptions are of the same site
abbrev pub SitesAreDistinct : Publication → Type 0
SitesAreDistinct publication = (one other : ℕ) (first second : Subscription) → slice_get publication.subscriptions one ≡ Some first → slice_get publication.subscriptions other ≡ Some second
    → first.site ≡ second.site → one ≡ other

abbrev pub ValidFiltersFit : Type 0
ValidFiltersFit = (resolvers : ℕ) (publication : Publication) → IsValid resolvers publication → FiltersFit publication

abbrev pub ValidSitesAreDistinct : Type 0
ValidSitesAreDistinct = (resolvers : ℕ) (publication : Publication) → IsValid resolvers publication → SitesAreDistinct publication
