-- Articles by their places, and which sites subscribe.
use Rattle.std.specs.Prelude.{ℕ, ◌==◌, Bool, slice_get, Option}
use Rattle.std.specs.List.{list_any}
use Rattle.merge_schema.specs.declared.publication.Article.{Article}
use Rattle.merge_schema.specs.declared.publication.Publication.{Publication}
use Rattle.merge_schema.specs.declared.publication.Subscription.{Subscription}

-- the article at a place of the publication
abbrev pub article_at : Publication → ℕ → Option Article
article_at publication place = slice_get publication.articles place

-- the site subscribes
abbrev pub is_subscription : Publication → ℕ → Bool
is_subscription publication site = list_any (λ (subscription : Subscription). subscription.site.0 == site) publication.subscriptions
