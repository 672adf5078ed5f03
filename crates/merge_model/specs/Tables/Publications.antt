-- What a publication says of an article or a site.
use Rattle.std.specs.List.{enumerate_from, fold}
use Rattle.std.specs.Option.{option_and_then}
use Rattle.std.specs.Prelude.{List, Option, [], filter_map, map, option_map, unwrap_or, ℕ}
use Rattle.merge_ident.specs.declared.grants.Rule.{Rule}
use Rattle.merge_schema.specs.declared.publication.Article.{Article}
use Rattle.merge_schema.specs.declared.publication.Identity.{Identity}
use Rattle.merge_schema.specs.declared.publication.Publication.{Publication}
use Rattle.merge_schema.specs.declared.publication.Subscription.{Subscription}
use Rattle.merge_schema.specs.Places.{article_at}
use Rattle.merge_model.specs.Tables.Keys.{put_number}
pub use Rattle.merge_batch.specs.LocalChanges.{columns_at, identity_at, identity_column, tracking_at, types_at}

abbrev pub resolver_at : Publication → ℕ → ℕ
resolver_at publication place = unwrap_or (option_map (λ (article : Article). article.resolver) (article_at publication place)) 0

abbrev pub resolver_column : Publication → ℕ → Option ℕ
resolver_column publication place = option_and_then (λ (article : Article). article.resolver_column) (article_at publication place)

-- the articles with an identity column, by place
abbrev pub identity_of : ℕ × Article → Option (ℕ × Identity)
identity_of place = option_map (λ (identity : Identity). (place.0, identity)) place.1.identity

abbrev pub identities : Publication → List (ℕ × Identity)
identities publication = filter_map identity_of (enumerate_from 0 publication.articles)

abbrev pub rule_of : ℕ × Identity → Rule
rule_of place = record {
  article = place.0;
  seed = place.1.seed;
  range = place.1.range;
  pub_range = place.1.pub_range;
  greatest = place.1.greatest;
}

-- the rules by which ranges are granted
abbrev pub rules_of : Publication → List Rule
rules_of publication = map rule_of (identities publication)

-- the subscriptions, by site
abbrev pub by_site : Publication → List (ℕ × Subscription)
by_site publication = fold (λ (others : List (ℕ × Subscription)) (subscription : Subscription). put_number others subscription.site.0 subscription) [] publication.subscriptions
