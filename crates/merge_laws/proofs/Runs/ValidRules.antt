-- The identity ranges of a valid publication: what holds of each, and that they have values.
use Rattle.std.specs.Prelude.{◌+◌, ℕ, List, [], ◌∷◌, All, Option, Some, None, map, filter_map, option_map}
use Rattle.std.specs.List.{cons_option, enumerate_from}
use Rattle.std.proofs.Common.{arith}
use Rattle.std.proofs.lemmas.Bool.Decides.{nat_tests}
use Rattle.std.proofs.lemmas.Int.{ints}
use Rattle.std.proofs.lemmas.List.Elements.{All-cons, All-head, All-nil, All-tail}
use Rattle.merge_types.specs.declared.values.Column.{Column}
use Rattle.merge_ident.specs.Books.{IsRule}
use Rattle.merge_ident.specs.declared.grants.Rule.{Rule}
use Rattle.merge_schema.specs.Valid.{HasValidIdentity, HasValidRanges, IsValid, IsValidArticle}
use Rattle.merge_schema.specs.declared.publication.Article.{Article}
use Rattle.merge_schema.specs.declared.publication.Identity.{Identity}
use Rattle.merge_schema.specs.declared.publication.Publication.{Publication}
use Rattle.merge_model.specs.Tables.Publications.{identity_of, rule_of, rules_of}
use Rattle.merge_laws.specs.Laws.Promised.{ValidRulesHaveValues}

-- What the ranges of a file give of a rule holds of each rule of a valid publication.
module _ (Is : Rule → Type 0) (gives : (place : ℕ) (identity : Identity) → HasValidRanges identity → Is (rule_of (place, identity))) where
  identity-is : (place : ℕ) (columns : List Column) (found : Option Identity) (rest : List (ℕ × Identity)) → HasValidIdentity columns found → All Is (map rule_of rest)
      → All Is (map rule_of (cons_option (option_map (λ (identity : Identity). (place, identity)) found) rest))
  identity-is place columns None rest valid are = are
  identity-is place columns (Some identity) rest valid are = All-cons Is (rule_of (place, identity)) (map rule_of rest) (gives place identity valid.1) are

  articles-are : (resolvers : ℕ) (all articles : List Article) (place : ℕ) → All (IsValidArticle resolvers all) articles → All Is (map rule_of (filter_map identity_of (enumerate_from place articles)))
  articles-are resolvers all [] place valid = All-nil Is
  articles-are resolvers all (article ∷ articles) place valid = identity-is place article.columns article.identity (filter_map identity_of (enumerate_from (place + 1) articles))
      (All-head (IsValidArticle resolvers all) article articles valid).valid_identity (articles-are resolvers all articles (place + 1) (All-tail (IsValidArticle resolvers all) article articles valid))

  pub all-rules : (resolvers : ℕ) (publication : Publication) → IsValid resolvers publication → All Is (rules_of publication)
  all-rules resolvers publication valid = articles-are resolvers publication.articles publication.articles 0 valid.valid_articles

ranges-fit : (place : ℕ) (identity : Identity) → HasValidRanges identity → IsRule (rule_of (place, identity))
ranges-fit place identity valid = record {
  seed = grind (arith, ints, nat_tests, valid.seed);
  range = valid.range.0;
  pub_range = valid.pub_range.0;
  greatest = grind (arith, ints, nat_tests, valid.seed, valid.greatest);
}

pub valid-rules : ValidRulesHaveValues
valid-rules = all-rules IsRule ranges-fit
