-- When a join and a range request are valid. Rules are numbered as the refusal of a bad batch tells them.
use Rattle.std.specs.Prelude.{ℕ, ◌&&◌, Bool, false, nat_lt, nat_le, [], ◌∷◌, map, Option, is_some}
use Rattle.std.specs.List.{list_all}
use Rattle.std.specs.Option.{option_map_or}
use Rattle.merge_types.specs.Limits.{number_limit}
use Rattle.merge_ident.specs.Grants.{granted_to}
use Rattle.merge_schema.specs.declared.publication.Publication.{Publication}
use Rattle.merge_schema.specs.declared.publication.Article.{Article}
use Rattle.merge_schema.specs.Places.{article_at}
use Rattle.merge_batch.specs.declared.rules.BrokenRule.{BrokenRule}
use Rattle.merge_batch.specs.declared.request.Join.{Join}
use Rattle.merge_batch.specs.declared.request.RangeAsk.{RangeAsk}
use Rattle.merge_batch.specs.declared.request.Want.{Want}
use Rattle.merge_batch.specs.Search.{broken_by_message, are_distinct}
use Rattle.merge_batch.specs.Known.{Known}

-- rule 4: the numbers of a join are below 2^62
abbrev pub join_numbers_fit : Join → Bool
join_numbers_fit join = nat_lt join.seq number_limit && nat_lt join.generation number_limit && nat_lt join.number number_limit

-- what a join breaks
unfoldable pub broken_by_join : Join → Option BrokenRule
broken_by_join join = broken_by_message ((4, join_numbers_fit join) ∷ [])

-- an article that exists and has an identity column
abbrev pub has_identity : Publication → ℕ → Bool
has_identity publication place = option_map_or (λ (article : Article). is_some article.identity) (article_at publication place) false

-- rule 13: each article that is asked for has an identity column, at least as many ranges were granted as the site heard of, and none comes twice
abbrev pub want_fits : Publication → Known → ℕ → Want → Bool
want_fits publication known site want = has_identity publication want.article && nat_le want.have (granted_to want.article site known.grants)

abbrev pub wanted_article : Want → ℕ
wanted_article want = want.article

abbrev pub wants_fit : Publication → Known → RangeAsk → Bool
wants_fit publication known ask = list_all (want_fits publication known ask.site.0) ask.wants && are_distinct (map wanted_article ask.wants)

-- what a range request breaks
unfoldable pub broken_by_ranges : Publication → Known → RangeAsk → Option BrokenRule
broken_by_ranges publication known ask = broken_by_message ((13, wants_fit publication known ask) ∷ [])
