-- Articles with how many ancestors they have.
use Rattle.std.specs.Prelude.{ℕ, List}
use Rattle.merge_schema.specs.declared.order.Ranked.{Ranked}
use Rattle.merge_schema.specs.declared.publication.Article.{Article}
use Rattle.merge_schema.specs.ParentsFirst.{ancestors_of}

abbrev pub ancestors_in : Ranked → ℕ
ancestors_in ranked = ranked.ancestors

abbrev pub place_in : Ranked → ℕ
place_in ranked = ranked.place

abbrev pub ranked_at : List Article → ℕ → Ranked
ranked_at articles place = record { place = place; ancestors = ancestors_of articles place }
