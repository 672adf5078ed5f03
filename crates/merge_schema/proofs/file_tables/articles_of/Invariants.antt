use Rattle.std.proofs.Common.{◌≡◌, All, length, drop, map, codes}
use Rattle.merge_schema.specs.declared.draft.ArticleDraft.{ArticleDraft}
use Rattle.toml.specs.View.{view}
use Rattle.merge_schema.specs.FileTables.{each_table, article_of}
use Rattle.merge_schema.specs.ValidTables.{IsValidDraft}
use Rattle.merge_schema.proofs.Each.{with_front}
use Rattle.merge_schema.proofs.file_tables.articles_of.Given as goal

abbrev pub invariant-loop-value : goal.invariant-loop-value
invariant-loop-value l = record {
  long : length l.articles ≡ l.value-index;
  valid : All (λ (article : ArticleDraft). IsValidDraft l.resolvers article) l.articles;
  so_far : with_front l.articles (each_table (codes "article") (article_of l.resolvers) (map view (drop l.value-index l.values))) ≡ each_table (codes "article") (article_of l.resolvers) (map view l.values);
}
