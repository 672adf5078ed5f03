use Rattle.std.proofs.Common.{◌≡◌, ◌+◌, List, All, length, map, drop, codes, sym, subst}
use Rattle.toml.specs.View.{view, table_view}
use Rattle.merge_schema.specs.declared.draft.ArticleDraft.{ArticleDraft}
use Rattle.merge_schema.specs.FileTables.{each_table, article_of}
use Rattle.merge_schema.specs.ValidTables.{IsValidDraft}
use Rattle.merge_schema.proofs.Each.{with_front, tables_go_on}
use Rattle.std.proofs.lemmas.List.Elements.{All-push}
use Rattle.merge_schema.proofs.Placed.{one_longer}
use Rattle.merge_schema.proofs.file_tables.articles_of.Goals as goal

pub loop-value-preserved : goal.loop-value-preserved
loop-value-preserved c =
    let values = c.args.values.now in
    let i = c.loop-value.value-index in
    let read = article_of c.args.resolvers in
    let total = each_table (codes "article") read (map view values) in
    let pushed = sym c.in_ok-push.ensures.ok in
    let article = c.in_ok-article.article in
    record {
      long = subst (λ (articles : List ArticleDraft). length articles ≡ i + 1) pushed (one_longer c.loop-value.articles article i c.loop-value.invariant.long);
      valid = subst (λ (articles : List ArticleDraft). All (λ (a : ArticleDraft). IsValidDraft c.args.resolvers a) articles) pushed
          (All-push (λ (a : ArticleDraft). IsValidDraft c.args.resolvers a) c.loop-value.articles article c.loop-value.invariant.valid c.in_ok-article.ensures.valid);
      so_far = subst (λ (articles : List ArticleDraft). with_front articles (each_table (codes "article") read (map view (drop (i + 1) values))) ≡ total) pushed
          (tables_go_on view (codes "article") read c.loop-value.articles values i c.value-item.result (table_view c.in_ok-one_table.field-0.now) article total c.loop-value-test.true c.value-item.is c.in_ok-one_table.ensures c.in_ok-article.ensures.article c.loop-value.invariant.so_far);
    }
