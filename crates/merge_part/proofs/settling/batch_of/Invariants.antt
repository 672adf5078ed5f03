use Rattle.std.proofs.Common.{◌≡◌, ◌++◌}
use Rattle.std.specs.Prelude.{◌==◌, filter, All}
use Rattle.std.specs.Map.{keys_of}
use Rattle.merge_types.specs.declared.row_key.RowKey.{RowKey}
use Rattle.merge_part.proofs.settling.batch_of.Given as goal

abbrev pub invariant-loop-key : goal.invariant-loop-key
invariant-loop-key l = record {
  batch : l.batch.items ++ filter (λ (key : RowKey). key.article == l.article) (keys_of l.key-iterator) ≡ filter (λ (key : RowKey). key.article == l.article) (keys_of l.waiting.rows);
  of_article : All (λ (key : RowKey). key.article ≡ l.article) l.batch.items;
}
