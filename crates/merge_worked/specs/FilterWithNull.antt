-- A Null passes no comparison of a filter.
use Rattle.std.specs.Prelude.{[], ◌∷◌, codes, Some, None}
use Rattle.merge_types.specs.declared.values.ColumnType.TheVariants as ty
use Rattle.merge_types.specs.declared.changes.Tracking.TheVariants as tracking
use Rattle.merge_filter.specs.Syntax.{Compare}
use Rattle.merge_filter.specs.declared.tree.Operand.TheVariants as operand
use Rattle.merge_filter.specs.declared.word.Sign.TheVariants as sign
use Rattle.merge_schema.specs.declared.publication.Publication.{Publication}
use Rattle.merge_schema.specs.declared.publication.SubscriptionKind.TheVariants as kind
use Rattle.merge_worked.specs.Worked.{WorkedScript}

abbrev publication : Publication
publication = record {
  name = codes "r";
  retention_days = 14;
  conflict_retention_days = 14;
  articles = (record {
    name = codes "customer";
    columns = (record { name = codes "region"; ty = ty.Text } ∷ []);
    tracking = tracking.Row;
    filter = (Some (Compare (operand.Column 0) sign.Equal 7 operand.Host));
    joins = [];
    identity = None;
    resolver = 0;
    resolver_column = None;
  } ∷ []);
  subscriptions = (record { site = record { 0 = 1 }; host = record { 0 = codes "north" }; kind = kind.Client; priority = 0 } ∷ []);
}

abbrev pub filter_with_null : WorkedScript
filter_with_null = record {
  publication = publication;
  input = codes "---\ninsert 0 customer region=null\ninsert 0 customer region=\"north\"\npartition 1\n";
  answers = codes "row 00000000-0000-8000-8000-000000000001\nrow 00000000-0000-8000-8000-000000000002\ncustomer 00000000-0000-8000-8000-000000000002\nrows 1\n";
}
