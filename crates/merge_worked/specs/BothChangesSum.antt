-- A resolver decides the sum of both values.
use Rattle.std.specs.Prelude.{[], ◌∷◌, codes, Some, None}
use Rattle.merge_types.specs.declared.values.ColumnType.TheVariants as ty
use Rattle.merge_types.specs.declared.changes.Tracking.TheVariants as tracking
use Rattle.merge_schema.specs.declared.publication.Publication.{Publication}
use Rattle.merge_schema.specs.declared.publication.SubscriptionKind.TheVariants as kind
use Rattle.merge_worked.specs.Worked.{WorkedScript}

abbrev publication : Publication
publication = record {
  name = codes "first";
  retention_days = 14;
  conflict_retention_days = 14;
  articles = (record {
    name = codes "stock";
    columns = (record { name = codes "n"; ty = ty.Int } ∷ []);
    tracking = tracking.ByColumn;
    filter = None;
    joins = [];
    identity = None;
    resolver = 3;
    resolver_column = (Some 0);
  } ∷ []);
  subscriptions = (record { site = record { 0 = 1 }; host = record { 0 = codes "h1" }; kind = kind.Client; priority = 0 } ∷ record { site = record { 0 = 2 }; host = record { 0 = codes "h2" }; kind = kind.Client; priority = 0 } ∷ []);
}

abbrev pub both_changes_sum : WorkedScript
both_changes_sum = record {
  publication = publication;
  input = codes "---\ninsert 0 stock n=1\nsync 1\nsync 2\nupdate 1 stock 0.1 n=5\nupdate 2 stock 0.1 n=7\nsync 1\nsync 2\nshow 2 stock\nconflicts 0\n";
  answers = codes "row 00000000-0000-8000-8000-000000000001\ndone 0 1 1\ndone 0 1 1\nok\nok\ndone 1 1 2\ndone 1 1 3\n00000000-0000-8000-8000-000000000001 12\nrows 1\n1 stock 00000000-0000-8000-8000-000000000001 2 0 custom 0 live 5\n2 stock 00000000-0000-8000-8000-000000000001 2 2 custom 0 live 7\nconflicts 2\n";
}
