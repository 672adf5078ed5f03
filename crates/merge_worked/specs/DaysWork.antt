-- A day's work of three sites, each with its own customers and their orders. An upload acts whose answer is lost.
use Rattle.std.specs.Prelude.{[], ◌∷◌, codes, Some, None}
use Rattle.merge_types.specs.declared.values.ColumnType.TheVariants as ty
use Rattle.merge_types.specs.declared.changes.Tracking.TheVariants as tracking
use Rattle.merge_filter.specs.Syntax.{Compare}
use Rattle.merge_filter.specs.declared.tree.Operand.TheVariants as operand
use Rattle.merge_filter.specs.declared.word.Sign.TheVariants as sign
use Rattle.merge_schema.specs.declared.publication.Publication.{Publication}
use Rattle.merge_schema.specs.declared.publication.SubscriptionKind.TheVariants as kind
use Rattle.merge_worked.specs.Worked.{WorkedScript}

abbrev publication : Publication
publication = record {
  name = codes "w";
  retention_days = 14;
  conflict_retention_days = 14;
  articles = (record {
    name = codes "customer";
    columns = (record { name = codes "id"; ty = ty.Int } ∷ record { name = codes "region"; ty = ty.Text } ∷ record { name = codes "credit"; ty = ty.Int } ∷ []);
    tracking = tracking.Row;
    filter = (Some (Compare (operand.Column 1) sign.Equal 7 operand.Host));
    joins = [];
    identity = None;
    resolver = 0;
    resolver_column = None;
  } ∷ record {
    name = codes "orders";
    columns = (record { name = codes "id"; ty = ty.Int } ∷ record { name = codes "cust"; ty = ty.Int } ∷ []);
    tracking = tracking.Row;
    filter = None;
    joins = (record { column = 1; parent = 0; parent_column = 0 } ∷ []);
    identity = None;
    resolver = 0;
    resolver_column = None;
  } ∷ []);
  subscriptions = (record { site = record { 0 = 1 }; host = record { 0 = codes "r0" }; kind = kind.Client; priority = 0 } ∷ record { site = record { 0 = 2 }; host = record { 0 = codes "r1" }; kind = kind.Client; priority = 0 } ∷ record { site = record { 0 = 3 }; host = record { 0 = codes "r2" }; kind = kind.Client; priority = 0 } ∷ []);
}

abbrev pub days_work : WorkedScript
days_work = record {
  publication = publication;
  input = codes "---\ninsert 0 customer id=1 region=\"r1\"\ninsert 0 customer id=2 region=\"r2\"\ninsert 0 customer id=3 region=\"r0\"\ninsert 0 customer id=4 region=\"r1\"\ninsert 0 customer id=5 region=\"r2\"\ninsert 0 customer id=6 region=\"r0\"\ninsert 0 orders id=1 cust=1\ninsert 0 orders id=2 cust=1\ninsert 0 orders id=3 cust=2\ninsert 0 orders id=4 cust=2\ninsert 0 orders id=5 cust=3\ninsert 0 orders id=6 cust=3\ninsert 0 orders id=7 cust=4\ninsert 0 orders id=8 cust=4\ninsert 0 orders id=9 cust=5\ninsert 0 orders id=10 cust=5\ninsert 0 orders id=11 cust=6\ninsert 0 orders id=12 cust=6\nsync 1\nsync 2\nsync 3\nupdate 2 customer 0.1 credit=1\nupdate 3 customer 0.2 credit=1\nupdate 1 customer 0.3 credit=1\nupdate 2 customer 0.4 credit=1\nupdate 3 customer 0.5 credit=1\nupdate 1 customer 0.6 credit=1\nsend 1 upload\ndeliver 19\nsync 1\nsend 2 upload\nsync 2\nsync 3\nsync 1\nsync 2\ncount 1\ncount 2\ncount 3\nconflicts 0\n";
  answers = codes "row 00000000-0000-8000-8000-000000000001\nrow 00000000-0000-8000-8000-000000000002\nrow 00000000-0000-8000-8000-000000000003\nrow 00000000-0000-8000-8000-000000000004\nrow 00000000-0000-8000-8000-000000000005\nrow 00000000-0000-8000-8000-000000000006\nrow 00000000-0000-8000-8000-000000000007\nrow 00000000-0000-8000-8000-000000000008\nrow 00000000-0000-8000-8000-000000000009\nrow 00000000-0000-8000-8000-00000000000a\nrow 00000000-0000-8000-8000-00000000000b\nrow 00000000-0000-8000-8000-00000000000c\nrow 00000000-0000-8000-8000-00000000000d\nrow 00000000-0000-8000-8000-00000000000e\nrow 00000000-0000-8000-8000-00000000000f\nrow 00000000-0000-8000-8000-000000000010\nrow 00000000-0000-8000-8000-000000000011\nrow 00000000-0000-8000-8000-000000000012\ndone 0 1 1\ndone 0 1 1\ndone 0 1 1\nok\nok\nok\nok\nok\nok\nmessage 19\nmessage 20\ndone 1 1 2\nmessage 27\ndone 1 1 3\ndone 1 1 4\ndone 0 1 4\ndone 0 1 4\ncustomer 2\norders 4\ncustomer 2\norders 4\ncustomer 2\norders 4\nconflicts 0\n";
}
