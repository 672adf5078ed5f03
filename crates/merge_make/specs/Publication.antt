-- The publication of the generated script: customers, who go to the site of their region, and their orders.
use Rattle.std.specs.Prelude.{List, None, Some, [], codes, ℕ, ◌∷◌}
use Rattle.merge_types.specs.declared.values.Column.{Column}
use Rattle.merge_types.specs.declared.values.ColumnType.TheVariants as ty
use Rattle.merge_types.specs.declared.changes.Tracking.TheVariants as tracking
use Rattle.merge_filter.specs.Syntax.{Compare, Syntax}
use Rattle.merge_filter.specs.declared.tree.Operand.TheVariants as operand
use Rattle.merge_filter.specs.declared.word.Sign.TheVariants as sign
use Rattle.merge_schema.specs.declared.publication.Article.{Article}
use Rattle.merge_schema.specs.declared.publication.JoinFilter.{JoinFilter}
use Rattle.merge_schema.specs.declared.publication.Publication.{Publication}
use Rattle.merge_schema.specs.declared.publication.SubscriptionKind.TheVariants as kind
use Rattle.merge_schema.specs.declared.publication.Subscription.{Subscription}

abbrev pub customer_columns : List Column
customer_columns = record { name = codes "id"; ty = ty.Int } ∷ record { name = codes "region"; ty = ty.Text } ∷ record { name = codes "credit"; ty = ty.Int } ∷ []

abbrev pub order_columns : List Column
order_columns = record { name = codes "id"; ty = ty.Int } ∷ record { name = codes "cust"; ty = ty.Int } ∷ []

-- region = HOST_NAME(), whose sign is the eighth byte
abbrev pub of_region : Syntax
of_region = Compare (operand.Column 1) sign.Equal 7 operand.Host

abbrev pub customer : Article
customer = record {
  name = codes "customer";
  columns = customer_columns;
  tracking = tracking.Row;
  filter = Some of_region;
  joins = [];
  identity = None;
  resolver = 0;
  resolver_column = None;
}

-- orders follow their customers
abbrev pub to_customer : JoinFilter
to_customer = record { column = 1; parent = 0; parent_column = 0 }

abbrev pub orders : Article
orders = record {
  name = codes "orders";
  columns = order_columns;
  tracking = tracking.Row;
  filter = None;
  joins = to_customer ∷ [];
  identity = None;
  resolver = 0;
  resolver_column = None;
}

-- a client on this host
abbrev pub client : ℕ → List ℕ → Subscription
client site host = record { site = record { 0 = site }; host = record { 0 = host }; kind = kind.Client; priority = 0 }

abbrev pub made_publication : Publication
made_publication = record {
  name = codes "made";
  retention_days = 14;
  conflict_retention_days = 14;
  articles = customer ∷ orders ∷ [];
  subscriptions = client 1 (codes "r0") ∷ client 2 (codes "r1") ∷ client 3 (codes "r2") ∷ [];
}
