-- Publications that several scripts have.
use Rattle.std.specs.Prelude.{[], ◌∷◌, pos, codes, Some, None}
use Rattle.merge_types.specs.declared.values.ColumnType.TheVariants as ty
use Rattle.merge_types.specs.declared.changes.Tracking.TheVariants as tracking
use Rattle.merge_filter.specs.Syntax.{Compare}
use Rattle.merge_filter.specs.declared.tree.Operand.TheVariants as operand
use Rattle.merge_filter.specs.declared.word.Sign.TheVariants as sign
use Rattle.merge_schema.specs.declared.publication.Publication.{Publication}
use Rattle.merge_schema.specs.declared.publication.SubscriptionKind.TheVariants as kind

-- one article with one column, and one client
abbrev pub item_for_one : Publication
item_for_one = record {
  name = codes "first";
  retention_days = 14;
  conflict_retention_days = 14;
  articles = (record {
    name = codes "item";
    columns = (record { name = codes "qty"; ty = ty.Int } ∷ []);
    tracking = tracking.Row;
    filter = None;
    joins = [];
    identity = None;
    resolver = 0;
    resolver_column = None;
  } ∷ []);
  subscriptions = (record { site = record { 0 = 1 }; host = record { 0 = codes "h1" }; kind = kind.Client; priority = 0 } ∷ []);
}

-- the same with two clients
abbrev pub item_for_two : Publication
item_for_two = record item_for_one { subscriptions = (record { site = record { 0 = 1 }; host = record { 0 = codes "h1" }; kind = kind.Client; priority = 0 } ∷ record { site = record { 0 = 2 }; host = record { 0 = codes "h2" }; kind = kind.Client; priority = 0 } ∷ []) }

-- with two servers, of which the first has the greater priority
abbrev pub item_for_servers : Publication
item_for_servers = record item_for_one { subscriptions = (record { site = record { 0 = 1 }; host = record { 0 = codes "h1" }; kind = kind.Server; priority = 7500 } ∷ record { site = record { 0 = 2 }; host = record { 0 = codes "h2" }; kind = kind.Server; priority = 2500 } ∷ []) }

-- one article that is tracked by columns, and two clients
abbrev pub part_for_two : Publication
part_for_two = record {
  name = codes "first";
  retention_days = 14;
  conflict_retention_days = 14;
  articles = (record {
    name = codes "part";
    columns = (record { name = codes "a"; ty = ty.Int } ∷ record { name = codes "b"; ty = ty.Int } ∷ []);
    tracking = tracking.ByColumn;
    filter = None;
    joins = [];
    identity = None;
    resolver = 0;
    resolver_column = None;
  } ∷ []);
  subscriptions = (record { site = record { 0 = 1 }; host = record { 0 = codes "h1" }; kind = kind.Client; priority = 0 } ∷ record { site = record { 0 = 2 }; host = record { 0 = codes "h2" }; kind = kind.Client; priority = 0 } ∷ []);
}

-- customers by the host of a site, their orders and the lines of these, and two clients
abbrev pub orders_for_two : Publication
orders_for_two = record {
  name = codes "p3";
  retention_days = 14;
  conflict_retention_days = 14;
  articles = (record {
    name = codes "customer";
    columns = (record { name = codes "id"; ty = ty.Int } ∷ record { name = codes "region"; ty = ty.Text } ∷ []);
    tracking = tracking.ByColumn;
    filter = (Some (Compare (operand.Column 1) sign.Equal 7 operand.Host));
    joins = [];
    identity = None;
    resolver = 0;
    resolver_column = None;
  } ∷ record {
    name = codes "orders";
    columns = (record { name = codes "id"; ty = ty.Int } ∷ record { name = codes "cust"; ty = ty.Int } ∷ []);
    tracking = tracking.Row;
    filter = None;
    joins = (record { column = 1; parent = 0; parent_column = 0 } ∷ []);
    identity = None;
    resolver = 0;
    resolver_column = None;
  } ∷ record {
    name = codes "line";
    columns = (record { name = codes "ord"; ty = ty.Int } ∷ record { name = codes "qty"; ty = ty.Int } ∷ []);
    tracking = tracking.Row;
    filter = None;
    joins = (record { column = 0; parent = 1; parent_column = 0 } ∷ []);
    identity = None;
    resolver = 0;
    resolver_column = None;
  } ∷ []);
  subscriptions = (record { site = record { 0 = 1 }; host = record { 0 = codes "north" }; kind = kind.Client; priority = 0 } ∷ record { site = record { 0 = 2 }; host = record { 0 = codes "south" }; kind = kind.Client; priority = 0 } ∷ []);
}

-- one article with an identity column, and one client
abbrev pub ticket_for_one : Publication
ticket_for_one = record {
  name = codes "t";
  retention_days = 14;
  conflict_retention_days = 14;
  articles = (record {
    name = codes "ticket";
    columns = (record { name = codes "no"; ty = ty.Int } ∷ record { name = codes "note"; ty = ty.Text } ∷ []);
    tracking = tracking.Row;
    filter = None;
    joins = [];
    identity = (Some (record { column = 0; seed = pos 1; range = 2; pub_range = 2; threshold = 100; greatest = pos 8 }));
    resolver = 0;
    resolver_column = None;
  } ∷ []);
  subscriptions = (record { site = record { 0 = 1 }; host = record { 0 = codes "h1" }; kind = kind.Client; priority = 0 } ∷ []);
}
