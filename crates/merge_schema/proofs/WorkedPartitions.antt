-- Partitions of small publications, computed.
use Rattle.std.proofs.Common.{◌≡◌, ℕ, true, List, [], ◌∷◌, map, Option, None, Some, refl}
use Rattle.std.specs.Prelude.{pos}
use Rattle.merge_types.specs.declared.identifiers.HostName.{HostName}
use Rattle.merge_types.specs.declared.changes.Tracking.TheVariants as trackings
use Rattle.merge_types.specs.declared.values.Value.{Value}
use Rattle.merge_types.specs.declared.values.Value.TheVariants.{Null, Int, Text}
use Rattle.merge_filter.specs.declared.tree.Operand.TheVariants as operands
use Rattle.merge_filter.specs.declared.word.Sign.TheVariants as signs
use Rattle.merge_filter.specs.Syntax.{Syntax, Not, Compare, IsNull}
use Rattle.merge_schema.specs.declared.publication.Article.{Article}
use Rattle.merge_schema.specs.declared.publication.JoinFilter.{JoinFilter}
use Rattle.merge_schema.specs.declared.publication.Publication.{Publication}
use Rattle.merge_schema.specs.declared.publication.Subscription.{Subscription}
use Rattle.merge_schema.specs.declared.publication.SubscriptionKind.TheVariants as kinds
use Rattle.merge_schema.specs.Partition.{LiveRow, partition_of, partition_at, is_in_at}

abbrev north : List ℕ
north = 110 ∷ 111 ∷ 114 ∷ 116 ∷ 104 ∷ []

abbrev south : List ℕ
south = 115 ∷ 111 ∷ 117 ∷ 116 ∷ 104 ∷ []

abbrev host : List ℕ → HostName
host name = record { 0 = name }

abbrev article : Option Syntax → List JoinFilter → Article
article filter joins = record { name = []; columns = []; tracking = trackings.Row; filter = filter; joins = joins; identity = None; resolver = 0; resolver_column = None }

abbrev subscription : ℕ → List ℕ → Subscription
subscription site name = record { site = record { 0 = site }; host = host name; kind = kinds.Server; priority = 0 }

abbrev publication : List Article → Publication
publication articles = record { name = []; retention_days = 14; conflict_retention_days = 14; articles = articles; subscriptions = subscription 1 north ∷ subscription 2 south ∷ [] }

abbrev live_row : ℕ → ℕ → List Value → LiveRow
live_row place row values = record { article = place; row = record { 0 = row }; values = values }

abbrev keys : List LiveRow → List ℕ
keys rows = map (λ (row : LiveRow). row.row.0) rows

-- region = HOST_NAME()
abbrev same_region : ℕ → Syntax
same_region column = Compare (operands.Column column) signs.Equal 0 operands.Host

-- two customers, the first one's region Null
abbrev customers : List LiveRow
customers = live_row 0 1 (Null ∷ []) ∷ live_row 0 2 (Text north ∷ []) ∷ []

by_region : keys (partition_of (publication (article (Some (same_region 0)) [] ∷ [])) (host north) customers) ≡ 2 ∷ []
by_region = refl

-- of a Null no comparison is true, and no negation of one either
by_no_region : keys (partition_of (publication (article (Some (Not (same_region 0))) [] ∷ [])) (host north) customers) ≡ []
by_no_region = refl

by_null : keys (partition_of (publication (article (Some (IsNull 0)) [] ∷ [])) (host north) customers) ≡ 1 ∷ []
by_null = refl

-- customers by region, orders by their customer, lines by their order
abbrev join : ℕ → ℕ → ℕ → JoinFilter
join column parent parent_column = record { column = column; parent = parent; parent_column = parent_column }

abbrev shop : Publication
shop = publication (article (Some (same_region 1)) [] ∷ article None (join 1 0 0 ∷ []) ∷ article None (join 0 1 0 ∷ []) ∷ [])

abbrev int : ℕ → Value
int n = Int (pos n)

abbrev sold : List ℕ → List LiveRow
sold region = live_row 0 1 (int 1 ∷ Text region ∷ []) ∷ live_row 1 2 (int 10 ∷ int 1 ∷ []) ∷ live_row 2 3 (int 10 ∷ int 5 ∷ []) ∷ []

at_north : keys (partition_at shop (record { 0 = 1 }) (sold north)) ≡ 1 ∷ 2 ∷ 3 ∷ []
at_north = refl

not_at_south : keys (partition_at shop (record { 0 = 2 }) (sold north)) ≡ []
not_at_south = refl

-- the customer moves, and its order and line with it
left_north : keys (partition_at shop (record { 0 = 1 }) (sold south)) ≡ []
left_north = refl

entered_south : keys (partition_at shop (record { 0 = 2 }) (sold south)) ≡ 1 ∷ 2 ∷ 3 ∷ []
entered_south = refl

line_at_south : is_in_at shop (record { 0 = 2 }) (sold south) 2 (record { 0 = 3 }) ≡ true
line_at_south = refl

-- without the customer nobody has the order or the line, and a Null joins nothing
orphans : keys (partition_at shop (record { 0 = 1 }) (live_row 1 2 (int 10 ∷ int 1 ∷ []) ∷ live_row 2 3 (int 10 ∷ int 5 ∷ []) ∷ [])) ≡ []
orphans = refl

no_null_joins : keys (partition_at shop (record { 0 = 1 }) (live_row 0 1 (Null ∷ Text north ∷ []) ∷ live_row 1 2 (int 10 ∷ Null ∷ []) ∷ [])) ≡ 1 ∷ []
no_null_joins = refl

-- a second parent by another join holds the row, and a row that passes its own filter needs none
abbrev held : Publication
held = publication (article (Some (same_region 1)) [] ∷ article (Some (same_region 1)) [] ∷ article (Some (IsNull 2)) (join 0 0 0 ∷ join 1 1 0 ∷ []) ∷ [])

second_parent : keys (partition_at held (record { 0 = 1 }) (live_row 0 1 (int 1 ∷ Text south ∷ []) ∷ live_row 1 2 (int 7 ∷ Text north ∷ []) ∷ live_row 2 3 (int 1 ∷ int 7 ∷ int 0 ∷ []) ∷ live_row 2 4 (int 1 ∷ int 8 ∷ int 0 ∷ []) ∷ live_row 2 5 (int 9 ∷ int 9 ∷ Null ∷ []) ∷ [])) ≡ 2 ∷ 3 ∷ 5 ∷ []
second_parent = refl

-- joins in a circle have a value too
abbrev circle : Publication
circle = publication (article (Some (same_region 1)) (join 0 1 0 ∷ []) ∷ article None (join 0 0 0 ∷ []) ∷ [])

in_a_circle : keys (partition_at circle (record { 0 = 1 }) (live_row 0 1 (int 1 ∷ Text north ∷ []) ∷ live_row 1 2 (int 1 ∷ []) ∷ live_row 1 3 (int 2 ∷ []) ∷ [])) ≡ 1 ∷ 2 ∷ []
in_a_circle = refl

-- a site that does not subscribe gets nothing
nobody : keys (partition_at shop (record { 0 = 3 }) (sold north)) ≡ []
nobody = refl
