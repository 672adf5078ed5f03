-- What the tables of a publication file say, before the names in them are looked up: a line for each key.
use Rattle.std.specs.Prelude.{List, [], ◌∷◌, ℕ, ◌+◌, pos, Bool, true, false, ◌&&◌, ◌||◌, not, ◌==◌, nat_lt, codes, bytes_eq, if◌then◌else◌, Option, Some, None, is_some, Result, Ok, Err}
use Rattle.toml.specs.Data.{Data, Members}
use Rattle.merge_types.specs.Limits.{filter_limit}
use Rattle.merge_types.specs.declared.changes.Tracking.{Tracking}
use Rattle.merge_types.specs.declared.changes.Tracking.TheVariants.{Row, ByColumn}
use Rattle.merge_types.specs.declared.values.Column.{Column}
use Rattle.merge_types.specs.declared.values.ColumnType.{ColumnType}
use Rattle.merge_types.specs.declared.values.ColumnType.TheVariants as types
use Rattle.merge_schema.specs.declared.draft.ArticleDraft.{ArticleDraft}
use Rattle.merge_schema.specs.declared.draft.Draft.{Draft}
use Rattle.merge_schema.specs.declared.draft.JoinDraft.{JoinDraft}
use Rattle.merge_schema.specs.declared.fault.SchemaFault.{SchemaFault}
use Rattle.merge_schema.specs.declared.fault.SchemaFault.TheVariants.{BadValue}
use Rattle.merge_schema.specs.declared.keys.Shape.TheVariants as shapes
use Rattle.merge_schema.specs.declared.publication.Identity.{Identity}
use Rattle.merge_schema.specs.declared.publication.SubscriptionKind.{SubscriptionKind}
use Rattle.merge_schema.specs.declared.publication.SubscriptionKind.TheVariants.{Server, Client}
use Rattle.merge_schema.specs.declared.publication.Subscription.{Subscription}
use Rattle.merge_schema.specs.Keys.{known_only}
use Rattle.merge_schema.specs.Steps.{◌>>=◌, each}
use Rattle.merge_schema.specs.FileValues.{or_bad, needed, optional, any_text, some_text, text_within, some_text_within, name_text, integer_from, count_from, tables_from, one_table}

-- words that name a choice

abbrev pub tracking_named : List ℕ → Option Tracking
tracking_named text = if bytes_eq text (codes "row") then Some Row else if bytes_eq text (codes "column") then Some ByColumn else None

abbrev pub type_named : List ℕ → Option ColumnType
type_named text =
    if bytes_eq text (codes "int") then Some types.Int
    else if bytes_eq text (codes "bit") then Some types.Bit
    else if bytes_eq text (codes "text") then Some types.Text
    else if bytes_eq text (codes "day") then Some types.Day
    else if bytes_eq text (codes "guid") then Some types.Guid
    else if bytes_eq text (codes "bytes") then Some types.Bytes
    else None

abbrev pub kind_named : List ℕ → Option SubscriptionKind
kind_named text = if bytes_eq text (codes "server") then Some Server else if bytes_eq text (codes "client") then Some Client else None

abbrev pub handler_named : List ℕ → Option ℕ
handler_named text =
    if bytes_eq text (codes "handler5") then Some 5
    else if bytes_eq text (codes "handler6") then Some 6
    else if bytes_eq text (codes "handler7") then Some 7
    else if bytes_eq text (codes "handler8") then Some 8
    else if bytes_eq text (codes "handler9") then Some 9
    else if bytes_eq text (codes "handler10") then Some 10
    else if bytes_eq text (codes "handler11") then Some 11
    else if bytes_eq text (codes "handler12") then Some 12
    else if bytes_eq text (codes "handler13") then Some 13
    else if bytes_eq text (codes "handler14") then Some 14
    else if bytes_eq text (codes "handler15") then Some 15
    else None

-- the place of a resolver in the list that is handed in
abbrev pub resolver_named : List ℕ → Option ℕ
resolver_named text =
    if bytes_eq text (codes "priority") then Some 0
    else if bytes_eq text (codes "maximum") then Some 1
    else if bytes_eq text (codes "minimum") then Some 2
    else if bytes_eq text (codes "additive") then Some 3
    else if bytes_eq text (codes "subscriber") then Some 4
    else handler_named text

abbrev pub if_in_list : ℕ → Option ℕ → Option ℕ
if_in_list resolvers None = None
if_in_list resolvers (Some place) = if nat_lt place resolvers then Some place else None

-- maximum, minimum and additive decide by a column
abbrev pub needs_column : ℕ → Bool
needs_column resolver = (resolver == 1) || (resolver == 2) || (resolver == 3)

abbrev pub is_int : ColumnType → Bool
is_int types.Int = true
is_int _ = false

abbrev pub is_server : SubscriptionKind → Bool
is_server Server = true
is_server Client = false

-- keys whose value is a word

abbrev pub tracking_at : Members → Result Tracking SchemaFault
tracking_at ms = optional (codes "tracking") (codes "row") any_text ms >>= λ word. or_bad (codes "tracking") (tracking_named word)

abbrev pub resolver_at : ℕ → Members → Result ℕ SchemaFault
resolver_at resolvers ms = optional (codes "resolver") (codes "priority") any_text ms >>= λ word. or_bad (codes "resolver") (if_in_list resolvers (resolver_named word))

abbrev pub type_at : Members → Result ColumnType SchemaFault
type_at ms = needed (codes "type") any_text ms >>= λ word. or_bad (codes "type") (type_named word)

abbrev pub kind_at : Members → Result SubscriptionKind SchemaFault
kind_at ms = optional (codes "kind") (codes "client") any_text ms >>= λ word. or_bad (codes "kind") (kind_named word)

-- keys that depend on another key of their table

-- the column by which a resolver decides; some resolvers must have one
abbrev pub resolver_column : ℕ → Members → Result (Option (List ℕ)) SchemaFault
resolver_column resolver ms = if needs_column resolver then needed (codes "resolver_column") some_text ms else optional (codes "resolver_column") None some_text ms

-- the table of an identity column, which is of type int and the only one of its article
abbrev pub identity_table : ColumnType → Bool → List ℕ → Data → Result (Option Members) SchemaFault
identity_table ty taken key d = if is_int ty && not taken then (one_table key d >>= λ ms. Ok (Some ms)) else Err (BadValue key)

-- a client has no priority
abbrev pub priority_for : SubscriptionKind → List ℕ → Data → Result ℕ SchemaFault
priority_for kind key d = if is_server kind then count_from 0 9999 key d else Err (BadValue key)

-- each table of an array, in order
abbrev pub each_table : {A : Type 0} → List ℕ → (Members → Result A SchemaFault) → List Data → Result (List A) SchemaFault
each_table key step ds = each (λ d. one_table key d >>= step) ds

-- tables

unfoldable pub identity_of : ℕ → Members → Result Identity SchemaFault
identity_of column ms = do
  _ ← known_only shapes.Identity ms
  seed ← optional (codes "seed") (pos 1) (integer_from (pos 1) (pos 9223372036854775807)) ms
  range ← needed (codes "range") (count_from 1 1000000000) ms
  pub_range ← needed (codes "pub_range") (count_from 1 1000000000) ms
  threshold ← optional (codes "threshold") 80 (count_from 1 100) ms
  greatest ← optional (codes "greatest") (pos 9223372036854775807) (integer_from seed (pos 9223372036854775807)) ms
  Ok (record { column = column; seed = seed; range = range; pub_range = pub_range; threshold = threshold; greatest = greatest })

-- an identity that a column brings, or else the one so far
abbrev pub identity_within : ℕ → Option Identity → Option Members → Result (Option Identity) SchemaFault
identity_within place so_far None = Ok so_far
identity_within place so_far (Some ms) = identity_of place ms >>= λ identity. Ok (Some identity)

-- the column at a place, and the identity so far
unfoldable pub column_of : ℕ → Option Identity → Members → Result (Column × Option Identity) SchemaFault
column_of place so_far ms = do
  _ ← known_only shapes.Column ms
  name ← needed (codes "name") name_text ms
  ty ← type_at ms
  table ← optional (codes "identity") None (identity_table ty (is_some so_far)) ms
  identity ← identity_within place so_far table
  Ok (record { name = name; ty = ty }, identity)

-- columns from a place on, and the identity so far
abbrev pub columns_from : ℕ → Option Identity → List Data → Result (List Column × Option Identity) SchemaFault
columns_from place so_far [] = Ok ([], so_far)
columns_from place so_far (d ∷ ds) = one_table (codes "column") d >>= column_of place so_far >>= λ first. columns_from (place + 1) first.1 ds >>= λ others. Ok (first.0 ∷ others.0, others.1)

unfoldable pub join_of : Members → Result JoinDraft SchemaFault
join_of ms = do
  _ ← known_only shapes.Join ms
  column ← needed (codes "column") any_text ms
  parent ← needed (codes "parent") any_text ms
  parent_column ← needed (codes "parent_column") any_text ms
  Ok (record { column = column; parent = parent; parent_column = parent_column })

-- an article, where so many resolvers are handed in
unfoldable pub article_of : ℕ → Members → Result ArticleDraft SchemaFault
article_of resolvers ms = do
  _ ← known_only shapes.Article ms
  name ← needed (codes "name") name_text ms
  tracking ← tracking_at ms
  filter ← optional (codes "filter") None (some_text_within filter_limit) ms
  resolver ← resolver_at resolvers ms
  by_column ← resolver_column resolver ms
  column_tables ← needed (codes "column") (tables_from 1 64) ms
  join_tables ← optional (codes "join") [] (tables_from 0 8) ms
  columns ← columns_from 0 None column_tables
  joins ← each_table (codes "join") join_of join_tables
  Ok (record { name = name; tracking = tracking; filter = filter; resolver = resolver; resolver_column = by_column; columns = columns.0; identity = columns.1; joins = joins })

unfoldable pub subscription_of : Members → Result Subscription SchemaFault
subscription_of ms = do
  _ ← known_only shapes.Subscription ms
  site ← needed (codes "site") (count_from 1 63) ms
  host ← needed (codes "host") (text_within 128) ms
  kind ← kind_at ms
  priority ← optional (codes "priority") 0 (priority_for kind) ms
  Ok (record { site = record { 0 = site }; host = record { 0 = host }; kind = kind; priority = priority })

-- the top table, then each article, then each subscription
unfoldable pub draft_of : ℕ → Members → Result Draft SchemaFault
draft_of resolvers ms = do
  _ ← known_only shapes.Top ms
  name ← needed (codes "name") name_text ms
  retention_days ← optional (codes "retention_days") 14 (count_from 1 3650) ms
  conflict_retention_days ← optional (codes "conflict_retention_days") 14 (count_from 1 3650) ms
  article_tables ← needed (codes "article") (tables_from 1 32) ms
  subscription_tables ← optional (codes "subscription") [] (tables_from 0 63) ms
  articles ← each_table (codes "article") (article_of resolvers) article_tables
  subscriptions ← each_table (codes "subscription") subscription_of subscription_tables
  Ok (record { name = name; retention_days = retention_days; conflict_retention_days = conflict_retention_days; articles = articles; subscriptions = subscriptions })
