-- The keys of each table.
use Rattle.std.specs.Prelude.{List, ℕ, Bool, codes, ◌||◌, if◌then◌else◌, bytes_eq, Result, Ok, Err}
use Rattle.toml.specs.Data.{Members, no_members, member}
use Rattle.merge_schema.specs.declared.fault.SchemaFault.{SchemaFault}
use Rattle.merge_schema.specs.declared.fault.SchemaFault.TheVariants.{BadValue}
use Rattle.merge_schema.specs.declared.keys.Shape.{Shape}
use Rattle.merge_schema.specs.declared.keys.Shape.TheVariants as shapes

abbrev pub is_key : Shape → List ℕ → Bool
is_key shapes.Top k = bytes_eq k (codes "name") || bytes_eq k (codes "retention_days") || bytes_eq k (codes "conflict_retention_days") || bytes_eq k (codes "article") || bytes_eq k (codes "subscription")
is_key shapes.Article k = bytes_eq k (codes "name") || bytes_eq k (codes "tracking") || bytes_eq k (codes "filter") || bytes_eq k (codes "resolver") || bytes_eq k (codes "resolver_column") || bytes_eq k (codes "column") || bytes_eq k (codes "join")
is_key shapes.Column k = bytes_eq k (codes "name") || bytes_eq k (codes "type") || bytes_eq k (codes "identity")
is_key shapes.Identity k = bytes_eq k (codes "seed") || bytes_eq k (codes "range") || bytes_eq k (codes "pub_range") || bytes_eq k (codes "threshold") || bytes_eq k (codes "greatest")
is_key shapes.Join k = bytes_eq k (codes "column") || bytes_eq k (codes "parent") || bytes_eq k (codes "parent_column")
is_key shapes.Subscription k = bytes_eq k (codes "site") || bytes_eq k (codes "host") || bytes_eq k (codes "kind") || bytes_eq k (codes "priority")

-- a table's keys stand in byte order
abbrev pub known_only : Shape → Members → Result (Unit {0}) SchemaFault
known_only shape no_members = Ok tt
known_only shape (member k d ms) = if is_key shape k then known_only shape ms else Err (BadValue k)
