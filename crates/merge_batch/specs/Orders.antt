-- What a site is told to do with a row.
use Rattle.std.specs.Prelude.{Bool, true, false, if◌then◌else◌, Option, Some, None}
use Rattle.merge_units.specs.declared.version.Version.{Version}
use Rattle.merge_units.specs.Version.{cells_of, is_live}
use Rattle.merge_batch.specs.declared.reply.Act.{Act}
use Rattle.merge_batch.specs.declared.reply.Act.TheVariants as order

-- A row in the site's partition is put as the publisher has it. Outside, it left the partition where it lives, and else it was deleted, also where the publisher does not hold it any more.
abbrev pub order_by : Bool → Option Version → Act
order_by true (Some version) = order.Put version.lineage (cells_of version.body)
order_by false (Some version) = if is_live version.body then order.RemoveLeft else order.RemoveDeleted
order_by is_in None = order.RemoveDeleted

-- whether the order is one that puts a row
abbrev pub is_put : Bool → Option Version → Bool
is_put is_in None = false
is_put is_in (Some version) = is_in
