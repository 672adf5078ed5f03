use Rattle.std.specs.Prelude.{◌≡◌, ◌++◌, drop, filter_map}
use Rattle.merge_sub.specs.Taking.{order_of}
use Rattle.merge_sub.proofs.reply.add_orders.Given as goal

abbrev pub invariant-loop-item : goal.invariant-loop-item
invariant-loop-item l = l.edits ++ filter_map (order_of l.rows.rows l.received) (drop l.item-index l.items) ≡ l.fn.edits ++ filter_map (order_of l.rows.rows l.received) l.items
