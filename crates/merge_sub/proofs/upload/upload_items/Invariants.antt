use Rattle.std.specs.Prelude.{◌≡◌, ◌++◌, drop, filter_map}
use Rattle.merge_sub.specs.Sent.{item_at}
use Rattle.merge_sub.proofs.upload.upload_items.Given as goal

abbrev pub invariant-loop-key : goal.invariant-loop-key
invariant-loop-key l = l.items ++ filter_map (item_at l.rows.rows l.from l.to) (drop l.key-index l.keys) ≡ filter_map (item_at l.rows.rows l.from l.to) l.keys
