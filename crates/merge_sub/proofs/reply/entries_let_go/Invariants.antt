use Rattle.std.specs.List.{flat_map}
use Rattle.std.specs.Prelude.{◌≡◌, ◌++◌, drop}
use Rattle.merge_sub.specs.Taking.{entries_let_go}
use Rattle.merge_sub.proofs.reply.entries_let_go.Given as goal

abbrev pub invariant-loop-key : goal.invariant-loop-key
invariant-loop-key l = l.changes ++ flat_map (entries_let_go l.rows.rows l.received) (drop l.key-index l.keys) ≡ flat_map (entries_let_go l.rows.rows l.received) l.keys
