use Rattle.std.specs.Prelude.{◌≡◌, ◌++◌, drop, filter_map}
use Rattle.merge_sub.specs.Taking.{let_go}
use Rattle.merge_sub.proofs.reply.rows_let_go.Given as goal

abbrev pub invariant-loop-key : goal.invariant-loop-key
invariant-loop-key l = l.edits ++ filter_map (let_go l.rows.rows l.received) (drop l.key-index l.keys) ≡ filter_map (let_go l.rows.rows l.received) l.keys
