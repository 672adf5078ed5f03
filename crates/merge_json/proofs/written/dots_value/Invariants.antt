use Rattle.std.proofs.Common.{◌≡◌, map, take}
use Rattle.std.specs.List.{AllByRecursion}
use Rattle.serde_json.specs.View.{view}
use Rattle.merge_json.specs.Rows.{dot_at}
use Rattle.merge_json.specs.Written.{ReadsBack, dot_data}
use Rattle.merge_json.proofs.written.dots_value.Given as goal

abbrev pub invariant-loop-dot : goal.invariant-loop-dot
invariant-loop-dot l =
    (map view l.values.items ≡ map dot_data (take l.dot-index l.dots))
    × AllByRecursion (ReadsBack dot_at dot_data) (take l.dot-index l.dots)
