use Rattle.std.proofs.Common.{◌≡◌, map, take}
use Rattle.std.specs.List.{AllByRecursion}
use Rattle.serde_json.specs.View.{view}
use Rattle.merge_json.specs.Values.{value_at}
use Rattle.merge_json.specs.Written.{ReadsBack, value_data}
use Rattle.merge_json.proofs.written.datums_value.Given as goal

abbrev pub invariant-loop-datum : goal.invariant-loop-datum
invariant-loop-datum l =
    (map view l.values.items ≡ map value_data (take l.datum-index l.datums))
    × AllByRecursion (ReadsBack value_at value_data) (take l.datum-index l.datums)
