use Rattle.std.proofs.Common.{◌≡◌, map, take}
use Rattle.std.specs.List.{AllByRecursion}
use Rattle.serde_json.specs.View.{view}
use Rattle.merge_json.specs.Reading.{whole_at}
use Rattle.merge_json.specs.Written.{ReadsBack, whole}
use Rattle.merge_json.proofs.written_replies.numbers_value.Given as goal

abbrev pub invariant-loop-number : goal.invariant-loop-number
invariant-loop-number l =
    (map view l.values.items ≡ map whole (take l.number-index l.numbers))
    × AllByRecursion (ReadsBack whole_at whole) (take l.number-index l.numbers)
