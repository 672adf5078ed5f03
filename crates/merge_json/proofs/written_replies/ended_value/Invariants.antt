use Rattle.std.proofs.Common.{◌≡◌, map, take}
use Rattle.std.specs.List.{AllByRecursion}
use Rattle.serde_json.specs.View.{view}
use Rattle.merge_json.specs.Replies.{ended_at}
use Rattle.merge_json.specs.WrittenReplies.{ended_data}
use Rattle.merge_json.specs.Written.{ReadsBack}
use Rattle.merge_json.proofs.written_replies.ended_value.Given as goal

abbrev pub invariant-loop-ended : goal.invariant-loop-ended
invariant-loop-ended l =
    (map view l.values.items ≡ map ended_data (take l.ended-index l.all))
    × AllByRecursion (ReadsBack ended_at ended_data) (take l.ended-index l.all)
