use Rattle.std.proofs.Common.{◌≡◌, map, take}
use Rattle.std.specs.List.{AllByRecursion}
use Rattle.serde_json.specs.View.{view}
use Rattle.merge_json.specs.Replies.{grant_at}
use Rattle.merge_json.specs.WrittenReplies.{grant_data}
use Rattle.merge_json.specs.Written.{ReadsBack}
use Rattle.merge_json.proofs.written_replies.grants_value.Given as goal

abbrev pub invariant-loop-grant : goal.invariant-loop-grant
invariant-loop-grant l =
    (map view l.values.items ≡ map grant_data (take l.grant-index l.grants))
    × AllByRecursion (ReadsBack grant_at grant_data) (take l.grant-index l.grants)
