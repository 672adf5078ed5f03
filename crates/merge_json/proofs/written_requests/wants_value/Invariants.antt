use Rattle.std.proofs.Common.{◌≡◌, map, take}
use Rattle.std.specs.List.{AllByRecursion}
use Rattle.serde_json.specs.View.{view}
use Rattle.merge_json.specs.Requests.{want_at}
use Rattle.merge_json.specs.WrittenRequests.{want_data}
use Rattle.merge_json.specs.Written.{ReadsBack}
use Rattle.merge_json.proofs.written_requests.wants_value.Given as goal

abbrev pub invariant-loop-want : goal.invariant-loop-want
invariant-loop-want l =
    (map view l.values.items ≡ map want_data (take l.want-index l.wants))
    × AllByRecursion (ReadsBack want_at want_data) (take l.want-index l.wants)
