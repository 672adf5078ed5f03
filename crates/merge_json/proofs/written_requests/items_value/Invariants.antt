use Rattle.std.proofs.Common.{◌≡◌, map, take}
use Rattle.std.specs.List.{AllByRecursion}
use Rattle.serde_json.specs.View.{view}
use Rattle.merge_json.specs.Requests.{upload_item_at}
use Rattle.merge_json.specs.WrittenRequests.{upload_item_data}
use Rattle.merge_json.specs.Written.{ReadsBack}
use Rattle.merge_json.proofs.written_requests.items_value.Given as goal

abbrev pub invariant-loop-item : goal.invariant-loop-item
invariant-loop-item l =
    (map view l.values.items ≡ map upload_item_data (take l.item-index l.items))
    × AllByRecursion (ReadsBack upload_item_at upload_item_data) (take l.item-index l.items)
