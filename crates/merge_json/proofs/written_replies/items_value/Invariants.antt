use Rattle.std.proofs.Common.{◌≡◌, map, take}
use Rattle.std.specs.List.{AllByRecursion}
use Rattle.serde_json.specs.View.{view}
use Rattle.merge_json.specs.Replies.{download_item_at}
use Rattle.merge_json.specs.WrittenReplies.{download_item_data}
use Rattle.merge_json.specs.Written.{ReadsBack}
use Rattle.merge_json.proofs.written_replies.items_value.Given as goal

abbrev pub invariant-loop-item : goal.invariant-loop-item
invariant-loop-item l =
    (map view l.values.items ≡ map download_item_data (take l.item-index l.items))
    × AllByRecursion (ReadsBack download_item_at download_item_data) (take l.item-index l.items)
