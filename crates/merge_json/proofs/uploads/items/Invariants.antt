use Rattle.std.proofs.Common.{◌≡◌, ◌+◌, length, drop}
use Rattle.serde_json.specs.View.{items_view}
use Rattle.merge_json.specs.Reading.{numbered_at}
use Rattle.merge_json.specs.Requests.{upload_item_at}
use Rattle.merge_json.proofs.Each.{after_front}
use Rattle.merge_json.proofs.uploads.items.Given as goal

abbrev pub invariant-loop-value : goal.invariant-loop-value
invariant-loop-value l = after_front l.items.items (numbered_at upload_item_at (length l.items.items + 1) (items_view (drop l.value-index l.values))) ≡ numbered_at upload_item_at 1 (items_view l.values)
