use Rattle.std.proofs.Common.{◌≡◌, drop}
use Rattle.serde_json.specs.View.{items_view}
use Rattle.merge_json.specs.Reading.{each_at}
use Rattle.merge_json.specs.Values.{value_at}
use Rattle.merge_json.proofs.Each.{with_front}
use Rattle.merge_json.proofs.values.data.Given as goal

abbrev pub invariant-loop-value : goal.invariant-loop-value
invariant-loop-value l = with_front l.data.items (each_at value_at (items_view (drop l.value-index l.values))) ≡ each_at value_at (items_view l.values)
