use Rattle.std.proofs.Common.{◌≡◌, drop}
use Rattle.serde_json.specs.View.{items_view}
use Rattle.merge_json.specs.Reading.{each_at}
use Rattle.merge_json.specs.Replies.{ended_at}
use Rattle.merge_json.proofs.Each.{with_front}
use Rattle.merge_json.proofs.answers.ended.Given as goal

abbrev pub invariant-loop-value : goal.invariant-loop-value
invariant-loop-value l = with_front l.ended.items (each_at ended_at (items_view (drop l.value-index l.values))) ≡ each_at ended_at (items_view l.values)
