use Rattle.std.specs.Prelude.{◌≡◌, map, take}
use Rattle.merge_model.specs.Publisher.PublisherRanges.{ask_by}
use Rattle.merge_pub.proofs.ranging.asks_of.Given as goal

abbrev pub invariant-loop-want : goal.invariant-loop-want
invariant-loop-want l = l.asks.items ≡ map (ask_by l.m.site) (take l.want-index l.want-items)
