use Rattle.std.proofs.Common.{◌≡◌}
use Rattle.merge_keeper.specs.Start.{loaded_behind}
use Rattle.merge_keeper.specs.SubscriberStart.{loading_of_subscriber, GoesOn}
use Rattle.merge_keeper.proofs.subscriber_start.take_all.Given as goal

abbrev pub invariant-loop-key : goal.invariant-loop-key
invariant-loop-key l = (loaded_behind (loading_of_subscriber l.publication) l.so_far.tables l.key-iterator ≡ loaded_behind (loading_of_subscriber l.publication) l.fn.so_far.tables l.initial.key-iterator) × GoesOn l.so_far
