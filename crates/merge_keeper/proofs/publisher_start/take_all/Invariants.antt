use Rattle.std.proofs.Common.{◌≡◌}
use Rattle.merge_keeper.specs.Start.{loaded_behind}
use Rattle.merge_keeper.specs.PublisherStart.{loading_of_publisher, tables_of, GoesOn}
use Rattle.merge_keeper.proofs.publisher_start.take_all.Given as goal

abbrev pub invariant-loop-key : goal.invariant-loop-key
invariant-loop-key l = (loaded_behind (loading_of_publisher l.publication l.owns) (tables_of l.so_far) l.key-iterator ≡ loaded_behind (loading_of_publisher l.publication l.owns) (tables_of l.fn.so_far) l.initial.key-iterator) × GoesOn l.so_far
