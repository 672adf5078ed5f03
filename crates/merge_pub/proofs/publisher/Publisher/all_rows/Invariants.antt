use Rattle.std.specs.Prelude.{◌≡◌, ◌++◌}
use Rattle.std.specs.Map.{keys_of}
use Rattle.merge_pub.specs.Held.{tables_of}
use Rattle.merge_pub.proofs.publisher.Publisher.all_rows.Given as goal

abbrev pub invariant-loop-key : goal.invariant-loop-key
invariant-loop-key l = l.keys.items ++ keys_of l.key-iterator ≡ keys_of (tables_of l.self).rows
