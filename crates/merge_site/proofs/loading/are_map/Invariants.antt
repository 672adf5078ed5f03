-- Where the entries to come are bytes, all are.
use Rattle.std.specs.List.{AllByRecursion}
use Rattle.merge_keeper.specs.Given.{IsEntry}
use Rattle.merge_site.proofs.loading.are_map.Given as goal

abbrev pub invariant-loop-key : goal.invariant-loop-key
invariant-loop-key l = AllByRecursion IsEntry l.key-iterator → AllByRecursion IsEntry l.entries
