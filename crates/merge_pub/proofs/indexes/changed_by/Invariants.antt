use Rattle.std.specs.FinSet as set
use Rattle.std.specs.Prelude.{◌≡◌, drop, map}
use Rattle.merge_gens.specs.Index.{entries_after_all}
use Rattle.merge_pub.specs.Restoring.{changed_put}
use Rattle.merge_pub.proofs.indexes.changed_by.Given as goal

abbrev pub invariant-loop-key : goal.invariant-loop-key
invariant-loop-key l = entries_after_all l.index.entries (map changed_put (drop l.key-index l.rows)) ≡ entries_after_all set.empty (map changed_put l.rows)
