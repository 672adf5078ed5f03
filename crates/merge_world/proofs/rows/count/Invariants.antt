use Rattle.std.specs.Prelude.{◌≡◌, ◌+◌, sum_by}
use Rattle.merge_world.proofs.Rowwise.{one}
use Rattle.merge_world.proofs.rows.count.Given as goal

abbrev pub invariant-loop-key : goal.invariant-loop-key
invariant-loop-key g l = l.count + sum_by (one l.article g.R.Versioned.version_of) l.key-iterator ≡ sum_by (one l.article g.R.Versioned.version_of) l.rows.rows
