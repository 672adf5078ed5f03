use Rattle.std.specs.Prelude.{◌≡◌, ◌++◌, map}
use Rattle.merge_world.specs.Reports.{held_of}
use Rattle.merge_world.proofs.reports.holdings.Given as goal

abbrev pub invariant-loop-article : goal.invariant-loop-article
invariant-loop-article l = l.holdings ++ map held_of l.article-iterator ≡ map held_of l.held.rows
