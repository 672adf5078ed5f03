use Rattle.std.specs.List.{range_with_len}
use Rattle.std.specs.Prelude.{◌≡◌, count_by, map, ℕ}
use Rattle.merge_model.specs.World.Reports.{is_of_article}
use Rattle.merge_world.specs.Reports.{live_in}
use Rattle.merge_world.proofs.rows.counts.Given as goal

abbrev pub invariant-loop-article : goal.invariant-loop-article
invariant-loop-article g l = l.counts ≡ map (λ (article : ℕ). count_by (is_of_article article) (live_in g.R.Versioned.version_of l.rows.rows)) (range_with_len 0 l.article)
