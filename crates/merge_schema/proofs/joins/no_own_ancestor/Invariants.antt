use Rattle.std.proofs.Common.{◌≡◌, drop}
use Rattle.merge_schema.specs.Ancestors.{no_own_ancestor}
use Rattle.merge_schema.proofs.joins.no_own_ancestor.Given as goal

abbrev pub invariant-loop-place : goal.invariant-loop-place
invariant-loop-place l = no_own_ancestor l.articles l.place (drop l.place l.articles) ≡ no_own_ancestor l.articles 0 l.articles
