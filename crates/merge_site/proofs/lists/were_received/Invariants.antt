use Rattle.std.specs.Prelude.{◌≡◌, ◌<◌, ◌^◌, drop, true}
use Rattle.std.specs.List.{AllByRecursion}
use Rattle.merge_keeper.specs.Entries.{was_received}
use Rattle.merge_site.proofs.lists.were_received.Given as goal

-- a range was received of all where it was of those that are left
abbrev pub invariant-loop-article : goal.invariant-loop-article
invariant-loop-article l = AllByRecursion (λ p. (p.0 < 2 ^ 8) × (was_received p ≡ true)) (drop l.article-index l.held) → AllByRecursion (λ p. (p.0 < 2 ^ 8) × (was_received p ≡ true)) l.held
