use Rattle.std.proofs.Common.{◌≡◌, ◌++◌, length, option_map}
use Rattle.merge_filter.specs.Quoting.{content_of}
use Rattle.merge_filter.proofs.quoted.content_of.Given as goal

abbrev pub invariant-loop-rest : goal.invariant-loop-rest
invariant-loop-rest l = option_map (λ more. l.bytes.items ++ more) (content_of l.rest) ≡ content_of l.body

abbrev pub decreases-loop-rest : goal.decreases-loop-rest
decreases-loop-rest l = length l.rest
