use Rattle.std.proofs.Common.{◌≡◌, ◌<◌, ℕ}
use Rattle.merge_part.specs.declared.link.Link.{Link}
use Rattle.merge_part.specs.Rule.{IsAt}
use Rattle.merge_part.proofs.siblings.is_only_link.Given as goal

abbrev pub invariant-loop-other : goal.invariant-loop-other
invariant-loop-other l = (n : ℕ) (link : Link) → n < l.other → IsAt l.links n link → link.child ≡ l.article → n ≡ l.number
