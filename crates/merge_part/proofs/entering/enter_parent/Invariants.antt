use Rattle.std.specs.Prelude.{option_copied}
use Rattle.merge_part.specs.Entering.{IsEntered}
use Rattle.merge_part.proofs.entering.enter_parent.Given as goal

abbrev pub invariant-loop-number : goal.invariant-loop-number
invariant-loop-number l = IsEntered (λ link. link.parent) (λ link. link.parent_column) l.links l.number l.fn.draft l.draft l.key (option_copied l.old) (option_copied l.new)
