use Rattle.std.proofs.Common.{◌≡◌, drop}
use Rattle.std.specs.Option.{option_or}
use Rattle.merge_gens.specs.Book.{last_before}
use Rattle.merge_gens.proofs.closings.last_before.Given as goal

-- the last so far, unless one of those that are left closed before too
abbrev pub invariant-loop-closing : goal.invariant-loop-closing
invariant-loop-closing l = option_or (last_before l.cutoff (drop l.closing-index l.closings)) l.last ≡ last_before l.cutoff l.closings
