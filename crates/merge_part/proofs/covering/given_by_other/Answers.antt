use Rattle.std.proofs.Common.{sym, ◌∙◌}
use Rattle.merge_part.specs.Rule.{parent_of}
use Rattle.merge_part.proofs.Covered.{apart_by_row}
use Rattle.merge_part.proofs.covering.given_by_other.Goals as goal

pub returns : goal.returns
returns c = λ place has. (c.args.row, apart_by_row c.args.others.now.key (parent_of c.args.link.now c.args.row) c.if-row-others.false, sym (c.given_by.ensures place) ∙ has)
