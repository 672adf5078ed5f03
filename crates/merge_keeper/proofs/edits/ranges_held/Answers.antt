use Rattle.std.proofs.Common.{◌∙◌, ◌++◌, ap}
use Rattle.merge_ident.specs.declared.ranges.Holding.{Holding}
use Rattle.merge_keeper.specs.Edits.{list_of_option}
use Rattle.merge_keeper.proofs.HeldLists.{if_ok_then, ranges_listed}
use Rattle.merge_keeper.proofs.edits.ranges_held.Goals as goal

pub returns-clause-held : goal.returns-clause-held
returns-clause-held c =
    if_ok_then c.listed.result _ _ c.listed.ensures
    (ap (λ (h : Holding). list_of_option h.first ++ list_of_option h.second) c.holding-holding.ensures.holding ∙ ranges_listed c.args.ranges.now.held c.holding-holding.ensures.fit.two)
