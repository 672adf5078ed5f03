use Rattle.merge_ident.proofs.Plans.{ArePlanned}
use Rattle.merge_ident.proofs.asks.plans.Given as goal

abbrev pub invariant-loop-ask : goal.invariant-loop-ask
invariant-loop-ask l = ArePlanned l.rules l.grants l.asks l.plans.items l.planned.items l.ask-index
