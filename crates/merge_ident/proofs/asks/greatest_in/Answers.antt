use Rattle.std.proofs.Common.{arith}
use Rattle.merge_ident.proofs.Added.{greatest_end-with_grants}
use Rattle.merge_ident.proofs.asks.greatest_in.Goals as goal

pub returns-clause-greatest : goal.returns-clause-greatest
returns-clause-greatest c = omega (arith, greatest_end-with_grants c.args.article c.args.grants.now c.args.planned.now)
