use Rattle.std.proofs.Common.{arith}
use Rattle.merge_ident.specs.Grants.{is_of}
use Rattle.merge_ident.proofs.Added.{count_by-with_grants}
use Rattle.merge_ident.proofs.asks.granted_in.Goals as goal

pub returns-clause-granted : goal.returns-clause-granted
returns-clause-granted c = omega (arith, count_by-with_grants (is_of c.args.ask.article c.args.ask.site.0) c.args.grants.now c.args.planned.now)
