use Rattle.std.proofs.Common.{◌≤◌, nat_le, get_or, arith}
use Rattle.std.proofs.lemmas.Bool.Decides.{nat_tests}
use Rattle.merge_ident.proofs.Lasts.{to_found, to_none, to_other, le_from_test}
use Rattle.merge_ident.proofs.halving.last_to.Goals as goal

pub returns-then-grants-behind-2 : goal.returns-then-grants-behind-2
returns-then-grants-behind-2 c =
    to_found c.args.article c.args.site.0 c.args.grants.now c.requires c.loop-behind.behind c.loop-behind.invariant.bound c.loop-behind.invariant.none _ c.loop-behind-test.true c.if-grants-behind.true c.if-grants-behind-2.true

pub returns-else-grants-behind : goal.returns-else-grants-behind
returns-else-grants-behind c =
    to_other c.args.article c.args.site.0 c.args.grants.now c.requires c.loop-behind.behind c.loop-behind.invariant.bound c.loop-behind.invariant.none _ c.loop-behind-test.true
    (le_from_test _ _ (c.loop-behind.invariant.before _ _ (omega arith) (omega (arith, c.loop-behind.invariant.bound)))) c.if-grants-behind.false

pub returns-after-loop-behind : goal.returns-after-loop-behind
returns-after-loop-behind c = to_none c.args.article c.args.site.0 c.args.grants.now c.requires c.loop-behind.behind c.loop-behind.invariant.bound c.loop-behind.invariant.none c.loop-behind-test.false
