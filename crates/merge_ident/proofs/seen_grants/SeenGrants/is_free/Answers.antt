use Rattle.merge_ident.proofs.SeenLists.{first-none, first-some}
use Rattle.merge_ident.proofs.seen_grants.SeenGrants.is_free.Goals as goal

pub returns-in-Some : goal.returns-in-Some
returns-in-Some c =
    first-some c.args.grant _ _ c.range.result c.next.new.self (c.in-Some.end.now, c.in-Some.range.now) _ c.first_of-from.ensures (c.range.ensures.between tt) c.in-Some.ensures.steps c.is_behind.ensures

pub returns-in-None : goal.returns-in-None
returns-in-None c = first-none c.args.grant _ _ c.range.result c.first_of-from.ensures (c.range.ensures.between tt) c.in-None.ensures.steps.0
