use Rattle.merge_ident.proofs.SeenLists.{seen-made}
use Rattle.merge_ident.proofs.seen_grants.SeenGrants.add.Goals as goal

pub returns : goal.returns
returns c = λ before seen follows.
    seen-made _ _ _ _ before c.args.grant _ _ _ seen follows c.end_of.ensures c.taker_of.ensures c.last_of.ensures c.in_ok-insert.ensures.entries c.in_ok-insert-2.ensures.updates.0
