use Rattle.merge_keeper.proofs.Granted.{index-made, placed-made, values-made}
use Rattle.merge_keeper.proofs.grants.GrantsSoFar.add.Goals as goal

pub returns-clause-grants : goal.returns-clause-grants
returns-clause-grants c =
    values-made _ _ _ _ c.args.grant _ c.requires.index.seen c.requires.index.placed c.requires.follows c.begin_of.ensures c.in_ok-insert.ensures.entries

pub returns-clause-index : goal.returns-clause-index
returns-clause-index c = record {
  seen = index-made _ _ _ _ c.args.grant _ c.requires.index.seen c.requires.index.placed c.requires.follows c.begin_of.ensures c.in_ok-insert.ensures.entries _ _
      (c.in_ok-add.ensures _ c.requires.index.seen c.requires.follows);
  placed = placed-made _ _ _ _ c.args.grant _ c.requires.index.seen c.requires.index.placed c.requires.follows c.begin_of.ensures c.in_ok-insert.ensures.entries;
}
