use Rattle.std.proofs.Common.{rules}
use Rattle.merge_pub.proofs.Drafted.{kept-as}
use Rattle.merge_pub.proofs.publisher.Publisher.settle.Goals as goal

pub invariant_of-self : goal.invariant_of-self
invariant_of-self c = record {
  valid = search rules;
  rules = search rules;
  live = search rules;
  indexed = search rules;
  moved = search rules;
  keeps = kept-as _ _ _ _ (search rules) (search rules) c.requires.keeps;
}

pub returns-clause-compact : goal.returns-clause-compact
returns-clause-compact c = record {
  rows = c.apply_and_sweep.ensures.spare;
  mappings = c.apply_and_sweep-2.ensures.spare;
  changed = c.make_entries.ensures.compact;
  moved = c.make_entries.ensures.spare;
}

pub returns-clause-members : goal.returns-clause-members
returns-clause-members c = c.make_plan.ensures.compact
