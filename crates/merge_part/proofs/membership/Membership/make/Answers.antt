use Rattle.merge_part.proofs.membership.Membership.make.Goals as goal

pub invariant_of-self : goal.invariant_of-self
invariant_of-self c = record {
  rules = c.self.invariant.rules;
  kept = rw (c.settle.ensures.entries, c.settle-2.ensures.entries, c.apply_and_sweep.ensures.rows, c.apply_and_sweep-2.ensures.rows) (rw (← c.self.view_is, ← c.plan.view_is) at c.requires.kept);
}

pub returns-clause-compact : goal.returns-clause-compact
returns-clause-compact c = record {
  rows = c.apply_and_sweep.ensures.spare;
  marks = c.apply_and_sweep-2.ensures.spare;
  children = c.settle.ensures.spare;
  parents = c.settle-2.ensures.spare;
}
