use Rattle.merge_pub.proofs.publisher.Publisher.can_stand.Goals as goal

pub returns-clause-valid : goal.returns-clause-valid
returns-clause-valid c = c.keeps_rules.ensures.valid

pub returns-clause-stands : goal.returns-clause-stands
returns-clause-stands c = record {
  sorted = c.sorted.ensures;
  held_ascend = c.held_ascend.ensures;
  granted = c.grants_fit.ensures.granted;
  in_order = c.grants_fit.ensures.in_order;
  keeps = c.keeps_rules.ensures.rules;
}
