use Rattle.std.proofs.Common.{sym, ◌∙◌}
use Rattle.merge_table.proofs.Ranges.{rows-last_none, rows-last_some, length-before_last}
use Rattle.merge_table.proofs.rows.RowsDoubleEndedIterator.next_back.Goals as goal

pub returns-in-Some-slot-clause-steps : goal.returns-in-Some-slot-clause-steps
returns-in-Some-slot-clause-steps g c = sym c.loop-key.invariant ∙ rows-last_some _ _ _ _ _ c.in-Some.ensures.steps c.in-Some-slot.is

pub returns-in-Some-slot-clause-goes : goal.returns-in-Some-slot-clause-goes
returns-in-Some-slot-clause-goes g c = record {
  on = λ finite. (tt, tt, length-before_last _ _ _ (sym c.loop-key.invariant ∙ rows-last_some _ _ _ _ _ c.in-Some.ensures.steps c.in-Some-slot.is));
  keeps = tt;
  rests = λ finite. tt;
}

pub loop-key-preserved : goal.loop-key-preserved
loop-key-preserved g c = sym (rows-last_none _ _ _ _ c.in-Some.ensures.steps c.in_default-slot.is) ∙ c.loop-key.invariant
