use Rattle.merge_steps.proofs.Meetings.{kept-without, passed-late}
use Rattle.merge_steps.proofs.acting.come_late.Goals as goal

pub returns-clause-passed : goal.returns-clause-passed
returns-clause-passed c = λ publication says tallies.
    passed-late publication c.args.arrival says tallies c.args.item.now c.args.acting.now _ c.in_ok-lost.lost c.requires.made c.in_ok-lost.ensures (rw c.key_of_item.ensures at c.in_ok-add.ensures)

pub returns-clause-fits : goal.returns-clause-fits
returns-clause-fits c = λ publication. kept-without publication c.args.acting.now _ c.key_of_item.result c.in_ok-lost.lost c.in_ok-add.ensures
