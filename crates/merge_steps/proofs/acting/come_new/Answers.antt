use Rattle.std.proofs.Common.{rules}
use Rattle.merge_steps.proofs.Meetings.{passed-new}
use Rattle.merge_steps.proofs.acting.come_new.Goals as goal

pub returns-clause-passed : goal.returns-clause-passed
returns-clause-passed c = λ says tallies.
    passed-new c.args.publication.now c.args.arrival says tallies c.args.item.now c.args.acting.now c.add.new.self c.in_ok-version.version c.args.lost c.requires.made c.requires.none (search rules)
    (rw c.key_of_item-key.ensures at c.in_ok-add.ensures)
