use Rattle.std.proofs.Common.{◌∙◌}
use Rattle.merge_outside.proofs.real.RealOutsideOutside.keeper.Goals as goal

pub returns-in-Err-Failed-clause-memory : goal.returns-in-Err-Failed-clause-memory
returns-in-Err-Failed-clause-memory c none unkept failed =
    let made = c.open_slot-opened.ensures.memory none (c.make_slot.ensures.kept c.args.site c.args.path.now ∙ unkept) in
    absurd (let wrong = rw failed at made in cc)
