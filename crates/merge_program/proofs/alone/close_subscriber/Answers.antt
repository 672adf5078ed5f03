-- The only subscriber's keeper is given back.
use Rattle.std.proofs.Common.{refl}
use Rattle.merge_program.proofs.Sites.{one-left, subscriber-few, subscriber-kept}
use Rattle.merge_program.proofs.alone.close_subscriber.Goals as goal

pub returns-in-Some-clause-kept : goal.returns-in-Some-clause-kept
returns-in-Some-clause-kept g c =
    let items = rw c.in-Some.is at c.pop.ensures.items in
    let one = one-left _ _ _ _ items c.requires.alone in
    subscriber-kept _ _ _ one c.requires.alone _ refl _ _ c.keeper_back.ensures.map c.into_keeper.ensures.kept.kept

pub returns-in-Some-clause-few : goal.returns-in-Some-clause-few
returns-in-Some-clause-few g c =
    let items = rw c.in-Some.is at c.pop.ensures.items in
    let one = one-left _ _ _ _ items c.requires.alone in
    subscriber-few _ _ one _ refl _ c.into_keeper.ensures.faults _ _ c.keeper_back.ensures.counts
