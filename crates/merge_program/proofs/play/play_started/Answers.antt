-- The faults of the sites are counted as their keepers are given back.
use Rattle.std.proofs.Common.{[], rules, ◌≡◌}
use Rattle.merge_program.proofs.GivenBack.{damage-told, untold-told}
use Rattle.merge_program.proofs.Rooms.{rose-all}
use Rattle.merge_program.proofs.Untold.{still-alike, still-ascend, untold-view}
use Rattle.merge_program.proofs.play.play_started.Goals as goal

pub play_on-ending-requires-clause-fresh : goal.play_on-ending-requires-clause-fresh
play_on-ending-requires-clause-fresh g c =
    let empty : c.new.result.items ≡ [] = search rules in
    untold-view c.args.started.0.publication c.args.started.0 c.args.started.1.items c.new.result.items c.requires.publisher c.requires.subscribers empty

pub returns-clause-ends : goal.returns-clause-ends
returns-clause-ends g c = λ stored empty.
    let p = c.play_on-ending.new.sites.publisher in
    let ss = c.play_on-ending.new.sites.subscribers.items in
    let told = g.E.Outside.told c.give_back.new.outside in
    let alike = still-alike c.args.started.0.publication c.args.started.1.items ss c.requires.subscribers c.play_on-ending.ensures.alike in
    let ascend = still-ascend c.args.started.0.publication c.args.started.1.items ss c.requires.subscribers c.requires.valid c.play_on-ending.ensures.stays in
    c.play_on-ending.ensures.ends _ _ (rose-all _ ss _ _ c.give_back.ensures.rose) stored (λ s. told s c.args.path.now) empty
    (λ site table key damage. (
      damage-told c.args.started.0.publication p ss c.play_on-ending.ensures.publication alike ascend told c.args.path.now (c.give_back.ensures.told ascend) site table key damage,
      untold-told c.args.started.0.publication p ss c.play_on-ending.ensures.publication alike ascend told c.args.path.now (c.give_back.ensures.told ascend) site table key c.play_on-ending.new.sites.pool.items c.play_on-ending.new.sites.moment damage,
    ))

pub returns-clause-part : goal.returns-clause-part
returns-clause-part g c = c.play_on-ending.ensures.part _ _ (rose-all _ c.play_on-ending.new.sites.subscribers.items _ _ c.give_back.ensures.rose)

pub returns-clause-others : goal.returns-clause-others
returns-clause-others g c = c.give_back.ensures.others
