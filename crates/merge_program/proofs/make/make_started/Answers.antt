-- The faults of the sites are counted as their keepers are given back.
use Rattle.std.proofs.Common.{[], rules, ◌≡◌}
use Rattle.std.proofs.lemmas.Result.{IfOk-weaker}
use Rattle.merge_make.specs.Publication.{made_publication}
use Rattle.merge_program.proofs.Rooms.{rose-all}
use Rattle.merge_program.proofs.Untold.{untold-view}
use Rattle.merge_program.proofs.make.make_started.Goals as goal

pub make_on-text-requires : goal.make_on-text-requires
make_on-text-requires g c =
    let empty : c.new.result.items ≡ [] = search rules in
    record { fresh = untold-view made_publication c.args.started.0 c.args.started.1.items c.new.result.items c.requires.publisher c.requires.subscribers empty }

pub returns-clause-summary : goal.returns-clause-summary
returns-clause-summary g c = IfOk-weaker c.make_on-text.result _ _ (λ text said. said _ _ (rose-all _ c.make_on-text.new.sites.subscribers.items _ _ c.give_back.ensures.rose)) c.make_on-text.ensures.summary

pub returns-clause-others : goal.returns-clause-others
returns-clause-others g c = c.give_back.ensures.others
