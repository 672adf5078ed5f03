use Rattle.std.proofs.Common.{sym, ◌∙◌}
use Rattle.merge_model.specs.World.Calls.{closing_commits}
use Rattle.merge_model.specs.Subscriber.{close_subscriber_generation}
use Rattle.merge_site.proofs.Called.{ok-all}
use Rattle.merge_site.proofs.SubscriberCalls.{closing-nothing, closing-still, sub-called}
use Rattle.merge_site.proofs.subscriber.KeptSubscriber.close_generation.Goals as goal

pub finish-requires-clause-still : goal.finish-requires-clause-still
finish-requires-clause-still g c =
    closing-still c.self.inside.subscriber c.draft_close-worked.new.self c.args.now c.draft_close-worked.result c.closing_commits-commits.result c.draft_close-worked.ensures.same c.closing_commits-commits.ensures c.draft_close-worked.ensures.made

pub returns-clause-called : goal.returns-clause-called
returns-clause-called g c =
    sub-called _ c.self.inside.subscriber c.draft_close-worked.new.self c.finish.new.subscriber (g.K.Keeper.count c.self.inside.keeper) (g.K.Keeper.count c.finish.new.keeper) c.self.view_is c.draft_close-worked.ensures.same (λ publication s. close_subscriber_generation c.args.now s) (λ s. closing_commits c.args.now s.latest s.gens) c.closing_commits-commits.result c.draft_close-worked.result c.finish.result c.draft_close-worked.ensures.made c.draft_close-worked.ensures.refused c.finish.ensures.called
    (ok-all c.draft_close-worked.result (λ made commits. sym c.closing_commits-commits.ensures ∙ commits))

pub returns-clause-nothing : goal.returns-clause-nothing
returns-clause-nothing g c =
    closing-nothing _ c.self.inside.subscriber (g.K.Keeper.count c.self.inside.keeper) c.self.view_is c.args.now c.closing_commits-commits.result c.draft_close-worked.result c.finish.result c.closing_commits-commits.ensures c.draft_close-worked.ensures.nothing c.finish.ensures.nothing
