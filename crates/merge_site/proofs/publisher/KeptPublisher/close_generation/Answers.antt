use Rattle.std.proofs.Common.{sym, ◌∙◌}
use Rattle.merge_model.specs.World.Calls.{closing_commits}
use Rattle.merge_model.specs.Publisher.{close_generation}
use Rattle.merge_site.proofs.Called.{ok-all}
use Rattle.merge_site.proofs.PublisherCalls.{closing-nothing, closing-still, pub-called}
use Rattle.merge_site.proofs.publisher.KeptPublisher.close_generation.Goals as goal

pub finish-requires-clause-still : goal.finish-requires-clause-still
finish-requires-clause-still g c =
    closing-still c.self.inside.publisher c.draft_close-worked.new.self c.args.now c.draft_close-worked.result c.closing_commits-commits.result c.draft_close-worked.ensures.same c.closing_commits-commits.ensures c.draft_close-worked.ensures.made

pub returns-clause-called : goal.returns-clause-called
returns-clause-called g c =
    pub-called _ c.self.inside.publisher c.draft_close-worked.new.self c.finish.new.publisher (g.K.Keeper.count c.self.inside.keeper) (g.K.Keeper.count c.finish.new.keeper) c.self.view_is c.draft_close-worked.ensures.same (λ publication p. close_generation c.args.now p) (λ p. closing_commits c.args.now p.latest p.gens) c.closing_commits-commits.result c.draft_close-worked.result c.finish.result c.draft_close-worked.ensures.made c.draft_close-worked.ensures.refused c.finish.ensures.called
    (ok-all c.draft_close-worked.result (λ made commits. sym c.closing_commits-commits.ensures ∙ commits))

pub returns-clause-nothing : goal.returns-clause-nothing
returns-clause-nothing g c =
    closing-nothing _ c.self.inside.publisher (g.K.Keeper.count c.self.inside.keeper) c.self.view_is c.args.now c.closing_commits-commits.result c.draft_close-worked.result c.finish.result c.closing_commits-commits.ensures c.draft_close-worked.ensures.nothing c.finish.ensures.nothing
