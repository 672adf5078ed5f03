use Rattle.std.proofs.Common.{true}
use Rattle.merge_model.specs.Judge.ByNumbers.{by_numbers}
use Rattle.merge_model.specs.Publisher.PublisherLocal.{local}
use Rattle.merge_site.proofs.PublisherCalls.{pub-called}
use Rattle.merge_site.proofs.SubscriberCalls.{always}
use Rattle.merge_site.proofs.publisher.KeptPublisher.local_in_steps.Goals as goal

pub returns-clause-called : goal.returns-clause-called
returns-clause-called g c =
    pub-called _ c.self.inside.publisher c.draft_local-worked.new.self c.finish.new.publisher (g.K.Keeper.count c.self.inside.keeper) (g.K.Keeper.count c.finish.new.keeper) c.self.view_is c.draft_local-worked.ensures.same (λ publication p. local publication (by_numbers p) c.args.now c.args.change.now p) (λ p answer. true) true c.draft_local-worked.result c.finish.result c.draft_local-worked.ensures.made c.draft_local-worked.ensures.refused c.finish.ensures.called (always c.draft_local-worked.result)
