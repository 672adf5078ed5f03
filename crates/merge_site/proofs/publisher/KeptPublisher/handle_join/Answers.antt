use Rattle.std.proofs.Common.{[], refl}
use Rattle.std.specs.Prelude.{None}
use Rattle.merge_batch.specs.declared.reply.Joined.{Joined}
use Rattle.merge_batch.specs.declared.reply.Reply.TheVariants as reply
use Rattle.merge_batch.specs.declared.request.Request.TheVariants as request
use Rattle.merge_model.specs.Publisher.PublisherJoin.{join}
use Rattle.merge_pub.specs.Held.{publication_of, tables_of}
use Rattle.merge_site.proofs.Called.{ok-all}
use Rattle.merge_site.proofs.PublisherRequests.{request-called, request-still}
use Rattle.merge_site.proofs.publisher.KeptPublisher.handle_join.Goals as goal

pub finish-requires-clause-still : goal.finish-requires-clause-still
finish-requires-clause-still g c =
    request-still (λ (told : Joined). reply.Joined told) (λ k n asked. None) [] c.args.now (request.Join c.args.m.now) c.self.inside.publisher c.draft_join-worked.new.self (join (publication_of c.self.inside.publisher) c.args.now c.args.m.now (tables_of c.self.inside.publisher)) c.draft_join-worked.result c.commits_join-commits.result refl c.sorted.ensures c.draft_join-worked.ensures.same
    (ok-all c.draft_join-worked.result (λ made. c.commits_join-commits.ensures)) c.draft_join-worked.ensures.made

pub returns-clause-called : goal.returns-clause-called
returns-clause-called g c =
    request-called _ c.self.inside.publisher c.draft_join-worked.new.self c.finish.new.publisher (g.K.Keeper.count c.self.inside.keeper) (g.K.Keeper.count c.finish.new.keeper) c.self.view_is c.draft_join-worked.ensures.same c.args.now (request.Join c.args.m.now) (λ publication p. join publication c.args.now c.args.m.now p) c.commits_join-commits.result c.draft_join-worked.result c.finish.result c.draft_join-worked.ensures.made c.draft_join-worked.ensures.refused c.finish.ensures.called
    (ok-all c.draft_join-worked.result (λ made. c.commits_join-commits.ensures))
