use Rattle.std.proofs.Common.{[], refl}
use Rattle.std.specs.Prelude.{None}
use Rattle.merge_batch.specs.declared.reply.Joined.{Joined}
use Rattle.merge_batch.specs.declared.reply.Reply.TheVariants as reply
use Rattle.merge_batch.specs.declared.request.Request.TheVariants as request
use Rattle.merge_model.specs.World.Calls.{request_commits}
use Rattle.merge_model.specs.Publisher.PublisherJoin.{join}
use Rattle.merge_pub.specs.Held.{publication_of, tables_of}
use Rattle.merge_site.proofs.Called.{ok-all}
use Rattle.merge_site.proofs.Drafts.{fits-as, worked-as}
use Rattle.merge_site.proofs.PublisherRequests.{request-still}
use Rattle.merge_site.proofs.drafting.draft_join.Goals as goal

pub returns-clause-worked : goal.returns-clause-worked
returns-clause-worked c = λ says tallies.
    worked-as (λ (told : Joined). reply.Joined told) c.commits_join-commits.result c.draft_join-worked.result c.join_drafted.result c.join_drafted.ensures (join (publication_of c.args.publisher.now) c.args.now c.args.m.now (tables_of c.args.publisher.now)) (request_commits (publication_of c.args.publisher.now) c.args.now (request.Join c.args.m.now) (tables_of c.args.publisher.now)) (tables_of c.args.publisher.now)
    c.draft_join-worked.ensures.made (ok-all c.draft_join-worked.result (λ made. c.commits_join-commits.ensures)) (ok-all c.draft_join-worked.result (λ made. tt)) c.draft_join-worked.ensures.refused

pub returns-clause-ready : goal.returns-clause-ready
returns-clause-ready c =
    fits-as (λ (told : Joined). reply.Joined told) c.commits_join-commits.result c.draft_join-worked.result c.join_drafted.result c.join_drafted.ensures c.draft_join-worked.new.self c.draft_join-worked.ensures.ready
    (request-still (λ (told : Joined). reply.Joined told) (λ k n asked. None) [] c.args.now (request.Join c.args.m.now) c.args.publisher.now c.draft_join-worked.new.self (join (publication_of c.args.publisher.now) c.args.now c.args.m.now (tables_of c.args.publisher.now)) c.draft_join-worked.result c.commits_join-commits.result refl c.sorted.ensures c.draft_join-worked.ensures.same (ok-all c.draft_join-worked.result (λ made. c.commits_join-commits.ensures)) c.draft_join-worked.ensures.made)
