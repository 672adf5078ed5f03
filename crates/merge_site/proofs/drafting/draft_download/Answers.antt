use Rattle.std.proofs.Common.{[], refl}
use Rattle.std.specs.Prelude.{None}
use Rattle.merge_batch.specs.declared.reply.Downloaded.{Downloaded}
use Rattle.merge_batch.specs.declared.reply.Reply.TheVariants as reply
use Rattle.merge_batch.specs.declared.request.Request.TheVariants as request
use Rattle.merge_model.specs.World.Calls.{request_commits}
use Rattle.merge_model.specs.Judge.ByNumbers.{by_numbers}
use Rattle.merge_model.specs.Publisher.PublisherDownload.{download}
use Rattle.merge_pub.specs.Held.{publication_of, tables_of}
use Rattle.merge_site.proofs.Called.{ok-all}
use Rattle.merge_site.proofs.Drafts.{fits-as, worked-as}
use Rattle.merge_site.proofs.PublisherRequests.{request-still}
use Rattle.merge_site.proofs.SendableReplies.{downloads-sendable}
use Rattle.merge_site.proofs.drafting.draft_download.Goals as goal

pub returns-clause-worked : goal.returns-clause-worked
returns-clause-worked c = λ says tallies.
    worked-as (λ (told : Downloaded). reply.Downloaded told) c.commits_download-commits.result c.draft_download-worked.result c.download_drafted.result c.download_drafted.ensures (download (publication_of c.args.publisher.now) (by_numbers (tables_of c.args.publisher.now)) c.args.now c.args.m.now (tables_of c.args.publisher.now)) (request_commits (publication_of c.args.publisher.now) c.args.now (request.Download c.args.m.now) (tables_of c.args.publisher.now)) (tables_of c.args.publisher.now)
    c.draft_download-worked.ensures.made (ok-all c.draft_download-worked.result (λ made. c.commits_download-commits.ensures)) (downloads-sendable (publication_of c.args.publisher.now) c.args.now c.args.m.now (tables_of c.args.publisher.now) c.requires c.draft_download-worked.result c.draft_download-worked.ensures.made) c.draft_download-worked.ensures.refused

pub returns-clause-ready : goal.returns-clause-ready
returns-clause-ready c =
    fits-as (λ (told : Downloaded). reply.Downloaded told) c.commits_download-commits.result c.draft_download-worked.result c.download_drafted.result c.download_drafted.ensures c.draft_download-worked.new.self c.draft_download-worked.ensures.ready
    (request-still (λ (told : Downloaded). reply.Downloaded told) (λ k n asked. None) [] c.args.now (request.Download c.args.m.now) c.args.publisher.now c.draft_download-worked.new.self (download (publication_of c.args.publisher.now) (by_numbers (tables_of c.args.publisher.now)) c.args.now c.args.m.now (tables_of c.args.publisher.now)) c.draft_download-worked.result c.commits_download-commits.result refl c.sorted.ensures c.draft_download-worked.ensures.same (ok-all c.draft_download-worked.result (λ made. c.commits_download-commits.ensures)) c.draft_download-worked.ensures.made)
