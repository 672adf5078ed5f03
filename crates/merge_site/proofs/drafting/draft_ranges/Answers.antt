use Rattle.std.proofs.Common.{[], refl}
use Rattle.std.specs.Prelude.{None}
use Rattle.merge_batch.specs.declared.reply.Ranged.{Ranged}
use Rattle.merge_batch.specs.declared.reply.Reply.TheVariants as reply
use Rattle.merge_batch.specs.declared.request.Request.TheVariants as request
use Rattle.merge_model.specs.World.Calls.{request_commits}
use Rattle.merge_model.specs.Judge.ByNumbers.{by_numbers}
use Rattle.merge_model.specs.Publisher.PublisherRanges.{ranges}
use Rattle.merge_pub.specs.Held.{publication_of, tables_of}
use Rattle.merge_site.proofs.Called.{ok-all}
use Rattle.merge_site.proofs.Drafts.{fits-as, worked-as}
use Rattle.merge_site.proofs.PublisherRequests.{ranges-commit, request-still}
use Rattle.merge_site.proofs.drafting.draft_ranges.Goals as goal

pub returns-clause-worked : goal.returns-clause-worked
returns-clause-worked c = λ says tallies.
    worked-as (λ (told : Ranged). reply.Ranged told) c.ranges_commit-commits.result c.draft_ranges-worked.result c.ranges_drafted.result c.ranges_drafted.ensures (ranges (publication_of c.args.publisher.now) (by_numbers (tables_of c.args.publisher.now)) c.args.now c.args.m.now (tables_of c.args.publisher.now)) (request_commits (publication_of c.args.publisher.now) c.args.now (request.Ranges c.args.m.now) (tables_of c.args.publisher.now)) (tables_of c.args.publisher.now)
    c.draft_ranges-worked.ensures.made (ranges-commit c.args.now c.args.m.now c.args.publisher.now c.draft_ranges-worked.new.self c.draft_ranges-worked.result c.ranges_commit-commits.result c.draft_ranges-worked.ensures.same c.ranges_commit-commits.ensures c.draft_ranges-worked.ensures.planned) (ok-all c.draft_ranges-worked.result (λ made. tt)) c.draft_ranges-worked.ensures.refused

pub returns-clause-ready : goal.returns-clause-ready
returns-clause-ready c =
    fits-as (λ (told : Ranged). reply.Ranged told) c.ranges_commit-commits.result c.draft_ranges-worked.result c.ranges_drafted.result c.ranges_drafted.ensures c.draft_ranges-worked.new.self c.draft_ranges-worked.ensures.ready
    (request-still (λ (told : Ranged). reply.Ranged told) (λ k n asked. None) [] c.args.now (request.Ranges c.args.m.now) c.args.publisher.now c.draft_ranges-worked.new.self (ranges (publication_of c.args.publisher.now) (by_numbers (tables_of c.args.publisher.now)) c.args.now c.args.m.now (tables_of c.args.publisher.now)) c.draft_ranges-worked.result c.ranges_commit-commits.result refl c.sorted.ensures c.draft_ranges-worked.ensures.same (ranges-commit c.args.now c.args.m.now c.args.publisher.now c.draft_ranges-worked.new.self c.draft_ranges-worked.result c.ranges_commit-commits.result c.draft_ranges-worked.ensures.same c.ranges_commit-commits.ensures c.draft_ranges-worked.ensures.planned) c.draft_ranges-worked.ensures.made)
