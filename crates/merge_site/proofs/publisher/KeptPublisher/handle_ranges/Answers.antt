use Rattle.std.proofs.Common.{[], refl}
use Rattle.std.specs.Prelude.{None}
use Rattle.merge_batch.specs.declared.reply.Ranged.{Ranged}
use Rattle.merge_batch.specs.declared.reply.Reply.TheVariants as reply
use Rattle.merge_batch.specs.declared.request.Request.TheVariants as request
use Rattle.merge_model.specs.Judge.ByNumbers.{by_numbers}
use Rattle.merge_model.specs.Publisher.PublisherRanges.{ranges}
use Rattle.merge_pub.specs.Held.{publication_of, tables_of}
use Rattle.merge_site.proofs.PublisherRequests.{ranges-commit, request-called, request-still}
use Rattle.merge_site.proofs.publisher.KeptPublisher.handle_ranges.Goals as goal

pub finish-requires-clause-still : goal.finish-requires-clause-still
finish-requires-clause-still g c =
    request-still (λ (told : Ranged). reply.Ranged told) (λ k n asked. None) [] c.args.now (request.Ranges c.args.m.now) c.self.inside.publisher c.draft_ranges-worked.new.self (ranges (publication_of c.self.inside.publisher) (by_numbers (tables_of c.self.inside.publisher)) c.args.now c.args.m.now (tables_of c.self.inside.publisher)) c.draft_ranges-worked.result c.ranges_commit-commits.result refl c.sorted.ensures c.draft_ranges-worked.ensures.same
    (ranges-commit c.args.now c.args.m.now c.self.inside.publisher c.draft_ranges-worked.new.self c.draft_ranges-worked.result c.ranges_commit-commits.result c.draft_ranges-worked.ensures.same c.ranges_commit-commits.ensures c.draft_ranges-worked.ensures.planned) c.draft_ranges-worked.ensures.made

pub returns-clause-called : goal.returns-clause-called
returns-clause-called g c =
    request-called _ c.self.inside.publisher c.draft_ranges-worked.new.self c.finish.new.publisher (g.K.Keeper.count c.self.inside.keeper) (g.K.Keeper.count c.finish.new.keeper) c.self.view_is c.draft_ranges-worked.ensures.same c.args.now (request.Ranges c.args.m.now) (λ publication p. ranges publication (by_numbers p) c.args.now c.args.m.now p) c.ranges_commit-commits.result c.draft_ranges-worked.result c.finish.result c.draft_ranges-worked.ensures.made c.draft_ranges-worked.ensures.refused c.finish.ensures.called
    (ranges-commit c.args.now c.args.m.now c.self.inside.publisher c.draft_ranges-worked.new.self c.draft_ranges-worked.result c.ranges_commit-commits.result c.draft_ranges-worked.ensures.same c.ranges_commit-commits.ensures c.draft_ranges-worked.ensures.planned)
