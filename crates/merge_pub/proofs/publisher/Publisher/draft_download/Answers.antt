use Rattle.merge_pub.specs.Held.{publication_of, tables_of}
use Rattle.merge_pub.proofs.Asked.{downloaded}
use Rattle.merge_pub.proofs.publisher.Publisher.draft_download.Goals as goal

pub returns-clause-made : goal.returns-clause-made
returns-clause-made c =
    downloaded (publication_of c.args.self.now) c.args.now c.args.m.now (tables_of c.args.self.now) _ _ c.synced.result c.moment_at-latest.result _ c.in_ok-state.ensures.refusal c.in_ok-state.ensures.state
    c.moment_at-latest.ensures c.synced.ensures c.in_ok-draft.ensures.made c.in_ok-reply.ensures
