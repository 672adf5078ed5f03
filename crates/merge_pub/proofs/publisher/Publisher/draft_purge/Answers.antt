use Rattle.std.proofs.Common.{refl}
use Rattle.merge_pub.specs.Held.{publication_of, tables_of}
use Rattle.merge_pub.proofs.PurgeMade.{purge-made}
use Rattle.merge_pub.proofs.publisher.Publisher.draft_purge.Goals as goal

pub returns-clause-made : goal.returns-clause-made
returns-clause-made c =
    purge-made (publication_of c.args.self.now) c.args.now (tables_of c.args.self.now) _ _ c.moment_at-latest.result c.cutoff-cutoff.result _ c.moment_at-latest.ensures c.cutoff-cutoff.ensures c.in_ok-draft.ensures.made refl
    c.in_ok-draft.ensures.forgotten
