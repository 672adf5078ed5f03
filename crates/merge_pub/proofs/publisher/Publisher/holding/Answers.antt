use Rattle.std.proofs.Common.{ap}
use Rattle.merge_pub.specs.Held.{Held, publication_of, tables_of}
use Rattle.merge_pub.specs.Uploaded.{known_in}
use Rattle.merge_steps.specs.Uploading.{known_of}
use Rattle.merge_pub.proofs.publisher.Publisher.holding.Goals as goal

pub returns-clause-known : goal.returns-clause-known
returns-clause-known c =
    rw c.publication.ensures.publication (ap (λ (h : Held). known_in (publication_of h) (tables_of h)) c.self.view_is)
