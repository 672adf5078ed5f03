use Rattle.merge_model.specs.Publisher.PublisherDownload.{batch_end}
use Rattle.merge_pub.specs.Held.{publication_of, tables_of}
use Rattle.merge_pub.specs.Touches.{touched_up_to}
use Rattle.merge_pub.proofs.BatchCounts.{Reaching}
use Rattle.merge_pub.proofs.publisher.Publisher.batch_end.Given as goal

abbrev pub invariant-loop-to : goal.invariant-loop-to
invariant-loop-to l = Reaching (touched_up_to (publication_of l.self) (tables_of l.self) l.site l.from) (batch_end (touched_up_to (publication_of l.self) (tables_of l.self) l.site l.from) l.from l.last) l.to l.end l.count
