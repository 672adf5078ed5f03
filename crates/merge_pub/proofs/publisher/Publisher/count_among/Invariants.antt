use Rattle.merge_pub.specs.Held.{publication_of, tables_of}
use Rattle.merge_pub.proofs.BatchCounts.{Counting}
use Rattle.merge_pub.proofs.publisher.Publisher.count_among.Given as goal

abbrev pub invariant-loop-key : goal.invariant-loop-key
invariant-loop-key l = Counting (publication_of l.self) (tables_of l.self) l.site l.from l.to l.keys l.key-index l.count
