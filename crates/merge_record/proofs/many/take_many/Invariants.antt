use Rattle.std.proofs.Common.{◌≡◌, ◌-◌}
use Rattle.merge_record.specs.Reading.{many_at}
use Rattle.merge_record.proofs.Loop.{with_front}
use Rattle.merge_record.proofs.many.take_many.Given as goal

abbrev pub invariant-loop : goal.invariant-loop
invariant-loop g l = with_front l.members.items (many_at g.T.Field.reading (l.count - l.counter) l.rest) ≡ many_at g.T.Field.reading l.count l.bytes
