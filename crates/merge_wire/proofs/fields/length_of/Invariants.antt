use Rattle.std.proofs.Common.{◌≡◌, map, take}
use Rattle.httparse.specs.Spans.{header_bytes}
use Rattle.merge_wire.specs.Fields.{IsSeen}
use Rattle.merge_wire.proofs.fields.length_of.Given as goal

abbrev pub invariant-loop-span : goal.invariant-loop-span
invariant-loop-span l = IsSeen l.seen (map (header_bytes l.head) (take l.span-index l.spans))
