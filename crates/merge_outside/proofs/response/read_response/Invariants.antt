-- What was read so far are the bytes that were taken from the source.
use Rattle.std.proofs.Common.{◌≡◌, ◌≤◌, ◌-◌, length}
use Rattle.std.specs.Io.KnownBytes.{Consumes}
use Rattle.merge_outside.proofs.response.read_response.Given as goal

abbrev pub invariant-pieces : goal.invariant-pieces
invariant-pieces g l =
    Consumes (g.S.Source.left l.initial.source) (g.S.Source.left l.source) l.bytes
    × (length l.bytes ≤ l.limit)
    × (g.S.Source.count l.source ≡ g.S.Source.count l.initial.source)

abbrev pub decreases-pieces : goal.decreases-pieces
decreases-pieces g l = l.limit - length l.bytes
