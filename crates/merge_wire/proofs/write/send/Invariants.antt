-- The pieces so far were written, and no write failed.
use Rattle.std.proofs.Common.{◌≡◌, take}
use Rattle.std.specs.Io.KnownBytes.{Appends}
use Rattle.merge_wire.specs.Pieces.{joined_pieces}
use Rattle.merge_wire.proofs.write.send.Given as goal

abbrev pub invariant-loop-piece : goal.invariant-loop-piece
invariant-loop-piece g l = record {
  written : Appends (g.S.Sink.written l.initial.sink) (g.S.Sink.written l.sink) (joined_pieces (take l.piece-index l.pieces));
  kept : g.S.Sink.count l.sink ≡ g.S.Sink.count l.initial.sink;
}
