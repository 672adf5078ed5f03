-- What was written is the pieces so far, and on a failure a front of one more.
use Rattle.std.proofs.Common.{◌∙◌, ℕ, List, take, sym, subst}
use Rattle.std.specs.Io.KnownBytes.{Appends}
use Rattle.merge_ports.proofs.Known.{Appends-append}
use Rattle.merge_wire.specs.Pieces.{joined_pieces}
use Rattle.merge_wire.proofs.PieceLemmas.{one_more, front_more}
use Rattle.merge_wire.proofs.write.send.Goals as goal

pub returns-in-Err-clause-front : goal.returns-in-Err-clause-front
returns-in-Err-clause-front g c =
    front_more _ (g.S.Sink.written c.loop-piece.sink) _ c.args.pieces.now c.loop-piece.piece-index _ c.loop-piece-test.true c.loop-piece.invariant.written c.in-Err.ensures.front

pub loop-piece-preserved : goal.loop-piece-preserved
loop-piece-preserved g c = record {
  written =
      subst (λ (l : List ℕ). Appends (g.S.Sink.written c.args.sink.now) (g.S.Sink.written c.write_whole.new.sink) l)
      (sym (one_more c.args.pieces.now c.loop-piece.piece-index _ c.loop-piece-test.true))
      (Appends-append _ (g.S.Sink.written c.loop-piece.sink) _ _ _ c.loop-piece.invariant.written c.in-Ok.ensures.whole);
  kept = c.in-Ok.ensures.cause.kept ∙ c.loop-piece.invariant.kept;
}
