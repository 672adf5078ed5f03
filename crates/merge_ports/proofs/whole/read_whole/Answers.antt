-- What a call took before the reading ended comes behind what the calls before took, and is no more than its piece.
use Rattle.std.proofs.Common.{arith, length, rules, ◌≤◌}
use Rattle.std.proofs.lemmas.Grind.{common_steps}
use Rattle.merge_ports.proofs.Known.{ConsumesAtMost-kept, ConsumesAtMost-piece}
use Rattle.merge_ports.proofs.whole.read_whole.Goals as goal

pub returns-in_err-taken-clause-few : goal.returns-in_err-taken-clause-few
returns-in_err-taken-clause-few g c =
    ConsumesAtMost-kept c.args.limit 4096 _ (g.S.Source.left c.pieces.source) _ _ c.pieces.invariant.0 c.pieces.invariant.1 c.in_err-taken.ensures.bytes

pub returns-then-taken-eq0-clause-few : goal.returns-then-taken-eq0-clause-few
returns-then-taken-eq0-clause-few g c =
    let room : length c.read.new.piece ≤ 4096 = first_of (omega arith, search rules, grind (arith, common_steps)) in
    ConsumesAtMost-piece c.args.limit 4096 _ _ (g.S.Source.left c.pieces.source) _ _ c.read.new.piece c.pieces.invariant.0 c.pieces.invariant.1 c.in_ok-taken.ensures.bytes.0 room

pub returns-then-taken-limit-clause-few : goal.returns-then-taken-limit-clause-few
returns-then-taken-limit-clause-few g c =
    let room : length c.read.new.piece ≤ 4096 = first_of (omega arith, search rules, grind (arith, common_steps)) in
    ConsumesAtMost-piece c.args.limit 4096 _ _ (g.S.Source.left c.pieces.source) _ _ c.read.new.piece c.pieces.invariant.0 c.pieces.invariant.1 c.in_ok-taken.ensures.bytes.0 room

pub returns-in_err-extend-clause-few : goal.returns-in_err-extend-clause-few
returns-in_err-extend-clause-few g c =
    let room : length c.read.new.piece ≤ 4096 = first_of (omega arith, search rules, grind (arith, common_steps)) in
    ConsumesAtMost-piece c.args.limit 4096 _ _ (g.S.Source.left c.pieces.source) _ _ c.read.new.piece c.pieces.invariant.0 c.pieces.invariant.1 c.in_ok-taken.ensures.bytes.0 room
