-- A head that has not ended has as many bytes as a head may have, or too many lines, or more bytes can bring it.
use Rattle.std.proofs.Common.{◌≡◌, ◌<◌, List, ℕ, inl, inr, sym, subst, take, arith}
use Rattle.std.proofs.lemmas.List.{take_all}
use Rattle.httparse.specs.Grammar.{HasNoResponse, MayBecomeResponse}
use Rattle.merge_wire.specs.Heads.{lines}
use Rattle.merge_wire.proofs.BadHeads.{too_many_in_response}
use Rattle.merge_wire.proofs.response.unfinished.Goals as goal

pub returns-then-bytes-ge-HEAD_LIMIT : goal.returns-then-bytes-ge-HEAD_LIMIT
returns-then-bytes-ge-HEAD_LIMIT c = inr (omega arith, c.requires.open_head)

pub returns-then-lines-le-LINE_LIMIT : goal.returns-then-lines-le-LINE_LIMIT
returns-then-lines-le-LINE_LIMIT c =
    let all : take 8192 c.args.bytes.now ≡ c.args.bytes.now = take_all 8192 c.args.bytes.now (omega arith) in
    inl (record {
      short = omega arith;
      open_head = subst (λ (l : List ℕ). HasNoResponse l) all c.requires.open_head;
      hopeful = subst (λ (l : List ℕ). MayBecomeResponse l) all c.requires.hopeful;
      few = omega (arith, c.lines.ensures);
    })

pub returns-else-lines-le-LINE_LIMIT : goal.returns-else-lines-le-LINE_LIMIT
returns-else-lines-le-LINE_LIMIT c =
    let all : take 8192 c.args.bytes.now ≡ c.args.bytes.now = take_all 8192 c.args.bytes.now (omega arith) in
    let many : 33 < lines c.args.bytes.now = omega (arith, c.lines.ensures) in
    inl (too_many_in_response (take 8192 c.args.bytes.now) c.requires.open_head (subst (λ (l : List ℕ). 33 < lines l) (sym all) many))
