use Rattle.std.proofs.Common.{◌≡◌, ◌∙◌, ℕ, List, length, min, take, ap, arith}
use Rattle.std.proofs.lemmas.List.{take_min}
use Rattle.merge_wire.proofs.response.front_of.Goals as goal

pub returns : goal.returns
returns c =
    let least : c.min.result ≡ min 8192 (length c.args.bytes.now) = omega arith in
    ap (λ (n : ℕ). take n c.args.bytes.now) least ∙ take_min 8192 c.args.bytes.now
