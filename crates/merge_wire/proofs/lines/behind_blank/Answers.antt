use Rattle.std.proofs.Common.{◌≡◌, ◌∙◌, ℕ, drop, ap, arith, length-drop}
use Rattle.std.proofs.lemmas.List.{take_all}
use Rattle.std.proofs.lemmas.List.Folds.{length-prefix_len}
use Rattle.httparse.specs.Pieces.{is_newline}
use Rattle.merge_wire.proofs.lines.behind_blank.Goals as goal

pub returns : goal.returns
returns c =
    take_all _ (drop c.blank_len.result c.args.bytes.now) (omega (arith, length-drop c.blank_len.result c.args.bytes.now))
    ∙ ap (λ (n : ℕ). drop n c.args.bytes.now) (c.blank_len.ensures.count ∙ length-prefix_len is_newline c.args.bytes.now)
