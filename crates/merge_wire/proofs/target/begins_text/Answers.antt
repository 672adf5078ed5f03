-- What is no text begins one where its end is a part of a character.
use Rattle.merge_wire.proofs.TextFronts.{text_begins, text_or_fault}
use Rattle.std.proofs.Common.{◌∙◌, refl}
use Rattle.merge_wire.proofs.target.begins_text.Goals as goal

pub returns-in-Ok : goal.returns-in-Ok
returns-in-Ok c = (λ _. text_begins c.args.bytes.now c.in-Ok.ensures.cases.1, λ _. refl)

pub returns-in-Err : goal.returns-in-Err
returns-in-Err c =
    text_or_fault c.args.bytes.now _ c.error_len.result c.is_none.result c.in-Err.ensures.cases.1 (rw (← c.error_len.ensures) at c.in-Err.ensures.error_len) (c.error_len.ensures ∙ c.in-Err.ensures.fault) c.is_none.ensures
