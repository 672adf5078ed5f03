-- What each type is printed as is a literal of it.
use Rattle.std.proofs.Common.{rules, ◌∙◌, ◌<◌, ◌^◌, ap, sym, subst, ℕ, List, w32}
use Rattle.std.specs.Str.{IsUtf8}
use Rattle.std.proofs.lemmas.Int.{to_z-of_z}
use Rattle.std.proofs.lemmas.Result.{IfOk-weaker}
use Rattle.merge_types.specs.Day.{IsDay, IsDayText, day_text}
use Rattle.merge_types.specs.Guid.{IsGuidText}
use Rattle.merge_types.specs.Quoted.{IsQuoted, quoted}
use Rattle.merge_types.proofs.Guids.{IsGuidText-guid_text}
use Rattle.merge_types.proofs.Printed.{IsDayText-day_text, IsQuoted-quoted}
use Rattle.merge_types.proofs.values.Value.text.Goals as goal

pub returns-in-Text-clause-reads_back : goal.returns-in-Text-clause-reads_back
returns-in-Text-clause-reads_back c =
    let is_text : IsUtf8 c.in-Text.words = c.as_str.ensures.utf8 in
    rw c.in-Text.is (IfOk-weaker c.print-in-Text.result _ _ (λ words e. subst (λ (t : List ℕ). IsQuoted t c.in-Text.words) (sym (e ∙ ap quoted c.as_str.ensures.text)) (IsQuoted-quoted c.in-Text.words is_text)) c.print-in-Text.ensures)

pub returns-in-Day-clause-reads_back : goal.returns-in-Day-clause-reads_back
returns-in-Day-clause-reads_back c =
    let proper : IsDay c.in-Day.day = rw c.in-Day.is at c.requires in
    let back = to_z-of_z w32 c.in-Day.day (search rules) in
    rw c.in-Day.is (IfOk-weaker c.print-in-Day.result _ _ (λ words e. subst (λ (t : List ℕ). IsDayText t c.in-Day.day) (sym (e ∙ ap day_text back)) (IsDayText-day_text c.in-Day.day proper)) c.print-in-Day.ensures)

pub returns-in-Guid-clause-reads_back : goal.returns-in-Guid-clause-reads_back
returns-in-Guid-clause-reads_back c =
    let fits : c.in-Guid.number < 2 ^ 128 = search rules in
    rw c.in-Guid.is (IfOk-weaker c.print-in-Guid.result _ _ (λ words e. subst (λ (t : List ℕ). IsGuidText t c.in-Guid.number) (sym e) (IsGuidText-guid_text c.in-Guid.number fits)) c.print-in-Guid.ensures)

pub returns-in-Bytes-clause-reads_back : goal.returns-in-Bytes-clause-reads_back
returns-in-Bytes-clause-reads_back c = rw (c.in-Bytes.is, ← c.as_slice.ensures) c.print-in-Bytes.ensures.reads_back
