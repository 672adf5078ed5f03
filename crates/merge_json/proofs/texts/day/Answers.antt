use Rattle.std.proofs.Common.{rules, ◌∙◌, ℤ, List, ℕ, Some, sym, ap, subst, w32}
use Rattle.std.proofs.lemmas.Int.{to_z-of_z}
use Rattle.merge_types.specs.Day.{IsDayText}
use Rattle.merge_json.proofs.DayTexts.{day_is, no_day}
use Rattle.merge_json.proofs.texts.day.Goals as goal

pub returns-in-Some : goal.returns-in-Some
returns-in-Some c =
    day_is c.args.text.now c.in-Some.day (subst (λ (t : List ℕ). IsDayText t c.in-Some.day) c.as_bytes.ensures.value c.in-Some.ensures.some)
    ∙ ap (λ (z : ℤ). Some z) (sym (to_z-of_z w32 c.in-Some.day (search rules)))

pub returns-in-None : goal.returns-in-None
returns-in-None c = no_day c.args.text.now (subst (λ (t : List ℕ). (day : ℤ) → IsDayText t day → ⊥) c.as_bytes.ensures.value c.in-None.ensures.none)
