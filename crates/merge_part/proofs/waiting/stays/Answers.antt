use Rattle.std.proofs.Common.{sym, ◌∙◌}
use Rattle.merge_schema.proofs.JoinedValues.{same_values_join}
use Rattle.merge_part.proofs.waiting.stays.Goals as goal

pub returns-in-Some-Some-clause-same : goal.returns-in-Some-Some-clause-same
returns-in-Some-Some-clause-same c = λ h.
    rw (c.in-Some-Some.is-0, c.in-Some-Some.is-1) ((same_values_join c.in-Some-Some.before.now c.in-Some-Some.after.now).0 (sym c.are_joined.ensures ∙ h)).0
