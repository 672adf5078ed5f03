-- A text of 36 characters is of one identifier, and names no change besides.
use Rattle.std.proofs.Common.{ℕ, ◌⊎◌, inl, inr, List, arith, subst}
use Rattle.merge_types.specs.Guid.{IsGuidText}
use Rattle.merge_types.specs.Rows.{IsDotText, IsMadeBy}
use Rattle.merge_types.proofs.Guids.{IsGuidText-one, length-IsGuidText}
use Rattle.merge_types.proofs.Points.{length-IsDotText}
use Rattle.merge_types.proofs.RowTexts.{one_row}
use Rattle.merge_types.proofs.identifiers.RowId.read.Goals as goal

not_made : (text : List ℕ) (row other site number : ℕ) → IsGuidText text row → ((s n : ℕ) → IsMadeBy row s n → ⊥)
    → IsMadeBy other site number → IsGuidText text other ⊎ IsDotText text site number → ⊥
not_made text row other site number is none made (inl guid) =
    none site number (subst (λ (r : ℕ). IsMadeBy r site number) (IsGuidText-one text other row guid is) made)
not_made text row other site number is none made (inr dot) =
    omega (arith, length-IsGuidText text row is, length-IsDotText text site number dot)

pub returns-in-None-clause-none : goal.returns-in-None-clause-none
returns-in-None-clause-none c = λ row is. not_made c.args.text.now c.in-Some.number row is.site is.number c.in-Some.ensures.some c.in-None.ensures.none is.made is.named

pub returns-in-Some-maker-clause-one : goal.returns-in-Some-maker-clause-one
returns-in-Some-maker-clause-one c = one_row c.args.text.now

pub returns-in-None-clause-one : goal.returns-in-None-clause-one
returns-in-None-clause-one c = one_row c.args.text.now

pub returns-in-Some-read_dot-clause-one : goal.returns-in-Some-read_dot-clause-one
returns-in-Some-read_dot-clause-one c = one_row c.args.text.now
