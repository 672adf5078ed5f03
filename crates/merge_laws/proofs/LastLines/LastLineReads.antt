-- What is read of a mapping is what is read of the line that tells of it.
use Rattle.std.specs.Prelude.{◌≡◌, ℕ, false, Option, Some, None, refl, option_map, unwrap_or}
use Rattle.std.proofs.Common.{ap, ◌∙◌}
use Rattle.merge_schema.specs.declared.publication.Publication.{Publication}
use Rattle.merge_gens.specs.declared.moves.Mapping.{Mapping}
use Rattle.merge_gens.specs.Moves.{is_left}
use Rattle.merge_model.specs.Judge.ByNumbers.{touch_inside, touch_outside}
use Rattle.merge_model.specs.Judge.ByHistory.{last_line, says_left, touched_inside, touched_outside}
use Rattle.merge_model.specs.History.{Line, LineKind, Changed, EnteredFor, LeftFor, GoneFor}
use Rattle.merge_model.specs.History.Model.{Model}
use Rattle.merge_laws.specs.Laws.LastLines.{move_told, MappingIsLastLine, ChangedIsLastChange, LeftByLine, TouchedInsideByLine, TouchedOutsideByLine}
use Rattle.merge_laws.proofs.LastLines.LastLineSteps.{Fits}

left-told : (last : Option Line) → unwrap_or (option_map (λ (move : Mapping). is_left move.kind) (move_told last)) false ≡ says_left last
left-told None = refl
left-told (Some line) = elim line.kind as (λ (kind : LineKind). (let last : Option Line = Some (record line { kind = kind }) in unwrap_or (option_map (λ (move : Mapping). is_left move.kind) (move_told last)) false ≡ says_left last)) [
  | Changed ↦ refl
  | EnteredFor site ↦ refl
  | LeftFor site ↦ refl
  | GoneFor site ↦ refl
]

inside-told : (changed : ℕ) (last : Option Line) → touch_inside changed (move_told last) ≡ touched_inside changed last
inside-told changed None = refl
inside-told changed (Some line) = elim line.kind as (λ (kind : LineKind). (let last : Option Line = Some (record line { kind = kind }) in touch_inside changed (move_told last) ≡ touched_inside changed last)) [
  | Changed ↦ refl
  | EnteredFor site ↦ refl
  | LeftFor site ↦ refl
  | GoneFor site ↦ refl
]

outside-told : (last : Option Line) → touch_outside (move_told last) ≡ touched_outside last
outside-told None = refl
outside-told (Some line) = elim line.kind as (λ (kind : LineKind). (let last : Option Line = Some (record line { kind = kind }) in touch_outside (move_told last) ≡ touched_outside last)) [
  | Changed ↦ refl
  | EnteredFor site ↦ refl
  | LeftFor site ↦ refl
  | GoneFor site ↦ refl
]

both-touched : (found : Option Mapping) (last : Option Line) (changed change : Option ℕ) → found ≡ move_told last → changed ≡ change
    → option_map (λ (n : ℕ). touch_inside n found) changed ≡ option_map (λ (n : ℕ). touched_inside n last) change
both-touched found last None change same e = ap (λ (o : Option ℕ). option_map (λ (n : ℕ). touched_inside n last) o) e
both-touched found last (Some n) change same e =
    ap Some (ap (λ (o : Option Mapping). touch_inside n o) same ∙ inside-told n last) ∙ ap (λ (o : Option ℕ). option_map (λ (k : ℕ). touched_inside k last) o) e

module _ (publication : Publication) (m : Model) (fits : Fits publication m.world.publisher m.history.lines) where
  pub mappings-told : MappingIsLastLine m
  mappings-told key site = fits.moves key site

  pub changes-told : ChangedIsLastChange m
  changes-told key held = fits.changes key held

  pub left-by-line : LeftByLine m
  left-by-line key site = ap (λ (found : Option Mapping). unwrap_or (option_map (λ (move : Mapping). is_left move.kind) found) false) (fits.moves key site) ∙ left-told (last_line m.history key site)

  pub inside-by-line : TouchedInsideByLine m
  inside-by-line key site held = both-touched _ (last_line m.history key site) _ _ (fits.moves key site) (fits.changes key held)

  pub outside-by-line : TouchedOutsideByLine m
  outside-by-line key site = ap (λ (found : Option Mapping). touch_outside found) (fits.moves key site) ∙ outside-told (last_line m.history key site)
