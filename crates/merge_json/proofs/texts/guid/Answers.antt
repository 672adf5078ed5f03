use Rattle.std.proofs.Common.{ℕ, List, subst}
use Rattle.merge_types.specs.Guid.{IsGuidText}
use Rattle.merge_json.proofs.GuidTexts.{guid_is, no_guid}
use Rattle.merge_json.proofs.texts.guid.Goals as goal

pub returns-in-Some : goal.returns-in-Some
returns-in-Some c = guid_is c.args.text.now c.in-Some.number (subst (λ (t : List ℕ). IsGuidText t c.in-Some.number) c.as_bytes.ensures.value c.in-Some.ensures.some)

pub returns-in-None : goal.returns-in-None
returns-in-None c = no_guid c.args.text.now (subst (λ (t : List ℕ). (n : ℕ) → IsGuidText t n → ⊥) c.as_bytes.ensures.value c.in-None.ensures.none)
