-- What is known where nothing refuses.
use Rattle.std.specs.Prelude.{◌≡◌, ◌∷◌, ℕ, List, Option, Some, None, true, refl, is_some}
use Rattle.std.proofs.Common.{arith}
use Rattle.merge_types.specs.declared.identifiers.Moment.{Moment}
use Rattle.merge_gens.specs.declared.sites.SiteState.{SiteState}
use Rattle.merge_schema.specs.declared.publication.Publication.{Publication}
use Rattle.merge_batch.specs.declared.refusal.Refusal.{Refusal}
use Rattle.merge_model.specs.Publisher.{state_refusal}
use Rattle.merge_model.specs.Tables.Refusals.{first_refusal}

pub first-none : (refusal : Option Refusal) (rest : List (Option Refusal)) → first_refusal (refusal ∷ rest) ≡ None → (refusal ≡ None) × (first_refusal rest ≡ None)
first-none (Some why) rest e = absurd (grind (arith, e))
first-none None rest e = (refl, e)

pub state-known : (publication : Publication) (seq : ℕ) (now : Moment) (found : Option SiteState) → state_refusal publication seq now found ≡ None → is_some found ≡ true
state-known publication seq now None e = absurd (grind (arith, e))
state-known publication seq now (Some state) e = refl
