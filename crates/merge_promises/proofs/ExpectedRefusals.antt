-- What no request is refused for, where none is refused for anything unexpected.
use Rattle.std.specs.Prelude.{Bool, false, refl, ℕ, ◌≡◌}
use Rattle.merge_schema.specs.declared.publication.Publication.{Publication}
use Rattle.merge_batch.specs.declared.refusal.Refusal.{Refusal}
use Rattle.merge_batch.specs.declared.refusal.Refusal.TheVariants.{BadBatch, Gap, NotJoined, UnknownSite, WrongWatermark}
use Rattle.merge_model.specs.History.Model.{Model}
use Rattle.merge_model.specs.World.{Saying}
use Rattle.merge_honest.specs.Delivered.{NoneIsRefusedFor, breaks, is_gap, is_not_joined, is_unexpected, is_unknown_site, is_wrong_watermark}

-- a test that passes what is unexpected alone
abbrev IsOfUnexpected : (Refusal → Bool) → Type 0
IsOfUnexpected test = (why : Refusal) → is_unexpected why ≡ false → test why ≡ false

breaks-unexpected : (rule : ℕ) → IsOfUnexpected (breaks rule)
breaks-unexpected rule (BadBatch item broken) is = absurd (cc is)
breaks-unexpected rule why is = refl

gap-unexpected : IsOfUnexpected is_gap
gap-unexpected (Gap from received) is = absurd (cc is)
gap-unexpected why is = refl

watermark-unexpected : IsOfUnexpected is_wrong_watermark
watermark-unexpected (WrongWatermark from last) is = absurd (cc is)
watermark-unexpected why is = refl

unknown-unexpected : IsOfUnexpected is_unknown_site
unknown-unexpected (UnknownSite site) is = absurd (cc is)
unknown-unexpected why is = refl

joined-unexpected : IsOfUnexpected is_not_joined
joined-unexpected NotJoined is = absurd (cc is)
joined-unexpected why is = refl

module _ (publication : Publication) (says : Saying) (m : Model) (few : NoneIsRefusedFor is_unexpected publication says m) where
  none-for : (test : Refusal → Bool) → IsOfUnexpected test → NoneIsRefusedFor test publication says m
  none-for test of number site r why at e = of why (few number site r why at e)

  pub none-break : (rule : ℕ) → NoneIsRefusedFor (breaks rule) publication says m
  none-break rule = none-for (breaks rule) (breaks-unexpected rule)

  pub no-gap : NoneIsRefusedFor is_gap publication says m
  no-gap = none-for is_gap gap-unexpected

  pub no-wrong-watermark : NoneIsRefusedFor is_wrong_watermark publication says m
  no-wrong-watermark = none-for is_wrong_watermark watermark-unexpected

  pub no-unknown-site : NoneIsRefusedFor is_unknown_site publication says m
  no-unknown-site = none-for is_unknown_site unknown-unexpected

  pub none-not-joined : NoneIsRefusedFor is_not_joined publication says m
  none-not-joined = none-for is_not_joined joined-unexpected
