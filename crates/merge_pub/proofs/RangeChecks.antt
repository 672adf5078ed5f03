-- What a range request keeps that is not refused.
use Rattle.std.specs.Prelude.{◌≡◌, ◌&&◌, ◌∷◌, ℕ, Bool, true, false, not, List, [], Option, Some, None, refl}
use Rattle.std.specs.List.{list_all}
use Rattle.std.proofs.Common.{arith, sym, ◌∙◌}
use Rattle.merge_types.specs.declared.identifiers.Moment.{Moment}
use Rattle.merge_types.specs.declared.identifiers.SiteId.{SiteId}
use Rattle.merge_schema.specs.Places.{is_subscription}
use Rattle.merge_schema.specs.declared.publication.Publication.{Publication}
use Rattle.merge_batch.specs.Asks.{broken_by_ranges, has_identity, want_fits, wants_fit}
use Rattle.merge_batch.specs.Known.{Known}
use Rattle.merge_batch.specs.Search.{broken_by_message}
use Rattle.merge_batch.specs.declared.refusal.Refusal.{Refusal}
use Rattle.merge_batch.specs.declared.refusal.Refusal.TheVariants.{UnknownSite}
use Rattle.merge_batch.specs.declared.request.RangeAsk.{RangeAsk}
use Rattle.merge_batch.specs.declared.request.Want.{Want}
use Rattle.merge_batch.specs.declared.rules.BrokenRule.{BrokenRule}
use Rattle.merge_model.specs.World.Faults.{fault_of}
use Rattle.merge_model.specs.Tables.Keys.{at_number}
use Rattle.merge_model.specs.Publisher.{later, site_refusal, state_refusal}
use Rattle.merge_model.specs.Tables.Refusals.{first_refusal, refused_if}
use Rattle.merge_model.specs.Tables.{PublisherTables}
use Rattle.merge_pub.specs.Ranging.{AreRuled, IsForOthers}

none-broken : (broken : Option BrokenRule) → None ≡ fault_of broken → broken ≡ None
none-broken None none = refl
none-broken (Some broken) none = absurd cc

fits-if : (b : Bool) → broken_by_message ((13, b) ∷ []) ≡ None → b ≡ true
fits-if true none = refl
fits-if false none = absurd cc

and-left : (a b : Bool) → (a && b) ≡ true → a ≡ true
and-left true b is = refl
and-left false b is = is

all-identity : (publication : Publication) (known : Known) (site : ℕ) (wants : List Want) → list_all (want_fits publication known site) wants ≡ true → list_all (λ (want : Want). has_identity publication want.article) wants ≡ true
all-identity publication known site [] all = refl
all-identity publication known site (want ∷ wants) all = grind (arith, all, all-identity publication known site wants (rest (want_fits publication known site want) (list_all (want_fits publication known site) wants) all))
  where
    rest : (a b : Bool) → (a && b) ≡ true → b ≡ true
    rest true b is = is
    rest false b is = absurd cc

-- each article that is asked for has an identity column
pub checked-ruled : (publication : Publication) (known : Known) (m : RangeAsk) (broken : Option BrokenRule) → broken ≡ broken_by_ranges publication known m → None ≡ fault_of broken → AreRuled publication m
unfolding broken_by_ranges
checked-ruled publication known m broken is none =
    let fits : wants_fit publication known m ≡ true = fits-if (wants_fit publication known m) (sym is ∙ none-broken broken none) in
    all-identity publication known m.site.0 m.wants (and-left (list_all (want_fits publication known m.site.0) m.wants) _ fits)

subscribes-if : (site : SiteId) (b : Bool) (rest : List (Option Refusal)) → None ≡ first_refusal (refused_if (not b) (UnknownSite site) ∷ rest) → b ≡ true
subscribes-if site true rest none = refl
subscribes-if site false rest none = absurd cc

-- the site subscribes
pub checked-others : (publication : Publication) (site : SiteId) (seq : ℕ) (now : Moment) (p : PublisherTables) → None ≡ site_refusal publication site seq now p → IsForOthers publication site
checked-others publication site seq now p none =
    subscribes-if site (is_subscription publication site.0) (state_refusal publication seq (later now p.latest) (at_number p.sites site.0) ∷ []) none
