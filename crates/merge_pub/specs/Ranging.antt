-- What a range request keeps that is not refused.
use Rattle.std.specs.Prelude.{◌≡◌, true}
use Rattle.std.specs.List.{list_all}
use Rattle.merge_types.specs.declared.identifiers.SiteId.{SiteId}
use Rattle.merge_schema.specs.Places.{is_subscription}
use Rattle.merge_schema.specs.declared.publication.Publication.{Publication}
use Rattle.merge_batch.specs.Asks.{has_identity}
use Rattle.merge_batch.specs.declared.request.RangeAsk.{RangeAsk}
use Rattle.merge_batch.specs.declared.request.Want.{Want}

-- each article that is asked for has an identity column
abbrev pub AreRuled : Publication → RangeAsk → Type 0
AreRuled publication m = list_all (λ (want : Want). has_identity publication want.article) m.wants ≡ true

-- the site is a subscription
abbrev pub IsForOthers : Publication → SiteId → Type 0
IsForOthers publication site = is_subscription publication site.0 ≡ true
