-- What a decision on two versions of a row is held to.
use Rattle.std.specs.Prelude.{◌≡◌, true, ℕ}
use Rattle.merge_types.specs.declared.identifiers.Dot.{Dot}
use Rattle.merge_units.specs.Cases.{case_of}
use Rattle.merge_units.specs.Results.{FitsDecision, case_body}
use Rattle.merge_units.specs.declared.result.Decision.{Decision}
use Rattle.merge_units.specs.declared.version.Version.{Version}
use Rattle.merge_schema.specs.declared.publication.Publication.{Publication}
use Rattle.merge_batch.specs.Articles.{fits_article}
use Rattle.merge_batch.specs.declared.request.UploadItem.{UploadItem}
use Rattle.merge_model.specs.Publisher.Acts.{key_of_item}
use Rattle.merge_steps.specs.Keeps.{FitsHere}

-- the decision may be applied, and the row that it gives fits its article
pub record MayDecide (publication : Publication) (article : ℕ) (held incoming : Version) (decision : Decision) : Type 0 where
  pub decided : FitsDecision (case_of held incoming) held.body decision
  pub fits : (dot : Dot) → fits_article publication article (case_body dot decision (case_of held incoming) held.body incoming.body) ≡ true

-- an item's version fits its article, and knows no change of the publisher that it did not make
abbrev pub ItemFits : Publication → ℕ → UploadItem → Type 0
ItemFits publication changes item = FitsHere publication changes (key_of_item item, item.version)
