-- The text has one answer.
use Rattle.std.proofs.Common.{List, codes, refl, subst, sym}
use Rattle.std.specs.Prelude.{Ok}
use Rattle.merge_types.specs.declared.values.Column.{Column}
use Rattle.merge_filter.specs.Answers.{IsAnswer}
use Rattle.merge_make.specs.Publication.{of_region}
use Rattle.merge_make.proofs.Published.{of-region, only-of-region}
use Rattle.merge_make.proofs.publication.of_region.Goals as goal

pub returns-in-Ok : goal.returns-in-Ok
returns-in-Ok c = only-of-region _ (c.in-Ok.ensures.only (Ok of_region) (subst (λ (columns : List Column). IsAnswer columns (codes "region = HOST_NAME()") (Ok of_region)) (sym c.requires) of-region)) _ refl
