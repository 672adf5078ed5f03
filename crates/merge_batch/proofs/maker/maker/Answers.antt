use Rattle.std.proofs.Common.{◌≡◌, ℕ, Option, Some, None, IfSome, IfNone, sym}
use Rattle.merge_types.specs.declared.Dot.{Dot}
use Rattle.merge_types.specs.Rows.{IsMadeBy}
use Rattle.merge_batch.specs.Makers.{maker_of}
use Rattle.merge_batch.proofs.Makers.{maker_of-made, maker_of-none}
use Rattle.merge_batch.proofs.maker.maker.Goals as goal

same_maker : (row : ℕ) (found : Option Dot) → IfSome found (λ dot. IsMadeBy row dot.site.0 dot.number)
    → IfNone found ((site number : ℕ) → IsMadeBy row site number → ⊥) → found ≡ maker_of row
same_maker row None made never = sym (maker_of-none row never)
same_maker row (Some dot) made never = sym (maker_of-made row dot.site.0 dot.number made)

pub returns : goal.returns
returns c = same_maker c.args.row.0 c.maker.result c.maker.ensures.some c.maker.ensures.none
