use Rattle.std.proofs.Common.{ap, ◌∙◌}
use Rattle.std.specs.Map.{keys_of}
use Rattle.merge_join.proofs.Blocks.{keys-between, forward}
use Rattle.merge_join.proofs.index.JoinIndex.children_of.Goals as goal

pub range-requires : goal.range-requires
range-requires c = rw (c.in_ok-first.ensures, c.in_ok-behind.ensures) (forward c.args.join c.args.value.now)

pub returns : goal.returns
returns c =
    rw (← c.self.view_is) (ap keys_of (rw (c.in_ok-first.ensures, c.in_ok-behind.ensures) at c.range.ensures.between tt) ∙ keys-between c.args.join c.args.value.now c.self.inside.entries.rows)
