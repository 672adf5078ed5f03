use Rattle.merge_typed.proofs.Always.{tables-are-typed}
use Rattle.merge_typed.proofs.typed.tables_are_typed.Goals as goal

pub returns : goal.returns
returns c publication rules typed says tallies slips events is = tables-are-typed publication rules typed says tallies slips events is
