use Rattle.std.proofs.lemmas.List.Filters.{dedup_is}
use Rattle.merge_gens.proofs.RowLists.{ascending_distinct, same_distinct}
use Rattle.merge_gens.proofs.index.sort_rows.Goals as goal

pub returns-clause-ascending : goal.returns-clause-ascending
returns-clause-ascending c = rw (dedup_is _ _ _ c.dedup.ensures.filtered) (ascending_distinct _ c.sort_unstable.ensures.sorted)

pub returns-clause-same : goal.returns-clause-same
returns-clause-same c = rw (dedup_is _ _ _ c.dedup.ensures.filtered) (same_distinct _ _ c.sort_unstable.ensures.permutation)
