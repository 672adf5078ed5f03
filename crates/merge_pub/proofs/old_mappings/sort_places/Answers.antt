use Rattle.std.proofs.lemmas.List.Filters.{dedup_is}
use Rattle.merge_pub.proofs.SortedPlaces.{ascending-places, same-places}
use Rattle.merge_pub.proofs.old_mappings.sort_places.Goals as goal

pub returns-clause-ascending : goal.returns-clause-ascending
returns-clause-ascending c = rw (dedup_is _ _ _ c.dedup.ensures.filtered) (ascending-places _ c.sort_unstable.ensures.sorted)

pub returns-clause-same : goal.returns-clause-same
returns-clause-same c = rw (dedup_is _ _ _ c.dedup.ensures.filtered) (same-places _ _ c.sort_unstable.ensures.permutation)
