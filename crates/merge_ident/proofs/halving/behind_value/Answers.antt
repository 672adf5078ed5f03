use Rattle.std.proofs.Common.{rules}
use Rattle.std.proofs.lemmas.List.Sorted.{IsPartitionPoint-from_clause}
use Rattle.merge_ident.specs.Lasts.{starts_by}
use Rattle.merge_ident.proofs.Lasts.{partitioned-by_start}
use Rattle.merge_ident.proofs.halving.behind_value.Goals as goal

pub returns-clause-point : goal.returns-clause-point
returns-clause-point c =
    IsPartitionPoint-from_clause (starts_by c.args.article c.args.value) c.args.grants.now c.partition_point.result c.partition_point.ensures.partitioned (partitioned-by_start c.args.article c.args.value c.args.grants.now c.requires.order c.requires.granted) (λ a r f called. search rules)
