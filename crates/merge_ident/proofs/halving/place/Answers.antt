use Rattle.std.proofs.Common.{rules}
use Rattle.std.proofs.lemmas.List.Sorted.{IsPartitionPoint-from_clause}
use Rattle.merge_ident.proofs.Places.{is_up_to, partitioned-in_order, insert-at_point}
use Rattle.merge_ident.proofs.halving.place.Goals as goal

pub returns-clause-point : goal.returns-clause-point
returns-clause-point c = IsPartitionPoint-from_clause (is_up_to c.args.article) c.args.grants.now c.partition_point.result c.partition_point.ensures.partitioned (partitioned-in_order c.args.article c.args.grants.now c.requires) (λ a r f called. search rules)

pub returns-clause-place : goal.returns-clause-place
returns-clause-place c = λ new same.
    insert-at_point c.args.grants.now c.partition_point.result new c.partition_point.ensures.bound
    (rw same (IsPartitionPoint-from_clause (is_up_to c.args.article) c.args.grants.now c.partition_point.result c.partition_point.ensures.partitioned (partitioned-in_order c.args.article c.args.grants.now c.requires) (λ a r f called. search rules)))
