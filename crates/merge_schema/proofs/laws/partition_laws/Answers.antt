use Rattle.merge_schema.proofs.Partitions.{partition_least, partition_reasons, partition_meets, partition_only, in_by_partition}
use Rattle.merge_schema.proofs.JoinedValues.{null_has_no_parent, same_values_join}
use Rattle.merge_schema.proofs.laws.partition_laws.Goals as goal

pub returns-clause-meets_rule : goal.returns-clause-meets_rule
returns-clause-meets_rule c = λ publication order is host live. partition_meets publication host live order is

pub returns-clause-least : goal.returns-clause-least
returns-clause-least c = partition_least

pub returns-clause-reasons : goal.returns-clause-reasons
returns-clause-reasons c = partition_reasons

pub returns-clause-only : goal.returns-clause-only
returns-clause-only c = λ publication order is host live. partition_only publication host live order is

pub returns-clause-is_in : goal.returns-clause-is_in
returns-clause-is_in c = in_by_partition

pub returns-clause-null : goal.returns-clause-null
returns-clause-null c = null_has_no_parent

pub returns-clause-joined : goal.returns-clause-joined
returns-clause-joined c = same_values_join
