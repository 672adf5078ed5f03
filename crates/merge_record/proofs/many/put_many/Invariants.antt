use Rattle.std.proofs.Common.{◌≡◌, ◌++◌, take, flat_map}
use Rattle.std.specs.List.{AllByRecursion}
use Rattle.merge_record.proofs.many.put_many.Given as goal

abbrev pub invariant-loop-member : goal.invariant-loop-member
invariant-loop-member g l = (l.out.items ≡ l.fn.out.items ++ flat_map g.T.Field.spelling (take l.member-index l.members)) × AllByRecursion g.T.Field.IsSpelled (take l.member-index l.members)
