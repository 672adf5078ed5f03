use Rattle.std.proofs.Common.{rules}
use Rattle.std.proofs.lemmas.List.Sorted.{answers_always}
use Rattle.merge_ident.proofs.Sorts.{key_of, in_order-sorted, sorted-by_key, grants-permutation}
use Rattle.merge_ident.proofs.book.sort.Goals as goal

pub returns-clause-fit : goal.returns-clause-fit
returns-clause-fit c = grants-permutation _ _ c.sort_unstable_by_key.ensures.permutation c.requires

pub returns-clause-in_order : goal.returns-clause-in_order
returns-clause-in_order c =
    let fit = grants-permutation _ _ c.sort_unstable_by_key.ensures.permutation c.requires in
    in_order-sorted c.sort_unstable_by_key.new.self fit.disjoint fit.ranges fit.rising
    (sorted-by_key c.sort_unstable_by_key.new.self (c.sort_unstable_by_key.ensures.sorted key_of (answers_always _ _ _ (λ f a r f' called. search rules))))
