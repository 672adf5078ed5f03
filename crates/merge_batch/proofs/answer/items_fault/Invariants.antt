use Rattle.std.proofs.Common.{◌≡◌, ◌+◌, drop}
use Rattle.std.specs.Option.{option_copied}
use Rattle.merge_batch.specs.Search.{broken_from, broken_by_items}
use Rattle.merge_batch.specs.Replies.{item_rules}
use Rattle.merge_batch.proofs.answer.items_fault.Given as goal

-- the first of all items that does not fit is the first of those that are left
abbrev pub invariant-loop-at : goal.invariant-loop-at
invariant-loop-at l =
    let rules = item_rules l.publication l.own in
    broken_from rules (l.at + 1) (option_copied l.before) (drop l.at l.items) ≡ broken_by_items rules l.items
