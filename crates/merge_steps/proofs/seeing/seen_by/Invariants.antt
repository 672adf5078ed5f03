use Rattle.std.specs.List.{fold}
use Rattle.std.specs.Prelude.{◌≡◌, drop}
use Rattle.merge_steps.specs.Uploading.{seen_with}
use Rattle.merge_steps.proofs.seeing.seen_by.Given as goal

-- what is met of the items that are left, from here on, is what is met of all
abbrev pub invariant-loop-item : goal.invariant-loop-item
invariant-loop-item l = fold (seen_with l.arrival l.site) l.most (drop l.item-index l.items) ≡ fold (seen_with l.arrival l.site) l.seen l.items
