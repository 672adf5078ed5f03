use Rattle.std.proofs.Common.{◌≡◌, set, subst, sym, arith}
use Rattle.std.proofs.lemmas.List.{get_or_default}
use Rattle.merge_lineage.specs.Lineage.{no_dot, IsAscending, with_dot}
use Rattle.merge_lineage.proofs.Rising.{ascending_with_dot}
use Rattle.merge_lineage.proofs.Numbers.{joins_with_dot}
use Rattle.merge_lineage.proofs.Place.{with_dot-at_place, with_dot-in_gap}
use Rattle.merge_lineage.proofs.lineage.Lineage.raise.Goals as goal
use Rattle.merge_lineage.proofs.lineage.Lineage.raise.Goals.{After-self-1, In_ok-insert-in-Err}

ascending_before : (c : After-self-1) → IsAscending c.args.self.now
ascending_before c = subst IsAscending c.self.view_is c.self.invariant

-- the site is there, and its number becomes the greater one
raised_there : (c : After-self-1) → set c.self.inside.dots.items c.in-Ok.at (record { site = c.index_mut-here.result.now.site; number = c.max-here.result }) ≡ with_dot c.args.dot c.args.self.now
raised_there c =
    let read = get_or_default _ _ c.index_mut-here.result.now no_dot c.in-Ok.ensures.found.in_range in
    rw c.self.view_is (with_dot-at_place _ (ascending_before c) c.args.dot _ c.in-Ok.ensures.found _ (grind (arith, c.self.view_is, c.in-Ok.ensures.found.has_site)) (grind (arith, c.self.view_is)))

pub returns-in-Ok-clause-numbers : goal.returns-in-Ok-clause-numbers
returns-in-Ok-clause-numbers c = joins_with_dot _ _ (ascending_before c) c.args.dot (raised_there c)

pub returns-in-Ok-clause-value : goal.returns-in-Ok-clause-value
returns-in-Ok-clause-value c = raised_there c

-- the dot is added in the gap
raised_in_gap : (c : In_ok-insert-in-Err) → c.insert.new.self.items ≡ with_dot c.args.dot c.args.self.now
raised_in_gap c = rw (c.in_ok-insert-in-Err.ensures.items, c.self.view_is) (with_dot-in_gap _ c.args.dot _ c.in-Err.ensures.absent)

pub invariant_of-self-in-Err : goal.invariant_of-self-in-Err
invariant_of-self-in-Err c = subst IsAscending (sym (raised_in_gap c)) (ascending_with_dot _ (subst IsAscending c.self.view_is c.self.invariant) c.args.dot)

pub returns-in_ok-insert-in-Err-clause-numbers : goal.returns-in_ok-insert-in-Err-clause-numbers
returns-in_ok-insert-in-Err-clause-numbers c = joins_with_dot _ _ (subst IsAscending c.self.view_is c.self.invariant) c.args.dot (raised_in_gap c)

pub returns-in_ok-insert-in-Err-clause-value : goal.returns-in_ok-insert-in-Err-clause-value
returns-in_ok-insert-in-Err-clause-value c = raised_in_gap c
