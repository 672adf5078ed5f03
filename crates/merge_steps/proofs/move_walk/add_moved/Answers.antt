use Rattle.std.specs.Prelude.{◌≡◌, Bool, true, false, not, refl}
use Rattle.std.specs.Map.{keys_of}
use Rattle.std.proofs.Common.{◌∙◌}
use Rattle.merge_steps.proofs.MoveWalks.{walk-start, walk-step, walk-stop}
use Rattle.merge_steps.proofs.move_walk.add_moved.Goals as goal

is-false : (b : Bool) → true ≡ not b → b ≡ false
is-false true e = absurd cc
is-false false e = refl

is-true : (b : Bool) → false ≡ not b → b ≡ true
is-true true e = refl
is-true false e = absurd cc

pub loop-entry-init : goal.loop-entry-init
loop-entry-init c = walk-start c.args.site c.args.first c.args.to c.args.moved.now.rows _ _ c.range-entry-items.ensures.ordered (c.into_iter-entry-iterator.ensures.into_iter_gives ∙ c.range-entry-items.ensures.between tt)

pub returns-then-is_past : goal.returns-then-is_past
returns-then-is_past c = walk-stop _ _ _ _ _ _ c.in-Some.entry.now (keys_of c.next.new.self) (is-false _ c.if-is_past.ensures) (rw c.in-Some.ensures.steps at c.loop-entry.invariant)

pub loop-entry-preserved : goal.loop-entry-preserved
loop-entry-preserved c =
    rw c.in_ok-push.ensures.items (walk-step _ _ _ _ _ _ c.in-Some.entry.now (keys_of c.next.new.self) (is-true _ c.if-is_past.ensures) (rw c.in-Some.ensures.steps at c.loop-entry.invariant))
