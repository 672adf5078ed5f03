use Rattle.std.proofs.Common.{◌≡◌, ◌||◌, true, sym, ◌∙◌}
use Rattle.std.specs.List.{list_any}
use Rattle.std.specs.Map.{keys_of}
use Rattle.merge_part.proofs.Found.{is_row, wait_step, waits_on, or_end, or_right}
use Rattle.merge_part.proofs.waiting.wait_for.Goals as goal

pub loop-entry-init : goal.loop-entry-init
loop-entry-init c = record { kept = λ key h. h; added = λ row h. or_right _ (list_any (is_row row) (keys_of c.into_iter-entry-iterator.result)) (rw c.into_iter-entry-iterator.ensures.into_iter_gives h) }

pub loop-entry-preserved : goal.loop-entry-preserved
loop-entry-preserved c = record {
  kept = λ key h. rw c.in_ok-insert.ensures.rows (waits_on c.loop-entry.waiting.rows _ key (c.loop-entry.invariant.kept key h));
  added = λ row h. rw c.in_ok-insert.ensures.rows (wait_step c.args.article row c.loop-entry.waiting.rows c.in-Some.entry.now (keys_of c.next.new.self) (rw c.in-Some.ensures.steps at (c.loop-entry.invariant.added row h)));
}

pub returns-clause-ok : goal.returns-clause-ok
returns-clause-ok c = λ row h. sym (or_end _) ∙ (rw c.in-None.ensures.steps.0 at (c.loop-entry.invariant.added row h))
