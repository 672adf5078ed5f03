use Rattle.std.proofs.Common.{ap, length, ◌∙◌}
use Rattle.merge_part.specs.View.{Plan, live_after_plan}
use Rattle.merge_steps.proofs.Fitting.{step-fitting}
use Rattle.merge_steps.proofs.StepMade.{step-apart, step-indexed, step-indexing, step-live-held, step-made-held, step-mappings, step-moved, step-rows, took}
use Rattle.merge_steps.proofs.step.draft_step.Goals as goal

pub returns-clause-made : goal.returns-clause-made
returns-clause-made g c =
    let f = c.in_ok-found.ensures in
    let w = c.in_ok-worked.ensures in
    step-made-held _ c.requires.valid _ _ _ _ _ c.is_ordered.ensures.rows c.is_ordered-2.ensures.rows c.requires.subscribes _ c.requires.held _ (rw c.deref.ensures.value at f.moves) _ (rw c.deref.ensures.value at f.changed) _ _ (rw c.deref.ensures.value at f.entries) w.rows w.mappings w.gens

pub returns-clause-index : goal.returns-clause-index
returns-clause-index g c = step-indexed _ _ _ _ c.requires.once (took _ _ _) c.in_ok-worked.ensures.rows c.in_ok-worked.ensures.index

pub returns-clause-follows : goal.returns-clause-follows
returns-clause-follows g c = rw c.in_ok-worked.ensures.plan
    ((rw c.deref.ensures.value at c.in_ok-found.ensures.plan) ∙ step-live-held _ _ c.requires.held _ _ _ c.is_ordered.ensures.rows (took _ _ _) c.in_ok-worked.ensures.rows)

pub returns-clause-moved : goal.returns-clause-moved
returns-clause-moved g c =
    let f = c.in_ok-found.ensures in
    let w = c.in_ok-worked.ensures in
    step-moved _ _ _ _ _ c.is_ordered-2.ensures.rows _ (rw c.deref.ensures.value at f.moves) _ (rw c.deref.ensures.value at f.changed) _ (rw c.deref.ensures.value at f.entries) _ _ w.mappings w.moved

pub returns-clause-kept : goal.returns-clause-kept
returns-clause-kept g c = step-fitting _ _ _ _ _ c.in_ok-worked.ensures.rows

pub returns-clause-rows : goal.returns-clause-rows
returns-clause-rows g c = step-rows _ _ _ _ c.in_ok-worked.ensures.rows

pub returns-clause-indexing : goal.returns-clause-indexing
returns-clause-indexing g c = step-indexing c.args.gens.now.book.filling c.args.rows.now.rows c.args.versions.items (length c.in_ok-found.found.entries) _ c.in_ok-worked.ensures.index

pub returns-clause-mappings : goal.returns-clause-mappings
returns-clause-mappings g c =
    let f = c.in_ok-found.ensures in
    step-mappings _ _ _ _ _ _ _ (rw c.deref.ensures.value at f.moves) _ (rw c.deref.ensures.value at f.changed) _ (rw c.deref.ensures.value at f.entries) _ c.in_ok-worked.ensures.mappings

pub returns-clause-apart : goal.returns-clause-apart
returns-clause-apart g c =
    let f = c.in_ok-found.ensures in
    step-apart _ _ _ _ _ _ (rw c.deref.ensures.value at f.moves) _ (rw c.deref.ensures.value at f.changed) _ (rw c.deref.ensures.value at f.entries) _ _ c.in_ok-worked.ensures.mappings

pub returns-clause-moving : goal.returns-clause-moving
returns-clause-moving g c = c.in_ok-worked.ensures.moved
