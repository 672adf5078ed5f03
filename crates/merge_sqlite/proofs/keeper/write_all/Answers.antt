-- Each edit is written behind the others, and the commit comes last; or one of them is refused.
use Rattle.std.proofs.Common.{◌≡◌, ◌∙◌, ◌<◌, ◌≤◌, true, length, subst, inl, arith, rules, IfErr, IsTrue, OnOk}
use Rattle.std.proofs.lemmas.Grind.{common_steps}
use Rattle.std.proofs.lemmas.Result.{err_from_is_err_and}
use Rattle.sqlite.specs.Held.{state}
use Rattle.sqlite.specs.State.{HasCleanDisk, Survives}
use Rattle.sqlite.proofs.InsideLemmas.{keeps_then}
use Rattle.sqlite.proofs.StateLemmas.{survives_then}
use Rattle.merge_sqlite.specs.Writing.{Commits, FailsToWrite, MayLeave}
use Rattle.merge_sqlite.proofs.Steps.{committed, cut_off, refuses_next, uncommitted, was_clean, writes_next, writes_whole}
use Rattle.merge_sqlite.proofs.keeper.write_all.Goals as goal

pub loop-edit-preserved : goal.loop-edit-preserved
loop-edit-preserved g c =
    let begun = state g.S.Store (record c.args.conn.now { in_transaction = true }) in
    let old = state g.S.Store c.loop-edit.transaction.conn.now in
    let new = state g.S.Store c.write_edit.new.transaction.conn.now in
    let step = c.write_edit.ensures.survives in
    let within : c.loop-edit.edit-index < length c.args.edits.now = search rules in (
      c.write_edit.ensures.same_reference ∙ c.loop-edit.invariant.0,
      survives_then begun old new (λ _. ⊥) (λ _. ⊥) (λ _. ⊥) (λ _ db none. none) (λ _ db none. none) c.loop-edit.invariant.1 step,
      λ clean.
          let was = c.loop-edit.invariant.2 (omega (arith, step.clean)) in
          let wrote = c.in_ok-write_edit.ensures.written clean was.2 in (
            writes_next g.S.Store c.args.put.now.text c.args.take.now.text c.args.edits.now c.loop-edit.edit-index c.edit-item.result c.args.conn.now c.loop-edit.transaction.conn.now c.write_edit.new.transaction.conn.now within c.edit-item.is was.0 wrote,
            keeps_then begun old new was.1 (c.write_edit.ensures.kept clean was.2),
            wrote.1.1.mode,
          ),
    )

pub returns-clause-done : goal.returns-clause-done
returns-clause-done g c clean =
    let last = c.loop-edit.transaction.conn.now in
    let end = c.commit.new.self.0 in
    let same : end ≡ c.conn-2-1.given.0 = search rules in
    let late : HasCleanDisk (state g.S.Store end) = search rules in
    let passed : length c.args.edits.now ≤ c.loop-edit.edit-index = search rules in
    let was = c.loop-edit.invariant.2 (omega (arith, c.commit.ensures.survives.clean)) in
    let whole = writes_whole g.S.Store c.args.put.now.text c.args.take.now.text c.args.edits.now c.loop-edit.edit-index c.args.conn.now last passed was.0 in
    subst (λ h. OnOk c.commit.result (Commits g.S.Store c.args.put.now.text c.args.take.now.text c.args.edits.now c.args.conn.now h)) same
    (committed g.S.Store c.args.put.now.text c.args.take.now.text c.args.edits.now c.args.conn.now last end c.commit.result whole (c.commit.ensures.ok late))

pub returns-in_err-write_edit-clause-err : goal.returns-in_err-write_edit-clause-err
returns-in_err-write_edit-clause-err g c clean =
    let last = c.loop-edit.transaction.conn.now in
    let mid = c.write_edit.new.transaction.conn.now in
    let late : HasCleanDisk (state g.S.Store mid) = first_of (search (rules, was_clean (state g.S.Store mid)), grind (arith, common_steps)) in
    let within : c.loop-edit.edit-index < length c.args.edits.now = search rules in
    let was = c.loop-edit.invariant.2 (omega (arith, c.write_edit.ensures.survives.clean)) in
    let out = err_from_is_err_and c.from_residual.result c.from_residual.ensures.1 in
    rw (out.1, out.2)
    (inl (refuses_next g.S.Store c.args.put.now.text c.args.take.now.text c.args.edits.now c.loop-edit.edit-index c.edit-item.result c.args.conn.now last mid c.in_err-write_edit.field-0.0 within c.edit-item.is was.0 (c.in_err-write_edit.ensures.refused late was.2)))

pub returns-clause-err : goal.returns-clause-err
returns-clause-err g c clean =
    let last = c.loop-edit.transaction.conn.now in
    let end = c.commit.new.self.0 in
    let same : end ≡ c.conn-2-1.given.0 = search rules in
    let late : HasCleanDisk (state g.S.Store end) = search rules in
    let passed : length c.args.edits.now ≤ c.loop-edit.edit-index = search rules in
    let was = c.loop-edit.invariant.2 (omega (arith, c.commit.ensures.survives.clean)) in
    let whole = writes_whole g.S.Store c.args.put.now.text c.args.take.now.text c.args.edits.now c.loop-edit.edit-index c.args.conn.now last passed was.0 in
    subst (λ h. IfErr c.commit.result (FailsToWrite g.S.Store c.args.put.now.text c.args.take.now.text c.args.edits.now c.args.conn.now h)) same
    (uncommitted g.S.Store c.args.put.now.text c.args.take.now.text c.args.edits.now c.args.conn.now last end c.commit.result whole (c.commit.ensures.err late))

pub returns-clause-crash : goal.returns-clause-crash
returns-clause-crash g c =
    let last = c.loop-edit.transaction.conn.now in
    let end = c.commit.new.self.0 in
    let same : end ≡ c.conn-2-1.given.0 = search rules in
    let passed : length c.args.edits.now ≤ c.loop-edit.edit-index = search rules in
    let may = MayLeave g.S.Store c.args.put.now.text c.args.take.now.text c.args.edits.now c.args.conn.now in
    let all = λ (late : HasCleanDisk (state g.S.Store end)).
    let was = c.loop-edit.invariant.2 (omega (arith, c.commit.ensures.survives.clean)) in
    writes_whole g.S.Store c.args.put.now.text c.args.take.now.text c.args.edits.now c.loop-edit.edit-index c.args.conn.now last passed was.0 in
    subst (λ h. Survives (state g.S.Store c.args.conn.now) (state g.S.Store h) may) same
    (cut_off g.S.Store c.args.conn.now last (state g.S.Store end) may (λ trees. trees ≡ (state g.S.Store last).now.trees) (λ late trees is. (last, all late, is)) c.loop-edit.invariant.1 c.commit.ensures.survives)
