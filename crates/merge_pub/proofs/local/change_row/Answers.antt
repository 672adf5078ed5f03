-- A change is refused by the rows, where its identity value is drawn, or for want of memory where both let it pass.
use Rattle.std.specs.Prelude.{refl}
use Rattle.std.proofs.Common.{inl, inr}
use Rattle.std.proofs.lemmas.Result.{err_from_is_err_and}
use Rattle.merge_steps.specs.Drawing.{drawn_by}
use Rattle.merge_pub.proofs.local.change_row.Goals as goal

pub returns-in_err-check_rows-clause-refused : goal.returns-in_err-check_rows-clause-refused
returns-in_err-check_rows-clause-refused c =
    let p = err_from_is_err_and c.from_residual.result c.from_residual.ensures.1 in
    rw (p.1, p.2) (inl c.in_err-check_rows.ensures.err)

pub returns-in_err-drawn-clause-refused : goal.returns-in_err-drawn-clause-refused
returns-in_err-drawn-clause-refused c =
    let p = err_from_is_err_and c.from_residual-in_err-drawn.result c.from_residual-in_err-drawn.ensures.1 in
    rw (p.1, p.2) (inr (c.in_ok-check_rows.ensures.ok, c.in_err-drawn.ensures.drawn))

pub returns-in_err-versions-clause-refused : goal.returns-in_err-versions-clause-refused
returns-in_err-versions-clause-refused c =
    let p = err_from_is_err_and c.from_residual-in_err-versions.result c.from_residual-in_err-versions.ensures.1 in
    rw (p.1, p.2) (inr (c.in_ok-check_rows.ensures.ok, inl (drawn_by c.args.book.now.grants c.args.held.now.rows c.in_ok-drawn.drawn, refl, c.in_ok-drawn.ensures.drawn)))
