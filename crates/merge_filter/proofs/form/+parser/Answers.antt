use Rattle.std.proofs.Common.{◌∙◌, refl, ◌-◌, Ok}
use Rattle.std.proofs.lemmas.Result.{err_from_is_err_and}
use Rattle.merge_filter.specs.Syntax.{syntax, And, Or, Not}
use Rattle.merge_filter.specs.Form.{neg_at, conj_of, filter_of, behind_and, behind_or, behind_close, many, ◌>>=◌}
use Rattle.merge_filter.proofs.Loop.{more_goes, more_fails, more_stops, more_ends, fails_then, ok_is, at_not, at_open, not_too_deep, open_too_deep}
use Rattle.merge_filter.proofs.form.+parser.Goals as goal

pub conj-returns-in_err-right-in-Some : goal.conj-returns-in_err-right-in-Some
conj-returns-in_err-right-in-Some t c =
    let p = err_from_is_err_and c.from_residual-in_err-right-in-Some.result c.from_residual-in_err-right-in-Some.ensures.1 in
    rw (p.1, p.2) (more_fails c.in_err-right-in-Some.field-0.0 behind_and And (neg_at c.args.columns.now c.args.levels) many c.loop.counter (syntax c.loop.left) c.loop.rest.now c.in-Some.after.now (conj_of (neg_at c.args.columns.now c.args.levels) c.args.words.now) c.loop-test.true c.in-Some.ensures c.in_err-right-in-Some.ensures c.loop.invariant)

pub conj-returns-in-None : goal.conj-returns-in-None
conj-returns-in-None t c =
    more_stops behind_and And (neg_at c.args.columns.now c.args.levels) many c.loop.counter (syntax c.loop.left) c.loop.rest.now (conj_of (neg_at c.args.columns.now c.args.levels) c.args.words.now) c.in-None.ensures c.loop.invariant

pub conj-loop-preserved : goal.conj-loop-preserved
conj-loop-preserved t c =
    rw (← ok_is (And (syntax c.loop.left) (syntax c.in_ok-right-in-Some.right)) (syntax c.in_ok-left-in-Some.left) c.in_ok-left-in-Some.ensures) (more_goes behind_and And (neg_at c.args.columns.now c.args.levels) many c.loop.counter (syntax c.loop.left) c.loop.rest.now c.in-Some.after.now (syntax c.in_ok-right-in-Some.right) c.in_ok-right-in-Some.behind.now (conj_of (neg_at c.args.columns.now c.args.levels) c.args.words.now) c.loop-test.true c.in-Some.ensures c.in_ok-right-in-Some.ensures c.loop.invariant)

pub conj-returns : goal.conj-returns
conj-returns t c =
    more_ends behind_and And (neg_at c.args.columns.now c.args.levels) many c.loop.counter (syntax c.loop.left) c.loop.rest.now (conj_of (neg_at c.args.columns.now c.args.levels) c.args.words.now) c.loop-test.false c.loop.invariant

pub filter-returns-in_err-right-in-Some : goal.filter-returns-in_err-right-in-Some
filter-returns-in_err-right-in-Some t c =
    let p = err_from_is_err_and c.from_residual-in_err-right-in-Some.result c.from_residual-in_err-right-in-Some.ensures.1 in
    rw (p.1, p.2) (more_fails c.in_err-right-in-Some.field-0.0 behind_or Or (conj_of (neg_at c.args.columns.now c.args.levels)) many c.loop.counter (syntax c.loop.left) c.loop.rest.now c.in-Some.after.now (filter_of (neg_at c.args.columns.now c.args.levels) c.args.words.now) c.loop-test.true c.in-Some.ensures c.in_err-right-in-Some.ensures c.loop.invariant)

pub filter-returns-in-None : goal.filter-returns-in-None
filter-returns-in-None t c =
    more_stops behind_or Or (conj_of (neg_at c.args.columns.now c.args.levels)) many c.loop.counter (syntax c.loop.left) c.loop.rest.now (filter_of (neg_at c.args.columns.now c.args.levels) c.args.words.now) c.in-None.ensures c.loop.invariant

pub filter-loop-preserved : goal.filter-loop-preserved
filter-loop-preserved t c =
    rw (← ok_is (Or (syntax c.loop.left) (syntax c.in_ok-right-in-Some.right)) (syntax c.in_ok-left-in-Some.left) c.in_ok-left-in-Some.ensures) (more_goes behind_or Or (conj_of (neg_at c.args.columns.now c.args.levels)) many c.loop.counter (syntax c.loop.left) c.loop.rest.now c.in-Some.after.now (syntax c.in_ok-right-in-Some.right) c.in_ok-right-in-Some.behind.now (filter_of (neg_at c.args.columns.now c.args.levels) c.args.words.now) c.loop-test.true c.in-Some.ensures c.in_ok-right-in-Some.ensures c.loop.invariant)

pub filter-returns : goal.filter-returns
filter-returns t c =
    more_ends behind_or Or (conj_of (neg_at c.args.columns.now c.args.levels)) many c.loop.counter (syntax c.loop.left) c.loop.rest.now (filter_of (neg_at c.args.columns.now c.args.levels) c.args.words.now) c.loop-test.false c.loop.invariant

pub neg-returns-then-levels-eq0 : goal.neg-returns-then-levels-eq0
neg-returns-then-levels-eq0 t c = rw c.too_deep.ensures (not_too_deep c.args.columns.now c.args.levels c.args.words.now c.in-Some.after.now c.if-levels-eq0.true c.in-Some.ensures)

pub neg-returns-in_err-inner : goal.neg-returns-in_err-inner
neg-returns-in_err-inner t c =
    let p = err_from_is_err_and c.from_residual.result c.from_residual.ensures.1 in
    rw (p.1, p.2) (rw (at_not c.args.columns.now c.args.levels c.args.words.now c.in-Some.after.now c.if-levels-eq0.false c.in-Some.ensures) (fails_then c.in_err-inner.field-0.0 (neg_at c.args.columns.now (c.args.levels - 1) c.in-Some.after.now) (λ x. Ok (Not x.0, x.1)) c.in_err-inner.ensures))

pub neg-returns-in-Some : goal.neg-returns-in-Some
neg-returns-in-Some t c =
    at_not c.args.columns.now c.args.levels c.args.words.now c.in-Some.after.now c.if-levels-eq0.false c.in-Some.ensures ∙ rw c.in_ok-inner.ensures (rw c.in_ok-new.ensures.ok refl)

pub neg-returns-then-levels-eq0-2 : goal.neg-returns-then-levels-eq0-2
neg-returns-then-levels-eq0-2 t c = rw c.too_deep-then-levels-eq0-2.ensures (open_too_deep c.args.columns.now c.args.levels c.args.words.now c.in-Some-behind_open.after.now c.if-levels-eq0-2.true c.in_default.ensures c.in-Some-behind_open.ensures)

pub neg-returns-in_err-inner-2 : goal.neg-returns-in_err-inner-2
neg-returns-in_err-inner-2 t c =
    let p = err_from_is_err_and c.from_residual-in_err-inner-2.result c.from_residual-in_err-inner-2.ensures.1 in
    rw (p.1, p.2) (rw (at_open c.args.columns.now c.args.levels c.args.words.now c.in-Some-behind_open.after.now c.if-levels-eq0-2.false c.in_default.ensures c.in-Some-behind_open.ensures) (fails_then c.in_err-inner-2.field-0.0 (filter_of (neg_at c.args.columns.now (c.args.levels - 1)) c.in-Some-behind_open.after.now) (λ x. behind_close x.1 >>= λ rest. Ok (x.0, rest)) c.in_err-inner-2.ensures))

pub neg-returns-in_err-rest : goal.neg-returns-in_err-rest
neg-returns-in_err-rest t c =
    let p = err_from_is_err_and c.from_residual-in_err-rest.result c.from_residual-in_err-rest.ensures.1 in
    rw (p.1, p.2) (rw (at_open c.args.columns.now c.args.levels c.args.words.now c.in-Some-behind_open.after.now c.if-levels-eq0-2.false c.in_default.ensures c.in-Some-behind_open.ensures, c.in_ok-inner-2.ensures) (fails_then c.in_err-rest.field-0.0 (behind_close c.in_ok-inner-2.rest.now) (λ rest. Ok (syntax c.in_ok-inner-2.inner, rest)) c.in_err-rest.ensures))

pub neg-returns-in-Some-behind_open : goal.neg-returns-in-Some-behind_open
neg-returns-in-Some-behind_open t c =
    at_open c.args.columns.now c.args.levels c.args.words.now c.in-Some-behind_open.after.now c.if-levels-eq0-2.false c.in_default.ensures c.in-Some-behind_open.ensures ∙ rw (c.in_ok-inner-2.ensures, c.in_ok-rest.ensures) refl
