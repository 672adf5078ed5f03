use Rattle.std.proofs.Common.{◌≡◌, ◌∙◌, false, sym, true}
use Rattle.std.proofs.lemmas.Result.{err_from_is_err_and}
use Rattle.merge_sub.specs.Drafts.{after}
use Rattle.merge_sub.specs.Held.{tables_of}
use Rattle.merge_sub.specs.declared.changes.Draft.{Draft}
use Rattle.merge_site.proofs.Called.{stopped}
use Rattle.merge_site.proofs.subscriber_commit.finish.Goals as goal

pub returns-in_err-commit_and_settle-clause-called : goal.returns-in_err-commit_and_settle-clause-called
returns-in_err-commit_and_settle-clause-called g c by of out makes =
    let p = err_from_is_err_and c.from_residual-in_err-commit_and_settle.result c.from_residual-in_err-commit_and_settle.ensures.1 in
    rw (p.1, p.2)
    (stopped (λ (draft : Draft). after draft.changes (tables_of c.args.subscriber.now)) by of c.args.commits c.args.worked c.in_ok-draft.draft c.in_ok-draft.answer (tables_of c.args.subscriber.now) (tables_of c.commit_and_settle.new.subscriber) (g.K.Keeper.count c.args.keeper.now) (g.K.Keeper.count c.commit_and_settle.new.keeper) _ out.done makes c.in_ok-draft.was c.if-commits.true c.in_err-commit_and_settle.ensures.why c.in_err-commit_and_settle.ensures.err)

pub returns-in_err-commit_and_settle-clause-nothing : goal.returns-in_err-commit_and_settle-clause-nothing
returns-in_err-commit_and_settle-clause-nothing g c = λ quiet why was. let no : true ≡ false = sym c.if-commits.true ∙ quiet in absurd cc
