use Rattle.std.proofs.lemmas.Result.{err_from_is_err_and}
use Rattle.merge_site.proofs.Called.{message-stopped}
use Rattle.merge_site.proofs.subscriber_commit.finish_made.Goals as goal

pub returns-in_err-commit_and_settle-clause-called : goal.returns-in_err-commit_and_settle-clause-called
returns-in_err-commit_and_settle-clause-called g c by is =
    let p = err_from_is_err_and c.from_residual.result c.from_residual.ensures.1 in
    rw (p.1, p.2) (message-stopped by _ _ _ _ _ _ _ is c.in_err-commit_and_settle.ensures.why c.in_err-commit_and_settle.ensures.err)
