use Rattle.std.proofs.Common.{◌≡◌, true, ap, inr, arith, rules, IsTrue}
use Rattle.std.proofs.lemmas.Grind.{common_steps}
use Rattle.merge_sqlite.specs.Causes.{fault_of}
use Rattle.merge_sqlite.proofs.Committing.{has_committed, not_committed, within_one}
use Rattle.merge_sqlite.proofs.keeper.SqliteKeeperKeeper.commit.Goals as goal

pub returns-then-not-is_autocommit-clause-committed : goal.returns-then-not-is_autocommit-clause-committed
returns-then-not-is_autocommit-clause-committed g c =
    let old = c.args.self.now in
    let within : IsTrue old.conn.in_transaction = first_of (search rules, grind (arith, common_steps)) in
    within_one g.S.Store old.put.text old.take.text c.args.edits.now old.conn c.noted.result c.noted.ensures.fault within

pub returns-in-Ok-clause-committed : goal.returns-in-Ok-clause-committed
returns-in-Ok-clause-committed g c =
    let old = c.args.self.now in
    has_committed g.S.Store old.put.text old.take.text c.args.edits.now old.conn c.write_all.new.conn _ c.in-Ok.ensures.done c.write_all.ensures.idle c.write_all.ensures.crash

pub returns-in-Err-clause-committed : goal.returns-in-Err-clause-committed
returns-in-Err-clause-committed g c =
    let old = c.args.self.now in
    not_committed g.S.Store old.put.text old.take.text c.args.edits.now old.conn c.write_all.new.conn (fault_of c.into.result) c.noted-in-Err.result c.noted-in-Err.ensures.fault
    (λ clean. inr (c.in-Err.error, ap fault_of c.into.ensures, c.in-Err.ensures.err clean)) c.in-Err.ensures.undone (λ _. c.write_all.ensures.idle) c.write_all.ensures.crash
