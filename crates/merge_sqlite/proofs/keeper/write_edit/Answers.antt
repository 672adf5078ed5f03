-- What was refused is the statement for the edit.
use Rattle.std.proofs.Common.{Err, arith, rules}
use Rattle.std.proofs.lemmas.Grind.{common_steps}
use Rattle.merge_sqlite.proofs.Steps.{passed_up, ran_as}
use Rattle.merge_sqlite.proofs.keeper.write_edit.Goals as goal

pub returns-in_err-execute_prepared-in-Some-clause-refused : goal.returns-in_err-execute_prepared-in-Some-clause-refused
returns-in_err-execute_prepared-in-Some-clause-refused g c clean inside =
    let e = c.in_err-execute_prepared-in-Some.field-0.0 in
    passed_up c.from_residual.result e _ c.from_residual.ensures.1
    (ran_as g.S.Store c.args.put.now.text c.args.take.now.text c.args.edit.now c.args.transaction.now.conn.now c.execute_prepared.new.self.conn.now (Err e) _ _ (c.in_err-execute_prepared-in-Some.ensures.runs clean inside)
    (first_of (search rules, grind (arith, common_steps))) (first_of (search rules, grind (arith, common_steps))))

pub returns-in_err-execute_prepared-in-None-clause-refused : goal.returns-in_err-execute_prepared-in-None-clause-refused
returns-in_err-execute_prepared-in-None-clause-refused g c clean inside =
    let e = c.in_err-execute_prepared-in-None.field-0.0 in
    passed_up c.from_residual-in_err-execute_prepared-in-None.result e _ c.from_residual-in_err-execute_prepared-in-None.ensures.1
    (ran_as g.S.Store c.args.put.now.text c.args.take.now.text c.args.edit.now c.args.transaction.now.conn.now c.execute_prepared-in-None.new.self.conn.now (Err e) _ _ (c.in_err-execute_prepared-in-None.ensures.runs clean inside)
    (first_of (search rules, grind (arith, common_steps))) (first_of (search rules, grind (arith, common_steps))))
