use Rattle.std.proofs.Common.{arith}
use Rattle.std.proofs.lemmas.Grind.{common_steps}
use Rattle.merge_command.proofs.SoFar.{silent-here, so-far-at-start, so-far-cut, so-far-done, so-far-halted, so-far-halts, so-far-more, so-far-ordered, so-far-stops}
use Rattle.merge_command.proofs.lines.change_lines.Goals as goal

pub loop-rest-init : goal.loop-rest-init
loop-rest-init g c = record { so_far = so-far-at-start _ _ _ _ _; counted = omega arith; writes = omega arith }

pub change_line-requires : goal.change_line-requires
change_line-requires g c = so-far-ordered _ _ _ _ _ _ _ _ _ _ c.loop-rest.invariant.so_far c.requires.ordered

pub loop-rest-preserved : goal.loop-rest-preserved
loop-rest-preserved g c = let i = c.loop-rest.invariant in let ok = c.in_ok-change_line.ensures in let less = c.cut_line.ensures.less in record {
  so_far = so-far-more _ _ _ _ _ _ _ _ _ _ _ _ _ _ (rw c.cut_line.ensures.line at i.so_far) ok.ok;
  counted = let counted = i.counted in omega (arith, counted, less);
  writes = let writes = i.writes in let on = ok.writes in omega (arith, writes, on);
}

pub returns-in_err-change_line-clause-part : goal.returns-in_err-change_line-clause-part
returns-in_err-change_line-clause-part g c = so-far-cut _ _ _ _ _ _ _ _ _ _ _ _ _ _ (rw c.cut_line.ensures.line at c.loop-rest.invariant.so_far) c.in_err-change_line.ensures.part

pub returns-clause-part : goal.returns-clause-part
returns-clause-part g c = so-far-stops _ _ _ _ _ _ _ _ _ _ _ _ _ c.loop-rest.invariant.so_far (silent-here _ _ _)

pub returns-in_err-change_line-clause-before : goal.returns-in_err-change_line-clause-before
returns-in_err-change_line-clause-before g c = λ why is halts.
    let said = c.in_err-change_line.ensures.halted why (grind (arith, common_steps, is, c.from_residual.ensures)) halts in
    so-far-halted _ _ _ _ _ _ _ _ _ _ _ _ _ _ why said (rw c.cut_line.ensures.line at c.loop-rest.invariant.so_far) c.in_err-change_line.ensures.part

pub returns-in_err-change_line-clause-halted : goal.returns-in_err-change_line-clause-halted
returns-in_err-change_line-clause-halted g c = λ why is halts.
    let said = c.in_err-change_line.ensures.halted why (grind (arith, common_steps, is, c.from_residual.ensures)) halts in
    so-far-halts _ _ _ _ _ _ _ _ _ _ _ why said (rw c.cut_line.ensures.line at c.loop-rest.invariant.so_far)

pub returns-clause-done : goal.returns-clause-done
returns-clause-done g c = so-far-done _ _ c.loop-rest.rest.now (grind (arith, common_steps, c.is_empty.ensures, c.loop-rest-test.false)) _ _ _ _ _ _ _ c.loop-rest.invariant.so_far
