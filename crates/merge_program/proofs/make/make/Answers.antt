-- A summary is written, or there is none.
use Rattle.std.proofs.Common.{refl}
use Rattle.merge_program.proofs.Makes.{unmade-ends, written-by-slice}
use Rattle.merge_program.proofs.make.make.Goals as goal

pub returns-in-Ok-clause-ends : goal.returns-in-Ok-clause-ends
returns-in-Ok-clause-ends g c = written-by-slice _ _ _ _ _ _ _ _ c.as_slice.ensures c.in-Ok.ensures.summary c.in-Ok.ensures.empty _ c.write_text.ensures

pub returns-in-Err-clause-ends : goal.returns-in-Err-clause-ends
returns-in-Err-clause-ends g c = unmade-ends _ _ _ _ _ _ _ c.in-Err.ensures.unmade refl

pub returns-in-Ok-clause-others : goal.returns-in-Ok-clause-others
returns-in-Ok-clause-others g c = c.in-Ok.ensures.others

pub returns-in-Err-clause-others : goal.returns-in-Err-clause-others
returns-in-Err-clause-others g c = c.in-Err.ensures.others
