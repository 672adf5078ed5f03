-- Why an input was not read.
use Rattle.std.proofs.Common.{Err, ap}
use Rattle.merge_program.proofs.Readings.{counted-by, unread-so}
use Rattle.merge_program.proofs.files.read_input.Goals as goal

pub returns-in-Err-clause-unread : goal.returns-in-Err-clause-unread
returns-in-Err-clause-unread g c = unread-so _ _ _ _ _ c.unread.ensures (λ is. c.in-Err.ensures.long (ap (λ f. Err f) is)) (λ is. c.in-Err.ensures.failed (ap (λ f. Err f) is))

pub returns-in-Ok-clause-counted : goal.returns-in-Ok-clause-counted
returns-in-Ok-clause-counted g c = λ other. c.in-Ok.ensures.kept

pub returns-in-Err-clause-counted : goal.returns-in-Err-clause-counted
returns-in-Err-clause-counted g c = λ other. counted-by _ _ c.unread.ensures _ (λ none. c.in-Err.ensures.counted (λ is. none (cc is))) (λ is. other (ap (λ e. Err e) is))
