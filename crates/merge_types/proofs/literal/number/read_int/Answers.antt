-- A decimal is a text.
use Rattle.std.proofs.Common.{rules}
use Rattle.std.proofs.lemmas.Fmt.{IsAscii-signed}
use Rattle.merge_types.proofs.Texts.{IsUtf8-same_ascii}
use Rattle.merge_types.proofs.literal.number.read_int.Goals as goal

pub returns-in-Err-clause-none : goal.returns-in-Err-clause-none
returns-in-Err-clause-none c = λ z fits e. c.in-Err.ensures.cases.0 (IsUtf8-same_ascii e (IsAscii-signed z (search rules)))
