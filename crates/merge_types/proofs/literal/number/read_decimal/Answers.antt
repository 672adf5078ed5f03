-- A decimal is a text.
use Rattle.std.proofs.lemmas.Fmt.{IsAscii-decimal}
use Rattle.merge_types.proofs.Texts.{IsUtf8-same_ascii}
use Rattle.merge_types.proofs.literal.number.read_decimal.Goals as goal

pub returns-in-Err-clause-none : goal.returns-in-Err-clause-none
returns-in-Err-clause-none c = λ n fits e. c.in-Err.ensures.cases.0 (IsUtf8-same_ascii e (IsAscii-decimal n fits))
