-- A decimal is read exactly where a number prints as it.
use Rattle.std.proofs.Common.{rules}
use Rattle.merge_script.proofs.Decimals.{read_is}
use Rattle.merge_script.proofs.names.read_decimal.Goals as goal

pub returns : goal.returns
returns c = read_is c.args.word.now c.read_decimal.result (search rules) c.read_decimal.ensures.some c.read_decimal.ensures.none
