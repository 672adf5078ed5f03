use Rattle.merge_script.proofs.Decimals.{decimal_of-decimal, decimal-decimal_of}
use Rattle.merge_script.proofs.names.decimals_are_read_as_printed.Goals as goal

pub returns-clause-read : goal.returns-clause-read
returns-clause-read c = decimal_of-decimal

pub returns-clause-printed : goal.returns-clause-printed
returns-clause-printed c = decimal-decimal_of
