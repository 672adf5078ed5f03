use Rattle.merge_model.proofs.Script.ReadRows.{row_of_text-IsRowLiteral, IsRowLiteral-row_of_text}
use Rattle.merge_model.proofs.Script.ReadValues.{value_of_text-IsLiteral, IsLiteral-value_of_text}
use Rattle.merge_model.proofs.reading.literals_are_read_exactly.Goals as goal

pub returns-clause-values : goal.returns-clause-values
returns-clause-values c = λ text value. (value_of_text-IsLiteral text value, IsLiteral-value_of_text text value)

pub returns-clause-rows : goal.returns-clause-rows
returns-clause-rows c = λ text row. (row_of_text-IsRowLiteral text row, IsRowLiteral-row_of_text text row)
