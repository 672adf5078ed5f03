use Rattle.std.proofs.Common.{ap, sym, ◌∙◌, Err}
use Rattle.merge_schema.proofs.Arrays.{tables_read, tables_unlike}
use Rattle.merge_schema.proofs.file_values.tables_from.Goals as goal

pub returns-then-are_tables-clause-tables : goal.returns-then-are_tables-clause-tables
returns-then-are_tables-clause-tables c = tables_read _ _ _ _ c.in-Some.values.now c.in-Some.ensures c.if-values-least.false c.if-values-most.false c.if-are_tables.ensures

pub returns-else-are_tables-clause-tables : goal.returns-else-are_tables-clause-tables
returns-else-are_tables-clause-tables c =
    λ other. tables_unlike _ _ _ _ c.in-Some.values.now c.in-Some.ensures c.if-values-least.false c.if-values-most.false c.if-are_tables.ensures ∙ ap Err (sym (c.bad_value-else-are_tables.ensures other))
