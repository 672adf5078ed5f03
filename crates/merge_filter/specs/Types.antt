-- The types of operands.
use Rattle.std.specs.Prelude.{ℕ, Bool, true, false, List, slice_get, Option, Some, None, option_map, if◌then◌else◌}
use Rattle.merge_types.specs.declared.values.ColumnType.{ColumnType}
use Rattle.merge_types.specs.declared.values.ColumnType.TheVariants as types
use Rattle.merge_types.specs.declared.values.Column.{Column}
use Rattle.merge_types.specs.declared.values.Value.{Value}
use Rattle.merge_types.specs.declared.values.Value.TheVariants as values
use Rattle.merge_filter.specs.declared.tree.Operand.{Operand}
use Rattle.merge_filter.specs.declared.tree.Operand.TheVariants as operands
use Rattle.merge_filter.specs.Syntax.{Syntax, Or, And, Not, Compare, IsNull, IsNotNull}

abbrev pub value_type : Value → Option ColumnType
value_type values.Null = None
value_type (values.Int z) = Some types.Int
value_type (values.Bit b) = Some types.Bit
value_type (values.Text t) = Some types.Text
value_type (values.Day z) = Some types.Day
value_type (values.Guid n) = Some types.Guid
value_type (values.Bytes bytes) = Some types.Bytes

abbrev pub column_type : List Column → ℕ → Option ColumnType
column_type columns place = option_map (λ column. column.ty) (slice_get columns place)

-- the name of the host is a text
abbrev pub operand_type : List Column → Operand → Option ColumnType
operand_type columns (operands.Column place) = column_type columns place
operand_type columns operands.Host = Some types.Text
operand_type columns (operands.Literal v) = value_type v

abbrev pub are_alike : Option ColumnType → Option ColumnType → Bool
are_alike (Some types.Int) (Some types.Int) = true
are_alike (Some types.Bit) (Some types.Bit) = true
are_alike (Some types.Text) (Some types.Text) = true
are_alike (Some types.Day) (Some types.Day) = true
are_alike (Some types.Guid) (Some types.Guid) = true
are_alike (Some types.Bytes) (Some types.Bytes) = true
are_alike a b = false

abbrev pub first_of_two : Option ℕ → Option ℕ → Option ℕ
first_of_two (Some place) o = Some place
first_of_two None o = o

-- the place of the first sign whose operands have unlike types
abbrev pub unlike_sign : List Column → Syntax → Option ℕ
unlike_sign columns (Or a b) = first_of_two (unlike_sign columns a) (unlike_sign columns b)
unlike_sign columns (And a b) = first_of_two (unlike_sign columns a) (unlike_sign columns b)
unlike_sign columns (Not a) = unlike_sign columns a
unlike_sign columns (Compare x s place y) = if are_alike (operand_type columns x) (operand_type columns y) then None else Some place
unlike_sign columns (IsNull c) = None
unlike_sign columns (IsNotNull c) = None
