-- What a filter says of a row.
use Rattle.std.specs.Prelude.{ℕ, suc, max, List, slice_index_or, Option, Some, None, Bool, true, false, not, if◌then◌else◌}
use Rattle.std.specs.declared.cmp.Ordering.{Ordering}
use Rattle.std.specs.Ordering.{int_cmp, nat_cmp, bool_cmp, is_eq, is_ne, is_lt, is_le, is_gt, is_ge}
use Rattle.std.specs.Cmp.Lexicographic.{slice_cmp}
use Rattle.merge_types.specs.declared.values.Value.{Value}
use Rattle.merge_types.specs.declared.values.Value.TheVariants as values
use Rattle.merge_types.specs.declared.identifiers.HostName.{HostName}
use Rattle.merge_filter.specs.declared.datum.Datum.{Datum}
use Rattle.merge_filter.specs.declared.datum.Datum.TheVariants as data_of
use Rattle.merge_filter.specs.declared.evaluation.Truth.{Truth}
use Rattle.merge_filter.specs.declared.evaluation.Truth.TheVariants.{True, False, Unknown}
use Rattle.merge_filter.specs.declared.tree.Operand.{Operand}
use Rattle.merge_filter.specs.declared.tree.Operand.TheVariants as operands
use Rattle.merge_filter.specs.declared.word.Sign.{Sign}
use Rattle.merge_filter.specs.declared.word.Sign.TheVariants.{Equal, Unequal, Less, AtMost, Greater, AtLeast}
use Rattle.merge_filter.specs.Syntax.{Syntax, Or, And, Not, Compare, IsNull, IsNotNull}

-- the value that was borrowed
abbrev pub value_seen : Datum → Value
value_seen data_of.Null = values.Null
value_seen (data_of.Int z) = values.Int z
value_seen (data_of.Bit b) = values.Bit b
value_seen (data_of.Text bytes) = values.Text bytes.now
value_seen (data_of.Day z) = values.Day z
value_seen (data_of.Guid n) = values.Guid n
value_seen (data_of.Bytes bytes) = values.Bytes bytes.now

-- how many values a row must have for the operand's column to be among them, and for all of a tree's
abbrev pub operand_width : Operand → ℕ
operand_width (operands.Column c) = suc c
operand_width operands.Host = 0
operand_width (operands.Literal v) = 0

abbrev pub width : Syntax → ℕ
width (Or a b) = max (width a) (width b)
width (And a b) = max (width a) (width b)
width (Not a) = width a
width (Compare x s p y) = max (operand_width x) (operand_width y)
width (IsNull c) = suc c
width (IsNotNull c) = suc c

-- the value of an operand; the name of the host is a text
abbrev pub value_of : Operand → List Value → HostName → Value
value_of (operands.Column c) row host = slice_index_or row c values.Null
value_of operands.Host row host = values.Text host.0
value_of (operands.Literal v) row host = v

-- how two values of one type stand to each other; Null stands in no order
abbrev pub order_of : Value → Value → Option Ordering
order_of (values.Int a) (values.Int b) = Some (int_cmp a b)
order_of (values.Bit a) (values.Bit b) = Some (bool_cmp a b)
order_of (values.Text a) (values.Text b) = Some (slice_cmp nat_cmp a b)
order_of (values.Day a) (values.Day b) = Some (int_cmp a b)
order_of (values.Guid a) (values.Guid b) = Some (nat_cmp a b)
order_of (values.Bytes a) (values.Bytes b) = Some (slice_cmp nat_cmp a b)
order_of a b = None

abbrev pub holds : Sign → Ordering → Bool
holds Equal o = is_eq o
holds Unequal o = is_ne o
holds Less o = is_lt o
holds AtMost o = is_le o
holds Greater o = is_gt o
holds AtLeast o = is_ge o

abbrev pub truth_of : Bool → Truth
truth_of b = if b then True else False

abbrev pub truth_at : Sign → Option Ordering → Truth
truth_at s (Some o) = truth_of (holds s o)
truth_at s None = Unknown

abbrev pub truth_of_comparison : Value → Sign → Value → Truth
truth_of_comparison a s b = truth_at s (order_of a b)

abbrev pub is_null : Value → Bool
is_null values.Null = true
is_null v = false

abbrev pub not_of : Truth → Truth
not_of True = False
not_of False = True
not_of Unknown = Unknown

abbrev pub and_of : Truth → Truth → Truth
and_of False b = False
and_of a False = False
and_of True b = b
and_of Unknown b = Unknown

abbrev pub or_of : Truth → Truth → Truth
or_of True b = True
or_of a True = True
or_of False b = b
or_of Unknown b = Unknown

-- three-valued truth
abbrev pub truth : Syntax → List Value → HostName → Truth
truth (Or a b) row host = or_of (truth a row host) (truth b row host)
truth (And a b) row host = and_of (truth a row host) (truth b row host)
truth (Not a) row host = not_of (truth a row host)
truth (Compare x s p y) row host = truth_of_comparison (value_of x row host) s (value_of y row host)
truth (IsNull c) row host = truth_of (is_null (slice_index_or row c values.Null))
truth (IsNotNull c) row host = truth_of (not (is_null (slice_index_or row c values.Null)))
