-- A filter's syntax tree, without where it lies in memory.
use Rattle.std.specs.Prelude.{ℕ}
use Rattle.merge_filter.specs.declared.tree.Node.{Node}
use Rattle.merge_filter.specs.declared.tree.Node.TheVariants as nodes
use Rattle.merge_filter.specs.declared.tree.Operand.{Operand}
use Rattle.merge_filter.specs.declared.word.Sign.{Sign}

-- a comparison knows the place of its sign in the text
pub data Syntax : Type 0 where
  Or : (a b : Syntax) → Syntax
  And : (a b : Syntax) → Syntax
  Not : (a : Syntax) → Syntax
  Compare : (x : Operand) (s : Sign) (place : ℕ) (y : Operand) → Syntax
  IsNull : (column : ℕ) → Syntax
  IsNotNull : (column : ℕ) → Syntax

abbrev pub syntax : Node → Syntax
syntax (nodes.Or' p a q b) = Or (syntax a) (syntax b)
syntax (nodes.And' p a q b) = And (syntax a) (syntax b)
syntax (nodes.Not' p a) = Not (syntax a)
syntax (nodes.Compare x s n y) = Compare x s n y
syntax (nodes.IsNull c) = IsNull c
syntax (nodes.IsNotNull c) = IsNotNull c
