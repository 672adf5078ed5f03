use Rattle.std.proofs.Common.{◌≡◌, Ok, Err, Option, Result, List, ℕ}
use Rattle.std.specs.Prelude.{IfNone, IfOk, IfSome}
use Rattle.merge_types.specs.Literal.{IsLiteral}
use Rattle.merge_types.specs.declared.fault.NoMemory.{NoMemory}
use Rattle.merge_types.specs.declared.values.Value.{Value}
use Rattle.merge_model.proofs.Script.ReadValues.{value_read-is}
use Rattle.merge_model.specs.Script.Literals.{value_of_text}
use Rattle.merge_reading.proofs.word.value.Goals as goal

read_is : (text : List ℕ) (r : Result (Option Value) NoMemory) → IfOk r (λ read. IfSome read (IsLiteral text)) → IfOk r (λ read. IfNone read ((value : Value) → IsLiteral text value → ⊥)) → IfOk r (λ value. value ≡ value_of_text text)
read_is text (Ok read) some none = value_read-is text read some none
read_is text (Err fault) some none = tt

pub returns : goal.returns
returns c = read_is _ c.read.result c.read.ensures.some c.read.ensures.none
