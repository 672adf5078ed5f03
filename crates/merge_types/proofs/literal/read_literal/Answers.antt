-- A text that no reader takes is the literal of no value.
use Rattle.std.proofs.Common.{◌≡◌, ℕ, ℤ, List, Bool}
use Rattle.std.specs.Prelude.{codes}
use Rattle.merge_types.specs.declared.values.Value.{Value}
use Rattle.merge_types.specs.declared.values.Value.TheVariants.{Null, Int, Bit, Text, Day, Guid, Bytes}
use Rattle.merge_types.specs.Day.{IsDayText}
use Rattle.merge_types.specs.Guid.{IsGuidText}
use Rattle.merge_types.specs.Quoted.{IsQuoted}
use Rattle.merge_types.specs.Literal.{IsBytesText, IsIntText, IsLiteral, bit_text}
use Rattle.merge_types.proofs.literal.read_literal.Goals as goal

-- the text is no literal of each type
record IsNone (text : List ℕ) : Type 0 where
  null : text ≡ codes "null" → ⊥
  bit : (bit : Bool) → text ≡ bit_text bit → ⊥
  int : (number : ℤ) → IsIntText text number → ⊥
  day : (day : ℤ) → IsDayText text day → ⊥
  guid : (number : ℕ) → IsGuidText text number → ⊥
  text_is : (bytes : List ℕ) → IsQuoted text bytes → ⊥
  bytes : (bytes : List ℕ) → IsBytesText text bytes → ⊥

no_literal : (text : List ℕ) → IsNone text → (value : Value) → IsLiteral text value → ⊥
no_literal text none Null is = none.null is
no_literal text none (Int number) is = none.int number is
no_literal text none (Bit bit) is = none.bit bit is
no_literal text none (Text bytes) is = none.text_is bytes is
no_literal text none (Day day) is = none.day day is
no_literal text none (Guid number) is = none.guid number is
no_literal text none (Bytes bytes) is = none.bytes bytes is

pub returns-in-None-clause-none : goal.returns-in-None-clause-none
returns-in-None-clause-none c = no_literal c.args.text.now (record {
  null = c.in_default.ensures.null;
  bit = c.in_default.ensures.bit;
  int = λ number is. c.in_default-read_int.ensures.none number is.0 is.1;
  day = c.in_default-read_day.ensures.none;
  guid = c.in_default-read_guid.ensures.none;
  text_is = rw c.in_default-2.is at c.in_ok-words.ensures.none;
  bytes = rw c.in-None.is at c.in_ok-octets.ensures.none;
})
