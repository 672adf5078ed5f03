-- What is written so far: the quote, and the characters with their escapes.
use Rattle.std.proofs.Common.{◌∷◌}
use Rattle.std.specs.Fmt.{HasWritten, IsPlainFormatter}
use Rattle.std.specs.List.{flat_map}
use Rattle.merge_types.specs.Quoted.{escaped_character}
use Rattle.merge_types.proofs.literal.quoted.QuotedDisplay.fmt.Given as goal

abbrev pub invariant-loop-c : goal.invariant-loop-c
invariant-loop-c g l = IsPlainFormatter l.fn.f → HasWritten g.W.Write.write_str_gives l.fn.f (34 ∷ flat_map escaped_character l.yielded) l.f
