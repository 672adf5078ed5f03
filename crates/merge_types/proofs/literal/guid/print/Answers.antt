-- The text of the sixteen bytes of the number.
use Rattle.merge_types.specs.Guid.{guid_text}
use Rattle.merge_types.proofs.literal.guid.print.Goals as goal

pub returns : goal.returns
unfolding guid_text
returns c = rw (← c.from_u128-uuid.ensures, ← c.hyphenated.ensures, ← c.encode_lower-text.ensures.text) c.of.ensures
