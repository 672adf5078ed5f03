-- What a piece of a text in quotes means, as its reader has it.
use Rattle.std.specs.Prelude.{ℕ, List, [], ◌∷◌, encode_utf8}
use Rattle.merge_types.specs.declared.literal.quoted.Meaning.{Meaning}
use Rattle.merge_types.specs.declared.literal.quoted.Meaning.TheVariants.{Byte, Character}

abbrev pub meaning_bytes : Meaning → List ℕ
meaning_bytes (Byte byte) = byte ∷ []
meaning_bytes (Character c) = encode_utf8 c
