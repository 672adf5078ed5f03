-- Identifiers of 128 bits as UUIDs.
use Rattle.std.specs.Prelude.{◌≡◌, ℕ, ◌^◌, ◌<◌, List, map}
use Rattle.std.specs.Char.{to_ascii_lowercase}
use Rattle.std.specs.Int.{w128, to_be_bytes}
use Rattle.uuid.specs.Text.{hyphenated_text, lower}

-- the 36 characters, in lower case
unfoldable pub guid_text : ℕ → List ℕ
guid_text number = hyphenated_text lower (to_be_bytes w128 number)

-- the text is the 36 characters of the number, in either case
pub record IsGuidText (text : List ℕ) (number : ℕ) : Type 0 where
  pub fits : number < 2 ^ 128
  pub spelled : map to_ascii_lowercase text ≡ guid_text number
