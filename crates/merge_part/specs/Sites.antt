-- Sets of subscribers as the bits of a word.
use Rattle.std.specs.Prelude.{ℕ, Bool, ◌==◌}
use Rattle.std.specs.Int.{bit_at}
use Rattle.merge_part.specs.declared.sites.Sites.{Sites}

-- whether the subscriber at the place is among these
unfoldable pub has_site : Sites → ℕ → Bool
has_site sites place = bit_at sites.0 place == 1
