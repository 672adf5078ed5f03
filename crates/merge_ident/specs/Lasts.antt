-- The last grant of a list that passes a test.
use Rattle.std.specs.Prelude.{ℕ, ℤ, Bool, ◌&&◌, ◌||◌, ◌==◌, if◌then◌else◌, nat_lt, int_le, List, [], ◌∷◌, Option, Some, None}
use Rattle.std.specs.Option.{option_or}
use Rattle.merge_ident.specs.declared.grants.Grant.{Grant}
use Rattle.merge_ident.specs.Grants.{is_of}

abbrev pub last_where : (Grant → Bool) → List Grant → Option Grant
last_where p [] = None
last_where p (grant ∷ grants) = option_or (last_where p grants) (if p grant then Some grant else None)

abbrev pub is_of_article : ℕ → Grant → Bool
is_of_article article grant = grant.article == article

abbrev pub is_to : ℕ → ℕ → Grant → Bool
is_to article site grant = is_of article site grant

-- of an earlier article, or of this one and no later than at the value
abbrev pub starts_by : ℕ → ℤ → Grant → Bool
starts_by article value grant = nat_lt grant.article article || (grant.article == article && int_le grant.range.begin value)
