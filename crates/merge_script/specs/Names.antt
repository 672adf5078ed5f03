-- Names and plain decimals.
use Rattle.std.specs.Char.{is_ascii_digit}
use Rattle.std.specs.List.{list_all}
use Rattle.std.specs.Prelude.{ℕ, ◌+◌, ◌-◌, ◌*◌, ◌^◌, List, [], ◌∷◌, Bool, true, false, nat_lt, ◌==◌, ◌&&◌, not, Option, Some, None, if◌then◌else◌}
pub use Rattle.merge_types.specs.Names.{begins_name, continues_name, is_name_text}

-- there is a first digit, which is 0 only where it stands alone
abbrev pub begins_decimal : List ℕ → Bool
begins_decimal [] = false
begins_decimal (digit ∷ []) = true
begins_decimal (digit ∷ next ∷ more) = not (digit == 48)

-- the number that digits give behind a number
abbrev pub value_behind : ℕ → List ℕ → ℕ
value_behind n [] = n
value_behind n (digit ∷ more) = value_behind (10 * n + (digit - 48)) more

-- the number of a plain decimal, where it fits 64 bits
abbrev pub decimal_of : List ℕ → Option ℕ
decimal_of word = if (list_all is_ascii_digit word && begins_decimal word) && nat_lt (value_behind 0 word) (2 ^ 64) then Some (value_behind 0 word) else None
