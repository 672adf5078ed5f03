-- The change that made a row.
use Rattle.std.specs.Prelude.{ℕ, ◌-◌, ◌/◌, ◌^◌, ◌&&◌, nat_lt, if◌then◌else◌, Option, Some, None}
use Rattle.merge_types.specs.Limits.{number_limit}
use Rattle.merge_types.specs.declared.Dot.{Dot}
use Rattle.merge_types.specs.Rows.{row_number}

-- what an identifier has in place of a site, and of a number from 0 on
abbrev pub site_part : ℕ → ℕ
site_part row = row / 2 ^ 80

abbrev pub number_part : ℕ → ℕ
number_part row = row - row_number (site_part row) 0

-- the change that makes the row with an identifier, none where no change makes it
unfoldable pub maker_of : ℕ → Option Dot
maker_of row =
    if nat_lt (site_part row) (2 ^ 16) && nat_lt (row_number (site_part row) 0) row && nat_lt (number_part row) number_limit
    then Some (record { site = record { 0 = site_part row }; number = number_part row })
    else None
