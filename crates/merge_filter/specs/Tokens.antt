-- Why a text has no words.
use Rattle.std.specs.Prelude.{ℕ, List}
use Rattle.merge_filter.specs.declared.tokens.TokenFault.{TokenFault}
use Rattle.merge_filter.specs.declared.tokens.TokenFault.TheVariants as faults
use Rattle.merge_filter.specs.Words.{IsBadToken}

abbrev pub IsRefusedToken : List ℕ → TokenFault → Type 0
IsRefusedToken text faults.NoMemory = Unit {0}
IsRefusedToken text (faults.BadToken place) = IsBadToken text place
