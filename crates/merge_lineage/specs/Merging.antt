-- A join from the front: its first dot, and what is left of both behind it.
use Rattle.std.specs.Prelude.{ℕ, List, [], ◌∷◌, Option, Some, None, max, nat_lt, ◌==◌, if◌then◌else◌}
use Rattle.merge_types.specs.declared.Dot.{Dot}

-- the dot of the smaller site, or of one site the greater number
abbrev pub lesser : Dot → Dot → Dot
lesser our their =
    if nat_lt our.site.0 their.site.0 then our
    else (if our.site.0 == their.site.0 then record { site = their.site; number = max their.number our.number } else their)

abbrev pub first_of : List Dot → List Dot → Option Dot
first_of [] [] = None
first_of (our ∷ ours) [] = Some our
first_of [] (their ∷ theirs) = Some their
first_of (our ∷ ours) (their ∷ theirs) = Some (lesser our their)

abbrev pub behind : ℕ → List Dot → List Dot
behind site [] = []
behind site (dot ∷ rest) = if dot.site.0 == site then rest else dot ∷ rest
