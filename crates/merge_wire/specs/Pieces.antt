-- Pieces of bytes behind references.
use Rattle.std.specs.Prelude.{ℕ, List, map}
use Rattle.std.specs.Borrow.{Bor}
use Rattle.merge_wire.specs.Written.{joined}

-- what the pieces are one behind the other
abbrev pub joined_pieces : List (Bor (List ℕ)) → List ℕ
joined_pieces pieces = joined (map (λ (piece : Bor (List ℕ)). piece.now) pieces)
