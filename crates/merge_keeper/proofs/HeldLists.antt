-- What is told of the ranges that are held has all of them.
use Rattle.std.proofs.Common.{◌≡◌, ◌∙◌, ◌≤◌, Result, Ok, Err, IfOk, ◌++◌, pos, List, [], ◌∷◌, length, map, unwrap_or, slice_get, refl, arith}
use Rattle.std.specs.Option.{option_map}
use Rattle.merge_ident.specs.Holders.{Received, range_of, next_of}
use Rattle.merge_keeper.specs.Edits.{list_of_option}
use Rattle.merge_keeper.specs.Entries.{next_held}

pub next_listed : (held : List Received) → unwrap_or (option_map next_of (slice_get held 0)) (pos 0) ≡ next_held held
next_listed [] = refl
next_listed (first ∷ rest) = refl

pub ranges_listed : (held : List Received) → length held ≤ 2 → list_of_option (option_map range_of (slice_get held 0)) ++ list_of_option (option_map range_of (slice_get held 1)) ≡ map range_of held
ranges_listed [] two = refl
ranges_listed (first ∷ []) two = refl
ranges_listed (first ∷ second ∷ []) two = refl
ranges_listed (first ∷ second ∷ third ∷ rest) two = absurd (omega arith)

-- what an answer is where there is one, and so what it equals
pub if_ok_then : {X E : Type 0} (result : Result X E) (a b : X) → IfOk result (λ x. x ≡ a) → a ≡ b → IfOk result (λ x. x ≡ b)
if_ok_then (Ok x) a b is same = is ∙ same
if_ok_then (Err e) a b is same = tt
