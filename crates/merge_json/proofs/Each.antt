-- Lists that are read member by member.
use Rattle.std.proofs.Common.{ℕ, List, ◌++◌, Option, Some, Result, Ok, Err}
use Rattle.merge_json.specs.Reading.{◌>>=◌}

-- what comes of a list with these members in front
abbrev pub with_front : {A : Type 0} → List A → Option (List A) → Option (List A)
with_front front o = o >>= λ xs. Some (front ++ xs)

abbrev pub after_front : {A : Type 0} → List A → Result (List A) ℕ → Result (List A) ℕ
after_front front (Ok xs) = Ok (front ++ xs)
after_front front (Err place) = Err place
