-- Steps that may refuse: the first refusal is the answer.
use Rattle.std.specs.Prelude.{◌≡◌, ◌≢◌, List, [], ◌∷◌, Bool, if◌then◌else◌, Result, Ok, Err}
use Rattle.merge_schema.specs.declared.fault.SchemaFault.{SchemaFault}
use Rattle.merge_schema.specs.declared.fault.SchemaFault.TheVariants.{NoMemory}

infixl 10 ◌>>=◌
abbrev pub ◌>>=◌ : {A B : Type 0} → Result A SchemaFault → (A → Result B SchemaFault) → Result B SchemaFault
(Ok x) >>= f = f x
(Err e) >>= f = Err e

-- a step on each of a list, in order
abbrev pub each : {A B : Type 0} → (A → Result B SchemaFault) → List A → Result (List B) SchemaFault
each step [] = Ok []
each step (x ∷ xs) = step x >>= λ y. each step xs >>= λ ys. Ok (y ∷ ys)

-- a step for each of a list, in order
abbrev pub every : {A : Type 0} → (A → Result (Unit {0}) SchemaFault) → List A → Result (Unit {0}) SchemaFault
every step [] = Ok tt
every step (x ∷ xs) = step x >>= λ _. every step xs

abbrev pub refused_if : Bool → SchemaFault → Result (Unit {0}) SchemaFault
refused_if b fault = if b then Err fault else Ok tt

-- what a call returned, seen by view, is what was read, but for want of memory
abbrev pub Gives : {X Y : Type 0} → (X → Y) → Result X SchemaFault → Result Y SchemaFault → Type 0
Gives view (Ok x) read = read ≡ Ok (view x)
Gives view (Err e) read = e ≢ NoMemory → read ≡ Err e

-- what a call returned is right, but for want of memory
abbrev pub UnlessMemory : {X : Type 0} → (Result X SchemaFault → Type 0) → Result X SchemaFault → Type 0
UnlessMemory IsRight (Ok x) = IsRight (Ok x)
UnlessMemory IsRight (Err e) = e ≢ NoMemory → IsRight (Err e)
