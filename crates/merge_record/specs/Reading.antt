-- Reading from left to right, by readers that are put together.
use Rattle.std.specs.Prelude.{◌≡◌, ℕ, ℤ, zero, suc, List, [], ◌∷◌, length, take, drop, Option, Some, None, Result, Ok, Err, Bool, nat_lt, if◌then◌else◌}
use Rattle.std.specs.Int.{Width, w8, w16, w64, byte_len, from_be_bytes, cast_signed}
use Rattle.merge_record.specs.declared.stop.Stop.{Stop}
use Rattle.merge_record.specs.declared.stop.Stop.TheVariants.{Broken, NoMemory}

infixl 10 ◌>>=◌
abbrev pub ◌>>=◌ : {A B : Type 0} → Option A → (A → Option B) → Option B
(Some x) >>= f = f x
None >>= f = None

abbrev pub Fails : {Y : Type 0} → Stop → Option Y → Type 0
Fails NoMemory read = Unit {0}
Fails Broken read = read ≡ None

-- what a function returned, seen by view, is what reading gives, unless there was no memory
abbrev pub Gives : {X Y : Type 0} → (X → Y) → Result X Stop → Option Y → Type 0
Gives view (Ok x) read = read ≡ Some (view x)
Gives view (Err e) read = Fails e read

-- a reader gives a value and the bytes behind it
abbrev pub Reader : Type 0 → Type 0
Reader A = List ℕ → Option (A × List ℕ)

-- two fields, one behind the other
abbrev pub both_at : {A B C : Type 0} → (A → B → C) → Reader A → Reader B → Reader C
both_at make first second bytes = first bytes >>= λ x. second x.1 >>= λ y. Some (make x.0 y.0, y.1)

abbrev pub pair_at : {A B : Type 0} → Reader A → Reader B → Reader (A × B)
pair_at first second bytes = both_at (λ x y. (x, y)) first second bytes

-- so many members
abbrev pub many_at : {A : Type 0} → Reader A → ℕ → Reader (List A)
many_at read zero bytes = Some ([], bytes)
many_at read (suc n) bytes = both_at (λ x xs. x ∷ xs) read (many_at read n) bytes

-- a number of so many bytes, the highest first
abbrev pub number_at : Width → Reader ℕ
number_at w bytes = if nat_lt (length bytes) (byte_len w) then None else Some (from_be_bytes w (take (byte_len w) bytes), drop (byte_len w) bytes)

-- a count in so many bytes, and so many members
abbrev pub counted_at : {A : Type 0} → Width → Reader A → Reader (List A)
counted_at w read bytes = number_at w bytes >>= λ n. many_at read n.0 n.1

-- a length in two bytes, and so many bytes
abbrev pub string_at : Reader (List ℕ)
string_at bytes = number_at w16 bytes >>= λ n. if nat_lt (length n.1) n.0 then None else Some (take n.0 n.1, drop n.0 n.1)

-- a value that meets a test
abbrev pub tested_at : {A : Type 0} → (A → Bool) → Reader A → Reader A
tested_at test read bytes = read bytes >>= λ x. if test x.0 then Some x else None

-- a field in another form
abbrev pub wrapped_at : {A B : Type 0} → (A → B) → Reader A → Reader B
wrapped_at make read bytes = read bytes >>= λ x. Some (make x.0, x.1)

-- a signed number, in two's complement
abbrev pub signed_at : Width → Reader ℤ
signed_at w bytes = wrapped_at (cast_signed w) (number_at w) bytes

-- what is read where all of the bytes are used
abbrev pub whole_of : {A : Type 0} → Option (A × List ℕ) → Option A
whole_of None = None
whole_of (Some (a, [])) = Some a
whole_of (Some (a, b ∷ rest)) = None
