-- How JSON values are read. A reader is a function, which has no answer where the value has no reading.
use Rattle.std.specs.Prelude.{ℕ, suc, ℤ, List, [], ◌∷◌, Bool, Option, Some, None, Result, Ok, Err, nat_lt, if◌then◌else◌}
use Rattle.serde_json.specs.Data.{Data, Items, no_items, item}
use Rattle.serde_json.specs.Find.{get, as_number, as_u64, as_i64, as_bool, as_array}

infixl 10 ◌>>=◌
abbrev pub ◌>>=◌ : {A B : Type 0} → Option A → (A → Option B) → Option B
(Some x) >>= f = f x
None >>= f = None

abbrev pub Reader : Type 0 → Type 0
Reader A = Data → Option A

-- the member of an object with this key, which is the last where the text has several
abbrev pub field_at : {A : Type 0} → List ℕ → Reader A → Reader A
field_at key read d = get key d >>= read

-- a whole number without point and exponent, which fits 64 bits
unfoldable pub whole_at : Reader ℕ
whole_at d = as_number d >>= as_u64

unfoldable pub below_at : ℕ → Reader ℕ
below_at limit d = whole_at d >>= λ n. if nat_lt n limit then Some n else None

-- the same with a sign
unfoldable pub signed_at : Reader ℤ
signed_at d = as_number d >>= as_i64

unfoldable pub bit_at : Reader Bool
bit_at d = as_bool d

-- each member of a list
abbrev pub each_at : {A : Type 0} → Reader A → Items → Option (List A)
each_at read no_items = Some []
each_at read (item d ds) = read d >>= λ x. each_at read ds >>= λ xs. Some (x ∷ xs)

abbrev pub list_at : {A : Type 0} → Reader A → Reader (List A)
list_at read d = as_array d >>= each_at read

-- the members of a list, or the number of the first that has no reading
abbrev pub placed : {A B : Type 0} → ℕ → Option A → (A → Result B ℕ) → Result B ℕ
placed place None go = Err place
placed place (Some x) go = go x

abbrev pub mapped_result : {A B : Type 0} → (A → B) → Result A ℕ → Result B ℕ
mapped_result f (Ok x) = Ok (f x)
mapped_result f (Err place) = Err place

abbrev pub numbered_at : {A : Type 0} → Reader A → ℕ → Items → Result (List A) ℕ
numbered_at read place no_items = Ok []
numbered_at read place (item d ds) = placed place (read d) (λ x. mapped_result (λ xs. x ∷ xs) (numbered_at read (suc place) ds))
