-- What it is that a reader reads exactly what is spelled.
use Rattle.std.specs.Prelude.{◌≡◌, ℕ, ◌<◌, ◌^◌, ℤ, List, ◌++◌, length, slice_index, Some, None}
use Rattle.std.specs.Int.{Width, w16, to_be_bytes, cast_unsigned}
use Rattle.std.specs.List.{flat_map, AllByRecursion}
use Rattle.merge_record.specs.Reading.{Reader, whole_of}

-- each is below 256
abbrev pub IsBytes : List ℕ → Type 0
IsBytes bytes = (i : ℕ) → slice_index bytes i < 256

-- the text stands in front of the rest
pub record Takes (bytes text rest : List ℕ) : Type 0 where
  pub parts : bytes ≡ text ++ rest
  pub rest_fits : IsBytes rest

-- a spelling is read as what it spells, whatever stands behind it, and what is read stood there by its spelling
pub record IsCodec {A : Type 0} (spell : A → List ℕ) (read : Reader A) (Fits : A → Type 0) : Type 0 where
  pub again : (a : A) (rest : List ℕ) → Fits a → read (spell a ++ rest) ≡ Some (a, rest)
  pub takes : (bytes : List ℕ) → IsBytes bytes → (a : A) (rest : List ℕ) → read bytes ≡ Some (a, rest) → Takes bytes (spell a) rest × Fits a

-- the bytes are the record of the value
abbrev pub IsRecord : {A : Type 0} → (A → List ℕ) → (A → Type 0) → List ℕ → A → Type 0
IsRecord spell Fits bytes a = Fits a × (bytes ≡ spell a)

-- a number in two's complement
abbrev pub signed_bytes : Width → ℤ → List ℕ
signed_bytes w z = to_be_bytes w (cast_unsigned w z)

-- a count, and each member
abbrev pub counted_bytes : {A : Type 0} → Width → (A → List ℕ) → List A → List ℕ
counted_bytes w spell xs = to_be_bytes w (length xs) ++ flat_map spell xs

-- as many members as a number of so many bytes can count, each of which has a spelling
abbrev pub AreCounted : {A : Type 0} → ℕ → (A → Type 0) → List A → Type 0
AreCounted limit P xs = (length xs < limit) × AllByRecursion P xs

-- a length, and so many bytes
abbrev pub string_bytes_of : List ℕ → List ℕ
string_bytes_of bytes = to_be_bytes w16 (length bytes) ++ bytes

abbrev pub IsShort : List ℕ → Type 0
IsShort text = length text < 2 ^ 16

abbrev pub IsBelow : ℕ → ℕ → Type 0
IsBelow limit n = n < limit

-- A record is of one value, and a value has one record. What is written reads back, and what is read is in the grammar,
-- by its spelling; where nothing is read the bytes are the record of no value.
pub record AreRecords {A : Type 0} (spell : A → List ℕ) (read : Reader A) (Fits : A → Type 0) : Type 0 where
  pub back : (a : A) → Fits a → whole_of (read (spell a)) ≡ Some a
  pub found : (bytes : List ℕ) → IsBytes bytes → (a : A) → whole_of (read bytes) ≡ Some a → IsRecord spell Fits bytes a
  pub none : (bytes : List ℕ) → whole_of (read bytes) ≡ None → (a : A) → IsRecord spell Fits bytes a → ⊥
  pub one_value : (bytes : List ℕ) (a b : A) → IsRecord spell Fits bytes a → IsRecord spell Fits bytes b → a ≡ b
  pub one_record : (bytes other : List ℕ) (a : A) → IsRecord spell Fits bytes a → IsRecord spell Fits other a → bytes ≡ other
