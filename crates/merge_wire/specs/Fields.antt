-- The length that the fields of a head give its body.
use Rattle.std.specs.Prelude.{◌≡◌, ◌<◌, ◌^◌, ◌⊎◌, ℕ, List, [], ◌∷◌, ◌++◌, map, codes, decimal}
use Rattle.std.specs.Char.{to_ascii_lowercase}
use Rattle.merge_wire.specs.declared.fault.WireFault.{WireFault}
use Rattle.merge_wire.specs.declared.fault.WireFault.TheVariants as fault
use Rattle.merge_wire.specs.declared.fields.Length.{Length}
use Rattle.merge_wire.specs.declared.fields.Length.TheVariants.{Missing, Found, Bad}

-- the most bytes that a body may have
abbrev pub body_limit : ℕ
body_limit = 134_217_728

-- a name and a value
abbrev pub Pair : Type 0
Pair = List ℕ × List ℕ

-- the names, in either case
abbrev pub IsLength : List ℕ → Type 0
IsLength name = map to_ascii_lowercase name ≡ codes "content-length"

abbrev pub IsCoding : List ℕ → Type 0
IsCoding name = map to_ascii_lowercase name ≡ codes "transfer-encoding"

-- the text is the number in plain decimal, and the number fits 64 bits
abbrev pub IsLengthText : List ℕ → ℕ → Type 0
IsLengthText text n = (n < 2 ^ 64) × (text ≡ decimal n)

-- no field has such a name
abbrev pub HasNone : (List ℕ → Type 0) → List Pair → Type 0
HasNone P [] = Unit {0}
HasNone P (f ∷ fs) = (P f.0 → ⊥) × HasNone P fs

-- exactly one field tells a length, and it is this one
abbrev pub HasOne : ℕ → List Pair → Type 0
HasOne n [] = ⊥
HasOne n (f ∷ fs) = (IsLength f.0 × IsLengthText f.1 n × HasNone IsLength fs) ⊎ ((IsLength f.0 → ⊥) × HasOne n fs)

-- the fields give the body this length: one Content-Length tells it, and no Transfer-Encoding stands
pub record HasLength (n : ℕ) (fields : List Pair) : Type 0 where
  pub plain : HasNone IsCoding fields
  pub one : HasOne n fields

-- what is wrong with the length
abbrev pub IsLengthFault : List Pair → WireFault → Type 0
IsLengthFault fields fault.BadLength = (n : ℕ) → HasLength n fields → ⊥
IsLengthFault fields (fault.TooLong n) = HasLength n fields × (body_limit < n)
IsLengthFault fields _ = ⊥

-- ---- what the fields so far say

-- one field more, behind
abbrev pub behind : List Pair → Pair → List Pair
behind fs f = fs ++ f ∷ []

-- the fields give no length, whatever comes behind
abbrev pub IsBad : List Pair → Type 0
IsBad fs = (n : ℕ) (more : List Pair) → HasLength n (fs ++ more) → ⊥

abbrev pub IsSeen : Length → List Pair → Type 0
IsSeen Missing fs = HasNone IsCoding fs × HasNone IsLength fs
IsSeen (Found n) fs = (n < 2 ^ 64) × HasLength n fs
IsSeen Bad fs = IsBad fs
