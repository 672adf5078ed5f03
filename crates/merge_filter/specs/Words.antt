-- The words of a text.
use Rattle.std.specs.Prelude.{◌≡◌, ◌≢◌, ℕ, ℤ, ◌-◌, ◌≤◌, Bool, true, ◌&&◌, ◌==◌, nat_eq, List, [], ◌∷◌, ◌++◌, length, take, drop, map, Option, Some, None, MatchOption, Ok, codes, FitsSigned, if◌then◌else◌}
use Rattle.std.specs.List.{flat_map}
use Rattle.std.specs.Cmp.Lexicographic.{pointwise}
use Rattle.std.specs.Char.{to_ascii_lowercase}
use Rattle.std.specs.Fmt.{signed_decimal}
use Rattle.std.specs.Int.{w64}
use Rattle.std.specs.Str.{IsUtf8}
use Rattle.hex.specs.Hex.{decode_of}
use Rattle.merge_filter.specs.declared.kind.Kind.{Kind}
use Rattle.merge_filter.specs.declared.kind.Kind.TheVariants as kinds
use Rattle.merge_filter.specs.declared.word.Sign.TheVariants.{Equal, Unequal, Less, AtMost, Greater, AtLeast}
use Rattle.merge_filter.specs.declared.word.Word.{Word}
use Rattle.merge_filter.specs.declared.word.Word.TheVariants as w
use Rattle.merge_types.specs.Day.{IsDayText}
use Rattle.merge_types.specs.Guid.{IsGuidText}
use Rattle.merge_types.specs.Limits.{name_limit}
use Rattle.merge_types.specs.Names.{is_name_text}
use Rattle.merge_filter.specs.Runs.{behind_blanks, kind_of, run_len}

-- whether two texts are one but for the case of letters of ASCII
abbrev pub is_same_word : List ℕ → List ℕ → Bool
is_same_word a b = pointwise nat_eq (map to_ascii_lowercase a) (map to_ascii_lowercase b)

abbrev pub keyword_of : List ℕ → Option Word
keyword_of t =
    if is_same_word t (codes "AND") then Some w.And
    else if is_same_word t (codes "OR") then Some w.Or
    else if is_same_word t (codes "NOT") then Some w.Not
    else if is_same_word t (codes "IS") then Some w.Is
    else if is_same_word t (codes "NULL") then Some w.Null
    else if is_same_word t (codes "HOST_NAME") then Some w.HostName
    else if is_same_word t (codes "DATE") then Some w.Date
    else if is_same_word t (codes "GUID") then Some w.Guid
    else if is_same_word t (codes "BIT") then Some w.Bit
    else None

-- a keyword, or else a name
abbrev pub keyword_or_name : List ℕ → Option Word → Word
keyword_or_name t (Some word) = word
keyword_or_name t None = w.Name t

-- a sign or a parenthesis, at a place
abbrev pub mark_of : ℕ → List ℕ → Option Word
mark_of place [] = None
mark_of place (c ∷ []) =
    if c == 40 then Some w.Open
    else if c == 41 then Some w.Close
    else if c == 61 then Some (w.Sign Equal place)
    else if c == 60 then Some (w.Sign Less place)
    else if c == 62 then Some (w.Sign Greater place)
    else None
mark_of place (c ∷ d ∷ []) =
    if (c == 60) && (d == 62) then Some (w.Sign Unequal place)
    else if (c == 60) && (d == 61) then Some (w.Sign AtMost place)
    else if (c == 62) && (d == 61) then Some (w.Sign AtLeast place)
    else None
mark_of place t = None

-- each quote of a text is written twice
abbrev pub byte_in_quotes : ℕ → List ℕ
byte_in_quotes b = if b == 39 then 39 ∷ 39 ∷ [] else b ∷ []

abbrev pub text_in_quotes : List ℕ → List ℕ
text_in_quotes bytes = 39 ∷ (flat_map byte_in_quotes bytes ++ 39 ∷ [])

-- what a text is read as: the value that it is a literal of, or none where it is no literal
abbrev pub IsReadAs : {V : Type 0} → (List ℕ → V → Type 0) → List ℕ → Option V → Type 0
IsReadAs IsLiteral bytes o = MatchOption o ((v : _) → IsLiteral bytes v → ⊥) (IsLiteral bytes)

-- the word of a text in UTF-8, which may be a literal of a day or of an identifier
abbrev pub IsTextWord : List ℕ → Word → Type 0
IsTextWord bytes word =
    (day : Option ℤ) × (guid : Option ℕ) × IsUtf8 bytes × IsReadAs IsDayText bytes day × IsReadAs IsGuidText bytes guid
    × (word ≡ w.Text bytes day guid)

-- these bytes, a word of this kind at this place, are the word
abbrev pub Spells : Kind → ℕ → List ℕ → Word → Type 0
Spells kinds.Name place t word = (length t ≤ name_limit) × (word ≡ keyword_or_name t (keyword_of t))
Spells kinds.Number place t word = (z : ℤ) × FitsSigned w64 z × (t ≡ signed_decimal z) × (word ≡ w.Int z)
Spells kinds.Hex place t word = (bytes : List ℕ) × (decode_of (drop 2 t) ≡ Ok bytes) × (word ≡ w.Bytes bytes)
Spells kinds.Quoted place t word = (bytes : List ℕ) × (t ≡ text_in_quotes bytes) × IsTextWord bytes word
Spells kinds.Bracketed place t word =
    (name : List ℕ) × (t ≡ 91 ∷ (name ++ 93 ∷ [])) × (is_name_text name ≡ true) × (word ≡ w.Name name)
Spells kinds.Mark place t word = mark_of place t ≡ Some word

-- the word at the front of a part of the text
abbrev pub front_len : List ℕ → ℕ
front_len bytes = run_len (kind_of bytes) bytes

abbrev pub IsFrontWord : ℕ → List ℕ → Word → Type 0
IsFrontWord place bytes word = Spells (kind_of bytes) place (take (front_len bytes) bytes) word

abbrev pub behind_front : List ℕ → List ℕ
behind_front bytes = behind_blanks (drop (front_len bytes) bytes)

-- where a rest of the text begins
abbrev pub place_of : List ℕ → List ℕ → ℕ
place_of text rest = length text - length rest

-- from one rest of the text to another these are the words, at these places
abbrev pub AreWords : List ℕ → List ℕ → List Word → List ℕ → List ℕ → Type 0
AreWords text bytes [] [] rest = bytes ≡ rest
AreWords text bytes (word ∷ words) (place ∷ places) rest =
    (bytes ≢ []) × (place ≡ place_of text bytes) × IsFrontWord place bytes word × AreWords text (behind_front bytes) words places rest
AreWords text bytes words places rest = ⊥

-- the text is these words, at these places
abbrev pub AreAllWords : List ℕ → List Word → List ℕ → Type 0
AreAllWords text words places = AreWords text (behind_blanks text) words places []

-- the first byte at which no word can be read
pub record IsBadToken (text : List ℕ) (place : ℕ) : Type 0 where
  pub words : List Word
  pub places : List ℕ
  pub rest : List ℕ
  pub before : AreWords text (behind_blanks text) words places rest
  pub more : rest ≢ []
  pub same : place ≡ place_of text rest
  pub none : (word : Word) → IsFrontWord place rest word → ⊥
