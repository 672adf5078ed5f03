-- What is answered for a text.
use Rattle.std.specs.Prelude.{◌≡◌, ℕ, ◌-◌, List, [], ◌∷◌, ◌++◌, length, slice_index_or, Option, Some, None, Result, Ok, Err}
use Rattle.merge_types.specs.declared.values.Column.{Column}
use Rattle.merge_filter.specs.declared.fault.FilterFault.{FilterFault}
use Rattle.merge_filter.specs.declared.fault.FilterFault.TheVariants as faults
use Rattle.merge_filter.specs.declared.form.FormFault.{FormFault}
use Rattle.merge_filter.specs.declared.form.FormFault.TheVariants as forms
use Rattle.merge_filter.specs.declared.form.Stuck.TheVariants as stuck
use Rattle.merge_filter.specs.declared.tokens.TokenFault.{TokenFault}
use Rattle.merge_filter.specs.declared.tokens.TokenFault.TheVariants as tokens
use Rattle.merge_filter.specs.declared.word.Word.{Word}
use Rattle.merge_filter.specs.Grammar.{IsFilter, Begins, BeginsSome, NoneGoesOn, NoneBeginsWithin}
use Rattle.merge_filter.specs.Names.{unknown_name}
use Rattle.merge_filter.specs.Syntax.{Syntax}
use Rattle.merge_filter.specs.Types.{unlike_sign}
use Rattle.merge_filter.specs.Words.{AreAllWords, IsBadToken}

abbrev pub token_fault : TokenFault → FilterFault
token_fault tokens.NoMemory = faults.NoMemory
token_fault (tokens.BadToken place) = faults.BadToken place

-- where the word begins with which so many words are left, or the end of the text where none is left
abbrev pub place_left : List ℕ → List ℕ → ℕ → ℕ
place_left text places left = slice_index_or places (length places - left) (length text)

abbrev pub form_fault : List ℕ → List ℕ → FormFault → FilterFault
form_fault text places forms.NoMemory = faults.NoMemory
form_fault text places (forms.Stuck (stuck.BadForm left)) = faults.BadForm (place_left text places left)
form_fault text places (forms.Stuck (stuck.TooDeep left)) = faults.TooDeep

abbrev pub mismatch : Option ℕ → Option FilterFault
mismatch (Some place) = Some (faults.TypeMismatch place)
mismatch None = None

abbrev pub unknown_column_or : List ℕ → Option ℕ → Option FilterFault → Option FilterFault
unknown_column_or places (Some index) other = Some (faults.UnknownColumn (slice_index_or places index 0))
unknown_column_or places None other = other

-- names come before types
abbrev pub name_fault : List Column → List Word → List ℕ → Syntax → Option FilterFault
name_fault columns words places tree = unknown_column_or places (unknown_name columns words) (mismatch (unlike_sign columns tree))

-- the place is that of the first word, or the end, at which no filter goes on
pub record IsBadForm (text : List ℕ) (words : List Word) (places : List ℕ) (place : ℕ) : Type 0 where
  pub front : List Word
  pub bad : List Word
  pub split : words ≡ front ++ bad
  pub begins : Begins 32 front
  pub ends : NoneGoesOn front bad
  pub same : place ≡ place_left text places (length bad)

-- there is a first word with which filters begin, but only with more than 32 levels open
pub record IsTooDeep (words : List Word) : Type 0 where
  pub front : List Word
  pub opens : Word
  pub left : List Word
  pub split : words ≡ front ++ opens ∷ left
  pub begins : Begins 32 front
  pub deeper : BeginsSome (front ++ opens ∷ [])
  pub within : NoneBeginsWithin 32 (front ++ opens ∷ [])

-- the words are a filter, but for its names or types
abbrev pub IsNameFault : List Column → List Word → List ℕ → FilterFault → Type 0
IsNameFault columns words places fault = (tree : Syntax) × IsFilter columns 32 words tree × (name_fault columns words places tree ≡ Some fault)

-- what is answered for the words of a text
abbrev pub IsReading : List ℕ → List Column → List Word → List ℕ → Result Syntax FilterFault → Type 0
IsReading text columns words places (Ok tree) = IsFilter columns 32 words tree × (name_fault columns words places tree ≡ None)
IsReading text columns words places (Err (faults.BadToken place)) = ⊥
IsReading text columns words places (Err (faults.BadForm place)) = IsBadForm text words places place
IsReading text columns words places (Err (faults.UnknownColumn place)) = IsNameFault columns words places (faults.UnknownColumn place)
IsReading text columns words places (Err (faults.TypeMismatch place)) = IsNameFault columns words places (faults.TypeMismatch place)
IsReading text columns words places (Err faults.TooDeep) = IsTooDeep words
IsReading text columns words places (Err faults.NoMemory) = ⊥

-- the words of the text have this answer
abbrev pub IsWordAnswer : List Column → List ℕ → Result Syntax FilterFault → Type 0
IsWordAnswer columns text answer = (words : List Word) × (places : List ℕ) × AreAllWords text words places × IsReading text columns words places answer

-- the answer that the language gives a text: all words are read first, and want of memory is no such answer
abbrev pub IsAnswer : List Column → List ℕ → Result Syntax FilterFault → Type 0
IsAnswer columns text (Err (faults.BadToken place)) = IsBadToken text place
IsAnswer columns text answer = IsWordAnswer columns text answer
