-- The answers for the words of a text, but for want of memory.
use Rattle.std.proofs.Common.{◌≡◌, ℕ, slice_index_or, Bool, true, false, List, Option, Some, None, Result, Err, refl, sym, ap, ◌⊎◌, inl, inr}
use Rattle.merge_types.specs.declared.values.Column.{Column}
use Rattle.merge_filter.specs.declared.fault.FilterFault.{FilterFault}
use Rattle.merge_filter.specs.declared.fault.FilterFault.TheVariants as faults
use Rattle.merge_filter.specs.declared.form.FormFault.{FormFault}
use Rattle.merge_filter.specs.declared.form.FormFault.TheVariants as forms
use Rattle.merge_filter.specs.declared.form.Stuck.TheVariants as stuck
use Rattle.merge_filter.specs.declared.word.Word.{Word}
use Rattle.merge_filter.specs.Answers.{IsReading, name_fault, unknown_column_or, mismatch, form_fault}
use Rattle.merge_filter.specs.Form.{all_of, Fails}
use Rattle.merge_filter.specs.Grammar.{IsFilter}
use Rattle.merge_filter.specs.Names.{unknown_name}
use Rattle.merge_filter.specs.Syntax.{Syntax}
use Rattle.merge_filter.specs.Types.{unlike_sign}
use Rattle.merge_filter.proofs.Place.{AreFew, bad_form_is, too_deep_is}

abbrev some : FilterFault → Option FilterFault
some f = Some f

-- whether a fault is one of names or of types
abbrev is_later : FilterFault → Bool
is_later (faults.UnknownColumn place) = true
is_later (faults.TypeMismatch place) = true
is_later f = false

later : (places : List ℕ) (o m : Option ℕ) (f : FilterFault) → unknown_column_or places o (mismatch m) ≡ some f → is_later f ≡ true
later places (Some index) m f e = let same : faults.UnknownColumn (slice_index_or places index 0) ≡ f = cc in ap is_later (sym same)
later places None (Some place) f e = let same : faults.TypeMismatch place ≡ f = cc in ap is_later (sym same)
later places None None f e = absurd cc

-- what is answered for the words, or want of memory
abbrev pub IsReadingOr : List ℕ → List Column → List Word → List ℕ → Result Syntax FilterFault → Type 0
IsReadingOr text columns words places answer = (answer ≡ Err faults.NoMemory) ⊎ IsReading text columns words places answer

pub name_refusal : (text : List ℕ) (columns : List Column) (words : List Word) (places : List ℕ) (tree : Syntax) (f : FilterFault)
    → IsFilter columns 32 words tree → name_fault columns words places tree ≡ some f → IsReading text columns words places (Err f)
name_refusal text columns words places tree (faults.UnknownColumn place) is e = (tree, is, e)
name_refusal text columns words places tree (faults.TypeMismatch place) is e = (tree, is, e)
name_refusal text columns words places tree f is e = absurd (let no = later places (unknown_name columns words) (unlike_sign columns tree) _ e in cc)

pub form_refusal : (text : List ℕ) (columns : List Column) (words : List Word) (places : List ℕ) (f : FormFault) → AreFew words
    → Fails f (all_of columns 32 words) → IsReadingOr text columns words places (Err (form_fault text places f))
form_refusal text columns words places forms.NoMemory few e = inl refl
form_refusal text columns words places (forms.Stuck (stuck.BadForm left)) few e = inr (bad_form_is columns text words places left few e)
form_refusal text columns words places (forms.Stuck (stuck.TooDeep left)) few e = inr (too_deep_is columns words left few e)
