-- Settings, and words read one after the other.
use Rattle.std.proofs.Common.{◌≡◌, ◌+◌, ◌<◌, ℕ, zero, suc, List, [], ◌∷◌, ◌++◌, Option, Some, None, Result, Ok, Err, refl, sym, ap, ◌∙◌, arith, append_assoc, drop, take, length}
use Rattle.std.specs.List.{after_first, before_first, position_or_len}
use Rattle.std.specs.Prelude.{option_map, option_and_then}
use Rattle.merge_types.specs.declared.values.Value.{Value}
use Rattle.merge_model.specs.Script.Literals.{value_of_text}
use Rattle.merge_model.specs.Script.Reading.{Read, ◌>>=◌, is_equals_sign, made_out, name_of, setting_of, settings_in}
use Rattle.merge_model.specs.declared.event.NamedValue.{NamedValue}

abbrev pub named_value : List ℕ → Value → NamedValue
named_value column value = record { column = column; value = value }

-- a setting, by what stands before the sign and behind it
pub setting_by : (word before after : List ℕ) (column : Option (List ℕ)) (value : Option Value) → before ≡ before_first is_equals_sign word → after ≡ after_first is_equals_sign word
    → column ≡ name_of before → value ≡ value_of_text after → option_and_then (λ c. option_map (named_value c) value) column ≡ setting_of word
setting_by word before after column value front back named read =
    ap (λ (o : Option (List ℕ)). option_and_then (λ c. option_map (named_value c) value) o) (named ∙ ap name_of front)
    ∙ ap (λ (v : Option Value). option_and_then (λ c. option_map (named_value c) v) (name_of (before_first is_equals_sign word))) (read ∙ ap value_of_text back)

-- settings before those that are read
abbrev pub behind : List NamedValue → Read (List NamedValue) → Read (List NamedValue)
behind settings read = read >>= λ more. Ok (settings ++ more)

abbrev pub onto : Read NamedValue → Read (List NamedValue) → Read (List NamedValue)
onto first rest = first >>= λ setting. rest >>= λ settings. Ok (setting ∷ settings)

wrong_by : (settings : List NamedValue) (o : Option NamedValue) (number : ℕ) (rest : Read (List NamedValue)) → o ≡ None → behind settings (onto (made_out number o) rest) ≡ Err number
wrong_by settings None number rest e = refl
wrong_by settings (Some x) number rest e = absurd cc

goes_by : (settings : List NamedValue) (o : Option NamedValue) (x : NamedValue) (number : ℕ) (rest : Read (List NamedValue)) → o ≡ Some x
    → behind settings (onto (made_out number o) rest) ≡ behind (settings ++ x ∷ []) rest
goes_by settings None x number rest e = absurd cc
goes_by settings (Some y) x number (Ok more) e = let same : y ≡ x = cc in rw same (ap (λ (l : List NamedValue). Ok l) (sym (append_assoc settings (x ∷ []) more)))
goes_by settings (Some y) x number (Err n) e = refl

pub wrong : (settings : List NamedValue) (number : ℕ) (word : List ℕ) (more : List (List ℕ)) → None ≡ setting_of word → behind settings (settings_in number (word ∷ more)) ≡ Err number
wrong settings number word more e = wrong_by settings (setting_of word) number (settings_in (number + 1) more) (sym e)

pub goes : (settings : List NamedValue) (x : NamedValue) (number : ℕ) (word : List ℕ) (more : List (List ℕ)) → Some x ≡ setting_of word
    → behind settings (settings_in number (word ∷ more)) ≡ behind (settings ++ x ∷ []) (settings_in (number + 1) more)
goes settings x number word more e = goes_by settings (setting_of word) x number (settings_in (number + 1) more) (sym e)
