-- What single words are read as.
use Rattle.std.proofs.Common.{◌≡◌, ℕ, ◌+◌, ◌^◌, ◌<◌, ◌≤◌, inl, inr, List, [], ◌∷◌, ◌++◌, Bool, true, false, Option, Some, None, Ok, Err, refl, sym, ap, subst, ◌∙◌, arith, length, get_or, take, drop, nat_le, nat_lt}
use Rattle.std.specs.Prelude.{option_map, option_and_then, ◌&&◌, if◌then◌else◌}
use Rattle.std.specs.Char.{is_ascii_digit}
use Rattle.std.specs.Fmt.{decimal}
use Rattle.std.specs.List.{before_first, after_first, list_all, position_or_len}
use Rattle.std.proofs.Math.Seq.{take-append_seam, drop-append-add}
use Rattle.std.proofs.lemmas.Bool.{cases_lt, eqb-true, ltb-true}
use Rattle.std.proofs.lemmas.Bool.Decides.{nat_tests}
use Rattle.std.proofs.lemmas.List.{drop_all}
use Rattle.std.proofs.lemmas.List.Sums.{passes_at_first, split_at_first}
use Rattle.merge_types.specs.declared.identifiers.SiteId.{SiteId}
use Rattle.merge_types.specs.declared.values.Value.{Value}
use Rattle.merge_script.specs.Names.{begins_decimal, begins_name, continues_name, decimal_of, is_name_text, value_behind}
use Rattle.merge_script.proofs.Decimals.{decimal-decimal_of, decimal_of-decimal}
use Rattle.merge_model.specs.declared.event.NamedValue.{NamedValue}
use Rattle.merge_model.specs.Script.Grammar.{AreSettings, IsName, IsSetting, IsSite}
use Rattle.merge_model.specs.Script.Literals.{opened, some_if, value_of_text}
use Rattle.merge_model.specs.Script.Reading.{Read, ◌>>=◌, is_equals_sign, made_out, name_of, number_up_to, setting_of, settings_in, site_of}
use Rattle.merge_model.proofs.Script.ReadLiterals.{and_then-is, both, option_map-is, some_if-is, some_if-true}
use Rattle.merge_model.proofs.Script.ReadValues.{value_of_text-IsLiteral, IsLiteral-value_of_text}

-- Steps of reading.

pub made_out-is : {A : Type 0} (number : ℕ) (o : Option A) (x : A) → made_out number o ≡ Ok x → o ≡ Some x
made_out-is number (Some y) x e = cc
made_out-is number None x e = absurd cc

pub made_out-some : {A : Type 0} (number : ℕ) (o : Option A) (x : A) → o ≡ Some x → made_out number o ≡ Ok x
made_out-some number o x e = ap (made_out number) e

pub then-is : {A B : Type 0} (r : Read A) (next : A → Read B) (y : B) → (r >>= next) ≡ Ok y → (x : A) × (r ≡ Ok x) × (next x ≡ Ok y)
then-is (Ok x) next y e = (x, refl, e)
then-is (Err number) next y e = absurd cc

pub then-some : {A B : Type 0} (r : Read A) (next : A → Read B) (x : A) (y : Read B) → r ≡ Ok x → next x ≡ y → (r >>= next) ≡ y
then-some r next x y e f = ap (λ (s : Read _). s >>= next) e ∙ f

-- Numbers, sites and names.

le_test : (n most : ℕ) → nat_le n most ≡ true → n ≤ most
le_test n most e = grind (arith, nat_tests, e)

le_true : (n most : ℕ) → n ≤ most → nat_le n most ≡ true
le_true n most h = grind (arith, nat_tests, h)

kept : (b : Bool) (value n : ℕ) → (if b then Some value else None) ≡ Some n → (b ≡ true) × (value ≡ n)
kept true value n e = (refl, cc)
kept false value n e = absurd cc

pub decimal_of-fits : (word : List ℕ) (n : ℕ) → decimal_of word ≡ Some n → n < 2 ^ 64
decimal_of-fits word n e =
    let value = value_behind 0 word in
    let h = kept ((list_all is_ascii_digit word && begins_decimal word) && nat_lt value (2 ^ 64)) value n e in
    subst (λ (m : ℕ). m < 2 ^ 64) h.1 (ltb-true value (2 ^ 64) (both (list_all is_ascii_digit word && begins_decimal word) _ h.0).1)

pub number_up_to-is : (most : ℕ) (word : List ℕ) (n : ℕ) → number_up_to most word ≡ Some n → (word ≡ decimal n) × (n ≤ most)
number_up_to-is most word n e =
    let h = and_then-is (λ m. some_if (nat_le m most) m) (decimal_of word) n e in
    let k = some_if-is (nat_le h.0 most) h.0 n h.2 in
    subst (λ (m : ℕ). (word ≡ decimal m) × (m ≤ most)) k.1 (decimal-decimal_of word h.0 h.1, le_test h.0 most k.0)

pub number_up_to-some : (most n : ℕ) → n ≤ most → most < 2 ^ 64 → number_up_to most (decimal n) ≡ Some n
number_up_to-some most n h fits =
    ap (option_and_then (λ m. some_if (nat_le m most) m)) (decimal_of-decimal n (omega (arith, h, fits))) ∙ some_if-true (nat_le n most) n (le_true n most h)

pub site_of-is : (word : List ℕ) (site : SiteId) → site_of word ≡ Some site → (word ≡ decimal site.0) × IsSite site
site_of-is word site e =
    let made : ℕ → SiteId = λ n. record { 0 = n } in
    let h = option_map-is made (number_up_to 65535 word) site e in
    subst (λ (s : SiteId). (word ≡ decimal s.0) × IsSite s) h.2 (number_up_to-is 65535 word h.0 h.1)

pub site_of-some : (site : SiteId) → IsSite site → site_of (decimal site.0) ≡ Some site
site_of-some site is =
    let made : ℕ → SiteId = λ n. record { 0 = n } in
    ap (option_map made) (number_up_to-some 65535 site.0 is (omega arith))

pub name_of-is : (word name : List ℕ) → name_of word ≡ Some name → (word ≡ name) × IsName name
name_of-is word name e = let h = some_if-is (is_name_text word) word name e in (h.1, subst IsName h.1 h.0)

pub name_of-some : (name : List ℕ) → IsName name → name_of name ≡ Some name
name_of-some name is = some_if-true (is_name_text name) name is

-- Settings.

-- no byte of a name is the sign
continues-no_sign : (byte : ℕ) → continues_name byte ≡ true → is_equals_sign byte ≡ false
continues-no_sign byte e = grind (arith, nat_tests, e)

begins-no_sign : (byte : ℕ) → begins_name byte ≡ true → is_equals_sign byte ≡ false
begins-no_sign byte e = grind (arith, nat_tests, e)

position-rest : (bytes literal : List ℕ) → list_all continues_name bytes ≡ true → position_or_len is_equals_sign (bytes ++ 61 ∷ literal) ≡ length bytes
position-rest [] literal all = refl
position-rest (byte ∷ bytes) literal all =
    let h = both (continues_name byte) _ all in
    rw (continues-no_sign byte h.0, position-rest bytes literal h.1) (omega arith)

position-name : (name literal : List ℕ) → IsName name → position_or_len is_equals_sign (name ++ 61 ∷ literal) ≡ length name
position-name [] literal is = absurd cc
position-name (byte ∷ bytes) literal is =
    let h = both (begins_name byte && list_all continues_name bytes) _ is in
    let k = both (begins_name byte) _ h.0 in
    rw (begins-no_sign byte k.0, position-rest bytes literal k.1) (omega arith)

before_sign : (name literal : List ℕ) → IsName name → before_first is_equals_sign (name ++ 61 ∷ literal) ≡ name
before_sign name literal is = ap (λ (n : ℕ). take n (name ++ 61 ∷ literal)) (position-name name literal is) ∙ take-append_seam name (61 ∷ literal)

after_sign : (name literal : List ℕ) → IsName name → after_first is_equals_sign (name ++ 61 ∷ literal) ≡ literal
after_sign name literal is = ap (λ (n : ℕ). drop (n + 1) (name ++ 61 ∷ literal)) (position-name name literal is) ∙ drop-append-add name (61 ∷ literal) 1

no_empty_literal : value_of_text [] ≡ None
unfolding opened
no_empty_literal = refl

sign_within : (word : List ℕ) (value : Value) → value_of_text (after_first is_equals_sign word) ≡ Some value → position_or_len is_equals_sign word < length word
sign_within word value e = elim (cases_lt (position_or_len is_equals_sign word) (length word)) [
  | inl within ↦ within
  | inr none ↦
      let nothing : after_first is_equals_sign word ≡ [] = drop_all (position_or_len is_equals_sign word + 1) word (omega arith) in
      let read : None ≡ Some value = sym no_empty_literal ∙ sym (ap value_of_text nothing) ∙ e in
      absurd cc
]

parted : (word : List ℕ) → position_or_len is_equals_sign word < length word → word ≡ before_first is_equals_sign word ++ 61 ∷ after_first is_equals_sign word
parted word within =
    let sign : get_or word (position_or_len is_equals_sign word) 0 ≡ 61 = eqb-true _ _ (passes_at_first is_equals_sign word 0 within) in
    split_at_first is_equals_sign word 0 within ∙ ap (λ (b : ℕ). before_first is_equals_sign word ++ b ∷ after_first is_equals_sign word) sign

made_setting : List ℕ → Value → NamedValue
made_setting column value = record { column = column; value = value }

pub setting_of-is : (word : List ℕ) (setting : NamedValue) → setting_of word ≡ Some setting → IsSetting word setting
unfolding made_setting
setting_of-is word setting e =
    let h = and_then-is (λ column. option_map (made_setting column) (value_of_text (after_first is_equals_sign word))) (name_of (before_first is_equals_sign word)) setting e in
    let k = option_map-is (made_setting h.0) (value_of_text (after_first is_equals_sign word)) setting h.2 in
    let name = name_of-is (before_first is_equals_sign word) h.0 h.1 in
    subst (IsSetting word) k.2 (record {
      literal = after_first is_equals_sign word;
      spelled = parted word (sign_within word k.0 k.1) ∙ ap (λ (x : List ℕ). x ++ 61 ∷ after_first is_equals_sign word) name.0;
      named = name.1;
      meant = value_of_text-IsLiteral (after_first is_equals_sign word) k.0 k.1;
    })

pub setting_of-some : (word : List ℕ) (setting : NamedValue) → IsSetting word setting → setting_of word ≡ Some setting
unfolding made_setting
setting_of-some word setting is =
    let before : before_first is_equals_sign word ≡ setting.column = ap (before_first is_equals_sign) is.spelled ∙ before_sign setting.column is.literal is.named in
    let after : after_first is_equals_sign word ≡ is.literal = ap (after_first is_equals_sign) is.spelled ∙ after_sign setting.column is.literal is.named in
    let name : name_of (before_first is_equals_sign word) ≡ Some setting.column = ap name_of before ∙ name_of-some setting.column is.named in
    let value : value_of_text (after_first is_equals_sign word) ≡ Some setting.value = ap value_of_text after ∙ IsLiteral-value_of_text is.literal setting.value is.meant in
    ap (option_and_then (λ column. option_map (made_setting column) (value_of_text (after_first is_equals_sign word)))) name
    ∙ ap (option_map (made_setting setting.column)) value

pub settings_in-is : (number : ℕ) (words : List (List ℕ)) (settings : List NamedValue) → settings_in number words ≡ Ok settings → AreSettings words settings
settings_in-is number [] [] e = tt
settings_in-is number [] (setting ∷ settings) e = absurd cc
settings_in-is number (word ∷ words) settings e =
    let h = then-is (made_out number (setting_of word)) _ settings e in
    let k = then-is (settings_in (number + 1) words) _ settings h.2 in
    let same : h.0 ∷ k.0 ≡ settings = cc in
    subst (AreSettings (word ∷ words)) same (setting_of-is word h.0 (made_out-is number (setting_of word) h.0 h.1), settings_in-is (number + 1) words k.0 k.1)

pub settings_in-some : (number : ℕ) (words : List (List ℕ)) (settings : List NamedValue) → AreSettings words settings → settings_in number words ≡ Ok settings
settings_in-some number [] [] are = refl
settings_in-some number [] (setting ∷ settings) are = absurd are
settings_in-some number (word ∷ words) [] are = absurd are
settings_in-some number (word ∷ words) (setting ∷ settings) are =
    then-some (made_out number (setting_of word)) _ setting (Ok (setting ∷ settings)) (made_out-some number (setting_of word) setting (setting_of-some word setting are.0))
    (then-some (settings_in (number + 1) words) _ settings (Ok (setting ∷ settings)) (settings_in-some (number + 1) words settings are.1) refl)
