-- A literal is read as its value, and nothing else is read.
use Rattle.std.proofs.Common.{◌≡◌, ℕ, ◌⊎◌, inl, inr, List, true, false, Option, Some, None, refl, sym, ap, subst, ◌∙◌}
use Rattle.std.specs.Prelude.{codes, option_map, IfSome, IfNone}
use Rattle.merge_types.specs.declared.values.Value.{Value}
use Rattle.merge_types.specs.declared.values.Value.TheVariants.{Null, Int, Bit, Text, Day, Guid, Bytes}
use Rattle.merge_types.specs.Literal.{IsLiteral}
use Rattle.merge_types.proofs.Unique.{one_value}
use Rattle.merge_model.specs.Script.Literals.{bytes_of_text, day_of_text, guid_of_text, int_of_text, or_else, quoted_of_text, same, some_if, value_of_text, value_of_word}
use Rattle.merge_model.proofs.Script.ReadDays.{day_of_text-IsDayText, IsDayText-day_of_text}
use Rattle.merge_model.proofs.Script.ReadLiterals.{bytes_of_text-IsBytesText, guid_of_text-IsGuidText, int_of_text-IsIntText, IsBytesText-bytes_of_text, IsGuidText-guid_of_text, IsIntText-int_of_text, option_map-is, same_text, some_if-is}
use Rattle.merge_model.proofs.Script.ReadTexts.{quoted_of_text-IsQuoted, IsQuoted-quoted_of_text}

pub or_else-is : {A : Type 0} (o : Option A) (next : Unit {0} → Option A) (x : A) → or_else o next ≡ Some x → (o ≡ Some x) ⊎ (next tt ≡ Some x)
or_else-is (Some y) next x e = inl e
or_else-is None next x e = inr e

pub or_else-none : {A : Type 0} (o : Option A) (next : Unit {0} → Option A) → or_else o next ≡ None → (o ≡ None) × (next tt ≡ None)
or_else-none (Some y) next e = absurd cc
or_else-none None next e = (refl, e)

word_is : (text word : List ℕ) (value v : Value) → (text ≡ word → IsLiteral text value) → some_if (same text word) value ≡ Some v → IsLiteral text v
word_is text word value v literal e = let h = some_if-is (same text word) value v e in subst (IsLiteral text) h.1 (literal (same_text text word h.0))

value_of_word-is : (text : List ℕ) (v : Value) → value_of_word text ≡ Some v → IsLiteral text v
value_of_word-is text v e = elim (or_else-is (some_if (same text (codes "null")) Null) _ v e) [
  | inl null ↦ word_is text (codes "null") Null v (λ h. h) null
  | inr bits ↦ elim (or_else-is (some_if (same text (codes "true")) (Bit true)) _ v bits) [
    | inl on ↦ word_is text (codes "true") (Bit true) v (λ h. h) on
    | inr off ↦ word_is text (codes "false") (Bit false) v (λ h. h) off
  ]
]

mapped : {A : Type 0} (text : List ℕ) (make : A → Value) (o : Option A) (v : Value) → ((x : A) → o ≡ Some x → IsLiteral text (make x)) → option_map make o ≡ Some v → IsLiteral text v
mapped text make o v literal e = let h = option_map-is make o v e in subst (IsLiteral text) h.2 (literal h.0 h.1)

pub value_of_text-IsLiteral : (text : List ℕ) (v : Value) → value_of_text text ≡ Some v → IsLiteral text v
value_of_text-IsLiteral text v e = elim (or_else-is (value_of_word text) _ v e) [
  | inl word ↦ value_of_word-is text v word
  | inr e ↦ elim (or_else-is (option_map (λ number. Int number) (int_of_text text)) _ v e) [
    | inl int ↦ mapped text (λ number. Int number) (int_of_text text) v (int_of_text-IsIntText text) int
    | inr e ↦ elim (or_else-is (option_map (λ day. Day day) (day_of_text text)) _ v e) [
      | inl day ↦ mapped text (λ day. Day day) (day_of_text text) v (day_of_text-IsDayText text) day
      | inr e ↦ elim (or_else-is (option_map (λ number. Guid number) (guid_of_text text)) _ v e) [
        | inl guid ↦ mapped text (λ number. Guid number) (guid_of_text text) v (guid_of_text-IsGuidText text) guid
        | inr e ↦ elim (or_else-is (option_map (λ bytes. Text bytes) (quoted_of_text text)) _ v e) [
          | inl quoted ↦ mapped text (λ bytes. Text bytes) (quoted_of_text text) v (quoted_of_text-IsQuoted text) quoted
          | inr bytes ↦ mapped text (λ bytes. Bytes bytes) (bytes_of_text text) v (bytes_of_text-IsBytesText text) bytes
        ]
      ]
    ]
  ]
]

-- no reader reads the text
record ReadsNothing (text : List ℕ) : Type 0 where
  word : value_of_word text ≡ None
  int : option_map (λ number. Int number) (int_of_text text) ≡ None
  day : option_map (λ day. Day day) (day_of_text text) ≡ None
  guid : option_map (λ number. Guid number) (guid_of_text text) ≡ None
  quoted : option_map (λ bytes. Text bytes) (quoted_of_text text) ≡ None
  bytes : option_map (λ bytes. Bytes bytes) (bytes_of_text text) ≡ None

reads_nothing : (text : List ℕ) → value_of_text text ≡ None → ReadsNothing text
reads_nothing text e =
    let word = or_else-none (value_of_word text) _ e in
    let int = or_else-none (option_map (λ number. Int number) (int_of_text text)) _ word.1 in
    let day = or_else-none (option_map (λ day. Day day) (day_of_text text)) _ int.1 in
    let guid = or_else-none (option_map (λ number. Guid number) (guid_of_text text)) _ day.1 in
    let quoted = or_else-none (option_map (λ bytes. Text bytes) (quoted_of_text text)) _ guid.1 in
    record { word = word.0; int = int.0; day = day.0; guid = guid.0; quoted = quoted.0; bytes = quoted.1 }

some_and_none : {A : Type 0} (o : Option A) (x : A) → o ≡ Some x → o ≡ None → ⊥
some_and_none o x some none = let h : Some x ≡ None = sym some ∙ none in cc

map_some : {A : Type 0} (make : A → Value) (o : Option A) (x : A) → o ≡ Some x → option_map make o ≡ None → ⊥
map_some make o x some none = some_and_none (option_map make o) (make x) (ap (option_map make) some) none

no_literal : (text : List ℕ) (v : Value) → ReadsNothing text → IsLiteral text v → ⊥
no_literal text Null nothing is = some_and_none (value_of_word text) Null (ap value_of_word is) nothing.word
no_literal text (Bit true) nothing is = some_and_none (value_of_word text) (Bit true) (ap value_of_word is) nothing.word
no_literal text (Bit false) nothing is = some_and_none (value_of_word text) (Bit false) (ap value_of_word is) nothing.word
no_literal text (Int number) nothing is = map_some (λ number. Int number) (int_of_text text) number (IsIntText-int_of_text text number is) nothing.int
no_literal text (Day day) nothing is = map_some (λ day. Day day) (day_of_text text) day (IsDayText-day_of_text text day is) nothing.day
no_literal text (Guid number) nothing is = map_some (λ number. Guid number) (guid_of_text text) number (IsGuidText-guid_of_text text number is) nothing.guid
no_literal text (Text bytes) nothing is = map_some (λ bytes. Text bytes) (quoted_of_text text) bytes (IsQuoted-quoted_of_text text bytes is) nothing.quoted
no_literal text (Bytes bytes) nothing is = map_some (λ bytes. Bytes bytes) (bytes_of_text text) bytes (IsBytesText-bytes_of_text text bytes is) nothing.bytes

pub IsLiteral-value_of_text : (text : List ℕ) (v : Value) → IsLiteral text v → value_of_text text ≡ Some v
IsLiteral-value_of_text text v is = by (value_of_text text) refl
  where
    by : (read : Option Value) → value_of_text text ≡ read → value_of_text text ≡ Some v
    by (Some w) e = e ∙ ap (λ (x : Value). Some x) (one_value text w v (value_of_text-IsLiteral text w e) is)
    by None e = absurd (no_literal text v (reads_nothing text e) is)

-- what is read exactly where the text is a literal is what the function reads
pub value_read-is : (text : List ℕ) (read : Option Value) → IfSome read (IsLiteral text) → IfNone read ((v : Value) → IsLiteral text v → ⊥) → read ≡ value_of_text text
value_read-is text (Some v) some none = sym (IsLiteral-value_of_text text v some)
value_read-is text None some none = by (value_of_text text) refl
  where
    by : (o : Option Value) → value_of_text text ≡ o → None ≡ value_of_text text
    by (Some v) e = absurd (none v (value_of_text-IsLiteral text v e))
    by None e = sym e
