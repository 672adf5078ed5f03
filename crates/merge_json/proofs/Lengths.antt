-- Messages within the limits of the product have bodies within the limit of bodies.
use Rattle.std.proofs.Common.{◌≡◌, ◌∙◌, ℕ, ◌+◌, ◌-◌, ◌*◌, ◌≤◌, ◌<◌, ◌≢◌, ℤ, List, [], ◌∷◌, map, length, codes, Bool, true, false, cond, Some, None, refl, sym, ap, subst, arith}
use Rattle.std.specs.Prelude.{is_some, nat_le, ◌&&◌, nat_lt}
use Rattle.std.specs.List.{AllByRecursion}
use Rattle.std.proofs.Math.Nat.{mul-suc}
use Rattle.std.proofs.lemmas.Bool.{ne_eqb, le-ltb, leb-true}
use Rattle.std.proofs.lemmas.List.{length-append}
use Rattle.std.proofs.lemmas.List.Elements.{recursion_from_All}
use Rattle.std.proofs.lemmas.List.Sums.{sum_by-cons}
use Rattle.hex.specs.Hex.{encode_lower, is_hex_digit}
use Rattle.hex.proofs.HexLemmas.{decode_of-ok, length-encode_with}
use Rattle.json.specs.Print.{escape_letter, escape_byte, escape, quoted}
use Rattle.serde_json.specs.Data.{Data, number, string, array, Items}
use Rattle.serde_json.specs.View.{items_of}
use Rattle.serde_json.proofs.OnLiterals.{serde_json_on_literals}
use Rattle.merge_types.specs.Length.{stored_length, row_length}
use Rattle.merge_types.specs.Day.{day_text}
use Rattle.merge_types.specs.Guid.{guid_text}
use Rattle.merge_types.proofs.Guids.{length-guid_text}
use Rattle.merge_types.specs.declared.identifiers.Dot.{Dot}
use Rattle.merge_types.specs.declared.values.Value.{Value}
use Rattle.merge_types.specs.declared.values.Value.TheVariants.{Null, Int, Bit, Text, Day, Guid, Bytes}
use Rattle.merge_units.specs.Length.{value_count}
use Rattle.merge_units.specs.Length as units
use Rattle.merge_units.specs.declared.version.Cell.{Cell}
use Rattle.merge_json.specs.Written.{list_of, dot_data, guid_data, tagged_data, value_data, cell_data}
use Rattle.merge_json.specs.Forms.{AreEach, IsList, IsValue, IsCell}
use Rattle.merge_json.proofs.Weights.{weight, items_weight}

-- ---- strings

byte_short : (x : ℕ) → length (escape_byte x) ≤ 6
unfolding escape_byte
byte_short x = by (nat_lt 0 (escape_letter x)) (nat_lt x 32) _ _ _
  where
    by : (a b : Bool) (p q r : ℕ) → length (cond a (92 ∷ p ∷ []) (cond b (92 ∷ 117 ∷ 48 ∷ 48 ∷ q ∷ r ∷ []) (x ∷ []))) ≤ 6
    by true b p q r = omega arith
    by false true p q r = omega arith
    by false false p q r = omega arith

escape_short : (s : List ℕ) → length (escape s) ≤ 6 * length s
escape_short [] = omega arith
escape_short (x ∷ s) = let rest = escape_short s in omega (arith, length-append (escape_byte x) (escape s), byte_short x, rest)

pub string_short : (s : List ℕ) → length (quoted s) ≤ 6 * length s + 2
string_short s = omega (arith, length-append (escape s) (34 ∷ []), escape_short s)

-- a byte that stands in a string as it is
abbrev IsPlain : ℕ → Type 0
IsPlain x = (34 < x) × (x ≢ 92)

plain_byte : (x : ℕ) → IsPlain x → length (escape_byte x) ≡ 1
unfolding escape_byte
plain_byte x plain =
    rw (
      ne_eqb x 34 (omega (arith, plain.0)),
      ne_eqb x 92 plain.1,
      ne_eqb x 8 (omega (arith, plain.0)),
      ne_eqb x 12 (omega (arith, plain.0)),
      ne_eqb x 10 (omega (arith, plain.0)),
      ne_eqb x 13 (omega (arith, plain.0)),
      ne_eqb x 9 (omega (arith, plain.0)),
      le-ltb x 32 (omega (arith, plain.0)),
    ) refl

both_true : (a b : Bool) → (a && b) ≡ true → (a ≡ true) × (b ≡ true)
both_true true b e = (refl, e)
both_true false b e = absurd cc

range_plain : (low high x : ℕ) → (nat_le low x && nat_le x high) ≡ true → 34 < low → (low ≤ 92 → 92 ≤ high → ⊥) → IsPlain x
range_plain low high x e above apart =
    let t = both_true (nat_le low x) (nat_le x high) e in
    let least = leb-true low x t.0 in
    let most = leb-true x high t.1 in
    (omega (arith, least, above), λ same. apart (omega (arith, least, same)) (omega (arith, most, same)))

digit_plain : (x : ℕ) → is_hex_digit x ≡ true → IsPlain x
digit_plain x digit = by (nat_le 65 x && nat_le x 70) (nat_le 97 x && nat_le x 102) (nat_le 48 x && nat_le x 57) refl refl refl digit
  where
    by : (a b c : Bool) → (nat_le 65 x && nat_le x 70) ≡ a → (nat_le 97 x && nat_le x 102) ≡ b → (nat_le 48 x && nat_le x 57) ≡ c
        → is_some (cond a (Some (x - 55)) (cond b (Some (x - 87)) (cond c (Some (x - 48)) None))) ≡ true → IsPlain x
    by true b c p q r e = range_plain 65 70 x p (omega arith) (λ h k. omega (arith, h, k))
    by false true c p q r e = range_plain 97 102 x q (omega arith) (λ h k. omega (arith, h, k))
    by false false true p q r e = range_plain 48 57 x r (omega arith) (λ h k. omega (arith, h, k))
    by false false false p q r e = absurd cc

plain_escape : (s : List ℕ) → AllByRecursion IsPlain s → length (escape s) ≡ length s
plain_escape [] h = refl
plain_escape (x ∷ s) h = let rest = plain_escape s h.1 in omega (arith, length-append (escape_byte x) (escape s), plain_byte x h.0, rest)

plain_string : (s : List ℕ) → AllByRecursion IsPlain s → length (quoted s) ≡ length s + 2
plain_string s h = omega (arith, length-append (escape s) (34 ∷ []), plain_escape s h)

recursion_weaker : {A : Type 0} (P Q : A → Type 0) → ((x : A) → P x → Q x) → (xs : List A) → AllByRecursion P xs → AllByRecursion Q xs
recursion_weaker P Q f [] h = tt
recursion_weaker P Q f (x ∷ xs) h = (f x h.0, recursion_weaker P Q f xs h.1)

pub both_recursion : {A : Type 0} (P Q : A → Type 0) (xs : List A) → AllByRecursion P xs → AllByRecursion Q xs → AllByRecursion (λ x. P x × Q x) xs
both_recursion P Q [] h k = tt
both_recursion P Q (x ∷ xs) h k = ((h.0, k.0), both_recursion P Q xs h.1 k.1)

-- ---- lists

-- the members of a list that was written are of the form, one by one
own_each : {A : Type 0} (Is : A → Data → Type 0) (write : A → Data) (xs : List A) → AreEach Is xs (items_of (map write xs)) → AllByRecursion (λ x. Is x (write x)) xs
own_each Is write [] h = tt
own_each Is write (x ∷ xs) h = (h.0, own_each Is write xs h.1)

array_items : (ds es : Items) → array ds ≡ array es → es ≡ ds
array_items ds es e = cc

pub own_list : {A : Type 0} (Is : A → Data → Type 0) (write : A → Data) (xs : List A) (d : Data) → d ≡ list_of write xs → IsList Is xs d → AllByRecursion (λ x. Is x (write x)) xs
own_list Is write xs d is h =
    let same : items_of (map write xs) ≡ h.0 = array_items h.0 (items_of (map write xs)) (sym h.1 ∙ is) in
    own_each Is write xs (subst (λ (ds : Items). AreEach Is xs ds) (sym same) h.2)

pub items_short : {A : Type 0} (write : A → Data) (P : A → Type 0) (n : ℕ) → ((x : A) → P x → weight (write x) + 1 ≤ n) → (xs : List A) → AllByRecursion P xs → items_weight (items_of (map write xs)) ≤ n * length xs
items_short write P n h [] k = omega arith
items_short write P n h (x ∷ xs) k =
    let rest = items_short write P n h xs k.1 in
    omega (arith, h x k.0, rest, mul-suc n (length xs))

anything : {A : Type 0} (xs : List A) → AllByRecursion (λ x. Unit {0}) xs
anything [] = tt
anything (x ∷ xs) = (tt, anything xs)

pub all_short : {A : Type 0} (write : A → Data) (n : ℕ) → ((x : A) → weight (write x) + 1 ≤ n) → (xs : List A) → items_weight (items_of (map write xs)) ≤ n * length xs
all_short write n h xs = items_short write (λ x. Unit {0}) n (λ x k. h x) xs (anything xs)

pub key_short : (key : List ℕ) → length (quoted key) ≤ 6 * length key + 2
key_short key = string_short key

-- ---- changes

pub dot_short : (dot : Dot) → weight (dot_data dot) + 1 ≤ 45
dot_short dot = omega arith

pub lineage_short : (dots : List Dot) → length dots ≤ 64 → weight (list_of dot_data dots) ≤ 2882
lineage_short dots few = let items = all_short dot_data 45 dot_short dots in omega (arith, items, few)

pub row_short : (n : ℕ) → weight (guid_data n) ≤ 218
row_short n = omega (arith, string_short (guid_text n), length-guid_text n)

-- ---- values

guid_key : length (quoted (codes "guid")) ≡ 6
unfolding escape_byte
guid_key = refl

-- by the number of bytes that are stored, and the number of values
tag_short : (key text : List ℕ) (k n : ℕ) → length (quoted key) ≤ k → length (quoted text) ≤ n → weight (tagged_data key text) ≤ k + n + 4
tag_short key text k n h t = omega (arith, h, t)

day_length : (day : ℤ) → length (day_text day) ≡ 10
unfolding day_text
day_length day = refl

bytes_plain : (bytes : List ℕ) → IsValue (Bytes bytes) (value_data (Bytes bytes)) → length (quoted (encode_lower bytes)) ≡ 2 * length bytes + 2
bytes_plain bytes is =
    let told : tagged_data (codes "bytes") (encode_lower bytes) ≡ tagged_data (codes "bytes") is.0 = is.1 in
    let same : encode_lower bytes ≡ is.0 = cc in
    let ok = decode_of-ok is.0 bytes is.2 in
    let digits = subst (λ (t : List ℕ). AllByRecursion (λ x. is_hex_digit x ≡ true) t) (sym same) (recursion_from_All (λ x. is_hex_digit x ≡ true) is.0 ok.1) in
    plain_string (encode_lower bytes) (recursion_weaker (λ x. is_hex_digit x ≡ true) IsPlain digit_plain (encode_lower bytes) digits)
    ∙ ap (λ (n : ℕ). n + 2) (length-encode_with _ bytes)

value_short : (v : Value) → IsValue v (value_data v) → weight (value_data v) + 1 ≤ 6 * stored_length v + 127
value_short Null is = omega arith
value_short (Int z) is = omega arith
value_short (Bit b) is = omega arith
value_short (Text text) is = omega (arith, string_short text)
value_short (Day day) is = omega (arith, tag_short (codes "day") (day_text day) 20 62 (omega (arith, key_short (codes "day"))) (omega (arith, string_short (day_text day), day_length day)))
value_short (Guid n) is = omega (arith, tag_short (codes "guid") (guid_text n) 6 218 (omega (arith, guid_key)) (row_short n))
value_short (Bytes bytes) is = omega (arith, tag_short (codes "bytes") (encode_lower bytes) 32 (2 * length bytes + 2) (omega (arith, key_short (codes "bytes"))) (omega (arith, bytes_plain bytes is)))

values_short : (vs : List Value) → AllByRecursion (λ v. IsValue v (value_data v)) vs → items_weight (items_of (map value_data vs)) ≤ 6 * row_length vs + 127 * length vs
values_short [] h = omega arith
values_short (v ∷ vs) h =
    let rest = values_short vs h.1 in
    omega (arith, value_short v h.0, rest, sum_by-cons stored_length v vs)

-- ---- cells

abbrev pub OwnCell : Cell → Type 0
OwnCell cell = IsCell cell (cell_data cell)

values_own : (cell : Cell) → OwnCell cell → AllByRecursion (λ v. IsValue v (value_data v)) cell.values
unfolding serde_json_on_literals
values_own cell is =
    let found : Some (list_of value_data cell.values) ≡ Some is.values.0 = is.values.1 in
    let same : is.values.0 ≡ list_of value_data cell.values = cc in
    own_list (λ v d. IsValue v d) value_data cell.values is.values.0 same is.values.2

cell_short : (cell : Cell) → OwnCell cell → weight (cell_data cell) + 1 ≤ 6 * row_length cell.values + 127 * length cell.values + 112
cell_short cell is =
    let values = values_short cell.values (values_own cell is) in
    omega (arith, key_short (codes "top"), key_short (codes "values"), dot_short cell.top, values)

each_cell_short : (cells : List Cell) → AllByRecursion OwnCell cells → items_weight (items_of (map cell_data cells)) ≤ 6 * units.stored_length cells + 127 * value_count cells + 112 * length cells
each_cell_short [] h = omega arith
each_cell_short (cell ∷ cells) h =
    let rest = each_cell_short cells h.1 in
    omega (arith, cell_short cell h.0, rest, sum_by-cons (λ (c : Cell). row_length c.values) cell cells, sum_by-cons (λ (c : Cell). length c.values) cell cells)

pub cells_short : (cells : List Cell) → length cells ≤ 64 → value_count cells ≤ 64 → units.stored_length cells ≤ 8000 → AllByRecursion OwnCell cells → weight (list_of cell_data cells) ≤ 63_298
cells_short cells few values short own = let all = each_cell_short cells own in omega (arith, all, few, values, short)
