-- How long the compact text of a value is at the most.
use Rattle.std.proofs.Common.{◌≡◌, ◌∙◌, ℕ, drop, zero, suc, ◌+◌, ◌^◌, ◌≤◌, ◌<◌, max, pos, List, ◌∷◌, ◌++◌, length, decimal, Bool, true, false, cond, ◌&&◌, Option, Some, None, option_map, option_and_then, Ordering, Less, Equal, Greater, refl, ap, subst, arith}
use Rattle.std.specs.Prelude.{⊤, ◌==◌, slice_index, nat_lt, nat_le, neg_ℤ}
use Rattle.std.specs.Fmt.{signed_decimal}
use Rattle.std.specs.Float.{binary64, float_is_finite}
use Rattle.std.specs.Str.{is_utf8}
use Rattle.std.specs.Ordering.{match_ordering}
use Rattle.std.proofs.lemmas.Bool.{ltb-true, leb-true}
use Rattle.std.proofs.lemmas.Fmt.{length-decimal-le}
use Rattle.std.proofs.lemmas.List.{length-append}
use Rattle.fast_float.specs.Text.{minus, scan, Parts, digits_of, nearest, with_sign}
use Rattle.json.specs.Lex.{tokens}
use Rattle.json.specs.Json as json
use Rattle.json.specs.Print.{quoted}
use Rattle.serde_json.specs.Data.{Data, Num, unsigned, negative, float, null, boolean, number, string, array, object, Items, no_items, item, Members, no_members, member, put}
use Rattle.serde_json.specs.Read.{is_integer, float_of, number_from, number_of, of_json, of_items, of_members, max_depth, read}
use Rattle.serde_json.specs.Written.{number_text, comma_if, compact_text, items_text, members_text}
use Rattle.merge_json.specs.Bodies.{data_at}

-- ---- numbers that were read are short

abbrev AtMost : {A : Type 0} → (A → ℕ) → ℕ → Option A → Type 0
AtMost f n None = ⊤
AtMost f n (Some a) = f a ≤ n

AtMost-map : {A B : Type 0} (f : A → ℕ) (g : B → ℕ) (n : ℕ) (h : A → B) → ((a : A) → f a ≤ n → g (h a) ≤ n) → (o : Option A) → AtMost f n o → AtMost g n (option_map h o)
AtMost-map f g n h k None x = tt
AtMost-map f g n h k (Some a) x = k a x

AtMost-and_then : {A B : Type 0} (f : A → ℕ) (g : B → ℕ) (n : ℕ) (h : A → Option B) → ((a : A) → f a ≤ n → AtMost g n (h a)) → (o : Option A) → AtMost f n o → AtMost g n (option_and_then h o)
AtMost-and_then f g n h k None x = tt
AtMost-and_then f g n h k (Some a) x = k a x

abbrev number_length : Num → ℕ
number_length n = length (number_text n)

unsigned_short : (n : ℕ) → n < 2 ^ 64 → length (decimal n) ≤ 20
unsigned_short n lt = length-decimal-le 20 n (omega arith) (omega (arith, lt)) lt

negative_short : (n : ℕ) → n ≤ 2 ^ 63 → length (signed_decimal (neg_ℤ (pos n))) ≤ 20
negative_short zero le = length-decimal-le 20 0 (omega arith) (omega arith) (omega arith)
negative_short (suc n) le = let digits : length (decimal (suc n)) ≤ 19 = length-decimal-le 19 (suc n) (omega arith) (omega (arith, le)) (omega (arith, le)) in omega (arith, digits)

float_short : (sign : Bool) (p : Parts) → AtMost number_length 20 (float_of sign p)
float_short sign p = by (float_is_finite (nearest binary64 sign p)) (float (nearest binary64 sign p)) (omega arith)
  where
    by : (b : Bool) (x : Num) → number_length x ≤ 20 → AtMost number_length 20 (cond b (Some x) None)
    by true x h = h
    by false x h = tt

two_tests : (a b : Bool) (x y : Option Num) → AtMost number_length 20 y → (b ≡ true → AtMost number_length 20 x) → AtMost number_length 20 (cond (a && b) x y)
two_tests true true x y h k = k refl
two_tests true false x y h k = h
two_tests false b x y h k = h

three_tests : (a b c : Bool) (x y : Option Num) → AtMost number_length 20 y → (c ≡ true → AtMost number_length 20 x) → AtMost number_length 20 (cond (a && b && c) x y)
three_tests true true true x y h k = k refl
three_tests true true false x y h k = h
three_tests true false true x y h k = h
three_tests true false false x y h k = h
three_tests false b c x y h k = h

from_short : (sign : Bool) (p : Parts) → AtMost number_length 20 (number_from sign p)
from_short false p =
    two_tests (is_integer p) (nat_lt (digits_of p) (2 ^ 64)) (Some (unsigned (digits_of p))) (float_of false p) (float_short false p) (λ e. unsigned_short (digits_of p) (ltb-true (digits_of p) (2 ^ 64) e))
from_short true p =
    three_tests (is_integer p) (nat_lt 0 (digits_of p)) (nat_le (digits_of p) (2 ^ 63)) (Some (negative (with_sign true (digits_of p)))) (float_of true p) (float_short true p) (λ e. negative_short (digits_of p) (leb-true (digits_of p) (2 ^ 63) e))

number_short : (s : List ℕ) → AtMost number_length 20 (number_of s)
unfolding number_of
number_short s = by (slice_index s 0 == minus) (number_from true (scan (drop 1 s))) (number_from false (scan s)) (from_short true (scan (drop 1 s))) (from_short false (scan s))
  where
    by : (b : Bool) (x y : Option Num) → AtMost number_length 20 x → AtMost number_length 20 y → AtMost number_length 20 (cond b x y)
    by true x y h k = h
    by false x y h k = k

-- the length of the longest number
abbrev mutual
  pub longest : Data → ℕ
  longest null = 0
  longest (boolean b) = 0
  longest (number n) = number_length n
  longest (string s) = 0
  longest (array ds) = items_longest ds
  longest (object ms) = members_longest ms

  pub items_longest : Items → ℕ
  items_longest no_items = 0
  items_longest (item d ds) = max (longest d) (items_longest ds)

  pub members_longest : Members → ℕ
  members_longest no_members = 0
  members_longest (member k d ms) = max (longest d) (members_longest ms)

by_order : (o : Ordering) (a b c : Members) (n : ℕ) → members_longest a ≤ n → members_longest b ≤ n → members_longest c ≤ n → members_longest (match_ordering o a b c) ≤ n
by_order Less a b c n p q r = p
by_order Equal a b c n p q r = q
by_order Greater a b c n p q r = r

put_short : (k : List ℕ) (d : Data) (ms : Members) (n : ℕ) → longest d ≤ n → members_longest ms ≤ n → members_longest (put k d ms) ≤ n
put_short k d no_members n p q = omega arith
put_short k d (member l e ms) n p q =
    by_order _ (member k d (member l e ms)) (member l d ms) (member l e (put k d ms)) n (omega arith) (omega arith) (omega (arith, put_short k d ms n p (omega arith)))

mutual
  json_short : (j : json.Json) → AtMost longest 20 (of_json j)
  json_short json.null = omega arith
  json_short (json.boolean b) = omega arith
  json_short (json.number s) = AtMost-map number_length longest 20 number (λ a x. x) (number_of s) (number_short s)
  json_short (json.string s) = omega arith
  json_short (json.array js) = AtMost-map items_longest longest 20 array (λ a x. x) (of_items js) (items_json_short js)
  json_short (json.object ms) = AtMost-map members_longest longest 20 object (λ a x. x) (of_members ms no_members) (members_json_short ms no_members (omega arith))

  items_json_short : (js : json.Items) → AtMost items_longest 20 (of_items js)
  items_json_short json.no_items = omega arith
  items_json_short (json.item j js) =
      AtMost-and_then longest items_longest 20 (λ d. option_map (item d) (of_items js)) (λ d x. AtMost-map items_longest items_longest 20 (item d) (λ ds y. omega (arith, x, y)) (of_items js) (items_json_short js)) (of_json j) (json_short j)

  members_json_short : (ms : json.Members) (found : Members) → members_longest found ≤ 20 → AtMost members_longest 20 (of_members ms found)
  members_json_short json.no_members found h = h
  members_json_short (json.member name j ms) found h =
      AtMost-and_then longest members_longest 20 (λ d. of_members ms (put name d found)) (λ d x. members_json_short ms (put name d found) (put_short name d found 20 x h)) (of_json j) (json_short j)

read_short : (o : Option json.Json) → AtMost longest 20 (option_and_then of_json o)
read_short None = tt
read_short (Some j) = json_short j

pub body_short : (body : List ℕ) (d : Data) → data_at body ≡ Some d → longest d ≤ 20
unfolding data_at
body_short body d = by (is_utf8 body) (read body) (read_short (option_and_then (λ p. json.if_last p.0 p.1) (json.value max_depth (tokens body))))
  where
    by : (b : Bool) (o : Option Data) → AtMost longest 20 o → cond b o None ≡ Some d → longest d ≤ 20
    by true (Some c) h e = let same : c ≡ d = cc in subst (λ (v : Data). longest v ≤ 20) same h
    by true None h e = absurd cc
    by false o h e = absurd cc

-- ---- texts of values

abbrev mutual
  pub weight : Data → ℕ
  weight null = 4
  weight (boolean b) = 5
  weight (number n) = 20
  weight (string s) = length (quoted s)
  weight (array ds) = items_weight ds + 2
  weight (object ms) = members_weight ms + 2

  pub items_weight : Items → ℕ
  items_weight no_items = 0
  items_weight (item d ds) = weight d + 1 + items_weight ds

  pub members_weight : Members → ℕ
  members_weight no_members = 0
  members_weight (member k d ms) = length (quoted k) + 2 + weight d + members_weight ms

comma_short : (later : Bool) → length (comma_if later) ≤ 1
comma_short true = omega arith
comma_short false = omega arith

mutual
  pub text_short : (d : Data) → longest d ≤ 20 → length (compact_text d) ≤ weight d
  text_short null h = omega arith
  text_short (boolean true) h = omega arith
  text_short (boolean false) h = omega arith
  text_short (number n) h = h
  text_short (string s) h = omega arith
  text_short (array ds) h = let rest = items_short false ds h in omega (arith, rest)
  text_short (object ms) h = let rest = members_short false ms h in omega (arith, rest)

  items_short : (later : Bool) (ds : Items) → items_longest ds ≤ 20 → length (items_text later ds) ≤ items_weight ds + 1
  items_short later no_items h = omega arith
  items_short later (item d ds) h =
      let first = text_short d (omega (arith, h)) in
      let rest = items_short true ds (omega (arith, h)) in
      let long : length (comma_if later ++ (compact_text d ++ items_text true ds)) ≡ length (comma_if later) + (length (compact_text d) + length (items_text true ds)) =
      length-append (comma_if later) (compact_text d ++ items_text true ds) ∙ ap (λ (n : ℕ). length (comma_if later) + n) (length-append (compact_text d) (items_text true ds)) in
      omega (arith, long, comma_short later, first, rest)

  members_short : (later : Bool) (ms : Members) → members_longest ms ≤ 20 → length (members_text later ms) ≤ members_weight ms + 1
  members_short later no_members h = omega arith
  members_short later (member k d ms) h =
      let first = text_short d (omega (arith, h)) in
      let rest = members_short true ms (omega (arith, h)) in
      let long : length (comma_if later ++ (quoted k ++ 58 ∷ (compact_text d ++ members_text true ms))) ≡ length (comma_if later) + (length (quoted k) + suc (length (compact_text d) + length (members_text true ms))) =
      length-append (comma_if later) (quoted k ++ 58 ∷ (compact_text d ++ members_text true ms))
      ∙ ap (λ (n : ℕ). length (comma_if later) + n) (length-append (quoted k) (58 ∷ (compact_text d ++ members_text true ms))
      ∙ ap (λ (n : ℕ). length (quoted k) + suc n) (length-append (compact_text d) (members_text true ms))) in
      omega (arith, long, comma_short later, first, rest)
