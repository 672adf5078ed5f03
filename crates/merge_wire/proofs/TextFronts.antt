-- Bytes that more bytes can make a text: what is behind their last whole character begins one.
use Rattle.std.proofs.Common.{◌≡◌, ◌∙◌, ◌↔◌, ◌≤◌, ◌<◌, ◌+◌, ◌-◌, ◌*◌, ◌/◌, ◌&&◌, ◌==◌, ℕ, Bool, true, false, not, cond, nat_lt, List, [], ◌∷◌, ◌++◌, length, take, drop, Option, Some, None, is_some, IsTrue, IsUtf8, encode_utf8_all, refl, sym, ap, subst, inl, inr, arith, append-nil, append_assoc, take-append-drop, length-append, length-drop}
use lib.Utf8.{scalars, next}
use Rattle.std.specs.Char.{IsScalar, encode_utf8}
use Rattle.std.specs.Int.{is_in_range}
use Rattle.std.specs.Str.{IsValidUpTo, IsErrorLen}
use Rattle.std.specs.Str.Lossy.{utf8_error_len, second_byte_min, second_byte_max}
use Rattle.std.proofs.lemmas.Bool.Decides.{nat_tests, leb_tells, eqb_tells}
use Rattle.std.proofs.lemmas.List.{take_at, take-append-le, drop-append-le, take-take, drop-take}
use Rattle.std.proofs.lemmas.List.Elements.{All-nil, All-cons}
use Rattle.std.proofs.lemmas.List.Sums.{AllPass-from_list_all}
use Rattle.std.proofs.lemmas.Str.{IsUtf8-append, IsUtf8-drop, IsUtf8-encode, IsCharBoundary-from_take, length-encode, len_utf8_bounds}
use Rattle.httparse.specs.Grammar.{AllPass, is_uri_byte}
use Rattle.merge_wire.specs.Heads.{BeginsText}

ltb_false : (a b : ℕ) → b ≤ a → nat_lt a b ≡ false
ltb_false a b h = grind (arith, nat_tests)

ltb_true : (a b : ℕ) → a < b → nat_lt a b ≡ true
ltb_true a b h = grind (arith, nat_tests)

-- a first byte of a character of more than one byte, and one that may follow it
abbrev leads : ℕ → Bool
leads a = is_in_range 0xC2 0xF4 a

abbrev follows : ℕ → ℕ → Bool
follows a b = is_in_range (second_byte_min a) (second_byte_max a) b

-- a byte behind them
abbrev continues : ℕ → Bool
continues x = is_in_range 0x80 0xBF x

-- the same byte by byte
abbrev may_follow : ℕ → ℕ → Bool
may_follow a b =
    cond (a == 0xE0) (is_in_range 0xA0 0xBF b)
    (cond (a == 0xED) (is_in_range 0x80 0x9F b)
    (cond (a == 0xF0) (is_in_range 0x90 0xBF b)
    (cond (a == 0xF4) (is_in_range 0x80 0x8F b)
    (is_in_range 0x80 0xBF b))))

may : (a b : ℕ) → follows a b ≡ may_follow a b
may a b = grind (arith, nat_tests)

-- ---- what begins a character can be finished

two_bytes : (a b : ℕ) → 0xC2 ≤ a → a < 0xE0 → 0x80 ≤ b → b < 0xC0 → IsUtf8 (a ∷ b ∷ [])
unfolding encode_utf8
two_bytes a b h1 h2 h3 h4 =
    let c = (a - 192) * 64 + (b - 128) in
    let is : encode_utf8 c ≡ a ∷ b ∷ [] = rw (ltb_false c 128 (omega arith), ltb_true c 2048 (omega arith)) (grind arith) in
    subst IsUtf8 is (IsUtf8-encode c (grind (arith, nat_tests)))

three_bytes : (a b x : ℕ) → 0xE0 ≤ a → a < 0xF0 → may_follow a b ≡ true → 0x80 ≤ x → x < 0xC0 → IsUtf8 (a ∷ b ∷ x ∷ [])
unfolding encode_utf8
three_bytes a b x h1 h2 second h3 h4 =
    let c = (a - 224) * 4096 + (b - 128) * 64 + (x - 128) in
    let range : (128 ≤ b) × (b < 192) × (2048 ≤ c) × IsScalar c = grind (arith, nat_tests) in
    let is : encode_utf8 c ≡ a ∷ b ∷ x ∷ [] =
    rw (ltb_false c 128 (omega arith), ltb_false c 2048 range.2, ltb_true c 65536 (omega arith)) (grind arith) in
    subst IsUtf8 is (IsUtf8-encode c range.3)

four_bytes : (a b x y : ℕ) → 0xF0 ≤ a → a ≤ 0xF4 → may_follow a b ≡ true → 0x80 ≤ x → x < 0xC0 → 0x80 ≤ y → y < 0xC0 → IsUtf8 (a ∷ b ∷ x ∷ y ∷ [])
unfolding encode_utf8
four_bytes a b x y h1 h2 second h3 h4 h5 h6 =
    let c = (a - 240) * 262144 + (b - 128) * 4096 + (x - 128) * 64 + (y - 128) in
    let range : (128 ≤ b) × (b < 192) × (65536 ≤ c) × IsScalar c = grind (arith, nat_tests) in
    let is : encode_utf8 c ≡ a ∷ b ∷ x ∷ y ∷ [] =
    rw (ltb_false c 128 (omega arith), ltb_false c 2048 (omega arith), ltb_false c 65536 range.2) (grind arith) in
    subst IsUtf8 is (IsUtf8-encode c range.3)

none_more : AllPass is_uri_byte []
none_more = All-nil (λ b. is_uri_byte b ≡ true)

one_more : AllPass is_uri_byte (128 ∷ [])
one_more = AllPass-from_list_all is_uri_byte (128 ∷ []) refl

two_more : AllPass is_uri_byte (128 ∷ 128 ∷ [])
two_more = AllPass-from_list_all is_uri_byte (128 ∷ 128 ∷ []) refl

finish_three : (a b x : ℕ) → leads a ≡ true → may_follow a b ≡ true → continues x ≡ true → (IsUtf8 (a ∷ b ∷ []) → ⊥) → BeginsText (a ∷ b ∷ x ∷ [])
finish_three a b x first second third no_two =
    elim (leb_tells 0xF0 a) [
      | inl p ↦ (128 ∷ [], one_more, four_bytes a b x 128 p.1 (grind (arith, nat_tests)) second (grind (arith, nat_tests)) (grind (arith, nat_tests)) (omega arith) (omega arith))
      | inr p ↦ elim (leb_tells 0xE0 a) [
        | inl q ↦ ([], none_more, three_bytes a b x q.1 p.1 second (grind (arith, nat_tests)) (grind (arith, nat_tests)))
        | inr q ↦ absurd (no_two (two_bytes a b (grind (arith, nat_tests)) q.1 (grind (arith, nat_tests)) (grind (arith, nat_tests))))
      ]
    ]

finish_two : (a b : ℕ) → leads a ≡ true → may_follow a b ≡ true → BeginsText (a ∷ b ∷ [])
finish_two a b first second =
    elim (leb_tells 0xF0 a) [
      | inl p ↦ (128 ∷ 128 ∷ [], two_more, four_bytes a b 128 128 p.1 (grind (arith, nat_tests)) second (omega arith) (omega arith) (omega arith) (omega arith))
      | inr p ↦ elim (leb_tells 0xE0 a) [
        | inl q ↦ (128 ∷ [], one_more, three_bytes a b 128 q.1 p.1 second (omega arith) (omega arith))
        | inr q ↦ ([], none_more, two_bytes a b (grind (arith, nat_tests)) q.1 (grind (arith, nat_tests)) (grind (arith, nat_tests)))
      ]
    ]

least_follows : (a : ℕ) → may_follow a (second_byte_min a) ≡ true
least_follows a = grind (arith, nat_tests)

least_passes : (a : ℕ) → is_uri_byte (second_byte_min a) ≡ true
least_passes a = grind (arith, nat_tests)

finish_one : (a : ℕ) → leads a ≡ true → BeginsText (a ∷ [])
finish_one a first =
    let two = finish_two a (second_byte_min a) first (least_follows a) in
    (second_byte_min a ∷ two.0, All-cons (λ b. is_uri_byte b ≡ true) (second_byte_min a) two.0 (least_passes a) two.1, two.2)

told : (b : Bool) (o : Option ℕ) (k : ℕ) → cond b o (Some k) ≡ None → (b ≡ true) × (o ≡ None)
told true o k e = (refl, e)
told false o k e = absurd (cc)

untold : (b : Bool) (o : Option ℕ) (k : ℕ) → b ≡ true → o ≡ None → cond b o (Some k) ≡ None
untold true o k is e = e
untold false o k is e = absurd (cc)

-- the fault from the second byte on, and from the third
abbrev at_second : ℕ → ℕ → Option ℕ → Option ℕ
at_second a b behind = cond (follows a b) behind (Some 1)

abbrev at_third : ℕ → Option ℕ
at_third x = cond (continues x) None (Some 2)

-- what no character begins, and is not at fault
finishes : (tail : List ℕ) → 0 < length tail → length tail < 4 → ((n : ℕ) → 0 < n → ¬ (IsUtf8 (take n tail))) → utf8_error_len tail ≡ None → BeginsText tail
unfolding utf8_error_len
finishes [] some few none e = absurd (omega (arith, some))
finishes (a ∷ []) some few none e = finish_one a (told (leads a) None 1 e).0
finishes (a ∷ b ∷ []) some few none e =
    let p = told (leads a) (at_second a b None) 1 e in
    finish_two a b p.0 (sym (may a b) ∙ (told (follows a b) None 1 p.1).0)
finishes (a ∷ b ∷ x ∷ []) some few none e =
    let p = told (leads a) (at_second a b (at_third x)) 1 e in
    let q = told (follows a b) (at_third x) 1 p.1 in
    finish_three a b x p.0 (sym (may a b) ∙ q.0) (told (continues x) None 2 q.1).0 (none 2 (omega arith))
finishes (a ∷ b ∷ x ∷ y ∷ rest) some few none e = absurd (omega (arith, few))

-- ---- a proper front of a character is not at fault

whole_one : (a : ℕ) → leads a ≡ true → utf8_error_len (a ∷ []) ≡ None
unfolding utf8_error_len
whole_one a first = untold (leads a) None 1 first refl

whole_two : (a b : ℕ) → leads a ≡ true → may_follow a b ≡ true → utf8_error_len (a ∷ b ∷ []) ≡ None
unfolding utf8_error_len
whole_two a b first second = untold (leads a) (at_second a b None) 1 first (untold (follows a b) None 1 (may a b ∙ second) refl)

whole_three : (a b x : ℕ) → leads a ≡ true → may_follow a b ≡ true → continues x ≡ true → utf8_error_len (a ∷ b ∷ x ∷ []) ≡ None
unfolding utf8_error_len
whole_three a b x first second third =
    untold (leads a) (at_second a b (at_third x)) 1 first (untold (follows a b) (at_third x) 1 (may a b ∙ second) (untold (continues x) None 2 third refl))

front_of_two : (c k : ℕ) → 128 ≤ c → c < 2048 → 0 < k → k < length (encode_utf8 c) → utf8_error_len (take k (encode_utf8 c)) ≡ None
unfolding encode_utf8
front_of_two c k low high some short =
    let one : k ≡ 1 = omega (arith, rw (ltb_false c 128 low, ltb_true c 2048 high) at short) in
    rw (one, ltb_false c 128 low, ltb_true c 2048 high) (whole_one (192 + c / 64) (grind (arith, nat_tests)))

front_of_three : (c k : ℕ) → IsScalar c → 2048 ≤ c → c < 65536 → 0 < k → k < length (encode_utf8 c) → utf8_error_len (take k (encode_utf8 c)) ≡ None
unfolding encode_utf8
front_of_three c k scalar low high some short =
    let wide = ltb_false c 128 (omega arith) in
    let below : k < 3 = rw (wide, ltb_false c 2048 low, ltb_true c 65536 high) at short in
    rw (wide, ltb_false c 2048 low, ltb_true c 65536 high)
    (elim (eqb_tells k 1) [
      | inl p ↦ rw p.1 (whole_one (224 + c / 4096) (grind (arith, nat_tests)))
      | inr p ↦ let two : k ≡ 2 = omega arith in rw two (whole_two (224 + c / 4096) (next (c / 64)) (grind (arith, nat_tests)) (grind (arith, nat_tests)))
    ])

front_of_four : (c k : ℕ) → IsScalar c → 65536 ≤ c → 0 < k → k < length (encode_utf8 c) → utf8_error_len (take k (encode_utf8 c)) ≡ None
unfolding encode_utf8
front_of_four c k scalar low some short =
    let wide = ltb_false c 128 (omega arith) in
    let wider = ltb_false c 2048 (omega arith) in
    let high : c < 1114112 = grind (arith, nat_tests) in
    let below : k < 4 = rw (wide, wider, ltb_false c 65536 low) at short in
    rw (wide, wider, ltb_false c 65536 low)
    (elim (eqb_tells k 1) [
      | inl p ↦ rw p.1 (whole_one (240 + c / 262144) (grind (arith, nat_tests)))
      | inr p ↦ elim (eqb_tells k 2) [
        | inl q ↦ rw q.1 (whole_two (240 + c / 262144) (next (c / 4096)) (grind (arith, nat_tests)) (grind (arith, nat_tests)))
        | inr q ↦ let three : k ≡ 3 = omega arith in rw three (whole_three (240 + c / 262144) (next (c / 4096)) (next (c / 64)) (grind (arith, nat_tests)) (grind (arith, nat_tests)) (grind (arith, nat_tests)))
      ]
    ])

front_of_char : (c k : ℕ) → IsScalar c → 0 < k → k < length (encode_utf8 c) → utf8_error_len (take k (encode_utf8 c)) ≡ None
front_of_char c k scalar some short =
    elim (leb_tells 65536 c) [
      | inl p ↦ front_of_four c k scalar p.1 some short
      | inr p ↦ elim (leb_tells 2048 c) [
        | inl q ↦ front_of_three c k scalar q.1 p.1 some short
        | inr q ↦ elim (leb_tells 128 c) [
          | inl r ↦ front_of_two c k r.1 q.1 some short
          | inr r ↦ absurd (omega (arith, rw (length-encode c, ltb_true c 128 r.1) at short))
        ]
      ]
    ]

and_true : (a b : Bool) → (a && b) ≡ true → (a ≡ true) × (b ≡ true)
and_true true b h = (refl, h)
and_true false b h = absurd (cc h)

-- the bytes begin a text and no front of them is text, so they end inside its first character
front_of_text : (tail rest cs : List ℕ) → 0 < length tail → scalars cs ≡ true → encode_utf8_all cs ≡ tail ++ rest
    → ((n : ℕ) → 0 < n → ¬ (IsUtf8 (take n tail))) → utf8_error_len tail ≡ None
front_of_text tail rest [] some scalar is none = absurd (omega (arith, ap length is, length-append tail rest))
front_of_text tail rest (c ∷ cs) some scalar is none =
    let char = encode_utf8 c in
    let first = (and_true _ _ scalar).0 in
    elim (leb_tells (length char) (length tail)) [
      | inl p ↦
          let front : char ≡ take (length char) tail =
          sym (take_at char (encode_utf8_all cs) (length char) refl) ∙ ap (take (length char)) is ∙ take-append-le (length char) tail rest p.1 in
          absurd (none (length char) (omega (arith, length-encode c, len_utf8_bounds c)) (subst IsUtf8 front (IsUtf8-encode c first)))
      | inr p ↦
          let front : take (length tail) char ≡ tail =
          sym (take-append-le (length tail) char (encode_utf8_all cs) (omega arith)) ∙ ap (take (length tail)) is ∙ take_at tail rest (length tail) refl in
          subst (λ xs. utf8_error_len xs ≡ None) front (front_of_char c (length tail) first some p.1)
    ]

-- ---- bytes that are no text

-- text after text is text
after : (bytes : List ℕ) (v n : ℕ) → IsUtf8 (take v bytes) → IsUtf8 (take n (drop v bytes)) → IsUtf8 (take (v + n) bytes)
after bytes v n front back =
    subst IsUtf8 (take-append-drop v (take (v + n) bytes))
    (IsUtf8-append (take v (take (v + n) bytes)) (drop v (take (v + n) bytes)) (rw (take-take v (v + n) bytes (omega arith)) front) (rw drop-take back))

none_behind : (bytes : List ℕ) (v : ℕ) → IsValidUpTo bytes v → (n : ℕ) → 0 < n → ¬ (IsUtf8 (take n (drop v bytes)))
none_behind bytes v valid n some text = valid.longest (v + n) (omega arith) (after bytes v n valid.front text)

begins : (bytes : List ℕ) (v : ℕ) → IsValidUpTo bytes v → IsErrorLen bytes v None → utf8_error_len (drop v bytes) ≡ None → BeginsText bytes
begins bytes v valid few e =
    let tail = finishes (drop v bytes) (omega (arith, length-drop v bytes, valid.short)) (omega (arith, length-drop v bytes, few)) (none_behind bytes v valid) e in
    (tail.0, tail.1, subst IsUtf8 (sym (append_assoc (take v bytes) (drop v bytes) tail.0) ∙ ap (λ xs. xs ++ tail.0) (take-append-drop v bytes)) (IsUtf8-append _ _ valid.front tail.2))

unfaulted : (bytes : List ℕ) (v : ℕ) → IsValidUpTo bytes v → BeginsText bytes → utf8_error_len (drop v bytes) ≡ None
unfaulted bytes v valid (more, uri, whole) =
    let inside : v ≤ length bytes = omega (arith, valid.short) in
    let seam = IsCharBoundary-from_take (bytes ++ more) v whole (omega (arith, length-append bytes more, inside)) (rw (take-append-le v bytes more inside) valid.front) in
    let back : IsUtf8 (drop v bytes ++ more) = rw (← drop-append-le v bytes more inside) (IsUtf8-drop (bytes ++ more) v whole seam) in
    front_of_text (drop v bytes) more back.0 (omega (arith, length-drop v bytes, valid.short)) back.1.0 back.1.1 (none_behind bytes v valid)

-- where they are at fault, more bytes do not help
pub text_or_fault : (bytes : List ℕ) (v : ℕ) (len : Option ℕ) (whole : Bool) → IsValidUpTo bytes v → IsErrorLen bytes v len → len ≡ utf8_error_len (drop v bytes) → is_some len ≡ not whole → IsTrue whole ↔ BeginsText bytes
text_or_fault bytes v None true valid few is says = (λ _. begins bytes v valid few (sym is), λ _. refl)
text_or_fault bytes v None false valid few is says = absurd (cc)
text_or_fault bytes v (Some k) true valid few is says = absurd (cc)
text_or_fault bytes v (Some k) false valid few is says = (λ is_true. absurd (cc), λ can. let none = unfaulted bytes v valid can in absurd (cc))

pub text_begins : (bytes : List ℕ) → IsUtf8 bytes → BeginsText bytes
text_begins bytes text = ([], none_more, subst IsUtf8 (sym (append-nil bytes)) text)
