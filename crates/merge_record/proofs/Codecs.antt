-- What is written is read again, and what is read was written so: forms for any field.
use Rattle.std.proofs.Common.{◌≡◌, ℕ, ℤ, zero, suc, ◌+◌, ◌%◌, ◌^◌, ◌<◌, ◌≤◌, FitsSigned, Bool, true, false, cond, ltb, List, [], ◌∷◌, ◌++◌, length, get_or, take, drop, Option, Some, None, refl, sym, ap, subst, ◌∙◌, append_assoc, arith, inl, inr}
use Rattle.std.specs.List.{flat_map, AllByRecursion}
use Rattle.std.specs.Int.{Width, w8, w16, w32, w64, byte_len, from_be_bytes, to_be_bytes, cast_signed, cast_unsigned}
use Rattle.std.proofs.lemmas.Bool.{cases_lt, ltb-false, le-ltb}
use Rattle.std.proofs.lemmas.List.{take_at, drop_at, take-append-drop, length-append, length-take, get_or-drop, get_or-take, get_or_past, append-nil}
use Rattle.std.proofs.lemmas.Nat.{be_bytes_2, be_bytes_4, be_bytes_8, from_be_bytes-to_be_bytes_2, from_be_bytes-to_be_bytes_4, from_be_bytes-to_be_bytes_8}
use Rattle.std.proofs.lemmas.Int.{of_z-to_z, to_z-of_z}
use mir.Val.{bits}
use mir.Facts.{Fits-of_z, Fits-lt-pow, sfits_to_z}
use Rattle.merge_record.specs.Codec.{IsBytes, Takes, IsCodec, IsRecord, AreRecords, counted_bytes, string_bytes_of, signed_bytes, AreCounted, IsShort, IsBelow}
use Rattle.merge_record.specs.Reading.{◌>>=◌, Reader, both_at, pair_at, many_at, number_at, counted_at, tested_at, wrapped_at, signed_at, string_at, whole_of}

pub IsBytes-drop : (n : ℕ) (bytes : List ℕ) → IsBytes bytes → IsBytes (drop n bytes)
IsBytes-drop n bytes h i = rw get_or-drop (h (n + i))

pub IsBytes-take : (n : ℕ) (bytes : List ℕ) → IsBytes bytes → IsBytes (take n bytes)
IsBytes-take n bytes h i =
    elim (cases_lt i n) [
      | inl lt ↦ rw (get_or-take n bytes i 0 lt) (h i)
      | inr le ↦ rw (get_or_past (take n bytes) i 0 (omega (arith, length-take n bytes))) (omega arith)
    ]

-- the value of a step that did not fail
pub bind_some : {A B : Type 0} (r : Option A) (f : A → Option B) (y : B) → (r >>= f) ≡ Some y → (x : A) × (r ≡ Some x) × (f x ≡ Some y)
bind_some (Some x) f y e = (x, refl, e)
bind_some None f y e = absurd cc

pub guard_some : {A : Type 0} (b : Bool) (x y : A) → cond b None (Some x) ≡ Some y → (b ≡ false) × (x ≡ y)
guard_some true x y e = absurd cc
guard_some false x y e = (refl, cc)

pub tested_some : {A : Type 0} (b : Bool) (x y : A) → cond b (Some x) None ≡ Some y → (b ≡ true) × (x ≡ y)
tested_some true x y e = (refl, cc)
tested_some false x y e = absurd cc

abbrev some : {A : Type 0} → A → Option A
some x = Some x

pub some_is : {A : Type 0} (x y : A) → some x ≡ some y → x ≡ y
some_is x y e = cc

pub Takes-then : (a x b y c : List ℕ) → Takes a x b → Takes b y c → Takes a (x ++ y) c
Takes-then a x b y c p q = record { parts = p.parts ∙ ap (λ (t : List ℕ). x ++ t) q.parts ∙ sym (append_assoc x y c); rest_fits = q.rest_fits }

-- ---- two fields

pub both : {A B C : Type 0} (s : A → List ℕ) (t : B → List ℕ) (r : Reader A) (q : Reader B) (F : A → Type 0) (G : B → Type 0) (make : A → B → C) (first : C → A) (second : C → B)
    → ((c : C) → make (first c) (second c) ≡ c) → ((a : A) (b : B) → first (make a b) ≡ a) → ((a : A) (b : B) → second (make a b) ≡ b)
    → IsCodec s r F → IsCodec t q G → IsCodec (λ c. s (first c) ++ t (second c)) (both_at make r q) (λ c. F (first c) × G (second c))
both {C = C} s t r q F G make first second whole one two p g = record {
  again = λ c rest fits.
      ap (both_at make r q) (append_assoc (s (first c)) (t (second c)) rest)
      ∙ rw (p.again (first c) (t (second c) ++ rest) fits.0, g.again (second c) rest fits.1) (ap (λ (z : C). Some (z, rest)) (whole c));
  takes = λ bytes bs c rest e.
      let b = bind_some (r bytes) (λ x. q x.1 >>= λ y. Some (make x.0 y.0, y.1)) (c, rest) e in
      let d = bind_some (q b.0.1) (λ y. Some (make b.0.0 y.0, y.1)) (c, rest) b.2 in
      let h = p.takes bytes bs b.0.0 b.0.1 b.1 in
      let k = g.takes b.0.1 h.0.rest_fits d.0.0 d.0.1 d.1 in
      subst (λ (z : C × List ℕ). Takes bytes (s (first z.0) ++ t (second z.0)) z.1 × (F (first z.0) × G (second z.0))) (some_is (make b.0.0 d.0.0, d.0.1) (c, rest) d.2)
      (rw (one b.0.0 d.0.0, two b.0.0 d.0.0) (Takes-then bytes (s b.0.0) b.0.1 (t d.0.0) d.0.1 h.0 k.0, (h.1, k.1)));
}

-- a pair
pub paired : {A B : Type 0} (s : A → List ℕ) (t : B → List ℕ) (r : Reader A) (q : Reader B) (F : A → Type 0) (G : B → Type 0) → IsCodec s r F → IsCodec t q G
    → IsCodec (λ (p : A × B). s p.0 ++ t p.1) (pair_at r q) (λ (p : A × B). F p.0 × G p.1)
paired {A = A} {B = B} s t r q F G p g = both s t r q F G (λ (a : A) (b : B). (a, b)) (λ (c : A × B). c.0) (λ (c : A × B). c.1) (λ c. refl) (λ a b. refl) (λ a b. refl) p g

-- ---- so many members

module _ {A : Type 0} (s : A → List ℕ) (r : Reader A) (F : A → Type 0) (p : IsCodec s r F) where
  many_again : (xs : List A) (rest : List ℕ) → AllByRecursion F xs → many_at r (length xs) (flat_map s xs ++ rest) ≡ Some (xs, rest)
  many_again [] rest h = refl
  many_again (x ∷ xs) rest h =
      ap (many_at r (suc (length xs))) (append_assoc (s x) (flat_map s xs) rest)
      ∙ rw (p.again x (flat_map s xs ++ rest) h.0, many_again xs rest h.1) refl

  many_takes : (n : ℕ) (bytes : List ℕ) → IsBytes bytes → (xs : List A) (rest : List ℕ) → many_at r n bytes ≡ Some (xs, rest) → Takes bytes (flat_map s xs) rest × AllByRecursion F xs × (length xs ≡ n)
  many_takes zero bytes bs xs rest e =
      let z = some_is ([], bytes) (xs, rest) e in
      subst (λ (z : List A × List ℕ). Takes bytes (flat_map s z.0) z.1 × AllByRecursion F z.0 × (length z.0 ≡ 0)) z (record { parts = refl; rest_fits = bs }, tt, refl)
  many_takes (suc n) bytes bs xs rest e =
      let b = bind_some (r bytes) (λ x. many_at r n x.1 >>= λ y. Some (x.0 ∷ y.0, y.1)) (xs, rest) e in
      let d = bind_some (many_at r n b.0.1) (λ y. Some (b.0.0 ∷ y.0, y.1)) (xs, rest) b.2 in
      let h = p.takes bytes bs b.0.0 b.0.1 b.1 in
      let k = many_takes n b.0.1 h.0.rest_fits d.0.0 d.0.1 d.1 in
      subst (λ (z : List A × List ℕ). Takes bytes (flat_map s z.0) z.1 × AllByRecursion F z.0 × (length z.0 ≡ suc n)) (some_is (b.0.0 ∷ d.0.0, d.0.1) (xs, rest) d.2)
      (Takes-then bytes (s b.0.0) b.0.1 (flat_map s d.0.0) d.0.1 h.0 k.0, (h.1, k.1), ap suc k.2)

-- ---- numbers

pub record IsWide (w : Width) (limit : ℕ) : Type 0 where
  pub len : (n : ℕ) → length (to_be_bytes w n) ≡ byte_len w
  pub back : (bytes : List ℕ) → length bytes ≡ byte_len w → IsBytes bytes → to_be_bytes w (from_be_bytes w bytes) ≡ bytes
  pub again : (n : ℕ) → n < limit → from_be_bytes w (to_be_bytes w n) ≡ n
  pub below : (bytes : List ℕ) → IsBytes bytes → from_be_bytes w bytes < limit

one_byte : (bytes : List ℕ) → length bytes ≡ 1 → IsBytes bytes → to_be_bytes w8 (from_be_bytes w8 bytes) ≡ bytes
one_byte [] len fits = absurd (omega arith)
one_byte (b ∷ []) len fits =
    let lt : b < 256 = fits 0 in
    let same : b % 256 ≡ b = omega arith in
    ap (λ (n : ℕ). n ∷ []) same
one_byte (b ∷ c ∷ bytes) len fits = absurd (omega arith)

pub wide8 : IsWide w8 (2 ^ 8)
wide8 = record {
  len = λ n. refl;
  back = one_byte;
  again = λ n lt. omega arith;
  below = λ bytes fits. omega (arith, fits 0);
}

pub wide16 : IsWide w16 (2 ^ 16)
wide16 = record {
  len = λ n. refl;
  back = λ bytes len fits. be_bytes_2 bytes _ len fits refl;
  again = λ n lt. from_be_bytes-to_be_bytes_2 n lt;
  below = λ bytes fits. omega (arith, fits 0, fits 1);
}

pub wide32 : IsWide w32 (2 ^ 32)
wide32 = record {
  len = λ n. refl;
  back = λ bytes len fits. be_bytes_4 bytes _ len fits refl;
  again = λ n lt. from_be_bytes-to_be_bytes_4 n lt;
  below = λ bytes fits. omega (arith, fits 0, fits 1, fits 2, fits 3);
}

pub wide64 : IsWide w64 (2 ^ 64)
wide64 = record {
  len = λ n. refl;
  back = λ bytes len fits. be_bytes_8 bytes _ len fits refl;
  again = λ n lt. from_be_bytes-to_be_bytes_8 n lt;
  below = λ bytes fits. omega (arith, fits 0, fits 1, fits 2, fits 3, fits 4, fits 5, fits 6, fits 7);
}

number_takes : (w : Width) (limit : ℕ) (wide : IsWide w limit) (bytes : List ℕ) → IsBytes bytes → (n : ℕ) (rest : List ℕ) → number_at w bytes ≡ Some (n, rest) → Takes bytes (to_be_bytes w n) rest × (n < limit)
number_takes w limit wide bytes fits n rest e =
    let g = guard_some (ltb (length bytes) (byte_len w)) (from_be_bytes w (take (byte_len w) bytes), drop (byte_len w) bytes) (n, rest) e in
    let long : byte_len w ≤ length bytes = ltb-false _ _ g.0 in
    let n-is : from_be_bytes w (take (byte_len w) bytes) ≡ n = ap (λ (p : ℕ × List ℕ). p.0) g.1 in
    let rest-is : drop (byte_len w) bytes ≡ rest = ap (λ (p : ℕ × List ℕ). p.1) g.1 in
    let front : to_be_bytes w n ≡ take (byte_len w) bytes = rw (← n-is) (wide.back (take (byte_len w) bytes) (omega (arith, length-take (byte_len w) bytes)) (IsBytes-take (byte_len w) bytes fits)) in
    (record { parts = rw (front, ← rest-is) (sym (take-append-drop (byte_len w) bytes)); rest_fits = rw (← rest-is) (IsBytes-drop (byte_len w) bytes fits) }, rw (← n-is) (wide.below (take (byte_len w) bytes) (IsBytes-take (byte_len w) bytes fits)))

number_again : (w : Width) (limit : ℕ) (wide : IsWide w limit) (n : ℕ) (rest : List ℕ) → n < limit → number_at w (to_be_bytes w n ++ rest) ≡ Some (n, rest)
number_again w limit wide n rest lt =
    let len = wide.len n in
    let long : ltb (length (to_be_bytes w n ++ rest)) (byte_len w) ≡ false = le-ltb _ _ (omega (arith, length-append (to_be_bytes w n) rest)) in
    rw (long, take_at (to_be_bytes w n) rest (byte_len w) len, drop_at (to_be_bytes w n) rest (byte_len w) len, wide.again n lt) refl

pub number : (w : Width) (limit : ℕ) (wide : IsWide w limit) → IsCodec (to_be_bytes w) (number_at w) (IsBelow limit)
number w limit wide = record { again = number_again w limit wide; takes = number_takes w limit wide }

-- ---- a count, and so many members

pub counted_is : {A : Type 0} (w : Width) (limit : ℕ) (wide : IsWide w limit) (s : A → List ℕ) (r : Reader A) (F : A → Type 0) → IsCodec s r F → IsCodec (counted_bytes w s) (counted_at w r) (AreCounted limit F)
counted_is {A = A} w limit wide s r F p = record {
  again = λ xs rest fits.
      ap (counted_at w r) (append_assoc (to_be_bytes w (length xs)) (flat_map s xs) rest)
      ∙ again_step xs rest fits.0 fits.1;
  takes = λ bytes bs xs rest e.
      let b = bind_some (number_at w bytes) (λ n. many_at r n.0 n.1) (xs, rest) e in
      let h = number_takes w limit wide bytes bs b.0.0 b.0.1 b.1 in
      let k = many_takes s r F p b.0.0 b.0.1 h.0.rest_fits xs rest b.2 in
      let len : b.0.0 ≡ length xs = sym k.2 in
      (subst (λ (n : ℕ). Takes bytes (to_be_bytes w n ++ flat_map s xs) rest) len (Takes-then bytes (to_be_bytes w b.0.0) b.0.1 (flat_map s xs) rest h.0 k.0), (subst (λ (n : ℕ). n < limit) len h.1, k.1));
}
  where
    again_step : (xs : List A) (rest : List ℕ) → length xs < limit → AllByRecursion F xs → counted_at w r (to_be_bytes w (length xs) ++ (flat_map s xs ++ rest)) ≡ Some (xs, rest)
    again_step xs rest lt h = rw (number_again w limit wide (length xs) (flat_map s xs ++ rest) lt) (many_again s r F p xs rest h)

-- ---- a test

pub tested : {A : Type 0} (s : A → List ℕ) (r : Reader A) (F : A → Type 0) (test : A → Bool) → IsCodec s r F → IsCodec s (tested_at test r) (λ a. F a × (test a ≡ true))
tested {A = A} s r F test p = record {
  again = λ a rest fits. rw (p.again a rest fits.0, fits.1) refl;
  takes = λ bytes bs a rest e.
      let b = bind_some (r bytes) (λ x. cond (test x.0) (Some x) None) (a, rest) e in
      let g = tested_some (test b.0.0) b.0 (a, rest) b.2 in
      let h = p.takes bytes bs b.0.0 b.0.1 b.1 in
      subst (λ (z : A × List ℕ). Takes bytes (s z.0) z.1 × (F z.0 × (test z.0 ≡ true))) g.1 (h.0, (h.1, g.0));
}

-- ---- a field in another form

pub wrapped : {A B : Type 0} (s : A → List ℕ) (r : Reader A) (F : A → Type 0) (make : A → B) → IsCodec s r F → (bytes : List ℕ) → IsBytes bytes → (b : B) (rest : List ℕ)
    → wrapped_at make r bytes ≡ Some (b, rest) → (a : A) × (make a ≡ b) × Takes bytes (s a) rest × F a
wrapped {A = A} {B = B} s r F make p bytes bs b rest e =
    let d = bind_some (r bytes) (λ x. Some (make x.0, x.1)) (b, rest) e in
    let h = p.takes bytes bs d.0.0 d.0.1 d.1 in
    let z = some_is (make d.0.0, d.0.1) (b, rest) d.2 in
    (d.0.0, ap (λ (z : B × List ℕ). z.0) z, subst (λ (l : List ℕ). Takes bytes (s d.0.0) l) (ap (λ (z : B × List ℕ). z.1) z) h.0, h.1)

-- ---- strings

string_takes : (bytes : List ℕ) → IsBytes bytes → (text rest : List ℕ) → string_at bytes ≡ Some (text, rest) → Takes bytes (string_bytes_of text) rest × (length text < 2 ^ 16)
string_takes bytes fits text rest e =
    let b = bind_some (number_at w16 bytes) (λ n. cond (ltb (length n.1) n.0) None (Some (take n.0 n.1, drop n.0 n.1))) (text, rest) e in
    let n = b.0 in
    let t = number_takes w16 (2 ^ 16) wide16 bytes fits n.0 n.1 b.1 in
    let g = guard_some (ltb (length n.1) n.0) (take n.0 n.1, drop n.0 n.1) (text, rest) b.2 in
    let long : n.0 ≤ length n.1 = ltb-false _ _ g.0 in
    let len : length (take n.0 n.1) ≡ n.0 = omega (arith, length-take n.0 n.1) in
    let second : Takes n.1 (take n.0 n.1) (drop n.0 n.1) = record { parts = sym (take-append-drop n.0 n.1); rest_fits = IsBytes-drop n.0 n.1 t.0.rest_fits } in
    let whole : Takes bytes (string_bytes_of (take n.0 n.1)) (drop n.0 n.1) = subst (λ (k : ℕ). Takes bytes (to_be_bytes w16 k ++ take n.0 n.1) (drop n.0 n.1)) (sym len) (Takes-then bytes (to_be_bytes w16 n.0) n.1 (take n.0 n.1) (drop n.0 n.1) t.0 second) in
    subst (λ (p : List ℕ × List ℕ). Takes bytes (string_bytes_of p.0) p.1 × (length p.0 < 2 ^ 16)) g.1 (whole, omega (arith, t.1))

string_again : (text rest : List ℕ) → length text < 2 ^ 16 → string_at (string_bytes_of text ++ rest) ≡ Some (text, rest)
string_again text rest lt =
    let long : ltb (length (text ++ rest)) (length text) ≡ false = le-ltb _ _ (omega (arith, length-append text rest)) in
    rw (number_again w16 (2 ^ 16) wide16 (length text) (text ++ rest) lt, long, take_at text rest (length text) refl, drop_at text rest (length text) refl) refl

pub string_is : IsCodec string_bytes_of string_at IsShort
string_is = record { again = string_again; takes = string_takes }

-- ---- signed numbers

pub signed : (w : Width) (wide : IsWide w (2 ^ bits w)) → IsCodec (signed_bytes w) (signed_at w) (FitsSigned w)
signed w wide =
    let num = number w (2 ^ bits w) wide in
    record {
      again = λ z rest fits. rw (num.again (cast_unsigned w z) rest (Fits-lt-pow (Fits-of_z fits)), to_z-of_z w z fits) refl;
      takes = λ bytes bs z rest e.
          let d = wrapped (to_be_bytes w) (number_at w) (IsBelow (2 ^ bits w)) (cast_signed w) num bytes bs z rest e in
          subst (λ (y : ℤ). Takes bytes (to_be_bytes w (cast_unsigned w y)) rest × FitsSigned w y) d.1 (rw (of_z-to_z w d.0 d.3) (d.2, sfits_to_z {w = w} {n = d.0} (record { fits = d.3 })));
    }

-- ---- a value in another form, and pairs

-- a record of which a value is another form
pub mapped : {A B : Type 0} (s : A → List ℕ) (r : Reader A) (F : A → Type 0) (make : A → B) (part : B → A) → ((b : B) → make (part b) ≡ b) → ((a : A) → part (make a) ≡ a)
    → IsCodec s r F → IsCodec (λ b. s (part b)) (wrapped_at make r) (λ b. F (part b))
mapped {A = A} {B = B} s r F make part whole one p = record {
  again = λ b rest fits. rw (p.again (part b) rest fits) (ap (λ (z : B). Some (z, rest)) (whole b));
  takes = λ bytes bs b rest e.
      let d = wrapped s r F make p bytes bs b rest e in
      let same : d.0 ≡ part b = sym (one d.0) ∙ ap part d.1 in
      (subst (λ (a : A). Takes bytes (s a) rest) same d.2, subst F same d.3);
}

-- ---- whole records

whole_some : {A : Type 0} (o : Option (A × List ℕ)) (a : A) → whole_of o ≡ Some a → o ≡ Some (a, [])
whole_some None a e = absurd cc
whole_some {A = A} (Some (x, [])) a e = ap (λ (y : A). Some (y, [])) (some_is x a e)
whole_some (Some (x, b ∷ rest)) a e = absurd cc

pub record_found : {A : Type 0} (s : A → List ℕ) (r : Reader A) (F : A → Type 0) → IsCodec s r F → (bytes : List ℕ) → IsBytes bytes → (a : A) → whole_of (r bytes) ≡ Some a → IsRecord s F bytes a
record_found s r F p bytes bs a e =
    let h = p.takes bytes bs a [] (whole_some (r bytes) a e) in
    (h.1, h.0.parts ∙ append-nil (s a))

pub record_again : {A : Type 0} (s : A → List ℕ) (r : Reader A) (F : A → Type 0) → IsCodec s r F → (bytes : List ℕ) (a : A) → IsRecord s F bytes a → whole_of (r bytes) ≡ Some a
record_again s r F p bytes a h = ap (λ (l : List ℕ). whole_of (r l)) (h.1 ∙ sym (append-nil (s a))) ∙ ap whole_of (p.again a [] h.0)

pub record_only : {A : Type 0} (s : A → List ℕ) (r : Reader A) (F : A → Type 0) → IsCodec s r F → (bytes : List ℕ) → whole_of (r bytes) ≡ None → (a : A) → IsRecord s F bytes a → ⊥
record_only s r F p bytes e a h = let q = sym e ∙ record_again s r F p bytes a h in absurd cc

pub are_records : {A : Type 0} (s : A → List ℕ) (r : Reader A) (F : A → Type 0) → IsCodec s r F → AreRecords s r F
are_records {A = A} s r F p = record {
  back = λ a fits. record_again s r F p (s a) a (fits, refl);
  found = record_found s r F p;
  none = record_only s r F p;
  one_value = λ bytes a b h g. some_is a b (sym (record_again s r F p bytes a h) ∙ record_again s r F p bytes b g);
  one_record = λ bytes other a h g. h.1 ∙ sym g.1;
}
