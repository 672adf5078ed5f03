-- Readers read exactly the values of their forms: plain values and lists.
use Rattle.std.proofs.Common.{◌≡◌, ◌∙◌, ◌^◌, ◌+◌, ℕ, suc, zero, ℤ, pos, List, [], ◌∷◌, Bool, cond, Option, Some, None, Ok, Err, refl, sym, ap, subst, arith}
use Rattle.std.specs.Prelude.{nat_lt}
use Rattle.std.proofs.lemmas.Bool.{ltb-true, lt-ltb}
use Rattle.serde_json.specs.Data.{Data, Num, unsigned, negative, float, null, boolean, number, string, array, object, Items, no_items, item}
use Rattle.serde_json.specs.Find.{get, as_i64, as_str, as_array}
use Rattle.merge_json.specs.Reading.{◌>>=◌, Reader, field_at, whole_at, below_at, signed_at, bit_at, each_at, list_at, placed, mapped_result, numbered_at}
use Rattle.merge_json.specs.Written.{whole}
use Rattle.merge_json.specs.Forms.{HasMember, AreEach, IsList, HasBadMember, IsWhole, IsBelow, IsInteger, IsSigned, IsBit}
use Rattle.merge_json.proofs.Readers.{some_same, none_by, cond_some, bind_some, placed_ok, mapped_ok, mapped_err}

-- the reader reads just the values of the form
pub record IsForm {A : Type 0} (read : Reader A) (Is : A → Data → Type 0) : Type 0 where
  pub found : (d : Data) (x : A) → read d ≡ Some x → Is x d
  pub only : (d : Data) (x : A) → Is x d → read d ≡ Some x

pub string_is : (d : Data) (text : List ℕ) → as_str d ≡ Some text → d ≡ string text
string_is null text e = absurd cc
string_is (boolean b) text e = absurd cc
string_is (number n) text e = absurd cc
string_is (string s) text e = ap (λ (l : List ℕ). string l) (some_same s text e)
string_is (array ds) text e = absurd cc
string_is (object ms) text e = absurd cc

pub array_is : (d : Data) (ds : Items) → as_array d ≡ Some ds → d ≡ array ds
array_is null ds e = absurd cc
array_is (boolean b) ds e = absurd cc
array_is (number n) ds e = absurd cc
array_is (string s) ds e = absurd cc
array_is (array es) ds e = ap (λ (l : Items). array l) (some_same es ds e)
array_is (object ms) ds e = absurd cc

-- ---- numbers

pub whole_found : (d : Data) (n : ℕ) → whole_at d ≡ Some n → d ≡ whole n
unfolding whole_at
whole_found null n e = absurd cc
whole_found (boolean b) n e = absurd cc
whole_found (number (unsigned m)) n e = ap (λ (k : ℕ). whole k) (some_same m n e)
whole_found (number (negative z)) n e = absurd cc
whole_found (number (float x)) n e = absurd cc
whole_found (string s) n e = absurd cc
whole_found (array ds) n e = absurd cc
whole_found (object ms) n e = absurd cc

pub whole_only : (d : Data) (n : ℕ) → d ≡ whole n → whole_at d ≡ Some n
unfolding whole_at
whole_only d n is = rw is refl

pub whole_form : IsForm whole_at (λ n d. IsWhole n d)
whole_form = record { found = whole_found; only = whole_only }

below_found : (limit : ℕ) (d : Data) (n : ℕ) → below_at limit d ≡ Some n → IsBelow limit n d
unfolding below_at
below_found limit d n e =
    let s = bind_some (whole_at d) (λ k. cond (nat_lt k limit) (Some k) None) n e in
    let t = cond_some (nat_lt s.0 limit) s.0 n s.2 in
    subst (λ (k : ℕ). IsBelow limit k d) t.1 (ltb-true s.0 limit t.0, whole_found d s.0 s.1)

below_only : (limit : ℕ) (d : Data) (n : ℕ) → IsBelow limit n d → below_at limit d ≡ Some n
unfolding below_at
below_only limit d n is = rw (whole_only d n is.1, lt-ltb n limit is.0) refl

pub below_form : (limit : ℕ) → IsForm (below_at limit) (λ n d. IsBelow limit n d)
below_form limit = record { found = below_found limit; only = below_only limit }

pub integer_found : (n : Num) (z : ℤ) → as_i64 n ≡ Some z → IsInteger z n
integer_found (unsigned n) z e = let t = cond_some (nat_lt n (2 ^ 63)) (pos n) z e in (ltb-true n (2 ^ 63) t.0, sym t.1)
integer_found (negative y) z e = sym (some_same y z e)
integer_found (float x) z e = absurd cc

pub integer_only : (n : Num) (z : ℤ) → IsInteger z n → as_i64 n ≡ Some z
integer_only (unsigned n) z is = rw (lt-ltb n (2 ^ 63) is.0) (ap (λ (y : ℤ). Some y) (sym is.1))
integer_only (negative y) z is = ap (λ (x : ℤ). Some x) (sym is)
integer_only (float x) z is = absurd is

signed_found : (d : Data) (z : ℤ) → signed_at d ≡ Some z → IsSigned z d
unfolding signed_at
signed_found null z e = absurd cc
signed_found (boolean b) z e = absurd cc
signed_found (number n) z e = (n, refl, integer_found n z e)
signed_found (string s) z e = absurd cc
signed_found (array ds) z e = absurd cc
signed_found (object ms) z e = absurd cc

signed_only : (d : Data) (z : ℤ) → IsSigned z d → signed_at d ≡ Some z
unfolding signed_at
signed_only d z is = rw is.1 (integer_only is.0 z is.2)

pub signed_form : IsForm signed_at (λ z d. IsSigned z d)
signed_form = record { found = signed_found; only = signed_only }

bit_found : (d : Data) (b : Bool) → bit_at d ≡ Some b → IsBit b d
unfolding bit_at
bit_found null b e = absurd cc
bit_found (boolean a) b e = ap (λ (x : Bool). boolean x) (some_same a b e)
bit_found (number n) b e = absurd cc
bit_found (string s) b e = absurd cc
bit_found (array ds) b e = absurd cc
bit_found (object ms) b e = absurd cc

bit_only : (d : Data) (b : Bool) → IsBit b d → bit_at d ≡ Some b
unfolding bit_at
bit_only d b is = rw is refl

pub bit_form : IsForm bit_at (λ b d. IsBit b d)
bit_form = record { found = bit_found; only = bit_only }

-- ---- members

pub field_form : {A : Type 0} (key : List ℕ) (read : Reader A) (Is : A → Data → Type 0) → IsForm read Is → IsForm (field_at key read) (λ x d. HasMember key Is x d)
field_form key read Is form = record {
  found = λ d x e. let b = bind_some (get key d) read x e in (b.0, b.1, form.found b.0 x b.2);
  only = λ d x h. rw h.1 (form.only h.0 x h.2);
}

pub whole_member : (key : List ℕ) → IsForm (field_at key whole_at) (λ n d. HasMember key (λ k v. IsWhole k v) n d)
whole_member key = field_form key whole_at (λ n d. IsWhole n d) whole_form

pub below_member : (key : List ℕ) (limit : ℕ) → IsForm (field_at key (below_at limit)) (λ n d. HasMember key (λ k v. IsBelow limit k v) n d)
below_member key limit = field_form key (below_at limit) (λ n d. IsBelow limit n d) (below_form limit)

pub signed_member : (key : List ℕ) → IsForm (field_at key signed_at) (λ z d. HasMember key (λ y v. IsSigned y v) z d)
signed_member key = field_form key signed_at (λ z d. IsSigned z d) signed_form

-- ---- lists, member by member

pub each_found : {A : Type 0} (read : Reader A) (Is : A → Data → Type 0) → IsForm read Is → (ds : Items) (xs : List A) → each_at read ds ≡ Some xs → AreEach Is xs ds
each_found {A = A} read Is form no_items xs e = subst (λ (ys : List A). AreEach Is ys no_items) (some_same [] xs e) tt
each_found {A = A} read Is form (item d ds) xs e =
    let s = bind_some (read d) (λ x. each_at read ds >>= λ ys. Some (x ∷ ys)) xs e in
    let t = bind_some (each_at read ds) (λ ys. Some (s.0 ∷ ys)) xs s.2 in
    subst (λ (ys : List A). AreEach Is ys (item d ds)) (some_same (s.0 ∷ t.0) xs t.2) (form.found d s.0 s.1, each_found read Is form ds t.0 t.1)

pub each_only : {A : Type 0} (read : Reader A) (Is : A → Data → Type 0) → IsForm read Is → (ds : Items) (xs : List A) → AreEach Is xs ds → each_at read ds ≡ Some xs
each_only read Is form no_items [] h = refl
each_only read Is form no_items (x ∷ xs) h = absurd h
each_only read Is form (item d ds) [] h = absurd h
each_only read Is form (item d ds) (x ∷ xs) h = rw (form.only d x h.0, each_only read Is form ds xs h.1) refl

list_found : {A : Type 0} (read : Reader A) (Is : A → Data → Type 0) → IsForm read Is → (d : Data) (xs : List A) → list_at read d ≡ Some xs → IsList Is xs d
list_found read Is form d xs e =
    let s = bind_some (as_array d) (each_at read) xs e in
    (s.0, array_is d s.0 s.1, each_found read Is form s.0 xs s.2)

list_only : {A : Type 0} (read : Reader A) (Is : A → Data → Type 0) → IsForm read Is → (d : Data) (xs : List A) → IsList Is xs d → list_at read d ≡ Some xs
list_only read Is form d xs h = rw h.1 (each_only read Is form h.0 xs h.2)

pub list_form : {A : Type 0} (read : Reader A) (Is : A → Data → Type 0) → IsForm read Is → IsForm (list_at read) (λ xs d. IsList Is xs d)
list_form read Is form = record { found = list_found read Is form; only = list_only read Is form }

pub list_member : {A : Type 0} (key : List ℕ) (read : Reader A) (Is : A → Data → Type 0) → IsForm read Is → IsForm (field_at key (list_at read)) (λ xs d. HasMember key (λ ys v. IsList Is ys v) xs d)
list_member key read Is form = field_form key (list_at read) (λ xs d. IsList Is xs d) (list_form read Is form)

-- ---- numbered members

pub numbered_found : {A : Type 0} (read : Reader A) (Is : A → Data → Type 0) → IsForm read Is → (place : ℕ) (ds : Items) (xs : List A) → numbered_at read place ds ≡ Ok xs → AreEach Is xs ds
numbered_found {A = A} read Is form place no_items xs e = let same : [] ≡ xs = cc in subst (λ (ys : List A). AreEach Is ys no_items) same tt
numbered_found {A = A} read Is form place (item d ds) xs e =
    let s = placed_ok place (read d) (λ x. mapped_result (λ ys. x ∷ ys) (numbered_at read (suc place) ds)) xs e in
    let t = mapped_ok (λ ys. s.0 ∷ ys) (numbered_at read (suc place) ds) xs s.2 in
    subst (λ (ys : List A). AreEach Is ys (item d ds)) t.2 (form.found d s.0 s.1, numbered_found read Is form (suc place) ds t.0 t.1)

pub numbered_only : {A : Type 0} (read : Reader A) (Is : A → Data → Type 0) → IsForm read Is → (place : ℕ) (ds : Items) (xs : List A) → AreEach Is xs ds → numbered_at read place ds ≡ Ok xs
numbered_only read Is form place no_items [] h = refl
numbered_only read Is form place no_items (x ∷ xs) h = absurd h
numbered_only read Is form place (item d ds) [] h = absurd h
numbered_only read Is form place (item d ds) (x ∷ xs) h = rw (form.only d x h.0, numbered_only read Is form (suc place) ds xs h.1) refl

not_some : {A : Type 0} (o : Option A) (x : A) → o ≡ None → o ≡ Some x → ⊥
not_some o x none some = let h : None ≡ Some x = sym none ∙ some in absurd cc

-- the first member without the form has its number
abbrev BadFrom : {A : Type 0} → (A → Data → Type 0) → ℕ → Items → ℕ → Type 0
BadFrom Is place ds n = (k : ℕ) × (n ≡ k + place) × HasBadMember Is k ds

pub numbered_bad : {A : Type 0} (read : Reader A) (Is : A → Data → Type 0) → IsForm read Is → (place : ℕ) (ds : Items) (n : ℕ) → numbered_at read place ds ≡ Err n → BadFrom Is place ds n
numbered_bad read Is form place no_items n e = absurd cc
numbered_bad {A = A} read Is form place (item d ds) n e = by (read d) refl e (numbered_bad read Is form (suc place) ds n)
  where
    by : (o : Option A) → read d ≡ o → placed place o (λ x. mapped_result (λ xs. x ∷ xs) (numbered_at read (suc place) ds)) ≡ Err n → (numbered_at read (suc place) ds ≡ Err n → BadFrom Is (suc place) ds n) → BadFrom Is place (item d ds) n
    by None is f later = let same : place ≡ n = cc in (0, omega (arith, same), λ x h. not_some (read d) x is (form.only d x h))
    by (Some x) is f later =
        let h = later (mapped_err (λ xs. x ∷ xs) (numbered_at read (suc place) ds) n f) in
        (suc h.0, omega (arith, h.1), ((x, form.found d x is), h.2))

pub numbered_bad_only : {A : Type 0} (read : Reader A) (Is : A → Data → Type 0) → IsForm read Is → (place : ℕ) (ds : Items) (k : ℕ) → HasBadMember Is k ds → numbered_at read place ds ≡ Err (k + place)
numbered_bad_only read Is form place no_items k bad = absurd bad
numbered_bad_only read Is form place (item d ds) zero bad =
    let none : read d ≡ None = none_by (read d) (λ x e. bad x (form.found d x e)) in
    rw none (ap (λ (n : ℕ). Err n) (omega arith))
numbered_bad_only read Is form place (item d ds) (suc k) bad =
    let later : numbered_at read (suc place) ds ≡ Err (k + suc place) = numbered_bad_only read Is form (suc place) ds k bad.1 in
    rw (form.only d bad.0.0 bad.0.1, later) (ap (λ (n : ℕ). Err n) (omega arith))
