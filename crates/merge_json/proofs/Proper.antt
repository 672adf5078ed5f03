-- What is read can be sent: its days lie in the calendar's years, and its refusals are told.
use Rattle.std.proofs.Common.{◌≡◌, ◌==◌, ℕ, suc, ℤ, List, [], ◌∷◌, codes, Bool, true, false, cond, Option, Some, None, Ok, subst}
use Rattle.std.specs.Prelude.{All}
use Rattle.std.proofs.lemmas.List.Elements.{All-nil, All-cons}
use Rattle.hex.specs.Hex.{decode_of}
use Rattle.serde_json.specs.Data.{Data, null, boolean, number, string, array, object, Items, no_items, item, Num}
use Rattle.serde_json.specs.Find.{get, as_i64, as_str, as_array}
use Rattle.merge_types.specs.declared.values.Value.{Value}
use Rattle.merge_types.specs.declared.values.Value.TheVariants.{Null, Int, Bit, Text, Day, Guid, Bytes}
use Rattle.merge_types.specs.Day.{IsDay}
use Rattle.merge_types.specs.Literal.{IsProper}
use Rattle.merge_units.specs.declared.version.Cell.{Cell}
use Rattle.merge_json.specs.Reading.{◌>>=◌, Reader, each_at, list_at, mapped_result, numbered_at}
use Rattle.merge_json.specs.Days.{day_of}
use Rattle.merge_json.specs.Values.{guid_of, when_ok, bytes_at, day_at, guid_at, tag_at, count_of, tagged_at, int_at, value_at}
use Rattle.merge_json.specs.Rows.{dot_at, cell_at}
use Rattle.merge_json.specs.Sendable.{HasProperDays}
use Rattle.merge_json.proofs.DayTexts.{day_proper}
use Rattle.merge_json.proofs.Readers.{bind_some, placed_ok, mapped_ok, some_same}

pub each_all : {A : Type 0} (read : Reader A) (P : A → Type 0) → ((d : Data) (x : A) → read d ≡ Some x → P x) → (ds : Items) (xs : List A) → each_at read ds ≡ Some xs → All P xs
each_all read P h no_items xs e = subst (All P) (some_same [] xs e) (All-nil P)
each_all read P h (item d ds) xs e =
    let s = bind_some (read d) (λ x. each_at read ds >>= λ ys. Some (x ∷ ys)) xs e in
    let t = bind_some (each_at read ds) (λ ys. Some (s.0 ∷ ys)) xs s.2 in
    subst (All P) (some_same (s.0 ∷ t.0) xs t.2) (All-cons P s.0 t.0 (h d s.0 s.1) (each_all read P h ds t.0 t.1))

pub list_all_read : {A : Type 0} (read : Reader A) (P : A → Type 0) → ((d : Data) (x : A) → read d ≡ Some x → P x) → (d : Data) (xs : List A) → list_at read d ≡ Some xs → All P xs
list_all_read read P h d xs e = let s = bind_some (as_array d) (each_at read) xs e in each_all read P h s.0 xs s.2

pub numbered_all : {A : Type 0} (read : Reader A) (P : A → Type 0) → ((d : Data) (x : A) → read d ≡ Some x → P x) → (place : ℕ) (ds : Items) (xs : List A) → numbered_at read place ds ≡ Ok xs → All P xs
numbered_all read P h place no_items xs e = let same : [] ≡ xs = cc in subst (All P) same (All-nil P)
numbered_all read P h place (item d ds) xs e =
    let s = placed_ok place (read d) (λ x. mapped_result (λ ys. x ∷ ys) (numbered_at read (suc place) ds)) xs e in
    let t = mapped_ok (λ ys. s.0 ∷ ys) (numbered_at read (suc place) ds) xs s.2 in
    subst (All P) t.2 (All-cons P s.0 t.0 (h d s.0 s.1) (numbered_all read P h (suc place) ds t.0 t.1))

no_bytes : (d : Data) (z : ℤ) → bytes_at d ≡ Some (Day z) → ⊥
unfolding bytes_at
no_bytes d z e =
    let s = bind_some (as_str d) (λ text. when_ok (decode_of text) >>= λ bytes. Some (Bytes bytes)) (Day z) e in
    let t = bind_some (when_ok (decode_of s.0)) (λ bytes. Some (Bytes bytes)) (Day z) s.2 in
    let same : Some (Bytes t.0) ≡ Some (Day z) = t.2 in absurd cc

no_guid : (d : Data) (z : ℤ) → guid_at d ≡ Some (Day z) → ⊥
unfolding guid_at
no_guid d z e =
    let s = bind_some (as_str d) (λ text. guid_of text >>= λ n. Some (Guid n)) (Day z) e in
    let t = bind_some (guid_of s.0) (λ n. Some (Guid n)) (Day z) s.2 in
    let same : Some (Guid t.0) ≡ Some (Day z) = t.2 in absurd cc

no_int : (n : Num) (z : ℤ) → int_at n ≡ Some (Day z) → ⊥
unfolding int_at
no_int n z e =
    let s = bind_some (as_i64 n) (λ y. Some (Int y)) (Day z) e in
    let same : Some (Int s.0) ≡ Some (Day z) = s.2 in absurd cc

a_day : (d : Data) (z : ℤ) → day_at d ≡ Some (Day z) → IsDay z
unfolding day_at
a_day d z e =
    let s = bind_some (as_str d) (λ text. day_of text >>= λ day. Some (Day day)) (Day z) e in
    let t = bind_some (day_of s.0) (λ day. Some (Day day)) (Day z) s.2 in
    let same : Some (Day t.0) ≡ Some (Day z) = t.2 in
    let is : t.0 ≡ z = cc in
    subst IsDay is (day_proper s.0 t.0 t.1)

tag_day : (bytes day guid : Option Data) (z : ℤ) → tag_at bytes day guid ≡ Some (Day z) → IsDay z
tag_day (Some d) day guid z e = absurd (no_bytes d z e)
tag_day None (Some d) guid z e = a_day d z e
tag_day None None (Some d) z e = absurd (no_guid d z e)
tag_day None None None z e = absurd cc

tagged_day : (d : Data) (z : ℤ) → tagged_at d ≡ Some (Day z) → IsDay z
unfolding tagged_at
tagged_day d z e =
    let s = bind_some (count_of d) (λ n. cond (n == 1) (tag_at (get (codes "bytes") d) (get (codes "day") d) (get (codes "guid") d)) None) (Day z) e in
    by (s.0 == 1) s.2
  where
    by : (b : Bool) → cond b (tag_at (get (codes "bytes") d) (get (codes "day") d) (get (codes "guid") d)) None ≡ Some (Day z) → IsDay z
    by true f = tag_day (get (codes "bytes") d) (get (codes "day") d) (get (codes "guid") d) z f
    by false f = absurd cc

value_day : (d : Data) (z : ℤ) → value_at d ≡ Some (Day z) → IsDay z
unfolding value_at
value_day null z e = absurd cc
value_day (boolean b) z e = absurd cc
value_day (number n) z e = absurd (no_int n z e)
value_day (string text) z e = absurd cc
value_day (array ds) z e = absurd cc
value_day (object ms) z e = tagged_day (object ms) z e

pub value_proper : (d : Data) (v : Value) → value_at d ≡ Some v → IsProper v
value_proper d Null e = tt
value_proper d (Int z) e = tt
value_proper d (Bit b) e = tt
value_proper d (Text text) e = tt
value_proper d (Day z) e = value_day d z e
value_proper d (Guid n) e = tt
value_proper d (Bytes bytes) e = tt

pub cell_proper : (d : Data) (cell : Cell) → cell_at d ≡ Some cell → HasProperDays cell
unfolding cell_at
cell_proper d cell e =
    let s = bind_some (get (codes "top") d >>= dot_at) (λ top. (get (codes "values") d >>= list_at value_at) >>= λ values. Some (record { top = top; values = values })) cell e in
    let t = bind_some (get (codes "values") d >>= list_at value_at) (λ values. Some (record { top = s.0; values = values })) cell s.2 in
    let u = bind_some (get (codes "values") d) (list_at value_at) t.0 t.1 in
    subst HasProperDays (some_same (record { top = s.0; values = t.0 }) cell t.2) (list_all_read value_at IsProper value_proper u.0 t.0 u.2)
