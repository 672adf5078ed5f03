-- 36 characters are read as their number, and nothing else is read as one.
use Rattle.std.proofs.Common.{◌≡◌, ◌∙◌, ℕ, ◌^◌, List, map, Bool, true, false, ◌&&◌, Option, Some, None, refl, sym, ap, subst}
use Rattle.std.specs.Prelude.{bytes_eq, nat_lt}
use Rattle.std.specs.Char.{to_ascii_lowercase}
use Rattle.std.proofs.lemmas.Bool.{ltb-true, lt-ltb}
use Rattle.std.proofs.lemmas.Slice.Eq.{bytes_eq-Decides}
use Rattle.uuid.specs.Text.{parsed}
use Rattle.uuid.proofs.OrderLemmas.{from_be_bytes-to_be_bytes_16}
use Rattle.merge_types.specs.Guid.{IsGuidText, guid_text}
use Rattle.merge_types.proofs.Guids.{parsed-guid_text}
use Rattle.merge_json.specs.Reading.{◌>>=◌}
use Rattle.merge_json.specs.Values.{number_in, guid_printed_as, guid_of}
use Rattle.merge_json.proofs.Readers.{bind_some, cond_some, none_by}

pub guid_is : (text : List ℕ) (n : ℕ) → IsGuidText text n → guid_of text ≡ Some n
unfolding guid_of
guid_is text n is =
    let meant : number_in (parsed (map to_ascii_lowercase text)) ≡ Some n =
    ap (λ (t : List ℕ). number_in (parsed t)) is.spelled ∙ ap number_in (sym (parsed-guid_text n)) ∙ ap (λ (k : ℕ). Some k) (from_be_bytes-to_be_bytes_16 n is.fits) in
    ap (λ (o : Option ℕ). o >>= guid_printed_as text) meant
    ∙ rw (lt-ltb n (2 ^ 128) is.fits, (bytes_eq-Decides (map to_ascii_lowercase text) (guid_text n)).1 is.spelled) refl

both_true : (a b : Bool) → (a && b) ≡ true → (a ≡ true) × (b ≡ true)
both_true true b e = (refl, e)
both_true false b e = absurd cc

printed_only : (text : List ℕ) (k n : ℕ) → guid_printed_as text k ≡ Some n → IsGuidText text n
printed_only text k n e =
    let t = cond_some (nat_lt k (2 ^ 128) && bytes_eq (map to_ascii_lowercase text) (guid_text k)) k n e in
    let tests = both_true (nat_lt k (2 ^ 128)) (bytes_eq (map to_ascii_lowercase text) (guid_text k)) t.0 in
    let is : IsGuidText text k = record { fits = ltb-true k (2 ^ 128) tests.0; spelled = (bytes_eq-Decides (map to_ascii_lowercase text) (guid_text k)).0 tests.1 } in
    subst (IsGuidText text) t.1 is

pub guid_only : (text : List ℕ) (n : ℕ) → guid_of text ≡ Some n → IsGuidText text n
unfolding guid_of
guid_only text n e =
    let s = bind_some (number_in (parsed (map to_ascii_lowercase text))) (guid_printed_as text) n e in
    printed_only text s.0 n s.2

-- and where a text is of no number, none is read
pub no_guid : (text : List ℕ) → ((n : ℕ) → IsGuidText text n → ⊥) → guid_of text ≡ None
no_guid text none = none_by (guid_of text) (λ n e. none n (guid_only text n e))
