-- Versions are read as they are spelled.
use Rattle.std.proofs.Common.{◌≡◌, ℕ, ℤ, zero, suc, ◌%◌, ◌^◌, ◌<◌, FitsSigned, lit<, Bool, true, false, List, [], ◌∷◌, ◌++◌, Option, Some, None, refl, sym, ap, subst, arith}
use Rattle.std.specs.Int.{w8, w16, w32, w64, w128, to_be_bytes}
use Rattle.std.specs.Str.{is_utf8}
use Rattle.merge_types.specs.declared.identifiers.Dot.{Dot}
use Rattle.merge_types.specs.declared.values.Value.{Value}
use Rattle.merge_types.specs.declared.values.Value.TheVariants.{Null, Int, Bit, Text, Day, Guid, Bytes}
use Rattle.merge_lineage.specs.Lineage.{ascending}
use Rattle.merge_units.specs.declared.version.Body.{Body}
use Rattle.merge_units.specs.declared.version.Body.TheVariants.{Live, Dead}
use Rattle.merge_record.specs.Reading.{◌>>=◌, number_at, signed_at, counted_at, string_at}
use Rattle.merge_record.specs.Codec.{IsBytes, Takes, IsCodec, signed_bytes, counted_bytes, string_bytes_of, AreCounted, IsShort, IsBelow}
use Rattle.merge_record.specs.Versions.{site_number, dot_at, dot_bytes, IsDot, lineage_at, lineage_bytes, IsLineage, bit_at, text_at, is_day, day_at, tagged_at, value_at, bit_of, value_bytes, IsValue, top_values, cell_at, cell_bytes, IsCell, body_tagged_at, body_at, body_bytes, IsBody, lineage_body, version_at, version_bytes, IsVersion}
use Rattle.merge_record.proofs.Codecs.{Takes-then, both, number, signed, wide8, wide16, wide32, wide64, counted_is, tested, wrapped, string_is, bind_some, some_is}
use Rattle.merge_record.proofs.Wide.{wide128}

pub dot_is : IsCodec dot_bytes dot_at IsDot
unfolding dot_at
dot_is = both (to_be_bytes w16) (to_be_bytes w64) (number_at w16) (number_at w64) (IsBelow (2 ^ 16)) (IsBelow (2 ^ 64)) site_number (λ d. d.site.0) (λ d. d.number) (λ d. refl) (λ a b. refl) (λ a b. refl)
    (number w16 (2 ^ 16) wide16) (number w64 (2 ^ 64) wide64)

pub lineage_is : IsCodec lineage_bytes lineage_at IsLineage
unfolding lineage_at
lineage_is = tested (counted_bytes w8 dot_bytes) (counted_at w8 dot_at) (AreCounted (2 ^ 8) IsDot) ascending (counted_is w8 (2 ^ 8) wide8 dot_bytes dot_at IsDot dot_is)

text_is : IsCodec string_bytes_of text_at (λ bs. IsShort bs × (is_utf8 bs ≡ true))
unfolding text_at
text_is = tested string_bytes_of string_at IsShort is_utf8 string_is

day_is : IsCodec (signed_bytes w32) day_at (λ z. FitsSigned w32 z × (is_day z ≡ true))
unfolding day_at
day_is = tested (signed_bytes w32) (signed_at w32) (FitsSigned w32) is_day (signed w32 wide32)

abbrev bit_bytes : Bool → List ℕ
bit_bytes b = bit_of b ∷ []

pub bytes_rest : (b : ℕ) (bytes : List ℕ) → IsBytes (b ∷ bytes) → IsBytes bytes
bytes_rest b bytes h i = h (suc i)

bit_takes : (bytes : List ℕ) → IsBytes bytes → (b : Bool) (rest : List ℕ) → bit_at bytes ≡ Some (b, rest) → Takes bytes (bit_bytes b) rest × Unit {0}
unfolding bit_at
bit_takes [] bs b rest e = absurd cc
bit_takes (zero ∷ bytes) bs b rest e = subst (λ (z : Bool × List ℕ). Takes (0 ∷ bytes) (bit_bytes z.0) z.1 × Unit {0}) (some_is (false, bytes) (b, rest) e) (record { parts = refl; rest_fits = bytes_rest 0 bytes bs }, tt)
bit_takes (suc zero ∷ bytes) bs b rest e = subst (λ (z : Bool × List ℕ). Takes (1 ∷ bytes) (bit_bytes z.0) z.1 × Unit {0}) (some_is (true, bytes) (b, rest) e) (record { parts = refl; rest_fits = bytes_rest 1 bytes bs }, tt)
bit_takes (suc (suc n) ∷ bytes) bs b rest e = absurd cc

bit_again : (b : Bool) (rest : List ℕ) → Unit {0} → bit_at (bit_bytes b ++ rest) ≡ Some (b, rest)
unfolding bit_at
bit_again true rest h = refl
bit_again false rest h = refl

bit_is : IsCodec bit_bytes bit_at (λ _. Unit {0})
bit_is = record { again = bit_again; takes = bit_takes }

-- what stands behind a tag
pub tag_takes : (bytes : List ℕ) → IsBytes bytes → (tag : ℕ) (rest : List ℕ) → number_at w8 bytes ≡ Some (tag, rest) → Takes bytes (tag ∷ []) rest
tag_takes bytes bs tag rest e =
    let h = (number w8 (2 ^ 8) wide8).takes bytes bs tag rest e in
    let lt : tag < 256 = h.1 in
    let same : tag % 256 ≡ tag = omega arith in
    subst (λ (n : ℕ). Takes bytes (n ∷ []) rest) same h.0

pub tag_again : (tag : ℕ) (payload : List ℕ) → tag < 256 → number_at w8 (tag ∷ payload) ≡ Some (tag, payload)
tag_again tag payload lt =
    let same : tag % 256 ≡ tag = omega arith in
    subst (λ (n : ℕ). number_at w8 (n ∷ payload) ≡ Some (tag, payload)) same ((number w8 (2 ^ 8) wide8).again tag payload lt)

value_tagged : (tag : ℕ) (bytes : List ℕ) → IsBytes bytes → (v : Value) (rest : List ℕ) → tagged_at tag bytes ≡ Some (v, rest)
    → (payload : List ℕ) × (value_bytes v ≡ tag ∷ payload) × Takes bytes payload rest × IsValue v
unfolding tagged_at
value_tagged zero bytes bs v rest e =
    let z = some_is (Null, bytes) (v, rest) e in
    subst (λ (z : Value × List ℕ). (payload : List ℕ) × (value_bytes z.0 ≡ 0 ∷ payload) × Takes bytes payload z.1 × IsValue z.0) z ([], refl, record { parts = refl; rest_fits = bs }, tt)
value_tagged (suc zero) bytes bs v rest e =
    let d = wrapped (signed_bytes w64) (signed_at w64) (FitsSigned w64) Int (signed w64 wide64) bytes bs v rest e in
    subst (λ (z : Value). (payload : List ℕ) × (value_bytes z ≡ 1 ∷ payload) × Takes bytes payload rest × IsValue z) d.1 (signed_bytes w64 d.0, refl, d.2, d.3)
value_tagged (suc (suc zero)) bytes bs v rest e =
    let d = wrapped bit_bytes bit_at (λ _. Unit {0}) Bit bit_is bytes bs v rest e in
    subst (λ (z : Value). (payload : List ℕ) × (value_bytes z ≡ 2 ∷ payload) × Takes bytes payload rest × IsValue z) d.1 (bit_bytes d.0, refl, d.2, tt)
value_tagged (suc (suc (suc zero))) bytes bs v rest e =
    let d = wrapped string_bytes_of text_at (λ bs. IsShort bs × (is_utf8 bs ≡ true)) Text text_is bytes bs v rest e in
    subst (λ (z : Value). (payload : List ℕ) × (value_bytes z ≡ 3 ∷ payload) × Takes bytes payload rest × IsValue z) d.1 (string_bytes_of d.0, refl, d.2, d.3)
value_tagged (suc (suc (suc (suc zero)))) bytes bs v rest e =
    let d = wrapped (signed_bytes w32) day_at (λ z. FitsSigned w32 z × (is_day z ≡ true)) Day day_is bytes bs v rest e in
    subst (λ (z : Value). (payload : List ℕ) × (value_bytes z ≡ 4 ∷ payload) × Takes bytes payload rest × IsValue z) d.1 (signed_bytes w32 d.0, refl, d.2, d.3)
value_tagged (suc (suc (suc (suc (suc zero))))) bytes bs v rest e =
    let d = wrapped (to_be_bytes w128) (number_at w128) (IsBelow (2 ^ 128)) Guid (number w128 (2 ^ 128) wide128) bytes bs v rest e in
    subst (λ (z : Value). (payload : List ℕ) × (value_bytes z ≡ 5 ∷ payload) × Takes bytes payload rest × IsValue z) d.1 (to_be_bytes w128 d.0, refl, d.2, d.3)
value_tagged (suc (suc (suc (suc (suc (suc zero)))))) bytes bs v rest e =
    let d = wrapped string_bytes_of string_at IsShort Bytes string_is bytes bs v rest e in
    subst (λ (z : Value). (payload : List ℕ) × (value_bytes z ≡ 6 ∷ payload) × Takes bytes payload rest × IsValue z) d.1 (string_bytes_of d.0, refl, d.2, d.3)
value_tagged (suc (suc (suc (suc (suc (suc (suc n))))))) bytes bs v rest e = absurd cc

value_takes : (bytes : List ℕ) → IsBytes bytes → (v : Value) (rest : List ℕ) → value_at bytes ≡ Some (v, rest) → Takes bytes (value_bytes v) rest × IsValue v
unfolding value_at
value_takes bytes bs v rest e =
    let b = bind_some (number_at w8 bytes) (λ tag. tagged_at tag.0 tag.1) (v, rest) e in
    let h = tag_takes bytes bs b.0.0 b.0.1 b.1 in
    let t = value_tagged b.0.0 b.0.1 h.rest_fits v rest b.2 in
    (subst (λ (l : List ℕ). Takes bytes l rest) (sym t.1) (Takes-then bytes (b.0.0 ∷ []) b.0.1 t.0 rest h t.2), t.3)

value_again : (v : Value) (rest : List ℕ) → IsValue v → value_at (value_bytes v ++ rest) ≡ Some (v, rest)
unfolding value_at tagged_at
value_again Null rest h = rw (tag_again 0 rest (lit< tt)) refl
value_again (Int z) rest h = rw (tag_again 1 (signed_bytes w64 z ++ rest) (lit< tt)) (ap (λ o. o >>= λ x. Some (Int x.0, x.1)) ((signed w64 wide64).again z rest h))
value_again (Bit b) rest h = rw (tag_again 2 (bit_bytes b ++ rest) (lit< tt)) (ap (λ o. o >>= λ x. Some (Bit x.0, x.1)) (bit_again b rest tt))
value_again (Text bs) rest h = rw (tag_again 3 (string_bytes_of bs ++ rest) (lit< tt)) (ap (λ o. o >>= λ x. Some (Text x.0, x.1)) (text_is.again bs rest h))
value_again (Day z) rest h = rw (tag_again 4 (signed_bytes w32 z ++ rest) (lit< tt)) (ap (λ o. o >>= λ x. Some (Day x.0, x.1)) (day_is.again z rest h))
value_again (Guid n) rest h = rw (tag_again 5 (to_be_bytes w128 n ++ rest) (lit< tt)) (ap (λ o. o >>= λ x. Some (Guid x.0, x.1)) ((number w128 (2 ^ 128) wide128).again n rest h))
value_again (Bytes bs) rest h = rw (tag_again 6 (string_bytes_of bs ++ rest) (lit< tt)) (ap (λ o. o >>= λ x. Some (Bytes x.0, x.1)) (string_is.again bs rest h))

pub value_is : IsCodec value_bytes value_at IsValue
value_is = record { again = value_again; takes = value_takes }

pub cell_is : IsCodec cell_bytes cell_at IsCell
unfolding cell_at
cell_is = both dot_bytes (counted_bytes w8 value_bytes) dot_at (counted_at w8 value_at) IsDot (AreCounted (2 ^ 8) IsValue) top_values (λ c. c.top) (λ c. c.values) (λ c. refl) (λ a b. refl) (λ a b. refl)
    dot_is (counted_is w8 (2 ^ 8) wide8 value_bytes value_at IsValue value_is)

cells_is : IsCodec (counted_bytes w8 cell_bytes) (counted_at w8 cell_at) (AreCounted (2 ^ 8) IsCell)
cells_is = counted_is w8 (2 ^ 8) wide8 cell_bytes cell_at IsCell cell_is

body_tagged : (tag : ℕ) (bytes : List ℕ) → IsBytes bytes → (v : Body) (rest : List ℕ) → body_tagged_at tag bytes ≡ Some (v, rest)
    → (payload : List ℕ) × (body_bytes v ≡ tag ∷ payload) × Takes bytes payload rest × IsBody v
unfolding body_tagged_at
body_tagged zero bytes bs v rest e = absurd cc
body_tagged (suc zero) bytes bs v rest e =
    let d = wrapped (counted_bytes w8 cell_bytes) (counted_at w8 cell_at) (AreCounted (2 ^ 8) IsCell) Live cells_is bytes bs v rest e in
    subst (λ (z : Body). (payload : List ℕ) × (body_bytes z ≡ 1 ∷ payload) × Takes bytes payload rest × IsBody z) d.1 (counted_bytes w8 cell_bytes d.0, refl, d.2, d.3)
body_tagged (suc (suc zero)) bytes bs v rest e =
    let d = wrapped dot_bytes dot_at IsDot Dead dot_is bytes bs v rest e in
    subst (λ (z : Body). (payload : List ℕ) × (body_bytes z ≡ 2 ∷ payload) × Takes bytes payload rest × IsBody z) d.1 (dot_bytes d.0, refl, d.2, d.3)
body_tagged (suc (suc (suc n))) bytes bs v rest e = absurd cc

body_takes : (bytes : List ℕ) → IsBytes bytes → (v : Body) (rest : List ℕ) → body_at bytes ≡ Some (v, rest) → Takes bytes (body_bytes v) rest × IsBody v
unfolding body_at
body_takes bytes bs v rest e =
    let b = bind_some (number_at w8 bytes) (λ tag. body_tagged_at tag.0 tag.1) (v, rest) e in
    let h = tag_takes bytes bs b.0.0 b.0.1 b.1 in
    let t = body_tagged b.0.0 b.0.1 h.rest_fits v rest b.2 in
    (subst (λ (l : List ℕ). Takes bytes l rest) (sym t.1) (Takes-then bytes (b.0.0 ∷ []) b.0.1 t.0 rest h t.2), t.3)

body_again : (v : Body) (rest : List ℕ) → IsBody v → body_at (body_bytes v ++ rest) ≡ Some (v, rest)
unfolding body_at body_tagged_at
body_again (Live cells) rest h = rw (tag_again 1 (counted_bytes w8 cell_bytes cells ++ rest) (lit< tt)) (ap (λ o. o >>= λ x. Some (Live x.0, x.1)) (cells_is.again cells rest h))
body_again (Dead dot) rest h = rw (tag_again 2 (dot_bytes dot ++ rest) (lit< tt)) (ap (λ o. o >>= λ x. Some (Dead x.0, x.1)) (dot_is.again dot rest h))

body_is : IsCodec body_bytes body_at IsBody
body_is = record { again = body_again; takes = body_takes }

pub version_is : IsCodec version_bytes version_at IsVersion
unfolding version_at
version_is = both lineage_bytes body_bytes lineage_at body_at IsLineage IsBody lineage_body (λ v. v.lineage) (λ v. v.body) (λ v. refl) (λ a b. refl) (λ a b. refl) lineage_is body_is
