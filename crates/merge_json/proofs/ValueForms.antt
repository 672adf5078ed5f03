-- Changes, lineages, values and cells are read just by their forms.
use Rattle.std.proofs.Common.{◌≡◌, ◌∙◌, ◌<◌, ◌==◌, ℕ, ℤ, List, Bool, true, false, cond, codes, Option, Some, None, Result, Ok, Err, Ordering, Less, Equal, Greater, refl, sym, ap, subst, arith}
use Rattle.std.specs.Ordering.{is_eq, nat_cmp, match_ordering}
use Rattle.std.specs.Cmp.Lexicographic.{slice_cmp}
use Rattle.std.proofs.lemmas.Bool.{eqb-true}
use Rattle.std.proofs.lemmas.Map.Text.{is_eq-slice_cmp}
use Rattle.std.proofs.lemmas.Slice.Eq.{bytes_eq-Decides}
use Rattle.hex.specs.Hex.{decode_of}
use Rattle.hex.specs.declared.FromHexError.{FromHexError}
use Rattle.serde_json.specs.Data.{Data, Num, null, boolean, number, string, array, object, Items, no_items, item, Members, no_members, member}
use Rattle.serde_json.specs.Events.{members_len}
use Rattle.serde_json.specs.Find.{get, as_i64, as_str, as_array}
use Rattle.serde_json.proofs.OnLiterals.{serde_json_on_literals}
use Rattle.merge_types.specs.declared.identifiers.SiteId.{SiteId}
use Rattle.merge_types.specs.declared.identifiers.Dot.{Dot}
use Rattle.merge_types.specs.declared.identifiers.RowId.{RowId}
use Rattle.merge_types.specs.declared.values.Value.{Value}
use Rattle.merge_types.specs.declared.values.Value.TheVariants.{Null, Int, Bit, Text, Day, Guid, Bytes}
use Rattle.merge_types.specs.Day.{IsDayText}
use Rattle.merge_types.specs.Guid.{IsGuidText}
use Rattle.merge_units.specs.declared.version.Cell.{Cell}
use Rattle.merge_lineage.specs.Lineage.{ascending}
use Rattle.merge_lineage.proofs.Ascending.{ascending_sound, ascending_complete}
use Rattle.merge_json.specs.Reading.{◌>>=◌, field_at, whole_at, below_at, list_at}
use Rattle.merge_json.specs.Written.{whole, tagged_data}
use Rattle.merge_json.specs.Days.{day_of}
use Rattle.merge_json.specs.Values.{guid_of, when_ok, bytes_at, day_at, guid_at, tag_at, count_of, tagged_at, int_at, value_at}
use Rattle.merge_json.specs.Rows.{site_at, pair_at, dot_at, if_ascending, lineage_at, row_at, cell_at}
use Rattle.merge_json.specs.Forms.{HasMember, IsList, IsSite, IsDot, IsLineage, IsRow, IsValue, IsCell}
use Rattle.merge_json.proofs.Readers.{some_same, cond_some, bind_some, two_found, two_some}
use Rattle.merge_json.proofs.FormLemmas.{IsForm, string_is, array_is, whole_found, below_form, integer_found, integer_only, field_form, list_form, list_member}
use Rattle.merge_json.proofs.Again.{dot_again}
use Rattle.merge_json.proofs.DayTexts.{day_is, day_only}
use Rattle.merge_json.proofs.GuidTexts.{guid_is, guid_only}

-- ---- changes and rows

abbrev site_of : ℕ → SiteId
site_of n = record { 0 = n }

site_found : (d : Data) (site : SiteId) → site_at d ≡ Some site → IsSite site d
unfolding site_at
site_found d site e =
    let s = bind_some (below_at 65_536 d) (λ n. Some (site_of n)) site e in
    subst (λ (x : SiteId). IsSite x d) (some_same (site_of s.0) site s.2) ((below_form 65_536).found d s.0 s.1)

site_only : (d : Data) (site : SiteId) → IsSite site d → site_at d ≡ Some site
unfolding site_at
site_only d site is = rw ((below_form 65_536).only d site.0 is) refl

pub site_form : IsForm site_at (λ s d. IsSite s d)
site_form = record { found = site_found; only = site_only }

pub site_member : IsForm (field_at (codes "site") site_at) (λ s d. HasMember (codes "site") (λ t v. IsSite t v) s d)
site_member = field_form (codes "site") site_at (λ s d. IsSite s d) site_form

abbrev dot_of : SiteId → ℕ → Dot
dot_of site n = record { site = site; number = n }

two_items : (a b c d : Data) → a ≡ c → b ≡ d → item a (item b no_items) ≡ item c (item d no_items)
two_items a b c d p q = rw (p, q) refl

abbrev pair_items : Dot → Items
pair_items dot = item (whole dot.site.0) (item (whole dot.number) no_items)

pair_found : (ds : Items) (dot : Dot) → pair_at ds ≡ Some dot → (dot.site.0 < 65_536) × (ds ≡ pair_items dot)
pair_found no_items dot e = absurd cc
pair_found (item a no_items) dot e = absurd cc
pair_found (item a (item b no_items)) dot e =
    let s = bind_some (site_at a) (λ site. whole_at b >>= λ n. Some (dot_of site n)) dot e in
    let t = bind_some (whole_at b) (λ n. Some (dot_of s.0 n)) dot s.2 in
    let site = site_found a s.0 s.1 in
    subst (λ (x : Dot). (x.site.0 < 65_536) × (item a (item b no_items) ≡ pair_items x)) (some_same (dot_of s.0 t.0) dot t.2)
    (site.0, two_items a b (whole s.0.0) (whole t.0) site.1 (whole_found b t.0 t.1))
pair_found (item a (item b (item c ds))) dot e = absurd cc

dot_found : (d : Data) (dot : Dot) → dot_at d ≡ Some dot → IsDot dot d
unfolding dot_at
dot_found d dot e =
    let s = bind_some (as_array d) pair_at dot e in
    let p = pair_found s.0 dot s.2 in
    (p.0, array_is d s.0 s.1 ∙ ap (λ (ds : Items). array ds) p.1)

dot_only : (d : Data) (dot : Dot) → IsDot dot d → dot_at d ≡ Some dot
dot_only d dot is = subst (λ (v : Data). dot_at v ≡ Some dot) (sym is.1) (dot_again dot is.0)

pub dot_form : IsForm dot_at (λ x d. IsDot x d)
dot_form = record { found = dot_found; only = dot_only }

lineage_found : (d : Data) (dots : List Dot) → lineage_at d ≡ Some dots → IsLineage dots d
unfolding lineage_at
lineage_found d dots e =
    let s = bind_some (list_at dot_at d) if_ascending dots e in
    let t = cond_some (ascending s.0) s.0 dots s.2 in
    subst (λ (xs : List Dot). IsLineage xs d) t.1 (ascending_sound s.0 t.0, (list_form dot_at (λ x v. IsDot x v) dot_form).found d s.0 s.1)

lineage_only : (d : Data) (dots : List Dot) → IsLineage dots d → lineage_at d ≡ Some dots
unfolding lineage_at
lineage_only d dots is = rw ((list_form dot_at (λ x v. IsDot x v) dot_form).only d dots is.1, ascending_complete dots is.0) refl

pub lineage_form : IsForm lineage_at (λ l d. IsLineage l d)
lineage_form = record { found = lineage_found; only = lineage_only }

abbrev row_of : ℕ → RowId
row_of n = record { 0 = n }

row_found : (d : Data) (row : RowId) → row_at d ≡ Some row → IsRow row d
unfolding row_at
row_found d row e =
    let s = bind_some (as_str d) (λ text. guid_of text >>= λ n. Some (row_of n)) row e in
    let t = bind_some (guid_of s.0) (λ n. Some (row_of n)) row s.2 in
    (s.0, string_is d s.0 s.1, subst (λ (r : RowId). IsGuidText s.0 r.0) (some_same (row_of t.0) row t.2) (guid_only s.0 t.0 t.1))

row_only : (d : Data) (row : RowId) → IsRow row d → row_at d ≡ Some row
unfolding row_at
row_only d row is = rw is.1 (ap (λ (o : Option ℕ). o >>= λ n. Some (row_of n)) (guid_is is.0 row.0 is.2))

pub row_form : IsForm row_at (λ r d. IsRow r d)
row_form = record { found = row_found; only = row_only }

-- ---- values that an object with one key tells

bytes_found : (d : Data) (v : Value) → bytes_at d ≡ Some v → (text : List ℕ) × (bytes : List ℕ) × (d ≡ string text) × (decode_of text ≡ Ok bytes) × (Bytes bytes ≡ v)
unfolding bytes_at
bytes_found d v e =
    let s = bind_some (as_str d) (λ text. when_ok (decode_of text) >>= λ bytes. Some (Bytes bytes)) v e in
    let t = bind_some (when_ok (decode_of s.0)) (λ bytes. Some (Bytes bytes)) v s.2 in
    (s.0, t.0, string_is d s.0 s.1, ok (decode_of s.0) t.0 t.1, some_same (Bytes t.0) v t.2)
  where
    ok : (r : Result (List ℕ) FromHexError) (bytes : List ℕ) → when_ok r ≡ Some bytes → r ≡ Ok bytes
    ok (Ok xs) bytes e = ap (λ (l : List ℕ). Ok l) (some_same xs bytes e)
    ok (Err f) bytes e = absurd cc

day_found : (d : Data) (v : Value) → day_at d ≡ Some v → (text : List ℕ) × (day : ℤ) × (d ≡ string text) × IsDayText text day × (Day day ≡ v)
unfolding day_at
day_found d v e =
    let s = bind_some (as_str d) (λ text. day_of text >>= λ day. Some (Day day)) v e in
    let t = bind_some (day_of s.0) (λ day. Some (Day day)) v s.2 in
    (s.0, t.0, string_is d s.0 s.1, day_only s.0 t.0 t.1, some_same (Day t.0) v t.2)

guid_found : (d : Data) (v : Value) → guid_at d ≡ Some v → (text : List ℕ) × (n : ℕ) × (d ≡ string text) × IsGuidText text n × (Guid n ≡ v)
unfolding guid_at
guid_found d v e =
    let s = bind_some (as_str d) (λ text. guid_of text >>= λ n. Some (Guid n)) v e in
    let t = bind_some (guid_of s.0) (λ n. Some (Guid n)) v s.2 in
    (s.0, t.0, string_is d s.0 s.1, guid_only s.0 t.0 t.1, some_same (Guid t.0) v t.2)

abbrev single : List ℕ → Data → Data
single k d = object (member k d no_members)

-- the only member of an object is found by its key alone
single_is : (key k : List ℕ) (d e : Data) → get key (single k d) ≡ Some e → (k ≡ key) × (d ≡ e)
single_is key k d e h = by (slice_cmp nat_cmp key k) refl h
  where
    by : (o : Ordering) → slice_cmp nat_cmp key k ≡ o → match_ordering o None (Some d) None ≡ Some e → (k ≡ key) × (d ≡ e)
    by Less is f = absurd cc
    by Equal is f = (sym ((bytes_eq-Decides key k).0 (sym (is_eq-slice_cmp key k) ∙ ap is_eq is)), some_same d e f)
    by Greater is f = absurd cc

tag_is : (k key : List ℕ) (d v : Data) (text : List ℕ) → k ≡ key → d ≡ v → v ≡ string text → single k d ≡ tagged_data key text
tag_is k key d v text p q r = rw (p, q, r) refl

tag_found : (k : List ℕ) (d : Data) (v : Value) (a b c : Option Data) → get (codes "bytes") (single k d) ≡ a → get (codes "day") (single k d) ≡ b → get (codes "guid") (single k d) ≡ c
    → tag_at a b c ≡ Some v → IsValue v (single k d)
tag_found k d v (Some x) b c p q r e =
    let m = single_is (codes "bytes") k d x p in
    let f = bytes_found x v e in
    subst (λ (u : Value). IsValue u (single k d)) f.4 (f.0, tag_is k (codes "bytes") d x f.0 m.0 m.1 f.2, f.3)
tag_found k d v None (Some x) c p q r e =
    let m = single_is (codes "day") k d x q in
    let f = day_found x v e in
    subst (λ (u : Value). IsValue u (single k d)) f.4 (f.0, tag_is k (codes "day") d x f.0 m.0 m.1 f.2, f.3)
tag_found k d v None None (Some x) p q r e =
    let m = single_is (codes "guid") k d x r in
    let f = guid_found x v e in
    subst (λ (u : Value). IsValue u (single k d)) f.4 (f.0, tag_is k (codes "guid") d x f.0 m.0 m.1 f.2, f.3)
tag_found k d v None None None p q r e = absurd cc

one_of : (n : ℕ) (o : Option Value) (v : Value) → cond (n == 1) o None ≡ Some v → (n ≡ 1) × (o ≡ Some v)
one_of n o v e = by (n == 1) refl e
  where
    by : (b : Bool) → (n == 1) ≡ b → cond b o None ≡ Some v → (n ≡ 1) × (o ≡ Some v)
    by true is f = (eqb-true n 1 is, f)
    by false is f = absurd cc

alone : (ms : Members) (v : Value) → members_len ms ≡ 1 → tag_at (get (codes "bytes") (object ms)) (get (codes "day") (object ms)) (get (codes "guid") (object ms)) ≡ Some v → IsValue v (object ms)
alone no_members v n e = absurd (omega (arith, n))
alone (member k d no_members) v n e = tag_found k d v (get (codes "bytes") (single k d)) (get (codes "day") (single k d)) (get (codes "guid") (single k d)) refl refl refl e
alone (member k d (member l c ms)) v n e = absurd (omega (arith, n))

tagged_found : (ms : Members) (v : Value) → tagged_at (object ms) ≡ Some v → IsValue v (object ms)
unfolding tagged_at count_of
tagged_found ms v e =
    let t = one_of (members_len ms) (tag_at (get (codes "bytes") (object ms)) (get (codes "day") (object ms)) (get (codes "guid") (object ms))) v e in
    alone ms v t.0 t.1

-- ---- values

value_found : (d : Data) (v : Value) → value_at d ≡ Some v → IsValue v d
unfolding value_at int_at
value_found null v e = subst (λ (u : Value). IsValue u null) (some_same Null v e) refl
value_found (boolean b) v e = subst (λ (u : Value). IsValue u (boolean b)) (some_same (Bit b) v e) refl
value_found (number n) v e =
    let s = bind_some (as_i64 n) (λ z. Some (Int z)) v e in
    subst (λ (u : Value). IsValue u (number n)) (some_same (Int s.0) v s.2) (n, refl, integer_found n s.0 s.1)
value_found (string text) v e = subst (λ (u : Value). IsValue u (string text)) (some_same (Text text) v e) refl
value_found (array ds) v e = absurd cc
value_found (object ms) v e = tagged_found ms v e

day_tag : (text : List ℕ) (day : ℤ) → IsDayText text day → value_at (tagged_data (codes "day") text) ≡ Some (Day day)
unfolding value_at tagged_at count_of day_at serde_json_on_literals
day_tag text day is = ap (λ (o : Option ℤ). o >>= λ y. Some (Day y)) (day_is text day is)

guid_tag : (text : List ℕ) (n : ℕ) → IsGuidText text n → value_at (tagged_data (codes "guid") text) ≡ Some (Guid n)
unfolding value_at tagged_at count_of guid_at serde_json_on_literals
guid_tag text n is = ap (λ (o : Option ℕ). o >>= λ k. Some (Guid k)) (guid_is text n is)

bytes_tag : (text bytes : List ℕ) → decode_of text ≡ Ok bytes → value_at (tagged_data (codes "bytes") text) ≡ Some (Bytes bytes)
unfolding value_at tagged_at count_of bytes_at serde_json_on_literals
bytes_tag text bytes is = rw is refl

int_only : (n : Num) (z : ℤ) → as_i64 n ≡ Some z → value_at (number n) ≡ Some (Int z)
unfolding value_at int_at
int_only n z is = rw is refl

plain_only : (d : Data) (v : Value) → IsValue v d → value_at d ≡ Some v
unfolding value_at
plain_only d Null is = rw is refl
plain_only d (Int z) is = subst (λ (c : Data). value_at c ≡ Some (Int z)) (sym is.1) (int_only is.0 z (integer_only is.0 z is.2))
plain_only d (Bit b) is = rw is refl
plain_only d (Text text) is = rw is refl
plain_only d (Day day) is = subst (λ (c : Data). value_at c ≡ Some (Day day)) (sym is.1) (day_tag is.0 day is.2)
plain_only d (Guid n) is = subst (λ (c : Data). value_at c ≡ Some (Guid n)) (sym is.1) (guid_tag is.0 n is.2)
plain_only d (Bytes bytes) is = subst (λ (c : Data). value_at c ≡ Some (Bytes bytes)) (sym is.1) (bytes_tag is.0 bytes is.2)

pub value_form : IsForm value_at (λ v d. IsValue v d)
value_form = record { found = value_found; only = plain_only }

-- ---- cells

top_member : IsForm (field_at (codes "top") dot_at) (λ x d. HasMember (codes "top") (λ y v. IsDot y v) x d)
top_member = field_form (codes "top") dot_at (λ x d. IsDot x d) dot_form

abbrev cell_of : Dot → List Value → Cell
cell_of top values = record { top = top; values = values }

cell_found : (d : Data) (cell : Cell) → cell_at d ≡ Some cell → IsCell cell d
unfolding cell_at
cell_found d cell e =
    let p = two_found (field_at (codes "top") dot_at d) (field_at (codes "values") (list_at value_at) d) cell_of cell e in
    let is : IsCell (cell_of p.0 p.1) d = record {
      top = top_member.found d p.0 p.2;
      values = (list_member (codes "values") value_at (λ v c. IsValue v c) value_form).found d p.1 p.3;
    } in
    subst (λ (c : Cell). IsCell c d) p.4 is

cell_only : (d : Data) (cell : Cell) → IsCell cell d → cell_at d ≡ Some cell
unfolding cell_at
cell_only d cell is =
    two_some (field_at (codes "top") dot_at d) (field_at (codes "values") (list_at value_at) d) cell_of cell.top cell.values
    (top_member.only d cell.top is.top) ((list_member (codes "values") value_at (λ v c. IsValue v c) value_form).only d cell.values is.values)

pub cell_form : IsForm cell_at (λ c d. IsCell c d)
cell_form = record { found = cell_found; only = cell_only }

pub cells_member : IsForm (field_at (codes "live") (list_at cell_at)) (λ xs d. HasMember (codes "live") (λ ys v. IsList (λ c w. IsCell c w) ys v) xs d)
cells_member = list_member (codes "live") cell_at (λ c d. IsCell c d) cell_form
