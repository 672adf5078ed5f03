-- The mappings that a purge takes are found by the generations of the rows' last moves, from site to site.
use Rattle.std.specs.Prelude.{◌≡◌, ◌<◌, ◌≤◌, ◌↔◌, ◌+◌, ◌-◌, ◌++◌, ◌^◌, ◌&&◌, ◌||◌, ℕ, IfSome, Bool, true, false, not, List, [], ◌∷◌, Option, Some, None, Contains, refl, cond, filter_map, if◌then◌else◌, is_some, map, nat_lt}
use Rattle.std.specs.BTreeMap.{is_at}
use Rattle.std.specs.BTreeMap.Range.{entries_between}
use Rattle.std.specs.List.{AllByRecursion, cons_option, list_any}
use Rattle.std.specs.List.Sorted.{IsStrictlySortedBy}
use Rattle.std.specs.Map.{keys_of, lookup}
use Rattle.std.specs.declared.cmp.Ordering.TheVariants.{Less}
use Rattle.std.specs.declared.ops.Bound.TheVariants.{Included, Unbounded}
use Rattle.std.proofs.Common.{arith, sym, ap, ◌∙◌, subst}
use Rattle.std.proofs.lemmas.Bool.Decides.{nat_tests}
use Rattle.std.proofs.lemmas.List.Folds.{list_any-append}
use Rattle.std.proofs.lemmas.List.Kept.{IsStrictlySortedBy-filter}
use Rattle.merge_types.specs.RowKeys.{key_cmp}
use Rattle.merge_types.specs.declared.identifiers.Moment.{Moment}
use Rattle.merge_types.specs.declared.row_key.RowKey.{RowKey as Key}
use Rattle.merge_table.specs.Edits.{takes_of}
use Rattle.merge_table.specs.declared.edit.Edit.{Edit}
use Rattle.merge_table.specs.declared.edit.Edit.TheVariants.{Take}
use Rattle.merge_table.proofs.Puts.{found-filter, kept}
use Rattle.merge_table.proofs.Room.{all_above}
use Rattle.merge_table.proofs.Slots.{lookup_above}
use Rattle.merge_gens.specs.Moves.{is_left, row_site_cmp, row_site_exact}
use Rattle.merge_gens.specs.declared.closings.Closing.{Closing}
use Rattle.merge_gens.specs.declared.moves.Mapping.{Mapping}
use Rattle.merge_gens.specs.declared.moves.RowSite.{RowSite}
use Rattle.merge_schema.proofs.ListMembers.{any_at, any_found}
use Rattle.merge_model.specs.Tables.Keys.{at_row_site}
use Rattle.merge_model.proofs.Lists.KeyLookUps.{keys-exact}
use Rattle.merge_model.proofs.Publishers.Sorted.{row_site_total}
use Rattle.merge_pub.specs.Forgetting.{place_at}
use Rattle.merge_pub.specs.Held.{Held, tables_of}
use Rattle.merge_steps.specs.Indexed.{AreMoved, has_entry, is_moved}
use Rattle.merge_steps.specs.MoveEntries.{move_entry, move_entry_cmp, move_entry_exact}
use Rattle.merge_steps.specs.MoveWalks.{keys_in_walk}
use Rattle.merge_steps.specs.OldSpans.{HasMapped, HasMoved, IsBefore, IsNextBehind, IsNextFrom, IsSpan, IsWithin, place_of}
use Rattle.merge_steps.specs.Purging.{is_old_at, is_old_mapping, take_if, taken_at}
use Rattle.merge_steps.specs.declared.site_moves.MoveEntry.{MoveEntry}
use Rattle.merge_steps.specs.declared.old_spans.Span.{Span}
use Rattle.merge_pub.proofs.Due.{walk-found}
use Rattle.merge_pub.proofs.GivenRows.{rows-given}
use Rattle.merge_steps.proofs.MoveFollows.{move_entry_total}
use Rattle.merge_steps.proofs.MoveWalks.{from-is, is_from, keys-filter, not_below, start-behind, start_of}
use Rattle.merge_steps.proofs.Told.{contains-map}

abbrev Entries : Type 0
Entries = List (MoveEntry × Unit {0})

-- The next site.

abbrev from_on : ℕ → MoveEntry × Unit {0} → Bool
from_on site entry = is_from site 0 entry.0

above-start : (site : ℕ) (e : MoveEntry) → site ≤ e.site → is_from site 0 e ≡ true
above-start site e above = from-is site 0 e ∙ grind (arith, nat_tests, above)

kept-some : (site : ℕ) (e : MoveEntry) (found : Option (Unit {0})) → is_some found ≡ true → is_from site 0 e ≡ true → is_some (kept move_entry_cmp move_entry_total move_entry_exact (from_on site) e found) ≡ true
kept-some site e None some from = absurd cc
kept-some site e (Some u) some from = ap (λ (b : Bool). (let there : Bool = is_some (let found : Option (Unit {0}) = cond b (Some u) None in found) in there)) from

between-has : (entries : Entries) → IsStrictlySortedBy move_entry_cmp (keys_of entries) → (site : ℕ) (e : MoveEntry) → has_entry entries e ≡ true → site ≤ e.site → has_entry (entries_between move_entry_cmp (Included (start_of site 0)) Unbounded entries) e ≡ true
between-has entries sorted site e has above =
    ap (λ (o : Option (Unit {0})). is_some o) (found-filter move_entry_cmp move_entry_total move_entry_exact (from_on site) e entries sorted)
    ∙ kept-some site e (lookup (is_at (move_entry_cmp e)) entries) has (above-start site e above)

pub next-none : (entries rows : Entries) → IsStrictlySortedBy move_entry_cmp (keys_of entries) → (site : ℕ) → rows ≡ entries_between move_entry_cmp (Included (start_of site 0)) Unbounded entries → rows ≡ [] → IsNextFrom entries site None
next-none entries rows sorted site are none = λ e has. by e has (nat_lt e.site site) refl
  where
    by : (e : MoveEntry) → has_entry entries e ≡ true → (b : Bool) → nat_lt e.site site ≡ b → e.site < site
    by e has true below = grind (arith, nat_tests, below)
    by e has false below =
        let above : site ≤ e.site = grind (arith, nat_tests, below) in
        absurd (let wrong : false ≡ true = ap (λ (es : Entries). has_entry es e) (sym none ∙ are) ∙ between-has entries sorted site e has above in cc)

below-first : (e h : MoveEntry) → nat_lt e.site h.site ≡ true → move_entry_cmp e h ≡ Less
below-first e h below = grind (arith, nat_tests, below)

first-least : (head : MoveEntry × Unit {0}) (rest : Entries) → IsStrictlySortedBy move_entry_cmp (keys_of (head ∷ rest)) → (e : MoveEntry) → has_entry (head ∷ rest) e ≡ true → head.0.site ≤ e.site
first-least head rest sorted e has = by (nat_lt e.site head.0.site) refl
  where
    by : (b : Bool) → nat_lt e.site head.0.site ≡ b → head.0.site ≤ e.site
    by false below = grind (arith, nat_tests, below)
    by true below =
        absurd (let wrong : false ≡ true =
        sym (ap (λ (o : Option (Unit {0})). is_some o) (lookup_above move_entry_cmp e (head ∷ rest) (all_above move_entry_cmp move_entry_total e head.0 (keys_of rest) sorted (below-first e head.0 below)))) ∙ has in
        cc)

pub next-some : (entries rows rest : Entries) (head : MoveEntry × Unit {0}) → IsStrictlySortedBy move_entry_cmp (keys_of entries) → (site : ℕ) → rows ≡ entries_between move_entry_cmp (Included (start_of site 0)) Unbounded entries → rows ≡ head ∷ rest
    → IsNextFrom entries site (Some head.0.site)
next-some entries rows rest head sorted site are step = λ e has above.
    let ordered : IsStrictlySortedBy move_entry_cmp (keys_of rows) = rw are (rw (keys-filter (is_from site 0) entries) (IsStrictlySortedBy-filter move_entry_cmp (is_from site 0) (keys_of entries) sorted)) in
    first-least head rest (subst (λ (es : Entries). IsStrictlySortedBy move_entry_cmp (keys_of es)) step ordered) e
    (ap (λ (es : Entries). has_entry es e) (sym step ∙ are) ∙ between-has entries sorted site e has above)

-- The places of the sites so far.

pub places-begin : (entries : Entries) (span : Span) (next : Option ℕ) (places : List RowSite) → IsNextFrom entries 0 next → HasMoved entries span next places
places-begin entries span None places from = λ e has before within. absurd (let below = from e has in omega (arith, below))
places-begin entries span (Some n) places from = λ e has before within. absurd (let below = from e has (omega arith) in omega (arith, below, before))

place-found : (site : ℕ) (key : Key) (keys : List Key) → list_any (is_at (key_cmp key)) keys ≡ true → list_any (is_at (row_site_cmp (place_at site key))) (map (place_at site) keys) ≡ true
place-found site key keys any =
    let at = any_found (is_at (key_cmp key)) keys any in
    let same : at.0 ≡ key = sym (keys-exact key at.0 at.2) in
    any_at (is_at (row_site_cmp (place_at site key))) (map (place_at site) keys) (place_at site key)
    (contains-map (place_at site) keys key (subst (λ (k : Key). Contains keys k) same at.1)) (itself (place_at site key))
  where
    itself : (p : RowSite) → is_at (row_site_cmp p) p ≡ true
    itself p = grind (arith, nat_tests)

or-left : (a b : Bool) → a ≡ true → (a || b) ≡ true
or-left a b is = grind (arith, is)

or-right : (a b : Bool) → b ≡ true → (a || b) ≡ true
or-right a b is = grind (arith, is)

module _ (entries : Entries) (span : Span) (site : ℕ) (old : List RowSite) where
  abbrev walked : List Key
  walked = keys_in_walk site span.first (Some span.last) entries

  here : (e : MoveEntry) → has_entry entries e ≡ true → e.site ≡ site → IsWithin span e.generation → list_any (is_at (row_site_cmp (place_of e))) (old ++ map (place_at site) walked) ≡ true
  here e has is within =
      let test : RowSite → Bool = is_at (row_site_cmp (place_of e)) in
      let there : (let entry : MoveEntry = record { site = site; generation = e.generation; key = e.key } in entry) ≡ e = ap (λ (n : ℕ). (let entry : MoveEntry = record { site = n; generation = e.generation; key = e.key } in entry)) (sym is) in
      let found = walk-found e.key site span.first (Some span.last) e.generation within.0 (grind (arith, nat_tests, within.1)) entries (ap (has_entry entries) there ∙ has) in
      let place : place_at site e.key ≡ place_of e = ap (λ (n : ℕ). (let p : RowSite = record { key = e.key; site = n } in p)) (sym is) in
      list_any-append test old (map (place_at site) walked)
      ∙ or-right (list_any test old) (list_any test (map (place_at site) walked)) (subst (λ (p : RowSite). list_any (is_at (row_site_cmp p)) (map (place_at site) walked) ≡ true) place (place-found site e.key walked found))

  before : (e : MoveEntry) → has_entry entries e ≡ true → HasMoved entries span (Some site) old → e.site < site → IsWithin span e.generation → list_any (is_at (row_site_cmp (place_of e))) (old ++ map (place_at site) walked) ≡ true
  before e has so_far below within =
      let test : RowSite → Bool = is_at (row_site_cmp (place_of e)) in
      list_any-append test old (map (place_at site) walked) ∙ or-left (list_any test old) (list_any test (map (place_at site) walked)) (so_far e has below within)

  up-to : (e : MoveEntry) → has_entry entries e ≡ true → HasMoved entries span (Some site) old → e.site ≤ site → IsWithin span e.generation → list_any (is_at (row_site_cmp (place_of e))) (old ++ map (place_at site) walked) ≡ true
  up-to e has so_far least within = by (nat_lt e.site site) refl
    where
      by : (b : Bool) → nat_lt e.site site ≡ b → list_any (is_at (row_site_cmp (place_of e))) (old ++ map (place_at site) walked) ≡ true
      by true below = before e has so_far (grind (arith, nat_tests, below)) within
      by false below = here e has (grind (arith, nat_tests, below, least)) within

  not-behind : (next : Option ℕ) → IsNextBehind entries site next → (e : MoveEntry) → has_entry entries e ≡ true → IsBefore next e.site → e.site ≤ site
  not-behind None behind e has least = behind e has
  not-behind (Some n) behind e has least = by (nat_lt site e.site) refl
    where
      by : (b : Bool) → nat_lt site e.site ≡ b → e.site ≤ site
      by false above = grind (arith, nat_tests, above)
      by true above = absurd (let far = behind e has (grind (arith, nat_tests, above)) in omega (arith, far, least))

  places-step : (next : Option ℕ) (places : List RowSite) → HasMoved entries span (Some site) old → IsNextBehind entries site next → places ≡ old ++ map (place_at site) walked → HasMoved entries span next places
  places-step next places so_far behind are = λ e has least within.
      ap (list_any (is_at (row_site_cmp (place_of e)))) are ∙ up-to e has so_far (not-behind next behind e has least) within

-- how many sites could still come
abbrev pub left_of : Option ℕ → ℕ
left_of None = 0
left_of (Some site) = 2 ^ 16 - site

fewer : (site : ℕ) (next : Option ℕ) → site < 2 ^ 16 → IfSome next (λ (n : ℕ). site < n) → left_of next < 2 ^ 16 - site
fewer site None low onward = omega (arith, low)
fewer site (Some n) low onward = omega (arith, low, onward)

pub fewer-left : (site : ℕ) (old next : Option ℕ) → old ≡ Some site → site < 2 ^ 16 → IfSome next (λ (n : ℕ). site < n) → left_of next < left_of old
fewer-left site old next is low onward = subst (λ (o : Option ℕ). left_of next < left_of o) (sym is) (fewer site next low onward)

pub places-next : (entries : Entries) (span : Span) (site : ℕ) (at : Option ℕ) (old : List RowSite) (next : Option ℕ) (places : List RowSite) → at ≡ Some site → HasMoved entries span at old → IsNextBehind entries site next
    → places ≡ old ++ map (place_at site) (keys_in_walk site span.first (Some span.last) entries) → HasMoved entries span next places
places-next entries span site at old next places is so_far behind are =
    places-step entries span site old next places (subst (λ (o : Option ℕ). HasMoved entries span o old) is so_far) behind are

-- Behind a site.

last-most : (front : Entries) (last : MoveEntry × Unit {0}) → IsStrictlySortedBy move_entry_cmp (keys_of (front ++ last ∷ [])) → (e : MoveEntry) → has_entry (front ++ last ∷ []) e ≡ true → e.site ≤ last.0.site
unfolding IsStrictlySortedBy
last-most [] last sorted e has = last-here e last (is_at (move_entry_cmp e) last.0) refl has
  where
    last-here : (e : MoveEntry) (last : MoveEntry × Unit {0}) (b : Bool) → is_at (move_entry_cmp e) last.0 ≡ b → is_some (let found : Option (Unit {0}) = cond b (Some last.1) None in found) ≡ true → e.site ≤ last.0.site
    last-here e last true at some = grind (arith, nat_tests, at)
    last-here e last false at some = absurd cc
last-most (head ∷ front) last sorted e has = by (is_at (move_entry_cmp e) head.0) refl has (last-most front last sorted.1 e) (head-below front sorted.0)
  where
    head-below : (es : Entries) → AllByRecursion (λ (y : MoveEntry). move_entry_cmp head.0 y ≡ Less) (keys_of (es ++ last ∷ [])) → move_entry_cmp head.0 last.0 ≡ Less
    head-below [] above = above.0
    head-below (x ∷ es) above = head-below es above.1

    by : (b : Bool) → is_at (move_entry_cmp e) head.0 ≡ b → is_some (let found : Option (Unit {0}) = cond b (Some head.1) (lookup (is_at (move_entry_cmp e)) (front ++ last ∷ [])) in found) ≡ true → (has_entry (front ++ last ∷ []) e ≡ true → e.site ≤ last.0.site)
        → move_entry_cmp head.0 last.0 ≡ Less → e.site ≤ last.0.site
    by true at some more less = grind (arith, nat_tests, at, less)
    by false at some more less = more some

-- no entry is of a site behind that of the last one
pub last-is : (entries front : Entries) (last : MoveEntry × Unit {0}) → IsStrictlySortedBy move_entry_cmp (keys_of entries) → entries ≡ front ++ last ∷ [] → (e : MoveEntry) → has_entry entries e ≡ true → e.site ≤ last.0.site
last-is entries front last sorted step = λ e has.
    last-most front last (subst (λ (es : Entries). IsStrictlySortedBy move_entry_cmp (keys_of es)) step sorted) e (ap (λ (es : Entries). has_entry es e) (sym step) ∙ has)

pub last-none : (entries : Entries) → entries ≡ [] → (e : MoveEntry) → has_entry entries e ≡ true → e.site ≤ 0
last-none entries none = λ e has. absurd (let wrong : false ≡ true = ap (λ (es : Entries). has_entry es e) (sym none) ∙ has in cc)

pub behind-last : (entries : Entries) (site last : ℕ) → ((e : MoveEntry) → has_entry entries e ≡ true → e.site ≤ last) → last ≤ site → IsNextBehind entries site None
behind-last entries site last most past = λ e has. let below = most e has in omega (arith, below, past)

pub behind-next : (entries : Entries) (site : ℕ) (next : Option ℕ) → IsNextFrom entries (site + 1) next → IsNextBehind entries site next
behind-next entries site None from = λ e has. let below = from e has in omega (arith, below)
behind-next entries site (Some n) from = λ e has above. from e has (omega (arith, above))

pub next-onward : (entries rows rest : Entries) (head : MoveEntry × Unit {0}) (site : ℕ) → rows ≡ entries_between move_entry_cmp (Included (start_of site 0)) Unbounded entries → rows ≡ head ∷ rest → site ≤ head.0.site
next-onward entries rows rest head site are step =
    let behind = subst (λ (es : Entries). AllByRecursion (λ (e : MoveEntry). not_below site 0 e ≡ true) (keys_of es)) (sym are ∙ step) (start-behind site 0 entries) in
    let first : not_below site 0 head.0 ≡ true = behind.0 in
    grind (arith, nat_tests, first)

-- All mappings whose last move was within.

moved-here : (mapping : Mapping) → is_moved (Some mapping) mapping.generation ≡ true
moved-here mapping = grind (arith, nat_tests)

pub held-mapped : (h now : Held) → h ≡ now → AreMoved h.mappings.rows h.moved.rows → (span : Span) (found places : List RowSite) → HasMoved h.moved.rows span None found → ((place : RowSite) → Contains places place ↔ Contains found place)
    → HasMapped (tables_of now).mappings span places
unfolding AreMoved
held-mapped h now same are span found places has each = λ place mapping there within.
    let there' : at_row_site h.mappings.rows place ≡ Some mapping = ap (λ (x : Held). at_row_site x.mappings.rows place) same ∙ there in
    let held : has_entry h.moved.rows (move_entry place mapping.generation) ≡ true = are place mapping.generation ∙ ap (λ (o : Option Mapping). is_moved o mapping.generation) there' ∙ moved-here mapping in
    let at = any_found (is_at (row_site_cmp place)) found (has (move_entry place mapping.generation) held tt within) in
    any_at (is_at (row_site_cmp place)) places at.0 ((each at.0).1 at.1) at.2

-- The mappings that go.

goes-if : (b : Bool) (edit : Edit RowSite Mapping) → is_some (let found : Option (Edit RowSite Mapping) = if b then Some edit else None in found) ≡ true → b ≡ true
goes-if true edit some = refl
goes-if false edit some = absurd cc

old-left : (a b : Bool) → (a && b) ≡ true → b ≡ true
old-left true b is = is
old-left false b is = absurd cc

take-step : (entry : RowSite × Mapping) (rest : List (Edit RowSite Mapping)) (b : Bool) → cons_option (let found : Option (Edit RowSite Mapping) = if b then Some (Take entry.0) else None in found) rest ≡ (let all : List (Edit RowSite Mapping) = if not b then rest else Take entry.0 ∷ rest in all)
take-step entry rest true = refl
take-step entry rest false = refl

all-taken : (goes : RowSite × Mapping → Bool) (mappings : List (RowSite × Mapping)) → filter_map (take_if goes) mappings ≡ takes_of (λ (entry : RowSite × Mapping). not (goes entry)) mappings
all-taken goes [] = refl
all-taken goes (entry ∷ mappings) =
    ap (λ (es : List (Edit RowSite Mapping)). cons_option (take_if goes entry) es) (all-taken goes mappings) ∙ take-step entry (takes_of (λ (e : RowSite × Mapping). not (goes e)) mappings) (goes entry)

found-taken : (closings : List Closing) (cut : Moment) (mappings : List (RowSite × Mapping)) (span : Span) (places : List RowSite) → IsStrictlySortedBy row_site_cmp (keys_of mappings) → IsSpan closings cut span → IsStrictlySortedBy row_site_cmp places
    → HasMapped mappings span places → filter_map (taken_at closings cut mappings) places ≡ takes_of (λ (entry : RowSite × Mapping). not (is_old_mapping closings cut entry)) mappings
found-taken closings cut mappings span places sorted within ascend has =
    rows-given row_site_cmp row_site_total row_site_exact (take_if (is_old_mapping closings cut)) mappings places sorted ascend
    (λ place mapping found some.
    let goes : is_old_mapping closings cut (place, mapping) ≡ true = goes-if (is_old_mapping closings cut (place, mapping)) (Take place) some in
    let old : is_old_at closings cut mapping.generation ≡ true = old-left (is_left mapping.kind) (is_old_at closings cut mapping.generation) goes in
    has place mapping found (within mapping.generation old))
    ∙ all-taken (is_old_mapping closings cut) mappings

pub held-taken : (h now : Held) → h ≡ now → (cut : Moment) (span : Span) (places : List RowSite) (edits : List (Edit RowSite Mapping)) → IsStrictlySortedBy row_site_cmp (keys_of h.mappings.rows) → IsSpan h.gens.book.closings cut span
    → IsStrictlySortedBy row_site_cmp places → HasMapped (tables_of now).mappings span places → edits ≡ filter_map (taken_at h.gens.book.closings cut (tables_of now).mappings) places
    → edits ≡ takes_of (λ (entry : RowSite × Mapping). not (is_old_mapping (tables_of now).gens.closings cut entry)) (tables_of now).mappings
held-taken h now same cut span places edits sorted within ascend has is =
    let sorted' : IsStrictlySortedBy row_site_cmp (keys_of now.mappings.rows) = subst (λ (x : Held). IsStrictlySortedBy row_site_cmp (keys_of x.mappings.rows)) same sorted in
    let within' : IsSpan now.gens.book.closings cut span = subst (λ (x : Held). IsSpan x.gens.book.closings cut span) same within in
    is ∙ ap (λ (x : Held). filter_map (taken_at x.gens.book.closings cut now.mappings.rows) places) same ∙ found-taken now.gens.book.closings cut now.mappings.rows span places sorted' within' ascend has
