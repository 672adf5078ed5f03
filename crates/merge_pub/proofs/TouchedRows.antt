-- The rows that were touched between two generations are found among those that changed or moved there.
use Rattle.std.specs.Prelude.{◌≡◌, ◌<◌, ◌≤◌, ◌⊎◌, ◌==◌, ◌&&◌, ◌||◌, ℕ, List, [], ◌∷◌, Bool, true, false, Option, Some, None, refl, cond, filter, filter_map, is_some, map, max, nat_le, nat_lt, option_map}
use Rattle.std.specs.BTreeMap.{is_at}
use Rattle.std.specs.List.{cons_option, list_any}
use Rattle.std.specs.List.Sorted.{IsStrictlySortedBy}
use Rattle.std.specs.Map.{keys_of}
use Rattle.std.proofs.Common.{arith, sym, ap, ◌∙◌, inl, inr}
use Rattle.std.proofs.lemmas.Bool.Decides.{nat_tests}
use Rattle.merge_types.specs.RowKeys.{key_cmp, key_exact}
use Rattle.merge_types.specs.declared.identifiers.SiteId.{SiteId}
use Rattle.merge_types.specs.declared.row_key.RowKey.{RowKey as Key}
use Rattle.merge_table.proofs.Given.{same-given}
use Rattle.merge_table.specs.Contents.{has_room}
use Rattle.merge_units.specs.declared.site_row.PublisherRow.{PublisherRow}
use Rattle.merge_gens.specs.Moves.{row_site_cmp}
use Rattle.merge_gens.specs.declared.moves.Mapping.{Mapping}
use Rattle.merge_gens.specs.declared.moves.MoveKind.{MoveKind}
use Rattle.merge_gens.specs.declared.moves.MoveKind.TheVariants.{Entered, Left}
use Rattle.merge_gens.specs.declared.moves.RowSite.{RowSite}
use Rattle.merge_schema.specs.declared.publication.Publication.{Publication}
use Rattle.merge_model.specs.Judge.ByNumbers.{by_numbers, changed_in, mapping_at, moved_rows_by_mapping, touch_by_mapping, touch_inside, touch_outside}
use Rattle.merge_model.specs.Publisher.Entries.{keys_of as all_keys}
use Rattle.merge_model.specs.Tables.Keys.{at_row_site, has_key, row_at}
use Rattle.merge_model.specs.Publisher.PublisherDownload.{TouchedRow, inside_keys, is_between, touched_row, touched_rows}
use Rattle.merge_model.specs.Tables.{PublisherTables}
use Rattle.merge_model.proofs.Publishers.Sorted.{key_total}
use Rattle.merge_steps.proofs.HeldKeys.{all-has, all-sorted}
use Rattle.merge_pub.specs.Touches.{AreDue, IsDue, kept_if, touched_between}

-- A filter of what is given gives what is kept.

kept-head : {V : Type 0} (test : V → Bool) (v : V) (b : Bool) (rest : List V) → test v ≡ b → cond b (v ∷ rest) rest ≡ cons_option (let x : Option V = cond b (Some v) None in x) rest
kept-head test v true rest is = refl
kept-head test v false rest is = refl

filter-head : {V : Type 0} (test : V → Bool) (found : Option V) (rest more : List V) → filter test rest ≡ more → filter test (cons_option found rest) ≡ cons_option (kept_if test found) more
filter-head test None rest more same = same
filter-head test (Some v) rest more same = kept-head test v (test v) (filter test rest) refl ∙ ap (λ (vs : List _). cons_option (kept_if test (Some v)) vs) same

filter-given : {K V : Type 0} (test : V → Bool) (g : K → Option V) (xs : List K) → filter test (filter_map g xs) ≡ filter_map (λ (k : K). kept_if test (g k)) xs
filter-given test g [] = refl
filter-given test g (x ∷ xs) = filter-head test (g x) (filter_map g xs) (filter_map (λ (k : _). kept_if test (g k)) xs) (filter-given test g xs)

-- What was touched has changed or moved then, and is held or has moved.

max-is : (a b : ℕ) → (max a b ≡ a) ⊎ (max a b ≡ b)
max-is a b = elim (nat_le a b) as (λ (t : Bool). nat_le a b ≡ t → (max a b ≡ a) ⊎ (max a b ≡ b)) [
  | true ↦ (λ e. inr (grind (arith, nat_tests, e)))
  | false ↦ (λ e. inl (grind (arith, nat_tests, e)))
] refl

abbrev generation_of : Option Mapping → Option ℕ
generation_of mapping = option_map (λ (m : Mapping). m.generation) mapping

inside-kind : (changed n g : ℕ) (kind : MoveKind) → (let t : ℕ = elim kind [ Entered ↦ max changed n | Left ↦ changed ] in t) ≡ g → (changed ≡ g) ⊎ (Some n ≡ Some g)
inside-kind changed n g Entered e = elim (max-is changed n) [ inl first ↦ inl (sym first ∙ e) | inr second ↦ inr (ap (λ (x : ℕ). (let o : Option ℕ = Some x in o)) (sym second ∙ e)) ]
inside-kind changed n g Left e = inl e

inside-from : (changed g : ℕ) (mapping : Option Mapping) → touch_inside changed mapping ≡ g → (changed ≡ g) ⊎ (generation_of mapping ≡ Some g)
inside-from changed g None e = inl e
inside-from changed g (Some m) e = inside-kind changed m.generation g m.kind e

outside-kind : (n g : ℕ) (kind : MoveKind) → (let t : Option ℕ = elim kind [ Entered ↦ None | Left ↦ Some n ] in t) ≡ Some g → Some n ≡ Some g
outside-kind n g Entered e = absurd cc
outside-kind n g Left e = e

outside-from : (g : ℕ) (mapping : Option Mapping) → touch_outside mapping ≡ Some g → generation_of mapping ≡ Some g
outside-from g None e = absurd cc
outside-from g (Some m) e = outside-kind m.generation g m.kind e

-- a touch, by the generation of the last change and the mapping
abbrev touch_by : Option ℕ → Option Mapping → Bool → Option ℕ
touch_by changed mapping true = option_map (λ (c : ℕ). touch_inside c mapping) changed
touch_by changed mapping false = touch_outside mapping

touch-is : (p : PublisherTables) (key : Key) (site : ℕ) (is_in : Bool) → touch_by_mapping p key site is_in ≡ touch_by (changed_in p key) (mapping_at p key site) is_in
touch-is p key site true = refl
touch-is p key site false = refl

abbrev From : Option ℕ → Option Mapping → ℕ → Type 0
From changed mapping g = (changed ≡ Some g) ⊎ (generation_of mapping ≡ Some g)

touch-from : (changed : Option ℕ) (mapping : Option Mapping) (is_in : Bool) (g : ℕ) → touch_by changed mapping is_in ≡ Some g → From changed mapping g
touch-from None mapping true g e = absurd cc
touch-from (Some c) mapping true g e = elim (inside-from c g mapping (let same : touch_inside c mapping ≡ g = cc in same)) [ inl first ↦ inl (ap (λ (x : ℕ). (let o : Option ℕ = Some x in o)) first) | inr second ↦ inr second ]
touch-from changed mapping false g e = inr (outside-from g mapping e)

-- what is kept of a touched row
kept-touch : (from to : ℕ) (key : Key) (is_in : Bool) (found : Option ℕ) → is_some (kept_if (is_between from to) (option_map (λ (generation : ℕ). (let row : TouchedRow = record { key = key; is_in = is_in; generation = generation } in row)) found)) ≡ true
    → (g : ℕ) × (found ≡ Some g) × (from < g) × (g ≤ to)
kept-touch from to key is_in None some = absurd cc
kept-touch from to key is_in (Some g) some = by (nat_lt from g && nat_le g to) refl some
  where
    by : (b : Bool) → (nat_lt from g && nat_le g to) ≡ b → is_some (let x : Option TouchedRow = cond b (Some (record { key = key; is_in = is_in; generation = g })) None in x) ≡ true → (h : ℕ) × (Some g ≡ Some h) × (from < h) × (h ≤ to)
    by true e is = (g, refl, grind (arith, nat_tests, e), grind (arith, nat_tests, e))
    by false e is = absurd cc

module _ (publication : Publication) (p : PublisherTables) (site : SiteId) (from to : ℕ) where
  due : (key : Key) → is_some (touched_between publication p site from to key) ≡ true → IsDue p site.0 from to key
  due key some =
      let is_in : Bool = has_key (inside_keys publication site p) key in
      let kept = kept-touch from to key is_in (touch_by_mapping p key site.0 is_in) some in
      (kept.0, kept.2, kept.3, touch-from (changed_in p key) (mapping_at p key site.0) is_in kept.0 (sym (touch-is p key site.0 is_in) ∙ kept.1))

  -- a row that changed is held
  changed-held : (rows : List (Key × PublisherRow)) (key : Key) (g : ℕ) → option_map (λ (row : PublisherRow). row.changed) (row_at rows key) ≡ Some g → has_room key_cmp (keys_of rows) key ≡ true
  changed-held [] key g e = absurd cc
  changed-held (row ∷ rows) key g e = by (is_at (key_cmp key) row.0) refl e (changed-held rows key g)
    where
      by : (b : Bool) → is_at (key_cmp key) row.0 ≡ b → option_map (λ (r : PublisherRow). r.changed) (let x : Option PublisherRow = cond b (Some row.1) (row_at rows key) in x) ≡ Some g
          → (option_map (λ (r : PublisherRow). r.changed) (row_at rows key) ≡ Some g → has_room key_cmp (keys_of rows) key ≡ true) → (is_at (key_cmp key) row.0 || has_room key_cmp (keys_of rows) key) ≡ true
      by true at e more = grind (arith, at)
      by false at e more = let later = more e in grind (arith, at, later)

  -- and a row that moved has a line for the site
  moved-held : (mappings : List (RowSite × Mapping)) (key : Key) (g : ℕ) → generation_of (at_row_site mappings (record { key = key; site = site.0 })) ≡ Some g
      → list_any (is_at (key_cmp key)) (map (λ (entry : RowSite × Mapping). entry.0.key) (filter (λ (entry : RowSite × Mapping). entry.0.site == site.0) mappings)) ≡ true
  moved-held [] key g e = absurd cc
  moved-held (m ∷ mappings) key g e = by (is_at (key_cmp key) m.0.key) (m.0.site == site.0) (is_at (row_site_cmp (record { key = key; site = site.0 })) m.0) refl refl refl e (moved-held mappings key g)
    where
      by : (a b c : Bool) → is_at (key_cmp key) m.0.key ≡ a → (m.0.site == site.0) ≡ b → is_at (row_site_cmp (record { key = key; site = site.0 })) m.0 ≡ c
          → generation_of (let x : Option Mapping = cond c (Some m.1) (at_row_site mappings (record { key = key; site = site.0 })) in x) ≡ Some g
          → (generation_of (at_row_site mappings (record { key = key; site = site.0 })) ≡ Some g → list_any (is_at (key_cmp key)) (map (λ (entry : RowSite × Mapping). entry.0.key) (filter (λ (entry : RowSite × Mapping). entry.0.site == site.0) mappings)) ≡ true)
          → list_any (is_at (key_cmp key)) (map (λ (entry : RowSite × Mapping). entry.0.key) (let kept : List (RowSite × Mapping) = cond b (m ∷ filter (λ (entry : RowSite × Mapping). entry.0.site == site.0) mappings) (filter (λ (entry : RowSite × Mapping). entry.0.site == site.0) mappings) in kept)) ≡ true
      by true true c at here is e more = grind (arith, at)
      by false true true at here is e more = absurd (grind (arith, nat_tests, at, here, is))
      by false true false at here is e more = let later = more e in grind (arith, at, later)
      by a false true at here is e more = absurd (grind (arith, nat_tests, at, here, is))
      by a false false at here is e more = more e

  or-any : (a b : Bool) → (b ≡ true) ⊎ (a ≡ true) → (a || b) ≡ true
  or-any true b e = refl
  or-any false b (inl e) = e
  or-any false b (inr e) = absurd cc

  due-held : (key : Key) → IsDue p site.0 from to key → list_any (is_at (key_cmp key)) (all_keys p.rows (moved_rows_by_mapping p site.0)) ≡ true
  due-held key (g, above, below, either) =
      all-has p.rows (moved_rows_by_mapping p site.0) key
      ∙ or-any (list_any (is_at (key_cmp key)) (moved_rows_by_mapping p site.0)) (has_room key_cmp (keys_of p.rows) key)
      (elim either [ inl changed ↦ inl (changed-held p.rows key g changed) | inr moved ↦ inr (moved-held p.mappings key g moved) ])

  -- the rows that were touched between are found among those that are due
  pub touched-among : (candidates : List Key) → IsStrictlySortedBy key_cmp (keys_of p.rows) → IsStrictlySortedBy key_cmp candidates → AreDue p site.0 from to candidates
      → filter (is_between from to) (touched_rows publication (by_numbers p) site p) ≡ filter_map (touched_between publication p site from to) candidates
  touched-among candidates sorted ascend among =
      filter-given (is_between from to) (touched_row (by_numbers p) site (inside_keys publication site p)) (all_keys p.rows (moved_rows_by_mapping p site.0))
      ∙ same-given key_cmp key_total key_exact (touched_between publication p site from to) (all_keys p.rows (moved_rows_by_mapping p site.0)) candidates (all-sorted p.rows (moved_rows_by_mapping p site.0) sorted) ascend
      (λ key some. due-held key (due key some) ∙ sym (among key (due key some)))
