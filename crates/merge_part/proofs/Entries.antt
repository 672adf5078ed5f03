-- How the entries of an index follow a row that changes.
use Rattle.std.proofs.Common.{◌≡◌, ◌⊎◌, ◌≢◌, inl, inr, ◌<◌, ◌≤◌, ◌+◌, ℕ, zero, suc, Bool, true, false, not, cond, ◌&&◌, ◌||◌, ◌==◌, nat_lt, List, [], ◌∷◌, ◌++◌, length, Option, Some, None, refl, sym, ap, ◌∙◌, subst, arith}
use Rattle.std.specs.Prelude.{slice_index_or}
use Rattle.std.specs.List.{list_any}
use Rattle.std.specs.List.Sorted.{IsStrictlySortedBy}
use Rattle.std.specs.BTreeMap.{is_at}
use Rattle.std.specs.BTreeSet.{insert_key}
use Rattle.std.specs.Cmp.{Equal-is}
use Rattle.std.specs.Ordering.{is_eq}
use Rattle.std.proofs.lemmas.Bool.Decides.{nat_tests}
use Rattle.std.proofs.lemmas.Cmp.{tied_itself}
use Rattle.std.proofs.lemmas.List.Folds.{list_any-append}
use Rattle.merge_types.specs.declared.identifiers.RowId.{RowId}
use Rattle.merge_types.specs.declared.values.Value.{Value}
use Rattle.merge_types.specs.declared.values.Value.TheVariants.{Null}
use Rattle.merge_types.specs.ValueOrder.{value_cmp, value_total, value_exact}
use Rattle.merge_types.specs.declared.row_key.RowKey.{RowKey}
use Rattle.merge_types.specs.RowKeys.{key_cmp}
use Rattle.merge_table.specs.declared.edit.Edit.{Edit}
use Rattle.merge_table.specs.declared.edit.Edit.TheVariants.{Put, Take}
use Rattle.merge_table.proofs.Room.{has_room-insert_key}
use Rattle.merge_schema.specs.Partition.{are_joined}
use Rattle.merge_schema.proofs.JoinedValues.{same_values_join}
use Rattle.merge_join.specs.declared.entry.JoinEntry.{JoinEntry}
use Rattle.merge_join.specs.Entries.{entry_cmp}
use Rattle.merge_join.specs.Index.{has, puts, set_after, set_after_all}
use Rattle.merge_join.proofs.Blocks.{tests_tell}
use Rattle.merge_join.proofs.Changed.{sorted-set_all, set_after_all-push, put-or_there}
use Rattle.merge_join.proofs.Members.{entry_total, has-removed}
use Rattle.merge_part.specs.declared.content.Content.{Content}
use Rattle.merge_part.specs.declared.index.DraftIndex.{DraftIndex}
use Rattle.merge_part.specs.declared.link.Link.{Link}
use Rattle.merge_part.specs.Entering.{is_of_row, after, between, StaysFound, Leaves, Comes, IsReplaced, IsChangedTo, IsEntered}
use Rattle.merge_part.specs.Index.{Entries, entry_for, HasEntry, AllCome, at_link, as_side}
use Rattle.merge_part.specs.Rule.{is_null, value_at, content_value, IsAt}
use Rattle.merge_part.proofs.Kept.{same_key}
use Rattle.merge_part.proofs.Settled.{is_at-itself}

bool_same : (b c : Bool) → (b ≡ true → c ≡ true) → (c ≡ true → b ≡ true) → b ≡ c
bool_same true c there back = sym (there refl)
bool_same false true there back = back refl
bool_same false false there back = refl

not_true : (b : Bool) → (b ≡ true → ⊥) → b ≡ false
not_true true none = absurd (none refl)
not_true false none = refl

pub null_is : (value : Value) → is_null value ≡ true → value ≡ Null
null_is Null h = refl
null_is value h = absurd cc

pub null_is_not : (value : Value) → is_null value ≡ false → value ≡ Null → ⊥
null_is_not value h null = let bad : true ≡ false = sym (ap is_null null) ∙ h in absurd cc

-- nothing joins with Null
pub null_joins : (value : Value) → are_joined value Null ≡ false
null_joins value = not_true (are_joined value Null) (λ h. let was = (same_values_join value Null).0 h in was.1 was.0)

-- values that join are those that compare as equal, but for Null
joined_same : (a v : Value) → (v ≡ Null → ⊥) → is_eq (value_cmp a v) ≡ are_joined a v
joined_same a v some =
    bool_same (is_eq (value_cmp a v)) (are_joined a v)
    (λ h. let same : a ≡ v = value_exact a v ((Equal-is (value_cmp a v)).0 h) in (same_values_join a v).1 (same, λ null. some (sym same ∙ null)))
    (λ h. let same : a ≡ v = ((same_values_join a v).0 h).0 in ap (λ (x : Value). is_eq (value_cmp x v)) same ∙ ap is_eq (tied_itself value_total v))

and_assoc : (a b c : Bool) → ((a && b) && c) ≡ (a && (b && c))
and_assoc true b c = refl
and_assoc false b c = refl

-- the test for a row's entry
entry_is : (number : ℕ) (v : Value) (row : RowId) → (v ≡ Null → ⊥) → (e : JoinEntry) → is_at (entry_cmp e) (entry_for number v row) ≡ (are_joined e.value v && is_of_row number row e)
entry_is number v row some e =
    tests_tell (value_cmp e.value v) e.join number e.child.0 row.0
    ∙ and_assoc (is_eq (value_cmp e.value v)) (number == e.join) (row.0 == e.child.0)
    ∙ ap (λ (b : Bool). b && is_of_row number row e) (joined_same e.value v some)

any_one : (b c : Bool) → (b || (c || false)) ≡ (c || b)
any_one true true = refl
any_one true false = refl
any_one false true = refl
any_one false false = refl

or_true : (b c : Bool) → (b ≡ true → c ≡ true) → (d : Bool) → (d || b) ≡ true → (d || c) ≡ true
or_true b c more true h = refl
or_true b c more false h = more h

or_none : (b : Bool) → (b || false) ≡ b
or_none true = refl
or_none false = refl

or_cases : (a b : Bool) → (a || b) ≡ true → (a ≡ true) ⊎ (b ≡ true)
or_cases true b h = inl refl
or_cases false b h = inr h

second_part : (a b : Bool) → (a && b) ≡ true → b ≡ true
second_part true b h = h
second_part false b h = absurd cc

-- the entry of a row is taken out
pub left : (old new : DraftIndex) (number : ℕ) (v : Value) (row : RowId) → (v ≡ Null → ⊥) → new.come ≡ old.come → new.changes.items ≡ old.changes.items ++ Take (entry_for number v row) ∷ [] → Leaves old new number v row
left old new number v row some same is = record {
  come = λ all e h.
      let was : list_any (puts e) old.changes.items ≡ true =
      sym (or_none (list_any (puts e) old.changes.items)) ∙ sym (list_any-append (puts e) old.changes.items (Take (entry_for number v row) ∷ [])) ∙ ap (list_any (puts e)) (sym is) ∙ h in
      ap (λ come. has come.set e) same ∙ all e was;
  stay = λ e h. ap (λ come. has come.set e) same ∙ h;
  fresh = λ e h. inl (ap (λ come. has come.set e) (sym same) ∙ h);
  entries = λ set sorted e.
      ap (λ changes. has (set_after_all set changes) e) is
      ∙ ap (λ (s : Entries). has s e) (set_after_all-push set old.changes.items (Take (entry_for number v row)))
      ∙ has-removed (after set old) (entry_for number v row) e (sorted-set_all set old.changes.items sorted)
      ∙ ap (λ (b : Bool). not b && has (after set old) e) (entry_is number v row some e);
}

-- and one is put in
pub came : (old new : DraftIndex) (number : ℕ) (v : Value) (row : RowId) → (v ≡ Null → ⊥) → new.come.set ≡ insert_key entry_cmp old.come.set (entry_for number v row) → new.changes.items ≡ old.changes.items ++ Put (entry_for number v row) tt ∷ []
    → Comes old new number v row
came old new number v row some inserted is = record {
  come = λ all e h.
      let was : (is_at (entry_cmp e) (entry_for number v row) || list_any (puts e) old.changes.items) ≡ true =
      sym (any_one (list_any (puts e) old.changes.items) (is_at (entry_cmp e) (entry_for number v row))) ∙ sym (list_any-append (puts e) old.changes.items (Put (entry_for number v row) tt ∷ [])) ∙ ap (list_any (puts e)) (sym is) ∙ h in
      ap (λ (s : Entries). has s e) inserted ∙ has_room-insert_key entry_cmp entry_total (entry_for number v row) e old.come.set
      ∙ or_true (list_any (puts e) old.changes.items) (has old.come.set e) (all e) (is_at (entry_cmp e) (entry_for number v row)) was;
  stay = λ e h.
      ap (λ (s : Entries). has s e) inserted ∙ has_room-insert_key entry_cmp entry_total (entry_for number v row) e old.come.set
      ∙ ap (λ (b : Bool). is_at (entry_cmp e) (entry_for number v row) || b) h ∙ or_end (is_at (entry_cmp e) (entry_for number v row));
  fresh = λ e h.
      elim (or_cases (is_at (entry_cmp e) (entry_for number v row)) (has old.come.set e) (sym (ap (λ (s : Entries). has s e) inserted ∙ has_room-insert_key entry_cmp entry_total (entry_for number v row) e old.come.set) ∙ h)) [
        | inl here ↦ inr (second_part (are_joined e.value v) (is_of_row number row e) (sym (entry_is number v row some e) ∙ here))
        | inr there ↦ inl there
      ];
  entries = λ set sorted e.
      ap (λ changes. has (set_after_all set changes) e) is
      ∙ ap (λ (s : Entries). has s e) (set_after_all-push set old.changes.items (Put (entry_for number v row) tt))
      ∙ has_room-insert_key entry_cmp entry_total (entry_for number v row) e (after set old)
      ∙ ap (λ (b : Bool). b || has (after set old) e) (entry_is number v row some e);
}
  where
    or_end : (b : Bool) → (b || true) ≡ true
    or_end true = refl
    or_end false = refl

-- for Null nothing changes
pub left_null : (old : DraftIndex) (number : ℕ) (v : Value) (row : RowId) → v ≡ Null → Leaves old old number v row
left_null old number v row null = record {
  come = λ all. all;
  stay = λ e h. h;
  fresh = λ e h. inl h;
  entries = λ set sorted e. ap (λ (b : Bool). not (b && is_of_row number row e) && has (after set old) e) (sym (ap (are_joined e.value) null ∙ null_joins e.value));
}

pub came_null : (old : DraftIndex) (number : ℕ) (v : Value) (row : RowId) → v ≡ Null → Comes old old number v row
came_null old number v row null = record {
  come = λ all. all;
  stay = λ e h. h;
  fresh = λ e h. inl h;
  entries = λ set sorted e. ap (λ (b : Bool). (b && is_of_row number row e) || has (after set old) e) (sym (ap (are_joined e.value) null ∙ null_joins e.value));
}

same_then : (r h j : Bool) → (r ≡ true → h ≡ j) → h ≡ cond r j h
same_then true h j is = is refl
same_then false h j is = refl

left_then : (r j k h : Bool) → (r ≡ true → h ≡ j) → ((k && r) || (not (j && r) && h)) ≡ cond r k h
left_then false true k h is = none_left k h
  where
    none_left : (k h : Bool) → ((k && false) || h) ≡ h
    none_left true h = refl
    none_left false h = refl
left_then false false k h is = none_left k h
  where
    none_left : (k h : Bool) → ((k && false) || h) ≡ h
    none_left true h = refl
    none_left false h = refl
left_then true true true h is = refl
left_then true true false h is = refl
left_then true false true h is = refl
left_then true false false h is = is refl

-- a row keeps the value by which it is found
pub replaced_same : (old : DraftIndex) (number : ℕ) (v w : Value) (row : RowId) → v ≡ w → IsReplaced old old number v w row
replaced_same old number v w row same = record {
  come = λ all. all;
  stay = λ e h. h;
  fresh = λ e h. inl h;
  entries = λ set sorted e is. same_then (is_of_row number row e) (has (after set old) e) (are_joined e.value w) (λ of. is of ∙ ap (are_joined e.value) same);
}

-- or leaves one and comes to another
pub replaced : (old mid new : DraftIndex) (number : ℕ) (v w : Value) (row : RowId) → Leaves old mid number v row → Comes mid new number w row → IsReplaced old new number v w row
replaced old mid new number v w row leaves comes = record {
  come = λ all. comes.come (leaves.come all);
  stay = λ e h. comes.stay e (leaves.stay e h);
  fresh = λ e h. elim (comes.fresh e h) [ inl was ↦ leaves.fresh e was | inr here ↦ inr here ];
  entries = λ set sorted e is.
      comes.entries set sorted e ∙ ap (λ (b : Bool). (are_joined e.value w && is_of_row number row e) || b) (leaves.entries set sorted e)
      ∙ left_then (is_of_row number row e) (are_joined e.value v) (are_joined e.value w) (has (after set old) e) is;
}

-- what is said of the link at a place
pub at_link-is : (links : List Link) (n : ℕ) (link : Link) (test : Link → Bool) → IsAt links n link → at_link links n test ≡ test link
at_link-is [] n link test at = absurd (omega (arith, at.0))
at_link-is (l ∷ links) zero link test at = ap test at.1
at_link-is (l ∷ links) (suc n) link test at = at_link-is links n link test (omega (arith, at.0), at.1)

at_link-none : (links : List Link) (n : ℕ) (test : Link → Bool) → length links ≤ n → at_link links n test ≡ false
at_link-none [] n test most = refl
at_link-none (l ∷ links) zero test most = absurd (omega (arith, most))
at_link-none (l ∷ links) (suc n) test most = at_link-none links n test (omega (arith, most))

pub at_link-false : (links : List Link) (n : ℕ) (test : Link → Bool) → ((link : Link) → test link ≡ false) → at_link links n test ≡ false
at_link-false [] n test none = refl
at_link-false (l ∷ links) zero test none = none l
at_link-false (l ∷ links) (suc n) test none = at_link-false links n test none

key_is : (article : ℕ) (row : RowId) (key : RowKey) → article ≡ key.article → row.0 ≡ key.row.0 → record { article = article; row = row } ≡ key
key_is article row key by_article by_row =
    let of_article : ℕ → RowKey = λ a. record { article = a; row = row } in
    let of_row : ℕ → RowKey = λ n. record { article = key.article; row = record { 0 = n } } in
    ap of_article by_article ∙ ap of_row by_row

-- which entries are a row's, while its links are gone through
module _ (article column : Link → ℕ) (links : List Link) (before rows : RowKey → Option Content) where
  next_by : (count : ℕ) (e : JoinEntry) → (e.join ≡ count → as_side article column links before e ≡ as_side article column links rows e)
      → (b c : Bool) → nat_lt e.join count ≡ b → nat_lt e.join (count + 1) ≡ c
      → cond b (as_side article column links rows e) (as_side article column links before e) ≡ cond c (as_side article column links rows e) (as_side article column links before e)
  next_by count e same true true is next = refl
  next_by count e same true false is next = absurd (grind (arith, nat_tests, is, next))
  next_by count e same false true is next = same (grind (arith, nat_tests, is, next))
  next_by count e same false false is next = refl

  -- one link more
  between_next : (count : ℕ) (e : JoinEntry) → (e.join ≡ count → as_side article column links before e ≡ as_side article column links rows e) → between article column links count before rows e ≡ between article column links (count + 1) before rows e
  between_next count e same = next_by count e same (nat_lt e.join count) (nat_lt e.join (count + 1)) refl refl

  all_by : (e : JoinEntry) (b : Bool) → nat_lt e.join (length links) ≡ b → cond b (as_side article column links rows e) (as_side article column links before e) ≡ as_side article column links rows e
  all_by e true is = refl
  all_by e false is =
      let most : length links ≤ e.join = grind (arith, nat_tests, is) in
      at_link-none links e.join _ most ∙ sym (at_link-none links e.join _ most)

  -- all links
  pub between_all : (e : JoinEntry) → between article column links (length links) before rows e ≡ as_side article column links rows e
  between_all e = all_by e (nat_lt e.join (length links)) refl

  none_by : (e : JoinEntry) (b : Bool) → nat_lt e.join 0 ≡ b → as_side article column links before e ≡ cond b (as_side article column links rows e) (as_side article column links before e)
  none_by e true is = absurd (grind (arith, nat_tests, is))
  none_by e false is = refl

  none_yet : (e : JoinEntry) → as_side article column links before e ≡ between article column links 0 before rows e
  none_yet e = none_by e (nat_lt e.join 0) refl

  -- what is said of an entry at a link
  side_is : (count : ℕ) (link : Link) → IsAt links count link → (held : RowKey → Option Content) (e : JoinEntry) → e.join ≡ count
      → as_side article column links held e ≡ are_joined e.value (content_value (held (record { article = article link; row = e.child })) (column link))
  side_is count link at held e same = at_link-is links e.join link _ (subst (λ n. IsAt links n link) (sym same) at)

  other_side : (key : RowKey) (is : Option Content) → IsChangedTo key is before rows → (count : ℕ) (link : Link) → IsAt links count link → (e : JoinEntry)
      → is_at (key_cmp key) (record { article = article link; row = e.child }) ≡ false → e.join ≡ count → as_side article column links before e ≡ as_side article column links rows e
  other_side key is changed count link at e apart same =
      side_is count link at before e same
      ∙ ap (λ (held : Option Content). are_joined e.value (content_value held (column link))) (sym (changed (record { article = article link; row = e.child }) ∙ ap (λ (b : Bool). cond b is (before (record { article = article link; row = e.child }))) apart))
      ∙ sym (side_is count link at rows e same)

and_parts : (a b : Bool) → (a && b) ≡ true → (a ≡ true) × (b ≡ true)
and_parts true b h = (refl, h)
and_parts false b h = absurd cc

module _ (article column : Link → ℕ) (links : List Link) (key : RowKey) (was is : Option Content) where
  -- before the first link nothing has changed
  pub entered_none : (old : DraftIndex) → IsEntered article column links 0 old old key was is
  entered_none old = record {
    come = λ all. all;
    stay = λ e h. h;
    fresh = λ e h. inl h;
    entries = λ set sorted before rows at changed exact e. exact e ∙ none_yet article column links before rows e;
  }

  -- a link of another article asks for nothing
  pub entered_passed : (old draft : DraftIndex) (count : ℕ) (link : Link) → IsAt links count link → article link ≢ key.article → IsEntered article column links count old draft key was is → IsEntered article column links (count + 1) old draft key was is
  entered_passed old draft count link at other so_far = record {
    come = so_far.come;
    stay = so_far.stay;
    fresh = so_far.fresh;
    entries = λ set sorted before rows at_key changed exact e.
        so_far.entries set sorted before rows at_key changed exact e
        ∙ between_next article column links before rows count e
        (other_side article column links before rows key is changed count link at e
        (not_true (is_at (key_cmp key) (record { article = article link; row = e.child })) (λ h. other (sym (ap (λ (k : RowKey). k.article) (same_key key (record { article = article link; row = e.child }) h))))));
  }

  row_is : (number : ℕ) (row : RowId) (e : JoinEntry) → is_of_row number row e ≡ true → (e.join ≡ number) × (e.child.0 ≡ row.0)
  row_is number row e h =
      let parts = and_parts (number == e.join) (row.0 == e.child.0) h in
      let one : (number == e.join) ≡ true = parts.0 in
      let two : (row.0 == e.child.0) ≡ true = parts.1 in
      (grind (arith, nat_tests, one), grind (arith, nat_tests, two))

  row_is_not : (number : ℕ) (row : RowId) (e : JoinEntry) → is_of_row number row e ≡ false → e.join ≡ number → (e.child.0 ≡ row.0) → ⊥
  row_is_not number row e h same child =
      let one : (number == e.join) ≡ true = grind (arith, nat_tests, same) in
      let two : (row.0 == e.child.0) ≡ true = grind (arith, nat_tests, child) in
      let bad : true ≡ false = sym (ap (λ (b : Bool). b && (row.0 == e.child.0)) one ∙ two) ∙ h in
      absurd cc

  step_by : (before rows : RowKey → Option Content) → before key ≡ was → IsChangedTo key is before rows → (count : ℕ) (link : Link) → IsAt links count link → article link ≡ key.article → (e : JoinEntry)
      → (b : Bool) → is_of_row count key.row e ≡ b
      → cond b (are_joined e.value (content_value is (column link))) (between article column links count before rows e) ≡ between article column links (count + 1) before rows e
  step_by before rows at_key changed count link at here e true of =
      let parts = row_is count key.row e of in
      let below : nat_lt e.join (count + 1) ≡ true = grind (arith, nat_tests, parts.0) in
      let key_at : record { article = article link; row = e.child } ≡ key = key_is (article link) e.child key here parts.1 in
      let row_at : rows (record { article = article link; row = e.child }) ≡ is = ap rows key_at ∙ changed key ∙ ap (λ (b : Bool). cond b is (before key)) (is_at-itself key) in
      ap (λ (held : Option Content). are_joined e.value (content_value held (column link))) (sym row_at)
      ∙ sym (side_is article column links before rows count link at rows e parts.0)
      ∙ ap (λ (b : Bool). cond b (as_side article column links rows e) (as_side article column links before e)) (sym below)
  step_by before rows at_key changed count link at here e false of =
      between_next article column links before rows count e (λ same.
      other_side article column links before rows key is changed count link at e
      (not_true (is_at (key_cmp key) (record { article = article link; row = e.child })) (λ h.
      row_is_not count key.row e of same (ap (λ (k : RowKey). k.row.0) (sym (same_key key (record { article = article link; row = e.child }) h))))) same)

  -- at a link of the row's article the entry of the new value takes the place of that of the old
  pub entered_next : (old draft draft' : DraftIndex) (count : ℕ) (link : Link) → IsAt links count link → article link ≡ key.article
      → IsReplaced draft draft' count (content_value was (column link)) (content_value is (column link)) key.row
      → IsEntered article column links count old draft key was is → IsEntered article column links (count + 1) old draft' key was is
  entered_next old draft draft' count link at here replaces so_far = record {
    come = λ all. replaces.come (so_far.come all);
    stay = λ e h. replaces.stay e (so_far.stay e h);
    fresh = λ e h.
        elim (replaces.fresh e h) [
          | inl was ↦ so_far.fresh e was
          | inr of ↦
              let parts = row_is count key.row e of in
              let of_number : ℕ → RowId = λ n. record { 0 = n } in
              let linked : (article link == key.article) ≡ true = grind (arith, nat_tests, here) in
              inr (at_link-is links e.join link (λ l. article l == key.article) (subst (λ n. IsAt links n link) (sym parts.0) at) ∙ linked, ap of_number parts.1)
        ];
    entries = λ set sorted before rows at_key changed exact e.
        let so : has (after set draft) e ≡ between article column links count before rows e = so_far.entries set sorted before rows at_key changed exact e in
        replaces.entries set sorted e (λ of.
        let parts = row_is count key.row e of in
        let below : nat_lt e.join count ≡ false = grind (arith, nat_tests, parts.0) in
        let key_at : record { article = article link; row = e.child } ≡ key = key_is (article link) e.child key here parts.1 in
        so ∙ ap (λ (b : Bool). cond b (as_side article column links rows e) (as_side article column links before e)) below
        ∙ side_is article column links before rows count link at before e parts.0
        ∙ ap (λ (held : Option Content). are_joined e.value (content_value held (column link))) (ap before key_at ∙ at_key))
        ∙ ap (λ (h : Bool). cond (is_of_row count key.row e) (are_joined e.value (content_value is (column link))) h) so
        ∙ step_by before rows at_key changed count link at here e (is_of_row count key.row e) refl;
  }

-- a row is found by each value that it has
module _ (article column : Link → ℕ) (links : List Link) (set : Entries) (draft : DraftIndex) (rows : RowKey → Option Content)
    (exact : (e : JoinEntry) → has (after set draft) e ≡ as_side article column links rows e) (come : AllCome draft) where
  pub found_by_value : (key : RowKey) (content : Content) → rows key ≡ Some content → (number : ℕ) (link : Link) → IsAt links number link → article link ≡ key.article
      → HasEntry (set ++ draft.come.set) number (value_at content.values (column link)) key.row
  unfolding HasEntry
  found_by_value key content live number link at here = λ some.
      let v : Value = value_at content.values (column link) in
      let e : JoinEntry = entry_for number v key.row in
      let key_at : record { article = article link; row = key.row } ≡ key = key_is (article link) key.row key here refl in
      let there : has (after set draft) e ≡ true =
      exact e ∙ at_link-is links number link _ at
      ∙ ap (λ (held : Option Content). are_joined v (content_value held (column link))) (ap rows key_at ∙ live) ∙ (same_values_join v v).1 (refl, some) in
      let either : (has set e || list_any (puts e) draft.changes.items) ≡ true = put-or_there set draft.changes.items e there in
      list_any-append (is_at (entry_cmp e)) set draft.come.set ∙ or_true (list_any (puts e) draft.changes.items) (has draft.come.set e) (come e) (has set e) either
