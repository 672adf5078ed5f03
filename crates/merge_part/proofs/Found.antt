-- What is found by a value, in an index and among what comes to it.
use Rattle.std.proofs.Common.{◌≡◌, ◌⊎◌, inl, inr, ℕ, Bool, true, false, cond, ◌||◌, ◌&&◌, ◌==◌, List, [], ◌∷◌, ◌++◌, Some, refl, sym, ap, ◌∙◌, subst, arith}
use Rattle.std.specs.List.{list_any}
use Rattle.std.specs.BTreeMap.{is_at, insert_entry}
use Rattle.std.specs.Map.{lookup, keys_of}
use Rattle.std.specs.Prelude.{is_some}
use Rattle.std.specs.Ordering.{nat_cmp, ordering_then, is_eq}
use Rattle.std.proofs.lemmas.Bool.Decides.{nat_tests}
use Rattle.std.proofs.lemmas.List.Folds.{list_any-append}
use Rattle.merge_types.specs.declared.identifiers.RowId.{RowId}
use Rattle.merge_types.specs.declared.values.Value.{Value}
use Rattle.merge_types.specs.declared.values.Value.TheVariants.{Null}
use Rattle.merge_types.specs.declared.row_key.RowKey.{RowKey}
use Rattle.merge_types.specs.RowKeys.{key_cmp}
use Rattle.merge_table.proofs.Room.{has_room-insert_key}
use Rattle.merge_table.proofs.Slots.{keys-insert_entry}
use Rattle.merge_part.proofs.Drafts.{key_total}
use Rattle.merge_join.specs.declared.entry.JoinEntry.{JoinEntry}
use Rattle.merge_join.specs.Entries.{entry_cmp}
use Rattle.merge_join.specs.Index.{has, of_value}
use Rattle.merge_join.proofs.Blocks.{found-value}
use Rattle.merge_part.proofs.Settled.{is_at-itself}
use Rattle.merge_part.specs.declared.link.Link.{Link}
use Rattle.merge_part.specs.Index.{Entries, entry_for, HasEntry}
use Rattle.merge_part.specs.Waiting.{waits, KeepsWaiting, ChildrenWait, child_of}

abbrev pub is_row : RowId → JoinEntry → Bool
is_row row entry = entry.child.0 == row.0

or_cases : (a b : Bool) → (a || b) ≡ true → (a ≡ true) ⊎ (b ≡ true)
or_cases true b h = inl refl
or_cases false b h = inr h

-- a row that is found by a value stands among the entries of one of the two
pub among_either : (held come : Entries) (number : ℕ) (value : Value) (row : RowId) → HasEntry (held ++ come) number value row → (value ≡ Null → ⊥)
    → (list_any (is_row row) (of_value held number value) ≡ true) ⊎ (list_any (is_row row) (of_value come number value) ≡ true)
unfolding HasEntry
among_either held come number value row entry some =
    elim (or_cases (has held (entry_for number value row)) (has come (entry_for number value row)) (sym (list_any-append (is_at (entry_cmp (entry_for number value row))) held come) ∙ entry some)) [
      | inl there ↦ inl (found-value held number value row ∙ there)
      | inr there ↦ inr (found-value come number value row ∙ there)
    ]

-- its children wait once those of both wait
pub children_wait : (held come : Entries) (number : ℕ) (link : Link) (value : Value) (one two : List RowKey) → KeepsWaiting one two
    → ((row : RowId) → list_any (is_row row) (of_value held number value) ≡ true → waits one (child_of link row) ≡ true)
    → ((row : RowId) → list_any (is_row row) (of_value come number value) ≡ true → waits two (child_of link row) ≡ true)
    → ChildrenWait (held ++ come) number link value two
children_wait held come number link value one two kept first second = λ row entry some.
    elim (among_either held come number value row entry some) [ inl there ↦ kept (child_of link row) (first row there) | inr there ↦ second row there ]

or_move : (w b r : Bool) → (w || (b || r)) ≡ true → ((b || w) || r) ≡ true
or_move w true r h = refl
or_move true false r h = refl
or_move false false r h = h

at_row : (article row child : ℕ) → is_eq (ordering_then (nat_cmp article article) (nat_cmp row child)) ≡ (child == row)
at_row article row child = grind (arith, nat_tests)

pub or_end : (b : Bool) → (b || false) ≡ b
or_end true = refl
or_end false = refl

-- what waits with one row more
pub waits-insert : (waiting : List (RowKey × Unit {0})) (more key : RowKey) → waits (keys_of (insert_entry key_cmp waiting more tt)) key ≡ (is_at (key_cmp key) more || waits (keys_of waiting) key)
waits-insert waiting more key = ap (λ (keys : List RowKey). waits keys key) (keys-insert_entry key_cmp more tt waiting) ∙ has_room-insert_key key_cmp key_total more key (keys_of waiting)

-- with one entry more the row waits, or stands among those that are left
pub wait_step : (article : ℕ) (row : RowId) (waiting : List (RowKey × Unit {0})) (entry : JoinEntry) (left : List JoinEntry)
    → (waits (keys_of waiting) (record { article = article; row = row }) || list_any (is_row row) (entry ∷ left)) ≡ true
    → (waits (keys_of (insert_entry key_cmp waiting (record { article = article; row = entry.child }) tt)) (record { article = article; row = row }) || list_any (is_row row) left) ≡ true
wait_step article row waiting entry left h =
    let key : RowKey = record { article = article; row = row } in
    let more : RowKey = record { article = article; row = entry.child } in
    ap (λ (b : Bool). b || list_any (is_row row) left) (waits-insert waiting more key ∙ ap (λ (b : Bool). b || waits (keys_of waiting) key) (at_row article row.0 entry.child.0))
    ∙ or_move (waits (keys_of waiting) key) (is_row row entry) (list_any (is_row row) left) h

or_left : (a b : Bool) → a ≡ true → (a || b) ≡ true
or_left true b h = refl
or_left false b h = absurd cc

pub or_right : (a b : Bool) → b ≡ true → (a || b) ≡ true
or_right true b h = refl
or_right false b h = h

any_step : (test : RowId → Bool) (row : RowId) → test row ≡ true → (entry : JoinEntry) (entries : Entries) → (list_any (is_row row) entries ≡ true → list_any (λ (e : JoinEntry). test e.child) entries ≡ true)
    → (b : Bool) → is_row row entry ≡ b → (b || list_any (is_row row) entries) ≡ true → (test entry.child || list_any (λ (e : JoinEntry). test e.child) entries) ≡ true
any_step test row holds entry entries ih true is g =
    let of_number : ℕ → RowId = λ n. record { 0 = n } in
    let same : entry.child.0 ≡ row.0 = grind (arith, nat_tests, is) in
    ap (λ (b : Bool). b || list_any (λ (e : JoinEntry). test e.child) entries) (ap test (ap of_number same) ∙ holds)
any_step test row holds entry entries ih false is g = or_right (test entry.child) (list_any (λ (e : JoinEntry). test e.child) entries) (ih g)

-- what waits goes on waiting
pub waits_on : (waiting : List (RowKey × Unit {0})) (more key : RowKey) → waits (keys_of waiting) key ≡ true → waits (keys_of (insert_entry key_cmp waiting more tt)) key ≡ true
waits_on waiting more key h = waits-insert waiting more key ∙ or_right (is_at (key_cmp key) more) (waits (keys_of waiting) key) h

pub waits_last : (waiting : List (RowKey × Unit {0})) (key : RowKey) → waits (keys_of (insert_entry key_cmp waiting key tt)) key ≡ true
waits_last waiting key = waits-insert waiting key key ∙ or_left (is_at (key_cmp key) key) (waits (keys_of waiting) key) (is_at-itself key)

-- a row that is not found does not wait
pub not_waiting : (waiting : List (RowKey × Unit {0})) (key : RowKey) → is_some (lookup (is_at (key_cmp key)) waiting) ≡ false → waits (keys_of waiting) key ≡ false
not_waiting [] key none = refl
not_waiting ((k, u) ∷ waiting) key none = by (is_at (key_cmp key) k) (not_waiting waiting key) none
  where
    by : (b : Bool) → (is_some (lookup (is_at (key_cmp key)) waiting) ≡ false → waits (keys_of waiting) key ≡ false) → is_some (cond b (Some u) (lookup (is_at (key_cmp key)) waiting)) ≡ false → (b || waits (keys_of waiting) key) ≡ false
    by true ih none = absurd cc
    by false ih none = ih none

-- what a test says of a row it says of an entry of it
pub any_of_row : (test : RowId → Bool) (row : RowId) → test row ≡ true → (entries : Entries) → list_any (is_row row) entries ≡ true → list_any (λ (entry : JoinEntry). test entry.child) entries ≡ true
any_of_row test row holds [] h = h
any_of_row test row holds (entry ∷ entries) h = any_step test row holds entry entries (any_of_row test row holds entries) (is_row row entry) refl h

-- some row of entries that a test holds of
pub row_of_any : (test : RowId → Bool) (entries : Entries) → list_any (λ (entry : JoinEntry). test entry.child) entries ≡ true → (row : RowId) × (test row ≡ true)
row_of_any test [] h = absurd cc
row_of_any test (entry ∷ entries) h =
    elim (or_cases (test entry.child) (list_any (λ (e : JoinEntry). test e.child) entries) h) [ inl here ↦ (entry.child, here) | inr later ↦ row_of_any test entries later ]

-- a row that both indexes have together gives what the entries of the value give
pub given_by_either : (test : RowId → Bool) (held come : Entries) (number : ℕ) (value : Value) (row : RowId) → HasEntry (held ++ come) number value row → (value ≡ Null → ⊥) → test row ≡ true
    → (list_any (λ (entry : JoinEntry). test entry.child) (of_value held number value) || list_any (λ (entry : JoinEntry). test entry.child) (of_value come number value)) ≡ true
given_by_either test held come number value row entry some holds =
    elim (among_either held come number value row entry some) [
      | inl there ↦ or_left _ _ (any_of_row test row holds (of_value held number value) there)
      | inr there ↦ or_right _ _ (any_of_row test row holds (of_value come number value) there)
    ]

pub gives_either : (test : RowId → Bool) (held come : Entries) → (list_any (λ (entry : JoinEntry). test entry.child) held || list_any (λ (entry : JoinEntry). test entry.child) come) ≡ true → (row : RowId) × (test row ≡ true)
gives_either test held come h =
    elim (or_cases (list_any (λ (entry : JoinEntry). test entry.child) held) (list_any (λ (entry : JoinEntry). test entry.child) come) h) [ inl here ↦ row_of_any test held here | inr there ↦ row_of_any test come there ]
