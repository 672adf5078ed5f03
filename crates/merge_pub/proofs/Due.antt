-- The rows that changed or moved between two generations are found through the indexes.
use Rattle.std.specs.Prelude.{◌≡◌, ◌<◌, ◌≤◌, ◌↔◌, ◌⊎◌, ◌||◌, ◌==◌, ◌+◌, ◌++◌, ℕ, Bool, true, false, List, [], ◌∷◌, Option, Some, None, Contains, refl, cond, filter, is_some, map, nat_le, option_map}
use Rattle.std.specs.BTreeMap.{is_at}
use Rattle.std.specs.FinSet as set
use Rattle.std.specs.List.{list_any}
use Rattle.std.specs.Map.{keys_of, lookup}
use Rattle.std.specs.Ordering.{is_eq}
use Rattle.std.proofs.Common.{arith, sym, ap, ◌∙◌, subst, inl, inr}
use Rattle.std.proofs.lemmas.Bool.Decides.{nat_tests}
use Rattle.std.proofs.lemmas.Cmp.{tied_itself}
use Rattle.std.proofs.lemmas.List.Folds.{list_any-append}
use Rattle.merge_types.specs.RowKeys.{key_cmp}
use Rattle.merge_types.specs.declared.row_key.RowKey.{RowKey as Key}
use Rattle.merge_units.specs.declared.site_row.PublisherRow.{PublisherRow}
use Rattle.merge_gens.specs.Entries.{entry_cmp, entry_of, row_of}
use Rattle.merge_gens.specs.Index.{AddsRowsBetween}
use Rattle.merge_gens.specs.declared.moves.Mapping.{Mapping}
use Rattle.merge_gens.proofs.RowLists.{added_rows}
use Rattle.merge_schema.proofs.ListMembers.{any_at, any_found}
use Rattle.merge_model.specs.Judge.ByNumbers.{changed_in, mapping_at}
use Rattle.merge_model.specs.Tables.Keys.{row_at}
use Rattle.merge_model.specs.Tables.{PublisherTables}
use Rattle.merge_model.proofs.Publishers.Sorted.{key_total}
use Rattle.merge_steps.specs.Indexed.{AreIndexed, AreMoved, has_entry, is_changed, is_moved}
use Rattle.merge_steps.specs.MoveEntries.{move_entry, move_entry_cmp}
use Rattle.merge_steps.specs.MoveWalks.{is_in_walk, is_within, key_of_move, keys_in_walk}
use Rattle.merge_pub.specs.Touches.{AreDue, moved_in}
use Rattle.merge_steps.specs.declared.site_moves.MoveEntry.{MoveEntry}

key-itself : (key : Key) → is_at (key_cmp key) key ≡ true
key-itself key = ap is_eq (tied_itself key_total key)

-- By the last change.

changed-is : (found : Option PublisherRow) (g : ℕ) → option_map (λ (row : PublisherRow). row.changed) found ≡ Some g → is_changed found g ≡ true
changed-is None g e = absurd cc
changed-is (Some row) g e = let same : row.changed ≡ g = cc in grind (arith, nat_tests, same)

pub changed-found : (p : PublisherTables) (entries : set.FinSet entry_cmp) (from to : ℕ) (found : List Key) (key : Key) (g : ℕ) → AreIndexed p.rows entries → AddsRowsBetween entries from to [] found
    → from < g → g ≤ to → changed_in p key ≡ Some g → list_any (is_at (key_cmp key)) found ≡ true
unfolding AreIndexed
changed-found p entries from to found key g indexed adds above below changed =
    let held : set.contains entries (entry_of g key) ≡ true = indexed key g ∙ changed-is (row_at p.rows key) g changed in
    let there = (added_rows entries from to [] found adds key).1 (g, above, below, held) in
    ap (list_any (is_at (key_cmp key))) adds.added ∙ any_at (is_at (key_cmp key)) (map row_of adds.between) key there (key-itself key)

-- By the last move.

moved-is : (found : Option Mapping) (g : ℕ) → option_map (λ (mapping : Mapping). mapping.generation) found ≡ Some g → is_moved found g ≡ true
moved-is None g e = absurd cc
moved-is (Some mapping) g e = let same : mapping.generation ≡ g = cc in grind (arith, nat_tests, same)

-- an entry is of a row and a generation
entry-parts : (key : Key) (site g : ℕ) (e : MoveEntry) → is_at (move_entry_cmp (move_entry (record { key = key; site = site }) g)) e ≡ true → (e.site ≡ site) × (e.generation ≡ g) × (is_at (key_cmp key) e.key ≡ true)
entry-parts key site g e is = (grind (arith, nat_tests, is), grind (arith, nat_tests, is), grind (arith, nat_tests, is))

walk-head : (key : Key) (site first : ℕ) (to : Option ℕ) (g : ℕ) (e : MoveEntry) (rest : List MoveEntry) (b c : Bool) → is_at (move_entry_cmp (move_entry (record { key = key; site = site }) g)) e ≡ b → is_in_walk site first to e ≡ c
    → (b ≡ true → c ≡ true) → (b ≡ false → list_any (is_at (key_cmp key)) (map key_of_move rest) ≡ true)
    → list_any (is_at (key_cmp key)) (map key_of_move (let kept : List MoveEntry = cond c (e ∷ rest) rest in kept)) ≡ true
walk-head key site first to g e rest true true is passes here more = let parts = entry-parts key site g e is in grind (arith, parts.2)
walk-head key site first to g e rest true false is passes here more = absurd (let wrong : false ≡ true = here refl in cc)
walk-head key site first to g e rest false true is passes here more = let later = more refl in grind (arith, later)
walk-head key site first to g e rest false false is passes here more = more refl

passes-walk : (key : Key) (site first : ℕ) (to : Option ℕ) (g : ℕ) (e : MoveEntry) → first ≤ g → is_within to g ≡ true → is_at (move_entry_cmp (move_entry (record { key = key; site = site }) g)) e ≡ true → is_in_walk site first to e ≡ true
passes-walk key site first to g e above within is =
    let parts = entry-parts key site g e is in
    let same : (e.site == site) ≡ true = grind (arith, nat_tests, parts.0) in
    let from : nat_le first e.generation ≡ true = grind (arith, nat_tests, parts.1, above) in
    let end : is_within to e.generation ≡ true = subst (λ (n : ℕ). is_within to n ≡ true) (sym parts.1) within in
    grind (arith, same, from, end)

rest-found : (key : Key) (site g : ℕ) (e : MoveEntry) (u : Unit {0}) (es : List (MoveEntry × Unit {0})) (b : Bool) → b ≡ false → is_some (let found : Option (Unit {0}) = cond b (Some u) (lookup (is_at (move_entry_cmp (move_entry (record { key = key; site = site }) g))) es) in found) ≡ true
    → has_entry es (move_entry (record { key = key; site = site }) g) ≡ true
rest-found key site g e u es true fails has = absurd cc
rest-found key site g e u es false fails has = has

pub walk-found : (key : Key) (site first : ℕ) (to : Option ℕ) (g : ℕ) → first ≤ g → is_within to g ≡ true → (es : List (MoveEntry × Unit {0})) → has_entry es (move_entry (record { key = key; site = site }) g) ≡ true
    → list_any (is_at (key_cmp key)) (keys_in_walk site first to es) ≡ true
walk-found key site first to g above within [] has = absurd cc
walk-found key site first to g above within ((e, u) ∷ es) has =
    walk-head key site first to g e (filter (is_in_walk site first to) (keys_of es)) (is_at (move_entry_cmp (move_entry (record { key = key; site = site }) g)) e) (is_in_walk site first to e) refl refl
    (passes-walk key site first to g e above within)
    (λ fails. walk-found key site first to g above within es (rest-found key site g e u es (is_at (move_entry_cmp (move_entry (record { key = key; site = site }) g)) e) fails has))

moved-found : (p : PublisherTables) (moved : List (MoveEntry × Unit {0})) (site from to : ℕ) (key : Key) (g : ℕ) → AreMoved p.mappings moved → from < g → g ≤ to → moved_in p key site ≡ Some g
    → list_any (is_at (key_cmp key)) (keys_in_walk site (from + 1) (Some to) moved) ≡ true
unfolding AreMoved
moved-found p moved site from to key g are above below is =
    walk-found key site (from + 1) (Some to) g (omega (arith, above)) (grind (arith, nat_tests, below)) moved
    (are (record { key = key; site = site }) g ∙ moved-is (mapping_at p key site) g is)

-- Both.

or-any : (a b : Bool) → (a ≡ true) ⊎ (b ≡ true) → (a || b) ≡ true
or-any true b e = refl
or-any false b (inl e) = absurd cc
or-any false b (inr e) = e

pub are-due : (p : PublisherTables) (entries : set.FinSet entry_cmp) (moved : List (MoveEntry × Unit {0})) (site from to : ℕ) (found keys : List Key) → AreIndexed p.rows entries → AreMoved p.mappings moved
    → AddsRowsBetween entries from to [] found → ((key : Key) → Contains keys key ↔ Contains (found ++ keys_in_walk site (from + 1) (Some to) moved) key) → AreDue p site from to keys
are-due p entries moved site from to found keys indexed are adds same = λ key due.
    let test : Key → Bool = is_at (key_cmp key) in
    let walk : List Key = keys_in_walk site (from + 1) (Some to) moved in
    let some : list_any test (found ++ walk) ≡ true =
    list_any-append test found walk
    ∙ or-any (list_any test found) (list_any test walk) (elim due.3 [
      | inl changed ↦ inl (changed-found p entries from to found key due.0 indexed adds due.1 due.2 changed)
      | inr is ↦ inr (moved-found p moved site from to key due.0 are due.1 due.2 is)
    ]) in
    let at = any_found test (found ++ walk) some in
    any_at test keys at.0 ((same at.0).1 at.1) at.2
