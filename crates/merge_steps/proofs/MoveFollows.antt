-- The mappings' index follows them.
use Rattle.std.specs.Prelude.{◌≡◌, ◌==◌, ◌&&◌, ◌||◌, ◌++◌, ℕ, List, [], ◌∷◌, Bool, true, false, not, Option, Some, None, refl, cond, is_some}
use Rattle.std.specs.BTreeMap.{is_at}
use Rattle.std.specs.Cmp.{IsTotalOrder, then_total, on_total, nat_cmp_total}
use Rattle.std.specs.List.Sorted.{IsStrictlySortedBy}
use Rattle.std.specs.Map.{keys_of, lookup}
use Rattle.std.specs.declared.cmp.Ordering.{Ordering}
use Rattle.std.proofs.Common.{arith, sym, ap, ◌∙◌}
use Rattle.std.proofs.lemmas.Bool.Decides.{nat_tests}
use Rattle.merge_table.proofs.LookUps.{lookup-insert_entry, lookup-remove_entry}
use Rattle.merge_table.proofs.Sorted.{sorted_after, sorted_after_all}
use Rattle.merge_table.specs.Edits.{key_of, rows_after, rows_after_all}
use Rattle.merge_table.specs.declared.edit.Edit.{Edit}
use Rattle.merge_table.specs.declared.edit.Edit.TheVariants.{Put, Take}
use Rattle.merge_gens.specs.Moves.{row_site_cmp}
use Rattle.merge_gens.specs.declared.moves.Mapping.{Mapping}
use Rattle.merge_gens.specs.declared.moves.RowSite.{RowSite}
use Rattle.merge_model.specs.Tables.Keys.{at_row_site}
use Rattle.merge_model.proofs.Publishers.Sorted.{key_total, row_site_total}
use Rattle.merge_model.proofs.Lists.PlaceLookUps.{places-exact}
use Rattle.merge_steps.specs.Indexed.{AreMoved, has_entry, is_moved}
use Rattle.merge_steps.specs.MoveEntries.{move_entry, move_entry_cmp}
use Rattle.merge_steps.specs.Rows.{moved_edit, moved_edits, new_entry, old_entry}
use Rattle.merge_steps.specs.Working.{AreApart, has_place_in, places_of}
use Rattle.merge_steps.specs.declared.site_moves.MoveEntry.{MoveEntry}

pub move_entry_total : IsTotalOrder move_entry_cmp
move_entry_total = then_total (on_total (λ (e : MoveEntry). e.site) nat_cmp_total) (then_total (on_total (λ (e : MoveEntry). e.generation) nat_cmp_total) (on_total (λ (e : MoveEntry). e.key) key_total))

abbrev Entries : Type 0
Entries = List (MoveEntry × Unit {0})

-- whether two places are one
abbrev here : RowSite → RowSite → Bool
here q p = is_at (row_site_cmp q) p

entry-is : (q p : RowSite) (g h : ℕ) → is_at (move_entry_cmp (move_entry q g)) (move_entry p h) ≡ ((g == h) && here q p)
entry-is q p g h = grind (arith, nat_tests)

some-head : (b : Bool) (found : Option (Unit {0})) → is_some (let now : Option (Unit {0}) = cond b (Some tt) found in now) ≡ (b || is_some found)
some-head true found = refl
some-head false found = refl

none-head : (b : Bool) (found : Option (Unit {0})) → is_some (let now : Option (Unit {0}) = cond b None found in now) ≡ (not b && is_some found)
none-head true found = refl
none-head false found = refl

put-entry : (q p : RowSite) (g h : ℕ) (entries : Entries) → has_entry (rows_after move_entry_cmp entries (Put (move_entry p h) tt)) (move_entry q g) ≡ (((g == h) && here q p) || has_entry entries (move_entry q g))
put-entry q p g h entries =
    ap (λ (o : Option (Unit {0})). is_some o) (lookup-insert_entry move_entry_cmp move_entry_total (move_entry p h) (move_entry q g) tt entries)
    ∙ some-head (is_at (move_entry_cmp (move_entry q g)) (move_entry p h)) (lookup (is_at (move_entry_cmp (move_entry q g))) entries)
    ∙ ap (λ (b : Bool). b || has_entry entries (move_entry q g)) (entry-is q p g h)

take-entry : (q p : RowSite) (g h : ℕ) (entries : Entries) → IsStrictlySortedBy move_entry_cmp (keys_of entries)
    → has_entry (rows_after move_entry_cmp entries (Take (move_entry p h))) (move_entry q g) ≡ (not ((g == h) && here q p) && has_entry entries (move_entry q g))
take-entry q p g h entries sorted =
    ap (λ (o : Option (Unit {0})). is_some o) (lookup-remove_entry move_entry_cmp move_entry_total (move_entry p h) (move_entry q g) entries sorted)
    ∙ none-head (is_at (move_entry_cmp (move_entry q g)) (move_entry p h)) (lookup (is_at (move_entry_cmp (move_entry q g))) entries)
    ∙ ap (λ (b : Bool). not b && has_entry entries (move_entry q g)) (entry-is q p g h)

-- The entry before goes.

turned : (g h : ℕ) → (g == h) ≡ (h == g)
turned g h = grind (arith, nat_tests)

abbrev Without : RowSite → Entries → Entries → Type 0
Without p entries left = (q : RowSite) (g : ℕ) → has_entry left (move_entry q g) ≡ (not (here q p) && has_entry entries (move_entry q g))

and-none : (b m : Bool) → (b ≡ true → m ≡ false) → m ≡ (not b && m)
and-none true m none = none refl
and-none false m none = refl

old-test : (b e f m : Bool) → (b ≡ true → m ≡ f) → e ≡ f → (not (e && b) && m) ≡ (not b && m)
old-test true true f m is same = refl
old-test true false f m is same = is refl ∙ sym same
old-test false true f m is same = refl
old-test false false f m is same = refl

old-gone : (p : RowSite) (was : Option Mapping) (mappings : List (RowSite × Mapping)) (entries : Entries) → at_row_site mappings p ≡ was → IsStrictlySortedBy move_entry_cmp (keys_of entries) → AreMoved mappings entries
    → Without p entries (rows_after_all move_entry_cmp entries (old_entry p was))
unfolding AreMoved
old-gone p None mappings entries is sorted moved = λ q g.
    and-none (here q p) (has_entry entries (move_entry q g)) (λ same. moved q g ∙ ap (λ (x : RowSite). is_moved (at_row_site mappings x) g) (places-exact q p same) ∙ ap (λ (o : Option Mapping). is_moved o g) is)
old-gone p (Some was) mappings entries is sorted moved = λ q g.
    take-entry q p g was.generation entries sorted
    ∙ old-test (here q p) (g == was.generation) (was.generation == g) (has_entry entries (move_entry q g))
    (λ same. moved q g ∙ ap (λ (x : RowSite). is_moved (at_row_site mappings x) g) (places-exact q p same) ∙ ap (λ (o : Option Mapping). is_moved o g) is) (turned g was.generation)

-- The entry afterwards comes.

put-test : (b e f m n : Bool) (found : Option Mapping) (now : Mapping) (g : ℕ) → e ≡ (now.generation == g) → n ≡ (not b && m) → m ≡ is_moved found g → ((e && b) || n) ≡ is_moved (let o : Option Mapping = cond b (Some now) found in o) g
put-test true true f m n found now g e left is = e
put-test true false f m n found now g e left is = left ∙ e
put-test false true f m n found now g e left is = left ∙ is
put-test false false f m n found now g e left is = left ∙ is

take-test : (b m n : Bool) (found : Option Mapping) (g : ℕ) → n ≡ (not b && m) → m ≡ is_moved found g → n ≡ is_moved (let o : Option Mapping = cond b None found in o) g
take-test true m n found g left is = left
take-test false m n found g left is = left ∙ is

new-comes : (edit : Edit RowSite Mapping) (mappings : List (RowSite × Mapping)) (entries left : Entries) → IsStrictlySortedBy row_site_cmp (keys_of mappings) → AreMoved mappings entries → Without (key_of edit) entries left
    → AreMoved (rows_after row_site_cmp mappings edit) (rows_after_all move_entry_cmp left (new_entry edit))
unfolding AreMoved
new-comes (Put p now) mappings entries left sorted moved without = λ q g.
    put-entry q p g now.generation left
    ∙ put-test (here q p) (g == now.generation) true (has_entry entries (move_entry q g)) (has_entry left (move_entry q g)) (at_row_site mappings q) now g (turned g now.generation) (without q g) (moved q g)
    ∙ sym (ap (λ (o : Option Mapping). is_moved o g) (lookup-insert_entry row_site_cmp row_site_total p q now mappings))
new-comes (Take p) mappings entries left sorted moved without = λ q g.
    take-test (here q p) (has_entry entries (move_entry q g)) (has_entry left (move_entry q g)) (at_row_site mappings q) g (without q g) (moved q g)
    ∙ sym (ap (λ (o : Option Mapping). is_moved o g) (lookup-remove_entry row_site_cmp row_site_total p q mappings sorted))

-- Edits one behind the other.

pub after-append : {K V : Type 0} (cmp : K → K → Ordering) (rows : List (K × V)) (xs ys : List (Edit K V)) → rows_after_all cmp rows (xs ++ ys) ≡ rows_after_all cmp (rows_after_all cmp rows xs) ys
after-append cmp rows [] ys = refl
after-append cmp rows (x ∷ xs) ys = after-append cmp (rows_after cmp rows x) xs ys

one-follows : (edit : Edit RowSite Mapping) (was : Option Mapping) (mappings : List (RowSite × Mapping)) (entries : Entries) → at_row_site mappings (key_of edit) ≡ was → IsStrictlySortedBy row_site_cmp (keys_of mappings)
    → IsStrictlySortedBy move_entry_cmp (keys_of entries) → AreMoved mappings entries
    → AreMoved (rows_after row_site_cmp mappings edit) (rows_after_all move_entry_cmp entries (old_entry (key_of edit) was ++ new_entry edit))
one-follows edit was mappings entries is sorted ordered moved =
    rw (after-append move_entry_cmp entries (old_entry (key_of edit) was) (new_entry edit))
    (new-comes edit mappings entries (rows_after_all move_entry_cmp entries (old_entry (key_of edit) was)) sorted moved (old-gone (key_of edit) was mappings entries is ordered moved))

-- What an edit leaves at another place.

other-place : (edit : Edit RowSite Mapping) (q : RowSite) (mappings : List (RowSite × Mapping)) → IsStrictlySortedBy row_site_cmp (keys_of mappings) → here q (key_of edit) ≡ false → at_row_site (rows_after row_site_cmp mappings edit) q ≡ at_row_site mappings q
other-place (Put p now) q mappings sorted differs = lookup-insert_entry row_site_cmp row_site_total p q now mappings ∙ ap (λ (b : Bool). (let o : Option Mapping = cond b (Some now) (at_row_site mappings q) in o)) differs
other-place (Take p) q mappings sorted differs = lookup-remove_entry row_site_cmp row_site_total p q mappings sorted ∙ ap (λ (b : Bool). (let o : Option Mapping = cond b None (at_row_site mappings q) in o)) differs

abbrev StandsAs : List (RowSite × Mapping) → List (RowSite × Mapping) → List (Edit RowSite Mapping) → Type 0
StandsAs old mappings edits = (q : RowSite) → has_place_in edits q ≡ true → at_row_site mappings q ≡ at_row_site old q

here-turned : (q p : RowSite) → here q p ≡ true → here p q ≡ true
here-turned q p is = grind (arith, nat_tests, is)

here-itself : (p : RowSite) → here p p ≡ true
here-itself p = grind (arith, nat_tests)

-- of distinct places the second is not the first
not-first : (q p : RowSite) (edits : List (Edit RowSite Mapping)) (b : Bool) → here q p ≡ b → has_place_in edits p ≡ false → has_place_in edits q ≡ true → here q p ≡ false
not-first q p edits true is none there = let no : true ≡ false = sym there ∙ ap (λ (x : RowSite). has_place_in edits x) (places-exact q p is) ∙ none in absurd cc
not-first q p edits false is none there = is

or-second : (a b : Bool) → b ≡ true → (a || b) ≡ true
or-second true b is = refl
or-second false b is = is

-- the edits of the index for edits at distinct places, each by the mapping before all of them
pub moves-follow : (old : List (RowSite × Mapping)) (edits : List (Edit RowSite Mapping)) (mappings : List (RowSite × Mapping)) (entries : Entries) → AreApart (places_of edits) → StandsAs old mappings edits
    → IsStrictlySortedBy row_site_cmp (keys_of mappings) → IsStrictlySortedBy move_entry_cmp (keys_of entries) → AreMoved mappings entries
    → AreMoved (rows_after_all row_site_cmp mappings edits) (rows_after_all move_entry_cmp entries (moved_edits old edits))
moves-follow old [] mappings entries apart stands sorted ordered moved = moved
moves-follow old (edit ∷ edits) mappings entries apart stands sorted ordered moved =
    rw (after-append move_entry_cmp entries (moved_edit old edit) (moved_edits old edits))
    (moves-follow old edits (rows_after row_site_cmp mappings edit) (rows_after_all move_entry_cmp entries (moved_edit old edit)) apart.1
    (λ q there. other-place edit q mappings sorted (not-first q (key_of edit) edits (here q (key_of edit)) refl apart.0 there) ∙ stands q (or-second (here q (key_of edit)) (has_place_in edits q) there))
    (sorted_after row_site_cmp row_site_total mappings edit sorted)
    (sorted_after_all move_entry_cmp move_entry_total entries (moved_edit old edit) ordered)
    (one-follows edit (at_row_site old (key_of edit)) mappings entries (stands (key_of edit) (or-first (here (key_of edit) (key_of edit)) (has_place_in edits (key_of edit)) (here-itself (key_of edit)))) sorted ordered moved))
  where
    or-first : (a b : Bool) → a ≡ true → (a || b) ≡ true
    or-first true b is = refl
    or-first false b is = absurd (grind (arith, is))
