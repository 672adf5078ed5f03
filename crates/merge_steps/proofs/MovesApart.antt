-- The mappings that a step edits are at distinct places.
use Rattle.std.specs.Prelude.{◌≡◌, ◌==◌, ◌&&◌, ◌||◌, ◌++◌, ℕ, List, [], ◌∷◌, Bool, true, false, not, Option, Some, None, refl, cond, filter, map}
use Rattle.std.specs.BTreeMap.{is_at}
use Rattle.std.specs.List.{AllByRecursion, zip}
use Rattle.std.specs.List.Sorted.{IsStrictlySortedBy}
use Rattle.std.specs.Map.{keys_of}
use Rattle.std.specs.declared.cmp.Ordering.TheVariants.{Less}
use mathlib.Core.List.{map-append}
use Rattle.std.proofs.Common.{arith, sym, ap, ◌∙◌}
use Rattle.std.proofs.lemmas.Bool.Decides.{nat_tests}
use Rattle.merge_types.specs.declared.row_key.RowKey.{RowKey as Key}
use Rattle.merge_table.specs.Contents.{has_room}
use Rattle.merge_table.specs.declared.edit.Edit.TheVariants.{Take}
use Rattle.merge_table.specs.Edits.{key_of}
use Rattle.merge_table.proofs.Room.{no_room_above}
use Rattle.merge_gens.specs.Moves.{row_site_cmp}
use Rattle.merge_gens.specs.declared.moves.Mapping.{Mapping}
use Rattle.merge_gens.specs.declared.moves.MoveKind.{MoveKind}
use Rattle.merge_gens.specs.declared.moves.RowSite.{RowSite}
use Rattle.merge_schema.specs.Partition.{LiveRow}
use Rattle.merge_schema.specs.declared.publication.Publication.{Publication}
use Rattle.merge_part.specs.Moves.{AreMoves}
use Rattle.merge_part.specs.declared.change.Move.{Move}
use Rattle.merge_model.specs.Publisher.Entries.{move_of}
use Rattle.merge_model.specs.Tables.Keys.{at_row_site, has_key}
use Rattle.merge_steps.specs.Rows.{has_left_at, mapping_edits, put_edit}
use Rattle.merge_steps.specs.Tie.{entry_of}
use Rattle.merge_steps.specs.Working.{AreApart, all_told, is_return, outs_of, places_of, returns}
use Rattle.merge_steps.proofs.Returns.{and4, back_at, returns-has}
use Rattle.merge_steps.proofs.Told.{kept-ordered}
use Rattle.merge_steps.proofs.Whole.{all-ordered, found-all, here_all, is, was}

-- places that ascend are distinct
pub sorted-apart : (places : List RowSite) → IsStrictlySortedBy row_site_cmp places → AreApart places
unfolding IsStrictlySortedBy
sorted-apart [] sorted = tt
sorted-apart (place ∷ places) sorted = (no_room_above row_site_cmp place places sorted.0, sorted-apart places sorted.1)

-- The entries with their generations.

zip-above : (p : RowSite) (told : List (RowSite × MoveKind)) (generations : List ℕ) → AllByRecursion (λ (q : RowSite). row_site_cmp p q ≡ Less) (keys_of told)
    → AllByRecursion (λ (q : RowSite). row_site_cmp p q ≡ Less) (places_of (map put_edit (zip told generations)))
zip-above p [] generations all = tt
zip-above p (e ∷ told) [] all = tt
zip-above p (e ∷ told) (g ∷ generations) all = (all.0, zip-above p told generations all.1)

zip-sorted : (told : List (RowSite × MoveKind)) (generations : List ℕ) → IsStrictlySortedBy row_site_cmp (keys_of told) → IsStrictlySortedBy row_site_cmp (places_of (map put_edit (zip told generations)))
unfolding IsStrictlySortedBy
zip-sorted [] generations sorted = tt
zip-sorted (e ∷ told) [] sorted = tt
zip-sorted (e ∷ told) (g ∷ generations) sorted = (zip-above e.0 told generations sorted.0, zip-sorted told generations sorted.1)

none-head : (b more : Bool) (kind : MoveKind) (found : Option MoveKind) → cond b (Some kind) found ≡ None → (found ≡ None → more ≡ false) → (b || more) ≡ false
none-head true more kind found none rest = absurd cc
none-head false more kind found none rest = rest none

zip-none : (p : RowSite) (told : List (RowSite × MoveKind)) (generations : List ℕ) → at_row_site told p ≡ None → has_room row_site_cmp (places_of (map put_edit (zip told generations))) p ≡ false
zip-none p [] generations none = refl
zip-none p (e ∷ told) [] none = refl
zip-none p (e ∷ told) (g ∷ generations) none =
    none-head (is_at (row_site_cmp p) e.0) (has_room row_site_cmp (places_of (map put_edit (zip told generations))) p) e.1 (at_row_site told p) none (λ rest. zip-none p told generations rest)

-- Two lists of distinct places that share none.

or-none : (a b : Bool) → a ≡ false → b ≡ false → (a || b) ≡ false
or-none a b first second = rw (first, second) refl

has-append : (p : RowSite) (xs ys : List RowSite) → has_room row_site_cmp (xs ++ ys) p ≡ (has_room row_site_cmp xs p || has_room row_site_cmp ys p)
has-append p [] ys = refl
has-append p (x ∷ xs) ys = ap (λ (b : Bool). is_at (row_site_cmp p) x || b) (has-append p xs ys) ∙ or-same (is_at (row_site_cmp p) x) (has_room row_site_cmp xs p) (has_room row_site_cmp ys p)
  where
    or-same : (a b c : Bool) → (a || (b || c)) ≡ ((a || b) || c)
    or-same true b c = refl
    or-same false b c = refl

itself : (p : RowSite) → is_at (row_site_cmp p) p ≡ true
itself p = grind (arith, nat_tests)

not-both : (a b more : Bool) → (b ≡ true → (a || more) ≡ false) → a ≡ true → b ≡ false
not-both true true more apart is = let no : true ≡ false = apart refl in absurd cc
not-both a false more apart is = refl
not-both false true more apart is = absurd cc

pub append-apart : (xs ys : List RowSite) → AreApart xs → AreApart ys → ((p : RowSite) → has_room row_site_cmp ys p ≡ true → has_room row_site_cmp xs p ≡ false) → AreApart (xs ++ ys)
append-apart [] ys first second share = second
append-apart (x ∷ xs) ys first second share = (
  has-append x xs ys ∙ or-none (has_room row_site_cmp xs x) (has_room row_site_cmp ys x) first.0 (not-both (is_at (row_site_cmp x) x) (has_room row_site_cmp ys x) (has_room row_site_cmp xs x) (share x) (itself x)),
  append-apart xs ys first.1 second (λ p there. second-none (is_at (row_site_cmp p) x) (has_room row_site_cmp xs p) (share p there)),
)
  where
    second-none : (a b : Bool) → (a || b) ≡ false → b ≡ false
    second-none true b none = absurd cc
    second-none false b none = none

takes-places : (gone : List RowSite) → places_of (map Take gone) ≡ gone
takes-places [] = refl
takes-places (place ∷ gone) = ap (λ (places : List RowSite). place ∷ places) (takes-places gone)

keys-map : (moves : List Move) → keys_of (map entry_of moves) ≡ map (λ (m : Move). (entry_of m).0) moves
keys-map [] = refl
keys-map (m ∷ moves) = ap (λ (places : List RowSite). (entry_of m).0 ∷ places) (keys-map moves)

-- a row that comes back makes no entry
back-none : (b a c d : Bool) → b ≡ false → a ≡ true → c ≡ true → move_of b a c d ≡ None
back-none b a c d was is changes = rw (was, is, changes) (by d)
  where
    by : (d : Bool) → move_of false true true d ≡ None
    by true = refl
    by false = refl

module _ (publication : Publication) (before after : List LiveRow) (changed acted : List Key) (site : ℕ) (mappings : List (RowSite × Mapping)) (moves : List Move) (are : AreMoves publication before after moves) where
  abbrev entries : List (RowSite × MoveKind)
  entries = all_told changed site (outs_of publication site after acted) moves

  back-told : (p : RowSite) → back_at publication before after changed mappings p ≡ true → here_all publication before after changed acted site p ≡ None
  back-told p back =
      let facts = and4 (was publication before after changed acted site p) (is publication before after changed acted site p) (has_key changed p.key) (has_left_at mappings p) back in
      back-none (was publication before after changed acted site p) (is publication before after changed acted site p) (has_key changed p.key) ((p.site == site) && has_key acted p.key) facts.0 facts.1 facts.2

  gone-told : (p : RowSite) → has_room row_site_cmp (returns mappings changed moves) p ≡ true → at_row_site entries p ≡ None
  gone-told p there =
      found-all publication before after changed acted site moves are p
      ∙ back-told p (sym (returns-has publication before after changed mappings moves are p) ∙ there)

  gone-apart : AreApart (returns mappings changed moves)
  gone-apart = sorted-apart (returns mappings changed moves) (rw (← (keys-map (filter (is_return mappings changed) moves))) (kept-ordered publication before after changed moves are (is_return mappings changed)))

  pub edits-apart : (generations : List ℕ) → AreApart (places_of (mapping_edits entries generations (returns mappings changed moves)))
  edits-apart generations =
      rw (map-append key_of (map put_edit (zip entries generations)) (map Take (returns mappings changed moves)), takes-places (returns mappings changed moves))
      (append-apart (places_of (map put_edit (zip entries generations))) (returns mappings changed moves)
      (sorted-apart (places_of (map put_edit (zip entries generations))) (zip-sorted entries generations (all-ordered publication before after changed acted site moves are)))
      gone-apart (λ p there. zip-none p entries generations (gone-told p there)))
