-- A step tells that a row left only where it saw it.
use Rattle.std.specs.Prelude.{◌≡◌, ◌+◌, ◌==◌, ◌&&◌, ◌||◌, ℕ, Bool, List, [], ◌∷◌, true, false, Some, refl, drop, length}
use Rattle.std.specs.List.{AllByRecursion, zip}
use Rattle.std.proofs.Common.{arith, ap, ◌∙◌}
use Rattle.std.proofs.lemmas.Bool.Decides.{nat_tests}
use Rattle.merge_types.specs.declared.row_key.RowKey.{RowKey as Key}
use Rattle.merge_gens.specs.declared.moves.MoveKind.{MoveKind}
use Rattle.merge_gens.specs.declared.moves.MoveKind.TheVariants.{Left}
use Rattle.merge_gens.specs.declared.moves.RowSite.{RowSite}
use Rattle.merge_schema.specs.Valid.{IsValid}
use Rattle.merge_schema.specs.declared.publication.Publication.{Publication}
use Rattle.merge_gens.specs.Filling.{generations_of}
use Rattle.merge_units.specs.declared.site_row.PublisherRow.{PublisherRow}
use Rattle.merge_model.specs.Publisher.Entries.{Changing, Touched, changed_by, move_of, moves_of, parts_of, rows_after, touched_by}
use Rattle.merge_model.specs.Publisher.Entries as entry
use Rattle.merge_model.specs.Judge.{PublisherJudge}
use Rattle.merge_model.specs.Tables.Keys.{has_key}
use Rattle.merge_resolve.specs.Priorities.{subscription_at}
use Rattle.merge_model.specs.Tables.{PublisherTables}
use Rattle.merge_model.proofs.Entries.EntryLists.{all-numbered}
use Rattle.merge_model.proofs.Lists.Finding.{all-weaker}
use Rattle.merge_model.proofs.Lists.PlaceLookUps.{is_place}
use Rattle.merge_model.proofs.Entries.StepMoves.{IsMoveHere, moves-are}
use Rattle.merge_model.proofs.Entries.StepParts.{found_keys, parts-are}
use Rattle.merge_laws.specs.Laws.Leavings.{LeavesHere, LeavingsAreSeen}
use Rattle.merge_laws.proofs.Touched.TouchEntries.{inside-after}

-- what holds of each element at every place, holds at its own
pub all-own : {A X : Type 0} (P : A → X → Type 0) (f : X → A) (xs : List X) → ((a : A) → AllByRecursion (P a) xs) → AllByRecursion (λ (x : X). P (f x) x) xs
all-own P f [] each = tt
all-own P f (x ∷ xs) each = ((each (f x)).0, all-own P f xs (λ a. (each a).1))

all-any : (xs : List ℕ) → AllByRecursion (λ (x : ℕ). Unit {0}) xs
all-any [] = tt
all-any (x ∷ xs) = (tt, all-any xs)

leaves-by : (was is changed acted : Bool) (kind : MoveKind) → move_of was is changed acted ≡ Some kind → kind ≡ Left → (is ≡ false) × ((was || acted) ≡ true)
leaves-by true false changed acted kind e left = (refl, refl)
leaves-by false false changed true kind e left = (refl, refl)
leaves-by false false changed false kind e left = absurd cc
leaves-by false true true acted kind e left = absurd cc
leaves-by false true false acted kind e left = absurd (grind (arith, e, left))
leaves-by true true changed acted kind e left = absurd cc

module _ (resolvers : ℕ) (publication : Publication) (valid : IsValid resolvers publication) (judge : PublisherJudge) (changing : Changing) (p : PublisherTables) where
  abbrev touched : Touched
  touched = touched_by changing

  abbrev rows : List (Key × PublisherRow)
  rows = rows_after changing p.rows

  abbrev moves : List (RowSite × MoveKind)
  moves = moves_of touched (parts_of publication p.rows rows) (entry.keys_of rows changing.acted)

  abbrev found_at : ℕ → List (Key × PublisherRow) → List Key
  found_at n at = found_keys publication (subscription_at publication n) at

  abbrev MovesAt : RowSite → RowSite × MoveKind → Type 0
  MovesAt place move = IsMoveHere touched place.key place.site (found_at place.site p.rows) (found_at place.site rows) move

  abbrev Leaves : RowSite × MoveKind → Type 0
  Leaves move = move.1 ≡ Left → LeavesHere publication changing p (changed_by publication judge changing p) move.0

  own-leaves : (move : RowSite × MoveKind) → MovesAt move.0 move → Leaves move
  own-leaves move moves left =
      let place : RowSite = move.0 in
      let itself : is_place place.key place.site place ≡ true = grind (arith, nat_tests) in
      let seen = leaves-by (has_key (found_at place.site p.rows) place.key) (has_key (found_at place.site rows) place.key) (has_key touched.changed place.key) ((place.site == changing.uploader) && has_key changing.acted place.key) move.1 (moves itself) left in
      record {
        outside = ap (λ (keys : List Key). has_key keys place.key) (inside-after publication judge changing p (record { 0 = place.site })) ∙ seen.0;
        seen = seen.1;
      }

  all-leave : AllByRecursion Leaves moves
  all-leave = all-weaker (λ (move : RowSite × MoveKind). MovesAt move.0 move) Leaves own-leaves moves
      (all-own MovesAt (λ (move : RowSite × MoveKind). move.0) moves
      (λ place. moves-are touched place.key place.site (found_at place.site p.rows) (found_at place.site rows) (parts_of publication p.rows rows) (entry.keys_of rows changing.acted) (parts-are publication place.site p.rows rows (resolvers, valid))))

  entries-leave : (generations : List ℕ) → AllByRecursion (λ (e : (RowSite × MoveKind) × ℕ). Leaves e.0) (zip moves generations)
  entries-leave generations = all-weaker (λ (e : (RowSite × MoveKind) × ℕ). Leaves e.0 × Unit {0}) (λ (e : (RowSite × MoveKind) × ℕ). Leaves e.0) (λ e both. both.0) (zip moves generations)
      (all-numbered Leaves (λ generation. Unit {0}) moves generations all-leave (all-any generations))

pub leavings-seen : LeavingsAreSeen
leavings-seen resolvers publication valid judge changing p =
    let changed : ℕ = length (touched_by changing).changed in
    entries-leave resolvers publication valid judge changing p (drop changed (generations_of p.gens.filling (changed + length (moves resolvers publication valid judge changing p))))
