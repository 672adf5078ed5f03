-- The generation in which a row was touched for a site, by the row and the mapping that are found, and what entries make of it.
use Rattle.std.specs.Prelude.{◌≡◌, ◌≤◌, ◌<◌, ◌==◌, ◌&&◌, ◌⊎◌, ℕ, Bool, true, false, not, Option, Some, None, refl, cond, if◌then◌else◌, is_some, option_map, unwrap_or}
use Rattle.std.proofs.Common.{arith, inl, inr, subst, ap, ◌∙◌}
use Rattle.merge_types.specs.declared.identifiers.SiteId.{SiteId}
use Rattle.merge_units.specs.declared.version.Version.{Version}
use Rattle.merge_model.specs.Judge.ByNumbers.{mapping_at, touch_by_mapping, touch_inside, touch_outside}
use Rattle.merge_model.specs.Tables.Keys.{row_at}
use Rattle.merge_model.specs.Publisher.PublisherJoin.{is_left_of}
use Rattle.merge_gens.specs.declared.moves.MoveKind.TheVariants.{Entered, Left}
use Rattle.merge_types.specs.declared.row_key.RowKey.{RowKey as Key}
use Rattle.merge_gens.specs.declared.moves.Mapping.{Mapping}
use Rattle.merge_gens.specs.declared.moves.MoveKind.{MoveKind}
use Rattle.merge_units.specs.declared.site_row.PublisherRow.{PublisherRow}
use Rattle.merge_gens.specs.declared.moves.RowSite.{RowSite}
use Rattle.merge_gens.specs.Moves.{is_left}
use Rattle.merge_model.specs.Tables.{PublisherTables}
use Rattle.merge_model.proofs.Lists.PlaceLookUps.{kept}
use Rattle.merge_laws.proofs.Touched.TouchEntries.{EntersHere, MovedTo, changed_of, generation_of}

abbrev pub touch_of : Bool → Option PublisherRow → Option Mapping → ℕ
touch_of true row mapping = unwrap_or (option_map (λ (changed : ℕ). touch_inside changed mapping) (option_map (λ (r : PublisherRow). r.changed) row)) 0
touch_of false row mapping = unwrap_or (touch_outside mapping) 0

pub touch-is : (p : PublisherTables) (key : Key) (site : ℕ) (is : Bool) → unwrap_or (touch_by_mapping p key site is) 0 ≡ touch_of is (row_at p.rows key) (mapping_at p key site)
touch-is p key site true = refl
touch-is p key site false = refl

abbrev pub owed_of : Bool → Option PublisherRow → Option Version
owed_of is row = if is then option_map (λ (r : PublisherRow). r.version) row else None

-- By what moved or changed.

kind-above : (last changed : ℕ) (kind : MoveKind) (generation : ℕ) → last < changed → last < touch_inside changed (Some (record { kind = kind; generation = generation }))
kind-above last changed Entered generation up = omega (arith, up)
kind-above last changed Left generation up = up

changed-above : (last changed : ℕ) (mapping : Option Mapping) → last < changed → last < touch_inside changed mapping
changed-above last changed None up = up
changed-above last changed (Some mapping) up = kind-above last changed mapping.kind mapping.generation up

inside-above : (last : ℕ) (row : Option PublisherRow) (mapping : Option Mapping) → last < changed_of row → last < touch_of true row mapping
inside-above last None mapping up = absurd (omega (arith, up))
inside-above last (Some row) mapping up = changed-above last row.changed mapping up

left-by : (last : ℕ) (kind : MoveKind) (generation : ℕ) → kind ≡ Left → last < generation → last < unwrap_or (touch_outside (Some (record { kind = kind; generation = generation }))) 0
left-by last Entered generation is up = absurd (grind (arith, is))
left-by last Left generation is up = up

left-above : (last : ℕ) (row : Option PublisherRow) (mapping : Option Mapping) → MovedTo Left last mapping → last < touch_of false row mapping
left-above last row None moved = absurd moved
left-above last row (Some mapping) moved = left-by last mapping.kind mapping.generation moved.0 moved.1

entered-by : (last changed : ℕ) (kind : MoveKind) (generation : ℕ) → kind ≡ Entered → last < generation → last < touch_inside changed (Some (record { kind = kind; generation = generation }))
entered-by last changed Entered generation is up = omega (arith, up)
entered-by last changed Left generation is up = absurd (grind (arith, is))

entered-above : (last : ℕ) (row : Option PublisherRow) (mapping : Option Mapping) → is_some row ≡ true → MovedTo Entered last mapping → last < touch_of true row mapping
entered-above last None mapping held moved = absurd (grind (arith, held))
entered-above last (Some row) None held moved = absurd moved
entered-above last (Some row) (Some mapping) held moved = entered-by last row.changed mapping.kind mapping.generation moved.0 moved.1

-- The entries of a step.

module _ (last : ℕ) (row_before row_after : Option PublisherRow) (move_before move_after : Option Mapping) where
  abbrev pub StaysOr : Bool → Bool → Type 0
  StaysOr was is = ((is ≡ was) × (owed_of is row_after ≡ owed_of was row_before) × (touch_of is row_after move_after ≡ touch_of was row_before move_before)) ⊎ (last < touch_of is row_after move_after)

  abbrev Enters : Bool → Bool → Bool → Bool → Bool → Type 0
  Enters was is changed acted subscribes = EntersHere last was is changed acted subscribes row_before row_after move_before move_after

  stays-inside : row_after ≡ row_before → move_after ≡ move_before → StaysOr true true
  stays-inside row move =
      let touch = ap (λ (r : Option PublisherRow). touch_of true r move_after) row in
      inl (refl, ap (owed_of true) row, subst (λ (m : Option Mapping). touch_of true row_after move_after ≡ touch_of true row_before m) move touch)

  pub touch-case : (was is changed acted subscribes : Bool) → Enters was is changed acted subscribes → StaysOr was is
  touch-case true true true acted subscribes e = inr (inside-above last row_after move_after (e.changes refl))
  touch-case true true false acted subscribes e = stays-inside (e.kept refl) (e.unmoved refl refl)
  touch-case true false changed acted true e = inr (left-above last row_after move_after (e.moved refl Left refl))
  touch-case true false changed acted false e = absurd (grind (arith, (e.strangers refl).0))
  touch-case false true true acted subscribes e = inr (inside-above last row_after move_after (e.changes refl))
  touch-case false true false acted true e = inr (entered-above last row_after move_after (e.held refl) (e.moved refl Entered refl))
  touch-case false true false acted false e = absurd (grind (arith, (e.strangers refl).1))
  touch-case false false changed true true e = inr (left-above last row_after move_after (e.moved refl Left refl))
  touch-case false false changed true false e = inl (refl, refl, ap (λ (m : Option Mapping). touch_of false row_after m) (e.strangers refl).2)
  touch-case false false changed false subscribes e = inl (refl, refl, ap (λ (m : Option Mapping). touch_of false row_after m) (e.unmoved refl refl))

  -- a row on which an item of the site acted, which changed where it was inside
  pub acted-case : (was is changed acted subscribes : Bool) → Enters was is changed acted subscribes → acted ≡ true → subscribes ≡ true → (was ≡ true → changed ≡ true) → last < touch_of is row_after move_after
  acted-case true true changed acted subscribes e a s c = inside-above last row_after move_after (e.changes (c refl))
  acted-case true false changed acted subscribes e a s c = left-above last row_after move_after (e.moved s Left refl)
  acted-case false true true acted subscribes e a s c = inside-above last row_after move_after (e.changes refl)
  acted-case false true false acted subscribes e a s c = entered-above last row_after move_after (e.held refl) (e.moved s Entered refl)
  acted-case false false changed true subscribes e a s c = left-above last row_after move_after (e.moved s Left refl)
  acted-case false false changed false subscribes e a s c = absurd (grind (arith, a))

-- A touch is no later than the row's change and its move.

kind-bound : (top changed : ℕ) (kind : MoveKind) (generation : ℕ) → changed ≤ top → generation ≤ top → touch_inside changed (Some (record { kind = kind; generation = generation })) ≤ top
kind-bound top changed Entered generation first second = omega (arith, first, second)
kind-bound top changed Left generation first second = first

outside-bound : (top : ℕ) (kind : MoveKind) (generation : ℕ) → generation ≤ top → unwrap_or (touch_outside (Some (record { kind = kind; generation = generation }))) 0 ≤ top
outside-bound top Entered generation second = omega arith
outside-bound top Left generation second = second

pub touch-bound : (top : ℕ) (is : Bool) (row : Option PublisherRow) (mapping : Option Mapping) → changed_of row ≤ top → generation_of mapping ≤ top → touch_of is row mapping ≤ top
touch-bound top true None mapping first second = omega arith
touch-bound top true (Some row) None first second = first
touch-bound top true (Some row) (Some mapping) first second = kind-bound top row.changed mapping.kind mapping.generation first second
touch-bound top false row None first second = omega arith
touch-bound top false row (Some mapping) first second = outside-bound top mapping.kind mapping.generation second

-- What is forgotten.

pub owed-same : (is : Bool) (row other : Option PublisherRow) → (is ≡ true → row ≡ other) → owed_of is row ≡ owed_of is other
owed-same true row other same = ap (owed_of true) (same refl)
owed-same false row other same = refl

module _ (row other : Option PublisherRow) where
  touch-same : (is : Bool) (move : Option Mapping) → (is ≡ true → row ≡ other) → touch_of is row move ≡ touch_of is other move
  touch-same true move same = ap (λ (r : Option PublisherRow). touch_of true r move) (same refl)
  touch-same false move same = refl

  module _ (is_old : ℕ → Bool) (place : RowSite) where
    abbrev pub stays : RowSite × Mapping → Bool
    stays entry = not (is_left entry.1.kind && is_old entry.1.generation)

    -- a move that is dropped says that the row left in an old generation
    abbrev pub SameOrOld : Bool → Option Mapping → Type 0
    SameOrOld is move = (touch_of is row (kept stays place move) ≡ touch_of is other move) ⊎ ((is ≡ false) × (touch_of is row (kept stays place move) ≡ 0) × (is_old (touch_of is other move) ≡ true))

    old-by : (is : Bool) (kind : MoveKind) (generation : ℕ) (old : Bool) → is_old generation ≡ old → (is ≡ true → row ≡ other) → SameOrOld is (Some (record { kind = kind; generation = generation }))
    old-by is Entered generation old e same = inl (touch-same is (Some (record { kind = Entered; generation = generation })) same)
    old-by true Left generation true e same = inl (ap (λ (b : Bool). (let found : Option Mapping = cond (not b) (Some (record { kind = Left; generation = generation })) None in touch_of true row found)) e ∙ ap (λ (r : Option PublisherRow). touch_of true r None) (same refl))
    old-by false Left generation true e same = inr (refl, ap (λ (b : Bool). (let found : Option Mapping = cond (not b) (Some (record { kind = Left; generation = generation })) None in touch_of false row found)) e, e)
    old-by is Left generation false e same =
        inl (ap (λ (b : Bool). (let found : Option Mapping = cond (not b) (Some (record { kind = Left; generation = generation })) None in touch_of is row found)) e ∙ touch-same is (Some (record { kind = Left; generation = generation })) same)

    pub old-case : (is : Bool) (move : Option Mapping) → (is ≡ true → row ≡ other) → SameOrOld is move
    old-case is None same = inl (touch-same is None same)
    old-case is (Some move) same = old-by is move.kind move.generation (is_old move.generation) refl same

-- of a site that joins
module _ (row : Option PublisherRow) (place : RowSite) (site : SiteId) where
  abbrev pub joins : RowSite × Mapping → Bool
  joins entry = not (is_left_of site entry)

  other-by : (move : Mapping) (b : Bool) → (place.site == site.0) ≡ b → b ≡ false → kept joins place (Some move) ≡ Some move
  other-by move b e none = ap (λ (c : Bool). (let found : Option Mapping = cond (not (c && is_left move.kind)) (Some move) None in found)) (e ∙ none)

  pub other-case : (move : Option Mapping) → (place.site == site.0) ≡ false → kept joins place move ≡ move
  other-case None none = refl
  other-case (Some move) none = other-by move (place.site == site.0) refl none

  in-by : (kind : MoveKind) (generation : ℕ) (b : Bool) → (place.site == site.0) ≡ b → (let move : Option Mapping = Some (record { kind = kind; generation = generation }) in touch_of true row (kept joins place move) ≡ touch_of true row move)
  in-by kind generation false e = ap (λ (m : Option Mapping). touch_of true row m) (other-case (Some (record { kind = kind; generation = generation })) e)
  in-by Entered generation true e = ap (λ (c : Bool). (let found : Option Mapping = cond (not (c && false)) (Some (record { kind = Entered; generation = generation })) None in touch_of true row found)) e
  in-by Left generation true e = ap (λ (c : Bool). (let found : Option Mapping = cond (not (c && true)) (Some (record { kind = Left; generation = generation })) None in touch_of true row found)) e

  -- what is inside keeps its touch
  pub in-case : (move : Option Mapping) → touch_of true row (kept joins place move) ≡ touch_of true row move
  in-case None = refl
  in-case (Some move) = in-by move.kind move.generation (place.site == site.0) refl

  out-by : (kind : MoveKind) (generation : ℕ) → (place.site == site.0) ≡ true → touch_of false row (kept joins place (Some (record { kind = kind; generation = generation }))) ≡ 0
  out-by Entered generation e = ap (λ (c : Bool). (let found : Option Mapping = cond (not (c && false)) (Some (record { kind = Entered; generation = generation })) None in touch_of false row found)) e
  out-by Left generation e = ap (λ (c : Bool). (let found : Option Mapping = cond (not (c && true)) (Some (record { kind = Left; generation = generation })) None in touch_of false row found)) e

  -- what is outside has none
  pub out-case : (move : Option Mapping) → (place.site == site.0) ≡ true → touch_of false row (kept joins place move) ≡ 0
  out-case None e = refl
  out-case (Some move) e = out-by move.kind move.generation e
