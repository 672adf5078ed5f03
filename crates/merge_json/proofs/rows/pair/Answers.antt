use Rattle.std.proofs.Common.{◌≡◌, ◌<◌, ◌≤◌, List, [], ◌∷◌, length, None, refl, arith}
use Rattle.serde_json.specs.View.{items_view}
use Rattle.serde_json.specs.declared.value.Value.{Value}
use Rattle.merge_json.specs.Rows.{pair_at}
use Rattle.merge_json.proofs.rows.pair.Goals as goal

too_few : (vs : List Value) → length vs < 2 → pair_at (items_view vs) ≡ None
too_few [] lt = refl
too_few (v ∷ []) lt = refl
too_few (v ∷ w ∷ vs) lt = absurd (omega (arith, lt))

too_many : (vs : List Value) → 3 ≤ length vs → pair_at (items_view vs) ≡ None
too_many [] le = refl
too_many (v ∷ []) le = refl
too_many (v ∷ w ∷ []) le = absurd (omega (arith, le))
too_many (v ∷ w ∷ u ∷ vs) le = refl

pub returns-in_default : goal.returns-in_default
returns-in_default c = too_few c.args.values.now c.in_default.len_below

pub returns-in_default-2 : goal.returns-in_default-2
returns-in_default-2 c = too_many c.args.values.now c.in_default.len_at_least
