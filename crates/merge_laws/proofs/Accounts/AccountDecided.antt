-- Values that are decided: the publisher's change is in the chain of each cell that it made.
use Rattle.std.specs.Prelude.{◌≡◌, ◌≤◌, ◌==◌, ◌&&◌, ◌||◌, ◌+◌, ℕ, zero, suc, List, [], ◌∷◌, Bool, true, false, refl, filter_map, if◌then◌else◌, map}
use Rattle.std.specs.List.{enumerate_from, list_any, zip}
use Rattle.std.proofs.Common.{arith, subst, sym, ◌∙◌}
use Rattle.std.proofs.lemmas.Bool.Decides.{nat_tests}
use Rattle.merge_types.specs.declared.identifiers.Dot.{Dot}
use Rattle.merge_types.specs.declared.values.Value.{Value}
use Rattle.merge_units.specs.Cases.{are_long, is_both, news_case}
use Rattle.merge_units.specs.declared.case.Case.{Case}
use Rattle.merge_units.specs.declared.case.Case.TheVariants as case
use Rattle.merge_units.specs.declared.case.Side.{Side}
use Rattle.merge_units.specs.declared.case.Side.TheVariants as side
use Rattle.merge_units.specs.declared.result.Decision.TheVariants.{Custom}
use Rattle.merge_units.specs.declared.version.Body.{Body}
use Rattle.merge_units.specs.declared.version.Body.TheVariants.{Dead, Live}
use Rattle.merge_units.specs.declared.version.Cell.{Cell}
use Rattle.merge_resolve.specs.Questions.{both_place, conflicting_places}
use Rattle.merge_units.specs.Version.{Knowing}
use Rattle.merge_units.specs.Cases.{bodies_case, side_of, sides_of}
use Rattle.merge_model.specs.History.{Chains, MadeChange, OfCells, OfDead, has}
use Rattle.merge_model.specs.History.Pasts.{chains_by, merged_chain, merged_chains}
use Rattle.merge_model.specs.Laws.Promises.{InCell, descends}
use Rattle.merge_types.specs.declared.row_key.RowKey.{RowKey as Key}
use Rattle.merge_laws.specs.Facts.Accounts.{Grown}
use Rattle.merge_laws.proofs.Accounts.AccountCells.{AreFour, are-four}
use Rattle.merge_laws.proofs.Accounts.AccountChains.{chain_at}

-- the places of conflicting cells, from a place on
abbrev both_from : ℕ → List Side → List ℕ
both_from n sides = filter_map both_place (enumerate_from n sides)

abbrev is_at : ℕ → ℕ → Bool
is_at place cell = cell == place

first-place : (place n : ℕ) (s : Side) (sides : List Side) → list_any (is_at place) (both_from n (s ∷ sides)) ≡ ((is_both s && (n == place)) || list_any (is_at place) (both_from (n + 1) sides))
first-place place n side.Neither sides = refl
first-place place n side.Publisher sides = refl
first-place place n side.Incoming sides = refl
first-place place n side.Both sides = refl

places-above : (place n : ℕ) (sides : List Side) → list_any (is_at place) (both_from n sides) ≡ true → n ≤ place
places-above place n [] is = absurd cc
places-above place n (s ∷ sides) is =
    let rest : list_any (is_at place) (both_from (n + 1) sides) ≡ true → n + 1 ≤ place = places-above place (n + 1) sides in
    grind (arith, nat_tests, first-place place n s sides, is, rest)

own-chain : (new : Dot) (values : List Value) (s : Side) (mine yours : List Dot) → is_both s ≡ true → has (merged_chain new (Custom values) s mine yours) new ≡ true
own-chain new values side.Both mine yours is = grind (arith, nat_tests)
own-chain new values side.Neither mine yours is = absurd cc
own-chain new values side.Publisher mine yours is = absurd cc
own-chain new values side.Incoming mine yours is = absurd cc

module _ (here there : Knowing) (new : Dot) (values : List Value) (long : Bool) where
  own-cell : (n k : ℕ) (ours theirs : List Cell) (mine yours : List (List Dot)) → AreFour ours mine theirs yours → list_any (is_at (n + k)) (both_from n (map (side_of long here there) (zip ours theirs))) ≡ true
      → has (chain_at (merged_chains new (Custom values) (map (side_of long here there) (zip ours theirs)) mine yours) k) new ≡ true
  own-cell n k [] [] [] [] four is = absurd cc
  own-cell n zero (p ∷ ours) (i ∷ theirs) (x ∷ mine) (y ∷ yours) four is =
      let s : Side = side_of long here there (p, i) in
      let later : list_any (is_at (n + 0)) (both_from (n + 1) (map (side_of long here there) (zip ours theirs))) ≡ true → n + 1 ≤ n + 0 = places-above (n + 0) (n + 1) (map (side_of long here there) (zip ours theirs)) in
      own-chain new values s x y (grind (arith, nat_tests, first-place (n + 0) n s (map (side_of long here there) (zip ours theirs)), is, later))
  own-cell n (suc k) (p ∷ ours) (i ∷ theirs) (x ∷ mine) (y ∷ yours) four is =
      let s : Side = side_of long here there (p, i) in
      let rest : list_any (is_at (n + suc k)) (both_from (n + 1) (map (side_of long here there) (zip ours theirs))) ≡ true = grind (arith, nat_tests, first-place (n + suc k) n s (map (side_of long here there) (zip ours theirs)), is) in
      own-cell (n + 1) k ours theirs mine yours four (subst (λ (m : ℕ). list_any (is_at m) (both_from (n + 1) (map (side_of long here there) (zip ours theirs))) ≡ true) (let plus : n + suc k ≡ (n + 1) + k = omega arith in plus) rest)
  own-cell n k [] theirs (x ∷ mine) yours four is = absurd four
  own-cell n k (p ∷ ours) theirs [] yours four is = absurd four
  own-cell n k [] (i ∷ theirs) [] yours four is = absurd four
  own-cell n k [] [] [] (y ∷ yours) four is = absurd four
  own-cell n k (p ∷ ours) [] (x ∷ mine) yours four is = absurd four
  own-cell n k (p ∷ ours) (i ∷ theirs) (x ∷ mine) [] four is = absurd four

module _ (cells : ℕ) (made : List MadeChange) (key : Key) (here there : Knowing) (new : Dot) (values : List Value) (k : ℕ) where
  abbrev Owns : Case → Chains → Chains → Type 0
  Owns c mine yours = list_any (is_at k) (conflicting_places c) ≡ true → descends (chains_by c (Custom values) new mine yours) (InCell k) new ≡ true

  live-own : (ours theirs : List Cell) (mine yours : List (List Dot)) (b : Bool) → AreFour ours mine theirs yours
      → (let c : Case = if b then case.Conflict (sides_of here there ours theirs) else case.Merge (sides_of here there ours theirs) in Owns c (OfCells mine) (OfCells yours))
  live-own ours theirs mine yours true four is =
      own-cell here there new values (are_long ours theirs) 0 k ours theirs mine yours four (subst (λ (m : ℕ). list_any (is_at m) (both_from 0 (sides_of here there ours theirs)) ≡ true) (let plus : k ≡ 0 + k = omega arith in plus) is)
  live-own ours theirs mine yours false four is = absurd cc

  both-own : (ours theirs : Body) (mine yours : Chains) → Grown cells made key ours mine → Grown cells made key theirs yours → Owns (bodies_case here there ours theirs) mine yours
  both-own (Live ours) (Live theirs) (OfCells mine) (OfCells yours) one other is =
      live-own ours theirs mine yours (list_any is_both (sides_of here there ours theirs)) (are-four made ours mine theirs yours one.1 other.1 (one.0 ∙ sym other.0)) is
  both-own (Live ours) (Dead y) mine yours one other is = absurd cc
  both-own (Dead x) (Live theirs) mine yours one other is = absurd cc
  both-own (Dead x) (Dead y) mine yours one other is = absurd cc
  both-own (Live ours) (Live theirs) (OfDead mine) yours one other is = absurd one
  both-own (Live ours) (Live theirs) (OfCells mine) (OfDead yours) one other is = absurd other

  pub case-own : (a b : Bool) (ours theirs : Body) (mine yours : Chains) → Grown cells made key ours mine → Grown cells made key theirs yours → Owns (news_case a b (bodies_case here there ours theirs)) mine yours
  case-own false false ours theirs mine yours one other is = absurd cc
  case-own true false ours theirs mine yours one other is = absurd cc
  case-own false true ours theirs mine yours one other is = absurd cc
  case-own true true ours theirs mine yours one other is = both-own ours theirs mine yours one other is
