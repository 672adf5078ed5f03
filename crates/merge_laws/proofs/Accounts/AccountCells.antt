-- What becomes of the chains of two live versions that are merged, cell by cell.
use Rattle.std.specs.Prelude.{◌≡◌, ◌&&◌, ◌||◌, ℕ, zero, suc, List, [], ◌∷◌, Bool, true, false, not, refl, drop, length, map, take}
use Rattle.std.specs.List.{AllZip, list_any, zip}
use Rattle.std.proofs.Common.{arith}
use Rattle.merge_types.specs.declared.identifiers.Dot.{Dot}
use Rattle.merge_types.specs.declared.values.Value.{Value}
use Rattle.merge_units.specs.Cases.{is_both, side_by}
use Rattle.merge_units.specs.Results.{decided_cell, result_cell, result_cells, taken}
use Rattle.merge_units.specs.declared.case.Side.{Side}
use Rattle.merge_units.specs.declared.case.Side.TheVariants as side
use Rattle.merge_units.specs.declared.result.Decision.{Decision}
use Rattle.merge_units.specs.declared.result.Decision.TheVariants.{Custom, KeepPublisher, TakeSubscriber}
use Rattle.merge_units.specs.declared.version.Cell.{Cell}
use Rattle.merge_units.specs.Version.{Knowing}
use Rattle.merge_units.specs.Cases.{side_of}
use Rattle.merge_model.specs.History.{MadeChange, has}
use Rattle.merge_model.specs.History.Pasts.{merged_chain, merged_chains}
use Rattle.merge_laws.specs.Facts.Accounts.{CellGrown}
use Rattle.merge_laws.proofs.Accounts.AccountChains.{chain_at}

-- what a decision loses, by what each side descends from
abbrev pub loses : Decision → Bool → Bool → Bool
loses KeepPublisher ours theirs = theirs
loses TakeSubscriber ours theirs = ours
loses (Custom values) ours theirs = ours || theirs

-- One cell. On a side without news the other side knows the chain.
module _ (new : Dot) (mine yours : List Dot) (d : Dot) (p i t : Bool) (holds_p : p ≡ true → (has mine d || t) ≡ true) (holds_i : i ≡ true → (has yours d || t) ≡ true) (known : (p || i) ≡ true) where
  either : (has mine d || (has yours d || t)) ≡ true
  either = grind (arith, holds_p, holds_i, known)

  kept-mine : (lost : Bool) → (has yours d ≡ true → p ≡ true) → (has mine d || (lost || t)) ≡ true
  kept-mine lost up = grind (arith, holds_p, holds_i, known, up)

  kept-yours : (lost : Bool) → (has mine d ≡ true → i ≡ true) → (has yours d || (lost || t)) ≡ true
  kept-yours lost up = grind (arith, holds_p, holds_i, known, up)

  both-kept : (decision : Decision) → (has (merged_chain new decision side.Both mine yours) d || (loses decision (has mine d) (has yours d) || t)) ≡ true
  both-kept KeepPublisher = either
  both-kept TakeSubscriber = grind (arith, either)
  both-kept (Custom values) = grind (arith, either)

  mine-kept : (s : Side) (lost : Bool) (decision : Decision) → merged_chain new decision s mine yours ≡ mine → (has yours d ≡ true → p ≡ true) → (has (merged_chain new decision s mine yours) d || (lost || t)) ≡ true
  mine-kept s lost decision is up = grind (arith, is, kept-mine lost up)

  publishers : (decision : Decision) → merged_chain new decision side.Publisher mine yours ≡ mine
  publishers KeepPublisher = refl
  publishers TakeSubscriber = refl
  publishers (Custom values) = refl

  neithers : (decision : Decision) → merged_chain new decision side.Neither mine yours ≡ mine
  neithers KeepPublisher = refl
  neithers TakeSubscriber = refl
  neithers (Custom values) = refl

  pub cell-holds : (long a b conflict : Bool) (decision : Decision) → (conflict ≡ false → is_both (side_by long a b) ≡ false) → (a ≡ false → has mine d ≡ true → i ≡ true) → (b ≡ false → has yours d ≡ true → p ≡ true)
      → (has (merged_chain new decision (side_by long a b) mine yours) d || ((conflict && loses decision (has mine d) (has yours d)) || t)) ≡ true
  unfolding side_by
  cell-holds true a b true decision none up_i up_p = both-kept decision
  cell-holds true a b false decision none up_i up_p = absurd (grind (arith, none))
  cell-holds false true true true decision none up_i up_p = both-kept decision
  cell-holds false true true false decision none up_i up_p = absurd (grind (arith, none))
  cell-holds false true false conflict decision none up_i up_p = mine-kept side.Publisher (conflict && loses decision (has mine d) (has yours d)) decision (publishers decision) (up_p refl)
  cell-holds false false true conflict decision none up_i up_p = kept-yours (conflict && loses decision (has mine d) (has yours d)) (up_i refl)
  cell-holds false false false conflict decision none up_i up_p = mine-kept side.Neither (conflict && loses decision (has mine d) (has yours d)) decision (neithers decision) (up_p refl)

-- The cells.

-- with one chain for each, on both sides
abbrev pub AreFour : List Cell → List (List Dot) → List Cell → List (List Dot) → Type 0
AreFour [] [] [] [] = Unit {0}
AreFour (p ∷ ours) (x ∷ mine) (i ∷ theirs) (y ∷ yours) = AreFour ours mine theirs yours
AreFour ours mine theirs yours = ⊥

module _ (made : List MadeChange) where
  pub are-four : (ours : List Cell) (mine : List (List Dot)) (theirs : List Cell) (yours : List (List Dot)) → AllZip (CellGrown made) ours mine → AllZip (CellGrown made) theirs yours → length mine ≡ length yours → AreFour ours mine theirs yours
  are-four [] [] [] [] one other same = tt
  are-four (p ∷ ours) (x ∷ mine) (i ∷ theirs) (y ∷ yours) one other same = are-four ours mine theirs yours one.1 other.1 (omega (arith, same))
  are-four [] [] (i ∷ theirs) (y ∷ yours) one other same = absurd (omega (arith, same))
  are-four (p ∷ ours) (x ∷ mine) [] [] one other same = absurd (omega (arith, same))
  are-four [] (x ∷ mine) theirs yours one other same = absurd one
  are-four (p ∷ ours) [] theirs yours one other same = absurd one
  are-four [] [] [] (y ∷ yours) one other same = absurd other
  are-four [] [] (i ∷ theirs) [] one other same = absurd other
  are-four (p ∷ ours) (x ∷ mine) [] (y ∷ yours) one other same = absurd other
  are-four (p ∷ ours) (x ∷ mine) (i ∷ theirs) [] one other same = absurd other

-- on a side without news the other side knows the chain of each cell
abbrev pub Follows : Knowing → List Cell → List (List Dot) → Dot → Bool → Type 0
Follows there [] [] d known = Unit {0}
Follows there (cell ∷ cells) (chain ∷ chains) d known = (not (there cell.top) ≡ false → has chain d ≡ true → known ≡ true) × Follows there cells chains d known
Follows there cells chains d known = Unit {0}

module _ (here there : Knowing) (new d : Dot) (decision : Decision) (conflict long : Bool) (p i t : Bool) (known : (p || i) ≡ true) where
  pub cells-hold : (ours : List Cell) (mine : List (List Dot)) (theirs : List Cell) (yours : List (List Dot)) (k : ℕ) → AreFour ours mine theirs yours
      → (conflict ≡ false → list_any is_both (map (side_of long here there) (zip ours theirs)) ≡ false) → Follows there ours mine d i → Follows here theirs yours d p
      → (p ≡ true → (has (chain_at mine k) d || t) ≡ true) → (i ≡ true → (has (chain_at yours k) d || t) ≡ true)
      → (has (chain_at (merged_chains new decision (map (side_of long here there) (zip ours theirs)) mine yours) k) d || ((conflict && loses decision (has (chain_at mine k) d) (has (chain_at yours k) d)) || t)) ≡ true
  cells-hold [] [] [] [] k four none up_i up_p holds_p holds_i = grind (arith, holds_p, holds_i, known)
  cells-hold (o ∷ ours) (x ∷ mine) (e ∷ theirs) (y ∷ yours) zero four none up_i up_p holds_p holds_i =
      cell-holds new x y d p i t holds_p holds_i known long (not (there o.top)) (not (here e.top)) conflict decision (λ is. (let no = none is in grind (arith, no))) up_i.0 up_p.0
  cells-hold (o ∷ ours) (x ∷ mine) (e ∷ theirs) (y ∷ yours) (suc k) four none up_i up_p holds_p holds_i =
      cells-hold ours mine theirs yours k four (λ is. (let no = none is in grind (arith, no))) up_i.1 up_p.1 holds_p holds_i
  cells-hold [] (x ∷ mine) theirs yours k four none up_i up_p holds_p holds_i = absurd four
  cells-hold (o ∷ ours) [] theirs yours k four none up_i up_p holds_p holds_i = absurd four
  cells-hold [] [] (e ∷ theirs) yours k four none up_i up_p holds_p holds_i = absurd four
  cells-hold [] [] [] (y ∷ yours) k four none up_i up_p holds_p holds_i = absurd four
  cells-hold (o ∷ ours) (x ∷ mine) [] yours k four none up_i up_p holds_p holds_i = absurd four
  cells-hold (o ∷ ours) (x ∷ mine) (e ∷ theirs) [] k four none up_i up_p holds_p holds_i = absurd four

-- The cells of the result.
module _ (made : List MadeChange) (new : Dot) where
  -- a decided cell
  abbrev pub OwnGrown : Decision → Type 0
  OwnGrown (Custom values) = (others : List Value) → CellGrown made (decided_cell new others) (new ∷ [])
  OwnGrown decision = Unit {0}

  result-grown : (decision : Decision) (values : List Value) (s : Side) (o e : Cell) (x y : List Dot) → OwnGrown decision → CellGrown made o x → CellGrown made e y → CellGrown made (result_cell new decision values s o e) (merged_chain new decision s x y)
  result-grown KeepPublisher values side.Incoming o e x y own one other = other
  result-grown TakeSubscriber values side.Incoming o e x y own one other = other
  result-grown (Custom more) values side.Incoming o e x y own one other = other
  result-grown KeepPublisher values side.Both o e x y own one other = one
  result-grown TakeSubscriber values side.Both o e x y own one other = other
  result-grown (Custom more) values side.Both o e x y own one other = own values
  result-grown KeepPublisher values side.Publisher o e x y own one other = one
  result-grown TakeSubscriber values side.Publisher o e x y own one other = one
  result-grown (Custom more) values side.Publisher o e x y own one other = one
  result-grown KeepPublisher values side.Neither o e x y own one other = one
  result-grown TakeSubscriber values side.Neither o e x y own one other = one
  result-grown (Custom more) values side.Neither o e x y own one other = one

  pub results-grown : (here there : Knowing) (long : Bool) (decision : Decision) (values : List Value) (ours : List Cell) (mine : List (List Dot)) (theirs : List Cell) (yours : List (List Dot)) → OwnGrown decision → AreFour ours mine theirs yours
      → AllZip (CellGrown made) ours mine → AllZip (CellGrown made) theirs yours
      → (let sides : List Side = map (side_of long here there) (zip ours theirs) in
      (length (merged_chains new decision sides mine yours) ≡ length mine) × AllZip (CellGrown made) (result_cells new decision values sides ours theirs) (merged_chains new decision sides mine yours))
  results-grown here there long decision values [] [] [] [] own four one other = (refl, tt)
  results-grown here there long decision values (o ∷ ours) (x ∷ mine) (e ∷ theirs) (y ∷ yours) own four one other =
      let s : Side = side_of long here there (o, e) in
      let rest = results-grown here there long decision (drop (taken decision s o) values) ours mine theirs yours own four one.1 other.1 in
      (omega (arith, rest.0), (result-grown decision (take (taken decision s o) values) s o e x y own one.0 other.0, rest.1))
  results-grown here there long decision values [] (x ∷ mine) theirs yours own four one other = absurd four
  results-grown here there long decision values (o ∷ ours) [] theirs yours own four one other = absurd four
  results-grown here there long decision values [] [] (e ∷ theirs) yours own four one other = absurd four
  results-grown here there long decision values [] [] [] (y ∷ yours) own four one other = absurd four
  results-grown here there long decision values (o ∷ ours) (x ∷ mine) [] yours own four one other = absurd four
  results-grown here there long decision values (o ∷ ours) (x ∷ mine) (e ∷ theirs) [] own four one other = absurd four
