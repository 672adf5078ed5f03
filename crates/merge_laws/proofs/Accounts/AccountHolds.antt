-- What a version knows after a local change is in its chains, or kept elsewhere, and deletes that it knows are past.
use Rattle.std.specs.Prelude.{◌≡◌, ◌<◌, ◌==◌, ◌||◌, ◌+◌, ℕ, List, ◌∷◌, Bool, true, false, refl, flat_map, length, map}
use Rattle.std.specs.List.{AllZip, enumerate_from, list_any, range_with_len}
use Rattle.std.proofs.Common.{arith, subst, sym}
use Rattle.std.proofs.lemmas.Bool.Decides.{nat_tests}
use Rattle.merge_types.specs.declared.identifiers.Dot.{Dot}
use Rattle.merge_units.specs.declared.version.Cell.{Cell}
use Rattle.merge_model.specs.History.{Chains, MadeChange, OfCells, OfDead, Past, has}
use Rattle.merge_model.specs.Tables.Keys.{has_key}
use Rattle.merge_model.specs.History.Pasts.{all_chains, cell_chains, chain_after, deleted_past, inserted_past, updated_past}
use Rattle.merge_model.specs.Laws.Promises.{InCell, InRow, Place, descends}
use Rattle.merge_types.specs.declared.row_key.RowKey.{RowKey as Key}
use Rattle.merge_laws.specs.Facts.Accounts.{CellGrown, Ends, Holds, is_kept_elsewhere, is_made_at, is_past, makes}
use Rattle.merge_laws.specs.Facts.Knowledge.{same_dot}
use Rattle.merge_laws.proofs.Accounts.AccountChains.{fresh-at, set-kept}
use Rattle.merge_laws.proofs.Accounts.AccountChanges.{all-set, chain-in-all, changed-has, changed-keeps, new-at}
use Rattle.merge_laws.proofs.Known.ChangeDots.{AreDistinct}
use Rattle.merge_laws.proofs.Known.Knowing.{IsFresh}
use Rattle.merge_laws.proofs.Pasts.DotTests.{dots-same}

-- a row that lives
abbrev pub AreCells : Chains → Type 0
AreCells (OfCells chains) = Unit {0}
AreCells (OfDead chain) = ⊥

plus-none : (k : ℕ) → k ≡ 0 + k
plus-none k = omega arith

module _ (made : List MadeChange) (c : MadeChange) (key : Key) (fresh : IsFresh made c.dot) where
  -- a place that was made was made by this change, or before
  pub made-now : (dot : Dot) (place : Place) → same_dot c.dot dot ≡ true → is_made_at (c ∷ made) key dot place ≡ true → makes c place ≡ true
  made-now dot place same is =
      let before : is_made_at made key dot place ≡ false = subst (λ (x : Dot). is_made_at made key x place ≡ false) (dots-same c.dot dot same) (fresh-at made key c.dot place fresh) in
      grind (arith, before, is)

  pub made-before : (dot : Dot) (place : Place) → same_dot c.dot dot ≡ false → is_made_at (c ∷ made) key dot place ≡ true → is_made_at made key dot place ≡ true
  made-before dot place other is = grind (arith, other, is)

  known-before : (known : List Dot) (dot : Dot) → same_dot c.dot dot ≡ false → has (c.dot ∷ known) dot ≡ true → has known dot ≡ true
  known-before known dot other is = grind (arith, other, is)

  module _ (lost : List (ℕ × (Key × Past))) (purged : List Key) where
    -- a new row
    inserted-place : (count : ℕ) (place : Place) → c.deletes ≡ false → c.cells ≡ range_with_len 0 count → makes c place ≡ true → descends (inserted_past c.dot count).chains place c.dot ≡ true
    inserted-place count InRow live cells does = absurd (grind (arith, live, does))
    inserted-place count (InCell k) live cells does =
        let within : list_any (λ (cell : ℕ). cell == k) (range_with_len 0 count) ≡ true = subst (λ (xs : List ℕ). list_any (λ (cell : ℕ). cell == k) xs ≡ true) cells (grind (arith, does)) in
        subst (λ (chain : List Dot). has chain c.dot ≡ true) (sym (new-at c.dot 0 0 count k (subst (λ (n : ℕ). list_any (λ (cell : ℕ). cell == n) (range_with_len 0 count) ≡ true) (plus-none k) within))) (grind (arith, nat_tests))

    pub inserted-holds : (count : ℕ) → c.deletes ≡ false → c.cells ≡ range_with_len 0 count → Holds (c ∷ made) lost purged key (inserted_past c.dot count)
    inserted-holds count live cells dot place is known =
        let same : same_dot c.dot dot ≡ true = grind (arith, known) in
        let own : descends (inserted_past c.dot count).chains place dot ≡ true =
        subst (λ (x : Dot). descends (inserted_past c.dot count).chains place x ≡ true) (dots-same c.dot dot same) (inserted-place count place live cells (made-now dot place same is)) in
        grind (arith, own)

    -- an update
    updated-place : (cells : List ℕ) (chains : List (List Dot)) (place : Place) → c.deletes ≡ false → c.cells ≡ cells → ((k : ℕ) → list_any (λ (cell : ℕ). cell == k) cells ≡ true → k < length chains) → makes c place ≡ true
        → descends (OfCells (map (chain_after c.dot cells) (enumerate_from 0 chains))) place c.dot ≡ true
    updated-place cells chains InRow live same within does = absurd (grind (arith, live, does))
    updated-place cells chains (InCell k) live same within does =
        let set : list_any (λ (cell : ℕ). cell == k) cells ≡ true = subst (λ (xs : List ℕ). list_any (λ (cell : ℕ). cell == k) xs ≡ true) same (grind (arith, does)) in
        changed-has c.dot cells 0 chains k (within k set) (subst (λ (n : ℕ). list_any (λ (cell : ℕ). cell == n) cells ≡ true) (plus-none k) set)

    updated-keeps : (cells : List ℕ) (chains : List (List Dot)) (place : Place) (dot : Dot) → descends (OfCells chains) place dot ≡ true → descends (OfCells (map (chain_after c.dot cells) (enumerate_from 0 chains))) place dot ≡ true
    updated-keeps cells chains InRow dot is = is
    updated-keeps cells chains (InCell k) dot is = changed-keeps c.dot cells 0 chains k dot is

    pub updated-holds : (cells : List ℕ) (known : List Dot) (chains : Chains) → AreCells chains → c.deletes ≡ false → c.cells ≡ cells → ((k : ℕ) → list_any (λ (cell : ℕ). cell == k) cells ≡ true → k < length (cell_chains chains))
        → Holds made lost purged key (record { known = known; chains = chains }) → Holds (c ∷ made) lost purged key (updated_past c.dot cells (record { known = known; chains = chains }))
    updated-holds cells known (OfDead chain) lives live same within holds dot place is more = absurd lives
    updated-holds cells known (OfCells chains) lives live same within holds dot place is more = by-test (same_dot c.dot dot) refl
      where
        by-test : (b : Bool) → same_dot c.dot dot ≡ b → (descends (OfCells (map (chain_after c.dot cells) (enumerate_from 0 chains))) place dot || is_kept_elsewhere lost purged key place dot) ≡ true
        by-test true e =
            let own : descends (OfCells (map (chain_after c.dot cells) (enumerate_from 0 chains))) place dot ≡ true =
            subst (λ (x : Dot). descends (OfCells (map (chain_after c.dot cells) (enumerate_from 0 chains))) place x ≡ true) (dots-same c.dot dot e) (updated-place cells chains place live same within (made-now dot place e is)) in
            grind (arith, own)
        by-test false e =
            let old = holds dot place (made-before dot place e is) (known-before known dot e more) in
            let keeps : descends (OfCells chains) place dot ≡ true → descends (OfCells (map (chain_after c.dot cells) (enumerate_from 0 chains))) place dot ≡ true = updated-keeps cells chains place dot in
            grind (arith, old, keeps)

    -- a delete
    deleted-keeps : (chains : List (List Dot)) (place : Place) (dot : Dot) → descends (OfCells chains) place dot ≡ true → has (c.dot ∷ flat_map (λ (chain : List Dot). chain) chains) dot ≡ true
    deleted-keeps chains InRow dot is = absurd cc
    deleted-keeps chains (InCell k) dot is = grind (arith, chain-in-all chains k dot is)

    pub deleted-holds : (known : List Dot) (chains : Chains) → AreCells chains → Holds made lost purged key (record { known = known; chains = chains }) → Holds (c ∷ made) lost purged key (deleted_past c.dot (record { known = known; chains = chains }))
    deleted-holds known (OfDead chain) lives holds dot place is more = absurd lives
    deleted-holds known (OfCells chains) lives holds dot place is more = by-test (same_dot c.dot dot) refl
      where
        by-test : (b : Bool) → same_dot c.dot dot ≡ b → (has (c.dot ∷ flat_map (λ (chain : List Dot). chain) chains) dot || is_kept_elsewhere lost purged key place dot) ≡ true
        by-test true e = grind (arith, e)
        by-test false e =
            let old = holds dot place (made-before dot place e is) (known-before known dot e more) in
            let keeps : descends (OfCells chains) place dot ≡ true → has (c.dot ∷ flat_map (λ (chain : List Dot). chain) chains) dot ≡ true = deleted-keeps chains place dot in
            grind (arith, old, keeps)

    -- The deletes that it knows.
    pub inserted-ends : (here : Past) (count : ℕ) → c.deletes ≡ false → Ends (c ∷ made) purged here key (inserted_past c.dot count)
    inserted-ends here count live dot is known =
        let same : same_dot c.dot dot ≡ true = grind (arith, known) in
        let row : makes c InRow ≡ true = made-now dot InRow same is in
        absurd (grind (arith, live, row))

    pub updated-ends : (here : Past) (cells : List ℕ) (known : List Dot) (chains : Chains) → AreCells chains → c.deletes ≡ false → Ends made purged here key (record { known = known; chains = chains })
        → Ends (c ∷ made) purged here key (updated_past c.dot cells (record { known = known; chains = chains }))
    updated-ends here cells known (OfDead chain) lives live ends dot is more = absurd lives
    updated-ends here cells known (OfCells chains) lives live ends dot is more = by-test (same_dot c.dot dot) refl
      where
        by-test : (b : Bool) → same_dot c.dot dot ≡ b → (false || (is_past here dot || has_key purged key)) ≡ true
        by-test true e = let row : makes c InRow ≡ true = made-now dot InRow e is in absurd (grind (arith, live, row))
        by-test false e = ends dot (made-before dot InRow e is) (known-before known dot e more)

    pub deleted-ends : (here : Past) (known : List Dot) (chains : Chains) → AreCells chains → Ends made purged here key (record { known = known; chains = chains }) → Ends (c ∷ made) purged here key (deleted_past c.dot (record { known = known; chains = chains }))
    deleted-ends here known (OfDead chain) lives ends dot is more = absurd lives
    deleted-ends here known (OfCells chains) lives ends dot is more = by-test (same_dot c.dot dot) refl
      where
        by-test : (b : Bool) → same_dot c.dot dot ≡ b → (has (c.dot ∷ flat_map (λ (chain : List Dot). chain) chains) dot || (is_past here dot || has_key purged key)) ≡ true
        by-test true e = grind (arith, e)
        by-test false e = let old = ends dot (made-before dot InRow e is) (known-before known dot e more) in grind (arith, old)

  -- What is past at the publisher, whose row this is.
  pub updated-past : (cells : List ℕ) (past : Past) (dot : Dot) → is_past past dot ≡ true → is_past (updated_past c.dot cells past) dot ≡ true
  updated-past cells past dot is = grind (arith, is)

  pub held-past : (body : List Cell) (known : List Dot) (chains : Chains) (hs : List (List Dot)) → AreDistinct made → chains ≡ OfCells hs → AllZip (CellGrown made) body hs → (dot : Dot) → is_made_at made key dot InRow ≡ true
      → is_past (record { known = known; chains = chains }) dot ≡ true → is_past (deleted_past c.dot (record { known = known; chains = chains })) dot ≡ true
  held-past body known chains hs distinct lives grown dot deleted is = by-test (same_dot c.dot dot) (has (flat_map (λ (chain : List Dot). chain) hs) dot) refl refl
    where
      by-test : (b d : Bool) → same_dot c.dot dot ≡ b → has (flat_map (λ (chain : List Dot). chain) hs) dot ≡ d → is_past (deleted_past c.dot (record { known = known; chains = chains })) dot ≡ true
      by-test true d e f =
          let no : is_made_at made key dot InRow ≡ false = subst (λ (x : Dot). is_made_at made key x InRow ≡ false) (dots-same c.dot dot e) (fresh-at made key c.dot InRow fresh) in
          absurd (grind (arith, no, deleted))
      by-test false true e f =
          let no : is_made_at made key dot InRow ≡ false = set-kept made key dot distinct (all-set made body hs grown dot f) in
          absurd (grind (arith, no, deleted))
      by-test false false e f =
          let all : has (all_chains chains) dot ≡ false = subst (λ (x : Chains). has (all_chains x) dot ≡ false) (sym lives) f in
          grind (arith, e, all, is)
